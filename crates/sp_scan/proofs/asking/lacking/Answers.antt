use Rattle.std.proofs.Common.{◌≡◌, ℕ, ◌+◌, ◌-◌, ◌&&◌, [], ◌∷◌, ◌++◌, true, false, not, None, sym, ap, ◌∙◌, arith, rules}
use Rattle.std.specs.List.{find, filter, range_with_len}
use Rattle.sp_plan.specs.Runs.{is_bound, name_holds}
use Rattle.sp_scan.proofs.Searching.{range_at, range_push, find_filter, found_next, fails_next}
use Rattle.sp_scan.proofs.asking.lacking.Goals as goal

pub returns-then-fulfils : goal.returns-then-fulfils
returns-then-fulfils c =
    let r = c.args.pairs.now in
    let p = name_holds c.args.offer.now.plan.now r c.args.offer.now.event.now in
    let t = λ (n : ℕ). not (is_bound r n) in
    let first = c.span-first.result.0 in
    let past = c.span-first.result.1 in
    let name = c.loop-name.name in
    let none : find (λ n. t n && p n) (range_with_len first (name - first)) ≡ None = sym (find_filter p t (range_with_len first (name - first))) ∙ c.loop-name.invariant in
    let holds : (t name && p name) ≡ true = search rules in
    sym (ap (λ ns. find p (filter t ns)) (c.span-first.ensures.names ∙ range_at first name past (omega arith) (omega arith))
    ∙ find_filter p t (range_with_len first (name - first) ++ name ∷ range_with_len (name + 1) (past - name - 1))
    ∙ found_next (λ n. t n && p n) (range_with_len first (name - first)) (range_with_len (name + 1) (past - name - 1)) name none holds)

pub loop-name-preserved : goal.loop-name-preserved
loop-name-preserved c =
    let r = c.args.pairs.now in
    let p = name_holds c.args.offer.now.plan.now r c.args.offer.now.event.now in
    let t = λ (n : ℕ). not (is_bound r n) in
    let first = c.span-first.result.0 in
    let name = c.loop-name.name in
    let none : find (λ n. t n && p n) (range_with_len first (name - first)) ≡ None = sym (find_filter p t (range_with_len first (name - first))) ∙ c.loop-name.invariant in
    let fails : (t name && p name) ≡ false = search rules in
    ap (λ ns. find p (filter t ns)) (range_push first name (omega arith)) ∙ find_filter p t (range_with_len first (name - first) ++ name ∷ []) ∙ fails_next (λ n. t n && p n) (range_with_len first (name - first)) name none fails
