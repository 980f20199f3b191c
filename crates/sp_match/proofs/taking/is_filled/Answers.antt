use Rattle.std.proofs.Common.{◌≡◌, ◌+◌, ◌-◌, true, false, sym, ap, ◌∙◌, arith, rules}
use Rattle.std.specs.List.{list_all, range_with_len}
use Rattle.sp_plan.specs.Runs.{is_bound}
use Rattle.sp_match.specs.inside.Kept.{kept, pairs}
use Rattle.sp_match.proofs.Searches.{range_at, range_push, all_more, all_not}
use Rattle.sp_match.proofs.taking.is_filled.Goals as goal

pub returns-then-not-has : goal.returns-then-not-has
returns-then-not-has c =
    let first = c.span-first.result.0 in
    let p = is_bound (pairs (kept c.args.run.now)) in
    let i = c.loop-name.name - first in
    let past = c.span-first.result.1 in
    let e : first + i ≡ c.loop-name.name = omega arith in
    let fails : p (first + i) ≡ false = ap p e ∙ search rules in
    sym (ap (list_all p) (c.span-first.ensures.names ∙ range_at first (past - first) i (omega arith)) ∙ all_not p (range_with_len first i) _ (first + i) c.loop-name.invariant fails)

pub loop-name-preserved : goal.loop-name-preserved
loop-name-preserved c =
    let first = c.span-first.result.0 in
    let p = is_bound (pairs (kept c.args.run.now)) in
    let i = c.loop-name.name - first in
    let e : first + i ≡ c.loop-name.name = omega arith in
    let f : c.loop-name.name + 1 - first ≡ i + 1 = omega arith in
    let holds : p (first + i) ≡ true = ap p e ∙ search rules in
    ap (λ n. list_all p (range_with_len first n)) f ∙ ap (list_all p) (range_push first i) ∙ all_more p (range_with_len first i) (first + i) c.loop-name.invariant holds
