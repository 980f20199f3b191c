use Rattle.std.proofs.Common.{◌≡◌, ℕ, ◌+◌, ◌<◌, ◌++◌, List, [], ◌∷◌, length, map, take, drop, sym, ap, ◌∙◌, subst, arith, rules}
use Rattle.std.specs.Arc.{arc_value}
use Rattle.std.proofs.lemmas.List.{take_at, map-append}
use Rattle.sp_plan.specs.declared.plan.Plan.{Plan}
use Rattle.sp_plan.specs.Windows.{closed}
use Rattle.sp_listing.specs.Listing.{seen}
use Rattle.sp_cert.specs.Flags.{AreFlags}
use Rattle.sp_cert.specs.Proofs.{entry_of, first_proofs}
use Rattle.sp_cert.specs.Spans.{IsSpan}
use Rattle.sp_cert.proofs.Making.{Proving, proving_more}
use Rattle.sp_cert.proofs.proving.prove.Goals as goal

pub loop-count-preserved : goal.loop-count-preserved
loop-count-preserved c =
    let q = arc_value c.args.plan in
    let events = c.args.events.now in
    let windows = c.in_ok-windows.windows in
    let known = c.in_ok-windows.ensures in
    let n = c.loop-count.count in
    let now = c.loop-count.invariant in
    let flags = c.loop-count.consumed.items in
    let flags' = c.set_flags.new.flags in
    let proof = c.in_ok-proof.proof in
    let own = c.in_ok-own.own.items in
    let span = c.span_of-span.result in
    let closed_is : c.closed-count-end.result ≡ closed q events c.args.ended =
    c.closed-count-end.ensures events windows.ended known.windows.stands ∙ (λ i. closed ((known.windows.plan_is ∙ c.in_ok-clone.ensures.cases) i) events (known.ended i)) in
    let low : n < closed q events c.args.ended = omega (arith, c.loop-count-test.true, closed_is) in
    let its : IsSpan q events (n + 1) span.first span.last = subst (λ (p : Plan). IsSpan p events (n + 1) span.first span.last) c.deref.ensures c.span_of-span.ensures in
    let made : (before : List ℕ) → AreFlags 1 before flags → seen proof ≡ entry_of (n + 1) span.first span.last before own = λ before are. c.in_ok-proof.ensures before (subst (AreFlags 1 before) (sym c.deref-in-loop-count.ensures.value) are) in
    let size : length flags' ≡ length flags = search rules in
    let whole : take c.loop-count.consumed.len (flags' ++ drop (length flags') flags) ≡ flags' = take_at flags' (drop (length flags') flags) c.loop-count.consumed.len (search (rules, size)) in
    let set : (before : List ℕ) → AreFlags 1 before flags → AreFlags 1 (before ++ proof.used.list) flags' = λ before are.
    subst (λ l. AreFlags 1 (before ++ l) flags') c.list.ensures.list (c.set_flags.ensures before (subst (AreFlags 1 before) (sym c.deref_mut.ensures.value) are)) in
    let all = proving_more q c.requires.compiled.windowed events c.args.ended (c.requires.fit, c.requires.ordered) c.args.matches.items n (map seen c.loop-count.proofs.items) c.loop-count.rest.items flags low now own c.take_matches.new.rest.items (seen proof) span.first span.last flags' c.in_ok-own.ensures its made set size in
    let pushed : map seen c.push.new.self.items ≡ map seen c.loop-count.proofs.items ++ seen proof ∷ [] = ap (map seen) c.in_ok-push.ensures.items ∙ map-append seen c.loop-count.proofs.items (proof ∷ []) in
    subst (λ l. Proving q events c.args.ended c.args.matches.items (n + 1) l c.take_matches.new.rest.items (take c.loop-count.consumed.len (flags' ++ drop (length flags') flags))) (sym pushed)
    (subst (λ l. Proving q events c.args.ended c.args.matches.items (n + 1) (map seen c.loop-count.proofs.items ++ seen proof ∷ []) c.take_matches.new.rest.items l) (sym whole) all)

pub returns : goal.returns
returns c = λ given.
    let q = arc_value c.args.plan in
    let events = c.args.events.now in
    let known = c.in_ok-windows.ensures in
    let closed_is : c.closed-count-end.result ≡ closed q events c.args.ended =
    c.closed-count-end.ensures events c.in_ok-windows.windows.ended known.windows.stands ∙ (λ i. closed ((known.windows.plan_is ∙ c.in_ok-clone.ensures.cases) i) events (known.ended i)) in
    let all : c.loop-count.count ≡ closed q events c.args.ended = omega (arith, c.loop-count-test.false, closed_is) in
    (c.loop-count.invariant.proved given).are ∙ ap (first_proofs q events) all
