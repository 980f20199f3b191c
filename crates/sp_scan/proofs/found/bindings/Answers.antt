use Rattle.std.proofs.Common.{◌-◌, ℕ, List, [], ◌∷◌, ◌++◌, sym, ap, ◌∙◌, append_assoc, arith}
use Rattle.std.specs.Prelude.{map}
use Rattle.std.specs.List.{range_with_len}
use Rattle.std.proofs.lemmas.List.{map_push}
use Rattle.sp_plan.specs.declared.plan.Element.TheVariants.{One}
use Rattle.sp_plan.specs.Runs.{numbers_under}
use Rattle.sp_scan.proofs.NamedElements.{named_at}
use Rattle.sp_scan.proofs.Searching.{range_push}
use Rattle.sp_scan.proofs.found.bindings.Goals as goal

pub span-first-requires : goal.span-first-requires
span-first-requires c = named_at c.args.plan.now c.as_slice-element-items.result.now c.loop-element.element-index (One 0) c.requires c.as_slice-element-items.ensures c.loop-element-test.true

pub loop-name-preserved : goal.loop-name-preserved
loop-name-preserved c =
    let r = c.args.pairs.now in
    let first = c.span-first.result.0 in
    let name = c.loop-name.name in
    let before = c.loop-element.list.items in
    let own : ℕ → ℕ × List ℕ = λ name. (name, numbers_under r name) in
    let so_far = range_with_len first (name - first) in
    c.in_ok-push.ensures.items ∙ (λ i. c.loop-name.invariant i ++ (name, (c.of.ensures ∙ c.in_ok-numbers_under.ensures) i) ∷ []) ∙ append_assoc before (map own so_far) (own name ∷ [])
    ∙ ap (λ (l : List (ℕ × List ℕ)). before ++ l) (sym (map_push own so_far name) ∙ ap (map own) (sym (range_push first name (omega arith))))
