use Rattle.std.proofs.Common.{◌≡◌, ◌&&◌, map, length, get_or, sym, ap, ◌∙◌, arith}
use Rattle.std.proofs.lemmas.List.{length-map}
use Rattle.sp_plan.specs.Held.{held_columns}
use Rattle.sp_plan.specs.Masks.{has, outcome}
use Rattle.sp_match.specs.inside.Kept.{kept, pairs}
use Rattle.sp_match.proofs.RunsAreHeld.{bound_of, bound_small, columns_at, under_told}
use Rattle.sp_match.proofs.takers.takers_under.Goals as goal

pub holding-requires-clause-bound : goal.holding-requires-clause-bound
holding-requires-clause-bound c = bound_small c.args.plan.now c.args.runs.now c.requires.good

pub holding-requires-clause-held : goal.holding-requires-clause-held
holding-requires-clause-held c =
    let q = c.args.plan.now in
    let rs = map pairs (map kept c.args.runs.now) in
    let d = c.index-as_slice-name.result in
    c.deref.ensures.value ∙ sym (ap (λ h. h.columns.items) c.index-held-name-2.is) ∙ columns_at q rs c.args.held.now c.requires.held c.args.name c.requires.named c.index-held-name-2.result d c.index-held-name-2.is
    ∙ (λ i. held_columns (get_or (sym c.as_slice.ensures i) c.args.name d).pred (sym (bound_of q c.args.runs.now c.requires.good) i))

pub returns : goal.returns
returns c =
    let q = c.args.plan.now in
    let e = c.args.event.now in
    let rs = map pairs (map kept c.args.runs.now) in
    let d = c.index-as_slice-name.result in
    let h = c.index-held-name.result in
    let long : length rs ≡ length c.args.runs.now = length-map (map kept c.args.runs.now) pairs ∙ length-map c.args.runs.now kept in
    λ at within. under_told q rs c.args.held.now c.requires.held c.args.name c.requires.named e h d c.holding.result c.index-held-name.is
    (λ i there. c.holding.ensures.holds i (omega (arith, there, long)) ∙ (λ k. has (sym c.index-held-name.is k).wanting i && outcome (get_or (c.as_slice.ensures k) c.args.name d).pred e (bound_of q c.args.runs.now c.requires.good k) i)) at (omega (arith, within, long))
