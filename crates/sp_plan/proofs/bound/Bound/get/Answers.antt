use Rattle.std.proofs.Common.{ℕ, Some, None, sym, ◌∙◌, ap}
use Rattle.std.specs.Option.{option_map, option_copied}
use Rattle.sp_plan.specs.declared.event.Event.{Event}
use Rattle.sp_plan.specs.Values.{BoundEvents, last_bound}
use Rattle.sp_plan.specs.Blocks.{seen}
use Rattle.sp_plan.proofs.Blocks.{last_seen}
use Rattle.sp_plan.proofs.bound.Bound.get.Goals as goal

pub returns-in-Some : goal.returns-in-Some
returns-in-Some c =
    let pairs = c.self.inside.pairs in
    let found = sym (ap (λ (l : BoundEvents). last_bound c.args.name l) c.self.view_is) ∙ last_seen c.args.name None pairs in
    let told = sym c.last_of.ensures ∙ ap option_copied c.in-Some.is in
    ap Some c.event.ensures ∙ sym (ap (option_map (λ (p : ℕ × Event). p.1)) (found ∙ ap (option_map seen) told))

pub returns-in-None : goal.returns-in-None
returns-in-None c =
    let pairs = c.self.inside.pairs in
    let found = sym (ap (λ (l : BoundEvents). last_bound c.args.name l) c.self.view_is) ∙ last_seen c.args.name None pairs in
    let told = sym c.last_of.ensures ∙ ap option_copied c.in-None.is in
    sym (ap (option_map (λ (p : ℕ × Event). p.1)) (found ∙ ap (option_map seen) told))
