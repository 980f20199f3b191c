use Rattle.std.proofs.Common.{[], ◌-◌, length, take, map, sym, ◌∙◌, ap, subst}
use Rattle.std.proofs.lemmas.List.{length-map, take-map}
use Rattle.sp_plan.specs.Blocks.{seen, Blocked}
use Rattle.sp_plan.proofs.Blocks.{blocked_take}
use Rattle.sp_plan.proofs.bound.Bound.unbind.Goals as goal

pub invariant_of-self : goal.invariant_of-self
invariant_of-self c = subst (Blocked []) (sym c.pop.ensures) (blocked_take (length c.self.inside.pairs - 1) c.self.inside.pairs c.self.invariant)

pub returns : goal.returns
returns c =
    let pairs = c.self.inside.pairs in
    ap (map seen) c.pop.ensures
    ∙ sym (take-map seen (length pairs - 1) pairs)
    ∙ ap (λ n. take (n - 1) (map seen pairs)) (sym (length-map pairs seen))
    ∙ ap (λ l. take (length l - 1) l) c.self.view_is
