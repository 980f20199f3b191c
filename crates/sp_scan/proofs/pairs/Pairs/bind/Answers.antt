use Rattle.std.proofs.Common.{◌<◌, ◌++◌, ◌∷◌, [], sym, ap, subst, ◌∙◌}
use Rattle.std.specs.List.{All}
use Rattle.sp_plan.specs.Runs.{Pair, Run}
use Rattle.sp_scan.specs.inside.Joined.{joined, AreJoined}
use Rattle.sp_scan.proofs.JoinedLists.{joined_push, are_joined_push, with_pair}
use Rattle.sp_scan.proofs.pairs.Pairs.bind.Goals as goal

pub invariant_of-self-2 : goal.invariant_of-self-2
invariant_of-self-2 c =
    let past = subst (λ (r : Run). All (λ pair. pair.number < c.args.number) r) (sym c.self.view_is) c.requires.past in
    let all = are_joined_push c.self.inside.pairs.items c.self.inside.events c.args.name c.args.number c.args.event c.self.invariant past c.requires.small in
    with_pair AreJoined _ _ _ _ _ _ _ c.push_reserved.ensures.items c.in_ok-reserve.ensures.items c.in_ok-bind_shared.ensures.bound all

pub returns : goal.returns
returns c =
    let pair : Pair = record { name = c.args.name; number = c.args.number; event = c.args.event } in
    (λ i. joined (c.push_reserved.ensures.items i) (c.in_ok-bind_shared.ensures.bound i)) ∙ (λ i. joined (c.in_ok-reserve.ensures.items i ++ (c.args.name, c.args.number) ∷ []) (c.self.inside.events ++ (c.args.name, c.args.event) ∷ []))
    ∙ joined_push c.self.inside.pairs.items c.self.inside.events c.args.name c.args.number c.args.event c.self.invariant.same_names ∙ ap (λ (r : Run). r ++ pair ∷ []) c.self.view_is
