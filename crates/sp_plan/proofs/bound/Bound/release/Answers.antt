use Rattle.std.proofs.Common.{List, sym, ap, subst, reverse, ◌∙◌}
use Rattle.sp_plan.specs.declared.event.Event.{Event}
use Rattle.sp_plan.specs.Released.{AreSome, events_of}
use Rattle.sp_plan.proofs.Released.{events_seen}
use Rattle.sp_plan.proofs.bound.Bound.release.Goals as goal

pub returns-clause-handles : goal.returns-clause-handles
returns-clause-handles c =
    let out = c.release.ensures.handles in
    let events = sym (events_seen c.self.inside.pairs) ∙ ap events_of c.self.view_is in
    record { some = out.some; behind = cc; released = subst (λ (l : List Event). AreSome out.some (reverse l)) events out.released }
