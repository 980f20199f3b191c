use Rattle.std.proofs.Common.{sym, ap, ◌∙◌}
use Rattle.sp_plan.specs.Values.{holds}
use Rattle.sp_plan.specs.Runs.{bound_events}
use Rattle.sp_scan.proofs.JoinedLists.{events_joined}
use Rattle.sp_scan.proofs.pairs.Pairs.fulfil.Goals as goal

pub returns : goal.returns
returns c = c.holds.ensures ∙ ap (holds c.args.pred.now c.args.event.now) (sym (events_joined _ _ c.self.invariant.same_names) ∙ ap bound_events c.self.view_is)
