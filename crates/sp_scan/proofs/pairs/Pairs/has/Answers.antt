use Rattle.std.proofs.Common.{sym, ap, ◌∙◌}
use Rattle.std.specs.Prelude.{is_some}
use Rattle.sp_plan.specs.Runs.{is_bound}
use Rattle.sp_plan.specs.Values.{last_bound}
use Rattle.sp_scan.specs.inside.Joined.{joined}
use Rattle.sp_scan.proofs.JoinedLists.{bound_there, events_joined, some_copied, some_map}
use Rattle.sp_scan.proofs.pairs.Pairs.has.Goals as goal

pub returns : goal.returns
returns c =
    let ps = c.self.inside.pairs.items in
    let es = c.self.inside.events in
    let name = c.args.name in
    c.is_some.ensures ∙ some_copied c.get.result ∙ ap is_some c.get.ensures ∙ some_map (λ pair. pair.1) (last_bound name es)
    ∙ ap (λ l. is_some (last_bound name l)) (sym (events_joined ps es c.self.invariant.same_names)) ∙ bound_there name (joined ps es) ∙ ap (λ r. is_bound r name) c.self.view_is
