use Rattle.std.proofs.Common.{rules, filter, is_none, sym, ap, ◌∙◌}
use Rattle.std.proofs.lemmas.Fn.{filter_same}
use Rattle.sp_group.specs.declared.step.Step.TheVariants as s
use Rattle.sp_core.specs.Holding.{holding, running}
use Rattle.sp_core.specs.Running.{Running, refused}
use Rattle.sp_core.specs.Suppressing.{ready_ids}
use Rattle.sp_core.proofs.ReadyIds.{passing_ids}
use Rattle.sp_core.proofs.machine.Core.ready.Goals as goal

pub returns : goal.returns
returns c =
    let h = holding c.self.inside in
    filter_same _ (λ id. is_none (refused c.args.self.now (s.Lease id 1))) _ (λ x b f' k. search rules) _ _ c.retain.ensures.filtered
    ∙ ap (λ (r : Running). filter (λ id. is_none (refused r (s.Lease id 1))) c.in_ok-ids.ids.items) (sym c.self.view_is)
    ∙ ap (filter (λ id. is_none (refused (running h) (s.Lease id 1)))) c.in_ok-ids.ensures
    ∙ passing_ids (λ id. is_none (refused (running h) (s.Lease id 1))) h.tree.entries
    ∙ ap (λ (r : Running). ready_ids r.plan r.bound r.machine) c.self.view_is
