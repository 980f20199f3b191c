use Rattle.std.proofs.Common.{◌≡◌, false, true, not, Some, ap, subst, ◌∙◌}
use Rattle.sp_group.specs.declared.refusal.Refusal.TheVariants as r
use Rattle.sp_group.specs.declared.step.Step.TheVariants as s
use Rattle.sp_core.specs.Running.{Running, IsDone, refused}
use Rattle.sp_core.specs.Holding.{holding, machine_of, running}
use Rattle.sp_core.specs.Rooms.{room}
use Rattle.sp_core.proofs.Pruning.{live_where_got}
use Rattle.sp_core.proofs.Rolled.{conflict_told, not_live, no_conflict, passes, has_room, core_rolled, running_rolled}
use Rattle.sp_core.proofs.machine.Core.roll.Goals as goal

pub returns-then-is_none-clause-fault : goal.returns-then-is_none-clause-fault
returns-then-is_none-clause-fault c =
    let h = holding c.self.inside in
    subst (λ (x : Running). refused x (s.Roll c.args.version) ≡ Some (r.NotLive c.args.version)) c.self.view_is
    (not_live h.plan (machine_of h) c.args.version
    (live_where_got h.tree.entries c.args.version c.get.result c.get.ensures ∙ c.is_none.ensures ∙ ap not c.if-is_none.true))

pub returns-then-is_none-2-clause-fault : goal.returns-then-is_none-2-clause-fault
returns-then-is_none-2-clause-fault c =
    let h = holding c.self.inside in
    let none = conflict_told (running h) c.args.self.now c.args.version c.conflict_of.result false c.self.view_is c.conflict_of.ensures (c.is_none-2.ensures ∙ ap not c.if-is_none-2.true) in
    subst (λ (x : Running). refused x (s.Roll c.args.version) ≡ Some (r.NoConflict c.args.version)) c.self.view_is
    (no_conflict h.plan (machine_of h) c.args.version
    (live_where_got h.tree.entries c.args.version c.get.result c.get.ensures ∙ c.is_none.ensures ∙ ap not c.if-is_none.false) none)

pub enter-requires : goal.enter-requires
enter-requires c =
    let h = holding c.self.inside in
    let hit = conflict_told (running h) c.args.self.now c.args.version c.conflict_of.result true c.self.view_is c.conflict_of.ensures (c.is_none-2.ensures ∙ ap not c.if-is_none-2.false) in
    let new = c.begin_anew-renewed in
    has_room c.every_schedule.ensures h c.self.invariant c.args.version hit new.new.tree new.ensures.tree new.ensures.grown

pub invariant_of-self : goal.invariant_of-self
invariant_of-self c =
    let h = holding c.self.inside in
    let hit = conflict_told (running h) c.args.self.now c.args.version c.conflict_of.result true c.self.view_is c.conflict_of.ensures (c.is_none-2.ensures ∙ ap not c.if-is_none-2.false) in
    let new = c.begin_anew-renewed in
    core_rolled c.every_schedule.ensures h c.self.invariant c.args.version hit new.new.tree new.ensures.tree new.ensures.grown
    c.enter.new.journal.items (room c.enter.new.journal) c.enter.ensures.items c.enter.ensures.kept

pub returns-clause-done : goal.returns-clause-done
returns-clause-done c =
    let h = holding c.self.inside in
    let hit = conflict_told (running h) c.args.self.now c.args.version c.conflict_of.result true c.self.view_is c.conflict_of.ensures (c.is_none-2.ensures ∙ ap not c.if-is_none-2.false) in
    let new = c.begin_anew-renewed in
    let k = record h { tree = new.new.tree; journal = c.enter.new.journal.items; journal_room = room c.enter.new.journal } in
    subst (λ (x : Running). IsDone (s.Roll c.args.version) x (running k)) c.self.view_is (
      passes c.every_schedule.ensures h c.self.invariant c.args.version hit new.new.tree new.ensures.tree new.ensures.grown,
      running_rolled c.every_schedule.ensures h c.self.invariant c.args.version hit new.new.tree new.ensures.tree new.ensures.grown
          c.enter.new.journal.items (room c.enter.new.journal) c.enter.ensures.items c.enter.ensures.kept,
    )
