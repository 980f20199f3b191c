use Rattle.std.proofs.Common.{◌≡◌, subst}
use Rattle.sp_group.specs.declared.step.Step.TheVariants as s
use Rattle.sp_group.specs.Machine as machine
use Rattle.sp_group.specs.Steps.{Finished, finish_answer}
use Rattle.sp_core.specs.Holding.{holding, running}
use Rattle.sp_core.specs.Rooms.{room}
use Rattle.sp_core.specs.Running.{Running, IsDone}
use Rattle.sp_core.proofs.Finished.{answers, consumed_rises, core_finished, done_seen, handed, handed_out, heir_seen, journal_room, matches_room, no_group, numbers_room, passes, running_finished}
use Rattle.sp_core.proofs.machine.Core.finish.Goals as goal

pub pop-matches-requires-clause-root : goal.pop-matches-requires-clause-root
pop-matches-requires-clause-root c =
    let h = holding c.self.inside in
    let d = done_seen h c.self.invariant c.args.self.now c.in-Some.root c.in-Some.window c.done_root.result c.self.view_is c.done_root.ensures c.in-Some.is in
    d.is_root

pub pop-matches-requires-clause-groups : goal.pop-matches-requires-clause-groups
pop-matches-requires-clause-groups c =
    let h = holding c.self.inside in
    let d = done_seen h c.self.invariant c.args.self.now c.in-Some.root c.in-Some.window c.done_root.result c.self.view_is c.done_root.ensures c.in-Some.is in
    no_group c.every_schedule.ensures h c.self.invariant c.in-Some.root c.in-Some.window d

pub pop-matches-requires-clause-room : goal.pop-matches-requires-clause-room
pop-matches-requires-clause-room c =
    let h = holding c.self.inside in
    let d = done_seen h c.self.invariant c.args.self.now c.in-Some.root c.in-Some.window c.done_root.result c.self.view_is c.done_root.ensures c.in-Some.is in
    matches_room c.every_schedule.ensures h c.self.invariant c.in-Some.root c.in-Some.window d

pub pop-matches-requires-clause-spare : goal.pop-matches-requires-clause-spare
pop-matches-requires-clause-spare c =
    let h = holding c.self.inside in
    let d = done_seen h c.self.invariant c.args.self.now c.in-Some.root c.in-Some.window c.done_root.result c.self.view_is c.done_root.ensures c.in-Some.is in
    numbers_room c.every_schedule.ensures h c.self.invariant c.in-Some.root c.in-Some.window d

pub pop-matches-requires-clause-rising : goal.pop-matches-requires-clause-rising
pop-matches-requires-clause-rising c =
    let h = holding c.self.inside in
    let d = done_seen h c.self.invariant c.args.self.now c.in-Some.root c.in-Some.window c.done_root.result c.self.view_is c.done_root.ensures c.in-Some.is in
    consumed_rises c.every_schedule.ensures h c.self.invariant c.in-Some.root c.in-Some.window d

pub enter-requires : goal.enter-requires
enter-requires c =
    let h = holding c.self.inside in
    let d = done_seen h c.self.invariant c.args.self.now c.in-Some.root c.in-Some.window c.done_root.result c.self.view_is c.done_root.ensures c.in-Some.is in
    journal_room c.every_schedule.ensures h c.self.invariant c.in-Some.root c.in-Some.window d

pub invariant_of-self : goal.invariant_of-self
invariant_of-self c =
    let h = holding c.self.inside in
    let d = done_seen h c.self.invariant c.args.self.now c.in-Some.root c.in-Some.window c.done_root.result c.self.view_is c.done_root.ensures c.in-Some.is in
    let told = heir_seen h c.args.self.now c.heir_conflict.result c.is_some-rolls.result c.self.view_is c.heir_conflict.ensures c.is_some-rolls.ensures in
    let pop = c.pop-matches in
    let out = handed_out c.self.inside c.in-Some.root c.in-Some.window d pop.new.emitted pop.new.consumed pop.result.items pop.ensures.handed in
    let left = handed c.self.inside d.at.entry.value pop.new.emitted pop.new.consumed pop.result.items out in
    core_finished c.every_schedule.ensures h c.self.invariant c.in-Some.root c.in-Some.window d c.rising_same.ensures pop.new.tree pop.ensures.tree pop.ensures.grown
    pop.new.emitted.items (room pop.new.emitted) pop.new.consumed left c.is_some-rolls.result told c.settle-root.new.tree c.settle-root.ensures.tree
    c.settle-root.ensures.grown c.enter.new.journal.items (room c.enter.new.journal) c.enter.ensures.items c.enter.ensures.kept
    (c.compiled_plans_are_lawful.ensures h.plan c.self.invariant.compiled)

pub returns-clause-done : goal.returns-clause-done
returns-clause-done c =
    let h = holding c.self.inside in
    let d = done_seen h c.self.invariant c.args.self.now c.in-Some.root c.in-Some.window c.done_root.result c.self.view_is c.done_root.ensures c.in-Some.is in
    let told = heir_seen h c.args.self.now c.heir_conflict.result c.is_some-rolls.result c.self.view_is c.heir_conflict.ensures c.is_some-rolls.ensures in
    let pop = c.pop-matches in
    let out = handed_out c.self.inside c.in-Some.root c.in-Some.window d pop.new.emitted pop.new.consumed pop.result.items pop.ensures.handed in
    let left = handed c.self.inside d.at.entry.value pop.new.emitted pop.new.consumed pop.result.items out in
    let k = record h {
      finished = c.in-Some.window;
      emitted = pop.new.emitted.items;
      emitted_room = room pop.new.emitted;
      consumed = pop.new.consumed;
      tree = c.settle-root.new.tree;
      journal = c.enter.new.journal.items;
      journal_room = room c.enter.new.journal;
    } in
    subst (λ (x : Running). IsDone s.Finish x (running k)) c.self.view_is (
      passes c.every_schedule.ensures h c.self.invariant c.in-Some.root c.in-Some.window d,
      running_finished c.every_schedule.ensures h c.self.invariant c.in-Some.root c.in-Some.window d c.rising_same.ensures pop.new.tree pop.ensures.tree pop.ensures.grown
          pop.new.emitted.items (room pop.new.emitted) pop.new.consumed left c.is_some-rolls.result told c.settle-root.new.tree c.settle-root.ensures.tree
          c.settle-root.ensures.grown c.enter.new.journal.items (room c.enter.new.journal) c.enter.ensures.items c.enter.ensures.kept,
    )

pub returns-clause-emitted : goal.returns-clause-emitted
returns-clause-emitted c =
    let h = holding c.self.inside in
    let d = done_seen h c.self.invariant c.args.self.now c.in-Some.root c.in-Some.window c.done_root.result c.self.view_is c.done_root.ensures c.in-Some.is in
    let told = heir_seen h c.args.self.now c.heir_conflict.result c.is_some-rolls.result c.self.view_is c.heir_conflict.ensures c.is_some-rolls.ensures in
    let pop = c.pop-matches in
    let out = handed_out c.self.inside c.in-Some.root c.in-Some.window d pop.new.emitted pop.new.consumed pop.result.items pop.ensures.handed in
    let left = handed c.self.inside d.at.entry.value pop.new.emitted pop.new.consumed pop.result.items out in
    subst (λ (x : Running). finish_answer x.plan x.machine (machine.root_in x.machine.versions) ≡ Finished c.in-Some.window pop.result.items c.settle-root.result) c.self.view_is
    (answers c.every_schedule.ensures h c.self.invariant c.in-Some.root c.in-Some.window d c.rising_same.ensures pop.new.tree pop.ensures.tree pop.ensures.grown
    pop.new.emitted.items (room pop.new.emitted) pop.new.consumed left c.is_some-rolls.result told c.settle-root.new.tree c.settle-root.ensures.tree
    pop.result.items c.settle-root.result out.out c.settle-root.ensures.root)
