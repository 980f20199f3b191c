use Rattle.std.proofs.Common.{rules, ◌≡◌, ◌∙◌, refl, sym, ap, subst, None, Some, ◌++◌, ◌∷◌, [], arith}
use Rattle.sp_plan.specs.declared.plan.Plan.{Plan}
use Rattle.sp_plan.specs.Same.{SamePlan}
use Rattle.sp_version.specs.declared.version.Version.{Version}
use Rattle.sp_group.specs.declared.step.Step.TheVariants as s
use Rattle.sp_group.specs.Rising.{IsLabel}
use Rattle.sp_tree.specs.Grown.{Grown}
use Rattle.sp_core.specs.Holding.{IsCore, holding, machine_of, running}
use Rattle.sp_core.specs.Rooms.{room}
use Rattle.sp_core.specs.Running.{Running, after, once, refused}
use Rattle.sp_core.specs.Spawning.{spawned_window}
use Rattle.sp_core.proofs.Journal.{reached}
use Rattle.sp_core.proofs.Owed.{room_for}
use Rattle.sp_core.proofs.Fresh.{IsFresh, passes, core_with, entry_of, opens, spawn_does, with_fresh}
use Rattle.sp_core.proofs.machine.Core.put_under.Goals as goal

pub plant-requires-clause-stands : goal.plant-requires-clause-stands
plant-requires-clause-stands c =
    let h = holding c.self.inside in
    let is : refused (running h) (s.Spawn c.args.parent c.args.label) ≡ None =
    subst (λ (x : Running). refused x (s.Spawn c.args.parent c.args.label) ≡ None) (sym c.self.view_is) c.requires.passes in
    (passes h c.self.invariant c.args.parent c.args.label is).stands

pub unreachable-requires : goal.unreachable-requires
unreachable-requires c =
    let h = holding c.self.inside in
    let i = c.self.invariant in
    let is : refused (running h) (s.Spawn c.args.parent c.args.label) ≡ None =
    subst (λ (x : Running). refused x (s.Spawn c.args.parent c.args.label) ≡ None) (sym c.self.view_is) c.requires.passes in
    let pass = passes h i c.args.parent c.args.label is in
    let window : spawned_window (machine_of h) c.args.parent ≡ c.args.window =
    subst (λ (x : Running). spawned_window x.machine c.args.parent ≡ c.args.window) (sym c.self.view_is) c.requires.window in
    let place = opens h i (reached c.every_schedule.ensures h i) c.args.parent pass c.args.window window (c.windows_hold.ensures h.plan i.compiled.windowed) None
    (sym c.in_default.is ∙ c.get.ensures h.events h.ended i.windows) in
    place.there refl

pub invariant_of-self-2 : goal.invariant_of-self-2
invariant_of-self-2 c =
    let h = holding c.self.inside in
    let i = c.self.invariant in
    let is : refused (running h) (s.Spawn c.args.parent c.args.label) ≡ None =
    subst (λ (x : Running). refused x (s.Spawn c.args.parent c.args.label) ≡ None) (sym c.self.view_is) c.requires.passes in
    let pass = passes h i c.args.parent c.args.label is in
    let window : spawned_window (machine_of h) c.args.parent ≡ c.args.window =
    subst (λ (x : Running). spawned_window x.machine c.args.parent ≡ c.args.window) (sym c.self.view_is) c.requires.window in
    let v = c.in_ok-version.version in
    let n = c.in_ok-version.ensures in
    let place = opens h i (reached c.every_schedule.ensures h i) c.args.parent pass c.args.window window (c.windows_hold.ensures h.plan i.compiled.windowed) (Some c.in-Some.place)
    (sym c.in-Some.is ∙ c.get.ensures h.events h.ended i.windows) in
    let plan : v.matcher.plan ≡ h.plan = search rules in
    let f : IsFresh h.plan h.events (spawned_window (machine_of h) c.args.parent) v = record {
      window = n.window ∙ sym window;
      first = n.first ∙ place.first c.in-Some.place refl;
      position = n.position;
      skipped = n.skipped;
      plan = subst (λ (q : Plan). SamePlan q h.plan) (sym plan) (c.plans_are_themselves.ensures h.plan);
      none = n.none;
      started = n.count;
      matches = n.matches;
      copies = n.copies;
      used = n.used;
      done = n.done;
      out = n.out;
    } in
    let entered : c.enter.new.journal.items ≡ h.journal ++ once (s.Spawn c.args.parent c.args.label) ∷ [] = search rules in
    let label : IsLabel c.args.label = subst IsLabel c.label.view_is c.label.invariant in
    let owed = room_for h.ended (entry_of h.tree.next c.args.parent c.args.label v ∷ h.tree.entries) c.live.result _ _ (let live = c.live.ensures.live in omega arith)
    c.in_ok-make_room.ensures.ok c.enter.ensures.kept in
    subst (λ (t : Grown Version). IsCore (record h { tree = t; journal = c.enter.new.journal.items; journal_room = room c.enter.new.journal })) (sym c.in_ok-id.ensures.added)
    (core_with h c.args.parent c.args.label v c.enter.new.journal.items (room c.enter.new.journal) i (reached c.every_schedule.ensures h i) is label f c.in_ok-id.ensures.room entered owed)

pub returns-clause-ok : goal.returns-clause-ok
returns-clause-ok c =
    let h = holding c.self.inside in
    let i = c.self.invariant in
    let is : refused (running h) (s.Spawn c.args.parent c.args.label) ≡ None =
    subst (λ (x : Running). refused x (s.Spawn c.args.parent c.args.label) ≡ None) (sym c.self.view_is) c.requires.passes in
    let pass = passes h i c.args.parent c.args.label is in
    let window : spawned_window (machine_of h) c.args.parent ≡ c.args.window =
    subst (λ (x : Running). spawned_window x.machine c.args.parent ≡ c.args.window) (sym c.self.view_is) c.requires.window in
    let v = c.in_ok-version.version in
    let n = c.in_ok-version.ensures in
    let place = opens h i (reached c.every_schedule.ensures h i) c.args.parent pass c.args.window window (c.windows_hold.ensures h.plan i.compiled.windowed) (Some c.in-Some.place)
    (sym c.in-Some.is ∙ c.get.ensures h.events h.ended i.windows) in
    let plan : v.matcher.plan ≡ h.plan = search rules in
    let f : IsFresh h.plan h.events (spawned_window (machine_of h) c.args.parent) v = record {
      window = n.window ∙ sym window;
      first = n.first ∙ place.first c.in-Some.place refl;
      position = n.position;
      skipped = n.skipped;
      plan = subst (λ (q : Plan). SamePlan q h.plan) (sym plan) (c.plans_are_themselves.ensures h.plan);
      none = n.none;
      started = n.count;
      matches = n.matches;
      copies = n.copies;
      used = n.used;
      done = n.done;
      out = n.out;
    } in
    let entered : c.enter.new.journal.items ≡ h.journal ++ once (s.Spawn c.args.parent c.args.label) ∷ [] = search rules in
    let does = spawn_does h c.args.parent c.args.label v c.enter.new.journal.items (room c.enter.new.journal) pass f in
    let done : running (with_fresh h c.args.parent c.args.label v c.enter.new.journal.items (room c.enter.new.journal)) ≡ after (running h) (s.Spawn c.args.parent c.args.label) =
    λ j. record { plan = h.plan; bound = h.tree.bound; machine = does j; journal = entered j } in
    ap (λ (t : Grown Version). running (record h { tree = t; journal = c.enter.new.journal.items; journal_room = room c.enter.new.journal })) c.in_ok-id.ensures.added
    ∙ done ∙ ap (λ (x : Running). after x (s.Spawn c.args.parent c.args.label)) c.self.view_is
