use Rattle.std.proofs.Common.{◌∙◌, sym, ap, ◌+◌, arith}
use Rattle.sp_version.specs.declared.version.Version.{Version}
use Rattle.sp_core.specs.Holding.{holding, machine_of, version_of}
use Rattle.sp_core.specs.Running.{Running}
use Rattle.sp_core.specs.Spawning.{spawned_window, window_behind}
use Rattle.sp_core.proofs.Journal.{reached}
use Rattle.sp_core.proofs.Entries.{found, not_found, version_found, version_is}
use Rattle.sp_core.proofs.Counts.{windows_few, finished_within, window_within_count}
use Rattle.sp_core.proofs.machine.Core.window_under.Goals as goal
use Rattle.std.specs.Option.{option_map}

pub overflow_add-result : goal.overflow_add-result
overflow_add-result c =
    let h = holding c.self.inside in
    let reach = reached c.every_schedule.ensures h c.self.invariant in
    let few = windows_few h c.self.invariant reach c.windows_are_few.ensures in
    let within = finished_within h c.self.invariant reach c.closed_come_first.ensures in
    omega arith

pub overflow_add-result-in-Some-get : goal.overflow_add-result-in-Some-get
overflow_add-result-in-Some-get c =
    let h = holding c.self.inside in
    let reach = reached c.every_schedule.ensures h c.self.invariant in
    let few = windows_few h c.self.invariant reach c.windows_are_few.ensures in
    let at = found _ c.in-Some-get.held.now c.in-Some-get.ensures in
    let there = (window_within_count h reach c.in-Some.parent at.entry at.is).1 in
    let same = ap (λ (v : Version). v.window) at.value in
    omega arith

pub returns-in-Some-get : goal.returns-in-Some-get
returns-in-Some-get c =
    let h = holding c.self.inside in
    let at = found _ c.in-Some-get.held.now c.in-Some-get.ensures in
    ap (λ (v : Version). v.window + 1) (sym at.value)
    ∙ sym (ap window_behind (version_is h.tree.entries c.in-Some.parent at.entry at.is))
    ∙ ap (spawned_window (machine_of h)) (sym c.in-Some.is)
    ∙ ap (λ (r : Running). spawned_window r.machine c.args.parent) c.self.view_is

pub returns-in-None-get : goal.returns-in-None-get
returns-in-None-get c =
    let h = holding c.self.inside in
    let none = version_found h.tree.entries c.in-Some.parent ∙ ap (option_map version_of) (not_found _ c.in-None-get.ensures) in
    sym (ap window_behind none)
    ∙ ap (spawned_window (machine_of h)) (sym c.in-Some.is)
    ∙ ap (λ (r : Running). spawned_window r.machine c.args.parent) c.self.view_is
