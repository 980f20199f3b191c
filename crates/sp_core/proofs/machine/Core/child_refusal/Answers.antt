use Rattle.std.proofs.Common.{◌≡◌, ◌∙◌, refl, sym, ap, subst, None, Some, ◌+◌, true, false, arith}
use Rattle.sp_version.specs.declared.version.Version.{Version}
use Rattle.sp_group.specs.declared.refusal.Refusal.TheVariants as r
use Rattle.sp_group.specs.declared.step.Step.TheVariants as s
use Rattle.sp_group.specs.Machine.{inner}
use Rattle.sp_core.specs.Holding.{holding}
use Rattle.sp_core.specs.Running.{Running, refused}
use Rattle.sp_core.proofs.Journal.{reached}
use Rattle.sp_core.proofs.Entries.{found, not_found}
use Rattle.sp_core.proofs.Counts.{has_window, lacks_window, windows_few, window_within_count}
use Rattle.sp_core.proofs.Children.{child_found, no_child}
use Rattle.sp_core.proofs.SpawnRefusals.{parent_gone, child_refused_as, group_is, is_full, is_not_full}
use Rattle.sp_core.proofs.machine.Core.child_refusal.Goals as goal

pub returns-in_default : goal.returns-in_default
returns-in_default c =
    let h = holding c.self.inside in
    subst (λ (x : Running). Some (r.NotLive c.args.parent) ≡ refused x (s.Spawn (Some c.args.parent) c.args.label.now)) c.self.view_is
    (sym (parent_gone h c.args.parent c.args.label.now (not_found _ c.in_default.ensures)))

pub overflow_add-result : goal.overflow_add-result
overflow_add-result c =
    let h = holding c.self.inside in
    let reach = reached c.every_schedule.ensures h c.self.invariant in
    let few = windows_few h c.self.invariant reach c.windows_are_few.ensures in
    let at = found _ c.in-Some.held.now c.in-Some.ensures in
    let there = (window_within_count h reach c.args.parent at.entry at.is).1 in
    let same = ap (λ (v : Version). v.window) at.value in
    omega arith

pub returns-then-count-held : goal.returns-then-count-held
returns-then-count-held c =
    let h = holding c.self.inside in
    let i = c.self.invariant in
    let at = found _ c.in-Some.held.now c.in-Some.ensures in
    let lacks = lacks_window h i c.count.result c.in-Some.held.now.window (c.count.ensures h.events h.ended i.windows) c.if-count-held.true in
    subst (λ (x : Running). Some (r.NoWindow (c.in-Some.held.now.window + 1)) ≡ refused x (s.Spawn (Some c.args.parent) c.args.label.now)) c.self.view_is
    (sym (child_refused_as h c.args.parent c.args.label.now c.in-Some.held.now at true _ _ _ lacks refl refl refl))

pub returns-in-Some-first_not_open : goal.returns-in-Some-first_not_open
returns-in-Some-first_not_open c =
    let h = holding c.self.inside in
    let i = c.self.invariant in
    let at = found _ c.in-Some.held.now c.in-Some.ensures in
    let has = has_window h i c.count.result c.in-Some.held.now.window (c.count.ensures h.events h.ended i.windows) c.if-count-held.false in
    let group = group_is h i c.args.parent c.args.label.now at.entry at.is c.groups.result.now c.runs.result.now c.first_not_open.result c.groups.ensures.groups c.runs.ensures.list c.first_not_open.ensures in
    subst (λ (x : Running). Some (r.NotOpen c.in-Some-first_not_open.group) ≡ refused x (s.Spawn (Some c.args.parent) c.args.label.now)) c.self.view_is
    (sym (child_refused_as h c.args.parent c.args.label.now c.in-Some.held.now at false (Some c.in-Some-first_not_open.group) _ _ has (group ∙ c.in-Some-first_not_open.is) refl refl))

pub returns-in-Some-child : goal.returns-in-Some-child
returns-in-Some-child c =
    let h = holding c.self.inside in
    let i = c.self.invariant in
    let at = found _ c.in-Some.held.now c.in-Some.ensures in
    let has = has_window h i c.count.result c.in-Some.held.now.window (c.count.ensures h.events h.ended i.windows) c.if-count-held.false in
    let group = group_is h i c.args.parent c.args.label.now at.entry at.is c.groups.result.now c.runs.result.now c.first_not_open.result c.groups.ensures.groups c.runs.ensures.list c.first_not_open.ensures in
    let reach = reached c.every_schedule.ensures h i in
    let child = child_found h.plan (inner h.plan h.events) h.finished h.tree.entries c.args.parent c.args.label.now c.in-Some-child.child reach.kept.sane.shape c.in-Some-child.ensures.some in
    subst (λ (x : Running). Some (r.LabelTaken c.in-Some-child.child) ≡ refused x (s.Spawn (Some c.args.parent) c.args.label.now)) c.self.view_is
    (sym (child_refused_as h c.args.parent c.args.label.now c.in-Some.held.now at false None (Some c.in-Some-child.child) _ has (group ∙ c.in_default-first_not_open.is) child refl))

pub returns-then-live-bound : goal.returns-then-live-bound
returns-then-live-bound c =
    let h = holding c.self.inside in
    let i = c.self.invariant in
    let at = found _ c.in-Some.held.now c.in-Some.ensures in
    let has = has_window h i c.count.result c.in-Some.held.now.window (c.count.ensures h.events h.ended i.windows) c.if-count-held.false in
    let group = group_is h i c.args.parent c.args.label.now at.entry at.is c.groups.result.now c.runs.result.now c.first_not_open.result c.groups.ensures.groups c.runs.ensures.list c.first_not_open.ensures in
    let child = no_child h.tree.entries c.args.parent c.args.label.now (c.in_default-child.ensures.none refl) in
    let live = c.live-live.ensures.live in
    let bound = c.bound-bound.ensures in
    let full = is_full h c.live-live.result c.bound-bound.result live bound c.if-live-bound.true in
    subst (λ (x : Running). Some (r.Full c.live-live.result c.bound-bound.result) ≡ refused x (s.Spawn (Some c.args.parent) c.args.label.now)) c.self.view_is
    ((λ j. Some (r.Full (live j) (bound j)))
    ∙ sym (child_refused_as h c.args.parent c.args.label.now c.in-Some.held.now at false None None true has (group ∙ c.in_default-first_not_open.is) child full))

pub returns-else-live-bound : goal.returns-else-live-bound
returns-else-live-bound c =
    let h = holding c.self.inside in
    let i = c.self.invariant in
    let at = found _ c.in-Some.held.now c.in-Some.ensures in
    let has = has_window h i c.count.result c.in-Some.held.now.window (c.count.ensures h.events h.ended i.windows) c.if-count-held.false in
    let group = group_is h i c.args.parent c.args.label.now at.entry at.is c.groups.result.now c.runs.result.now c.first_not_open.result c.groups.ensures.groups c.runs.ensures.list c.first_not_open.ensures in
    let child = no_child h.tree.entries c.args.parent c.args.label.now (c.in_default-child.ensures.none refl) in
    let live = c.live-live.ensures.live in
    let bound = c.bound-bound.ensures in
    let room = is_not_full h i c.live-live.result c.bound-bound.result live bound c.if-live-bound.false in
    subst (λ (x : Running). None ≡ refused x (s.Spawn (Some c.args.parent) c.args.label.now)) c.self.view_is
    (sym (child_refused_as h c.args.parent c.args.label.now c.in-Some.held.now at false None None false has (group ∙ c.in_default-first_not_open.is) child room))
