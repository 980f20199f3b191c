use Rattle.std.proofs.Common.{sym, subst, arith}
use Rattle.sp_core.specs.Running.{Running}
use Rattle.sp_core.specs.Leasing.{HasBegun}
use Rattle.sp_core.specs.Holding.{holding}
use Rattle.sp_core.proofs.Told.{core_there, core_told, fed_within}
use Rattle.sp_core.proofs.machine.Core.fed_of.Goals as goal

pub unreachable-requires : goal.unreachable-requires
unreachable-requires c =
    let h = holding c.self.inside in
    let k = c.self.invariant in
    let there = subst (λ (r : Running). HasBegun r c.args.number) (sym c.self.view_is) c.requires.begun in
    core_there h k (c.windows_hold.ensures h.plan k.compiled.windowed) c.args.number there c.get.result c.get.ensures c.in_default.is

pub overflow_add-result : goal.overflow_add-result
overflow_add-result c =
    let h = holding c.self.inside in
    let k = c.self.invariant in
    let there = subst (λ (r : Running). HasBegun r c.args.number) (sym c.self.view_is) c.requires.begun in
    let holds = c.windows_hold.ensures h.plan k.compiled.windowed in
    let t = core_told h k holds (c.closed_come_first.ensures h.plan k.compiled.windowed) c.args.number there c.get.result c.get.ensures c.in-Some.window c.in-Some.is in
    let end = t.some c.in-Some-end.end c.in-Some-end.is in
    let within = fed_within h k holds c.args.number there in
    omega (arith, end.0, within.0, within.1)

pub overflow_sub-result : goal.overflow_sub-result
overflow_sub-result c =
    let h = holding c.self.inside in
    let k = c.self.invariant in
    let there = subst (λ (r : Running). HasBegun r c.args.number) (sym c.self.view_is) c.requires.begun in
    let holds = c.windows_hold.ensures h.plan k.compiled.windowed in
    let t = core_told h k holds (c.closed_come_first.ensures h.plan k.compiled.windowed) c.args.number there c.get.result c.get.ensures c.in-Some.window c.in-Some.is in
    let end = t.some c.in-Some-end.end c.in-Some-end.is in
    omega (arith, end.0, t.first_is)

pub overflow_sub-result-in-None : goal.overflow_sub-result-in-None
overflow_sub-result-in-None c =
    let h = holding c.self.inside in
    let k = c.self.invariant in
    let there = subst (λ (r : Running). HasBegun r c.args.number) (sym c.self.view_is) c.requires.begun in
    let holds = c.windows_hold.ensures h.plan k.compiled.windowed in
    let t = core_told h k holds (c.closed_come_first.ensures h.plan k.compiled.windowed) c.args.number there c.get.result c.get.ensures c.in-Some.window c.in-Some.is in
    let end = t.none c.in-None.is in
    omega (arith, end.0, t.first_is, c.len.ensures)

pub returns-in-Some-end-clause-fed : goal.returns-in-Some-end-clause-fed
returns-in-Some-end-clause-fed c =
    rw (← c.self.view_is)
    (let h = holding c.self.inside in
    let k = c.self.invariant in
    let there = subst (λ (r : Running). HasBegun r c.args.number) (sym c.self.view_is) c.requires.begun in
    let holds = c.windows_hold.ensures h.plan k.compiled.windowed in
    let t = core_told h k holds (c.closed_come_first.ensures h.plan k.compiled.windowed) c.args.number there c.get.result c.get.ensures c.in-Some.window c.in-Some.is in
    let end = t.some c.in-Some-end.end c.in-Some-end.is in
    omega (arith, end.0, t.first_is))

pub returns-in-Some-end-clause-closed : goal.returns-in-Some-end-clause-closed
returns-in-Some-end-clause-closed c =
    rw (← c.self.view_is)
    (let h = holding c.self.inside in
    let k = c.self.invariant in
    let there = subst (λ (r : Running). HasBegun r c.args.number) (sym c.self.view_is) c.requires.begun in
    let holds = c.windows_hold.ensures h.plan k.compiled.windowed in
    let t = core_told h k holds (c.closed_come_first.ensures h.plan k.compiled.windowed) c.args.number there c.get.result c.get.ensures c.in-Some.window c.in-Some.is in
    sym (t.some c.in-Some-end.end c.in-Some-end.is).1)

pub returns-in-None-clause-fed : goal.returns-in-None-clause-fed
returns-in-None-clause-fed c =
    rw (← c.self.view_is)
    (let h = holding c.self.inside in
    let k = c.self.invariant in
    let there = subst (λ (r : Running). HasBegun r c.args.number) (sym c.self.view_is) c.requires.begun in
    let holds = c.windows_hold.ensures h.plan k.compiled.windowed in
    let t = core_told h k holds (c.closed_come_first.ensures h.plan k.compiled.windowed) c.args.number there c.get.result c.get.ensures c.in-Some.window c.in-Some.is in
    let end = t.none c.in-None.is in
    omega (arith, end.0, t.first_is, c.len.ensures))

pub returns-in-None-clause-closed : goal.returns-in-None-clause-closed
returns-in-None-clause-closed c =
    rw (← c.self.view_is)
    (let h = holding c.self.inside in
    let k = c.self.invariant in
    let there = subst (λ (r : Running). HasBegun r c.args.number) (sym c.self.view_is) c.requires.begun in
    let holds = c.windows_hold.ensures h.plan k.compiled.windowed in
    let t = core_told h k holds (c.closed_come_first.ensures h.plan k.compiled.windowed) c.args.number there c.get.result c.get.ensures c.in-Some.window c.in-Some.is in
    sym (t.none c.in-None.is).1)
