use Rattle.std.proofs.Common.{map, reverse, sym, ap, ◌∙◌}
use Rattle.sp_group.specs.Seen.{state_seen, ticket_seen}
use Rattle.sp_core.specs.Benched.{Benched}
use Rattle.sp_core.specs.OnBench.{ticket_in, unread}
use Rattle.sp_core.proofs.LinesRead.{core_lines, state_read}
use Rattle.sp_core.proofs.bench.Bench.state.Goals as goal

pub with_readings-requires : goal.with_readings-requires
with_readings-requires c =
    core_lines c.self.inside.core c.self.inside.pieces.items c.in_ok-state.state c.self.invariant.tickets c.in_ok-state.ensures
    ∙ ap (λ ps. reverse (map ticket_seen (map unread (map ticket_in ps)))) (sym c.deref.ensures.value)

pub returns-clause-state : goal.returns-clause-state
returns-clause-state c =
    state_read c.self.inside.core c.self.inside.pieces.items c.in_ok-state.state c.with_readings.result c.self.invariant.tickets c.in_ok-state.ensures
    (c.with_readings.ensures ∙ ap (λ ps. reverse (map ticket_seen (map ticket_in ps))) c.deref.ensures.value)
    ∙ ap (λ (b : Benched). state_seen b.plan b.machine) c.self.view_is
