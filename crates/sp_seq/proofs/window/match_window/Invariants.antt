use Rattle.sp_seq.proofs.Gathering.{Gathering}
use Rattle.sp_seq.proofs.window.match_window.Given as goal

abbrev pub invariant-loop-i : goal.invariant-loop-i
invariant-loop-i l = Gathering l.initial.matcher.plan l.window.number l.seats.events.now l.window.first l.initial.matches.items l.seats.consumed.now l.i l.matcher l.matches.items
