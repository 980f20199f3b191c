-- Moves as contracts see them.
use Rattle.std.specs.Prelude.{ℕ, List, map}
use Rattle.sp_base.specs.Numbers.{NumberList}
use Rattle.sp_plan.specs.Moves.{Told, OpenedTold, GrownTold, CompletedTold, AbandonedTold}
use Rattle.sp_match.specs.public.Matching.{Shown}
use Rattle.sp_match.specs.declared.run.Run.{Run}
use Rattle.sp_match.specs.declared.moves.Move.{Move}
use Rattle.sp_match.specs.declared.moves.Move.TheVariants as m

-- a name with its numbers
abbrev pub seen_name : ℕ × NumberList → ℕ × List ℕ
seen_name pair = (pair.0, pair.1.list)

-- a run as it is shown: its number, names with the numbers of their events, and the numbers that its completion would use
abbrev pub seen_run : Run → Shown
seen_run run = (run.number, run.bound.items, run.used.list)

-- a move as it is told
abbrev pub seen : Move → Told
seen (m.Opened run) = OpenedTold run
seen (m.Grown run number) = GrownTold run number
seen (m.Completed run bound used) = CompletedTold run (map seen_name bound) used.list
seen (m.Abandoned run) = AbandonedTold run

-- moves as they are told
abbrev pub all_seen : List Move → List Told
all_seen ms = map seen ms
