use Rattle.std.proofs.Common.{◌≡◌, ◌+◌, ◌++◌, length, map, take, drop}
use Rattle.std.specs.Prelude.{filter}
use Rattle.sp_match.specs.public.Laws.{is_completion}
use Rattle.sp_match.specs.public.Seen.{seen}
use Rattle.sp_seq.specs.Completed.{matches_told}
use Rattle.sp_seq.proofs.found.add_matches.Given as goal

abbrev pub invariant-loop-at : goal.invariant-loop-at
invariant-loop-at l = record {
  added : l.matches.items ≡ l.initial.matches.items ++ matches_told l.window (length l.initial.matches.items + 1) (filter is_completion (map seen (take l.at l.initial.moves)));
  ahead : drop l.at l.moves ≡ drop l.at l.initial.moves;
}
