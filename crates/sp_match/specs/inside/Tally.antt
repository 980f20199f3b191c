-- How a run stands against the moves of an event.
use Rattle.std.specs.Prelude.{◌≡◌, ℕ, Bool, true, false, List, ◌++◌}
use Rattle.std.specs.List.{flat_map, list_any}
use Rattle.sp_plan.specs.Moves.{Move, abandons, pair_given}
use Rattle.sp_match.specs.declared.run.Fate.{Fate}
use Rattle.sp_match.specs.declared.run.Fate.TheVariants.{Stays, Completes, Leaves}
use Rattle.sp_match.specs.inside.Kept.{Kept, before, pairs}

-- whether a run is abandoned
abbrev pub is_leaving : Fate → Bool
is_leaving Leaves = true
is_leaving Stays = false
is_leaving Completes = false

-- Since before the event of the number n the run has bound what the moves gave it, and it leaves where they abandon it.
pub record Tally (n : ℕ) (ms : List Move) (k : Kept) : Type 0 where
  pub given : pairs k ≡ pairs (before n k) ++ flat_map (pair_given k.number) ms
  pub leaves : list_any (abandons k.number) ms ≡ is_leaving k.fate
