-- What a part keeps so that it can be driven by itself. No public clause cites this.
use Rattle.std.specs.Prelude.{◌≡◌, ◌≢◌, ◌⊎◌, ◌+◌, ◌-◌, ◌<◌, ◌^◌, ◌++◌, false, List, length, map}
use Rattle.std.specs.List.{All}
use Rattle.sp_plan.specs.declared.event.Event.{Event}
use Rattle.sp_plan.specs.declared.found.Match.{Match}
use Rattle.sp_plan.specs.declared.plan.Plan.{Plan}
use Rattle.sp_plan.specs.Compiled.{IsCompiled}
use Rattle.sp_plan.specs.Sequential.{seq, whole}
use Rattle.sp_core.specs.Running.{Running}
use Rattle.sp_ports.specs.Giving.{AreGood}
use Rattle.sp_ports.specs.declared.stop.Stop.{Stop}
use Rattle.sp_ports.specs.Stopping.{is_end}
use Rattle.sp_split.specs.declared.ended.Why.{Why}
use Rattle.sp_split.specs.declared.ended.Why.TheVariants as why
use Rattle.sp_parts.specs.Moving.{MoveOn}
use Rattle.sp_parts.specs.declared.part.Part as kept
use Rattle.sp_parts.specs.Parts.{Part}
use Rattle.sp_parts.specs.Seen.{seen}
use Rattle.sp_forest.specs.Driving.{ArePartsOf}
use Rattle.sp_parts.specs.Shifted.{own_matches, shifted, shifted_all}

-- the numbers of a match of a part, of its window and of its events fit their types, also in the whole input
pub record CanMove (part : Part) (found : Match) : Type 0 where
  pub number : found.number < 2 ^ 64
  pub window : found.window + part.windows < 2 ^ 32
  pub used : MoveOn (part.first - 1) found.used
  pub bound : All (λ pair. MoveOn (part.first - 1) pair.1) found.bound

-- A part can be driven: an engine takes its events, its matches can be moved on, and where it is open reading ended before the end of the input.
pub record CanBeDriven (q : Plan) (stop : Stop) (part : Part) : Type 0 where
  pub first : 0 < part.first
  pub good : AreGood q part.events
  pub moves : All (CanMove part) (own_matches q part)
  pub open_stops : part.closed ≡ false → is_end stop ≡ false

-- so of parts that are kept
abbrev pub AreDrivable : Plan → Stop → List kept.Part → Type 0
AreDrivable q stop parts = All (λ part. CanBeDriven q stop (seen part)) parts

-- a core ran to the end of its events, or to a stop behind them
abbrev pub IsThrough : Why → Type 0
IsThrough reason = (reason ≡ why.Whole) ⊎ ((cause : Stop) × (reason ≡ why.Stopped cause))

-- A core ran over these events, up to what comes behind them: no match was refused, and where it is through, the windows that it finished have
-- all matches of the events.
pub record HasGoneOver (q : Plan) (events : List Event) (stop : Stop) (c : Running) (reason : Why) : Type 0 where
  pub taken : reason ≢ why.Refused
  pub all : IsThrough reason → (seq c.plan c.machine.events c.machine.finished).matches ≡ (whole q events (is_end stop)).matches

-- the matches of a part as those of the whole input, where none stands before them
abbrev pub moved_matches : Plan → Part → List Match
moved_matches q part = map (shifted part 0) (own_matches q part)

-- Of parts that waited the first were driven, the others are left, and these matches were found, list by list, in those that were driven.
pub record DroveFirst (q : Plan) (waiting left : List kept.Part) (found : List (List Match)) : Type 0 where
  pub driven : List kept.Part
  pub are : waiting ≡ driven ++ left
  pub matches : found ≡ map (λ part. moved_matches q (seen part)) driven

-- The matches of parts, and how many they are, have numbers of 64 bits.
pub record CanBeNumbered (q : Plan) (parts : List Part) : Type 0 where
  pub numbers : All (λ one. one.number < 2 ^ 64) (shifted_all q parts)
  pub few : length (shifted_all q parts) < 2 ^ 64

-- the parts of any input can be driven, and their matches numbered
abbrev pub PartsCanBeDriven : Type 0
PartsCanBeDriven = (q : Plan) (stop : Stop) (parts : List Part) → IsCompiled q → ArePartsOf q stop parts → All (CanBeDriven q stop) parts × CanBeNumbered q parts
