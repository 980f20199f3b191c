-- What is true of parts.
use Rattle.std.specs.Prelude.{◌≡◌, ◌+◌, ◌-◌, ◌≤◌, Bool, true, List, length, take}
use Rattle.std.specs.List.{All}
use Rattle.sp_plan.specs.declared.event.Event.{Event}
use Rattle.sp_plan.specs.declared.found.Match.{Match}
use Rattle.sp_plan.specs.declared.plan.Plan.{Plan}
use Rattle.sp_plan.specs.Events.{AllFit, NeverGoesBack}
use Rattle.sp_plan.specs.Sequential.{whole}
use Rattle.sp_plan.specs.WindowNumbers.{Good, count}
use Rattle.sp_plan.specs.Windows.{IsWindowed}
use Rattle.sp_parts.specs.Parts.{Part, parts_of}
use Rattle.sp_parts.specs.Shifted.{own_matches, shifted_all}

-- The matches of an input are, in order, those of its parts, each part taken by itself.
abbrev pub PartsFallApart : Type 0
PartsFallApart =
    (q : Plan) (events : List Event) (ended : Bool) → IsWindowed q → AllFit q events → NeverGoesBack events
    → (whole q events ended).matches ≡ shifted_all q (parts_of q events ended)

-- A match of a part is one of the input's windows and events once it is moved on.
pub record MovesWithin (q : Plan) (events : List Event) (part : Part) (found : Match) : Type 0 where
  pub window : found.window + part.windows ≤ count q events
  pub used : All (λ n. n + (part.first - 1) ≤ length events) found.used
  pub bound : All (λ pair. All (λ n. n + (part.first - 1) ≤ length events) pair.1) found.bound

-- A part has events, which lie within the input and are good, and its matches move on within the input.
pub record LiesWithin (q : Plan) (events : List Event) (part : Part) : Type 0 where
  pub first : 1 ≤ part.first
  pub some : 1 ≤ length part.events
  pub within : part.first - 1 + length part.events ≤ length events
  pub good : Good q part.events
  pub moves : All (MovesWithin q events part) (own_matches q part)

-- All parts lie within the input; only the last can be open, and none is where the input has ended.
pub record AreParts (q : Plan) (events : List Event) (ended : Bool) (parts : List Part) : Type 0 where
  pub within : All (LiesWithin q events) parts
  pub closed_before : All (λ part. part.closed ≡ true) (take (length parts - 1) parts)
  pub closed_at_end : ended ≡ true → All (λ part. part.closed ≡ true) parts

-- So of the parts of each input.
abbrev pub PartsLieWithin : Type 0
PartsLieWithin =
    (q : Plan) (events : List Event) (ended : Bool) → IsWindowed q → AllFit q events → NeverGoesBack events
    → AreParts q events ended (parts_of q events ended)
