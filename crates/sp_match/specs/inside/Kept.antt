-- A run in plain values, and what the handling of an event does to it.
use Rattle.std.specs.Prelude.{◌≡◌, ℕ, ◌+◌, ◌-◌, ◌<◌, ◌≤◌, ◌==◌, Bool, false, true, List, [], ◌∷◌, ◌++◌, length, map, take, replicate, Option, None, Some, slice_index_or, slice_set, if◌then◌else◌}
use Rattle.std.specs.List.{All, last_or, list_any, zip}
use Rattle.sp_base.specs.Numbers.{is_among}
use Rattle.sp_plan.specs.declared.event.Event.{Event}
use Rattle.sp_plan.specs.Runs.{Pair, Started}
use Rattle.sp_match.specs.declared.run.Run.{Run}
use Rattle.sp_match.specs.declared.run.Ahead.{Ahead}
use Rattle.sp_match.specs.declared.run.Fate.{Fate}
use Rattle.sp_match.specs.declared.run.Fate.TheVariants.{Stays, Completes, Leaves}

-- a run without room and pointers
pub record Kept : Type 0 where
  pub number : ℕ
  pub bound : List (ℕ × ℕ)
  pub used : List ℕ
  pub events : List (ℕ × Event)
  pub names : List Bool
  pub bound_names : ℕ
  pub ahead : Option Ahead
  pub fate : Fate

-- the plain values of a run
abbrev pub kept : Run → Kept
kept r = record { number = r.number; bound = r.bound.items; used = r.used.list; events = r.events; names = r.names; bound_names = r.bound_names; ahead = r.ahead; fate = r.fate }

-- those of all runs
abbrev pub all_kept : List Run → List Kept
all_kept rs = map kept rs

-- a pair, of what a run keeps of it in two lists
abbrev pub pair_of : (ℕ × ℕ) × (ℕ × Event) → Pair
pair_of both = record { name = both.0.0; number = both.0.1; event = both.1.1 }

-- the pairs of a run
abbrev pub pairs : Kept → List Pair
pairs k = map pair_of (zip k.bound k.events)

-- the run as the definitions have it
abbrev pub started : Kept → Started
started k = (k.number, pairs k)

-- whether a run stays open
abbrev pub stays : Fate → Bool
stays Stays = true
stays Completes = false
stays Leaves = false

-- a run that has bound no event
abbrev pub empty : ℕ → Kept
empty number = record { number = number; bound = []; used = []; events = []; names = replicate 32 false; bound_names = 0; ahead = None; fate = Stays }

-- a run with one pair more, of which it isn't yet known what it may take next
abbrev pub grown : ℕ → Bool → ℕ → Event → Kept → Kept
grown name consumed number event k = record k {
  bound = k.bound ++ (name, number) ∷ [];
  used = if consumed then k.used ++ number ∷ [] else k.used;
  events = k.events ++ (name, event) ∷ [];
  names = slice_set k.names name true;
  bound_names = if slice_index_or k.names name false then k.bound_names else k.bound_names + 1;
  ahead = None;
}

-- a list without its last element
abbrev pub but_last : {X : Type 0} → List X → List X
but_last xs = take (length xs - 1) xs

-- whether one of these pairs is of the name
abbrev pub binds : ℕ → List (ℕ × ℕ) → Bool
binds name bound = list_any (λ pair. pair.0 == name) bound

-- the name of a pair that is of the event of this number
abbrev pub name_under : ℕ → Option (ℕ × ℕ) → Option ℕ
name_under number None = None
name_under number (Some pair) = if pair.1 == number then Some pair.0 else None

-- the name of a run's last pair, where that is of the event of this number
abbrev pub last_under : ℕ → Kept → Option ℕ
last_under number k = name_under number (last_or None k.bound)

-- a run without its last pair, which the event of this number brought under this name
abbrev pub undone : ℕ → Option ℕ → Kept → Kept
undone number None k = record k { ahead = None; fate = Stays }
undone number (Some name) k = record k {
  bound = but_last k.bound;
  used = if is_among k.used number then but_last k.used else k.used;
  events = but_last k.events;
  names = if binds name (but_last k.bound) then k.names else slice_set k.names name false;
  bound_names = if binds name (but_last k.bound) then k.bound_names else k.bound_names - 1;
  ahead = None;
  fate = Stays;
}

-- a run as it was before the event of this number, but for what it may take next, which has to be looked for
abbrev pub before : ℕ → Kept → Kept
before number k = undone number (last_under number k) k

-- A run can bind an event of the number to the name.
pub record CanGrow (name number : ℕ) (k : Kept) : Type 0 where
  pub named : name < 32
  pub flags : length k.names ≡ 32
  pub few : k.bound_names ≤ 32
  pub below : All (λ n. n < number) k.used

-- The last of these pairs and events can be taken away, where so many names are bound.
pub record CanPop (bound : List (ℕ × ℕ)) (events : List (ℕ × Event)) (bound_names : ℕ) : Type 0 where
  pub named : All (λ pair. pair.0 < 32) bound
  pub same : length bound ≡ length events
  pub some_name : 0 < length bound → 0 < bound_names

-- A run's last pair can be taken away.
abbrev pub CanUndo : Kept → Type 0
CanUndo k = CanPop k.bound k.events k.bound_names
