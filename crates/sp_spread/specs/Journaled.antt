-- What a journal says of how it came about.
use Rattle.std.specs.Prelude.{◌≡◌, ℕ, ◌+◌, Bool, true, false, ◌&&◌, List, [], ◌∷◌, ◌++◌, Some, None, if◌then◌else◌}
use Rattle.std.specs.List.{All, count_by, flat_map}
use Rattle.sp_plan.specs.declared.event.Event.{Event}
use Rattle.sp_group.specs.declared.step.Entry.{Entry}
use Rattle.sp_group.specs.declared.step.Step.{Step}
use Rattle.sp_group.specs.declared.step.Step.TheVariants as s
use Rattle.sp_group.specs.Steps.{is_lease}

-- the event that a step feeds, if it feeds one
abbrev pub fed_by : Step → List Event
fed_by (s.Feed e) = e ∷ []
fed_by s.End = []
fed_by (s.Spawn parent label) = []
fed_by (s.Lease id n) = []
fed_by (s.Event n) = []
fed_by (s.Return n) = []
fed_by (s.Roll id) = []
fed_by s.Finish = []

-- the events of the feeds of a journal, in their order
abbrev pub fed : List Entry → List Event
fed journal = flat_map (λ entry. fed_by entry.step) journal

-- whether a step makes a version below another one: a speculative version
abbrev pub makes_child : Step → Bool
makes_child (s.Spawn (Some p) label) = true
makes_child (s.Spawn None label) = false
makes_child (s.Feed e) = false
makes_child s.End = false
makes_child (s.Lease id n) = false
makes_child (s.Event n) = false
makes_child (s.Return n) = false
makes_child (s.Roll id) = false
makes_child s.Finish = false

-- no step of a journal makes a speculative version
abbrev pub MakesNoChild : List Entry → Type 0
MakesNoChild journal = All (λ entry. makes_child entry.step ≡ false) journal

-- whether a step is a reading
abbrev pub is_reading : Step → Bool
is_reading (s.Event n) = true
is_reading (s.Feed e) = false
is_reading s.End = false
is_reading (s.Spawn parent label) = false
is_reading (s.Lease id n) = false
is_reading (s.Return n) = false
is_reading (s.Roll id) = false
is_reading s.Finish = false

-- whether a step is a return
abbrev pub is_return : Step → Bool
is_return (s.Return n) = true
is_return (s.Feed e) = false
is_return s.End = false
is_return (s.Spawn parent label) = false
is_return (s.Lease id n) = false
is_return (s.Event n) = false
is_return (s.Roll id) = false
is_return s.Finish = false

-- how many returns follow directly on a reading, where the entry before these was one or not
abbrev pub returns_behind : Bool → List Entry → ℕ
returns_behind read [] = 0
returns_behind read (e ∷ es) = (if read && is_return e.step then 1 else 0) + returns_behind (is_reading e.step) es

-- how many returns of a journal follow on a reading: that many pieces were read and came home
abbrev pub returns_read : List Entry → ℕ
returns_read journal = returns_behind false journal

-- how many entries of a journal are readings
abbrev pub readings_entered : List Entry → ℕ
readings_entered journal = count_by (λ entry. is_reading entry.step) journal

-- a journal ends in a lease
abbrev pub EndsInLease : List Entry → Type 0
EndsInLease journal = (before : List Entry) × (lease : Entry) × (journal ≡ before ++ lease ∷ []) × (is_lease lease.step ≡ true)
