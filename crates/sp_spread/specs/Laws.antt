-- What the steps of a turn keep, in every state of the machine that steps lead to.
use Rattle.std.specs.Prelude.{◌≡◌, ◌≢◌, ℕ, ◌+◌, ◌≤◌, true, false, not, List, [], ◌∷◌, ◌++◌, length, map, filter, replicate, Option, Some, None, ◌==◌}
use Rattle.sp_plan.specs.declared.plan.Plan.{Plan}
use Rattle.sp_plan.specs.Compiled.{IsCompiled}
use Rattle.sp_group.specs.declared.step.Entry.{Entry}
use Rattle.sp_group.specs.declared.step.Step.{Step}
use Rattle.sp_group.specs.declared.step.Step.TheVariants as s
use Rattle.sp_group.specs.Machine.{Version, Ticket, Machine, version_at, ticket_at, conflict}
use Rattle.sp_group.specs.Refusing.{refusal}
use Rattle.sp_group.specs.Effects.{effect}
use Rattle.sp_group.specs.Steps.{Spread, IsSpreadOut, is_lease, out_count, replay, step, steps}
use Rattle.sp_rules.specs.Returning.{reads, reads_and_return}
use Rattle.sp_rules.specs.Schedules.{FitsStep, Reached}
use Rattle.sp_spread.specs.Calm.{AreCalm}
use Rattle.sp_spread.specs.Counting.{busy_count, out_versions, ready_versions}
use Rattle.sp_spread.specs.Guessing.{AreGuessed}
use Rattle.sp_spread.specs.Journaled.{readings_entered, returns_read}
use Rattle.sp_spread.specs.Limiting.{NeverMore}
use Rattle.sp_spread.specs.Spreading.{Spreading}

-- the ticket of that number is out for a version that is gone
pub record IsStale (m : Machine) (n : ℕ) : Type 0 where
  pub ticket : Ticket
  pub out : ticket_at m.tickets n ≡ Some ticket
  pub gone : version_at m.versions ticket.version ≡ None

-- A version that is in conflict after the roll of another was so before it, and is another one.
abbrev pub LosesConflict : Plan → Machine → Machine → ℕ → Type 0
LosesConflict q m n id =
    (other : ℕ) (v : Version) → version_at n.versions other ≡ Some v → conflict q n v ≢ None
    → (other ≢ id) × (version_at m.versions other ≡ Some v) × (conflict q m v ≢ None)

-- a roll ends the conflict of its version and makes none; where none is, no finish, spawn or lease makes one, nor the return of what is stale
pub record CalmStays (q : Plan) (bound : ℕ) (m : Machine) : Type 0 where
  pub by_roll : (id : ℕ) → refusal q bound m (s.Roll id) ≡ None → LosesConflict q m (effect q m (s.Roll id)) id
  pub by_finish : refusal q bound m s.Finish ≡ None → AreCalm q m → AreCalm q (effect q m s.Finish)
  pub by_spawn : (parent : Option ℕ) (label : List ℕ) → refusal q bound m (s.Spawn parent label) ≡ None → AreCalm q m → AreCalm q (effect q m (s.Spawn parent label))
  pub by_lease : (id n : ℕ) → refusal q bound m (s.Lease id n) ≡ None → AreCalm q m → AreCalm q (effect q m (s.Lease id n))
  pub by_stale : (n : ℕ) → IsStale m n → AreCalm q m → AreCalm q (effect q m (s.Return n))

-- The tickets of live versions that are out are as many as the versions for which one is. They grow by one at a lease, and at no other step.
pub record OutIsCounted (q : Plan) (bound : ℕ) (m : Machine) : Type 0 where
  pub versions : out_count m ≡ length (out_versions m)
  pub no_more : (x : Step) → FitsStep q bound m x → is_lease x ≡ false → out_count (step q bound m x) ≤ out_count m
  pub by_reads : (n times : ℕ) → out_count (steps q bound m (reads n times)) ≤ out_count m
  pub by_home : (n times : ℕ) → out_count (steps q bound m (reads_and_return n times)) ≤ out_count m
  pub by_lease : (id n : ℕ) → refusal q bound m (s.Lease id n) ≡ None → out_count (effect q m (s.Lease id n)) ≡ out_count m + 1
  pub by_stale : (n : ℕ) → IsStale m n → out_count (effect q m (s.Return n)) ≡ out_count m

abbrev pub ready_numbers : Plan → ℕ → Machine → List ℕ
ready_numbers q bound m = map (λ v. v.id) (ready_versions q bound m)

-- A version is busy where it is out or ready, never both. One that is spawned is ready, one that is leased is ready no more, and other
-- versions stay what they are.
pub record BusyIsCounted (q : Plan) (bound : ℕ) (m : Machine) : Type 0 where
  pub parts : busy_count q bound m ≡ length (out_versions m) + length (ready_versions q bound m)
  pub by_spawn : (parent : Option ℕ) (label : List ℕ) → refusal q bound m (s.Spawn parent label) ≡ None
      → (ready_numbers q bound (effect q m (s.Spawn parent label)) ≡ m.next_id ∷ ready_numbers q bound m)
      × (length (out_versions (effect q m (s.Spawn parent label))) ≡ length (out_versions m))
  pub by_lease : (id n : ℕ) → refusal q bound m (s.Lease id n) ≡ None
      → (ready_numbers q bound (effect q m (s.Lease id n)) ≡ filter (λ other. not (other == id)) (ready_numbers q bound m))
      × (busy_count q bound (effect q m (s.Lease id n)) ≡ busy_count q bound m)
  pub by_stale : (n : ℕ) → IsStale m n
      → (ready_numbers q bound (effect q m (s.Return n)) ≡ ready_numbers q bound m)
      × (busy_count q bound (effect q m (s.Return n)) ≡ busy_count q bound m)

-- A spawn makes no open group, and changes nothing of those that there are.
pub record GuessesStay (q : Plan) (bound : ℕ) (m : Machine) : Type 0 where
  pub by_spawn : (parent : Option ℕ) (label : List ℕ) (means share : ℕ → ℕ → ℕ) → refusal q bound m (s.Spawn parent label) ≡ None
      → AreGuessed q m means share → AreGuessed q (effect q m (s.Spawn parent label)) means share

-- all that is said of a state
pub record TurnIsLawful (q : Plan) (bound : ℕ) (m : Machine) : Type 0 where
  pub calm : CalmStays q bound m
  pub out : OutIsCounted q bound m
  pub busy : BusyIsCounted q bound m
  pub guesses : GuessesStay q bound m

abbrev pub TurnsAreLawful : Type 0
TurnsAreLawful = (q : Plan) (bound : ℕ) (m : Machine) → IsCompiled q → Reached q bound m → TurnIsLawful q bound m

-- A journal stays spread with an entry that is no lease, and with a lease where the machine was spread out before it. In none of its states
-- more tickets are out than may be, if in none of the states of its last entry, nor in those before.
pub record JournalStaysSpread (q : Plan) (bound n : ℕ) (m : Machine) (journal : List Entry) : Type 0 where
  pub by_other : (after : Machine) (entry : Entry) → is_lease entry.step ≡ false → Spreading q bound n m journal → Spreading q bound n after (journal ++ entry ∷ [])
  pub by_lease : (entry : Entry) → is_lease entry.step ≡ true → IsSpreadOut q bound n m → Spread q bound n journal → Spread q bound n (journal ++ entry ∷ [])
  pub never_more : (entry : Entry) → ((times : ℕ) → times ≤ entry.times → out_count (steps q bound m (replicate times entry.step)) ≤ n + 1)
      → NeverMore q bound n journal → NeverMore q bound n (journal ++ entry ∷ [])

abbrev pub JournalsStaySpread : Type 0
JournalsStaySpread = (q : Plan) (bound n : ℕ) (m : Machine) (journal : List Entry) → replay q bound journal ≡ m → JournalStaysSpread q bound n m journal

-- Each return that follows on a reading has a reading of its own.
abbrev pub ReturnsFollowReadings : Type 0
ReturnsFollowReadings = (journal : List Entry) → returns_read journal ≤ readings_entered journal
