-- The steps of the machine: what each answers, what a list of them leads to, and what a journal of them says.
use Rattle.std.specs.Prelude.{◌≡◌, ◌⊎◌, ℕ, ◌+◌, ◌≤◌, Bool, true, false, List, [], ◌∷◌, ◌++◌, length, Option, Some, None, is_some, is_none, nat_lt, filter, replicate, if◌then◌else◌}
use Rattle.std.specs.List.{All, fold, list_any}
use Rattle.sp_base.specs.Numbers.{is_among}
use Rattle.sp_plan.specs.declared.found.Match.{Match}
use Rattle.sp_plan.specs.declared.plan.Plan.{Plan}
use Rattle.sp_plan.specs.WindowNumbers.{count}
use Rattle.sp_group.specs.declared.refusal.Refusal.{Refusal}
use Rattle.sp_group.specs.declared.step.Entry.{Entry}
use Rattle.sp_group.specs.declared.step.Step.{Step}
use Rattle.sp_group.specs.declared.step.Step.TheVariants as s
use Rattle.sp_group.specs.Family.{is_parent}
use Rattle.sp_group.specs.Machine.{Version, Ticket, Machine, opening, version_at, ticket_at, is_out, root_in}
use Rattle.sp_group.specs.Refusing.{refusal, id_of}
use Rattle.sp_group.specs.Effects.{lent, new_matches, finished_one, effect}

-- What a step that is done answers: the event's number; that input has ended; the new version's id; the ticket; which event was read, and
-- whether it was passed over; that the closing was read; whether a reading came home to a live version; the new id; the window that is
-- finished, its matches, and the root from now on.
pub data Answered : Type 0 where
  Fed : (number : ℕ) → Answered
  Ended : Answered
  Spawned : (id : ℕ) → Answered
  Leased : (ticket : Ticket) → Answered
  Read : (number : ℕ) → (skipped : Bool) → Answered
  Closed : Answered
  Home : Answered
  Stale : Answered
  Rolled : (id : ℕ) → Answered
  Finished : (window : ℕ) → (matches : List Match) → (root : Option ℕ) → Answered
  Nothing : Answered

abbrev pub lease_answer : Plan → Machine → ℕ → Option Version → Answered
lease_answer q m n None = Nothing
lease_answer q m n (Some v) = Leased (lent q m n v)

abbrev pub event_answer : Option Ticket → Answered
event_answer None = Nothing
event_answer (Some t) = if nat_lt t.read t.count then Read (t.first + t.read) (is_among t.snapshot (t.first + t.read)) else Closed

abbrev pub return_answer : Machine → Option Ticket → Answered
return_answer m None = Nothing
return_answer m (Some t) = if is_some (version_at m.versions t.version) then Home else Stale

abbrev pub finish_answer : Plan → Machine → Option Version → Answered
finish_answer q m None = Nothing
finish_answer q m (Some v) = Finished v.window (new_matches q m v) (id_of (root_in (finished_one q m (Some v)).versions))

-- what a step answers where it is not refused
abbrev pub answer : Plan → Machine → Step → Answered
answer q m (s.Feed e) = Fed (length m.events + 1)
answer q m s.End = Ended
answer q m (s.Spawn parent label) = Spawned m.next_id
answer q m (s.Lease id n) = lease_answer q m n (version_at m.versions id)
answer q m (s.Event n) = event_answer (ticket_at m.tickets n)
answer q m (s.Return n) = return_answer m (ticket_at m.tickets n)
answer q m (s.Roll id) = Rolled m.next_id
answer q m s.Finish = finish_answer q m (root_in m.versions)

-- a step is refused, or it is done and answers
pub data Reply : Type 0 where
  Refused : (refusal : Refusal) → Reply
  Done : (answer : Answered) → Reply

abbrev pub replied : Option Refusal → Answered → Reply
replied None answer = Done answer
replied (Some refusal) answer = Refused refusal

abbrev pub reply : Plan → ℕ → Machine → Step → Reply
reply q bound m x = replied (refusal q bound m x) (answer q m x)

-- the new state, where the step is not refused, and else the old one
abbrev pub unless_refused : Option Refusal → Machine → Machine → Machine
unless_refused None old new = new
unless_refused (Some refusal) old new = old

-- the state after a step: one that is refused changes nothing
abbrev pub step : Plan → ℕ → Machine → Step → Machine
step q bound m x = unless_refused (refusal q bound m x) m (effect q m x)

-- the state after steps, one after another
abbrev pub steps : Plan → ℕ → Machine → List Step → Machine
steps q bound m xs = fold (step q bound) m xs

-- the state after a journal's entry
abbrev pub after_entry : Plan → ℕ → Machine → Entry → Machine
after_entry q bound m entry = steps q bound m (replicate entry.times entry.step)

-- the state to which a journal leads from the opening
abbrev pub replay : Plan → ℕ → List Entry → Machine
replay q bound journal = fold (after_entry q bound) opening journal

-- whether a version could be leased now
abbrev pub is_ready : Plan → ℕ → Machine → Version → Bool
is_ready q bound m v = is_none (refusal q bound m (s.Lease v.id 1))

-- whether a version is being worked on, or could be
abbrev pub is_busy : Plan → ℕ → Machine → Version → Bool
is_busy q bound m v = if is_out m.tickets v.id then true else is_ready q bound m v

-- whether a version has a child
abbrev pub has_child : List Version → Version → Bool
has_child versions v = list_any (λ w. is_parent v.id w.parent) versions

-- how many tickets of live versions are out
abbrev pub out_count : Machine → ℕ
out_count m = length (filter (λ t. is_some (version_at m.versions t.version)) m.tickets)

-- The machine is spread over n places more than one: so many versions are out or ready, or the bound is reached, or each version whose
-- next window is there has a child.
abbrev pub IsSpreadOut : Plan → ℕ → ℕ → Machine → Type 0
IsSpreadOut q bound n m =
    (n + 1 ≤ length (filter (is_busy q bound m) m.versions))
    ⊎ (length m.versions ≡ bound)
    ⊎ All (λ v. v.window + 1 ≤ count q m.events → has_child m.versions v ≡ true) m.versions

-- So many tickets of live versions are out, or no version is ready.
abbrev pub IsLentOut : Plan → ℕ → ℕ → Machine → Type 0
IsLentOut q bound n m = (n + 1 ≤ out_count m) ⊎ (filter (is_ready q bound m) m.versions ≡ [])

-- whether an entry is a lease
abbrev pub is_lease : Step → Bool
is_lease (s.Lease id n) = true
is_lease (s.Feed e) = false
is_lease s.End = false
is_lease (s.Spawn parent label) = false
is_lease (s.Event n) = false
is_lease (s.Return n) = false
is_lease (s.Roll id) = false
is_lease s.Finish = false

-- A journal spreads its work over n places more than one: before each lease the machine is spread out, and behind the last lease of each
-- run of leases so many tickets are out, or nothing is left to lease.
pub record Spread (q : Plan) (bound n : ℕ) (journal : List Entry) : Type 0 where
  pub before_leases : (before after : List Entry) (entry : Entry) → journal ≡ before ++ entry ∷ after → is_lease entry.step ≡ true
      → IsSpreadOut q bound n (replay q bound before)
  pub behind_leases : (before after : List Entry) (lease entry : Entry) → journal ≡ before ++ lease ∷ entry ∷ after
      → is_lease lease.step ≡ true → is_lease entry.step ≡ false → IsLentOut q bound n (replay q bound (before ++ lease ∷ []))
