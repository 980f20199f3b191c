-- A worked state: a return that rolls a child back without a word, by adding what it read in conflict to what it skipped, takes nothing back
-- as long as versions are told by their positions alone; it does where what they read is asked for.
use Rattle.std.proofs.Common.{◌≡◌, ◌≢◌, ℕ, pos, ◌<◌, ◌≤◌, Bool, true, false, ◌||◌, ◌==◌, List, [], ◌∷◌, ◌++◌, filter, map, Option, Some, None, ⊎_elim, refl, sym, ◌∙◌, subst, arith}
use Rattle.std.specs.Prelude.{codes, if◌then◌else◌}
use Rattle.std.proofs.lemmas.Option.{same_Some}
use Rattle.std.specs.List.{range_with_len}
use Rattle.sp_base.specs.Numbers.{is_among, with_numbers}
use Rattle.sp_plan.specs.declared.plan.Plan.{Plan}
use Rattle.sp_plan.specs.declared.plan.Name.{Name}
use Rattle.sp_plan.specs.declared.plan.Kind.TheVariants.{Int}
use Rattle.sp_plan.specs.declared.plan.Compare.TheVariants.{Equal}
use Rattle.sp_plan.specs.declared.plan.Select.TheVariants.{First}
use Rattle.sp_plan.specs.declared.plan.Element.TheVariants.{One}
use Rattle.sp_plan.specs.declared.plan.Length.TheVariants.{Events}
use Rattle.sp_plan.specs.declared.plan.Opening.TheVariants.{EveryEvents}
use Rattle.sp_plan.specs.declared.plan.Expr.{Literal, Column}
use Rattle.sp_plan.specs.declared.plan.Pred.{Test}
use Rattle.sp_plan.specs.declared.event.Event.{Event}
use Rattle.sp_plan.specs.declared.event.Value.TheVariants.{Number}
use Rattle.sp_plan.specs.WindowNumbers.{first}
use Rattle.sp_group.specs.declared.step.Step.{Step}
use Rattle.sp_group.specs.declared.step.Step.TheVariants as s
use Rattle.sp_group.specs.Family.{prune}
use Rattle.sp_group.specs.Rising.{has_number}
use Rattle.sp_group.specs.Machine.{Version, Ticket, Machine, kin, opening, version_at, is_read, is_hit, is_suppressed}
use Rattle.sp_group.specs.Steps.{step, steps}
use Rattle.sp_rules.specs.Schedules.{Onward}
use Rattle.sp_rules.proofs.Tree.{at_cases}

-- 0, 1 and 2 in this order, each under a name of its own that is consumed, over four events every two
abbrev number_name : List ℕ → ℕ → Name
number_name text n = record { text = text; pred = Test Equal (Column 0) (Literal (pos n)); consumed = true }

abbrev counting : Plan
counting = record {
  schema = record { columns = (record { name = codes "n"; kind = Int }) ∷ []; time = None };
  names = number_name (codes "A") 0 ∷ number_name (codes "B") 1 ∷ number_name (codes "C") 2 ∷ [];
  elements = One 0 ∷ One 1 ∷ One 2 ∷ [];
  select = First;
  length = Events 4;
  opening = EveryEvents 2;
  texts = [];
}

-- the events of the numbers 0, 9, 1 and 2
abbrev numbered : ℕ → Event
numbered n = record { time = pos 0; values = Number (pos n) ∷ [] }

abbrev four : List Event
four = map numbered (0 ∷ 9 ∷ 1 ∷ 2 ∷ [])

-- the root has read the 0; its child, under the guess that its group completes, has read the 1; and the root has read up to the 1 too
abbrev taken : List Step
taken = map (λ e. s.Feed e) four ++ s.Spawn None [] ∷ s.Lease 1 1 ∷ s.Event 1 ∷ s.Return 1
    ∷ s.Spawn (Some 1) (1 ∷ []) ∷ s.Lease 2 1 ∷ s.Event 2 ∷ s.Return 2 ∷ s.Lease 1 2 ∷ s.Event 3 ∷ s.Event 3 ∷ []

-- the root and the child
abbrev root : ℕ → Version
root position = record { id = 1; parent = None; window = 1; label = []; position = position; skipped = []; done = false }

abbrev child : List ℕ → Version
child skipped = record { id = 2; parent = Some 1; window = 2; label = 1 ∷ []; position = 1; skipped = skipped; done = false }

-- a state of both, with these tickets
abbrev state : ℕ → List ℕ → List Ticket → Machine
state position skipped tickets = record {
  events = four;
  ended = false;
  finished = 0;
  emitted = [];
  consumed = [];
  versions = child skipped ∷ root position ∷ [];
  tickets = tickets;
  next_id = 3;
  next_ticket = 4;
}

-- the root's ticket, of which all is read
abbrev ticket : Ticket
ticket = record { number = 3; version = 1; first = 2; count = 2; snapshot = []; closes = false; read = 2; closing_read = false }

abbrev before : Machine
before = state 1 [] (ticket ∷ [])

steps_lead_there : steps counting 64 opening taken ≡ before
steps_lead_there = refl

-- the numbers that a version has read although they are suppressed for it
abbrev taken_back : Plan → Machine → Version → List ℕ
taken_back q m v = filter (is_hit q m v) (range_with_len (first q m.events v.window) v.position)

-- a version that has skipped them, as if it had never read them
abbrev silenced : Plan → Machine → Version → Version
silenced q m v = record v { skipped = with_numbers v.skipped (taken_back q m v) }

-- whether a version that is silenced has read something else from then on
abbrev is_silenced : Plan → Machine → Option Version → Bool
is_silenced q m None = false
is_silenced q m (Some v) = has_number (taken_back q m v)

abbrev parent_in : Machine → Option ℕ → Option Version
parent_in m None = None
parent_in m (Some p) = version_at m.versions p

-- the versions, silenced, without what stands below those that changed
abbrev without_a_word : Plan → Machine → Machine
without_a_word q m = record m {
  versions = prune kin (λ v. if is_silenced q m (parent_in m v.parent) then None else Some (silenced q m v)) m.versions;
}

-- the state after the return of the root's ticket, where the child is rolled back without a word
abbrev after : Machine
after = state 3 (3 ∷ []) []

returned_without_a_word : without_a_word counting (step counting 64 before (s.Return 3)) ≡ after
returned_without_a_word = refl

-- nothing of a version is taken back as its position tells it, and what is suppressed
abbrev StaysByPosition : Plan → Machine → Machine → ℕ → Version → Type 0
StaysByPosition q m n id new =
    (old : Version) × (version_at m.versions id ≡ Some old) × (old.position ≤ new.position)
    × ((i : ℕ) → is_suppressed q m id i ≡ true → is_suppressed q n id i ≡ true)

abbrev OnwardByPositions : Plan → Machine → Machine → Type 0
OnwardByPositions q m n = (id : ℕ) (new : Version) → version_at n.versions id ≡ Some new → id < m.next_id → StaysByPosition q m n id new

-- the child has read the event of number 3, and then it has not
read_before : is_read counting before.events (child []) 3 ≡ true
read_before = refl

unread_after : is_read counting after.events (child (3 ∷ [])) 3 ≡ false
unread_after = refl

-- what is suppressed for the child stays so: the event of the root's group, and one more then
suppressed_before : (i : ℕ) → is_suppressed counting before 2 i ≡ (is_among (1 ∷ []) i || false)
suppressed_before i = refl

suppressed_after : (i : ℕ) → is_suppressed counting after 2 i ≡ (is_among (1 ∷ 3 ∷ []) i || false)
suppressed_after i = refl

suppressed_still : (i : ℕ) → is_suppressed counting before 2 i ≡ true → is_suppressed counting after 2 i ≡ true
suppressed_still i x = suppressed_after i ∙ more (1 == i) (3 == i) (sym (suppressed_before i) ∙ x)
  where
    more : (a b : Bool) → ((a || false) || false) ≡ true → ((a || (b || false)) || false) ≡ true
    more true b h = refl
    more false b h = absurd (cc)

-- by positions nothing is taken back
positions_go_on : OnwardByPositions counting before after
positions_go_on id new at given = ⊎_elim
    (λ (y : (2 ≡ id) × (child (3 ∷ []) ≡ new)). moved 2 (child (3 ∷ [])) y.0 y.1 (child [], refl, omega arith, suppressed_still))
    (λ (y : (2 ≢ id) × (version_at (root 3 ∷ []) id ≡ Some new)). ⊎_elim
    (λ (z : (1 ≡ id) × (root 3 ≡ new)). moved 1 (root 3) z.0 z.1 (root 1, refl, omega arith, λ i x. x))
    (λ (z : (1 ≢ id) × (version_at [] id ≡ Some new)). let none = z.1 in absurd (cc))
    (at_cases (root 3) [] id new y.1))
    (at_cases (child (3 ∷ [])) (root 3 ∷ []) id new at)
  where
    moved : (n : ℕ) (v : Version) → n ≡ id → v ≡ new → StaysByPosition counting before after n v → StaysByPosition counting before after id new
    moved n v same is x = subst (λ (k : ℕ). StaysByPosition counting before after k new) same (subst (λ (w : Version). StaysByPosition counting before after n w) is x)

-- but what the child has read is taken back
child_is_taken_back : Onward counting before after → ⊥
child_is_taken_back onward =
    let back = onward 2 (child (3 ∷ [])) refl (omega arith) in
    let same : child [] ≡ back.0 = same_Some (child []) back.0 back.1 in
    let read = back.2.read 3 (subst (λ (v : Version). is_read counting before.events v 3 ≡ true) same read_before) in
    let no : false ≡ true = sym unread_after ∙ read in
    absurd (cc)
