-- What a run takes, and what the runs over a list of visible events come to.
use Rattle.std.specs.Prelude.{ℕ, ◌+◌, Bool, true, false, ◌&&◌, ◌||◌, not, List, [], ◌∷◌, ◌++◌, length, Option, Some, None, is_some, is_none, slice_get, ◌==◌, nat_lt, filter, map, find, if◌then◌else◌}
use Rattle.std.specs.List.{list_any, list_all, last_or, range_with_len, flat_map, fold}
use Rattle.sp_base.specs.Numbers.{is_among}
use Rattle.sp_plan.specs.declared.event.Event.{Event}
use Rattle.sp_plan.specs.declared.plan.Plan.{Plan}
use Rattle.sp_plan.specs.declared.plan.Name.{Name}
use Rattle.sp_plan.specs.declared.plan.Element.{Element}
use Rattle.sp_plan.specs.declared.plan.Element.TheVariants.{One, Plus, Set, Never}
use Rattle.sp_plan.specs.declared.plan.Select.{Select}
use Rattle.sp_plan.specs.declared.plan.Select.TheVariants.{First, Last, Each}
use Rattle.sp_plan.specs.Values.{holds}
use Rattle.sp_plan.specs.Windows.{Numbered}

-- an event that is bound to a name
pub record Pair : Type 0 where
  pub name : ℕ
  pub number : ℕ
  pub event : Event

-- a run, which is a partial match: its pairs in the order in which they were bound
abbrev pub Run : Type 0
Run = List Pair

-- the names of an element, in written order
abbrev pub names_of : Element → List ℕ
names_of (One a) = a ∷ []
names_of (Plus a) = a ∷ []
names_of (Set first count) = range_with_len first count
names_of (Never a) = a ∷ []

-- those to which a run binds events: a negated name binds none
abbrev pub binds : Element → List ℕ
binds (Never a) = []
binds element = names_of element

-- whether a run has bound an event to the name
abbrev pub is_bound : Run → ℕ → Bool
is_bound r name = list_any (λ pair. pair.name == name) r

-- whether a run has bound an event to each name of the element that binds some
abbrev pub is_filled : Run → Element → Bool
is_filled r element = list_all (is_bound r) (binds element)

-- the names of an element to which a run has still to bind an event
abbrev pub unbound : Run → Option Element → List ℕ
unbound r None = []
unbound r (Some element) = filter (λ name. not (is_bound r name)) (binds element)

-- whether an element is the name once or more
abbrev pub is_plus : ℕ → Element → Bool
is_plus name (Plus b) = b == name
is_plus name (One a) = false
is_plus name (Set first count) = false
is_plus name (Never a) = false

-- the name of the last pair again, where it may be bound more than once
abbrev pub again : List Element → Option Pair → List ℕ
again elements None = []
again elements (Some pair) = if list_any (is_plus pair.name) elements then pair.name ∷ [] else []

-- the names that a run may take next, in the order in which they are tried:
-- those that the first element not yet filled lacks, and then the last name again where it may be bound more than once
abbrev pub wanted : Plan → Run → List ℕ
wanted q r = unbound r (find (λ element. not (is_filled r element)) q.elements) ++ again q.elements (last_or None r)

-- the events of a run as predicates read them
abbrev pub bound_events : Run → List (ℕ × Event)
bound_events r = map (λ pair. (pair.name, pair.event)) r

-- whether an event fulfils the predicate of a name
abbrev pub fits_name : Option Name → Run → Event → Bool
fits_name None r e = false
fits_name (Some name) r e = holds name.pred e (bound_events r)

abbrev pub name_holds : Plan → Run → Event → ℕ → Bool
name_holds q r e name = fits_name (slice_get q.names name) r e

-- the name under which a run takes an event, if it takes it
abbrev pub takes : Plan → Run → Event → Option ℕ
takes q r e = find (name_holds q r e) (wanted q r)

-- the negated names in front of these elements
abbrev pub leading : List Element → List ℕ
leading [] = []
leading (Never a ∷ elements) = a ∷ leading elements
leading (element ∷ elements) = []

-- of these elements those behind the one to which events of the name are bound, where the run has filled that
abbrev pub behind : Run → ℕ → List Element → List Element
behind r name [] = []
behind r name (element ∷ elements) =
    if is_among (binds element) name then (if is_filled r element then elements else []) else behind r name elements

-- the negated names that stand right behind the element of a pair, where the run has filled that
abbrev pub guards_behind : List Element → Run → Option Pair → List ℕ
guards_behind elements r None = []
guards_behind elements r (Some pair) = leading (behind r pair.name elements)

-- the names that guard a run: it is abandoned by an event that it doesn't take and that fulfils the predicate of one of them
abbrev pub guards : Plan → Run → List ℕ
guards q r = guards_behind q.elements r (last_or None r)

-- whether an event fulfils the predicate of a name that guards the run
abbrev pub guarded : Plan → Run → Event → Bool
guarded q r e = list_any (name_holds q r e) (guards q r)

-- whether every element is filled
abbrev pub is_complete : Plan → Run → Bool
is_complete q r = list_all (is_filled r) q.elements

-- whether the query consumes the events of a name
abbrev pub is_consumed : Option Name → Bool
is_consumed None = false
is_consumed (Some name) = name.consumed

-- the numbers of the events that a run binds to consumed names
abbrev pub used : Plan → Run → List ℕ
used q r = map (λ pair. pair.number) (filter (λ pair. is_consumed (slice_get q.names pair.name)) r)

-- whether a run holds one of the numbers, under whatever name
abbrev pub holds_one : List ℕ → Run → Bool
holds_one ns r = list_any (λ pair. is_among ns pair.number) r

-- the numbers of the events that a run binds to a name
abbrev pub numbers_under : Run → ℕ → List ℕ
numbers_under r name = map (λ pair. pair.number) (filter (λ pair. pair.name == name) r)

-- the names of the plan that aren't negated, in their order
abbrev pub bound_names : Plan → List ℕ
bound_names q = flat_map binds q.elements

-- each of them with the numbers of the events that a run binds to it
abbrev pub bindings : Plan → Run → List (ℕ × List ℕ)
bindings q r = map (λ name. (name, numbers_under r name)) (bound_names q)

-- a run with its number: runs are numbered from 1 in the order of their start
abbrev pub Started : Type 0
Started = ℕ × Run

-- the open runs, the runs that matched, and how many runs have started
pub record State : Type 0 where
  pub open_runs : List Started
  pub matched : List Started
  pub started : ℕ

-- how far the handling of an event has come: the runs kept, those that matched in it, and the numbers that these used
pub record Handling : Type 0 where
  pub kept : List Started
  pub matched : List Started
  pub taken : List ℕ

-- no event was visible yet
abbrev pub fresh : State
fresh = record { open_runs = []; matched = []; started = 0 }

-- a run that has matched: each other run that holds one of its used numbers leaves
abbrev pub completed : Plan → Handling → Started → Handling
completed q h run = record {
  kept = filter (λ other. not (holds_one (used q run.1) other.1)) h.kept;
  matched = h.matched ++ run ∷ [];
  taken = h.taken ++ used q run.1;
}

-- a run stays open
abbrev pub kept_with : Handling → Started → Handling
kept_with h run = record h { kept = h.kept ++ run ∷ [] }

-- a run that has one pair more
abbrev pub grown : Plan → Handling → Started → Handling
grown q h run = if is_complete q run.1 then completed q h run else kept_with h run

-- whether the policy has each run leave that doesn't take an event: under LAST where the event begins a run
abbrev pub leaves : Select → Plan → Event → Bool
leaves Last q e = is_some (takes q [] e)
leaves First q e = false
leaves Each q e = false

-- whether an open run that doesn't take the event leaves
abbrev pub departs : Plan → Run → Event → Bool
departs q r e = leaves q.select q e || guarded q r e

-- a run that doesn't take the event
abbrev pub passed : Plan → Handling → Started → Event → Handling
passed q h run e = if departs q run.1 e then h else kept_with h run

-- what a run does with an event, by the name under which it takes it
abbrev pub offered : Plan → Numbered → Handling → Started → Option ℕ → Handling
offered q x h run (Some name) = grown q h (run.0, run.1 ++ (record { name = name; number = x.0; event = x.1 }) ∷ [])
offered q x h run None = passed q h run x.1

-- one open run in the handling of an event: it leaves where it holds a used number, and is offered no event that is used
abbrev pub handle_run : Plan → Numbered → Handling → Started → Handling
handle_run q x h run =
    if holds_one h.taken run.1 then h
    else if is_among h.taken x.0 then kept_with h run
    else offered q x h run (takes q run.1 x.1)

-- whether no run is open
abbrev pub no_runs : List Started → Bool
no_runs [] = true
no_runs (run ∷ runs) = false

-- whether the policy lets the event start a run
abbrev pub may_start : Select → Plan → State → Handling → Numbered → Bool
may_start First q before h x = no_runs before.open_runs
may_start Last q before h x = list_all (λ run. is_none (takes q run.1 x.1)) before.open_runs
may_start Each q before h x = not (is_among h.taken x.0) && nat_lt (length h.kept) 64

-- the new run, where one starts
abbrev pub started_with : Plan → Numbered → Handling → ℕ → Option ℕ → State
started_with q x h count None = record { open_runs = h.kept; matched = h.matched; started = count }
started_with q x h count (Some name) =
    let h' = grown q h (count + 1, (record { name = name; number = x.0; event = x.1 }) ∷ []) in
    record { open_runs = h'.kept; matched = h'.matched; started = count + 1 }

-- one visible event more: the open runs are offered it, the oldest first, and then it may start one
abbrev pub handle : Plan → State → Numbered → State
handle q s x =
    let h = fold (handle_run q x) (record { kept = []; matched = s.matched; taken = [] }) s.open_runs in
    started_with q x h s.started (if may_start q.select q s h x then takes q [] x.1 else None)

-- the state after the visible events
abbrev pub state : Plan → List Numbered → State
state q visible = fold (handle q) fresh visible

-- the state after the window's closing: no run is open any more
abbrev pub after_closing : State → State
after_closing s = record s { open_runs = [] }

-- the runs that matched
abbrev pub matched_runs : State → List Run
matched_runs s = map (λ run. run.1) s.matched
