-- What the steps of a stage keep, one after another: for each kind of step, whether it went well (`Went`, `Goes`), what it emits and reads.
use Rattle.std.proofs.Common.{◌≡◌, ℕ, zero, suc, ◌+◌, ◌≤◌, Bool, true, false, cond, List, [], ◌∷◌, ◌++◌, Option, None, Some, is_some, refl, sym, ap, subst, ◌∙◌, append_assoc, arith}
use Rattle.std.specs.Prelude.{replicate}
use Rattle.std.proofs.lemmas.Grind.{flat_map-append}
use Rattle.std.proofs.lemmas.List.{append-nil}
use Rattle.std.proofs.lemmas.List.Elements.{All-append, All-cons, All-nil, All-push}
use Rattle.std.proofs.lemmas.List.Sums.{fold-append, sum_by-append, sum_by_push}
use Rattle.std.proofs.Math.Nat.{le_trans}
use Rattle.sp_plan.specs.declared.found.Match.{Match}
use Rattle.sp_plan.specs.declared.plan.Plan.{Plan}
use Rattle.sp_plan.specs.Compiled.{IsCompiled}
use Rattle.sp_group.specs.declared.refusal.Refusal.{Refusal}
use Rattle.sp_group.specs.declared.step.Entry.{Entry}
use Rattle.sp_group.specs.declared.step.Step.{Step}
use Rattle.sp_group.specs.declared.step.Step.TheVariants as s
use Rattle.sp_group.specs.Rising.{IsLabel}
use Rattle.sp_group.specs.Machine.{Machine, Ticket, Version, conflict, opening, version_at, ticket_at, root_in}
use Rattle.sp_group.specs.Refusing.{refusal, return_refusal}
use Rattle.sp_group.specs.Effects.{any_spawned, child_spawned, event_read, effect, finished_one, home, leased, new_matches, popped, returned, rolled, settled}
use Rattle.sp_group.specs.Steps.{Finished, IsSpreadOut, Spread, after_entry, finish_answer, is_lease, out_count, replay, step, steps, unless_refused}
use Rattle.sp_rules.specs.Returning.{reads, reads_and_return}
use Rattle.sp_rules.specs.Schedules.{FitsStep, Reached}
use Rattle.sp_core.specs.declared.emitted.Emitted.{Emitted}
use Rattle.sp_core.specs.Finishing.{IsEmitted}
use Rattle.sp_core.specs.Returning.{after_return, reading_entries}
use Rattle.sp_core.specs.Running.{IsDone, Running, after, once, refused}
use Rattle.sp_spread.specs.Journaled.{fed, fed_by, is_reading, readings_entered}
use Rattle.sp_spread.specs.Laws.{JournalsStaySpread, TurnsAreLawful}
use Rattle.sp_spread.specs.Limiting.{AsksAtMost, NeverMore, asked_by}
use Rattle.sp_spread.specs.Spreading.{Spreading}
use Rattle.sp_splitter.specs.Knowing.{Known}
use Rattle.sp_splitter.specs.Stages.{Goes, IsSpreading, NoneEmitted, NoneRead, StaysWithin, Went}

-- what is known of a core, of what its look-ups and the laws say
pub known_of : TurnsAreLawful → JournalsStaySpread → (c : Running) → IsCompiled c.plan → Reached c.plan c.bound c.machine
    → replay c.plan c.bound c.journal ≡ c.machine → Known c
known_of lawful stays c compiled reached replays = record {
  compiled = compiled;
  reached = reached;
  lawful = lawful c.plan c.bound c.machine compiled reached;
  replays = replays;
  stays = stays;
}

-- where nothing came into the journal
pub within_itself : (n batch : ℕ) (c : Running) → StaysWithin n batch c c
within_itself n batch c = record { never = λ few never. never; asked = λ asked. asked }

-- where nothing was done
pub went_none : (n batch : ℕ) (old new : Running) → new ≡ old → Went n batch old new
went_none n batch old new same = subst (λ (z : Running). Went n batch old z) (sym same) (record {
  plan = refl;
  bound = refl;
  events = refl;
  ended = refl;
  fed_are = refl;
  more = [];
  emitted = sym (append-nil old.machine.emitted);
  spread = λ spreading. spreading.spread;
  few = λ few. few;
  within = within_itself n batch old;
  tickets = omega arith;
  finished = omega arith;
})

pub goes_none : (n : ℕ) (old new : Running) → new ≡ old → Goes n old new
goes_none n old new same = subst (λ (z : Running). Goes n old z) (sym same) (λ spreading. spreading)

-- one after another
pub goes_then : (n : ℕ) (a b c : Running) → Goes n a b → Goes n b c → Goes n a c
goes_then n a b c first then spreading = then (first spreading)

pub within_then : (n batch : ℕ) (a b c : Running) → (out_count a.machine ≤ n + 1 → out_count b.machine ≤ n + 1) → StaysWithin n batch a b
    → StaysWithin n batch b c → StaysWithin n batch a c
within_then n batch a b c few first then = record {
  never = λ before never. then.never (few before) (first.never before never);
  asked = λ asked. then.asked (first.asked asked);
}

pub went_then : (n batch : ℕ) (a b c : Running) → Goes n a b → Went n batch a b → Went n batch b c → Went n batch a c
went_then n batch a b c goes first then = record {
  plan = then.plan ∙ first.plan;
  bound = then.bound ∙ first.bound;
  events = then.events ∙ first.events;
  ended = then.ended ∙ first.ended;
  fed_are = then.fed_are ∙ first.fed_are;
  more = first.more ++ then.more;
  emitted = then.emitted ∙ ap (λ (z : List Match). z ++ then.more) first.emitted ∙ append_assoc a.machine.emitted first.more then.more;
  spread = λ spreading. then.spread (goes spreading);
  few = λ few. then.few (first.few few);
  within = within_then n batch a b c first.few first.within then.within;
  tickets = le_trans first.tickets then.tickets;
  finished = le_trans first.finished then.finished;
}

-- what a step that is done leads to
pub step_done : (c : Running) (x : Step) → refused c x ≡ None → step c.plan c.bound c.machine x ≡ effect c.plan c.machine x
step_done c x passes = ap (λ (o : Option Refusal). unless_refused o c.machine (effect c.plan c.machine x)) passes

-- one entry more feeds what its step feeds, and is a reading where its step is
pub fed_more : (journal : List Entry) (x : Step) → fed_by x ≡ [] → fed (journal ++ once x ∷ []) ≡ fed journal
fed_more journal x none =
    flat_map-append (λ (e : Entry). fed_by e.step) journal (once x ∷ []) ∙ ap (λ z. fed journal ++ (z ++ [])) none ∙ append-nil (fed journal)

pub readings_more : (journal : List Entry) (e : Entry) → readings_entered (journal ++ e ∷ []) ≡ readings_entered journal + cond (is_reading e.step) 1 0
readings_more journal e = sum_by_push (λ (x : Entry). cond (is_reading x.step) 1 0) journal e

-- neither the next ticket's number falls nor the count of windows that are finished
pub record Rises (m n : Machine) : Type 0 where
  pub tickets : m.next_ticket ≤ n.next_ticket
  pub finished : m.finished ≤ n.finished

rises_itself : (m : Machine) → Rises m m
rises_itself m = record { tickets = omega arith; finished = omega arith }

rises_then : (a b c : Machine) → Rises a b → Rises b c → Rises a c
rises_then a b c first then = record { tickets = le_trans first.tickets then.tickets; finished = le_trans first.finished then.finished }

rises_rolled : (m : Machine) (o : Option Version) → Rises m (rolled m o)
rises_rolled m None = rises_itself m
rises_rolled m (Some v) = record { tickets = omega arith; finished = omega arith }

rises_child : (m : Machine) (p : ℕ) (label : List ℕ) (o : Option Version) → Rises m (child_spawned m p label o)
rises_child m p label None = rises_itself m
rises_child m p label (Some u) = record { tickets = omega arith; finished = omega arith }

rises_spawned : (m : Machine) (parent : Option ℕ) (label : List ℕ) → Rises m (any_spawned m parent label)
rises_spawned m None label = record { tickets = omega arith; finished = omega arith }
rises_spawned m (Some p) label = rises_child m p label (version_at m.versions p)

rises_leased : (q : Plan) (m : Machine) (n : ℕ) (o : Option Version) → Rises m (leased q m n o)
rises_leased q m n None = rises_itself m
rises_leased q m n (Some v) = record { tickets = omega arith; finished = omega arith }

rises_home : (q : Plan) (m : Machine) (n : ℕ) (t : Ticket) (o : Option Version) → Rises m (home q m n t o)
rises_home q m n t None = record { tickets = omega arith; finished = omega arith }
rises_home q m n t (Some v) = record { tickets = omega arith; finished = omega arith }

rises_returned : (q : Plan) (m : Machine) (n : ℕ) (o : Option Ticket) → Rises m (returned q m n o)
rises_returned q m n None = rises_itself m
rises_returned q m n (Some t) = rises_home q m n t (version_at m.versions t.version)

rises_settled : (q : Plan) (m : Machine) (o : Option Version) → Rises m (settled q m o)
rises_settled q m None = rises_itself m
rises_settled q m (Some v) = by (is_some (conflict q m v))
  where
    by : (b : Bool) → Rises m (cond b (rolled m (Some v)) m)
    by true = rises_rolled m (Some v)
    by false = rises_itself m

rises_finished : (q : Plan) (m : Machine) (o : Option Version) → Rises m (finished_one q m o)
rises_finished q m None = rises_itself m
rises_finished q m (Some v) =
    rises_then m (popped q m v) (finished_one q m (Some v)) (record { tickets = omega arith; finished = omega arith })
    (rises_settled q (popped q m v) (root_in (popped q m v).versions))

rises_after : (q : Plan) (m : Machine) (x : Step) → Rises m (effect q m x)
rises_after q m (s.Feed e) = record { tickets = omega arith; finished = omega arith }
rises_after q m s.End = record { tickets = omega arith; finished = omega arith }
rises_after q m (s.Spawn parent label) = rises_spawned m parent label
rises_after q m (s.Lease id n) = rises_leased q m n (version_at m.versions id)
rises_after q m (s.Event n) = record { tickets = omega arith; finished = omega arith }
rises_after q m (s.Return n) = rises_returned q m n (ticket_at m.tickets n)
rises_after q m (s.Roll id) = rises_rolled m (version_at m.versions id)
rises_after q m s.Finish = rises_finished q m (root_in m.versions)

pub rises_done : (x : Step) (old new : Running) → IsDone x old new → Rises old.machine new.machine
rises_done x old new done = subst (λ (z : Running). Rises old.machine z.machine) (sym done.1) (rises_after old.plan old.machine x)

rises_unless : (o : Option Refusal) (m n : Machine) → Rises m n → Rises m (unless_refused o m n)
rises_unless None m n rises = rises
rises_unless (Some refusal) m n rises = rises_itself m

rises_steps : (q : Plan) (bound : ℕ) (m : Machine) (xs : List Step) → Rises m (steps q bound m xs)
rises_steps q bound m [] = rises_itself m
rises_steps q bound m (x ∷ xs) =
    rises_then m (step q bound m x) (steps q bound (step q bound m x) xs) (rises_unless (refusal q bound m x) m (effect q m x) (rises_after q m x))
    (rises_steps q bound (step q bound m x) xs)

-- the states of an entry whose step is done once
once_few : (q : Plan) (bound n : ℕ) (m : Machine) (x : Step) → out_count m ≤ n + 1 → out_count (step q bound m x) ≤ n + 1 → (times : ℕ) → times ≤ 1
    → out_count (steps q bound m (replicate times x)) ≤ n + 1
once_few q bound n m x before after zero low = before
once_few q bound n m x before after (suc zero) low = after
once_few q bound n m x before after (suc (suc times)) low = absurd (omega arith)

-- one step, where more tickets than may be are out neither before it nor behind it
pub never_once : (n : ℕ) (x : Step) (old new : Running) → Known old → IsDone x old new → out_count old.machine ≤ n + 1 → out_count new.machine ≤ n + 1
    → NeverMore old.plan old.bound n old.journal → NeverMore new.plan new.bound n new.journal
never_once n x old new known done before after never =
    let stays = known.stays old.plan old.bound n old.machine old.journal known.replays in
    let machine : new.machine ≡ effect old.plan old.machine x = ap (λ (z : Running). z.machine) done.1 in
    let behind : out_count (step old.plan old.bound old.machine x) ≤ n + 1 =
    subst (λ (z : Machine). out_count z ≤ n + 1) (machine ∙ sym (step_done old x done.0)) after in
    subst (λ (z : Running). NeverMore z.plan z.bound n z.journal) (sym done.1)
    (stays.never_more (once x) (once_few old.plan old.bound n old.machine x before behind) never)

-- one step that asks for no more than a batch
pub asked_once : (batch : ℕ) (x : Step) (old new : Running) → IsDone x old new → asked_by x ≤ batch → AsksAtMost batch old.journal → AsksAtMost batch new.journal
asked_once batch x old new done most asked =
    subst (λ (z : Running). AsksAtMost batch z.journal) (sym done.1) (All-push (λ (e : Entry). asked_by e.step ≤ batch) old.journal (once x) asked most)

-- what is no lease asks for nothing
none_asked : (batch : ℕ) (x : Step) → is_lease x ≡ false → asked_by x ≤ batch
none_asked batch (s.Feed e) other = omega arith
none_asked batch s.End other = omega arith
none_asked batch (s.Spawn parent label) other = omega arith
none_asked batch (s.Lease id n) other = absurd (cc)
none_asked batch (s.Event n) other = omega arith
none_asked batch (s.Return n) other = omega arith
none_asked batch (s.Roll id) other = omega arith
none_asked batch s.Finish other = omega arith

-- one step that is no lease, behind which no more tickets are out
pub within_once : (n batch : ℕ) (x : Step) (old new : Running) → Known old → IsDone x old new → is_lease x ≡ false
    → out_count new.machine ≤ out_count old.machine → StaysWithin n batch old new
within_once n batch x old new known done lease less = record {
  never = λ few never. never_once n x old new known done few (le_trans less few) never;
  asked = λ asked. asked_once batch x old new done (none_asked batch x lease) asked;
}

-- one step that is no lease and feeds nothing
pub went_step : (n batch : ℕ) (x : Step) (more : List Match) (old new : Running) → Known old → FitsStep old.plan old.bound old.machine x → IsDone x old new
    → is_lease x ≡ false → fed_by x ≡ [] → new.machine.events ≡ old.machine.events → new.machine.ended ≡ old.machine.ended
    → new.machine.emitted ≡ old.machine.emitted ++ more → Went n batch old new
went_step n batch x more old new known fits done lease none events ended emitted =
    let q = old.plan in
    let stays = known.stays q old.bound n old.machine old.journal known.replays in
    let journal : new.journal ≡ old.journal ++ once x ∷ [] = ap (λ (z : Running). z.journal) done.1 in
    let machine : new.machine ≡ effect q old.machine x = ap (λ (z : Running). z.machine) done.1 in
    let plan : new.plan ≡ q = ap (λ (z : Running). z.plan) done.1 in
    let bound : new.bound ≡ old.bound = ap (λ (z : Running). z.bound) done.1 in
    let least : out_count (step q old.bound old.machine x) ≤ out_count old.machine = known.lawful.out.no_more x fits lease in
    let less : out_count new.machine ≤ out_count old.machine =
    subst (λ (z : Machine). out_count z ≤ out_count old.machine) (step_done old x done.0 ∙ sym machine) least in
    record {
      plan = plan;
      bound = bound;
      events = events;
      ended = ended;
      fed_are = ap fed journal ∙ fed_more old.journal x none;
      more = more;
      emitted = emitted;
      spread = λ spreading. subst (λ (z : Running). Spread z.plan z.bound n z.journal) (sym done.1) (stays.by_other new.machine (once x) lease spreading).spread;
      few = λ few. omega arith;
      within = within_once n batch x old new known done lease less;
      tickets = (rises_done x old new done).tickets;
      finished = (rises_done x old new done).finished;
    }

pub goes_step : (n : ℕ) (x : Step) (old new : Running) → Known old → IsDone x old new → is_lease x ≡ false → Goes n old new
goes_step n x old new known done lease spreading =
    let stays = known.stays old.plan old.bound n old.machine old.journal known.replays in
    subst (λ (z : Running). IsSpreading n z) (sym done.1) (stays.by_other (effect old.plan old.machine x) (once x) lease spreading)

same_unless : (b : Bool) (now then : ℕ) → b ≡ false → now ≡ then + cond b 1 0 → now ≡ then
same_unless true now then none is = absurd (cc)
same_unless false now then none is = omega arith

pub none_read_step : (x : Step) (old new : Running) → IsDone x old new → is_reading x ≡ false → NoneRead old new
none_read_step x old new done none =
    same_unless (is_reading x) (readings_entered new.journal) (readings_entered old.journal) none
    (ap (λ (z : Running). readings_entered z.journal) done.1 ∙ readings_more old.journal (once x))

-- what most steps leave as it was
pub record Leaves (m n : Machine) : Type 0 where
  pub events : n.events ≡ m.events
  pub ended : n.ended ≡ m.ended
  pub emitted : n.emitted ≡ m.emitted

pub leaves_itself : (m : Machine) → Leaves m m
leaves_itself m = record { events = refl; ended = refl; emitted = refl }

pub leaves_then : (a b c : Machine) → Leaves a b → Leaves b c → Leaves a c
leaves_then a b c first then = record { events = then.events ∙ first.events; ended = then.ended ∙ first.ended; emitted = then.emitted ∙ first.emitted }

pub leaves_rolled : (m : Machine) (o : Option Version) → Leaves m (rolled m o)
leaves_rolled m None = leaves_itself m
leaves_rolled m (Some v) = record { events = refl; ended = refl; emitted = refl }

pub leaves_spawned : (m : Machine) (parent : Option ℕ) (label : List ℕ) → Leaves m (any_spawned m parent label)
leaves_spawned m None label = record { events = refl; ended = refl; emitted = refl }
leaves_spawned m (Some p) label = child (version_at m.versions p)
  where
    child : (o : Option Version) → Leaves m (child_spawned m p label o)
    child None = leaves_itself m
    child (Some u) = record { events = refl; ended = refl; emitted = refl }

pub leaves_leased : (q : Plan) (m : Machine) (n : ℕ) (o : Option Version) → Leaves m (leased q m n o)
leaves_leased q m n None = leaves_itself m
leaves_leased q m n (Some v) = record { events = refl; ended = refl; emitted = refl }

pub leaves_home : (q : Plan) (m : Machine) (n : ℕ) (t : Ticket) (o : Option Version) → Leaves m (home q m n t o)
leaves_home q m n t None = record { events = refl; ended = refl; emitted = refl }
leaves_home q m n t (Some v) = record { events = refl; ended = refl; emitted = refl }

pub leaves_returned : (q : Plan) (m : Machine) (n : ℕ) (o : Option Ticket) → Leaves m (returned q m n o)
leaves_returned q m n None = leaves_itself m
leaves_returned q m n (Some t) = leaves_home q m n t (version_at m.versions t.version)

-- a step that leaves all this, done or refused
leaves_unless : (o : Option Refusal) (m n : Machine) → Leaves m n → Leaves m (unless_refused o m n)
leaves_unless None m n leaves = leaves
leaves_unless (Some refusal) m n leaves = leaves_itself m

-- the readings of a ticket, and its return
pub leaves_read : (q : Plan) (bound : ℕ) (m : Machine) (n times : ℕ) → Leaves m (steps q bound m (reads n times))
leaves_read q bound m n zero = leaves_itself m
leaves_read q bound m n (suc times) =
    leaves_then m (step q bound m (s.Event n)) (steps q bound (step q bound m (s.Event n)) (reads n times))
    (leaves_unless (refusal q bound m (s.Event n)) m (event_read m n) (record { events = refl; ended = refl; emitted = refl }))
    (leaves_read q bound (step q bound m (s.Event n)) n times)

pub leaves_come_home : (q : Plan) (bound : ℕ) (m : Machine) (n times : ℕ) → Leaves m (steps q bound m (reads_and_return n times))
leaves_come_home q bound m n times =
    let read = steps q bound m (reads n times) in
    subst (λ (z : Machine). Leaves m z) (sym (fold-append (step q bound) m (reads n times) (s.Return n ∷ [])))
    (leaves_then m read (step q bound read (s.Return n)) (leaves_read q bound m n times)
    (leaves_unless (refusal q bound read (s.Return n)) read (effect q read (s.Return n)) (leaves_returned q read n (ticket_at read.tickets n))))

-- a step that is no lease, feeds nothing and emits nothing
pub went_quiet : (n batch : ℕ) (x : Step) (old new : Running) → Known old → FitsStep old.plan old.bound old.machine x → IsDone x old new
    → is_lease x ≡ false → fed_by x ≡ [] → Leaves old.machine new.machine → Went n batch old new
went_quiet n batch x old new known fits done lease none leaves =
    went_step n batch x [] old new known fits done lease none leaves.events leaves.ended (leaves.emitted ∙ sym (append-nil old.machine.emitted))

leaves_done : (x : Step) (old new : Running) → IsDone x old new → Leaves old.machine (effect old.plan old.machine x) → Leaves old.machine new.machine
leaves_done x old new done leaves = subst (λ (z : Running). Leaves old.machine z.machine) (sym done.1) leaves

-- a roll
pub leaves_roll : (id : ℕ) (old new : Running) → IsDone (s.Roll id) old new → Leaves old.machine new.machine
leaves_roll id old new done = leaves_done (s.Roll id) old new done (leaves_rolled old.machine (version_at old.machine.versions id))

pub went_roll : (n batch id : ℕ) (old new : Running) → Known old → IsDone (s.Roll id) old new → Went n batch old new
went_roll n batch id old new known done = went_quiet n batch (s.Roll id) old new known tt done refl refl (leaves_roll id old new done)

pub goes_roll : (n id : ℕ) (old new : Running) → Known old → IsDone (s.Roll id) old new → Goes n old new
goes_roll n id old new known done = goes_step n (s.Roll id) old new known done refl

pub none_emitted_roll : (id : ℕ) (old new : Running) → IsDone (s.Roll id) old new → NoneEmitted old new
none_emitted_roll id old new done = (leaves_roll id old new done).emitted

pub none_read_roll : (id : ℕ) (old new : Running) → IsDone (s.Roll id) old new → NoneRead old new
none_read_roll id old new done = none_read_step (s.Roll id) old new done refl

-- a spawn
pub leaves_spawn : (parent : Option ℕ) (label : List ℕ) (old new : Running) → IsDone (s.Spawn parent label) old new → Leaves old.machine new.machine
leaves_spawn parent label old new done = leaves_done (s.Spawn parent label) old new done (leaves_spawned old.machine parent label)

pub went_spawn : (n batch : ℕ) (parent : Option ℕ) (label : List ℕ) (old new : Running) → Known old → IsLabel label
    → IsDone (s.Spawn parent label) old new → Went n batch old new
went_spawn n batch parent label old new known is_label done =
    went_quiet n batch (s.Spawn parent label) old new known is_label done refl refl (leaves_spawn parent label old new done)

pub goes_spawn : (n : ℕ) (parent : Option ℕ) (label : List ℕ) (old new : Running) → Known old → IsDone (s.Spawn parent label) old new → Goes n old new
goes_spawn n parent label old new known done = goes_step n (s.Spawn parent label) old new known done refl

pub none_emitted_spawn : (parent : Option ℕ) (label : List ℕ) (old new : Running) → IsDone (s.Spawn parent label) old new → NoneEmitted old new
none_emitted_spawn parent label old new done = (leaves_spawn parent label old new done).emitted

pub none_read_spawn : (parent : Option ℕ) (label : List ℕ) (old new : Running) → IsDone (s.Spawn parent label) old new → NoneRead old new
none_read_spawn parent label old new done = none_read_step (s.Spawn parent label) old new done refl

-- the return of a ticket with nothing read
pub back_done : (number : ℕ) (t : Ticket) (old new : Running) → ticket_at old.machine.tickets number ≡ Some t → new ≡ after old (s.Return number)
    → IsDone (s.Return number) old new
back_done number t old new out is = (ap (return_refusal number) out, is)

pub leaves_back : (number : ℕ) (old new : Running) → IsDone (s.Return number) old new → Leaves old.machine new.machine
leaves_back number old new done =
    leaves_done (s.Return number) old new done (leaves_returned old.plan old.machine number (ticket_at old.machine.tickets number))

pub went_back : (n batch number : ℕ) (old new : Running) → Known old → IsDone (s.Return number) old new → Went n batch old new
went_back n batch number old new known done = went_quiet n batch (s.Return number) old new known tt done refl refl (leaves_back number old new done)

pub goes_back : (n number : ℕ) (old new : Running) → Known old → IsDone (s.Return number) old new → Goes n old new
goes_back n number old new known done = goes_step n (s.Return number) old new known done refl

pub none_emitted_back : (number : ℕ) (old new : Running) → IsDone (s.Return number) old new → NoneEmitted old new
none_emitted_back number old new done = (leaves_back number old new done).emitted

pub none_read_back : (number : ℕ) (old new : Running) → IsDone (s.Return number) old new → NoneRead old new
none_read_back number old new done = none_read_step (s.Return number) old new done refl

-- what a finish leaves as it was, and what it emits
pub record Emits (m n : Machine) (more : List Match) : Type 0 where
  pub events : n.events ≡ m.events
  pub ended : n.ended ≡ m.ended
  pub emitted : n.emitted ≡ m.emitted ++ more

emits_settled : (q : Plan) (m n : Machine) (more : List Match) (o : Option Version) → Emits m n more → Emits m (settled q n o) more
emits_settled q m n more None emits = emits
emits_settled q m n more (Some v) emits = by (is_some (conflict q n v))
  where
    by : (b : Bool) → Emits m (cond b (rolled n (Some v)) n) more
    by true = record { events = emits.events; ended = emits.ended; emitted = emits.emitted }
    by false = emits

emits_finished : (q : Plan) (m : Machine) (o : Option Version) (window : ℕ) (more : List Match) (root : Option ℕ)
    → finish_answer q m o ≡ Finished window more root → Emits m (finished_one q m o) more
emits_finished q m None window more root answers = absurd (cc)
emits_finished q m (Some v) window more root answers =
    let are : new_matches q m v ≡ more = cc in
    emits_settled q m (popped q m v) more (root_in (popped q m v).versions) (record { events = refl; ended = refl; emitted = ap (λ (z : List Match). m.emitted ++ z) are })

-- a finish emits what it answers
pub emits_finish : (old new : Running) (e : Emitted) → IsEmitted old e → IsDone s.Finish old new → Emits old.machine new.machine e.matches.items
emits_finish old new e is done =
    subst (λ (z : Running). Emits old.machine z.machine e.matches.items) (sym done.1)
    (emits_finished old.plan old.machine (root_in old.machine.versions) e.window e.matches.items e.root is)

pub went_finish : (n batch : ℕ) (old new : Running) (e : Emitted) → Known old → IsEmitted old e → IsDone s.Finish old new → Went n batch old new
went_finish n batch old new e known is done =
    let all = emits_finish old new e is done in
    went_step n batch s.Finish e.matches.items old new known tt done refl refl all.events all.ended all.emitted

pub goes_finish : (n : ℕ) (old new : Running) → Known old → IsDone s.Finish old new → Goes n old new
goes_finish n old new known done = goes_step n s.Finish old new known done refl

pub none_read_finish : (old new : Running) → IsDone s.Finish old new → NoneRead old new
none_read_finish old new done = none_read_step s.Finish old new done refl

-- a lease, where the machine is spread out
pub leaves_lease : (id count : ℕ) (old new : Running) → IsDone (s.Lease id count) old new → Leaves old.machine new.machine
leaves_lease id count old new done =
    leaves_done (s.Lease id count) old new done (leaves_leased old.plan old.machine count (version_at old.machine.versions id))

pub spread_lease : (n id count : ℕ) (old new : Running) → Known old → IsDone (s.Lease id count) old new
    → IsSpreadOut old.plan old.bound n old.machine → Spread old.plan old.bound n old.journal → Spread new.plan new.bound n new.journal
spread_lease n id count old new known done out spread =
    let stays = known.stays old.plan old.bound n old.machine old.journal known.replays in
    subst (λ (z : Running). Spread z.plan z.bound n z.journal) (sym done.1) (stays.by_lease (once (s.Lease id count)) refl out spread)

pub out_lease : (id count : ℕ) (old new : Running) → Known old → IsDone (s.Lease id count) old new → out_count new.machine ≡ out_count old.machine + 1
out_lease id count old new known done =
    ap (λ (z : Running). out_count z.machine) done.1 ∙ known.lawful.out.by_lease id count done.0

pub none_emitted_lease : (id count : ℕ) (old new : Running) → IsDone (s.Lease id count) old new → NoneEmitted old new
none_emitted_lease id count old new done = (leaves_lease id count old new done).emitted

pub none_read_lease : (id count : ℕ) (old new : Running) → IsDone (s.Lease id count) old new → NoneRead old new
none_read_lease id count old new done = none_read_step (s.Lease id count) old new done refl

-- a piece that came home: its readings and its return
abbrev pub home_entries : ℕ → ℕ → List Entry
home_entries number times = reading_entries number times ++ once (s.Return number) ∷ []

pub journal_homecoming : (number times : ℕ) (old new : Running) → new ≡ after_return old number times → new.journal ≡ old.journal ++ home_entries number times
journal_homecoming number times old new is =
    ap (λ (z : Running). z.journal) is ∙ append_assoc old.journal (reading_entries number times) (once (s.Return number) ∷ [])

pub leaves_homecoming : (number times : ℕ) (old new : Running) → new ≡ after_return old number times → Leaves old.machine new.machine
leaves_homecoming number times old new is =
    subst (λ (z : Running). Leaves old.machine z.machine) (sym is) (leaves_come_home old.plan old.bound old.machine number times)

-- a journal stays spread with entries of which none is a lease
stays_with : JournalsStaySpread → (q : Plan) (bound n : ℕ) (m : Machine) (journal : List Entry) (number times : ℕ)
    → Spreading q bound n (replay q bound journal) journal → Spreading q bound n m (journal ++ home_entries number times)
stays_with stays q bound n m journal number zero spreading =
    (stays q bound n (replay q bound journal) journal refl).by_other m (once (s.Return number)) refl spreading
stays_with stays q bound n m journal number (suc times) spreading =
    let readings : Entry = record { step = s.Event number; times = suc times } in
    let read = journal ++ readings ∷ [] in
    let first = (stays q bound n (replay q bound journal) journal refl).by_other (replay q bound read) readings refl spreading in
    subst (λ (z : List Entry). Spreading q bound n m z) (append_assoc journal (readings ∷ []) (once (s.Return number) ∷ []))
    ((stays q bound n (replay q bound read) read refl).by_other m (once (s.Return number)) refl first)

pub goes_homecoming : (n number times : ℕ) (old new : Running) → Known old → new ≡ after_return old number times → Goes n old new
goes_homecoming n number times old new known is spreading =
    let before = subst (λ (z : Machine). Spreading old.plan old.bound n z old.journal) (sym known.replays) spreading in
    let now = stays_with known.stays old.plan old.bound n new.machine old.journal number times before in
    let here = subst (λ (z : List Entry). Spreading old.plan old.bound n new.machine z) (sym (journal_homecoming number times old new is)) now in
    subst (λ (z : Plan). Spreading z new.bound n new.machine new.journal) (sym (ap (λ (z : Running). z.plan) is))
    (subst (λ (z : ℕ). Spreading old.plan z n new.machine new.journal) (sym (ap (λ (z : Running). z.bound) is)) here)

-- nor are more tickets out in any state that it passes with them
never_with : (n number times : ℕ) (c : Running) → Known c → out_count c.machine ≤ n + 1 → NeverMore c.plan c.bound n c.journal
    → NeverMore c.plan c.bound n (c.journal ++ home_entries number times)
never_with n number zero c known few never =
    let stays = known.stays c.plan c.bound n c.machine c.journal known.replays in
    let less : out_count (step c.plan c.bound c.machine (s.Return number)) ≤ out_count c.machine = known.lawful.out.by_home number zero in
    stays.never_more (once (s.Return number)) (once_few c.plan c.bound n c.machine (s.Return number) few (le_trans less few)) never
never_with n number (suc times) c known few never =
    let q = c.plan in
    let readings : Entry = record { step = s.Event number; times = suc times } in
    let read = c.journal ++ readings ∷ [] in
    let mid : Machine = steps q c.bound c.machine (reads number (suc times)) in
    let leads : replay q c.bound read ≡ mid =
    fold-append (after_entry q c.bound) opening c.journal (readings ∷ []) ∙ ap (λ (z : Machine). after_entry q c.bound z readings) known.replays in
    let first : NeverMore q c.bound n read =
    (known.stays q c.bound n c.machine c.journal known.replays).never_more readings (λ k low. le_trans (known.lawful.out.by_reads number k) few) never in
    let less : out_count (step q c.bound mid (s.Return number)) ≤ out_count c.machine =
    subst (λ (z : Machine). out_count z ≤ out_count c.machine) (fold-append (step q c.bound) c.machine (reads number (suc times)) (s.Return number ∷ []))
    (known.lawful.out.by_home number (suc times)) in
    subst (λ (z : List Entry). NeverMore q c.bound n z) (append_assoc c.journal (readings ∷ []) (once (s.Return number) ∷ []))
    ((known.stays q c.bound n mid read leads).never_more (once (s.Return number))
    (once_few q c.bound n mid (s.Return number) (le_trans (known.lawful.out.by_reads number (suc times)) few) (le_trans less few)) first)

return_asks_none : (batch number : ℕ) → AsksAtMost batch (once (s.Return number) ∷ [])
return_asks_none batch number =
    All-cons (λ (e : Entry). asked_by e.step ≤ batch) (once (s.Return number)) [] (omega arith) (All-nil (λ (e : Entry). asked_by e.step ≤ batch))

none_asked_home : (batch number times : ℕ) → AsksAtMost batch (home_entries number times)
none_asked_home batch number zero = return_asks_none batch number
none_asked_home batch number (suc times) =
    All-cons (λ (e : Entry). asked_by e.step ≤ batch) (record { step = s.Event number; times = suc times }) (once (s.Return number) ∷ []) (omega arith)
    (return_asks_none batch number)

within_homecoming : (n batch number times : ℕ) (old new : Running) → Known old → new ≡ after_return old number times → StaysWithin n batch old new
within_homecoming n batch number times old new known is =
    let journal = sym (journal_homecoming number times old new is) in
    record {
      never = λ few never.
          subst (λ (z : Plan). NeverMore z new.bound n new.journal) (sym (ap (λ (z : Running). z.plan) is))
          (subst (λ (z : ℕ). NeverMore old.plan z n new.journal) (sym (ap (λ (z : Running). z.bound) is))
          (subst (λ (z : List Entry). NeverMore old.plan old.bound n z) journal (never_with n number times old known few never)));
      asked = λ asked.
          subst (AsksAtMost batch) journal
          (All-append (λ (e : Entry). asked_by e.step ≤ batch) old.journal (home_entries number times) asked (none_asked_home batch number times));
    }

none_fed : (number times : ℕ) → fed (home_entries number times) ≡ []
none_fed number zero = refl
none_fed number (suc times) = refl

pub went_homecoming : (n batch number times : ℕ) (old new : Running) → Known old → new ≡ after_return old number times → Went n batch old new
went_homecoming n batch number times old new known is =
    let leaves = leaves_homecoming number times old new is in
    let fewer : out_count new.machine ≤ out_count old.machine =
    subst (λ (z : Running). out_count z.machine ≤ out_count old.machine) (sym is) (known.lawful.out.by_home number times) in
    let entries = home_entries number times in
    let rises : Rises old.machine new.machine = subst (λ (z : Running). Rises old.machine z.machine) (sym is) (rises_steps old.plan old.bound old.machine (reads_and_return number times)) in
    record {
      plan = ap (λ (z : Running). z.plan) is;
      bound = ap (λ (z : Running). z.bound) is;
      events = leaves.events;
      ended = leaves.ended;
      fed_are = ap fed (journal_homecoming number times old new is) ∙ flat_map-append (λ (e : Entry). fed_by e.step) old.journal entries
          ∙ ap (λ z. fed old.journal ++ z) (none_fed number times) ∙ append-nil (fed old.journal);
      more = [];
      emitted = leaves.emitted ∙ sym (append-nil old.machine.emitted);
      spread = λ spreading. (goes_homecoming n number times old new known is spreading).spread;
      few = λ few. omega arith;
      within = within_homecoming n batch number times old new known is;
      tickets = rises.tickets;
      finished = rises.finished;
    }

pub none_emitted_homecoming : (number times : ℕ) (old new : Running) → new ≡ after_return old number times → NoneEmitted old new
none_emitted_homecoming number times old new is = (leaves_homecoming number times old new is).emitted

one_read_at_most : (number times : ℕ) → readings_entered (home_entries number times) ≤ 1
one_read_at_most number zero = omega arith
one_read_at_most number (suc times) = omega arith

-- its readings are one entry, where there are any
pub one_read : (number times : ℕ) (old new : Running) → new ≡ after_return old number times
    → readings_entered new.journal ≤ readings_entered old.journal + 1
one_read number times old new is =
    let entries = home_entries number times in
    let all : readings_entered new.journal ≡ readings_entered old.journal + readings_entered entries =
    ap readings_entered (journal_homecoming number times old new is) ∙ sum_by-append (λ (x : Entry). cond (is_reading x.step) 1 0) old.journal entries in
    let most = one_read_at_most number times in
    omega arith
