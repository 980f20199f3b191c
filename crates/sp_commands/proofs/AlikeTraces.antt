-- Plans that are alike step the machine alike, and print alike what a schedule does.
use Rattle.std.proofs.Common.{◌≡◌, ℕ, zero, suc, ◌+◌, ◌-◌, Bool, true, false, not, List, [], ◌∷◌, ◌++◌, length, map, Option, Some, None, refl, sym, ◌∙◌, ap}
use Rattle.std.specs.Prelude.{◌&&◌, ◌||◌, is_some, slice_get, filter, find, reverse, ◌==◌, nat_lt, nat_le, if◌then◌else◌}
use Rattle.std.specs.List.{flat_map, list_all, list_any, enumerate_from, range_with_len}
use Rattle.sp_base.specs.Numbers.{is_among, with_numbers}
use Rattle.sp_plan.specs.declared.event.Event.{Event}
use Rattle.sp_plan.specs.declared.found.Match.{Match}
use Rattle.sp_plan.specs.declared.plan.Plan.{Plan}
use Rattle.sp_plan.specs.Runs.{Run, Started, State, after_closing, matched_runs}
use Rattle.sp_plan.specs.Windows.{Window, closed}
use Rattle.sp_plan.specs.Reading.{event_of, after_event, read_one, reading}
use Rattle.sp_plan.specs.WindowNumbers.{count, first_of, size_of, first, size}
use Rattle.sp_plan.specs.Groups.{group, used_by, used_by_all}
use Rattle.sp_plan.specs.Moves.{pairs_of}
use Rattle.sp_group.specs.declared.refusal.Refusal.TheVariants as r
use Rattle.sp_group.specs.declared.step.Step.{Step}
use Rattle.sp_group.specs.declared.step.Step.TheVariants as s
use Rattle.sp_group.specs.Rising.{has_number, least}
use Rattle.sp_group.specs.Family.{prune, is_parent}
use Rattle.sp_group.specs.Machine.{Version, Ticket, Machine, opening, kin, version_at, ticket_at, out_for, root_in, inner, is_group, is_spent, is_named, is_withheld, withheld_by, suppressed_below, suppressed_by, is_read, is_bare, is_hit, conflict}
use Rattle.sp_group.specs.Refusing.{refuse_if, refuse_for, id_of, child_with, not_open, has_nothing_to_read, root_refusal, child_refusal, spawn_refusal, lease_refusal, roll_refusal, refusal}
use Rattle.sp_group.specs.Effects.{unread, lent_count, next_number, lent, leased, without, after_ticket, is_newly_spent, names_completed, names_no_abandoned, child_after, after_reading, home, returned, rolled, promoted, new_matches, popped, settled, finished_one, effect}
use Rattle.sp_group.specs.Steps.{Answered, Fed, Ended, Spawned, Leased, Read, Closed, Home, Stale, Rolled, Finished, Nothing, lease_answer, finish_answer, answer, Reply, Refused, Done, replied, reply, unless_refused, step}
use Rattle.sp_group.specs.Seen.{open_groups, version_seen, ticket_seen, state_seen}
use Rattle.sp_emit.specs.StateLines.{lines_of_state}
use Rattle.sp_sched.specs.declared.step.TraceStep.{TraceStep}
use Rattle.sp_sched.specs.declared.step.TraceStep.TheVariants as t
use Rattle.sp_trace.specs.Traced.{Tracing, feeding, machine_step, stepped, after, finish_line, answer_lines, reply_lines, step_lines, lines_for, lines_from, joined, traced}
use Rattle.sp_commands.specs.Alike.{Alike}
use Rattle.sp_commands.proofs.Alike.{used_same, handle_same, windows_same, match_same, line_same}

module _ (q p : Plan) (alike : Alike q p) where
  -- ---- windows by their numbers

  count_same : (events : List Event) → count q events ≡ count p events
  count_same events = λ i. length (windows_same q p alike events false i)

  closed_same : (events : List Event) (ended : Bool) → closed q events ended ≡ closed p events ended
  closed_same events ended = λ i. length (filter (λ (w : Window). w.closed) (windows_same q p alike events ended i))

  first_same : (events : List Event) (w : ℕ) → first q events w ≡ first p events w
  first_same events w = λ i. first_of (if w == 0 then None else slice_get (windows_same q p alike events false i) (w - 1))

  size_same : (events : List Event) (w : ℕ) → size q events w ≡ size p events w
  size_same events w = λ i. size_of (if w == 0 then None else slice_get (windows_same q p alike events false i) (w - 1))

  -- ---- runs

  event_same : (state : State) (number : ℕ) (o : Option Event) → after_event q state number o ≡ after_event p state number o
  event_same state number None = refl
  event_same state number (Some e) = handle_same q p alike state (number, e)

  one_same : (events : List Event) (skipped : List ℕ) (state : State) (number : ℕ) → read_one q events skipped state number ≡ read_one p events skipped state number
  one_same events skipped state number = λ i. if is_among skipped number then state else event_same state number (event_of events number) i

  reading_same : (events : List Event) (skipped : List ℕ) (from n : ℕ) → reading q events skipped from n ≡ reading p events skipped from n
  reading_same events skipped from zero = refl
  reading_same events skipped from (suc n) =
      one_same events skipped (reading q events skipped from n) (from + n) ∙ ap (λ (state : State). read_one p events skipped state (from + n)) (reading_same events skipped from n)

  read_same : (events : List Event) (v : Version) → reading q events v.skipped (first q events v.window) v.position ≡ reading p events v.skipped (first p events v.window) v.position
  read_same events v =
      reading_same events v.skipped (first q events v.window) v.position ∙ ap (λ (from : ℕ). reading p events v.skipped from v.position) (first_same events v.window)

  inner_same : (events : List Event) (v : Version) → inner q events v ≡ inner p events v
  inner_same events v = λ i. if v.done then after_closing (read_same events v i) else read_same events v i

  group_same : (state : State) (run : ℕ) → group q state run ≡ group p state run
  group_same state run = used_same q p alike (pairs_of state.open_runs run)

  used_by_same : (state : State) (run : ℕ) → used_by q state run ≡ used_by p state run
  used_by_same state run = used_same q p alike (pairs_of state.matched run)

  all_used_same : (state : State) → used_by_all q state ≡ used_by_all p state
  all_used_same state = λ i. flat_map (λ (run : Run). used_same q p alike run i) (matched_runs state)

  is_group_same : (state : State) (run : ℕ) → is_group q state run ≡ is_group p state run
  is_group_same state run = λ i. has_number (group_same state run i)

  is_spent_same : (state : State) (run : ℕ) → is_spent q state run ≡ is_spent p state run
  is_spent_same state run = λ i. has_number (used_by_same state run i)

  group_in_same : (events : List Event) (v : Version) (run : ℕ) → is_group q (inner q events v) run ≡ is_group p (inner p events v) run
  group_in_same events v run = is_group_same (inner q events v) run ∙ ap (λ (state : State). is_group p state run) (inner_same events v)

  used_in_same : (events : List Event) (v : Version) → used_by_all q (inner q events v) ≡ used_by_all p (inner p events v)
  used_in_same events v = all_used_same (inner q events v) ∙ ap (used_by_all p) (inner_same events v)

  -- ---- what is suppressed

  named_same : (state : State) (label : List ℕ) (n : ℕ) → is_named q state label n ≡ is_named p state label n
  named_same state label n = λ i. list_any (λ (run : ℕ). is_among (group_same state run i) n) label

  withheld_same : (state : State) (label : List ℕ) (n : ℕ) → is_withheld q state label n ≡ is_withheld p state label n
  withheld_same state label n = λ i. is_among (all_used_same state i) n || named_same state label n i

  withheld_by_same : (events : List Event) (o : Option Version) (label : List ℕ) (n : ℕ) → withheld_by q (inner q events) o label n ≡ withheld_by p (inner p events) o label n
  withheld_by_same events None label n = refl
  withheld_by_same events (Some u) label n = withheld_same (inner q events u) label n ∙ ap (λ (state : State). is_withheld p state label n) (inner_same events u)

  below_same : (events : List Event) (consumed : List ℕ) (vs : List Version) (label : List ℕ) (n : ℕ)
      → ((u : ℕ) → suppressed_by q (inner q events) consumed vs u n ≡ suppressed_by p (inner p events) consumed vs u n) → (parent : Option ℕ)
      → suppressed_below q (inner q events) consumed (suppressed_by q (inner q events) consumed vs) (version_at vs) parent label n
      ≡ suppressed_below p (inner p events) consumed (suppressed_by p (inner p events) consumed vs) (version_at vs) parent label n
  below_same events consumed vs label n above None = refl
  below_same events consumed vs label n above (Some u) = λ i. above u i || withheld_by_same events (version_at vs u) label n i

  suppressed_same : (events : List Event) (consumed : List ℕ) (versions : List Version) (id n : ℕ) → suppressed_by q (inner q events) consumed versions id n ≡ suppressed_by p (inner p events) consumed versions id n
  suppressed_same events consumed [] id n = refl
  suppressed_same events consumed (v ∷ vs) id n =
      let below = below_same events consumed vs v.label n (λ u. suppressed_same events consumed vs u n) v.parent in
      λ i. if v.id == id then below i else suppressed_same events consumed vs id n i

  is_read_same : (events : List Event) (v : Version) (n : ℕ) → is_read q events v n ≡ is_read p events v n
  is_read_same events v n = λ i. nat_le (first_same events v.window i) n && nat_lt n (first_same events v.window i + v.position) && not (is_among v.skipped n)

  is_hit_same : (m : Machine) (v : Version) (n : ℕ) → is_hit q m v n ≡ is_hit p m v n
  is_hit_same m v n = λ i. suppressed_same m.events m.consumed m.versions v.id n i && (is_read_same m.events v n i || is_bare m.tickets v.id n)

  conflict_same : (m : Machine) (v : Version) → conflict q m v ≡ conflict p m v
  conflict_same m v = λ i. least (λ (n : ℕ). is_hit_same m v n i) (first_same m.events v.window i) (size_same m.events v.window i)

  -- ---- refusals

  not_open_same : (m : Machine) (u : Version) (label : List ℕ) → not_open q m u label ≡ not_open p m u label
  not_open_same m u label = λ i. find (λ (run : ℕ). not (group_in_same m.events u run i)) label

  nothing_same : (m : Machine) (v : Version) → has_nothing_to_read q m v ≡ has_nothing_to_read p m v
  nothing_same m v = λ i. nat_le (size_same m.events v.window i) v.position && (v.done || nat_lt (closed_same m.events m.ended i) v.window)

  root_same : (m : Machine) (label : List ℕ) → root_refusal q m label ≡ root_refusal p m label
  root_same m label = λ i.
      refuse_for (id_of (root_in m.versions)) r.LabelTaken
      (refuse_if (nat_lt (count_same m.events i) (m.finished + 1)) (r.NoWindow (m.finished + 1)) (refuse_for (find (λ _. true) label) r.NotOpen None))

  child_same : (bound : ℕ) (m : Machine) (parent : ℕ) (label : List ℕ) (o : Option Version) → child_refusal q bound m parent label o ≡ child_refusal p bound m parent label o
  child_same bound m parent label None = refl
  child_same bound m parent label (Some u) = λ i.
      refuse_if (nat_lt (count_same m.events i) (u.window + 1)) (r.NoWindow (u.window + 1))
      (refuse_for (not_open_same m u label i) r.NotOpen
      (refuse_for (child_with m.versions parent label) r.LabelTaken (refuse_if (nat_le bound (length m.versions)) (r.Full (length m.versions) bound) None)))

  spawn_same : (bound : ℕ) (m : Machine) (o : Option ℕ) (label : List ℕ) → spawn_refusal q bound m o label ≡ spawn_refusal p bound m o label
  spawn_same bound m None label = root_same m label
  spawn_same bound m (Some parent) label = child_same bound m parent label (version_at m.versions parent)

  lease_refusal_same : (m : Machine) (id : ℕ) (o : Option Version) → lease_refusal q m id o ≡ lease_refusal p m id o
  lease_refusal_same m id None = refl
  lease_refusal_same m id (Some v) = λ i.
      refuse_for (out_for m.tickets v.id) r.Out
      (refuse_for (conflict_same m v i) r.Conflict (refuse_if (nothing_same m v i) (r.NothingToRead v.position) None))

  roll_refusal_same : (m : Machine) (id : ℕ) (o : Option Version) → roll_refusal q m id o ≡ roll_refusal p m id o
  roll_refusal_same m id None = refl
  roll_refusal_same m id (Some v) = λ i. refuse_if (not (is_some (conflict_same m v i))) (r.NoConflict id) None

  refusal_same : (bound : ℕ) (m : Machine) (x : Step) → refusal q bound m x ≡ refusal p bound m x
  refusal_same bound m (s.Feed e) = refl
  refusal_same bound m s.End = refl
  refusal_same bound m (s.Spawn parent label) = spawn_same bound m parent label
  refusal_same bound m (s.Lease id n) = lease_refusal_same m id (version_at m.versions id)
  refusal_same bound m (s.Event n) = refl
  refusal_same bound m (s.Return n) = refl
  refusal_same bound m (s.Roll id) = roll_refusal_same m id (version_at m.versions id)
  refusal_same bound m s.Finish = refl

  -- ---- effects

  unread_same : (m : Machine) (v : Version) → unread q m v ≡ unread p m v
  unread_same m v = λ i. size_same m.events v.window i - v.position

  lent_count_same : (m : Machine) (n : ℕ) (v : Version) → lent_count q m n v ≡ lent_count p m n v
  lent_count_same m n v = λ i. if nat_le (unread_same m v i) n then unread_same m v i else n

  next_same : (m : Machine) (v : Version) → next_number q m v ≡ next_number p m v
  next_same m v = λ i. first_same m.events v.window i + v.position

  lent_same : (m : Machine) (n : ℕ) (v : Version) → lent q m n v ≡ lent p m n v
  lent_same m n v = λ i. record {
    number = m.next_ticket;
    version = v.id;
    first = next_same m v i;
    count = lent_count_same m n v i;
    snapshot = filter (λ (number : ℕ). suppressed_same m.events m.consumed m.versions v.id number i) (range_with_len (next_same m v i) (lent_count_same m n v i));
    closes = nat_le v.window (closed_same m.events m.ended i) && nat_le (unread_same m v i) n;
    read = 0;
    closing_read = false;
  }

  leased_same : (m : Machine) (n : ℕ) (o : Option Version) → leased q m n o ≡ leased p m n o
  leased_same m n None = refl
  leased_same m n (Some v) = λ i. record m { tickets = lent_same m n v i ∷ m.tickets; next_ticket = m.next_ticket + 1 }

  newly_same : (before now : State) (run : ℕ) → is_newly_spent q before now run ≡ is_newly_spent p before now run
  newly_same before now run = λ i. is_spent_same now run i && not (is_spent_same before run i)

  completed_same : (before now : State) (label : List ℕ) → names_completed q before now label ≡ names_completed p before now label
  completed_same before now label = λ i. list_all (λ (run : Started). not (newly_same before now run.0 i) || is_among label run.0) now.matched

  abandoned_same : (now : State) (label : List ℕ) → names_no_abandoned q now label ≡ names_no_abandoned p now label
  abandoned_same now label = λ i. list_all (λ (run : ℕ). is_group_same now run i || is_spent_same now run i) label

  child_after_same : (before now : State) (v : Version) → child_after q before now v ≡ child_after p before now v
  child_after_same before now v = λ i.
      if completed_same before now v.label i && abandoned_same now v.label i then Some (record v { label = filter (λ (run : ℕ). is_group_same now run i) v.label })
      else None

  after_reading_same : (id : ℕ) (new : Version) (before now : State) (v : Version) → after_reading q id new before now v ≡ after_reading p id new before now v
  after_reading_same id new before now v = λ i.
      if v.id == id then Some new
      else if is_parent id v.parent then child_after_same before now v i
      else Some v

  home_same : (m : Machine) (n : ℕ) (ticket : Ticket) (o : Option Version) → home q m n ticket o ≡ home p m n ticket o
  home_same m n ticket None = refl
  home_same m n ticket (Some v) =
      let new = after_ticket v ticket in
      (λ i. record m { tickets = without n m.tickets; versions = prune kin (λ (w : Version). after_reading_same v.id new (inner q m.events v) (inner q m.events new) w i) m.versions })
      ∙ (λ i. record m { tickets = without n m.tickets; versions = prune kin (after_reading p v.id new (inner_same m.events v i) (inner_same m.events new i)) m.versions })

  returned_same : (m : Machine) (n : ℕ) (o : Option Ticket) → returned q m n o ≡ returned p m n o
  returned_same m n None = refl
  returned_same m n (Some ticket) = home_same m n ticket (version_at m.versions ticket.version)

  matches_same : (m : Machine) (v : Version) → new_matches q m v ≡ new_matches p m v
  matches_same m v = λ i. map (λ (run : ℕ × Run). match_same q p alike v.window run i) (enumerate_from (length m.emitted + 1) (matched_runs (inner_same m.events v i)))

  popped_same : (m : Machine) (v : Version) → popped q m v ≡ popped p m v
  popped_same m v = λ i. record m {
    finished = m.finished + 1;
    emitted = m.emitted ++ matches_same m v i;
    consumed = with_numbers m.consumed (used_in_same m.events v i);
    versions = prune kin (promoted v.id) m.versions;
  }

  settled_same : (m : Machine) (o : Option Version) → settled q m o ≡ settled p m o
  settled_same m None = refl
  settled_same m (Some v) = λ i. if is_some (conflict_same m v i) then rolled m (Some v) else m

  finished_same : (m : Machine) (o : Option Version) → finished_one q m o ≡ finished_one p m o
  finished_same m None = refl
  finished_same m (Some v) =
      settled_same (popped q m v) (root_in (popped q m v).versions) ∙ ap (λ (k : Machine). settled p k (root_in k.versions)) (popped_same m v)

  effect_same : (m : Machine) (x : Step) → effect q m x ≡ effect p m x
  effect_same m (s.Feed e) = refl
  effect_same m s.End = refl
  effect_same m (s.Spawn parent label) = refl
  effect_same m (s.Lease id n) = leased_same m n (version_at m.versions id)
  effect_same m (s.Event n) = refl
  effect_same m (s.Return n) = returned_same m n (ticket_at m.tickets n)
  effect_same m (s.Roll id) = refl
  effect_same m s.Finish = finished_same m (root_in m.versions)

  -- ---- answers

  lease_answer_same : (m : Machine) (n : ℕ) (o : Option Version) → lease_answer q m n o ≡ lease_answer p m n o
  lease_answer_same m n None = refl
  lease_answer_same m n (Some v) = ap Leased (lent_same m n v)

  finish_answer_same : (m : Machine) (o : Option Version) → finish_answer q m o ≡ finish_answer p m o
  finish_answer_same m None = refl
  finish_answer_same m (Some v) = λ i. Finished v.window (matches_same m v i) (id_of (root_in (finished_same m (Some v) i).versions))

  answer_same : (m : Machine) (x : Step) → answer q m x ≡ answer p m x
  answer_same m (s.Feed e) = refl
  answer_same m s.End = refl
  answer_same m (s.Spawn parent label) = refl
  answer_same m (s.Lease id n) = lease_answer_same m n (version_at m.versions id)
  answer_same m (s.Event n) = refl
  answer_same m (s.Return n) = refl
  answer_same m (s.Roll id) = refl
  answer_same m s.Finish = finish_answer_same m (root_in m.versions)

  reply_same : (bound : ℕ) (m : Machine) (x : Step) → reply q bound m x ≡ reply p bound m x
  reply_same bound m x = λ i. replied (refusal_same bound m x i) (answer_same m x i)

  step_same : (bound : ℕ) (m : Machine) (x : Step) → step q bound m x ≡ step p bound m x
  step_same bound m x = λ i. unless_refused (refusal_same bound m x i) m (effect_same m x i)

  -- ---- lines

  open_groups_same : (state : State) → open_groups q state ≡ open_groups p state
  open_groups_same state = λ i.
      let groups : List (ℕ × List ℕ) = map (λ (run : Started). (run.0, used_same q p alike run.1 i)) (filter (λ (run : Started). has_number (used_same q p alike run.1 i)) state.open_runs) in
      groups

  version_seen_same : (m : Machine) (v : Version) → version_seen q m v ≡ version_seen p m v
  version_seen_same m v =
      let groups : open_groups q (inner q m.events v) ≡ open_groups p (inner p m.events v) = open_groups_same (inner q m.events v) ∙ ap (open_groups p) (inner_same m.events v) in
      λ i. record {
        id = v.id;
        parent = v.parent;
        window = v.window;
        label = v.label;
        position = v.position;
        skipped = v.skipped;
        done = v.done;
        out = out_for m.tickets v.id;
        groups = groups i;
      }

  state_seen_same : (m : Machine) → state_seen q m ≡ state_seen p m
  state_seen_same m = λ i. record {
    events = length m.events;
    ended = m.ended;
    windows = count_same m.events i;
    finished = m.finished;
    emitted = length m.emitted;
    consumed = m.consumed;
    versions = reverse (map (λ (v : Version). version_seen_same m v i) m.versions);
    tickets = reverse (map ticket_seen m.tickets);
  }

  answer_lines_same : (x : TraceStep) (a : Answered) → answer_lines q x a ≡ answer_lines p x a
  answer_lines_same x (Fed number) = refl
  answer_lines_same x Ended = refl
  answer_lines_same x (Spawned id) = refl
  answer_lines_same x (Leased ticket) = refl
  answer_lines_same x (Read number skipped) = refl
  answer_lines_same x Closed = refl
  answer_lines_same x Home = refl
  answer_lines_same x Stale = refl
  answer_lines_same x (Rolled id) = refl
  answer_lines_same x (Finished window matches root) = λ i. finish_line window (length matches) root ∷ map (λ (m : Match). line_same q p alike m i) matches
  answer_lines_same x Nothing = refl

  reply_lines_same : (x : TraceStep) (a : Reply) → reply_lines q x a ≡ reply_lines p x a
  reply_lines_same x (Refused why) = refl
  reply_lines_same x (Done a) = answer_lines_same x a

  -- ---- a run

  module _ (bound : ℕ) (events : List Event) where
    abbrev at : Plan → Machine → Tracing
    at plan m = record { plan = plan; bound = bound; events = events; machine = m }

    step_lines_same : (m : Machine) (x : TraceStep) (o : Option Step) → step_lines (at q m) x o ≡ step_lines (at p m) x o
    step_lines_same m x None = refl
    step_lines_same m x (Some one) = reply_lines_same x (reply q bound m one) ∙ ap (reply_lines p x) (reply_same bound m one)

    lines_same : (m : Machine) (x : TraceStep) → lines_for (at q m) x ≡ lines_for (at p m) x
    lines_same m t.Feed = step_lines_same m t.Feed (feeding (slice_get events (length m.events)))
    lines_same m t.End = step_lines_same m t.End (Some s.End)
    lines_same m (t.Spawn parent label) = step_lines_same m (t.Spawn parent label) (Some (s.Spawn parent label))
    lines_same m (t.Lease version n) = step_lines_same m (t.Lease version n) (Some (s.Lease version n))
    lines_same m (t.Event ticket) = step_lines_same m (t.Event ticket) (Some (s.Event ticket))
    lines_same m (t.Return ticket) = step_lines_same m (t.Return ticket) (Some (s.Return ticket))
    lines_same m (t.Roll version) = step_lines_same m (t.Roll version) (Some (s.Roll version))
    lines_same m t.Finish = step_lines_same m t.Finish (Some s.Finish)
    lines_same m t.State = ap lines_of_state (state_seen_same m)

    stepped_same : (m : Machine) (o : Option Step) → (stepped (at q m) o).machine ≡ (stepped (at p m) o).machine
    stepped_same m None = refl
    stepped_same m (Some x) = step_same bound m x

    after_same : (m : Machine) (x : TraceStep) → (after (at q m) x).machine ≡ (after (at p m) x).machine
    after_same m t.Feed = stepped_same m (feeding (slice_get events (length m.events)))
    after_same m t.End = step_same bound m s.End
    after_same m (t.Spawn parent label) = step_same bound m (s.Spawn parent label)
    after_same m (t.Lease version n) = step_same bound m (s.Lease version n)
    after_same m (t.Event ticket) = step_same bound m (s.Event ticket)
    after_same m (t.Return ticket) = step_same bound m (s.Return ticket)
    after_same m (t.Roll version) = step_same bound m (s.Roll version)
    after_same m t.Finish = step_same bound m s.Finish
    after_same m t.State = refl

    -- a step changes the machine alone
    stepped_is : (plan : Plan) (m : Machine) (o : Option Step) → stepped (at plan m) o ≡ at plan (stepped (at plan m) o).machine
    stepped_is plan m None = refl
    stepped_is plan m (Some x) = refl

    lines_from_same : (m : Machine) (xs : List TraceStep) → lines_from (at q m) xs ≡ lines_from (at p m) xs
    lines_from_same m [] = refl
    lines_from_same m (x ∷ xs) =
        let rest : lines_from (after (at q m) x) xs ≡ lines_from (after (at p m) x) xs =
        ap (λ (g : Tracing). lines_from g xs) (stepped_is q m (machine_step (at q m) x))
        ∙ lines_from_same (after (at q m) x).machine xs
        ∙ ap (λ (k : Machine). lines_from (at p k) xs) (after_same m x)
        ∙ sym (ap (λ (g : Tracing). lines_from g xs) (stepped_is p m (machine_step (at p m) x))) in
        λ i. lines_same m x i ++ rest i

    pub traced_same : (steps : List TraceStep) → traced q bound events steps ≡ traced p bound events steps
    traced_same steps = ap joined (lines_from_same opening steps)
