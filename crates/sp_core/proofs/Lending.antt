-- What a lease lends: events that were fed, which the version's matcher can read.
use Rattle.std.proofs.Common.{◌≡◌, ℕ, ◌+◌, ◌-◌, ◌<◌, ◌≤◌, Bool, true, false, cond, nat_le, List, take, drop, length, map, refl, sym, ap, subst, ◌∙◌, arith}
use Rattle.std.specs.List.{All, AllZip}
use Rattle.std.proofs.lemmas.Bool.Decides.{nat_tests}
use Rattle.std.proofs.lemmas.List.Elements.{All-nil, All-take, All-drop}
use Rattle.std.proofs.lemmas.List.{length-drop, length-take}
use Rattle.sp_base.specs.Limits.{event_limit}
use Rattle.sp_plan.specs.declared.event.Event.{Event}
use Rattle.sp_plan.specs.declared.plan.Plan.{Plan}
use Rattle.sp_plan.specs.declared.plan.Schema.{Schema}
use Rattle.sp_plan.specs.Events.{AllFit, fits}
use Rattle.sp_plan.specs.Reading.{reading}
use Rattle.sp_plan.specs.Runs.{Started, State, after_closing}
use Rattle.sp_plan.specs.Same.{SamePlan}
use Rattle.sp_plan.specs.WindowNumbers.{first, size}
use Rattle.sp_match.specs.declared.known.Known.{Known}
use Rattle.sp_match.specs.public.Known.{IsKnown}
use Rattle.sp_match.specs.public.Laws.{Below}
use Rattle.sp_match.specs.public.Matching.{Matching, Stands, runs_of}
use Rattle.sp_group.specs.Machine.{Ticket, inner, is_suppressed}
use Rattle.sp_group.specs.Effects as effects
use Rattle.sp_group.specs.Effects.{lent_count, unread}
use Rattle.sp_piece.specs.declared.job.Job.{Job}
use Rattle.sp_piece.specs.Alike.{SamePlansReadAlike}
use Rattle.sp_piece.specs.Lending.{IsLendable}
use Rattle.sp_piece.specs.Reading.{consumes}
use Rattle.sp_piece.proofs.Consuming.{consume_alike}
use Rattle.sp_rules.specs.Kept.{Local}
use Rattle.sp_rules.specs.Lawful.{Lawful}
use Rattle.sp_rules.specs.Schedules.{Reached}
use Rattle.sp_core.specs.declared.lent.Lent.{Lent}
use Rattle.sp_core.specs.Carrying.{lent_events, ticket_of}
use Rattle.sp_core.specs.Holding.{Holding, Holds, machine_of, running, version_of}
use Rattle.sp_core.specs.Leasing.{IsLeased}
use Rattle.sp_core.proofs.Entries.{found_of_all, local, version_is}
use Rattle.sp_core.proofs.KnownEvents.{all_known_alike, part_known}
use Rattle.sp_core.proofs.Leased.{Leases, version_same}
use Rattle.sp_core.proofs.Told.{number_of, fed_within}

-- which events fit turns on the plan's columns alone
all_fit : (p q : Plan) (events : List Event) → SamePlan p q → AllFit q events → AllFit p events
all_fit p q events same all = subst (λ (schema : Schema). AllFit (record q { schema = schema }) events) (sym same.schema) all

part_fits : (q : Plan) (events : List Event) (n k : ℕ) → AllFit q events → AllFit q (take n (drop k events))
part_fits q events n k all = All-take (λ e. fits q e ≡ true) n (drop k events) (All-drop (λ e. fits q e ≡ true) k events all)

closed_below : (n : ℕ) (s : State) (b : Bool) → Below n s → Below n (cond b (after_closing s) s)
closed_below n s true h = record { events = All-nil (λ (run : Started). All (λ pair. pair.number < n) run.1); started = h.started }
closed_below n s false h = h

below_runs : (n : ℕ) (m : Matching) (s : State) → Stands m s → Below n s → Below n (runs_of m)
below_runs n m s stands h = record {
  events = subst (λ (runs : List Started). All (λ run. All (λ pair. pair.number < n) run.1) runs) (sym stands.open_is) h.events;
  started = subst (λ k. k < n) (sym stands.started_is) h.started;
}

lent_fits : (u n : ℕ) → cond (nat_le u n) u n ≤ u
lent_fits u n = one (nat_le u n) refl
  where
    one : (b : Bool) → nat_le u n ≡ b → cond b u n ≤ u
    one true is = omega arith
    one false is = grind (arith, nat_tests)

-- so many events from a place on
pub part_of : {X : Type 0} (events fed : List X) (place n : ℕ) → events ≡ fed → take (place + n - place) (drop place events) ≡ take n (drop place fed)
part_of {X = X} events fed place n is =
    let count : place + n - place ≡ n = omega arith in
    ap (λ k. take k (drop place events)) count ∙ ap (λ (es : List X). take n (drop place es)) is

-- the events that are lent were fed
pub record IsFed (h : Holding) (lent : Lent) : Type 0 where
  pub low : 1 ≤ lent.first
  pub high : lent.first + lent.count ≤ length h.events + 1
  pub few : length h.events ≤ event_limit

module _ (h : Holding) (lent : Lent) (n : ℕ) (a : Leases h lent n) (r : Reached h.plan h.tree.bound (machine_of h)) (law : Lawful h.plan) where
  here : Local h.plan h.events h.ended (map ticket_of h.tickets) (is_suppressed h.plan (machine_of h) lent.version) (version_of a.entry.entry)
  here = local h r lent.version a.entry.entry a.entry.is

  begins : 1 ≤ first h.plan h.events a.entry.entry.value.window
  begins = law.windows.hold_events.low h.events a.entry.entry.value.window (number_of h a.core a.entry.entry.value.window here.there)

  ticket_is : ticket_of lent ≡ effects.lent h.plan (machine_of h) n (version_of a.entry.entry)
  ticket_is = a.ticket ∙ ap (effects.lent h.plan (machine_of h) n) (version_same h lent n a)

  first_is : lent.first ≡ first h.plan h.events a.entry.entry.value.window + a.entry.entry.value.position
  first_is = ap (λ (t : Ticket). t.first) ticket_is

  count_most : lent.count ≤ size h.plan h.events a.entry.entry.value.window - a.entry.entry.value.position
  count_most =
      let is : lent.count ≡ lent_count h.plan (machine_of h) n (version_of a.entry.entry) = ap (λ (t : Ticket). t.count) ticket_is in
      let fits = lent_fits (unread h.plan (machine_of h) (version_of a.entry.entry)) n in
      omega (arith, is, fits)

  pub is_fed : IsFed h lent
  is_fed =
      let within = fed_within h a.core law.windows.hold_events a.entry.entry.value.window here.there in
      let reads = here.reads in
      record {
        low = omega (arith, first_is, begins);
        high = omega (arith, first_is, count_most, reads, within.0);
        few = within.1;
      }

  -- so they are as many as the ticket says
  pub all_lent : length (lent_events h.events (ticket_of lent)) ≡ lent.count
  all_lent =
      let fed = is_fed in
      omega (arith, fed.low, fed.high, length-take lent.count (drop (lent.first - 1) h.events), length-drop (lent.first - 1) h.events)

  held : Holds h.plan h.events (map ticket_of h.tickets) a.entry.entry
  held = found_of_all (Holds h.plan h.events (map ticket_of h.tickets)) h.tree.entries lent.version a.entry.entry a.core.versions a.entry.is

  runs_below : Below lent.first (inner h.plan h.events (version_of a.entry.entry))
  runs_below =
      let v = version_of a.entry.entry in
      let read = law.runs.readings.below h.events v.skipped (first h.plan h.events v.window) v.position begins in
      subst (λ k. Below k (inner h.plan h.events v)) (sym first_is) (closed_below _ (reading h.plan h.events v.skipped (first h.plan h.events v.window) v.position) v.done read)

  -- the version's matcher can read them
  pub lendable : SamePlansReadAlike → (before : Matching) (events : List Event) (known : List Known) → before ≡ a.entry.entry.value.matcher
      → events ≡ lent_events h.events (ticket_of lent) → known ≡ take lent.count (drop (lent.first - 1) h.known) → IsLendable before events known lent.first
  lendable alike before events known matcher are known_is =
      let fed = is_fed in
      let all : AllFit h.plan h.events = subst (λ (q : Plan). AllFit q h.events) a.core.windows_plan a.core.windows.good.0 in
      let part : AllFit h.plan (lent_events h.events (ticket_of lent)) = part_fits h.plan h.events lent.count (lent.first - 1) all in
      let same : SamePlan before.plan h.plan = subst (λ (m : Matching). SamePlan m.plan h.plan) (sym matcher) held.plan in
      let known_part : AllZip (IsKnown h.plan) (lent_events h.events (ticket_of lent)) (take lent.count (drop (lent.first - 1) h.known)) =
      part_known (IsKnown h.plan) lent.count (lent.first - 1) h.events h.known a.core.known_are in
      let size : length events ≤ lent.count = omega (arith, ap length are, length-take lent.count (drop (lent.first - 1) h.events)) in
      record {
        fit = subst (AllFit before.plan) (sym are) (all_fit before.plan h.plan _ same part);
        known_are = subst (λ (es : List Event). AllZip (IsKnown before.plan) es known) (sym are)
            (subst (AllZip (IsKnown before.plan) (lent_events h.events (ticket_of lent))) (sym known_is)
            (all_known_alike before.plan h.plan (λ run e. ((alike before.plan h.plan same).taken run e, (alike before.plan h.plan same).guarded_by run e)) _ _ known_part));
        below = below_runs lent.first before (inner h.plan h.events (version_of a.entry.entry))
            (subst (λ (m : Matching). Stands m (inner h.plan h.events (version_of a.entry.entry))) (sym matcher) held.stands) runs_below;
        few = omega (arith, fed.low, fed.high, fed.few, size);
      }

  -- and what it wants is told where the plan consumes
  pub wants_are : (before : Matching) → before ≡ a.entry.entry.value.matcher → consumes h.plan ≡ consumes before.plan
  wants_are before matcher = sym (consume_alike before.plan h.plan (subst (λ (m : Matching). SamePlan m.plan h.plan) (sym matcher) held.plan))

  -- and a job with all that carries the lease
  pub is_leased : (job : Job) → job.ticket ≡ lent.ticket → job.version ≡ lent.version → job.first ≡ lent.first → job.before ≡ a.entry.entry.value.matcher
      → job.events ≡ lent_events h.events (ticket_of lent) → job.snapshot.list ≡ lent.snapshot.list → job.closes ≡ lent.closes → IsLeased (running h) lent.version n job
  is_leased job ticket version first matcher events snapshot closes = (
    version_of a.entry.entry,
    version_is h.tree.entries lent.version a.entry.entry a.entry.is,
    record {
      ticket = ticket ∙ ap (λ (t : Ticket). t.number) ticket_is;
      version = version ∙ ap (λ (t : Ticket). t.version) ticket_is;
      first = first ∙ ap (λ (t : Ticket). t.first) ticket_is;
      events = events ∙ ap (lent_events h.events) ticket_is;
      snapshot = snapshot ∙ ap (λ (t : Ticket). t.snapshot) ticket_is;
      closes = closes ∙ ap (λ (t : Ticket). t.closes) ticket_is;
      plan = subst (λ (m : Matching). SamePlan m.plan h.plan) (sym matcher) held.plan;
      stands = subst (λ (m : Matching). Stands m (inner h.plan h.events (version_of a.entry.entry))) (sym matcher) held.stands;
    },
  )
