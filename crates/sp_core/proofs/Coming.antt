-- A piece that comes home: what it led to is what its version comes to, and what it told are the matches that are added.
use Rattle.std.proofs.Common.{◌≡◌, ℕ, ◌+◌, ◌-◌, ◌≤◌, Bool, true, false, cond, ◌&&◌, ◌||◌, ◌==◌, List, [], ◌∷◌, ◌++◌, length, filter, map, drop, Some, refl, sym, ap, subst, ◌∙◌, arith}
use Rattle.std.specs.List.{All, flat_map, list_any}
use Rattle.std.proofs.lemmas.List.{length-take-le, length-drop}
use Rattle.std.proofs.lemmas.List.Elements.{All-tail}
use Rattle.sp_base.specs.Numbers.{is_among}
use Rattle.sp_plan.specs.declared.event.Event.{Event}
use Rattle.sp_plan.specs.declared.plan.Plan.{Plan}
use Rattle.sp_plan.specs.Same.{SamePlan}
use Rattle.sp_plan.specs.Runs.{Started, State, used}
use Rattle.sp_window.specs.Laws.{IsNumber}
use Rattle.sp_match.specs.declared.moves.Moves.{Moves}
use Rattle.sp_match.specs.public.Laws.{completion, is_completion}
use Rattle.sp_match.specs.public.Matching.{Matching, Stands}
use Rattle.sp_piece.specs.Alike.{ReadAlike, all_told, by_plan}
use Rattle.sp_piece.specs.Pieced.{Pieced, LedTo, Tells, loan}
use Rattle.sp_piece.specs.Reading.{Account, Loan, accounts_to, joined, read_on, read_to}
use Rattle.sp_version.specs.declared.version.Version.{Version}
use Rattle.sp_group.specs.Family.{entry_at}
use Rattle.sp_group.specs.Machine as machine
use Rattle.sp_group.specs.Machine.{Ticket, inner, is_group, is_suppressed, ticket_at}
use Rattle.sp_group.specs.Rising.{IsLabel, has_number}
use Rattle.sp_rules.specs.ByGroups.{AddsMatches, VersionHasGroups, grouped}
use Rattle.sp_rules.specs.ComingHome.{IsComingHome, come_home, events_lent}
use Rattle.sp_rules.specs.Kept as kept
use Rattle.sp_rules.specs.Returning.{LendsSoFar}
use Rattle.sp_rules.specs.Schedules.{Reached}
use Rattle.sp_tree.specs.Grown.{Entry, kin}
use Rattle.sp_core.specs.declared.lent.Lent.{Lent}
use Rattle.sp_core.specs.declared.homecoming.Brought.{Brought}
use Rattle.sp_core.specs.Carrying.{Carries, lent_events, ticket_of}
use Rattle.sp_core.specs.Holding.{Holding, Holds, IsCore, machine_of, running, version_of}
use Rattle.sp_core.specs.Homecoming.{completions, is_grouped, spent_run}
use Rattle.sp_core.specs.Returning.{IsCarried}
use Rattle.sp_core.specs.Settling.{CanBring, CanSettle, HomeLaws, IsFrom, IsWithin}
use Rattle.sp_piece.proofs.Consuming.{gathered_completions}
use Rattle.sp_core.proofs.Entries.{found_of_all, local, version_is}
use Rattle.sp_core.proofs.FirstDecided.{all_among}
use Rattle.sp_core.proofs.Journal.{reached}
use Rattle.sp_core.proofs.Later.{completions_are, spent_are, using_given}
use Rattle.sp_core.proofs.Leased.{live}
use Rattle.sp_core.proofs.Owner.{has_id}

-- tests that agree find alike
any_alike : {A : Type 0} (f g : A → Bool) → ((x : A) → f x ≡ g x) → (xs : List A) → list_any f xs ≡ list_any g xs
any_alike f g same [] = refl
any_alike f g same (x ∷ xs) = ap (λ b. b || list_any f xs) (same x) ∙ ap (λ b. g x || b) (any_alike f g same xs)

-- what holds of all elements holds of the later ones
all_later : {A : Type 0} (P : A → Type 0) (xs ys : List A) → All P (xs ++ ys) → All P ys
all_later P [] ys h = h
all_later P (x ∷ xs) ys h = all_later P xs ys (All-tail P x (xs ++ ys) h)

-- nothing is read of a ticket that is kept
unread : (ls : List Lent) (n : ℕ) (t : Ticket) → ticket_at (map ticket_of ls) n ≡ Some t → (t.read ≡ 0) × (t.closing_read ≡ false)
unread [] n t at = absurd (cc)
unread (l ∷ ls) n t at = one (l.ticket == n) at (unread ls n t)
  where
    one : (b : Bool) → cond b (Some (ticket_of l)) (ticket_at (map ticket_of ls) n) ≡ Some t → (ticket_at (map ticket_of ls) n ≡ Some t → (t.read ≡ 0) × (t.closing_read ≡ false))
        → (t.read ≡ 0) × (t.closing_read ≡ false)
    one true here rest =
        let same : ticket_of l ≡ t = cc in
        (sym (ap (λ (u : Ticket). u.read) same), sym (ap (λ (u : Ticket). u.closing_read) same))
    one false there rest = rest there

-- A piece's ticket is out for a live version, and its job is what was lent.
pub record Coming (h : Holding) (p : Pieced) : Type 0 where
  pub core : IsCore h
  pub within : IsWithin p
  pub ticket : Ticket
  pub entry : Entry Version
  pub out : ticket_at (map ticket_of h.tickets) p.job.ticket ≡ Some ticket
  pub live : entry_at kin h.tree.entries ticket.version ≡ Some entry
  pub carries : Carries h.plan (machine_of h) ticket (version_of entry) p.job

pub coming : (h : Holding) (p : Pieced) → IsCore h → IsWithin p → IsCarried (running h) p.job → Coming h p
coming h p core within is =
    let there = live h is.0.version is.1 is.3 in
    let found : Some is.1 ≡ Some (version_of there.entry) = sym is.3 ∙ version_is h.tree.entries is.0.version there.entry there.is in
    let same : is.1 ≡ version_of there.entry = cc in
    record {
      core = core;
      within = within;
      ticket = is.0;
      entry = there.entry;
      out = is.2;
      live = there.is;
      carries = subst (λ (v : machine.Version). Carries h.plan (machine_of h) is.0 v p.job) same is.4;
    }

module _ (laws : HomeLaws) (h : Holding) (p : Pieced) (a : Coming h p) where
  -- the runs of the version before
  abbrev pub before : State
  before = inner h.plan h.events (version_of a.entry)

  -- the version of the machine once it has come home, and its runs
  abbrev pub version_home : machine.Version
  version_home = come_home (version_of a.entry) a.ticket p.read p.closed

  abbrev pub now : State
  now = inner h.plan h.events version_home

  pub held : Holds h.plan h.events (map ticket_of h.tickets) a.entry
  held = found_of_all (Holds h.plan h.events (map ticket_of h.tickets)) h.tree.entries a.ticket.version a.entry a.core.versions a.live

  pub id_is : a.entry.version.id ≡ a.ticket.version
  id_is = has_id a.ticket.version h.tree.entries a.entry a.live

  pub reached_is : Reached h.plan h.tree.bound (machine_of h)
  reached_is = reached laws.schedules h a.core

  pub local_is : kept.Local h.plan h.events h.ended (map ticket_of h.tickets) (is_suppressed h.plan (machine_of h) a.ticket.version) (version_of a.entry)
  local_is = local h reached_is a.ticket.version a.entry a.live

  lent_is : kept.Lent h.plan h.events h.ended (is_suppressed h.plan (machine_of h) a.ticket.version) (version_of a.entry) a.ticket
  lent_is = local_is.lent p.job.ticket a.ticket a.out (sym id_is)

  -- the ticket stays within the events
  within_events : (a.ticket.first - 1 + a.ticket.count ≤ length h.events) × (a.entry.value.position + a.ticket.count ≤ length h.events)
  within_events =
      let windows = (laws.lawful h.plan a.core.compiled).windows.hold_events in
      let is : IsNumber h.plan h.events a.entry.value.window = record { good = reached_is.kept.sane.good; low = local_is.there.0; high = local_is.there.1 } in
      let low = windows.low h.events a.entry.value.window is in
      let within = windows.within h.events a.entry.value.window is in
      let begins = lent_is.begins in
      let fits = lent_is.fits in
      (omega arith, omega arith)

  lent_whole : length p.job.events ≡ a.ticket.count
  lent_whole =
      let inside = within_events.0 in
      ap length a.carries.events
      ∙ length-take-le a.ticket.count (drop (a.ticket.first - 1) h.events) (let left = length-drop (a.ticket.first - 1) h.events in omega arith)

  so_far : LendsSoFar a.ticket p.read p.closed
  so_far = record {
    unread = (unread h.tickets p.job.ticket a.ticket a.out).0;
    unclosed = (unread h.tickets p.job.ticket a.ticket a.out).1;
    within = let whole = lent_whole in let most = a.within.within in omega arith;
    last = λ closed. (sym a.carries.closes ∙ (a.within.last closed).0, (a.within.last closed).1 ∙ lent_whole);
  }

  pub comes : IsComingHome h.plan (machine_of h) p.job.ticket a.ticket (version_of a.entry) p.read p.closed
  comes = record {
    kept = reached_is.kept;
    out = a.out;
    live = version_is h.tree.entries a.ticket.version a.entry a.live;
    so_far = so_far;
  }

  abbrev lending : Loan
  lending = record { plan = h.plan; events = events_lent h.events a.ticket; first = a.ticket.first; snapshot = a.ticket.snapshot }

  led_home : read_to lending before p.read p.closed ≡ now
  led_home =
      laws.home h.plan (machine_of h) p.job.ticket a.ticket (version_of a.entry) p.read p.closed (read_on lending before) a.core.compiled comes
      (record { begins = refl; next = λ k. refl })

  loan_is : loan p.job ≡ by_plan p.job.before.plan lending
  loan_is =
      ap (λ (es : List Event). let l : Loan = record { plan = p.job.before.plan; events = es; first = p.job.first; snapshot = p.job.snapshot.list } in l) a.carries.events
      ∙ ap (λ (n : ℕ). let l : Loan = record { plan = p.job.before.plan; events = lent_events h.events a.ticket; first = n; snapshot = p.job.snapshot.list } in l) a.carries.first
      ∙ ap (λ (ns : List ℕ). let l : Loan = record { plan = p.job.before.plan; events = lent_events h.events a.ticket; first = a.ticket.first; snapshot = ns } in l) a.carries.snapshot

  alike : ReadAlike p.job.before.plan h.plan
  alike = laws.alike p.job.before.plan h.plan a.carries.plan

  read_is : read_to (loan p.job) before p.read p.closed ≡ now
  read_is = ap (λ (l : Loan). read_to l before p.read p.closed) loan_is ∙ alike.read lending before p.read p.closed ∙ led_home

  pub has_before : VersionHasGroups h.plan h.events (version_of a.entry)
  has_before = laws.have h.plan h.events (version_of a.entry) a.core.compiled

  pub has_now : VersionHasGroups h.plan h.events version_home
  has_now = laws.have h.plan h.events version_home a.core.compiled

  pub adds : AddsMatches h.plan before now
  adds = laws.adds h.plan (machine_of h) p.job.ticket a.ticket (version_of a.entry) p.read p.closed a.core.compiled comes

  -- the matcher to which it led stands for the runs now
  pub stands_now : (after : Matching) → LedTo p after → Stands after now
  stands_now after led = subst (λ (s : State). Stands after s) read_is (led.stands before a.carries.stands)

  pub plan_now : (after : Matching) → LedTo p after → SamePlan after.plan h.plan
  plan_now after led = subst (λ (q : Plan). SamePlan q h.plan) (sym led.plan) a.carries.plan

  -- and has their groups
  pub grouped_now : (after : Matching) → LedTo p after → (r : ℕ) → is_grouped after r ≡ is_group h.plan now r
  grouped_now after led r =
      any_alike (λ (run : Started). run.0 == r && has_number (used after.plan run.1)) (λ (run : Started). run.0 == r && has_number (used h.plan run.1))
      (λ run. ap (λ (ns : List ℕ). run.0 == r && has_number ns) ((laws.alike after.plan h.plan (plan_now after led)).used run.1)) after.open_runs
      ∙ ap (list_any (λ (run : Started). run.0 == r && has_number (used h.plan run.1))) (stands_now after led).open_is
      ∙ has_now.groups.any r

  -- the completions told are the matches that are added
  pub completed_now : (moves : List Moves) → Tells p moves → completions moves ≡ map (completion h.plan) adds.later
  completed_now moves tells =
      completions_are h.plan before now adds.later moves (accounts_to lending before p.read p.closed)
      (ap (λ (x : Account). x.told) (tells before a.carries.stands) ∙ gathered_completions p.job.before.plan (joined (accounts_to (loan p.job) before p.read p.closed))
      ∙ ap (λ (l : Loan). filter is_completion (all_told (accounts_to l before p.read p.closed))) loan_is
      ∙ ap (λ (accounts : List Account). filter is_completion (all_told accounts)) (alike.told lending before p.read p.closed))
      adds.matched
      (ap (λ (s : State). map (completion h.plan) s.matched) (sym led_home) ∙ laws.tell lending before p.read p.closed has_before.sound)

  pub live_here : entry_at kin h.tree.entries p.job.version ≡ Some a.entry
  live_here = ap (entry_at kin h.tree.entries) a.carries.version ∙ a.live

  label_is : IsLabel a.entry.version.groups
  label_is =
      subst IsLabel
      (sym (laws.rising a.entry.version.groups (grouped h.plan before) held.rising has_before.groups.label.rising (λ r. held.groups r ∙ sym (has_before.groups.are r))))
      has_before.groups.label

  -- what it brings can be made
  pub can_bring : CanBring h.tree p
  can_bring = record {
    entry = a.entry;
    live = live_here;
    label = label_is;
    numbered = λ after led. subst (λ (runs : List Started). All (λ (run : Started). 1 ≤ run.0) runs) (sym (stands_now after led).open_is) (λ k d l. (has_now.sound.ordered.given k d l).0);
    given = λ moves tells. subst (λ (runs : List ℕ). All (λ (r : ℕ). 1 ≤ r) runs) (sym (ap (flat_map spent_run) (completed_now moves tells) ∙ spent_are h.plan adds.later))
        (using_given h.plan adds.later (λ k d l. (later_given k d l).0));
  }
    where
      later_given : All (λ (run : Started). (1 ≤ run.0) × (run.0 ≤ now.started)) adds.later
      later_given =
          let P : Started → Type 0 = λ (run : Started). (1 ≤ run.0) × (run.0 ≤ now.started) in
          all_later P before.matched adds.later (subst (λ (runs : List Started). All P runs) adds.matched has_now.sound.given)

  -- and taken up
  pub can_settle : (b : Brought) → IsFrom h.tree p b → CanSettle h.tree p b
  can_settle b from = record {
    entry = a.entry;
    live = live_here;
    few = let inside = within_events.1 in let most = a.core.windows.few in let whole = lent_whole in let read = a.within.within in omega arith;
    rising = from.rising;
    more = all_among b.groups a.entry.version.groups (λ r m. groups_are r ∙ ap (λ (x : Bool). x || is_grouped from.after r || is_among b.completed.items r) m);
    spent = λ r m. groups_are r ∙ ap (λ (x : Bool). is_among a.entry.version.groups r || is_grouped from.after r || x) m ∙ either (is_among a.entry.version.groups r || is_grouped from.after r);
    alike = λ m n first second r. grouped_now m first r ∙ sym (grouped_now n second r);
  }
    where
      groups_are : (r : ℕ) → is_among b.groups r ≡ (is_among a.entry.version.groups r || is_grouped from.after r || is_among b.completed.items r)
      groups_are = (from.brought a.entry live_here).groups_are

      either : (x : Bool) → (x || true) ≡ true
      either true = refl
      either false = refl
