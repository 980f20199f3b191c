-- What each kind of step makes of a bench.
use Rattle.std.proofs.Common.{◌≡◌, ℕ, ◌<◌, Bool, true, false, cond, ◌==◌, List, [], ◌∷◌, ◌++◌, ◌⊎◌, inl, inr, length, map, get_or, set, take, drop, suc, Option, Some, None, is_some, refl, sym, ap, subst, ◌∙◌, arith}
use Rattle.std.specs.List.{All, remove}
use Rattle.std.proofs.lemmas.Bool.Decides.{nat_tests}
use Rattle.std.proofs.lemmas.List.Elements.{All-append, All-nil, All-cons, All-drop, All-set, All-take, All-weaker}
use Rattle.std.proofs.lemmas.Option.{none-some, same_Some}
use Rattle.sp_piece.specs.declared.job.Job.{Job}
use Rattle.sp_piece.specs.Pieced.{Pieced, after_step, begun}
use Rattle.sp_group.specs.declared.refusal.Refusal.{Refusal}
use Rattle.sp_group.specs.declared.step.Entry.{Entry}
use Rattle.sp_group.specs.declared.step.Step.{Step}
use Rattle.sp_group.specs.declared.step.Step.TheVariants as s
use Rattle.sp_group.specs.Machine.{Machine, Ticket, Version, ticket_at, version_at}
use Rattle.sp_group.specs.Refusing.{event_refusal, return_refusal}
use Rattle.sp_group.specs.Effects.{effect, home, leased, read_if, read_on, returned, without}
use Rattle.sp_group.specs.Effects as effects
use Rattle.sp_group.specs.Steps.{Home, Leased, Stale, answer, event_answer, lease_answer as steps_lease, return_answer}
use Rattle.sp_rules.specs.Kept.{NewestFirst}
use Rattle.sp_rules.specs.Returning.{LendsSoFar, readings}
use Rattle.sp_rules.specs.Schedules.{FitsStep}
use Rattle.sp_core.specs.declared.answer.Answer.{Answer}
use Rattle.sp_core.specs.declared.answer.Answer.TheVariants as a
use Rattle.sp_core.specs.declared.fault.CoreFault.{CoreFault}
use Rattle.sp_core.specs.declared.fault.CoreFault.TheVariants as f
use Rattle.sp_core.specs.declared.given.Given.TheVariants as g
use Rattle.sp_core.specs.declared.lent.Lent.{Lent}
use Rattle.sp_core.specs.Benched.{Benched, IsAnswerTo, IsBenchFault, IsTaken, answered, refused_by}
use Rattle.sp_core.specs.Carrying.{Carries, ticket_of}
use Rattle.sp_core.specs.Faults.{IsFault}
use Rattle.sp_core.specs.Holding.{Holding, IsCore, machine_of, running}
use Rattle.sp_core.specs.Leasing.{IsLeased, IsLent}
use Rattle.sp_core.specs.OnBench.{BenchLaws, IsHeld, IsOnBench, on_bench, ticket_in, unread}
use Rattle.sp_core.specs.Returning.{IsGiven, reading_entries}
use Rattle.sp_core.specs.Running.{IsDone, Running, after, flat, once, refused}
use Rattle.sp_core.proofs.OneStepOn.{IsKnown, IsStep, all_known, found_at, goes_on, reached_by}
use Rattle.sp_core.proofs.PiecesOut.{gone_at, read_at, unread_read, unread_without}
use Rattle.sp_core.proofs.ReadApart.{found_unread, leaves_tickets, left_alone, same_answer, same_effect, same_lease, same_refusal}
use Rattle.sp_core.proofs.ReadOn.{stays_within}

-- A step that leaves the tickets as they are: the core does it.
module _ (laws : BenchLaws) (c : Running) (ps : List Pieced) (on : IsOnBench c ps) (x : Step) (leaves : leaves_tickets x ≡ true) where
  pub still_on : (d : Running) → IsDone x c d → FitsStep c.plan c.bound (on_bench c ps).machine x → IsOnBench d ps
  still_on d done fits =
      let m = effect c.plan c.machine x in
      let step : IsStep c m ps ps x = record {
        fits = fits;
        passes = same_refusal c.plan c.machine (map ticket_in ps) on.tickets c.bound x leaves ∙ done.0;
        does = sym (same_effect c.plan c.machine (map ticket_in ps) on.tickets x leaves);
      } in
      subst (λ (r : Running). IsOnBench r ps) (sym done.1)
      (goes_on laws c m ps ps x on step (c.journal ++ once x ∷ []) (on.tickets ∙ sym (left_alone c.plan c.machine x leaves))
      (λ k d few. inl (all_known laws c ps on k d few)))

  -- for the bench that the core and its pieces are
  module _ (b : Benched) (view : on_bench c ps ≡ b) where
    pub still_taken : (d : Running) → IsDone x c d → IsTaken x b (on_bench d ps)
    still_taken d done =
        subst (λ (o : Benched). IsTaken x o (on_bench d ps)) view
        (subst (λ (r : Running). IsTaken x (on_bench c ps) (on_bench r ps)) (sym done.1) (
          same_refusal c.plan c.machine (map ticket_in ps) on.tickets c.bound x leaves ∙ done.0,
          ap (λ (m : Machine). record (on_bench c ps) { machine = m }) (sym (same_effect c.plan c.machine (map ticket_in ps) on.tickets x leaves)),
        ))

    pub still_answer : (given : Answer) → answered given ≡ answer c.plan c.machine x → IsAnswerTo b x given
    still_answer given is =
        is ∙ sym (same_answer c.plan c.machine (map ticket_in ps) on.tickets x leaves) ∙ ap (λ (o : Benched). answer o.plan o.machine x) view

    pub still_refused : (why : Refusal) → refused c x ≡ Some why → refused_by b x ≡ Some why
    still_refused why is =
        ap (λ (o : Benched). refused_by o x) (sym view) ∙ same_refusal c.plan c.machine (map ticket_in ps) on.tickets c.bound x leaves ∙ is

    pub still_fault : (fault : CoreFault) → IsFault c x fault → IsBenchFault b x fault
    still_fault (f.Refused why) is = still_refused why is
    still_fault f.Memory is = tt

-- what is found under an id has it
has_id : (vs : List Version) (id : ℕ) (v : Version) → version_at vs id ≡ Some v → v.id ≡ id
has_id [] id v at = absurd (cc)
has_id (w ∷ vs) id v at = one (has_id vs id v) (w.id == id) refl at
  where
    one : (version_at vs id ≡ Some v → v.id ≡ id) → (b : Bool) → (w.id == id) ≡ b → cond b (Some w) (version_at vs id) ≡ Some v → v.id ≡ id
    one rest true is at = let same : w.id ≡ v.id = ap (λ (u : Version). u.id) (same_Some w v at) in grind (arith, nat_tests)
    one rest false is at = rest at

-- A lease of a version, which is live: a piece stands for what goes out.
module _ (laws : BenchLaws) (c : Running) (ps : List Pieced) (on : IsOnBench c ps) (id n : ℕ) where
  pub lease_refused : refused_by (on_bench c ps) (s.Lease id n) ≡ refused c (s.Lease id n)
  lease_refused = same_lease c.plan c.machine (map ticket_in ps) on.tickets id (version_at c.machine.versions id)

  module _ (lent : Lent) (job : Job) (is : IsLent c id n lent) (carried : IsLeased c id n job) (count : length job.events ≡ lent.count) where
    lent_ticket : ticket_of lent ≡ effects.lent c.plan c.machine n carried.0
    lent_ticket = is.2 ∙ ap (effects.lent c.plan c.machine n) (same_Some is.0 carried.0 (sym is.1 ∙ carried.1))

    begun_ticket : ticket_in (begun job) ≡ effects.lent c.plan c.machine n carried.0
    begun_ticket =
        let k = carried.2 in
        let many : length job.events ≡ (effects.lent c.plan c.machine n carried.0).count = count ∙ ap (λ (t : Ticket). t.count) lent_ticket in
        let number = k.ticket in
        let version = k.version in
        let first = k.first in
        let snapshot = k.snapshot in
        let closes = k.closes in
        cc

    pub lease_answer : answered (a.Leased lent) ≡ answer c.plan (on_bench c ps).machine (s.Lease id n)
    lease_answer = ap Leased lent_ticket ∙ sym (ap (steps_lease c.plan (on_bench c ps).machine n) carried.1)

    -- the piece is held, whatever stands in the journal
    lease_held : (journal : List Entry) → IsHeld (record c { machine = leased c.plan c.machine n (Some carried.0); journal = journal }) (begun job)
    lease_held journal = record {
      whole = refl;
      within = record { within = omega arith; last = λ shut. absurd (cc) };
      carries = λ w live.
          let own : job.version ≡ id = carried.2.version ∙ has_id c.machine.versions id carried.0 carried.1 in
          let same : carried.0 ≡ w = same_Some carried.0 w (sym carried.1 ∙ ap (version_at c.machine.versions) (sym own) ∙ live) in
          let k = subst (λ (u : Version). Carries c.plan c.machine (ticket_in (begun job)) u job) same
          (subst (λ (t : Ticket). Carries c.plan c.machine t carried.0 job) (sym begun_ticket) carried.2) in
          record {
            ticket = k.ticket;
            version = k.version;
            first = k.first;
            events = k.events;
            snapshot = k.snapshot;
            closes = k.closes;
            plan = k.plan;
            stands = k.stands;
          };
    }

    module _ (passes : refused c (s.Lease id n) ≡ None) where
      lease_does : record (leased c.plan c.machine n (Some carried.0)) { tickets = map ticket_in (begun job ∷ ps) } ≡ effect c.plan (on_bench c ps).machine (s.Lease id n)
      lease_does =
          ap (λ (t : Ticket). record (leased c.plan c.machine n (Some carried.0)) { tickets = t ∷ map ticket_in ps }) begun_ticket
          ∙ sym (ap (leased c.plan (on_bench c ps).machine n) carried.1)

      is_leased : effect c.plan c.machine (s.Lease id n) ≡ leased c.plan c.machine n (Some carried.0)
      is_leased = ap (leased c.plan c.machine n) carried.1

      pub lease_on : IsOnBench (after c (s.Lease id n)) (begun job ∷ ps)
      lease_on =
          let m = leased c.plan c.machine n (Some carried.0) in
          let journal = c.journal ++ once (s.Lease id n) ∷ [] in
          let step : IsStep c m ps (begun job ∷ ps) (s.Lease id n) = record { fits = tt; passes = lease_refused ∙ passes; does = lease_does } in
          let tickets : map unread (map ticket_in (begun job ∷ ps)) ≡ m.tickets =
          ap (λ (t : Ticket). unread t ∷ map unread (map ticket_in ps)) begun_ticket ∙ ap (λ ts. effects.lent c.plan c.machine n carried.0 ∷ ts) on.tickets in
          subst (λ (k : Machine). IsOnBench (record c { machine = k; journal = journal }) (begun job ∷ ps)) (sym is_leased)
          (goes_on laws c m ps (begun job ∷ ps) (s.Lease id n) on step journal tickets
          (All-cons (λ p. IsKnown c (on_bench c ps).machine p ⊎ IsHeld (record c { machine = m; journal = journal }) p) (begun job) ps (inr (lease_held journal))
          (λ k d few. inl (all_known laws c ps on k d few))))

      pub lease_taken : IsTaken (s.Lease id n) (on_bench c ps) (on_bench (after c (s.Lease id n)) (begun job ∷ ps))
      lease_taken = (
        lease_refused ∙ passes,
        ap (λ (k : Machine). record (on_bench c ps) { machine = record k { tickets = map ticket_in (begun job ∷ ps) } }) is_leased
            ∙ ap (λ (k : Machine). record (on_bench c ps) { machine = k }) lease_does,
      )

-- A ticket that is out: its piece is read on, or comes home.
module _ (laws : BenchLaws) (c : Running) (ps : List Pieced) (on : IsOnBench c ps) (place : ℕ) (d : Pieced) (few : place < length ps) where
  newest : NewestFirst (map ticket_in ps)
  newest = (reached_by laws c ps on).kept.sane.newest_first

  out : ticket_at (map ticket_in ps) (get_or ps place d).job.ticket ≡ Some (ticket_in (get_or ps place d))
  out = found_at ps newest place d few

  pub read_refused : refused_by (on_bench c ps) (s.Event (get_or ps place d).job.ticket) ≡ event_refusal (get_or ps place d).job.ticket (Some (ticket_in (get_or ps place d)))
  read_refused = ap (event_refusal (get_or ps place d).job.ticket) out

  pub read_answer : answer c.plan (on_bench c ps).machine (s.Event (get_or ps place d).job.ticket) ≡ event_answer (Some (ticket_in (get_or ps place d)))
  read_answer = ap event_answer out

  module _ (passes : event_refusal (get_or ps place d).job.ticket (Some (ticket_in (get_or ps place d))) ≡ None)
      (reads : ticket_in (after_step (get_or ps place d)) ≡ read_if true (ticket_in (get_or ps place d))) where
    all_read : map ticket_in (set ps place (after_step (get_or ps place d))) ≡ read_on (get_or ps place d).job.ticket (map ticket_in ps)
    all_read = read_at ps place d (after_step (get_or ps place d)) newest few reads

    pub read_taken : IsTaken (s.Event (get_or ps place d).job.ticket) (on_bench c ps) (on_bench c (set ps place (after_step (get_or ps place d))))
    read_taken = (read_refused ∙ passes, ap (λ (ts : List Ticket). record (on_bench c ps) { machine = record c.machine { tickets = ts } }) all_read)

    pub read_on_bench : IsOnBench c (set ps place (after_step (get_or ps place d)))
    read_on_bench =
        let p = get_or ps place d in
        let m = (on_bench c ps).machine in
        let known = all_known laws c ps on in
        let it = known place d few in
        let step : IsStep c c.machine ps (set ps place (after_step p)) (s.Event p.job.ticket) = record {
          fits = tt;
          passes = read_refused ∙ passes;
          does = ap (λ (ts : List Ticket). record c.machine { tickets = ts }) all_read;
        } in
        let further : IsKnown c m (after_step p) = record {
          held = record { whole = it.held.whole; within = stays_within p it.held.within; carries = it.held.carries };
          read = p.read;
          closed = p.closed;
          found = out;
        } in
        goes_on laws c c.machine ps (set ps place (after_step p)) (s.Event p.job.ticket) on step c.journal
        (ap (map unread) all_read ∙ unread_read p.job.ticket (map ticket_in ps) ∙ on.tickets)
        (All-weaker (IsKnown c m) (λ k. IsKnown c m k ⊎ IsHeld c k) (λ k is. inl is) (set ps place (after_step p)) (All-set (IsKnown c m) ps place (after_step p) further known))

  all_left : map ticket_in (remove ps place) ≡ without (get_or ps place d).job.ticket (map ticket_in ps)
  all_left = gone_at ps place d newest few

  home_left : (o : Option Version) → map unread (map ticket_in (remove ps place))
      ≡ (home c.plan c.machine (get_or ps place d).job.ticket (ticket_in (get_or ps place d)) o).tickets
  home_left None = ap (map unread) all_left ∙ unread_without (get_or ps place d).job.ticket (map ticket_in ps) ∙ ap (without (get_or ps place d).job.ticket) on.tickets
  home_left (Some v) = ap (map unread) all_left ∙ unread_without (get_or ps place d).job.ticket (map ticket_in ps) ∙ ap (without (get_or ps place d).job.ticket) on.tickets

  home_does : (o : Option Version) → record (home c.plan c.machine (get_or ps place d).job.ticket (ticket_in (get_or ps place d)) o) { tickets = map ticket_in (remove ps place) }
      ≡ home c.plan (on_bench c ps).machine (get_or ps place d).job.ticket (ticket_in (get_or ps place d)) o
  home_does None = ap (λ (ts : List Ticket). record c.machine { tickets = ts }) all_left
  home_does (Some v) =
      ap (λ (ts : List Ticket). record (home c.plan c.machine (get_or ps place d).job.ticket (ticket_in (get_or ps place d)) (Some v)) { tickets = ts }) all_left

  returns : effect c.plan (on_bench c ps).machine (s.Return (get_or ps place d).job.ticket)
      ≡ home c.plan (on_bench c ps).machine (get_or ps place d).job.ticket (ticket_in (get_or ps place d)) (version_at c.machine.versions (get_or ps place d).job.version)
  returns = ap (returned c.plan (on_bench c ps).machine (get_or ps place d).job.ticket) out

  return_passes : refused_by (on_bench c ps) (s.Return (get_or ps place d).job.ticket) ≡ None
  return_passes = ap (return_refusal (get_or ps place d).job.ticket) out

  -- the state of the machine in which the core is then
  abbrev pub IsHomeIn : Running → Type 0
  IsHomeIn e =
      (journal : List Entry)
      × (e ≡ record c { machine = home c.plan c.machine (get_or ps place d).job.ticket (ticket_in (get_or ps place d)) (version_at c.machine.versions (get_or ps place d).job.version); journal = journal })

  pub home_taken : (e : Running) → IsHomeIn e → IsTaken (s.Return (get_or ps place d).job.ticket) (on_bench c ps) (on_bench e (remove ps place))
  home_taken e is =
      subst (λ (r : Running). IsTaken (s.Return (get_or ps place d).job.ticket) (on_bench c ps) (on_bench r (remove ps place))) (sym is.1)
      (return_passes, ap (λ (k : Machine). record (on_bench c ps) { machine = k }) (home_does (version_at c.machine.versions (get_or ps place d).job.version) ∙ sym returns))

  pub home_on : (e : Running) → IsHomeIn e → IsOnBench e (remove ps place)
  home_on e is =
      let p = get_or ps place d in
      let o = version_at c.machine.versions p.job.version in
      let m = home c.plan c.machine p.job.ticket (ticket_in p) o in
      let known = all_known laws c ps on in
      let step : IsStep c m ps (remove ps place) (s.Return p.job.ticket) = record {
        fits = tt;
        passes = return_passes;
        does = home_does o ∙ sym returns;
      } in
      let left : All (IsKnown c (on_bench c ps).machine) (remove ps place) =
      All-append (IsKnown c (on_bench c ps).machine) (take place ps) (drop (suc place) ps)
      (All-take (IsKnown c (on_bench c ps).machine) place ps known) (All-drop (IsKnown c (on_bench c ps).machine) (suc place) ps known) in
      subst (λ (r : Running). IsOnBench r (remove ps place)) (sym is.1)
      (goes_on laws c m ps (remove ps place) (s.Return p.job.ticket) on step is.0 (home_left o)
      (All-weaker (IsKnown c (on_bench c ps).machine) (λ k. IsKnown c (on_bench c ps).machine k ⊎ IsHeld (record c { machine = m; journal = is.0 }) k)
      (λ k here. inl here) (remove ps place) left))

  -- the core's ticket, of which nothing was read
  core_out : ticket_at c.machine.tickets (get_or ps place d).job.ticket ≡ Some (unread (ticket_in (get_or ps place d)))
  core_out =
      ap (λ ts. ticket_at ts (get_or ps place d).job.ticket) (sym on.tickets)
      ∙ found_unread (map ticket_in ps) (get_or ps place d).job.ticket (ticket_in (get_or ps place d)) out

  is_unread : (t : Ticket) → ticket_at c.machine.tickets (get_or ps place d).job.ticket ≡ Some t → t ≡ unread (ticket_in (get_or ps place d))
  is_unread t at = same_Some t (unread (ticket_in (get_or ps place d))) (sym at ∙ core_out)

  answers_as : (o : Option Version) → version_at c.machine.versions (get_or ps place d).job.version ≡ o
      → answer c.plan (on_bench c ps).machine (s.Return (get_or ps place d).job.ticket) ≡ cond (is_some o) Home Stale
  answers_as o at = ap (return_answer (on_bench c ps).machine) out ∙ ap (λ (u : Option Version). cond (is_some u) Home Stale) at

  module _ (e : Running) where
    pub came_home : IsGiven c e (get_or ps place d) g.Home → IsHomeIn e × IsAnswerTo (on_bench c ps) (s.Return (get_or ps place d).job.ticket) a.Home
    came_home given =
        let p = get_or ps place d in
        let held = on.held place d few in
        let lends : LendsSoFar (unread (ticket_in p)) p.read p.closed = record { unread = refl; unclosed = refl; within = held.within.within; last = held.within.last } in
        let whole = (laws.returns c.plan c.bound c.machine p.job.ticket (unread (ticket_in p)) p.read p.closed core_out lends).whole in
        let journal = c.journal ++ reading_entries p.job.ticket (readings p.read p.closed) ++ once (s.Return p.job.ticket) ∷ [] in
        let live : version_at c.machine.versions p.job.version ≡ Some given.1 =
        ap (λ (t : Ticket). version_at c.machine.versions t.version) (sym (is_unread given.0 given.2.out)) ∙ given.2.live in
        ((journal, given.4 ∙ ap (λ (m : Machine). record c { machine = m; journal = journal }) whole), sym (answers_as (Some given.1) live))

    pub went_stale : (id : ℕ) → IsGiven c e (get_or ps place d) (g.Stale id)
        → IsHomeIn e × IsAnswerTo (on_bench c ps) (s.Return (get_or ps place d).job.ticket) a.Stale
    went_stale id given =
        let p = get_or ps place d in
        let journal = c.journal ++ once (s.Return p.job.ticket) ∷ [] in
        let gone : version_at c.machine.versions p.job.version ≡ None =
        ap (λ (t : Ticket). version_at c.machine.versions t.version) (sym (is_unread given.0 given.1)) ∙ ap (version_at c.machine.versions) given.2 ∙ given.3 in
        let does : effect c.plan c.machine (s.Return p.job.ticket) ≡ home c.plan c.machine p.job.ticket (ticket_in p) (version_at c.machine.versions p.job.version) =
        ap (returned c.plan c.machine p.job.ticket) core_out
        ∙ ap (home c.plan c.machine p.job.ticket (unread (ticket_in p))) gone
        ∙ sym (ap (home c.plan c.machine p.job.ticket (ticket_in p)) gone) in
        ((journal, given.4 ∙ ap (λ (m : Machine). record c { machine = m; journal = journal }) does), sym (answers_as None gone))

    pub is_out : (n : ℕ) → IsGiven c e (get_or ps place d) (g.NotOut n) → ⊥
    is_out n given = none-some (unread (ticket_in (get_or ps place d))) (sym given.1 ∙ ap (ticket_at c.machine.tickets) given.0 ∙ core_out)

    pub is_the_same : (lent : Lent) (back : Pieced) → IsGiven c e (get_or ps place d) (g.Differs lent back) → ⊥
    is_the_same lent back given =
        let p = get_or ps place d in
        let same = is_unread given.0 given.2.out in
        let live : version_at c.machine.versions p.job.version ≡ Some given.1 = ap (λ (t : Ticket). version_at c.machine.versions t.version) (sym same) ∙ given.2.live in
        given.3 (subst (λ (t : Ticket). Carries c.plan c.machine t given.1 p.job) (sym same) ((on.held place d few).carries given.1 live))

-- a core, no ticket of which is out, is put on a bench
pub put_on : (h : Holding) → IsCore h → map ticket_of h.tickets ≡ [] → IsOnBench (running h) []
put_on h core none = record {
  compiled = core.compiled;
  some = core.some;
  most = core.most;
  tickets = sym none;
  held = All-nil (IsHeld (running h));
  taken = flat h.journal;
  fits = core.replayed.fits;
  leads = core.replayed.leads ∙ ap (λ (ts : List Ticket). record (machine_of h) { tickets = ts }) none;
}
