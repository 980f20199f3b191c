-- The only ticket that is out is read, and comes home.
use Rattle.std.proofs.Common.{◌≡◌, ◌≤◌, ℕ, zero, suc, Bool, true, false, cond, not, ◌==◌, List, [], ◌∷◌, ◌++◌, Some, None, Option, refl, sym, ◌∙◌, ap, subst, arith, append_assoc}
use Rattle.std.proofs.lemmas.Bool.Decides.{nat_tests}
use Rattle.std.proofs.lemmas.List.{append-nil}
use Rattle.std.proofs.lemmas.List.Elements.{All-cons}
use Rattle.std.proofs.lemmas.Option.{same_Some, none-some}
use Rattle.std.proofs.Math.Nat.{le_trans}
use Rattle.sp_base.specs.Limits.{batch_limit}
use Rattle.sp_plan.specs.declared.found.Match.{Match}
use Rattle.sp_plan.specs.declared.plan.Plan.{Plan}
use Rattle.sp_group.specs.declared.refusal.Refusal.{Refusal}
use Rattle.sp_group.specs.declared.step.Entry.{Entry}
use Rattle.sp_group.specs.declared.step.Step.TheVariants as s
use Rattle.sp_group.specs.Effects.{event_read, leased, lent, home, returned, read_if, without}
use Rattle.sp_group.specs.Machine.{Machine, Ticket, Version, ticket_at, version_at}
use Rattle.sp_group.specs.Refusing.{refusal, return_refusal}
use Rattle.sp_group.specs.Steps.{step, steps, unless_refused}
use Rattle.sp_rules.specs.Returning.{reads_and_return, readings}
use Rattle.sp_piece.specs.declared.job.Job.{Job}
use Rattle.sp_piece.specs.Pieced.{Pieced}
use Rattle.sp_core.specs.Carrying.{Carries}
use Rattle.sp_core.specs.Returning.{IsGiven, after_return, reading_entries}
use Rattle.sp_core.specs.Leasing.{IsLeased}
use Rattle.sp_core.specs.Running.{Running, IsDone, after, once}
use Rattle.sp_core.specs.declared.given.Given.TheVariants as g
use Rattle.sp_split.specs.declared.turning.Turn.TheVariants as t
use Rattle.sp_spread.specs.Journaled.{fed, makes_child, MakesNoChild}
use Rattle.sp_spread.specs.Limiting.{AsksAtMost, asked_by}
use Rattle.sp_split.specs.Stages.{CutOff, IsOutAlone, Turned}
use Rattle.sp_split.proofs.Steps.{SameInput, asked_once, worked_by, worked_more, worked_step, no_child_once}

-- the machine has the input of another, has emitted the same, and these tickets are out
pub record With (m n : Machine) (tickets : List Ticket) : Type 0 where
  pub input : SameInput m n
  pub emitted : n.emitted ≡ m.emitted
  pub out : n.tickets ≡ tickets

with_more : (a b c : Machine) (ts us : List Ticket) → With a b ts → With b c us → With a c us
with_more a b c ts us first second = record {
  input = record { events = second.input.events ∙ first.input.events; ended = second.input.ended ∙ first.input.ended; finished = le_trans first.input.finished second.input.finished };
  emitted = second.emitted ∙ first.emitted;
  out = second.out;
}

module _ (q : Plan) (bound n : ℕ) where
  -- the ticket is read on, or that is refused
  read_one : (m : Machine) (ticket : Ticket) → m.tickets ≡ ticket ∷ [] → (u : Ticket) × (u.number ≡ ticket.number) × With m (step q bound m (s.Event n)) (u ∷ [])
  read_one m ticket alone = one (refusal q bound m (s.Event n))
    where
      one : (o : Option Refusal) → (u : Ticket) × (u.number ≡ ticket.number) × With m (unless_refused o m (event_read m n)) (u ∷ [])
      one None = (
        read_if (ticket.number == n) ticket,
        refl,
        record {
          input = record { events = refl; ended = refl; finished = omega arith };
          emitted = refl;
          out = ap (λ (l : List Ticket). (event_read (record m { tickets = l }) n).tickets) alone;
        },
      )
      one (Some r) = (ticket, refl, record { input = record { events = refl; ended = refl; finished = omega arith }; emitted = refl; out = alone })

  -- the ticket ends
  return_one : (m : Machine) (ticket : Ticket) → m.tickets ≡ ticket ∷ [] → (ticket.number == n) ≡ true → With m (step q bound m (s.Return n)) []
  return_one m ticket alone own = subst (λ (o : Option Ticket). With m (unless_refused (return_refusal n o) m (returned q m n o)) []) (sym found) (back (version_at m.versions ticket.version))
    where
      found : ticket_at m.tickets n ≡ Some ticket
      found = ap (λ (l : List Ticket). ticket_at l n) alone ∙ ap (λ b. cond {A = Option Ticket} b (Some ticket) None) own

      none : without n m.tickets ≡ []
      none = ap (without n) alone ∙ ap (λ b. cond {A = List Ticket} (not b) (ticket ∷ []) []) own

      back : (o : Option Version) → With m (home q m n ticket o) []
      back None = record { input = record { events = refl; ended = refl; finished = omega arith }; emitted = refl; out = none }
      back (Some v) = record { input = record { events = refl; ended = refl; finished = omega arith }; emitted = refl; out = none }

  pub read_and_returned : (times : ℕ) (m : Machine) (ticket : Ticket) → m.tickets ≡ ticket ∷ [] → (ticket.number == n) ≡ true → With m (steps q bound m (reads_and_return n times)) []
  read_and_returned zero m ticket alone own = return_one m ticket alone own
  read_and_returned (suc k) m ticket alone own =
      let m' = step q bound m (s.Event n) in
      let r = read_one m ticket alone in
      with_more m m' (steps q bound m' (reads_and_return n k)) (r.0 ∷ []) [] r.2 (read_and_returned k m' r.0 r.2.out (ap (λ k. k == n) r.1 ∙ own))

-- the entries of readings and a return
return_feeds_none : (n times : ℕ) → fed (reading_entries n times ++ once (s.Return n) ∷ []) ≡ []
return_feeds_none n zero = refl
return_feeds_none n (suc k) = refl

return_makes_none : (n times : ℕ) → MakesNoChild (reading_entries n times ++ once (s.Return n) ∷ [])
return_makes_none n zero = no_child_once (s.Return n) refl
return_makes_none n (suc k) = All-cons (λ (e : Entry). makes_child e.step ≡ false) (record { step = s.Event n; times = suc k }) (once (s.Return n) ∷ []) refl (no_child_once (s.Return n) refl)

return_asks_none : (n times : ℕ) → AsksAtMost batch_limit (reading_entries n times ++ once (s.Return n) ∷ [])
return_asks_none n zero = asked_once (s.Return n) (omega arith)
return_asks_none n (suc k) =
    All-cons (λ (e : Entry). asked_by e.step ≤ batch_limit) (record { step = s.Event n; times = suc k }) (once (s.Return n) ∷ []) (omega arith)
    (asked_once (s.Return n) (omega arith))

is_own : (ticket t : Ticket) (n : ℕ) (b : Bool) → cond {A = Option Ticket} b (Some ticket) None ≡ Some t → b ≡ true
is_own ticket t n true is = refl
is_own ticket t n false is = absurd (none-some t is)

-- a piece whose ticket alone was out is home
pub is_home : (old new : Running) (p : Pieced) → IsOutAlone old p → IsGiven old new p g.Home → Turned old new t.Worked
is_home old new p out given =
    let n = p.job.ticket in
    let times = readings p.read p.closed in
    let is : new ≡ after_return old n times = given.4 in
    let own = is_own out.ticket given.0 n (out.ticket.number == n) (sym (ap (λ (l : List Ticket). ticket_at l n) out.alone) ∙ given.2.out) in
    let done = read_and_returned old.plan old.bound n times old.machine out.ticket out.alone own in
    let w : With old.machine new.machine [] = subst (λ (c : Running). With old.machine c.machine []) (sym is) done in
    record {
      on = worked_by old new (reading_entries n times ++ once (s.Return n) ∷ []) (ap (λ (c : Running). c.plan) is) (ap (λ (c : Running). c.bound) is)
          (ap (λ (c : Running). c.journal) is ∙ append_assoc old.journal (reading_entries n times) (once (s.Return n) ∷ [])) (return_feeds_none n times) (return_makes_none n times)
          (return_asks_none n times) w.input;
      none_out = w.out;
      emitted = w.emitted ∙ sym (append-nil old.machine.emitted);
      idle = λ no. cc;
    }

-- a version is found under its own id
own_id : (vs : List Version) (id : ℕ) (v : Version) → version_at vs id ≡ Some v → v.id ≡ id
own_id [] id v is = absurd (none-some v is)
own_id (w ∷ vs) id v is = one (own_id vs id v) (w.id == id) refl is
  where
    one : (version_at vs id ≡ Some v → v.id ≡ id) → (b : Bool) → (w.id == id) ≡ b → cond b (Some w) (version_at vs id) ≡ Some v → v.id ≡ id
    one rest true own is = let same = ap (λ (u : Version). u.id) (same_Some w v is) in grind (arith, nat_tests)
    one rest false own is = rest is

module _ (old new : Running) (root batch : ℕ) (done : IsDone (s.Lease root batch) old new) where
  input_leased : (o : Option Version) → SameInput old.machine (leased old.plan old.machine batch o)
  input_leased None = record { events = refl; ended = refl; finished = omega arith }
  input_leased (Some v) = record { events = refl; ended = refl; finished = omega arith }

  emitted_leased : (o : Option Version) → (leased old.plan old.machine batch o).emitted ≡ old.machine.emitted
  emitted_leased None = refl
  emitted_leased (Some v) = refl

  -- nothing was emitted by a lease for no more events than any may ask for
  pub leased_cut_off : batch ≤ batch_limit → CutOff old new
  leased_cut_off most = record {
    on = worked_step old new (s.Lease root batch) done.1 refl refl most (input_leased (version_at old.machine.versions root));
    emitted = ap (λ (c : Running). c.machine.emitted) done.1 ∙ emitted_leased (version_at old.machine.versions root);
  }

  -- the piece that is read of its job is the only one that is out
  pub leased_alone : (job : Job) (p : Pieced) → old.machine.tickets ≡ [] → IsLeased old root batch job → p.job ≡ job → IsOutAlone new p
  leased_alone job p none is same = subst (λ (c : Running). IsOutAlone c p) (sym new_is) there
    where
      v : Version
      v = is.0

      led : Running
      led = record (after old (s.Lease root batch)) { machine = leased old.plan old.machine batch (Some v) }

      new_is : new ≡ led
      new_is = done.1 ∙ ap (λ (o : Option Version). record (after old (s.Lease root batch)) { machine = leased old.plan old.machine batch o }) is.1

      ticket : Ticket
      ticket = lent old.plan old.machine batch v

      number : p.job.ticket ≡ old.machine.next_ticket
      number = ap (λ (j : Job). j.ticket) same ∙ is.2.ticket

      there : IsOutAlone led p
      there =
          let own : (old.machine.next_ticket == p.job.ticket) ≡ true = grind (arith, nat_tests) in
          let live : version_at old.machine.versions v.id ≡ Some v = ap (version_at old.machine.versions) (own_id old.machine.versions root v is.1) ∙ is.1 in
          record {
            ticket = ticket;
            alone = ap (λ (l : List Ticket). ticket ∷ l) none;
            carried = (
              ticket,
              v,
              ap (λ b. cond {A = Option Ticket} b (Some ticket) (ticket_at old.machine.tickets p.job.ticket)) own,
              live,
              subst (Carries old.plan led.machine ticket v) (sym same) (carried is.2),
            );
          }
        where
          carried : Carries old.plan old.machine ticket v job → Carries old.plan led.machine ticket v job
          carried c = record {
            ticket = c.ticket;
            version = c.version;
            first = c.first;
            events = c.events;
            snapshot = c.snapshot;
            closes = c.closes;
            plan = c.plan;
            stands = c.stands;
          }

-- no more was done for want of memory
pub cut_off_as : (old mid new : Running) → CutOff old mid → new ≡ mid → CutOff old new
cut_off_as old mid new cut is = subst (CutOff old) (sym is) cut

-- a turn after which nothing more was emitted
pub turned_from : (old mid new : Running) → CutOff old mid → Turned mid new t.Worked → Turned old new t.Worked
turned_from old mid new cut turned = record {
  on = worked_more old mid new cut.on turned.on;
  none_out = turned.none_out;
  emitted = turned.emitted ∙ ap (λ (l : List Match). l ++ []) cut.emitted;
  idle = λ no. cc;
}
