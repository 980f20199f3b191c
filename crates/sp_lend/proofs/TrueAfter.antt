-- The jobs of a register are true after each call of the core, whatever it answered.
use Rattle.std.proofs.Common.{◌≡◌, ℕ, zero, suc, ◌⊎◌, ⊎_elim, inl, inr, Bool, true, cond, ◌==◌, List, [], ◌∷◌, ◌++◌, length, Option, Some, None, Result, Ok, Err, slice_get, refl, sym, ap, ◌∙◌, subst, arith}
use Rattle.std.specs.Option.{option_eq}
use Rattle.std.specs.Prelude.{IfOk, OnErr, OnOk}
use Rattle.std.proofs.lemmas.Bool.Decides.{nat_tests}
use Rattle.std.proofs.lemmas.Option.{same_Some}
use Rattle.sp_piece.specs.declared.job.Job.{Job}
use Rattle.sp_piece.specs.Pieced.{Pieced}
use Rattle.sp_group.specs.declared.step.Step.{Step}
use Rattle.sp_group.specs.declared.step.Step.TheVariants as s
use Rattle.sp_group.specs.Family.{entry_at}
use Rattle.sp_group.specs.Machine.{Machine, Ticket, Version, out_for, ticket_at, version_at}
use Rattle.sp_group.specs.Refusing.{return_refusal}
use Rattle.sp_group.specs.Effects.{leased, lent}
use Rattle.sp_rules.specs.Returning.{readings}
use Rattle.sp_rules.specs.Schedules.{FitsStep, Reached}
use Rattle.sp_rules.proofs.Tree.{at_id}
use Rattle.sp_tree.specs.Grown.{Grown, kin, value_of}
use Rattle.sp_version.specs.declared.version.Version as held
use Rattle.sp_core.specs.declared.given.Given.{Given}
use Rattle.sp_core.specs.declared.given.Given.TheVariants as g
use Rattle.sp_core.specs.Carrying.{Carries}
use Rattle.sp_core.specs.Leasing.{IsLeased}
use Rattle.sp_core.specs.Returning.{IsCarried, IsGiven, IsHome}
use Rattle.sp_core.specs.Running.{IsDone, Running, after}
use Rattle.sp_core.specs.Showing.{Holds, IsTreeOf, version_of}
use Rattle.sp_core.proofs.Entries.{found, found_of_all, version_is}
use Rattle.sp_core.proofs.InConflict.{out_is}
use Rattle.sp_core.proofs.Renewing.{at_entry}
use Rattle.sp_lend.specs.Truth.{AreTrue, StaysTrue, WasLent}

module _ (c d : Running) (jobs : List Job) (stays : StaysTrue c) (each : AreTrue c jobs) where
  by_step : (x : Step) → FitsStep c.plan c.bound c.machine x → IsDone x c d → AreTrue d jobs
  by_step x fits done = subst (λ (r : Running). AreTrue r jobs) (sym done.1) (stays.stepping x jobs fits done.0 each)

  by_none : d ≡ c → AreTrue d jobs
  by_none same = subst (λ (r : Running). AreTrue r jobs) (sym same) each

  -- a step was done, or the core is as before
  pub true_after : {V E : Type 0} (x : Step) → FitsStep c.plan c.bound c.machine x → (result : Result V E) → OnOk result (IsDone x c d) → OnErr result (d ≡ c) → AreTrue d jobs
  true_after x fits (Ok v) done err = by_step x fits done
  true_after x fits (Err e) done err = by_none err

  by_home : (p : Pieced) → IsHome c d p → AreTrue d jobs
  by_home p home = subst (λ (r : Running). AreTrue r jobs) (sym home.4) (stays.returning p.job.ticket (readings p.read p.closed) jobs each)

  -- a piece came home, or the core is as before
  pub true_home : {V E : Type 0} (p : Pieced) (result : Result V E) → OnOk result (IsHome c d p) → OnErr result (d ≡ c) → AreTrue d jobs
  true_home p (Ok v) home err = by_home p home
  true_home p (Err e) home err = by_none err

  by_return : (n : ℕ) (t : Ticket) → ticket_at c.machine.tickets n ≡ Some t → d ≡ after c (s.Return n) → AreTrue d jobs
  by_return n t at new = by_step (s.Return n) tt (ap (return_refusal n) at, new)

  by_given : (p : Pieced) (given : Given) → IsGiven c d p given → AreTrue d jobs
  by_given p g.Home is = by_home p is
  by_given p (g.Stale id) is = by_return p.job.ticket is.0 is.1 is.4
  by_given p (g.NotOut n) is = by_none is.2
  by_given p (g.Differs lent back) is = by_return p.job.ticket is.0 is.2.out is.6

  -- a piece was given back, or the core is as before
  pub true_given : {E : Type 0} (p : Pieced) (result : Result Given E) → IfOk result (IsGiven c d p) → OnErr result (d ≡ c) → AreTrue d jobs
  true_given p (Ok given) is err = by_given p given is
  true_given p (Err e) is err = by_none err

-- the job of a lease was lent
pub newly_lent : (c d : Running) (id n : ℕ) (job : Job) → IsDone (s.Lease id n) c d → IsLeased c id n job → WasLent d.plan d.machine job
newly_lent c d id n job done is =
    let v = is.0 in
    let k = is.2 in
    let ticket : Ticket = lent c.plan c.machine n v in
    let m : Machine = leased c.plan c.machine n (Some v) in
    let number : job.ticket ≡ ticket.number = k.ticket in
    let out_now : Carries c.plan m ticket v job = record {
      ticket = k.ticket;
      version = k.version;
      first = k.first;
      events = k.events;
      snapshot = k.snapshot;
      closes = k.closes;
      plan = k.plan;
      stands = k.stands;
    } in
    let was : WasLent c.plan m job = record {
      before = omega (arith, number);
      carries = λ t w out live.
          let own : (ticket.number == job.ticket) ≡ true = grind (arith, nat_tests, number) in
          let same : ticket ≡ t = same_Some ticket t (sym (ap (λ (b : Bool). cond b (Some ticket) (ticket_at c.machine.tickets job.ticket)) own) ∙ out) in
          let its : id ≡ t.version = sym (at_id c.machine.versions id v is.1) ∙ ap (λ (z : Ticket). z.version) same in
          let here : v ≡ w = same_Some v w (sym is.1 ∙ ap (version_at c.machine.versions) its ∙ live) in
          subst (λ (z : Ticket). Carries c.plan m z w job) same (subst (λ (z : Version). Carries c.plan m ticket z job) here out_now);
    } in
    subst (λ (r : Running). WasLent r.plan r.machine job) (sym done.1)
    (subst (λ (z : Machine). WasLent c.plan z job) (sym (ap (leased c.plan c.machine n) is.1)) was)

-- one more job stands behind the others
last_or : (jobs : List Job) (job : Job) (place : ℕ) (other : Job) → slice_get (jobs ++ job ∷ []) place ≡ Some other → (slice_get jobs place ≡ Some other) ⊎ (job ≡ other)
last_or [] job zero other at = inr (same_Some job other at)
last_or [] job (suc place) other at = absurd (cc)
last_or (x ∷ jobs) job zero other at = inl at
last_or (x ∷ jobs) job (suc place) other at = last_or jobs job place other at

pub last_is : (jobs : List Job) (job : Job) → slice_get (jobs ++ job ∷ []) (length jobs) ≡ Some job
last_is [] job = refl
last_is (x ∷ jobs) job = last_is jobs job

pub true_with : (c : Running) (jobs : List Job) (job : Job) → AreTrue c jobs → WasLent c.plan c.machine job → AreTrue c (jobs ++ job ∷ [])
true_with c jobs job each was place other at = ⊎_elim
    (λ before. each place other before)
    (λ (same : job ≡ other). subst (WasLent c.plan c.machine) same was)
    (last_or jobs job place other at)

-- an entered job is what is out under its ticket, where that is out for its version
pub known : (c : Running) (t : Grown held.Version) (jobs : List Job) (place : ℕ) (job : Job) (v : held.Version) → IsTreeOf c t → Reached c.plan c.bound c.machine → AreTrue c jobs
    → slice_get jobs place ≡ Some job → Some v ≡ value_of (entry_at kin t.entries job.version) → v.out ≡ Some job.ticket → IsCarried c job
known c t jobs place job v tree reached each there is out =
    let f = found (entry_at kin t.entries job.version) v is in
    let holds = found_of_all (Holds c.plan c.machine.events c.machine.tickets) t.entries job.version f.entry tree.holds f.is in
    let its : f.entry.version.id ≡ job.version = at_entry t.entries job.version f.entry f.is in
    let own : out_for c.machine.tickets f.entry.version.id ≡ Some job.ticket = sym holds.out ∙ ap (λ (w : held.Version). w.out) f.value ∙ out in
    let here = out_is c.machine.tickets f.entry.version.id job.ticket reached.kept.sane.newest_first own in
    let at : version_at c.machine.versions job.version ≡ Some (version_of f.entry) =
    ap (λ vs. version_at vs job.version) (sym tree.versions) ∙ version_is t.entries job.version f.entry f.is in
    let live : version_at c.machine.versions here.ticket.version ≡ Some (version_of f.entry) = ap (version_at c.machine.versions) (here.of ∙ its) ∙ at in
    let was = each place job there in
    (here.ticket, version_of f.entry, here.is, live, was.carries here.ticket (version_of f.entry) here.is live)

-- a number that is found to be the one sought
pub found_same : (o : Option ℕ) (n : ℕ) → option_eq (λ (a b : ℕ). a == b) o (Some n) ≡ true → o ≡ Some n
found_same None n is = absurd (cc)
found_same (Some m) n is = let same : m ≡ n = grind (arith, nat_tests) in ap Some same
