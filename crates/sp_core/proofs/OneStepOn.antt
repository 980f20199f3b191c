-- A step more on a bench: steps lead to the new state, and each piece that stays still carries what is lent to its version.
use Rattle.std.proofs.Common.{◌≡◌, ℕ, ◌<◌, zero, suc, Bool, true, false, ◌==◌, List, [], ◌∷◌, ◌++◌, ◌⊎◌, inl, inr, length, map, get_or, Some, None, refl, sym, ap, subst, ◌∙◌, arith}
use Rattle.std.specs.List.{All}
use Rattle.std.proofs.lemmas.Bool.Decides.{nat_tests}
use Rattle.std.proofs.lemmas.List.Sums.{fold-append}
use Rattle.sp_plan.specs.declared.event.Event.{Event}
use Rattle.sp_plan.specs.Runs.{State}
use Rattle.sp_match.specs.public.Matching.{Stands}
use Rattle.sp_piece.specs.Pieced.{Pieced}
use Rattle.sp_group.specs.declared.step.Entry.{Entry}
use Rattle.sp_group.specs.declared.step.Step.{Step}
use Rattle.sp_group.specs.Machine.{Machine, Ticket, inner, opening, ticket_at, version_at}
use Rattle.sp_group.specs.Refusing.{refusal}
use Rattle.sp_group.specs.Effects.{effect}
use Rattle.sp_group.specs.Steps.{step, steps, unless_refused}
use Rattle.sp_rules.specs.Kept.{NewestFirst}
use Rattle.sp_rules.specs.Returning.{read_to}
use Rattle.sp_rules.specs.Schedules.{Fits, FitsStep, Reached}
use Rattle.sp_core.specs.Carrying.{lent_events}
use Rattle.sp_core.specs.Running.{Running}
use Rattle.sp_core.specs.OnBench.{BenchLaws, IsHeld, IsOnBench, on_bench, ticket_in, unread}
use Rattle.sp_core.proofs.Journal.{fits_on}

-- a piece's ticket is found under its number
pub found_at : (ps : List Pieced) → NewestFirst (map ticket_in ps) → (k : ℕ) (d : Pieced) → k < length ps
    → ticket_at (map ticket_in ps) (get_or ps k d).job.ticket ≡ Some (ticket_in (get_or ps k d))
found_at [] newest k d few = absurd (omega arith)
found_at (p ∷ ps) newest zero d few = let own : (p.job.ticket == p.job.ticket) ≡ true = grind (arith, nat_tests) in rw own refl
found_at (p ∷ ps) newest (suc k) d few =
    let rest = found_at ps newest.1 k d (omega arith) in
    let low = newest.0 (get_or ps k d).job.ticket (ticket_in (get_or ps k d)) rest in
    let other : (p.job.ticket == (get_or ps k d).job.ticket) ≡ false = grind (arith, nat_tests) in
    rw other rest

-- a piece that is held, of which the machine's ticket is perhaps read otherwise
pub record IsKnown (c : Running) (m : Machine) (p : Pieced) : Type 0 where
  pub held : IsHeld c p
  pub read : ℕ
  pub closed : Bool
  pub found : ticket_at m.tickets p.job.ticket ≡ Some (read_to (ticket_in p) read closed)

-- all that holds of the state of a bench
pub reached_by : BenchLaws → (c : Running) (ps : List Pieced) → IsOnBench c ps → Reached c.plan c.bound (on_bench c ps).machine
reached_by laws c ps on =
    subst (λ (m : Machine). Reached c.plan c.bound m) on.leads (laws.schedules c.plan c.bound on.taken on.compiled on.some on.most on.fits)

pub all_known : BenchLaws → (c : Running) (ps : List Pieced) → IsOnBench c ps → All (IsKnown c (on_bench c ps).machine) ps
all_known laws c ps on k d few =
    let p = get_or ps k d in
    record {
      held = on.held k d few;
      read = p.read;
      closed = p.closed;
      found = found_at ps (reached_by laws c ps on).kept.sane.newest_first k d few;
    }

-- A step of a bench is not refused, and leads to this state of its machine, with these pieces.
pub record IsStep (c : Running) (m : Machine) (ps qs : List Pieced) (x : Step) : Type 0 where
  pub fits : FitsStep c.plan c.bound (on_bench c ps).machine x
  pub passes : refusal c.plan c.bound (on_bench c ps).machine x ≡ None
  pub does : record m { tickets = map ticket_in qs } ≡ effect c.plan (on_bench c ps).machine x

module _ (laws : BenchLaws) (c : Running) (m : Machine) (ps qs : List Pieced) (x : Step) (on : IsOnBench c ps) (taken : IsStep c m ps qs x) where
  led : step c.plan c.bound (on_bench c ps).machine x ≡ record m { tickets = map ticket_in qs }
  led = ap (λ o. unless_refused o (on_bench c ps).machine (effect c.plan (on_bench c ps).machine x)) taken.passes ∙ sym taken.does

  fits : Fits c.plan c.bound opening (on.taken ++ x ∷ [])
  fits =
      fits_on c.plan c.bound opening on.taken (x ∷ []) on.fits
      (subst (λ (n : Machine). Fits c.plan c.bound n (x ∷ [])) (sym on.leads) (taken.fits, tt))

  leads : steps c.plan c.bound opening (on.taken ++ x ∷ []) ≡ record m { tickets = map ticket_in qs }
  leads = fold-append (step c.plan c.bound) opening on.taken (x ∷ []) ∙ ap (λ (n : Machine). step c.plan c.bound n x) on.leads ∙ led

  reached : Reached c.plan c.bound (record m { tickets = map ticket_in qs })
  reached =
      subst (λ (n : Machine). Reached c.plan c.bound n) leads
      (laws.schedules c.plan c.bound (on.taken ++ x ∷ []) on.compiled on.some on.most fits)

  -- a piece that is known, and whose ticket is out still, carries what is lent to its version
  carries_on : (journal : List Entry) (p : Pieced) (u : Ticket) → IsKnown c (on_bench c ps).machine p → ticket_at (map ticket_in qs) p.job.ticket ≡ Some u
      → IsHeld (record c { machine = m; journal = journal }) p
  carries_on journal p u known out = record {
    whole = known.held.whole;
    within = known.held.within;
    carries = λ v live.
        let t = read_to (ticket_in p) known.read known.closed in
        let after = step c.plan c.bound (on_bench c ps).machine x in
        let there : ticket_at after.tickets p.job.ticket ≡ Some u = ap (λ (n : Machine). ticket_at n.tickets p.job.ticket) led ∙ out in
        let lives : version_at after.versions t.version ≡ Some v = ap (λ (n : Machine). version_at n.versions t.version) led ∙ live in
        let stays = (laws.stays c.plan c.bound (on_bench c ps).machine x p.job.ticket t u on.compiled (reached_by laws c ps on).kept taken.fits known.found there).1 v lives in
        let was = known.held.carries stays.before stays.live in
        let events : m.events ≡ after.events = ap (λ (n : Machine). n.events) (sym led) in
        let runs : inner c.plan c.machine.events stays.before ≡ inner c.plan m.events v = sym stays.runs ∙ ap (λ (es : List Event). inner c.plan es v) (sym events) in
        let lent : lent_events c.machine.events t ≡ lent_events m.events t = sym stays.events ∙ ap (λ (es : List Event). lent_events es t) (sym events) in
        record {
          ticket = refl;
          version = refl;
          first = refl;
          events = was.events ∙ lent;
          snapshot = refl;
          closes = refl;
          plan = was.plan;
          stands = subst (λ (s : State). Stands p.job.before s) runs was.stands;
        };
  }

  -- so the bench is as it has to be, if each piece is known or held
  pub goes_on : (journal : List Entry) → map unread (map ticket_in qs) ≡ m.tickets
      → All (λ p. IsKnown c (on_bench c ps).machine p ⊎ IsHeld (record c { machine = m; journal = journal }) p) qs
      → IsOnBench (record c { machine = m; journal = journal }) qs
  goes_on journal tickets each = record {
    compiled = on.compiled;
    some = on.some;
    most = on.most;
    tickets = tickets;
    held = λ k d few.
        let p = get_or qs k d in
        elim (each k d few) [
          | inl known ↦ carries_on journal p (ticket_in p) known (found_at qs reached.kept.sane.newest_first k d few)
          | inr held ↦ held
        ];
    taken = on.taken ++ x ∷ [];
    fits = fits;
    leads = leads;
  }
