-- What becomes of a bench where the piece of a ticket is read on, or given back.
use Rattle.std.proofs.Common.{◌≡◌, ℕ, ◌<◌, zero, suc, true, false, List, [], ◌∷◌, length, map, get_or, set, Some, None, Result, Ok, Err, refl, sym, ap, subst, ◌∙◌, arith}
use Rattle.std.proofs.lemmas.List.{set-get_or}
use Rattle.std.specs.List.{insert, remove}
use Rattle.std.specs.Prelude.{IfErr, IfOk, OnErr, OnOk}
use Rattle.sp_piece.specs.Pieced.{Pieced, after_step, answer as answer_of}
use Rattle.sp_piece.specs.declared.stepped.Stepped.TheVariants as p
use Rattle.sp_group.specs.declared.refusal.Refusal.TheVariants as r
use Rattle.sp_group.specs.declared.step.Step.{Step}
use Rattle.sp_group.specs.declared.step.Step.TheVariants as s
use Rattle.sp_group.specs.Machine.{ticket_at}
use Rattle.sp_group.specs.Refusing.{event_refusal, return_refusal}
use Rattle.sp_group.specs.Effects.{read_if}
use Rattle.sp_group.specs.Steps.{answer, event_answer}
use Rattle.sp_core.specs.declared.answer.Answer.{Answer}
use Rattle.sp_core.specs.declared.given.Given.{Given}
use Rattle.sp_core.specs.declared.given.Given.TheVariants as g
use Rattle.sp_core.specs.declared.fault.CoreFault.{CoreFault}
use Rattle.sp_core.specs.declared.fault.CoreFault.TheVariants as f
use Rattle.sp_core.specs.Benched.{Benched, IsAnswerTo, IsBenchFault, IsTaken, answered, refused_by}
use Rattle.sp_core.specs.OnBench.{BenchLaws, HasCome, IsOnBench, IsReadable, IsReadFault, came, on_bench, ticket_in}
use Rattle.sp_core.specs.Returning.{IsGiven}
use Rattle.sp_core.specs.Running.{Running}
use Rattle.sp_core.proofs.OnTheBench.{IsHomeIn, came_home, home_on, home_taken, is_out, is_the_same, read_answer, read_on_bench, read_refused, read_taken, went_stale}
use Rattle.sp_core.proofs.PiecesOut.{IsPieceAt}
use Rattle.sp_core.proofs.ReadApart.{not_found_unread}
use Rattle.sp_core.proofs.ReadOn.{finished_refused, reads_on}

-- what came of a piece that the core has taken back
pub record IsBack (x : Step) (b : Benched) (e : Running) (left : List Pieced) (given : Given) : Type 0 where
  pub come : HasCome given
  pub on : IsOnBench e left
  pub taken : IsTaken x b (on_bench e left)
  pub answer : came given ≡ answer b.plan b.machine x

-- a ticket that is not out
module _ (c : Running) (ps : List Pieced) (on : IsOnBench c ps) (n : ℕ) (none : ticket_at c.machine.tickets n ≡ None) (b : Benched) (view : on_bench c ps ≡ b) where
  nowhere : ticket_at b.machine.tickets n ≡ None
  nowhere =
      ap (λ (o : Benched). ticket_at o.machine.tickets n) (sym view)
      ∙ not_found_unread (map ticket_in ps) n (ap (λ ts. ticket_at ts n) on.tickets ∙ none)

  pub no_event : refused_by b (s.Event n) ≡ Some (r.NoTicket n)
  no_event = ap (event_refusal n) nowhere

  pub no_return : refused_by b (s.Return n) ≡ Some (r.NoTicket n)
  no_return = ap (return_refusal n) nowhere

-- something is left of a piece that was not given up
more_left : (piece : Pieced) → piece.short ≡ false → IsReadable piece → answer_of piece ≡ p.Finished → ⊥
more_left piece whole readable finished = let refused = finished_refused piece whole finished in absurd (cc)

module _ (laws : BenchLaws) (c : Running) (ps : List Pieced) (on : IsOnBench c ps) (n place : ℕ) (d : Pieced) (at : IsPieceAt ps n place) (is : d ≡ get_or ps place d) where
  pub not_given_up : d.short ≡ false
  not_given_up = ap (λ (k : Pieced). k.short) is ∙ (on.held place d at.few).whole

  goes_further : IsReadable d → ticket_in (after_step (get_or ps place d)) ≡ read_if true (ticket_in (get_or ps place d))
  goes_further readable =
      let whole = (on.held place d at.few).whole in
      reads_on (get_or ps place d) whole (more_left (get_or ps place d) whole (subst IsReadable is readable))

  pub either_on : (result : Result Answer CoreFault) (new : Pieced) → OnOk result (IsReadable d) → OnOk result (new ≡ after_step d) → OnErr result (new ≡ d)
      → IsOnBench c (set ps place new)
  either_on (Ok given) new readable next err =
      subst (λ (k : Pieced). IsOnBench c (set ps place k)) (sym (next ∙ ap after_step is))
      (read_on_bench laws c ps on place d at.few (subst IsReadable is readable) (goes_further readable))
  either_on (Err fault) new readable next err = subst (IsOnBench c) (sym (ap (set ps place) (err ∙ is) ∙ set-get_or ps place d)) on

  all_back : (e : Running) (b : Benched) (given : Given) → on_bench c ps ≡ b → HasCome given → IsHomeIn laws c ps on place d at.few e
      → came given ≡ answer c.plan (on_bench c ps).machine (s.Return (get_or ps place d).job.ticket) → IsBack (s.Return n) b e (remove ps place) given
  all_back e b given view has home same = record {
    come = has;
    on = home_on laws c ps on place d at.few e home;
    taken =
        subst (λ (o : Benched). IsTaken (s.Return n) o (on_bench e (remove ps place))) view
        (subst (λ (k : ℕ). IsTaken (s.Return k) (on_bench c ps) (on_bench e (remove ps place))) (at.number d) (home_taken laws c ps on place d at.few e home));
    answer =
        same
        ∙ ap (λ (k : ℕ). answer c.plan (on_bench c ps).machine (s.Return k)) (at.number d)
        ∙ ap (λ (o : Benched). answer o.plan o.machine (s.Return n)) view;
  }

  module _ (b : Benched) (view : on_bench c ps ≡ b) where
    pub either_taken : (result : Result Answer CoreFault) (new : Pieced) → OnOk result (IsReadable d) → OnOk result (new ≡ after_step d)
        → OnOk result (IsTaken (s.Event n) b (on_bench c (set ps place new)))
    either_taken (Ok given) new readable next =
        subst (λ (k : ℕ). IsTaken (s.Event k) b (on_bench c (set ps place new))) (at.number d)
        (subst (λ (o : Benched). IsTaken (s.Event (get_or ps place d).job.ticket) o (on_bench c (set ps place new))) view
        (subst (λ (k : Pieced). IsTaken (s.Event (get_or ps place d).job.ticket) (on_bench c ps) (on_bench c (set ps place k))) (sym (next ∙ ap after_step is))
        (read_taken laws c ps on place d at.few (subst IsReadable is readable) (goes_further readable))))
    either_taken (Err fault) new readable next = tt

    pub either_answer : (result : Result Answer CoreFault) → IfOk result (λ given. answered given ≡ event_answer (Some (ticket_in d))) → IfOk result (IsAnswerTo b (s.Event n))
    either_answer (Ok given) says =
        says ∙ ap (λ (k : Pieced). event_answer (Some (ticket_in k))) is
        ∙ sym (read_answer laws c ps on place d at.few)
        ∙ ap (λ (k : ℕ). answer c.plan (on_bench c ps).machine (s.Event k)) (at.number d)
        ∙ ap (λ (o : Benched). answer o.plan o.machine (s.Event n)) view
    either_answer (Err fault) says = tt

    pub either_fault : (result : Result Answer CoreFault) → IfErr result (IsReadFault d) → IfErr result (IsBenchFault b (s.Event n))
    either_fault (Ok given) says = tt
    either_fault (Err (f.Refused why)) says =
        ap (λ (o : Benched). refused_by o (s.Event n)) (sym view)
        ∙ ap (λ (k : ℕ). refused_by (on_bench c ps) (s.Event k)) (sym (at.number d))
        ∙ read_refused laws c ps on place d at.few
        ∙ ap (λ (k : Pieced). event_refusal k.job.ticket (Some (ticket_in k))) (sym is)
        ∙ says
    either_fault (Err f.Memory) says = tt

  -- the core takes it back at any rate: it comes home, or is lost with its version
  pub given_back : (e : Running) (b : Benched) (given : Given) → on_bench c ps ≡ b → IsGiven c e d given → IsBack (s.Return n) b e (remove ps place) given
  given_back e b g.Home view says =
      let came = came_home laws c ps on place d at.few e (subst (λ (k : Pieced). IsGiven c e k g.Home) is says) in
      all_back e b g.Home view tt came.0 came.1
  given_back e b (g.Stale id) view says =
      let went = went_stale laws c ps on place d at.few e id (subst (λ (k : Pieced). IsGiven c e k (g.Stale id)) is says) in
      all_back e b (g.Stale id) view tt went.0 went.1
  given_back e b (g.NotOut k) view says = absurd (is_out laws c ps on place d at.few e k (subst (λ (x : Pieced). IsGiven c e x (g.NotOut k)) is says))
  given_back e b (g.Differs lent back) view says =
      absurd (is_the_same laws c ps on place d at.few e lent back (subst (λ (x : Pieced). IsGiven c e x (g.Differs lent back)) is says))

-- a piece that is put where it stood
again : (ps : List Pieced) (place : ℕ) (d : Pieced) → place < length ps → insert (remove ps place) place (get_or ps place d) ≡ ps
again [] place d few = absurd (omega arith)
again (x ∷ ps) zero d few = refl
again (x ∷ ps) (suc place) d few = ap (λ xs. x ∷ xs) (again ps place d (omega arith))

pub put_again : (ps : List Pieced) (n place : ℕ) (d : Pieced) → IsPieceAt ps n place → d ≡ get_or ps place d → insert (remove ps place) place d ≡ ps
put_again ps n place d at is = ap (insert (remove ps place) place) is ∙ again ps place d at.few
