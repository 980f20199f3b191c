-- What a run has behind a turn, and what it ends with there.
use Rattle.std.proofs.Common.{◌≡◌, ◌≢◌, ℕ, Option, Bool, true, false, cond, List, Some, None, Ok, Err, refl, sym, ◌∙◌, subst}
use Rattle.std.specs.Prelude.{OnOk}
use Rattle.std.specs.declared.result.Result.{Result}
use Rattle.sp_io.specs.Outside.{Rose}
use Rattle.sp_plan.specs.declared.event.Event.{Event}
use Rattle.sp_plan.specs.declared.found.Match.{Match}
use Rattle.sp_plan.specs.declared.plan.Plan.{Plan}
use Rattle.sp_ports.specs.Taking.{OutletState, Took, TookFirst}
use Rattle.sp_ports.specs.declared.outlet.OutFault.{OutFault}
use Rattle.sp_ports.specs.declared.stop.Stop.{Stop}
use Rattle.sp_ports.specs.declared.outlet.OutFault.TheVariants as o
use Rattle.sp_core.specs.Running.{Running}
use Rattle.sp_split.specs.declared.ended.Why.{Why}
use Rattle.sp_split.specs.declared.ended.Why.TheVariants as why
use Rattle.sp_split.specs.declared.feeding.Fed.{Fed}
use Rattle.sp_split.specs.declared.feeding.Fed.TheVariants as f
use Rattle.sp_split.specs.Driving.{Drove, FailedWithin}
use Rattle.sp_split.specs.Stages.{AllFinished, AdvancedWith, FedOn}
use Rattle.sp_split.specs.Stopping.{IsThrough, why_fed, why_over}
use Rattle.sp_split.specs.Going.{Ran, Going}
use Rattle.sp_split.proofs.Going.{WasFed, going_fed, ran_worked, took_worked, failed_worked, short_worked, rose_from, drove_refused, drove_short, drove_whole, drove_stopped}

-- behind a turn whose matches were put so
pub record AfterTurn {T : Type 0} (gave : List Event → Type 0) (first last : Running) (old new : OutletState) (put : Result T OutFault) : Type 0 where
  pub run : Ran gave first last
  pub took : OnOk put (Took first.plan last.machine.emitted old new)
  pub failed : put ≡ Err o.Failed → FailedWithin first.plan last.machine.emitted old new
  pub short : put ≡ Err o.Memory → TookFirst first.plan last.machine.emitted old new
  pub rose : put ≡ Err o.Failed → Rose old.faults new.faults
  pub no_fault : put ≢ Err o.Failed → new.faults ≡ old.faults

module _ {T : Type 0} (gave : List Event → Type 0) (first c d : Running) (old s t : OutletState) (going : Going gave first c old s) where
  after_turn : (p : Plan) → p ≡ first.plan → (put : Result T OutFault) → OnOk put (AdvancedWith c d (λ ms. Took p ms s t)) → (put ≡ Err o.Failed → AdvancedWith c d (λ ms. FailedWithin p ms s t))
      → (put ≡ Err o.Memory → AdvancedWith c d (λ ms. TookFirst p ms s t)) → (put ≡ Err o.Failed → Rose s.faults t.faults) → (put ≢ Err o.Failed → t.faults ≡ s.faults)
      → AfterTurn gave first d old t put
  after_turn p same (Ok x) done failed short rose quiet = record {
    run = ran_worked gave first c d old s t going done.0 done.1;
    took = took_worked gave first c d old s t going p same done;
    failed = λ no. absurd (cc no);
    short = λ no. absurd (cc no);
    rose = λ no. absurd (cc no);
    no_fault = λ other. quiet other ∙ going.no_fault;
  }
  after_turn p same (Err o.Failed) done failed short rose quiet = record {
    run = ran_worked gave first c d old s t going (failed refl).0 (failed refl).1;
    took = tt;
    failed = λ _. failed_worked gave first c d old s t going p same (failed refl);
    short = λ no. absurd (cc no);
    rose = λ _. rose_from old.faults s.faults t.faults going.no_fault (rose refl);
    no_fault = λ other. absurd (other refl);
  }
  after_turn p same (Err o.Memory) done failed short rose quiet = record {
    run = ran_worked gave first c d old s t going (short refl).0 (short refl).1;
    took = tt;
    failed = λ no. absurd (cc no);
    short = λ _. short_worked gave first c d old s t going p same (short refl);
    rose = λ no. absurd (cc no);
    no_fault = λ other. quiet other ∙ going.no_fault;
  }

-- the core was fed before the turn
module _ {T : Type 0} (gave later : List Event → Type 0) (first c mid d : Running) (old s t : OutletState) (going : Going gave first c old s) (on : FedOn c mid) (given : later mid.machine.events) where
  pub fed_turn : (p : Plan) → p ≡ first.plan → (put : Result T OutFault) → OnOk put (AdvancedWith mid d (λ ms. Took p ms s t)) → (put ≡ Err o.Failed → AdvancedWith mid d (λ ms. FailedWithin p ms s t))
      → (put ≡ Err o.Memory → AdvancedWith mid d (λ ms. TookFirst p ms s t)) → (put ≡ Err o.Failed → Rose s.faults t.faults) → (put ≢ Err o.Failed → t.faults ≡ s.faults)
      → AfterTurn later first d old t put
  fed_turn = after_turn later first mid d old s t (going_fed gave later first c mid old s going on given)

-- input has ended behind a turn where it had before, however the matches were put
pub ended_any : {T : Type 0} (put : Result T OutFault) (c d : Running) (took failed short : List Match → Type 0) → OnOk put (AdvancedWith c d took) → (put ≡ Err o.Failed → AdvancedWith c d failed)
    → (put ≡ Err o.Memory → AdvancedWith c d short) → d.machine.ended ≡ c.machine.ended
ended_any (Ok x) c d took failed short a b e = a.1.ended
ended_any (Err o.Failed) c d took failed short a b e = (b refl).1.ended
ended_any (Err o.Memory) c d took failed short a b e = (e refl).1.ended

-- a run that goes on has put its matches
pub put_on : {T : Type 0} (A : Type 0) (fed : Fed) (put : Result T OutFault) (all : Bool) → None ≡ why_over fed put all → OnOk put A → A
put_on A fed (Ok x) all goes_on a = a
put_on A fed (Err o.Failed) all goes_on a = absurd (cc goes_on)
put_on A fed (Err o.Memory) all goes_on a = absurd (cc goes_on)

-- and so has one that came to its end, or to a stop
pub put_through : {T : Type 0} (A : Type 0) (fed : Fed) (put : Result T OutFault) (all : Bool) → IsThrough (why_over fed put all) → OnOk put A → A
put_through A fed (Ok x) all is a = a
put_through A fed (Err o.Failed) all is a = absurd is
put_through A fed (Err o.Memory) all is a = absurd is

module _ (gave : List Event → Type 0) (whole : Bool) (before behind : ℕ) (kept : Option Stop) (first last : Running) (old new : OutletState) where
  pub going_on : {T : Type 0} (fed : Fed) (put : Result T OutFault) (all : Bool) → None ≡ why_over fed put all → AfterTurn gave first last old new put → Going gave first last old new
  going_on fed (Ok x) all goes_on b = record { run = b.run; took = b.took; no_fault = b.no_fault (λ no. cc no) }
  going_on fed (Err o.Failed) all goes_on b = absurd (cc goes_on)
  going_on fed (Err o.Memory) all goes_on b = absurd (cc goes_on)

  abbrev pub Ends : Why → Type 0
  Ends w = Drove gave whole before behind kept first old new (record { core = last; why = w })

  -- every closed window is finished, and feeding ended so
  drove_fed : (fed : Fed) (w : Why) → Some w ≡ why_fed fed → WasFed fed last.machine.ended whole before behind kept → Ran gave first last → AllFinished last → Took first.plan last.machine.emitted old new
      → new.faults ≡ old.faults → Ends w
  drove_fed f.More w over is run finished took quiet = absurd (cc over)
  drove_fed f.Dry w over is run finished took quiet = absurd (cc over)
  drove_fed f.End w over is run finished took quiet =
      let same : w ≡ why.Whole = cc over in
      subst Ends (sym same) (drove_whole gave whole before behind kept first last old new f.End is run finished took quiet is.0)
  drove_fed (f.Stop cause) w over is run finished took quiet =
      let same : w ≡ why.Stopped cause = cc over in
      subst Ends (sym same) (drove_stopped gave whole before behind kept first last old new (f.Stop cause) is run finished took quiet cause is.1 is.0)

  drove_if : (fed : Fed) (all : Bool) (w : Why) → Some w ≡ cond all (why_fed fed) None → WasFed fed last.machine.ended whole before behind kept → Ran gave first last → (all ≡ true → AllFinished last)
      → Took first.plan last.machine.emitted old new → new.faults ≡ old.faults → Ends w
  drove_if fed true w over is run finished took quiet = drove_fed fed w over is run (finished refl) took quiet
  drove_if fed false w over is run finished took quiet = absurd (cc over)

  pub drove_over : {T : Type 0} (fed : Fed) (put : Result T OutFault) (all : Bool) (w : Why) → Some w ≡ why_over fed put all → WasFed fed last.machine.ended whole before behind kept
      → OnOk put (all ≡ true → AllFinished last) → AfterTurn gave first last old new put → Ends w
  drove_over fed (Ok x) all w over is finished b = drove_if fed all w over is b.run finished b.took (b.no_fault (λ no. cc no))
  drove_over fed (Err o.Failed) all w over is finished b =
      let same : w ≡ why.Refused = cc over in
      subst Ends (sym same) (drove_refused gave whole before behind kept first last old new fed is b.run (b.rose refl) (b.failed refl))
  drove_over fed (Err o.Memory) all w over is finished b =
      let same : w ≡ why.Memory = cc over in
      subst Ends (sym same) (drove_short gave whole before behind kept first last old new fed is b.run (b.short refl) (b.no_fault (λ no. cc no)))
