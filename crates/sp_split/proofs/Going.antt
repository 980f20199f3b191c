-- What a run keeps, and what it ends with.
use Rattle.std.proofs.Common.{◌≡◌, ℕ, zero, suc, ◌+◌, ◌-◌, ◌≤◌, Bool, true, false, List, [], ◌++◌, length, map, Option, inl, inr, refl, sym, ◌∙◌, ap, subst, arith, append_assoc}
use Rattle.std.specs.Prelude.{slice_get}
use Rattle.std.specs.List.{enumerate_from}
use Rattle.std.proofs.lemmas.List.{append-nil}
use Rattle.sp_io.specs.Outside.{Rose}
use Rattle.sp_plan.specs.declared.event.Event.{Event}
use Rattle.sp_plan.specs.declared.found.Match.{Match}
use Rattle.sp_plan.specs.declared.plan.Plan.{Plan}
use Rattle.sp_plan.specs.Compiled.{IsCompiled}
use Rattle.sp_plan.specs.Runs.{matched_runs, state}
use Rattle.sp_plan.specs.Sequential.{Progress, match_of, seq, visible, whole}
use Rattle.sp_plan.specs.WindowNumbers.{Good}
use Rattle.sp_plan.specs.Windows.{IsWindowed, closed, windows}
use Rattle.sp_rules.specs.Schedules.{Reached}
use Rattle.sp_window.specs.Laws.{FinishedStay}
use Rattle.sp_ports.specs.Giving.{AreGood}
use Rattle.sp_ports.specs.declared.stop.Stop.{Stop}
use Rattle.sp_ports.specs.Taking.{OutletState, Took, TookFirst}
use Rattle.sp_core.specs.Running.{Running, begun}
use Rattle.sp_split.specs.declared.ended.Why.TheVariants as why
use Rattle.sp_split.specs.declared.feeding.Fed.{Fed}
use Rattle.sp_split.specs.declared.feeding.Fed.TheVariants as f
use Rattle.sp_split.specs.Driving.{Drove, FailedWithin, FellShort, StoppedSo}
use Rattle.sp_spread.specs.Journaled.{fed}
use Rattle.sp_split.specs.Going.{Going, Ran}
use Rattle.sp_split.specs.Stages.{AllFinished, Advanced, AdvancedWith, FedOn, GoesOn, IsFed}
use Rattle.sp_split.proofs.Taken.{took_none, took_more, took_first, failed_behind, first_behind}

-- before the first stage
pub going_none : (gave : List Event → Type 0) (c : Running) (s : OutletState) → c ≡ begun c.plan c.bound → gave [] → Going gave c c s s
going_none gave c s fresh given = subst (λ (d : Running). Going gave c d s s) (sym fresh) (record {
  run = record {
    plan = refl;
    bound = refl;
    given = given;
    fed_are = refl;
  };
  took = took_none c.plan s;
  no_fault = refl;
})

-- the core was fed
pub going_fed : (gave gave' : List Event → Type 0) (first c d : Running) (old s : OutletState) → Going gave first c old s → FedOn c d → gave' d.machine.events → Going gave' first d old s
going_fed gave gave' first c d old s going more given = record {
  run = record {
    plan = more.on.plan ∙ going.run.plan;
    bound = more.on.bound ∙ going.run.bound;
    given = given;
    fed_are = more.on.fed_are going.run.fed_are;
  };
  took = subst (λ (ms : List Match). Took first.plan ms old s) (sym more.emitted) going.took;
  no_fault = going.no_fault;
}

module _ (gave : List Event → Type 0) (first c d : Running) (old s t : OutletState) (going : Going gave first c old s) where
  -- the core did steps that feed nothing
  ran_on : d.plan ≡ c.plan → d.bound ≡ c.bound → d.machine.events ≡ c.machine.events → (fed c.journal ≡ c.machine.events → fed d.journal ≡ d.machine.events) → Ran gave first d
  ran_on plan bound events fed_are = record {
    plan = plan ∙ going.run.plan;
    bound = bound ∙ going.run.bound;
    given = subst gave (sym events) going.run.given;
    fed_are = fed_are going.run.fed_are;
  }

  -- it worked
  pub ran_worked : (ms : List Match) → Advanced c d ms → Ran gave first d
  ran_worked ms w = ran_on w.plan w.bound w.events w.fed_are

  -- of the matches that it emitted this is so, by the plan of the outlet
  module _ (p : Plan) (same : p ≡ first.plan) where
    pub took_worked : AdvancedWith c d (λ ms. Took p ms s t) → Took first.plan d.machine.emitted old t
    took_worked w =
        subst (λ (l : List Match). Took first.plan l old t) (sym w.1.emitted)
        (took_more first.plan c.machine.emitted w.0 old s t going.took (subst (λ (q : Plan). Took q w.0 s t) same w.2))

    pub failed_worked : AdvancedWith c d (λ ms. FailedWithin p ms s t) → FailedWithin first.plan d.machine.emitted old t
    failed_worked w =
        subst (λ (l : List Match). FailedWithin first.plan l old t) (sym w.1.emitted)
        (failed_behind first.plan c.machine.emitted w.0 old s t going.took (subst (λ (q : Plan). FailedWithin q w.0 s t) same w.2))

    pub short_worked : AdvancedWith c d (λ ms. TookFirst p ms s t) → TookFirst first.plan d.machine.emitted old t
    short_worked w =
        subst (λ (l : List Match). TookFirst first.plan l old t) (sym w.1.emitted)
        (first_behind first.plan c.machine.emitted w.0 old s t going.took (subst (λ (q : Plan). TookFirst q w.0 s t) same w.2))

-- why feeding ended, by what was told of an end and of a stop
abbrev pub WasFed : Fed → Bool → Bool → ℕ → ℕ → Option Stop → Type 0
WasFed f.More told all before behind kept = told ≡ false
WasFed f.Dry told all before behind kept = told ≡ false
WasFed f.End told all before behind kept = (told ≡ true) × (all ≡ true)
WasFed (f.Stop cause) told all before behind kept = (told ≡ false) × StoppedSo before behind kept cause

pub was_fed : {A : Type 0} (ended : A → Bool) (stops : A → ℕ) (cause : A → Option Stop) (from now : A) (fed : Fed) (told : Bool) → IsFed ended stops cause from now fed told
    → WasFed fed told (ended now) (stops from) (stops now) (cause now)
was_fed ended stops cause from now f.More told is = is.0
was_fed ended stops cause from now f.Dry told is = is.0
was_fed ended stops cause from now f.End told is = is
was_fed ended stops cause from now (f.Stop reason) told is = is

-- the end of input is told only where it was reached
ends_fed : (fed : Fed) (ended all : Bool) (before behind : ℕ) (kept : Option Stop) → WasFed fed ended all before behind kept → ended ≡ true → all ≡ true
ends_fed f.More ended all before behind kept is told = absurd (cc)
ends_fed f.Dry ended all before behind kept is told = absurd (cc)
ends_fed f.End ended all before behind kept is told = is.1
ends_fed (f.Stop cause) ended all before behind kept is told = let no = is.0 in absurd (cc)

pub rose_from : (before old new : ℕ) → old ≡ before → Rose old new → Rose before new
rose_from before old new same rose = subst (λ (n : ℕ). Rose n new) same rose

-- an intake that went on since, and was fed so
pub goes_fed : {A : Type 0} (ended : A → Bool) (stops : A → ℕ) (cause : A → Option Stop) (from mid now : A) (fed : Fed) (told : Bool) → GoesOn ended stops from mid → IsFed ended stops cause mid now fed told
    → IsFed ended stops cause from now fed told
goes_fed ended stops cause from mid now f.More told on is = (is.0, (is.1.0 ∙ on.0, is.1.1 ∙ on.1))
goes_fed ended stops cause from mid now f.Dry told on is = (is.0, (is.1.0 ∙ on.0, is.1.1 ∙ on.1))
goes_fed ended stops cause from mid now f.End told on is = is
goes_fed ended stops cause from mid now (f.Stop reason) told on is = (is.0, (rose_from (stops from) (stops mid) (stops now) on.1 is.1.0, is.1.1))

-- why feeding ended stays while nothing is fed
pub fed_later : {A : Type 0} (ended : A → Bool) (stops : A → ℕ) (cause : A → Option Stop) (from now : A) (fed : Fed) (told later : Bool) → later ≡ told → IsFed ended stops cause from now fed told
    → IsFed ended stops cause from now fed later
fed_later ended stops cause from now fed told later same is = subst (λ (b : Bool). IsFed ended stops cause from now fed b) (sym same) is

-- a run ended for one reason
one_reason : (x y : Stop) → why.Stopped x ≡ why.Stopped y → x ≡ y
one_reason x y same = cc

module _ (gave : List Event → Type 0) (all : Bool) (before behind : ℕ) (kept : Option Stop) (first c : Running) (old new : OutletState) (fed : Fed) (is : WasFed fed c.machine.ended all before behind kept)
    (run : Ran gave first c) where
  ends : c.machine.ended ≡ true → all ≡ true
  ends = ends_fed fed c.machine.ended all before behind kept is

  -- the outlet failed
  pub drove_refused : Rose old.faults new.faults → FailedWithin first.plan c.machine.emitted old new → Drove gave all before behind kept first old new (record { core = c; why = why.Refused })
  drove_refused rose failed = record {
    plan = run.plan;
    bound = run.bound;
    given = run.given;
    fed_are = run.fed_are;
    ends = ends;
    whole_input = λ no. absurd (cc);
    stop = λ cause no. absurd (cc);
    finished = λ no. elim no [ inl a ↦ absurd (cc) | inr b ↦ absurd (cc b.1) ];
    refused = λ _. (rose, failed);
    short = λ no. absurd (cc);
    no_fault = λ no. absurd (no refl);
  }

  -- there was no memory
  pub drove_short : TookFirst first.plan c.machine.emitted old new → new.faults ≡ old.faults → Drove gave all before behind kept first old new (record { core = c; why = why.Memory })
  drove_short took same = record {
    plan = run.plan;
    bound = run.bound;
    given = run.given;
    fed_are = run.fed_are;
    ends = ends;
    whole_input = λ no. absurd (cc);
    stop = λ cause no. absurd (cc);
    finished = λ no. elim no [ inl a ↦ absurd (cc) | inr b ↦ absurd (cc b.1) ];
    refused = λ no. absurd (cc);
    short = λ _. took;
    no_fault = λ _. same;
  }

  module _ (finished : AllFinished c) (took : Took first.plan c.machine.emitted old new) (same : new.faults ≡ old.faults) where
    finished_first : c.machine.finished ≡ closed first.plan c.machine.events c.machine.ended
    finished_first = finished ∙ ap (λ (q : Plan). closed q c.machine.events c.machine.ended) run.plan

    -- the end of input was reached
    pub drove_whole : c.machine.ended ≡ true → Drove gave all before behind kept first old new (record { core = c; why = why.Whole })
    drove_whole ended = record {
      plan = run.plan;
      bound = run.bound;
      given = run.given;
      fed_are = run.fed_are;
      ends = ends;
      whole_input = λ _. ended;
      stop = λ cause no. absurd (cc);
      finished = λ _. (finished_first, took);
      refused = λ no. absurd (cc);
      short = λ no. absurd (cc);
      no_fault = λ _. same;
    }

    -- the intake stopped before
    pub drove_stopped : (cause : Stop) → StoppedSo before behind kept cause → c.machine.ended ≡ false → Drove gave all before behind kept first old new (record { core = c; why = why.Stopped cause })
    drove_stopped cause stops unended = record {
      plan = run.plan;
      bound = run.bound;
      given = run.given;
      fed_are = run.fed_are;
      ends = ends;
      whole_input = λ no. absurd (cc);
      stop = λ other same. (subst (StoppedSo before behind kept) (one_reason cause other same) stops, unended);
      finished = λ _. (finished_first, took);
      refused = λ no. absurd (cc);
      short = λ no. absurd (cc);
      no_fault = λ _. same;
    }

-- later windows add matches behind
later : (q : Plan) (events : List Event) (n k : ℕ) → (more : List Match) × ((seq q events (n + k)).matches ≡ (seq q events n).matches ++ more)
later q events n zero = let same : n + 0 ≡ n = omega arith in ([], ap (λ (j : ℕ). (seq q events j).matches) same ∙ sym (append-nil (seq q events n).matches))
later q events n (suc k) =
    let same : n + suc k ≡ suc (n + k) = omega arith in
    let rest = later q events n k in
    let before = seq q events (n + k) in
    let runs = matched_runs (state q (visible events before.consumed (slice_get (windows q events false) (n + k)))) in
    let new : List Match = map (match_of q (suc (n + k))) (enumerate_from (length before.matches + 1) runs) in
    (rest.0 ++ new, ap (λ (j : ℕ). (seq q events j).matches) same ∙ ap (λ (l : List Match). l ++ new) rest.1 ∙ append_assoc (seq q events n).matches rest.0 new)

-- what was emitted are the first matches, whatever events come
first_matches : (q : Plan) (events more : List Event) (n : ℕ) (ended : Bool) → FinishedStay q → Good q (events ++ more) → ended ≡ false → n ≤ closed q events ended
    → (rest : List Match) × ((whole q (events ++ more) false).matches ≡ (seq q events n).matches ++ rest)
first_matches q events more n ended stay good unended within =
    let low : n ≤ closed q events false = subst (λ (b : Bool). n ≤ closed q events b) unended within in
    let all = stay.closed_more events more good in
    let d = closed q (events ++ more) false in
    let cut : d ≡ n + (d - n) = omega arith in
    let rest = later q (events ++ more) n (d - n) in
    (rest.0, ap (λ (j : ℕ). (seq q (events ++ more) j).matches) cut ∙ rest.1 ∙ ap (λ (p : Progress). p.matches ++ rest.0) (stay.progress events more n good low))

-- an event was lost, for want of memory, while the core was fed
pub fell_short : (gave gave' : List Event → Type 0) (all : Bool) (first c d : Running) (old s : OutletState) (lost : List Event) → Going gave first c old s → c.machine.ended ≡ false
    → Reached c.plan c.bound c.machine → IsCompiled c.plan → ((q : Plan) → IsWindowed q → FinishedStay q) → FedOn c d → gave' (d.machine.events ++ lost) → AreGood first.plan (d.machine.events ++ lost)
    → FellShort gave' all first.plan old s
fell_short gave gave' all first c d old s lost going unended reached compiled stay more given good =
    let q = first.plan in
    let m = c.machine in
    let are : d.machine.events ++ lost ≡ m.events ++ (more.more ++ lost) = ap (λ (l : List Event). l ++ lost) more.events ∙ append_assoc m.events more.more lost in
    let windowed : IsWindowed q = subst (λ (p : Plan). IsWindowed p) going.run.plan compiled.windowed in
    let emitted : m.emitted ≡ (seq q m.events m.finished).matches = reached.sequential.emitted ∙ ap (λ (p : Plan). (seq p m.events m.finished).matches) going.run.plan in
    let within : m.finished ≤ closed q m.events m.ended = subst (λ (p : Plan). m.finished ≤ closed p m.events m.ended) going.run.plan reached.sequential.finished in
    let rest = first_matches q m.events (more.more ++ lost) m.finished m.ended (stay q windowed) (subst (Good q) are good.good) unended within in
    record {
      events = d.machine.events ++ lost;
      input_ended = false;
      given = given;
      ends = λ no. absurd (cc);
      took = took_first q m.emitted rest.0 (whole q (d.machine.events ++ lost) false).matches old s
          (ap (λ (l : List Event). (whole q l false).matches) are ∙ rest.1 ∙ ap (λ (l : List Match). l ++ rest.0) (sym emitted)) going.took;
      no_fault = going.no_fault;
    }
