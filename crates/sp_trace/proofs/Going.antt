-- How a run goes on: the step that a line stands for, taken on the bench.
use Rattle.std.proofs.Common.{◌≡◌, ℕ, ◌+◌, ◌<◌, ◌≤◌, true, List, [], ◌∷◌, ◌++◌, length, take, Option, Some, None, refl, sym, ◌∙◌, ap, subst, arith}
use Rattle.std.specs.Prelude.{slice_get}
use Rattle.std.proofs.lemmas.List.{get_or-take, length-take, length_push, take_more}
use Rattle.std.proofs.lemmas.List.Elements.{All-take}
use Rattle.std.proofs.lemmas.Option.{slice_get_within, slice_get-get_or, get_or_from_slice_get}
use Rattle.sp_base.specs.Limits.{batch_limit}
use Rattle.sp_plan.specs.declared.event.Event.{Event}
use Rattle.sp_plan.specs.declared.plan.Plan.{Plan}
use Rattle.sp_plan.specs.Events.{AllFit, NeverGoesBack, fits}
use Rattle.sp_plan.specs.WindowNumbers.{Good}
use Rattle.sp_group.specs.declared.step.Step.{Step}
use Rattle.sp_group.specs.declared.step.Step.TheVariants as s
use Rattle.sp_group.specs.Machine.{Machine, Version, Ticket, version_at, ticket_at, root_in}
use Rattle.sp_group.specs.Effects.{effect, child_spawned, leased, home, returned, rolled, popped, settled, finished_one}
use Rattle.sp_group.specs.declared.refusal.Refusal.{Refusal}
use Rattle.sp_group.specs.Refusing.{refusal}
use Rattle.sp_group.specs.Steps.{Answered, answer, lease_answer, event_answer, return_answer, finish_answer, replied}
use Rattle.sp_sched.specs.declared.step.TraceStep.{TraceStep}
use Rattle.sp_sched.specs.declared.step.TraceStep.TheVariants as t
use Rattle.sp_sched.specs.Schedules.{CanStand}
use Rattle.sp_core.specs.declared.answer.Answer.{Answer}
use Rattle.sp_core.specs.Benched.{Benched, CanTake, IsAnswerTo, IsTaken, answered, taken}
use Rattle.sp_trace.specs.Traced.{Tracing, answer_lines, feeding, machine_step, next_event, reply_lines, step_lines}
use Rattle.sp_trace.specs.Keeping.{IsTracing, fed_after, tracing}

-- what stands among the first of a list stands in the list
within_first : (events : List Event) (n i : ℕ) (x : Event) → slice_get (take n events) i ≡ Some x → slice_get events i ≡ Some x
within_first events n i x at =
    let inside : i < length (take n events) = slice_get_within (take n events) i x at in
    let low : i < n = omega (arith, length-take n events) in
    let here : i < length events = omega (arith, length-take n events) in
    slice_get-get_or events i x here ∙ ap Some (sym (get_or-take n events i x low) ∙ get_or_from_slice_get (take n events) i x x at)

-- the first events of a good input are good
good_first : (q : Plan) (events : List Event) (n : ℕ) → AllFit q events → NeverGoesBack events → Good q (take n events)
good_first q events n fit ordered = (
  All-take (λ e. fits q e ≡ true) n events fit,
  (λ i j x y le at_i at_j. ordered i j x y le (within_first events n i x at_i) (within_first events n j y at_j)),
)

-- one event more of the input
one_more : (events : List Event) (n : ℕ) (e : Event) → slice_get events n ≡ Some e → take (n + 1) events ≡ take n events ++ e ∷ []
one_more events n e at = take_more events n e (slice_get_within events n e at) ∙ ap (λ (x : Event). take n events ++ x ∷ []) (get_or_from_slice_get events n e e at)

-- what feeds an event is the next one
fed_next : (o : Option Event) (e : Event) → feeding o ≡ Some (s.Feed e) → o ≡ Some e
fed_next None e is = cc
fed_next (Some x) e is = cc

next_is : (g : Tracing) (x : TraceStep) (e : Event) → machine_step g x ≡ Some (s.Feed e) → next_event g ≡ Some e
next_is g t.Feed e is = fed_next (next_event g) e is
next_is g t.End e is = cc
next_is g (t.Spawn parent label) e is = cc
next_is g (t.Lease version count) e is = cc
next_is g (t.Event ticket) e is = cc
next_is g (t.Return ticket) e is = cc
next_is g (t.Roll version) e is = cc
next_is g t.Finish e is = cc
next_is g t.State e is = cc

-- no step but a feed changes the events
child_events : (m : Machine) (p : ℕ) (label : List ℕ) (o : Option Version) → (child_spawned m p label o).events ≡ m.events
child_events m p label None = refl
child_events m p label (Some u) = refl

leased_events : (q : Plan) (m : Machine) (n : ℕ) (o : Option Version) → (leased q m n o).events ≡ m.events
leased_events q m n None = refl
leased_events q m n (Some v) = refl

home_events : (q : Plan) (m : Machine) (n : ℕ) (ticket : Ticket) (o : Option Version) → (home q m n ticket o).events ≡ m.events
home_events q m n ticket None = refl
home_events q m n ticket (Some v) = refl

returned_events : (q : Plan) (m : Machine) (n : ℕ) (o : Option Ticket) → (returned q m n o).events ≡ m.events
returned_events q m n None = refl
returned_events q m n (Some ticket) = home_events q m n ticket (version_at m.versions ticket.version)

rolled_events : (m : Machine) (o : Option Version) → (rolled m o).events ≡ m.events
rolled_events m None = refl
rolled_events m (Some v) = refl

settled_events : (q : Plan) (m : Machine) (o : Option Version) → (settled q m o).events ≡ m.events
settled_events q m None = refl
settled_events q m (Some v) = grind arith

finished_events : (q : Plan) (m : Machine) (o : Option Version) → (finished_one q m o).events ≡ m.events
finished_events q m None = refl
finished_events q m (Some v) = settled_events q (popped q m v) (root_in (popped q m v).versions)

-- no other step answers as a feed does
lease_count : (q : Plan) (m : Machine) (n before : ℕ) (o : Option Version) → fed_after before (lease_answer q m n o) ≡ before
lease_count q m n before None = refl
lease_count q m n before (Some v) = refl

event_count : (before : ℕ) (o : Option Ticket) → fed_after before (event_answer o) ≡ before
event_count before None = refl
event_count before (Some ticket) = grind arith

return_count : (m : Machine) (before : ℕ) (o : Option Ticket) → fed_after before (return_answer m o) ≡ before
return_count m before None = refl
return_count m before (Some ticket) = grind arith

finish_count : (q : Plan) (m : Machine) (before : ℕ) (o : Option Version) → fed_after before (finish_answer q m o) ≡ before
finish_count q m before None = refl
finish_count q m before (Some v) = refl

module _ (q : Plan) (events : List Event) (fed : ℕ) (bench : Benched) (kept : IsTracing q events fed bench) where
  -- the events of the bench, and one more, are the first of the input
  grown : (e : Event) → slice_get events (length bench.machine.events) ≡ Some e → bench.machine.events ++ e ∷ [] ≡ take (length bench.machine.events + 1) events
  grown e at =
      let so_far : bench.machine.events ≡ take (length bench.machine.events) events = kept.first ∙ ap (λ (n : ℕ). take n events) (sym kept.count) in
      ap (λ (l : List Event). l ++ e ∷ []) so_far ∙ sym (one_more events (length bench.machine.events) e at)

  -- a line of a schedule lets the bench take its step
  pub can_take : (x : TraceStep) (own : Step) → CanStand x → machine_step (tracing q events bench) x ≡ Some own → CanTake bench own
  can_take x (s.Feed e) stands is =
      let good : Good q (bench.machine.events ++ e ∷ []) =
      subst (Good q) (sym (grown e (next_is (tracing q events bench) x e is))) (good_first q events (length bench.machine.events + 1) kept.fit kept.ordered) in
      subst (λ (p : Plan). Good p (bench.machine.events ++ e ∷ [])) (sym kept.plan) good
  can_take x (s.Lease id n) stands is = lent x stands is
    where
      lent : (x : TraceStep) → CanStand x → machine_step (tracing q events bench) x ≡ Some (s.Lease id n) → (1 ≤ n) × (n ≤ batch_limit)
      lent (t.Lease version count) stands is = let e : count ≡ n = cc in (subst (λ (k : ℕ). 1 ≤ k) e stands.1, subst (λ (k : ℕ). k ≤ batch_limit) e stands.2)
      lent t.Feed stands is = absurd (none (next_event (tracing q events bench)) is)
        where
          none : (o : Option Event) → feeding o ≡ Some (s.Lease id n) → ⊥
          none None e = cc
          none (Some e) f = cc
      lent t.End stands is = cc
      lent (t.Spawn parent label) stands is = cc
      lent (t.Event ticket) stands is = cc
      lent (t.Return ticket) stands is = cc
      lent (t.Roll version) stands is = cc
      lent t.Finish stands is = cc
      lent t.State stands is = cc
  can_take x s.End stands is = tt
  can_take x (s.Spawn parent label) stands is = tt
  can_take x (s.Event n) stands is = tt
  can_take x (s.Return n) stands is = tt
  can_take x (s.Roll id) stands is = tt
  can_take x s.Finish stands is = tt

  -- where no event comes, nothing of what is kept changes
  same : (m : Machine) (a : Answered) → m.events ≡ bench.machine.events → fed_after fed a ≡ fed → IsTracing q events (fed_after fed a) (record bench { machine = m })
  same m a as_before count = record {
    plan = kept.plan;
    count = ap length as_before ∙ kept.count ∙ sym count;
    first = as_before ∙ kept.first ∙ ap (λ (n : ℕ). take n events) (sym count);
    fit = kept.fit;
    ordered = kept.ordered;
  }

  goes_on : (x : TraceStep) (own : Step) → machine_step (tracing q events bench) x ≡ Some own
      → IsTracing q events (fed_after fed (answer bench.plan bench.machine own)) (taken bench own)
  goes_on x (s.Feed e) is = record {
    plan = kept.plan;
    count = length_push bench.machine.events e;
    first = grown e (next_is (tracing q events bench) x e is);
    fit = kept.fit;
    ordered = kept.ordered;
  }
  goes_on x s.End is = same (effect bench.plan bench.machine s.End) (answer bench.plan bench.machine s.End) refl refl
  goes_on x (s.Spawn None label) is = same (effect bench.plan bench.machine (s.Spawn None label)) (answer bench.plan bench.machine (s.Spawn None label)) refl refl
  goes_on x (s.Spawn (Some p) label) is =
      let m : Machine = bench.machine in
      same (effect bench.plan m (s.Spawn (Some p) label)) (answer bench.plan m (s.Spawn (Some p) label)) (child_events m p label (version_at m.versions p)) refl
  goes_on x (s.Lease id n) is =
      let m : Machine = bench.machine in
      same (effect bench.plan m (s.Lease id n)) (answer bench.plan m (s.Lease id n)) (leased_events bench.plan m n (version_at m.versions id)) (lease_count bench.plan m n fed (version_at m.versions id))
  goes_on x (s.Event n) is =
      let m : Machine = bench.machine in
      same (effect bench.plan m (s.Event n)) (answer bench.plan m (s.Event n)) refl (event_count fed (ticket_at m.tickets n))
  goes_on x (s.Return n) is =
      let m : Machine = bench.machine in
      same (effect bench.plan m (s.Return n)) (answer bench.plan m (s.Return n)) (returned_events bench.plan m n (ticket_at m.tickets n)) (return_count m fed (ticket_at m.tickets n))
  goes_on x (s.Roll id) is =
      let m : Machine = bench.machine in
      same (effect bench.plan m (s.Roll id)) (answer bench.plan m (s.Roll id)) (rolled_events m (version_at m.versions id)) refl
  goes_on x s.Finish is =
      let m : Machine = bench.machine in
      same (effect bench.plan m s.Finish) (answer bench.plan m s.Finish) (finished_events bench.plan m (root_in m.versions)) (finish_count bench.plan m fed (root_in m.versions))

  -- what is kept after a step that was taken
  pub kept_on : (x : TraceStep) (own : Step) (given : Answer) (new : Benched) → machine_step (tracing q events bench) x ≡ Some own → IsTaken own bench new
      → IsAnswerTo bench own given → IsTracing q events (fed_after fed (answered given)) new
  kept_on x own given new is was_taken told =
      subst (λ (b : Benched). IsTracing q events (fed_after fed (answered given)) b) (sym was_taken.1)
      (subst (λ (a : Answered). IsTracing q events (fed_after fed a) (taken bench own)) (sym told) (goes_on x own is))

  -- the lines of a step that was taken
  pub told : (x : TraceStep) (own : Step) (given : Answer) (new : Benched) → machine_step (tracing q events bench) x ≡ Some own → IsTaken own bench new
      → IsAnswerTo bench own given
      → answer_lines q x (answered given) ≡ step_lines (tracing q events bench) x (machine_step (tracing q events bench) x)
  told x own given new is was_taken answers =
      let none : refusal q bench.bound bench.machine own ≡ None =
      subst (λ (p : Plan). refusal p bench.bound bench.machine own ≡ None) kept.plan was_taken.0 in
      let told_so : answered given ≡ answer q bench.machine own = subst (λ (p : Plan). answered given ≡ answer p bench.machine own) kept.plan answers in
      ap (answer_lines q x) told_so
      ∙ sym (ap (step_lines (tracing q events bench) x) is ∙ ap (λ (o : Option Refusal). reply_lines q x (replied o (answer q bench.machine own))) none)
