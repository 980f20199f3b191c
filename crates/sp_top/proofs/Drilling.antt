-- A drill: its plan, its run over generated rows, and its summary.
use Rattle.std.proofs.Common.{◌⊎◌, ◌≡◌, ◌≤◌, inl, inr, ⊎_elim, ℕ, true, List, [], length, Option, Some, None, Ok, Err, refl, sym, ◌∙◌, ap, subst, arith}
use Rattle.std.specs.Prelude.{◌≢◌, Result, IfErr}
use Rattle.sp_base.specs.Limits.{event_limit}
use Rattle.sp_base.specs.Numbers.{with_numbers}
use Rattle.sp_cut.specs.Growth.{RowsStay}
use Rattle.sp_io.specs.Outside.{Told, SourceState, SinkState, Gave, Grew, GrewWithin, IsUsedUp, Rose}
use Rattle.sp_plan.specs.declared.event.Event.{Event}
use Rattle.sp_plan.specs.declared.found.Match.{Match}
use Rattle.sp_plan.specs.declared.plan.Plan.{Plan}
use Rattle.sp_plan.specs.Compiled.{IsCompiled}
use Rattle.sp_plan.specs.Sequential.{seq}
use Rattle.sp_plan.specs.Windows.{closed, windows}
use Rattle.sp_emit.specs.Summary.{summary}
use Rattle.sp_gen.specs.Generated.{generated}
use Rattle.sp_drill.specs.Drill.{GeneratedRowsAreRead}
use Rattle.sp_drill.specs.Query.{drill_query, DrillQueryHasPlan}
use Rattle.sp_load.specs.Queries.{IsPlanFor, RefusesText}
use Rattle.sp_load.specs.Laws.{OneReading}
use Rattle.sp_load.specs.declared.refusal.Refusal.{Refusal}
use Rattle.sp_load.specs.declared.refusal.Refusal.TheVariants as r
use Rattle.sp_answer.specs.declared.status.Status.{Status}
use Rattle.sp_answer.specs.declared.status.Status.TheVariants.{Done, Memory}
use Rattle.sp_answer.specs.Outcome.{ending, number_of, outcome}
use Rattle.sp_answer.specs.Ran.{Outside, outside, Ran, Made}
use Rattle.sp_answer.proofs.Answering.{made_none}
use Rattle.sp_split.specs.declared.ended.Ended.{Ended}
use Rattle.sp_cli.specs.Commands.{Speed}
use Rattle.sp_commands.specs.Completes.{ReadsToEnd}
use Rattle.sp_ports.specs.declared.stop.Stop.TheVariants.{End}
use Rattle.sp_intake.specs.LooseLaws.{punctual, LooseIsReading}
use Rattle.sp_commands.specs.Ends.{Came, came, came_within, status_of}
use Rattle.sp_commands.proofs.Came.{late_way}
use Rattle.sp_commands.proofs.Punctual.{came_in_time}
use Rattle.sp_commands.specs.Drill.{summary_of, drill_text, DrillOutcome, WritesSummary, written, failed, no_memory}
use Rattle.sp_top.specs.Summing.{CanSum, SumsUp}
use Rattle.sp_top.specs.Report.{Reports, ReportsPlan, ReportsDrill, WhereDone}
use Rattle.sp_commands.specs.Run.{windows_text, IsPlanRun}
use Rattle.sp_commands.proofs.Drills.{text_some}
use Rattle.sp_commands.proofs.Completing.{gave_all, ran_done}
use Rattle.sp_top.proofs.Reporting.{all_closed}

-- ---- its plan

-- a query that has a plan is refused for want of memory alone
pub only_memory : OneReading → DrillQueryHasPlan → (refusal : Refusal) → RefusesText drill_query refusal → refusal ≡ r.Memory
only_memory reading has r.Memory refuses = refl
only_memory reading has (r.Query code at) refuses = absurd (reading.apart drill_query has.plan code at has.is refuses)
only_memory reading has r.Read refuses = absurd refuses
only_memory reading has (r.Limited limit) refuses = absurd refuses

pub memory_alone : OneReading → DrillQueryHasPlan → (result : Result Plan Refusal) → IfErr result (RefusesText drill_query) → IfErr result (λ refusal. refusal ≡ r.Memory)
memory_alone reading has (Ok plan) refused = tt
memory_alone reading has (Err refusal) refused = only_memory reading has refusal refused

-- ---- its run

-- no fault was counted where none can be
pub quiet : Rose 0 0 → ⊥
quiet (inl rose) = omega (arith, rose)
quiet (inr full) = omega (arith, full)

-- where there is an end and a run was done, it is such a one
pub end_of : {V : Type 0} {T : V → Type 0} → (Is : Ended V T → Type 0) (s : Status) (o : Option (Ended V T)) (e : Ended V T) → s ≡ Done → o ≡ Some e → WhereDone Is s o → Is e
end_of {V} {T} Is s o e done some report = subst (λ (x : Option (Ended V T)). WhereDone Is Done x) some (subst (λ (t : Status). WhereDone Is t o) done report) refl

-- an end stays what it is where the status stays unless it was done
pub stays_reported : {V : Type 0} {T : V → Type 0} → (Is : Ended V T → Type 0) (s later : Status) (o : Option (Ended V T)) → (s ≡ Done) ⊎ (s ≡ Memory) → (s ≢ Done → later ≡ s) → WhereDone Is s o → WhereDone Is later o
stays_reported Is s later None (inl done) other report = absurd (report (ap number_of done))
stays_reported Is s later None (inr memory) other report = λ is. let one : number_of later ≡ 1 = ap number_of (other (λ own. cc (memory, own)) ∙ memory) in omega (arith, is, one)
stays_reported Is s later (Some e) (inl done) other report = λ _. report (ap number_of done)
stays_reported Is s later (Some e) (inr memory) other report = λ is. let one : number_of later ≡ 1 = ap number_of (other (λ own. cc (memory, own)) ∙ memory) in absurd (omega (arith, is, one))

module _ (law : LooseIsReading) (stay : RowsStay) (has : DrillQueryHasPlan) (rows : GeneratedRowsAreRead) (q : Plan) (compiled : IsCompiled q) (is : IsPlanFor drill_query q) (events seed : ℕ) (few : events ≤ event_limit) (old new : Outside)
    (told : old.input.left ≡ Some (generated events seed)) (no_read : Rose old.input.faults new.input.faults → ⊥) (no_write : Rose old.out.faults new.out.faults → ⊥)
    (used_up : new.input.ended ≡ true → IsUsedUp new.input.left) (s : Status) (ran : Ran (IsPlanRun q punctual) old new (ending s)) where
  same : came_within q punctual (generated events seed) true ≡ came q (generated events seed) true
  same = came_in_time law q compiled (generated events seed) true

  stops : (came q (generated events seed) true).stop ≡ End
  stops = (rows q events seed (has.reads q is) few).stop

  reads : ReadsToEnd (came_within q punctual) old.input (generated events seed)
  reads = record { told = told; stop = ap (λ (c : Came). c.stop) same ∙ stops }

  -- the rows are read to their end
  pub rows_done : (s ≡ Done) ⊎ (s ≡ Memory)
  rows_done = ⊎_elim (λ done. inl (done.0 ∙ ap (λ (c : Came). c.status) same ∙ ap status_of stops)) (λ memory. inr memory)
      (ran_done (IsPlanRun q punctual) old new (came_within q punctual) (late_way stay q punctual) (generated events seed) (windows_text q) (λ b e o own. own) reads no_read no_write used_up (ending s) ran)

  -- and the run over them is that of the drill
  pub rows_reported : {V : Type 0} {T : V → Type 0} → (speed : Speed) (ended : Option (Ended V T)) → WhereDone (ReportsPlan q punctual speed old.input.left new.input.left) s ended → WhereDone (ReportsDrill events seed speed) s ended
  rows_reported speed None report = report
  rows_reported speed (Some e) report = λ done.
      let own = report done in
      let all = gave_all (generated events seed) own.1 new.input.left (subst (λ (t : Told). Gave t own.1 new.input.left) told own.2) (used_up (ran.read_whole done)) in
      let p = e.core.plan in
      let events_are = ap (λ (bytes : List ℕ). (came_within p punctual bytes true).events) all.0 ∙ ap (λ (c : Came). c.events) (came_in_time law p (subst IsCompiled (sym own.0) compiled) (generated events seed) true) in
      (subst (IsPlanFor drill_query) (sym own.0) is, subst (λ (es : List Event). Reports speed es e) events_are own.3)

-- ---- its summary

-- what a core has where all windows are finished is what its summary counts
pub summary_is : (q : Plan) (events : List Event) (finished : ℕ) (emitted : List Match) (consumed : List ℕ) → finished ≡ length (windows q events true) → emitted ≡ (seq q events finished).matches
    → consumed ≡ with_numbers [] (seq q events finished).consumed → summary (length events) finished (length emitted) (length consumed) ≡ summary_of q events
summary_is q events finished emitted consumed all matches used =
    let same : finished ≡ closed q events true = all ∙ sym (all_closed q events) in
    λ i. summary (length events) (all i)
    (length ((matches ∙ ap (λ (n : ℕ). (seq q events n).matches) same) i)) (length ((used ∙ ap (λ (n : ℕ). with_numbers [] (seq q events n).consumed) same) i))

module _ (q : Plan) (is : IsPlanFor drill_query q) (events seed : ℕ) (input : SourceState) where
  -- memory ran out before a summary was written
  pub made_unwritten : (old : SinkState) → Made (λ bytes ended. DrillOutcome events seed) (outside input old) (outside input old) (ending Memory)
  made_unwritten old = made_none (λ bytes ended. DrillOutcome events seed) (outside input old) (outcome Done (drill_text q events seed)) (λ b e. (q, is, refl))

  -- a summary that was written is the text of the drill
  pub made_summary : (line : List ℕ) → line ≡ drill_text q events seed → (old new : SinkState) (s : Status) → WritesSummary line old new s
      → Made (λ bytes ended. DrillOutcome events seed) (outside input old) (outside input new) (ending s)
  made_summary line own old new _ (written grew quiet) = record {
    outcome = outcome Done (drill_text q events seed);
    is = λ b e. (q, is, refl);
    unread = refl;
    exact = λ _ _. (refl, subst (λ (l : List ℕ). Grew old.held l new.held) own grew);
    cut_off = λ which. absurd (⊎_elim (λ e. cc) (λ e. cc) which);
    write_fault = λ e. cc;
    write_told = λ rose. absurd (omega (arith, rose, quiet));
  }
  made_summary line own old new _ (failed within rose) = record {
    outcome = outcome Done (drill_text q events seed);
    is = λ b e. (q, is, refl);
    unread = refl;
    exact = λ _ other. absurd (other refl);
    cut_off = λ _. (refl, subst (λ (l : List ℕ). GrewWithin old.held l new.held) own within);
    write_fault = λ _. (rose, text_some q events seed);
    write_told = λ _. inl refl;
  }
  made_summary line own old new _ (no_memory same) =
      subst (λ (k : SinkState). Made (λ bytes ended. DrillOutcome events seed) (outside input old) (outside input k) (ending Memory)) (sym same) (made_unwritten old)

-- ---- the whole of it

module _ (has : DrillQueryHasPlan) (rows : GeneratedRowsAreRead) (events seed : ℕ) (few : events ≤ event_limit) (speed : Speed) where
  -- a drill's run can be summed up
  pub can_sum : {V : Type 0} {T : V → Type 0} → (s : Status) (ended : Option (Ended V T)) → WhereDone (ReportsDrill events seed speed) s ended → WhereDone CanSum s ended
  can_sum s None report = report
  can_sum s (Some e) report = λ done.
      let own = report done in
      let count = (rows e.core.plan events seed (has.reads e.core.plan own.0) few).count in
      let same = ap length own.1.events in
      (omega arith, own.1.finished)

  module _ {V : Type 0} {T : V → Type 0} (s : Status) (ended : Option (Ended V T)) (either : (s ≡ Done) ⊎ (s ≡ Memory)) (report : WhereDone (ReportsDrill events seed speed) s ended) (old new : SinkState) (later : Status)
      (sums : SumsUp s ended old new later) where
    -- and what is written then is the drill's text
    pub drill_made : (input : SourceState) → Made (λ bytes ended. DrillOutcome events seed) (outside input old) (outside input new) (ending later)
    drill_made input = by either ended report sums
      where
        by : (s ≡ Done) ⊎ (s ≡ Memory) → (o : Option (Ended V T)) → WhereDone (ReportsDrill events seed speed) s o → SumsUp s o old new later
            → Made (λ bytes ended. DrillOutcome events seed) (outside input old) (outside input new) (ending later)
        by (inl done) None report sums = absurd (report (ap number_of done))
        by (inl done) (Some e) report sums =
            let own = report (ap number_of done) in
            made_summary e.core.plan own.0 events seed input (summary_of e.core.plan e.core.machine.events) (ap (summary_of e.core.plan) own.1.events) old new later (sums.done e done refl)
        by (inr memory) o report sums =
            let none = sums.other (λ is. cc) in
            subst (λ (t : Status). Made (λ bytes ended. DrillOutcome events seed) (outside input old) (outside input new) (ending t)) (sym (none.0 ∙ memory))
            (subst (λ (k : SinkState). Made (λ bytes ended. DrillOutcome events seed) (outside input old) (outside input k) (ending Memory)) (sym none.1)
            (made_unwritten has.plan has.is events seed input old))

    -- and the end that was reported of the run is reported of it
    pub drill_reported : WhereDone (ReportsDrill events seed speed) later ended
    drill_reported = stays_reported (ReportsDrill events seed speed) s later ended either (λ other. (sums.other other).0) report
