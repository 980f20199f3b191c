-- A run of the machine over an input, as what is promised of a run.
use Rattle.std.proofs.Common.{◌≡◌, ◌≢◌, ◌<◌, ◌≤◌, ◌+◌, ◌-◌, inl, inr, ⊎_elim, ℕ, zero, suc, Bool, true, false, List, [], ◌∷◌, ◌++◌, length, map, slice_get, Option, Some, None, refl, ap, arith, sym, subst, ◌∙◌, append_assoc}
use Rattle.std.specs.List.{enumerate_from}
use Rattle.std.proofs.lemmas.Grind.{flat_map-append}
use Rattle.std.proofs.lemmas.List.{append-nil}
use Rattle.std.specs.Prelude.{IfSome}
use Rattle.sp_io.specs.Outside.{Told, SourceState, SinkState, Gave, Grew, GrewWithin, Rose}
use Rattle.sp_plan.specs.declared.event.Event.{Event}
use Rattle.sp_plan.specs.declared.found.Match.{Match}
use Rattle.sp_plan.specs.declared.plan.Plan.{Plan}
use Rattle.sp_plan.specs.Compiled.{IsCompiled}
use Rattle.sp_plan.specs.Lines.{line, text}
use Rattle.sp_plan.specs.Runs.{matched_runs, state}
use Rattle.sp_plan.specs.Sequential.{seq, whole, match_of, visible, Grows}
use Rattle.sp_plan.specs.WindowNumbers.{Good}
use Rattle.sp_plan.specs.Windows.{closed, windows, IsWindowed}
use Rattle.sp_intake.specs.Loose.{Lateness}
use Rattle.sp_intake.specs.Standing.{Standing, stop_in, is_whole, Gives}
use Rattle.sp_intake.proofs.LooseGood.{slacked_good}
use Rattle.sp_ports.specs.Stopping.{is_end}
use Rattle.sp_ports.specs.declared.stop.Stop.{Stop}
use Rattle.sp_ports.specs.declared.stop.Stop.TheVariants.{End, Failed, Open}
use Rattle.sp_answer.specs.Outcome.{Ending, ending, number_of}
use Rattle.sp_answer.specs.Ran.{Outside, outside, Ran}
use Rattle.sp_answer.specs.declared.status.Status.{Status}
use Rattle.sp_answer.specs.declared.status.Status.TheVariants.{Memory, Write}
use Rattle.sp_io.proofs.Grew.{within_longer, within_more}
use Rattle.sp_ports.specs.Taking.{OutletState, TookFirst, first_line}
use Rattle.sp_group.specs.Machine.{Machine}
use Rattle.sp_rules.specs.Schedules.{IsSequential}
use Rattle.sp_core.specs.Running.{Running}
use Rattle.sp_split.specs.declared.ended.Went.{Went}
use Rattle.sp_split.specs.declared.ended.Why.{Why}
use Rattle.sp_split.specs.declared.ended.Why.TheVariants as why
use Rattle.sp_split.specs.Driving.{FailedWithin, Drove, FellShort}
use Rattle.sp_commands.specs.Ends.{Came, came_within, late_status}
use Rattle.sp_commands.specs.Given.{StopsInTime}
use Rattle.sp_top.specs.Coming.{late_in, CameSoFar, ComesFrom}
use Rattle.sp_top.specs.RunEnds.{status_of_end}
use Rattle.sp_commands.specs.Run.{run_outcome, windows_text, IsPlanRun}
use Rattle.sp_commands.proofs.Came.{within_told}
use Rattle.sp_commands.proofs.Running.{no_further_reading}

pub text_parts : (q : Plan) (ms more : List Match) → text q (ms ++ more) ≡ text q ms ++ text q more
text_parts q ms more = flat_map-append (line q) ms more

module _ (q : Plan) where
  -- later windows add matches behind
  later : (events : List Event) (c k : ℕ) → (more : List Match) × ((seq q events (c + k)).matches ≡ (seq q events c).matches ++ more)
  later events c zero = let same : c + 0 ≡ c = omega arith in ([], ap (λ (n : ℕ). (seq q events n).matches) same ∙ sym (append-nil (seq q events c).matches))
  later events c (suc k) =
      let same : c + suc k ≡ suc (c + k) = omega arith in
      let rest = later events c k in
      let prev = seq q events (c + k) in
      let runs = matched_runs (state q (visible events prev.consumed (slice_get (windows q events false) (c + k)))) in
      let new : List Match = map (match_of q (suc (c + k))) (enumerate_from (length prev.matches + 1) runs) in
      (rest.0 ++ new, ap (λ (n : ℕ). (seq q events n).matches) same ∙ ap (λ (l : List Match). l ++ new) rest.1 ∙ append_assoc (seq q events c).matches rest.0 new)

  begins_whole : (events : List Event) (n : ℕ) (ended : Bool) → n ≤ closed q events ended → (more : List Match) × ((whole q events ended).matches ≡ (seq q events n).matches ++ more)
  begins_whole events n ended low =
      let c = closed q events ended in
      let rest = later events n (c - n) in
      let cut : c ≡ n + (c - n) = omega arith in
      (rest.0, ap (λ (m : ℕ). (seq q events m).matches) cut ∙ rest.1)

  module _ (l : Lateness) (grows : Grows) (limits : IsWindowed q) (old new : Outside) (taken : List ℕ) (events more : List Event) (stop : Option Stop)
      (gave : Gave old.input.left taken new.input.left) (in_time : StopsInTime (came_within q l) taken)
      (are : (came_within q l taken new.input.ended).events ≡ events ++ more)
      (stopped : (s : Stop) → stop ≡ Some s → (events ≡ (came_within q l taken new.input.ended).events) × (s ≡ (came_within q l taken new.input.ended).stop))
      (fault : stop ≡ Some Open → Rose old.input.faults new.input.faults) (told : old.input.faults < new.input.faults → stop ≡ Some Open)
      (good : Good q (came_within q l taken new.input.ended).events) where
    abbrev whole_text : List ℕ
    whole_text = (run_outcome q l taken new.input.ended).text

    text_is : (s : Stop) → stop ≡ Some s → windows_text q events s ≡ whole_text
    text_is s is = λ i. windows_text q ((stopped s is).0 i) ((stopped s is).1 i)

    -- the windows that are finished over the events that were given come first in what all that was read comes to
    begins : (n : ℕ) (ended : Bool) → n ≤ closed q events ended → (ended ≡ true → stop ≡ Some End) → (rest : List ℕ) × (whole_text ≡ text q (seq q events n).matches ++ rest)
    begins n true low at_end =
        let rest = begins_whole events n true low in
        (text q rest.0, sym (text_is End (at_end refl)) ∙ ap (text q) rest.1 ∙ text_parts q (seq q events n).matches rest.0)
    begins n false low at_end =
        let s = (came_within q l taken new.input.ended).stop in
        let all : Good q (events ++ more) = subst (Good q) are good in
        let rest = begins_whole events n false low in
        let later = grows q events more (is_end s) limits all.0 all.1 in
        let matches = ap (λ (l : List Event). (whole q l (is_end s)).matches) are ∙ later.1 ∙ ap (λ (l : List Match). l ++ later.0) rest.1 ∙ append_assoc (seq q events n).matches rest.0 later.0 in
        (text q (rest.0 ++ later.0), ap (text q) matches ∙ text_parts q (seq q events n).matches (rest.0 ++ later.0))

    -- all windows that the events closed are finished, and their text was written
    pub done : (s : Stop) (t : Status) → stop ≡ Some s → t ≡ (came_within q l taken new.input.ended).status → Grew old.out.held (windows_text q events s) new.out.held → new.out.faults ≡ old.out.faults
        → Ran (IsPlanRun q l) old new (ending t)
    done s t is status grew no_fault =
        let stop_is = (stopped s is).1 in
        let tells = within_told q l taken new.input.ended in
        record {
          taken = taken;
          outcome = run_outcome q l taken new.input.ended;
          gave = gave;
          is = refl;
          no_further = no_further_reading (came_within q l) (windows_text q) taken in_time;
          exact = λ _ _. (ap ending status, subst (λ (xs : List ℕ). Grew old.out.held xs new.out.held) (text_is s is) grew);
          cut_off = λ which. absurd (tells.not_cut (⊎_elim (λ e. inl (sym status ∙ e)) (λ e. inr (sym status ∙ e)) which));
          read_whole = λ e. (tells.only_end (ap number_of (sym status) ∙ e)).1;
          read_fault = λ e. fault (is ∙ ap Some (stop_is ∙ tells.only_open (sym status ∙ e)));
          write_fault = λ e. absurd (tells.not_cut (inr (sym status ∙ e)));
          read_told = λ rose. inl (status ∙ tells.is_read (sym stop_is ∙ some_is s Open (sym is ∙ told rose)));
          write_told = λ rose. absurd (omega (arith, rose, no_fault));
        }
      where
        some_is : (x y : Stop) → Some x ≡ Some y → x ≡ y
        some_is x y same = cc

    module _ (n : ℕ) (ended : Bool) (low : n ≤ closed q events ended) (at_end : ended ≡ true → stop ≡ Some End) where
      within_whole : GrewWithin old.out.held (text q (seq q events n).matches) new.out.held → GrewWithin old.out.held whole_text new.out.held
      within_whole within =
          let rest = begins n ended low at_end in
          subst (λ (xs : List ℕ). GrewWithin old.out.held xs new.out.held) (sym rest.1) (within_longer old.out.held new.out.held (text q (seq q events n).matches) rest.0 within)

      -- the output failed
      pub refused : GrewWithin old.out.held (text q (seq q events n).matches) new.out.held → Rose old.out.faults new.out.faults → text q (seq q events n).matches ≢ [] → Ran (IsPlanRun q l) old new (ending Write)
      refused within rose some =
          let rest = begins n ended low at_end in
          record {
            taken = taken;
            outcome = run_outcome q l taken new.input.ended;
            gave = gave;
            is = refl;
            no_further = no_further_reading (came_within q l) (windows_text q) taken in_time;
            exact = λ _ other. absurd (other refl);
            cut_off = λ _. (refl, within_whole within);
            read_whole = λ e. cc;
            read_fault = λ e. cc;
            write_fault = λ _. (rose, λ none. not_nil (text q (seq q events n).matches) rest.0 some (sym rest.1 ∙ none));
            read_told = λ _. inr (inl refl);
            write_told = λ _. inl refl;
          }
        where
          not_nil : (xs ys : List ℕ) → xs ≢ [] → xs ++ ys ≢ []
          not_nil [] ys some none = some refl
          not_nil (x ∷ xs) ys some none = cc

      -- memory ran out
      pub short : GrewWithin old.out.held (text q (seq q events n).matches) new.out.held → Ran (IsPlanRun q l) old new (ending Memory)
      short within = record {
        taken = taken;
        outcome = run_outcome q l taken new.input.ended;
        gave = gave;
        is = refl;
        no_further = no_further_reading (came_within q l) (windows_text q) taken in_time;
        exact = λ other _. absurd (other refl);
        cut_off = λ _. (refl, within_whole within);
        read_whole = λ e. cc;
        read_fault = λ e. cc;
        write_fault = λ e. cc;
        read_told = λ _. inr (inr refl);
        write_told = λ _. inr refl;
      }

-- an outlet that failed at a match wrote a front of the lines, and there is one
module _ (q : Plan) (matches : List Match) (old new : OutletState) (f : FailedWithin q matches old new) where
  lines_are : text q matches ≡ text q f.first ++ (line q f.found ++ text q f.others)
  lines_are = ap (text q) f.are ∙ text_parts q f.first (f.found ∷ f.others)

  pub failed_within : GrewWithin old.held (text q matches) new.held
  failed_within =
      subst (λ (l : List ℕ). GrewWithin old.held l new.held) (sym lines_are)
      (within_more old.held f.failed.between.held new.held (text q f.first) (line q f.found) (text q f.others) f.failed.took.lines f.failed.front)

  pub failed_some : text q matches ≢ []
  failed_some none = ends (line q f.found) (text q f.first) (text q f.others) (λ is. cc) (sym lines_are ∙ none)
    where
      ends : (own xs more : List ℕ) → own ≢ [] → xs ++ (own ++ more) ≡ [] → ⊥
      ends [] [] more some is_nil = some refl
      ends (b ∷ own) [] more some is_nil = cc
      ends own (x ∷ xs) more some is_nil = cc

-- behind the lines of matches stands a beginning of the next one's
within_next : (q : Plan) (lines : List ℕ) (others : List Match) (a b c : Told) → Grew a lines b → GrewWithin b (first_line q others) c → GrewWithin a (lines ++ text q others) c
within_next q lines [] a b c grew within = within_more a b c lines [] [] grew within
within_next q lines (found ∷ others) a b c grew within = within_more a b c lines (line q found) (text q others) grew within

-- an outlet that took the first matches wrote a front of the lines
pub first_within : (q : Plan) (matches : List Match) (old new : OutletState) → TookFirst q matches old new → GrewWithin old.held (text q matches) new.held
first_within q matches old new f =
    subst (λ (l : List ℕ). GrewWithin old.held l new.held) (sym (ap (text q) f.are ∙ text_parts q f.first f.others))
    (within_next q (text q f.first) f.others old.held f.between.held new.held f.took.lines f.front)

-- ---- an input that was driven through a core

-- a sink as an outlet, which took so many matches
abbrev pub outlet : SinkState → ℕ → OutletState
outlet s taken = record { held = s.held; taken = taken; faults = s.faults }

-- an input that was read to its end stopped there
pub whole_end : (o : Option Stop) → is_whole o ≡ true → o ≡ Some End
whole_end None is = absurd (cc is)
whole_end (Some End) is = refl
whole_end (Some (Failed failure)) is = absurd (cc is)
whole_end (Some Open) is = absurd (cc is)

-- a fact of an optional value, where it is there
pub if_some : {X : Type 0} (P : X → Type 0) (o : Option X) (x : X) → IfSome o P → o ≡ Some x → P x
if_some P None x holds is = absurd (cc is)
if_some P (Some y) x holds is = let same : y ≡ x = cc is in subst P same holds

module _ (q : Plan) (l : Lateness) (grows : Grows) (compiled : IsCompiled q) (origin : SourceState) (last : Standing) (events : List Event)
    (so_far : CameSoFar q l origin last.source events (stop_in last.state) (late_in last)) (before after : SinkState) where
  abbrev stop_now : Option Stop
  stop_now = stop_in last.state

  abbrev came_now : Came
  came_now = came_within q l so_far.taken last.source.ended

  good_whole : Good q came_now.events
  good_whole = (slacked_good q l compiled.time so_far.taken last.source.ended (is_end came_now.stop)).good

  stopped_at : (s : Stop) → stop_now ≡ Some s → (events ≡ came_now.events) × (s ≡ came_now.stop)
  stopped_at s is = (if_some (λ _. events ≡ came_now.events) stop_now s so_far.all is, if_some (λ stop. stop ≡ came_now.stop) stop_now s so_far.stop is)

  module _ (n : ℕ) (ended : Bool) (low : n ≤ closed q events ended) (at_end : ended ≡ true → is_whole stop_now ≡ true) where
    -- the output failed, or memory ran out, with the first lines written
    pub ran_refused : GrewWithin before.held (text q (seq q events n).matches) after.held → Rose before.faults after.faults → text q (seq q events n).matches ≢ []
        → Ran (IsPlanRun q l) (outside origin before) (outside last.source after) (ending Write)
    ran_refused = refused q l grows compiled.windowed (outside origin before) (outside last.source after) so_far.taken events so_far.front.0 stop_now
        so_far.gave so_far.in_time so_far.front.1 stopped_at so_far.fault so_far.told good_whole n ended low (λ e. whole_end stop_now (at_end e))

    pub ran_short : GrewWithin before.held (text q (seq q events n).matches) after.held → Ran (IsPlanRun q l) (outside origin before) (outside last.source after) (ending Memory)
    ran_short = short q l grows compiled.windowed (outside origin before) (outside last.source after) so_far.taken events so_far.front.0 stop_now
        so_far.gave so_far.in_time so_far.front.1 stopped_at so_far.fault so_far.told good_whole n ended low (λ e. whole_end stop_now (at_end e))

  -- all windows that the events closed are finished
  pub ran_done : (s : Stop) (n : ℕ) (ended : Bool) → stop_now ≡ Some s → is_end s ≡ ended → n ≡ closed q events ended
      → Grew before.held (text q (seq q events n).matches) after.held → after.faults ≡ before.faults
      → Ran (IsPlanRun q l) (outside origin before) (outside last.source after) (ending (late_status l.rule (late_in last) s))
  ran_done s n ended is end all grew no_fault =
      let whole_is : text q (seq q events n).matches ≡ windows_text q events s = ap (λ (k : ℕ). text q (seq q events k).matches) (all ∙ ap (closed q events) (sym end)) in
      done q l grows compiled.windowed (outside origin before) (outside last.source after) so_far.taken events so_far.front.0 stop_now
      so_far.gave so_far.in_time so_far.front.1 stopped_at so_far.fault so_far.told good_whole s (late_status l.rule (late_in last) s) is
      (if_some (λ stop. late_status l.rule (late_in last) stop ≡ came_now.status) stop_now s so_far.status is)
      (subst (λ (l : List ℕ). Grew before.held l after.held) whole_is grew) no_fault

-- What a run of a core ended with is what is promised of the run, by why it ended.
module _ (c : Running) (l : Lateness) (grows : Grows) (compiled : IsCompiled c.plan) (origin : SourceState) (first last : Standing) (comes : ComesFrom c.plan l origin first) where
  module _ (stops_before stops_behind : ℕ) (before after : SinkState) (t u : ℕ) (end : Went) (drove : Drove (λ events. Gives first events last) (is_whole (stop_in last.state)) stops_before stops_behind (stop_in last.state) c (outlet before t) (outlet after u) end)
      (kept : IsSequential end.core.plan end.core.machine) where
    abbrev m : Machine
    m = end.core.machine

    sequential : IsSequential c.plan m
    sequential = subst (λ (q : Plan). IsSequential q m) drove.plan kept

    so_far : CameSoFar c.plan l origin last.source m.events (stop_in last.state) (late_in last)
    so_far = comes m.events last drove.given

    emitted_are : text c.plan m.emitted ≡ text c.plan (seq c.plan m.events m.finished).matches
    emitted_are = ap (text c.plan) sequential.emitted

    ended_by : (w : Why) → end.why ≡ w → Ran (IsPlanRun c.plan l) (outside origin before) (outside last.source after) (ending (status_of_end l.rule (late_in last) w))
    ended_by why.Whole is =
        let ended = drove.whole_input is in
        let all = drove.finished (inl is) in
        let at_end = whole_end (stop_in last.state) (drove.ends ended) in
        ran_done c.plan l grows compiled origin last m.events so_far before after End m.finished m.ended at_end (sym ended) all.0
        (subst (λ (l : List ℕ). Grew before.held l after.held) emitted_are all.1.lines) (drove.no_fault (λ other. absurd (cc (is, other))))
    ended_by (why.Stopped s) is =
        let stop = drove.stop s is in
        let all = drove.finished (inr (s, is)) in
        let at = stop.0.1 in
        ran_done c.plan l grows compiled origin last m.events so_far before after s m.finished m.ended at.0 (at.1 ∙ sym stop.1) all.0
        (subst (λ (l : List ℕ). Grew before.held l after.held) emitted_are all.1.lines) (drove.no_fault (λ other. absurd (cc (is, other))))
    ended_by why.Refused is =
        let failed = drove.refused is in
        ran_refused c.plan l grows compiled origin last m.events so_far before after m.finished m.ended sequential.finished drove.ends
        (subst (λ (l : List ℕ). GrewWithin before.held l after.held) emitted_are (failed_within c.plan m.emitted (outlet before t) (outlet after u) failed.1)) failed.0
        (subst (λ (l : List ℕ). l ≢ []) emitted_are (failed_some c.plan m.emitted (outlet before t) (outlet after u) failed.1))
    ended_by why.Memory is =
        ran_short c.plan l grows compiled origin last m.events so_far before after m.finished m.ended sequential.finished drove.ends
        (subst (λ (l : List ℕ). GrewWithin before.held l after.held) emitted_are (first_within c.plan m.emitted (outlet before t) (outlet after u) (drove.short is)))

    pub ended_ran : Ran (IsPlanRun c.plan l) (outside origin before) (outside last.source after) (ending (status_of_end l.rule (late_in last) end.why))
    ended_ran = ended_by end.why refl

  -- memory ran out, and the core is gone
  pub fell_short : (before after : SinkState) (t u : ℕ) → FellShort (λ events. Gives first events last) (is_whole (stop_in last.state)) c.plan (outlet before t) (outlet after u)
      → Ran (IsPlanRun c.plan l) (outside origin before) (outside last.source after) (ending Memory)
  fell_short before after t u short =
      ran_short c.plan l grows compiled origin last short.events (comes short.events last short.given) before after (closed c.plan short.events short.input_ended) short.input_ended (omega arith) short.ends
      (first_within c.plan (whole c.plan short.events short.input_ended).matches (outlet before t) (outlet after u) short.took)

-- a run of a plan is one of the same plan, over the same states
pub as_run : (l : Lateness) (q p : Plan) → p ≡ q → (old : Outside) (s t : SourceState) (k m : SinkState) (end : Ending) → s ≡ t → k ≡ m → Ran (IsPlanRun p l) old (outside s k) end → Ran (IsPlanRun q l) old (outside t m) end
as_run l q p same old s t k m end source sink ran = rw (sym source, sym sink, sym same) ran
