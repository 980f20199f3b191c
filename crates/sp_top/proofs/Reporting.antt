-- What a run that was done ended with, as what is reported of it.
use Rattle.std.proofs.Common.{◌≡◌, ◌≢◌, ◌<◌, inl, ◌⊎◌, ⊎_elim, ℕ, zero, suc, Bool, true, List, [], ◌∷◌, length, map, filter, Option, Some, None, refl, ap, sym, subst, ◌∙◌, arith}
use Rattle.std.specs.Prelude.{ℤ, pos, ◌+ℤ◌, ◌*ℤ◌, unsigned_abs, find, IfSome, if◌then◌else◌}
use Rattle.std.specs.List.{filter_map, cons_option, last_or, range_with_len}
use Rattle.std.specs.Option.{option_map}
use Rattle.sp_io.specs.Outside.{SourceState, Told, ToldFiles}
use Rattle.sp_plan.specs.declared.event.Event.{Event}
use Rattle.sp_plan.specs.declared.plan.Plan.{Plan}
use Rattle.sp_plan.specs.declared.plan.Length.{Length}
use Rattle.sp_plan.specs.declared.plan.Opening.{Opening}
use Rattle.sp_plan.specs.declared.plan.Opening.TheVariants.{EveryEvents, EveryTime, When}
use Rattle.sp_plan.specs.Windows.{Numbered, Window, closed, windows, windows_by, window_from, within, window_within, number_or, duration, spans}
use Rattle.sp_group.specs.Steps.{replay}
use Rattle.sp_slack.specs.declared.late.LateRule.{LateRule}
use Rattle.sp_slack.specs.declared.late.LateRule.TheVariants.{Refuse, Drop}
use Rattle.sp_intake.specs.Loose.{Lateness}
use Rattle.sp_intake.specs.Standing.{Standing, stop_in, is_whole, Gives}
use Rattle.sp_ports.specs.Stopping.{is_end}
use Rattle.sp_ports.specs.declared.stop.Stop.{Stop}
use Rattle.sp_ports.specs.declared.stop.Stop.TheVariants.{End, Failed, Open}
use Rattle.sp_ports.specs.declared.stop.Failure.TheVariants.{Row, Limit}
use Rattle.sp_load.specs.Places.{Place}
use Rattle.sp_load.specs.Queries.{IsPlanAt}
use Rattle.sp_load.specs.declared.refusal.Refusal.{Refusal}
use Rattle.sp_load.specs.declared.refusal.Refusal.TheVariants as r
use Rattle.sp_answer.specs.Outcome.{number_of}
use Rattle.sp_answer.specs.declared.status.Status.{Status}
use Rattle.sp_answer.specs.declared.status.Status.TheVariants.{Memory}
use Rattle.sp_ports.specs.Taking.{OutletState}
use Rattle.sp_core.specs.Running.{Running}
use Rattle.sp_split.specs.declared.ended.Ended.{Ended}
use Rattle.sp_split.specs.declared.ended.Why.{Why}
use Rattle.sp_split.specs.declared.ended.Why.TheVariants as why
use Rattle.sp_split.specs.Driving.{Drove, CameAbout, most_asked}
use Rattle.sp_spread.specs.Limiting.{AsksAtMost}
use Rattle.sp_cli.specs.Commands.{Command, Speed, QuerySource, run, plain, trace, drill, check, graph}
use Rattle.sp_commands.specs.Commands.{place_of, lateness, IsCall, IsCommand, IsReported}
use Rattle.sp_commands.specs.Ends.{came_within, late_status, status_of_refusal}
use Rattle.sp_top.specs.Coming.{late_in, ComesFrom}
use Rattle.sp_top.specs.Predictors.{AsksNoPredictor}
use Rattle.sp_top.specs.RunEnds.{status_of_end}
use Rattle.sp_top.specs.Report.{Reports, of_run, of_drill, Reported, ReportsPlan, ReportsPlace, ReportsDrill, WhereDone, Reporting}
use Rattle.sp_top.proofs.Driven.{whole_end, if_some}
use Rattle.sp_commands.proofs.Came.{within_told}
use Rattle.sp_commands.proofs.OneCommand.{one_command}

-- ---- once the input has ended each window is closed

abbrev shut : List Window → List Window
shut ws = filter (λ w. w.closed) ws

-- a closed window comes first
one_shut : (w : Window) (ws : List Window) → w.closed ≡ true → shut (w ∷ ws) ≡ w ∷ shut ws
one_shut w ws closes = ap (λ (b : Bool). if b then w ∷ shut ws else shut ws) closes

all_shut : (f : Numbered → Window) → ((x : Numbered) → (f x).closed ≡ true) → (xs : List Numbered) → shut (map f xs) ≡ map f xs
all_shut f own [] = refl
all_shut f own (x ∷ xs) = one_shut (f x) (map f xs) (own x) ∙ ap (λ (ws : List Window). f x ∷ ws) (all_shut f own xs)

given_shut : (o : Option Window) (ws : List Window) → IfSome o (λ w. w.closed ≡ true) → shut ws ≡ ws → shut (cons_option o ws) ≡ cons_option o ws
given_shut None ws closes rest = rest
given_shut (Some w) ws closes rest = one_shut w ws closes ∙ ap (λ (l : List Window). w ∷ l) rest

some_shut : (f : ℕ → Option Window) → ((k : ℕ) → IfSome (f k) (λ w. w.closed ≡ true)) → (ks : List ℕ) → shut (filter_map f ks) ≡ filter_map f ks
some_shut f own [] = refl
some_shut f own (k ∷ ks) = given_shut (f k) (filter_map f ks) (own k) (some_shut f own ks)

if_mapped : (f : Numbered → Window) → ((x : Numbered) → (f x).closed ≡ true) → (o : Option Numbered) → IfSome (option_map f o) (λ w. w.closed ≡ true)
if_mapped f own None = tt
if_mapped f own (Some x) = own x

within_shut : (from until : ℤ) (events : List Event) → IfSome (window_within from until events true) (λ w. w.closed ≡ true)
within_shut from until events =
    let own = within from until events in
    if_mapped (λ x. record { first = x.0; last = number_or x.0 (last_or None own); closed = true }) (λ x. refl) (find (λ _. true) own)

all_windows_shut : (o : Opening) (l : Length) (events : List Event) → shut (windows_by o l events true) ≡ windows_by o l events true
all_windows_shut (EveryEvents s) l events = all_shut (window_from l events true) (λ x. refl) _
all_windows_shut (When p) l events = all_shut (window_from l events true) (λ x. refl) _
all_windows_shut (EveryTime s) l events =
    some_shut (λ k. window_within (pos k *ℤ s) (pos k *ℤ s +ℤ duration l) events true) (λ k. within_shut (pos k *ℤ s) (pos k *ℤ s +ℤ duration l) events) (range_with_len 0 (spans (unsigned_abs s) events))

pub all_closed : (q : Plan) (events : List Event) → closed q events true ≡ length (windows q events true)
all_closed q events = ap length (all_windows_shut q.opening q.length events)

-- ---- a run of a plan

-- a reading that ends with success stops at the end of its input
only_end : (rule : LateRule) (late : ℕ) (stop : Stop) → number_of (late_status rule late stop) ≡ 0 → is_end stop ≡ true
only_end rule late End is = refl
only_end Refuse late (Failed (Row code row column)) is = absurd (omega (arith, is))
only_end Drop late (Failed (Row code row column)) is = absurd (omega (arith, is))
only_end Refuse late (Failed (Limit limit)) is = absurd (omega (arith, is))
only_end Drop late (Failed (Limit limit)) is = absurd (omega (arith, is))
only_end Refuse late Open is = absurd (omega (arith, is))
only_end Drop late Open is = absurd (omega (arith, is))

module _ {V : Type 0} {T : V → Type 0} (c : Running) (l : Lateness) (origin : SourceState) (first last : Standing) (comes : ComesFrom c.plan l origin first) (stops_before stops_behind : ℕ)
    (before after : OutletState) (speed : Speed) (end : Ended V T)
    (drove : Drove (λ events. Gives first events last) (is_whole (stop_in last.state)) stops_before stops_behind (stop_in last.state) c before after (record { core = end.core; why = end.why }))
    (bound : c.bound ≡ speed.live) (replays : replay end.core.plan end.core.bound end.core.journal ≡ end.core.machine) (about : CameAbout speed.instances end.core end.history)
    (asked : AsksAtMost (most_asked end.core.plan speed.instances speed.batch) end.core.journal) where
  reported_by : (w : Why) → end.why ≡ w → number_of (status_of_end l.rule (late_in last) w) ≡ 0 → ReportsPlan c.plan l speed origin.left last.source.left end
  reported_by why.Whole is done =
      let m = end.core.machine in
      let over = drove.whole_input is in
      let at_end = whole_end (stop_in last.state) (drove.ends over) in
      let so_far = comes m.events last drove.given in
      let now = came_within c.plan l so_far.taken last.source.ended in
      let events : m.events ≡ now.events = if_some (λ _. m.events ≡ now.events) (stop_in last.state) End so_far.all at_end in
      let status : late_status l.rule (late_in last) End ≡ now.status = if_some (λ s. late_status l.rule (late_in last) s ≡ now.status) (stop_in last.state) End so_far.status at_end in
      let ended = ((within_told c.plan l so_far.taken last.source.ended).only_end (ap number_of (sym status) ∙ done)).1 in
      let finished = (drove.finished (inl is)).0 in (
        drove.plan,
        so_far.taken,
        so_far.gave,
        record {
          whole = is;
          bound = drove.bound ∙ bound;
          events = events ∙ (λ i. (came_within (sym drove.plan i) l so_far.taken (ended i)).events);
          ended = over;
          finished = finished ∙ (λ i. closed (sym drove.plan i) m.events (over i)) ∙ all_closed end.core.plan m.events;
          feeds = drove.fed_are;
          replays = replays;
          about = about;
          asked = asked;
        },
      )
  reported_by (why.Stopped s) is done =
      let ends = only_end l.rule (late_in last) s done in
      absurd (cc (ends, (drove.stop s is).0.1.1))
  reported_by why.Refused is done = absurd (omega (arith, done))
  reported_by why.Memory is done = absurd (omega (arith, done))

  -- what a run that was done ended with is what is reported of it
  pub reports_plan : number_of (status_of_end l.rule (late_in last) end.why) ≡ 0 → ReportsPlan c.plan l speed origin.left last.source.left end
  reports_plan = reported_by end.why refl

-- a run of a plan is one of the same plan, over the same bytes
pub as_report : {V : Type 0} {T : V → Type 0} → (l : Lateness) (q p : Plan) → p ≡ q → (speed : Speed) (old new left : Told) → new ≡ left → (status : Status) (ended : Option (Ended V T))
    → WhereDone (ReportsPlan p l speed old new) status ended → WhereDone (ReportsPlan q l speed old left) status ended
as_report l q p same speed old new left source status ended report = rw (sym source, sym same) report

-- ---- a run of the query that stands there

pub of_place : {V : Type 0} {T : V → Type 0} → (held : ToldFiles) (place : Place) (l : Lateness) (speed : Speed) (old new : Told) (q : Plan) → IsPlanAt held place q → (status : Status) (ended : Option (Ended V T))
    → WhereDone (ReportsPlan q l speed old new) status ended → WhereDone (ReportsPlace held place l speed old new) status ended
of_place held place l speed old new q plan status None report = report
of_place held place l speed old new q plan status (Some e) report = λ done.
    let own = report done in
    (subst (IsPlanAt held place) (sym own.0) plan, own.1, own.2, own.3)

-- a refusal is told by another status
pub refused_undone : (refusal : Refusal) → number_of (status_of_refusal refusal) ≢ 0
refused_undone r.Memory is = omega (arith, is)
refused_undone r.Read is = omega (arith, is)
refused_undone (r.Limited limit) is = omega (arith, is)
refused_undone (r.Query code at) is = omega (arith, is)

-- ---- a call

-- a command that asks no predictor is not reported
unreported : (command : Command) → AsksNoPredictor command → IsReported command → ⊥
unreported (run query speed slack late trees proof) alone reported = alone
unreported (plain query slack late) alone reported = reported
unreported (trace query schedule live) alone reported = reported
unreported (drill events seed speed) alone reported = alone
unreported (check query list) alone reported = reported
unreported (graph query second returns speed) alone reported = reported

module _ {V : Type 0} {T : V → Type 0} (predictors words : List (List ℕ)) (held : ToldFiles) (old new : Told) where
  -- words that are a run by one tree
  pub reports_run : (query : QuerySource) (speed : Speed) (slack : ℤ) (late : LateRule) (proof : Bool) → IsCall predictors words (run query speed slack late 1 proof) → (place : Place) → place ≡ place_of query → (l : Lateness) → l ≡ lateness slack late → (status : Status) (ended : Option (Ended V T))
      → WhereDone (ReportsPlace held place l speed old new) status ended → Reporting predictors words held old new status ended
  reports_run query speed slack late proof call place at l is status None report = λ _ _ _. report
  reports_run query speed slack late proof call place at l is status (Some e) report = λ done.
      let own = report done in
      of_run query speed slack late proof own.1 call (subst (λ (p : Place). IsPlanAt held p e.core.plan) at own.0) own.2 (subst (λ (m : Lateness). Reports speed (came_within e.core.plan m own.1 true).events e) is own.3)

  -- words that are a run by several trees, of which nothing is reported
  pub reports_none : (query : QuerySource) (speed : Speed) (slack : ℤ) (late : LateRule) (trees : ℕ) (proof : Bool) → 1 < trees → IsCommand words (run query speed slack late trees proof) → (status : Status)
      (ended : Option (Ended V T)) → ended ≡ None → Reporting predictors words held old new status ended
  reports_none query speed slack late trees proof more is status (Some e) none = absurd (cc none)
  reports_none query speed slack late trees proof more is status None none = λ command reported call.
      let one : trees ≡ 1 = subst IsReported (one_command words command (run query speed slack late trees proof) call.0 is) reported in
      absurd (omega (arith, more, one))

  -- words that are a command of which nothing is reported
  pub reports_nothing : (command : Command) → (IsReported command → ⊥) → IsCommand words command → (status : Status) (ended : Option (Ended V T)) → ended ≡ None
      → Reporting predictors words held old new status ended
  reports_nothing command never is status (Some e) none = absurd (cc none)
  reports_nothing command never is status None none = λ other reported call. absurd (never (subst IsReported (one_command words other command call.0 is) reported))

  -- as one which asks no predictor
  pub reports_no : (command : Command) → AsksNoPredictor command → IsCommand words command → (status : Status) (ended : Option (Ended V T)) → ended ≡ None
      → Reporting predictors words held old new status ended
  reports_no command alone = reports_nothing command (unreported command alone)

  -- words that are a drill
  pub reports_drill : (events seed : ℕ) (speed : Speed) → IsCall predictors words (drill events seed speed) → (status : Status) (ended : Option (Ended V T))
      → WhereDone (ReportsDrill events seed speed) status ended → Reporting predictors words held old new status ended
  reports_drill events seed speed call status None report = λ _ _ _. report
  reports_drill events seed speed call status (Some e) report = λ done. let own = report done in of_drill events seed speed call own.0 own.1

  -- what is reported once the line of the status was told
  pub told : (status line : Status) (ended report : Option (Ended V T)) (result : ℕ) → (line ≡ status) ⊎ (line ≡ Memory) → Reporting predictors words held old new status ended
      → (number_of line ≡ 0 → report ≡ ended) → (number_of line ≢ 0 → report ≡ None) → result ≡ number_of line → Reported predictors words held old new result report
  told status line ended report result of_line reporting done other is = by (number_of line) refl
    where
      some : number_of line ≡ 0 → (o : Option (Ended V T)) → Reporting predictors words held old new status o → Reported predictors words held old new result o
      some own o given = at o given
        where
          status_is : number_of status ≡ 0
          status_is = ⊎_elim (λ same. ap number_of (sym same) ∙ own) (λ short. let one : number_of line ≡ 1 = ap number_of short in absurd (omega (arith, one, own))) of_line

          at : (o : Option (Ended V T)) → Reporting predictors words held old new status o → Reported predictors words held old new result o
          at None given = λ command reported call _. given command reported call status_is
          at (Some e) given = (is ∙ own, given status_is)

      by : (n : ℕ) → number_of line ≡ n → Reported predictors words held old new result report
      by zero own = subst (Reported predictors words held old new result) (sym (done own)) (some own ended reporting)
      by (suc n) own =
          subst (Reported predictors words held old new result) (sym (other (λ none. omega (arith, own, none)))) (λ _ _ _ none. omega (arith, own, is, none))
