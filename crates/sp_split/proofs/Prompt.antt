-- Where an intake asked, and what the outlet had taken by then.
use Rattle.std.specs.Prelude.{IfSome, OnErr, OnOk, unsigned_abs}
use Rattle.std.specs.declared.result.Result.{Result}
use Rattle.std.specs.List.{filter_map, range_with_len}
use Rattle.std.proofs.Common.{◌≡◌, ◌⊎◌, ⊎_elim, inl, inr, ℕ, Bool, true, false, List, [], ◌∷◌, ◌++◌, length, filter, Option, Some, None, Ok, Err, refl, sym, ◌∙◌, ap, subst}
use Rattle.std.proofs.lemmas.List.{append-nil}
use Rattle.std.proofs.lemmas.List.Elements.{filter_map-append}
use Rattle.std.proofs.lemmas.Option.{none-some, same_Some}
use Rattle.sp_io.specs.Outside.{Grew}
use Rattle.sp_io.proofs.Grew.{grew_none, grew_more}
use Rattle.sp_plan.specs.declared.event.Event.{Event}
use Rattle.sp_plan.specs.declared.found.Match.{Match}
use Rattle.sp_plan.specs.declared.plan.Plan.{Plan}
use Rattle.sp_plan.specs.declared.plan.Length.{Length}
use Rattle.sp_plan.specs.declared.plan.Opening.{Opening}
use Rattle.sp_plan.specs.declared.plan.Opening.TheVariants.{EveryEvents, EveryTime, When}
use Rattle.sp_plan.specs.Lines.{text}
use Rattle.sp_plan.specs.Sequential.{seq, whole}
use Rattle.sp_plan.specs.Windows.{Window, closed, spans, windows_by}
use Rattle.sp_rules.specs.Schedules.{Reached}
use Rattle.sp_ports.specs.Taking.{OutletState, Took, TookFirst}
use Rattle.sp_ports.specs.declared.stop.Stop.{Stop}
use Rattle.sp_ports.specs.declared.outlet.OutFault.{OutFault}
use Rattle.sp_ports.specs.declared.outlet.OutFault.TheVariants as o
use Rattle.sp_core.specs.Running.{Running, begun}
use Rattle.sp_split.specs.Driving.{Drove, FailedWithin}
use Rattle.sp_split.specs.declared.ended.Why.TheVariants as why
use Rattle.sp_split.specs.declared.feeding.Fed.{Fed}
use Rattle.sp_split.specs.declared.feeding.Fed.TheVariants as f
use Rattle.sp_split.specs.Going.{IsGoing}
use Rattle.sp_split.specs.Prompt.{AskedBehind, IsPrompt, TookBefore}
use Rattle.sp_split.specs.Stages.{AdvancedWith, AllFinished, AskedOn}
use Rattle.sp_split.proofs.Going.{drove_short, going_none, was_fed}
use Rattle.sp_split.proofs.Taken.{took_first, took_none}
use Rattle.sp_split.proofs.Turns.{unended_first}

-- ---- before the first event

skip : (f : ℕ → Option Window) → ((k : ℕ) → f k ≡ None) → (l : List ℕ) → filter_map f l ≡ []
skip f none [] = refl
skip f none (k ∷ l) = filter_map-append f (k ∷ []) l ∙ ap (λ (r : List Window). filter_map f (k ∷ []) ++ r) (skip f none l) ∙ one (f k) (none k)
  where
    one : (r : Option Window) → f k ≡ None → filter_map f (k ∷ []) ++ [] ≡ []
    one r is = rw is

no_window : (opening : Opening) (l : Length) → windows_by opening l [] false ≡ []
no_window (EveryEvents s) l = refl
no_window (When p) l = refl
no_window (EveryTime s) l = skip _ (λ k. refl) (range_with_len 0 (spans (unsigned_abs s) []))

-- no window is closed, and there is no match
none_found : (q : Plan) → (whole q [] false).matches ≡ []
none_found q =
    let none : closed q [] false ≡ 0 = ap (λ (l : List Window). length (filter (λ w. w.closed) l)) (no_window q.opening q.length) in
    ap (λ (n : ℕ). (seq q [] n).matches) none

pub behind_none : {A : Type 0} (asks : List Event → List Event → A → Type 0) (now : A) (q : Plan) (s : OutletState) → asks [] [] now → AskedBehind asks now q [] s s
behind_none asks now q s none = record {
  before = [];
  asked = none;
  took = record {
    between = s;
    took = subst (λ (l : List Match). Took q l s s) (sym (none_found q)) (took_none q s);
    more = [];
    grew = grew_none s.held;
  };
}

pub prompt_none : {A : Type 0} (asks : List Event → List Event → A → Type 0) (now : A) (q : Plan) (s : OutletState) → asks [] [] now → IsPrompt asks now q s s
prompt_none asks now q s none = record { events = []; behind = behind_none asks now q s none }

-- ---- what an outlet takes more

abbrev GrewOn : OutletState → OutletState → Type 0
GrewOn s t = (more : List ℕ) × Grew s.held more t.held

pub grew_still : (s : OutletState) → GrewOn s s
grew_still s = ([], grew_none s.held)

took_grew : (q : Plan) (ms : List Match) (s t : OutletState) → Took q ms s t → GrewOn s t
took_grew q ms s t took = (text q ms, took.lines)

first_grew : (q : Plan) (ms : List Match) (s t : OutletState) → TookFirst q ms s t → GrewOn s t
first_grew q ms s t took = (text q took.first ++ took.front.0, grew_more s.held took.between.held t.held (text q took.first) took.front.0 took.took.lines took.front.2)

failed_grew : (q : Plan) (ms : List Match) (s t : OutletState) → FailedWithin q ms s t → GrewOn s t
failed_grew q ms s t f =
    let between = f.failed.between in
    let front = f.failed.front in
    (text q f.first ++ front.0, grew_more s.held between.held t.held (text q f.first) front.0 f.failed.took.lines front.2)

-- however matches were put, an outlet only grew
pub grew_put : {T : Type 0} (put : Result T OutFault) (c d : Running) (p : Plan) (s t : OutletState) → OnOk put (AdvancedWith c d (λ ms. Took p ms s t))
    → (put ≡ Err o.Failed → AdvancedWith c d (λ ms. FailedWithin p ms s t)) → (put ≡ Err o.Memory → AdvancedWith c d (λ ms. TookFirst p ms s t)) → GrewOn s t
grew_put (Ok x) c d p s t done failed short = took_grew p done.0 s t done.2
grew_put (Err o.Failed) c d p s t done failed short = failed_grew p (failed refl).0 s t (failed refl).2
grew_put (Err o.Memory) c d p s t done failed short = first_grew p (short refl).0 s t (short refl).2

-- ---- a round

took_on : (q : Plan) (ms : List Match) (old s t : OutletState) → TookBefore q ms old s → GrewOn s t → TookBefore q ms old t
took_on q ms old s t was grew = record {
  between = was.between;
  took = was.took;
  more = was.more ++ grew.0;
  grew = grew_more was.between.held s.held t.held was.more grew.0 was.grew grew.1;
}

-- where every closed window is finished, what was emitted is all that the events come to
pub took_all : (first c : Running) (old s : OutletState) → Reached c.plan c.bound c.machine → c.plan ≡ first.plan → Took first.plan c.machine.emitted old s → AllFinished c × (c.machine.ended ≡ false)
    → Took first.plan (whole first.plan c.machine.events false).matches old s
took_all first c old s reached same took all =
    let q = first.plan in
    let m = c.machine in
    let emitted : m.emitted ≡ (seq q m.events m.finished).matches = reached.sequential.emitted ∙ ap (λ (p : Plan). (seq p m.events m.finished).matches) same in
    let finished : m.finished ≡ closed q m.events false = all.0 ∙ ap (λ (p : Plan). closed p m.events m.ended) same ∙ ap (closed q m.events) all.1 in
    subst (λ (l : List Match). Took q l old s) (emitted ∙ ap (λ (n : ℕ). (seq q m.events n).matches) finished) took

-- events were given, and the outlet grew
pub behind_on : {A : Type 0} (asks : A → List Event → List Event → A → Type 0) (from now later : A) (q : Plan) (events more : List Event) (may : Type 0) (old s t : OutletState)
    → AskedBehind (asks from) now q events old s → AskedOn asks may events more now later → (may → Took q (whole q events false).matches old s) → GrewOn s t → AskedBehind (asks from) later q more old t
behind_on asks from now later q events more may old s t was on all grew = ⊎_elim
    (λ (x : asks from was.before more later). record { before = was.before; asked = x; took = took_on q (whole q was.before false).matches old s t was.took grew })
    (λ (x : may × asks from events more later). record { before = events; asked = x.1; took = record { between = s; took = all x.0; more = grew.0; grew = grew.1 } })
    (on from was.before was.asked)

pub prompt_on : {A : Type 0} (asks : List Event → List Event → A → Type 0) (now : A) (q : Plan) (events : List Event) (old s : OutletState) → AskedBehind asks now q events old s → IsPrompt asks now q old s
prompt_on asks now q events old s behind = record { events = events; behind = behind }

-- ---- one event behind another

-- only the first event may be asked for
pub asked_step : {A : Type 0} (asks : A → List Event → List Event → A → Type 0) (may : Type 0) (flag : Bool) (first mid last : List Event) (a b c : A)
    → AskedOn asks may first mid a b → (flag ≡ true → may × (mid ≡ first)) → AskedOn asks (flag ≡ true) mid last b c → AskedOn asks may first last a c
asked_step asks may flag first mid last a b c on alone step = λ from before was. ⊎_elim
    (λ (x : asks from before mid b). ⊎_elim
    (λ (y : asks from before last c). inl y)
    (λ (y : (flag ≡ true) × asks from mid last c). let m = alone y.0 in inr (m.0, subst (λ (l : List Event). asks from l last c) m.1 y.1))
    (step from before x))
    (λ (x : may × asks from first mid b). ⊎_elim
    (λ (y : asks from first last c). inr (x.0, y))
    (λ (y : (flag ≡ true) × asks from mid last c). inr (x.0, subst (λ (l : List Event). asks from l last c) (alone y.0).1 y.1))
    (step from first x.1))
    (on from before was)

-- after want of memory what an intake answered is lost
pub lost_one : {A : Type 0} (gave : A → List Event → A → Type 0) (asks : A → List Event → List Event → A → Type 0) (may : Type 0) (events later given : List Event) (old new : A) → later ≡ events
    → ((from : A) (xs : List Event) → gave from xs old → gave from (xs ++ given) new) → AskedOn asks may events (events ++ given) old new
    → (lost : List Event) × ((from : A) → gave from events old → gave from (later ++ lost) new) × AskedOn asks may events (later ++ lost) old new
lost_one gave asks may events later given old new same goes on = (
  given,
  (λ from was. subst (λ (l : List Event). gave from (l ++ given) new) (sym same) (goes from events was)),
  subst (λ (l : List Event). AskedOn asks may events (l ++ given) old new) (sym same) on,
)

-- an answer that was asked for, where it might be
pub asked_for : {A : Type 0} (asks : A → List Event → List Event → A → Type 0) (may : Type 0) (events given : List Event) (old new : A) → may
    → ((from : A) (before xs : List Event) → asks from before xs old → asks from before (xs ++ given) new ⊎ asks from xs (xs ++ given) new) → AskedOn asks may events (events ++ given) old new
asked_for asks may events given old new allowed goes = λ from before was. ⊎_elim
    (λ (x : asks from before (events ++ given) new). inl x)
    (λ (x : asks from events (events ++ given) new). inr (allowed, x))
    (goes from before events was)

-- an answer that was at hand
pub asked_none_for : {A : Type 0} (asks : A → List Event → List Event → A → Type 0) (may : Type 0) (events given : List Event) (old new : A)
    → ((from : A) (before xs : List Event) → asks from before xs old → asks from before (xs ++ given) new) → AskedOn asks may events (events ++ given) old new
asked_none_for asks may events given old new goes = λ from before was. inl (goes from before events was)

pub on_err : {T E : Type 0} (A B : Type 0) (r : Result T E) → (A → B) → OnErr r A → OnErr r B
on_err A B (Ok x) f a = tt
on_err A B (Err e) f a = f a

-- ---- a run

-- behind a turn the core's events are those before it, however the matches were put
events_any : {T : Type 0} (put : Result T OutFault) (c d : Running) (took failed short : List Match → Type 0) → OnOk put (AdvancedWith c d took) → (put ≡ Err o.Failed → AdvancedWith c d failed)
    → (put ≡ Err o.Memory → AdvancedWith c d short) → d.machine.events ≡ c.machine.events
events_any (Ok x) c d took failed short a b e = a.1.events
events_any (Err o.Failed) c d took failed short a b e = (b refl).1.events
events_any (Err o.Memory) c d took failed short a b e = (e refl).1.events

-- a core was fed, and worked, and its matches were put
pub behind_round : {A T : Type 0} (asks : A → List Event → List Event → A → Type 0) (from now later : A) (first c mid d : Running) (old s t : OutletState) (p : Plan) (put : Result T OutFault)
    → AskedBehind (asks from) now first.plan c.machine.events old s → AskedOn asks (AllFinished c × (c.machine.ended ≡ false)) c.machine.events mid.machine.events now later
    → (AllFinished c × (c.machine.ended ≡ false) → Took first.plan (whole first.plan c.machine.events false).matches old s)
    → OnOk put (AdvancedWith mid d (λ ms. Took p ms s t)) → (put ≡ Err o.Failed → AdvancedWith mid d (λ ms. FailedWithin p ms s t)) → (put ≡ Err o.Memory → AdvancedWith mid d (λ ms. TookFirst p ms s t))
    → AskedBehind (asks from) later first.plan d.machine.events old t
behind_round asks from now later first c mid d old s t p put was on all done failed short =
    subst (λ (l : List Event). AskedBehind (asks from) later first.plan l old t) (sym (events_any put mid d _ _ _ done failed short))
    (behind_on asks from now later first.plan c.machine.events mid.machine.events (AllFinished c × (c.machine.ended ≡ false)) old s t was on all (grew_put put mid d p s t done failed short))

-- before the first round
pub going_first : {A : Type 0} (gave : A → List Event → A → Type 0) (asks : A → List Event → List Event → A → Type 0) (ended : A → Bool) (stops : A → ℕ) (cause : A → Option Stop) (a : A) (c : Running) (s : OutletState)
    → c ≡ begun c.plan c.bound → gave a [] a → asks a [] [] a → IsGoing gave asks ended stops cause a a c c s s f.More
going_first gave asks ended stops cause a c s fresh given none = record {
  going = going_none (λ events. gave a events a) c s fresh given;
  fed_so = (unended_first c fresh, (refl, refl));
  behind = subst (λ (d : Running). AskedBehind (asks a) a c.plan d.machine.events s s) (sym fresh) (behind_none (asks a) a c.plan s none);
}

pub if_some : {W : Type 0} (P : W → Type 0) (o : Option W) → ((w : W) → Some w ≡ o → P w) → IfSome o P
if_some P None f = tt
if_some P (Some w) f = f w refl

-- a run that is given up
pub going_stops : {A : Type 0} (gave : A → List Event → A → Type 0) (asks : A → List Event → List Event → A → Type 0) (ended : A → Bool) (stops : A → ℕ) (cause : A → Option Stop) (from now : A) (first c : Running)
    (old new : OutletState) (last : Fed) → IsGoing gave asks ended stops cause from now first c old new last
    → Drove (λ events. gave from events now) (ended now) (stops from) (stops now) (cause now) first old new (record { core = c; why = why.Memory })
going_stops gave asks ended stops cause from now first c old new last is =
    let emitted = c.machine.emitted in
    drove_short (λ events. gave from events now) (ended now) (stops from) (stops now) (cause now) first c old new last (was_fed ended stops cause from now last c.machine.ended is.fed_so) is.going.run
    (took_first first.plan emitted [] emitted old new (sym (append-nil emitted)) is.going.took) is.going.no_fault

pub if_some_at : {W : Type 0} (P : W → Type 0) (o : Option W) (w : W) → o ≡ Some w → IfSome o P → P w
if_some_at P None w same p = absurd (none-some w same)
if_some_at P (Some x) w same p = subst P (same_Some x w same) p
