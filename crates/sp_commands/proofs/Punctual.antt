-- Without slack, events of which none is late are given as they came: so a run comes to what it did where times may not go back.
use Rattle.std.proofs.Common.{◌≡◌, ℕ, ℤ, pos, Bool, true, false, List, [], ◌∷◌, ◌++◌, Option, Some, None, refl, sym, ◌∙◌, ap, subst, arith, append_assoc}
use Rattle.std.specs.List.{All, filter}
use Rattle.std.proofs.lemmas.Int.{ints}
use Rattle.std.proofs.lemmas.List.{append-nil}
use Rattle.std.proofs.lemmas.List.Elements.{All-head, All-tail, All-nil, All-push, All-weaker}
use Rattle.sp_plan.specs.Compiled.{IsCompiled}
use Rattle.sp_plan.specs.declared.event.Event.{Event}
use Rattle.sp_plan.specs.declared.plan.Plan.{Plan}
use Rattle.sp_slack.specs.HeldBack.{put, sorted, slacked, greatest, with_time, before, least, is_before, is_up_to, AreTimely}
use Rattle.sp_slack.proofs.Growing.{passes, greater, up_to_more, greatest_more}
use Rattle.sp_slack.proofs.Sorting.{sorted_more}
use Rattle.sp_ports.specs.Stopping.{is_end}
use Rattle.sp_intake.specs.Loose.{loose}
use Rattle.sp_intake.specs.LooseLaws.{punctual, LooseIsReading}
use Rattle.sp_intake.specs.Reading.{stop_of}
use Rattle.sp_intake.proofs.LooseGood.{kept_timely}
use Rattle.sp_answer.specs.Outcome.{outcome}
use Rattle.sp_commands.specs.Ends.{Came, came, came_within, status_of}
use Rattle.sp_commands.specs.Run.{text_by, PunctualRuns}

-- an event behind all up to a time, where it is not before that time
put_behind : (s : Option ℤ) (xs : List Event) (e : Event) → All (λ x. is_up_to s x ≡ true) xs → is_before s e ≡ false → put xs e ≡ xs ++ e ∷ []
put_behind s [] e up late = refl
put_behind s (x ∷ xs) e up late =
    rw (passes s x e late (All-head (λ y. is_up_to s y ≡ true) x xs up)) (ap (λ (l : List Event). x ∷ l) (put_behind s xs e (All-tail (λ y. is_up_to s y ≡ true) x xs up) late))

keeps_all : (is : Event → Bool) (xs : List Event) → All (λ x. is x ≡ true) xs → filter is xs ≡ xs
keeps_all is [] all = refl
keeps_all is (x ∷ xs) all = rw (All-head (λ y. is y ≡ true) x xs all) (ap (λ (l : List Event). x ∷ l) (keeps_all is xs (All-tail (λ y. is y ≡ true) x xs all)))

-- events stand as they are sorted, none of them past the greatest time
record InTime (events : List Event) : Type 0 where
  same : sorted events ≡ events
  up : All (λ x. is_up_to (least (pos 0) events) x ≡ true) events

own_time : (t : Option ℤ) (e : Event) → is_up_to (before (pos 0) (with_time t e)) e ≡ true
own_time None e = grind (arith, ints)
own_time (Some t) e = grind (arith, ints)

one_more : (events : List Event) (e : Event) → InTime events → is_before (least (pos 0) events) e ≡ false → InTime (events ++ e ∷ [])
one_more events e so late = record {
  same = sorted_more events e ∙ ap (λ (l : List Event). put l e) so.same ∙ put_behind (least (pos 0) events) events e so.up late;
  up = subst (λ (t : Option ℤ). All (λ x. is_up_to (before (pos 0) t) x ≡ true) (events ++ e ∷ [])) (sym (greatest_more events e)) up;
}
  where
    latest : Option ℤ
    latest = with_time (greatest events) e

    up : All (λ x. is_up_to (before (pos 0) latest) x ≡ true) (events ++ e ∷ [])
    up =
        All-push (λ x. is_up_to (before (pos 0) latest) x ≡ true) events e
        (All-weaker (λ x. is_up_to (least (pos 0) events) x ≡ true) (λ x. is_up_to (before (pos 0) latest) x ≡ true)
        (λ x is. up_to_more (least (pos 0) events) (before (pos 0) latest) x (greater (pos 0) (greatest events) e) is) events so.up)
        (own_time (greatest events) e)

all_more : (events more : List Event) → InTime events → AreTimely (pos 0) events more → InTime (events ++ more)
all_more events [] so timely = subst InTime (sym (append-nil events)) so
all_more events (e ∷ more) so timely = subst InTime (append_assoc events (e ∷ []) more) (all_more (events ++ e ∷ []) more (one_more events e so timely.0) timely.1)

none_yet : InTime []
none_yet = record { same = refl; up = All-nil (λ x. is_up_to (least (pos 0) []) x ≡ true) }

pub given_as_came : (events : List Event) (ended : Bool) → AreTimely (pos 0) [] events → slacked (pos 0) events ended ≡ events
given_as_came events true timely = (all_more [] events none_yet timely).same
given_as_came events false timely =
    let so = all_more [] events none_yet timely in
    ap (filter (is_up_to (least (pos 0) events))) so.same ∙ keeps_all (is_up_to (least (pos 0) events)) events so.up

-- what comes of bytes is what came of them where times may not go back
pub came_in_time : LooseIsReading → (q : Plan) → IsCompiled q → (bytes : List ℕ) (ended : Bool) → came_within q punctual bytes ended ≡ came q bytes ended
came_in_time law q compiled bytes ended =
    let r = loose q punctual bytes ended in
    let is = law q bytes ended compiled in
    let given = given_as_came r.reading.events (is_end (stop_of r.reading ended)) (kept_timely q punctual compiled.time bytes ended) ∙ is.events in
    λ i. record { events = given i; stop = is.stop i; status = status_of (is.stop i) }

pub punctual_runs : LooseIsReading → PunctualRuns
punctual_runs law proof q bytes ended compiled = ap (λ (c : Came). outcome c.status (text_by proof q c.events c.stop)) (came_in_time law q compiled bytes ended)
