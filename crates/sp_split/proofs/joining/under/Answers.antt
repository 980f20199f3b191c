use denote.Param.Send.{sendable}
use Rattle.std.proofs.Common.{◌≡◌, ◌∙◌, ◌+◌, ◌-◌, ℕ, true, List, None, drop, length, map, vec_len, sym, ap, subst, arith}
use Rattle.std.specs.List.{All, range_with_len}
use Rattle.std.proofs.lemmas.List.FromFn.{length-map-range_with_len}
use Rattle.sp_plan.specs.declared.event.Event.{Event}
use Rattle.sp_hub.specs.State.{Extent, Sitting}
use Rattle.sp_hub.specs.Calls.{fresh_seat}
use Rattle.sp_hub.proofs.Seats.{all_free}
use Rattle.sp_hub.proofs.Told.{behind_first}
use Rattle.sp_lend.proofs.Crossing.{loan_sent, reading_sent}
use Rattle.std.specs.Prelude.{IfOk}
use Rattle.sp_split.specs.declared.relay.Team.{Team}
use Rattle.sp_split.specs.Relay.{Relayed}
use Rattle.sp_split.specs.Relieving.{crew_of}
use Rattle.sp_split.specs.Seatings.{Seated}
use Rattle.sp_split.specs.Serving.{Ends, WoundUp}
use Rattle.sp_split.proofs.About.{ends_with, fell_at_once, if_ending}
use Rattle.sp_split.proofs.Prompt.{prompt_none}
use Rattle.sp_split.proofs.Relieved.{relayed_end}
use Rattle.sp_split.proofs.joining.under.Goals as goal

pub new-requires-send-J : goal.new-requires-send-J
new-requires-send-J g c κs within = search (loan_sent, sendable) depth 20

pub new-requires-send-P : goal.new-requires-send-P
new-requires-send-P g c κs within = search (reading_sent, sendable) depth 20

pub returns-in-Err-clause-ends : goal.returns-in-Err-clause-ends
returns-in-Err-clause-ends g c =
    let intake = c.args.ways.intake in
    record {
      drove = tt;
      about = tt;
      asked = tt;
      short = fell_at_once (λ (events : List Event). g.I.Intake.gave intake events intake) (g.I.Intake.ended intake) c.args.crewed.splitter.core.plan (g.O.Outlet.state c.args.ways.outlet) (g.I.Intake.gave_none intake);
    }

pub part-seat-requires-clause-some : goal.part-seat-requires-clause-some
part-seat-requires-clause-some g c =
    let are = ap length c.in-Ok.ensures.seats in
    let count = length-map-range_with_len fresh_seat 0 c.args.opened.seats in
    let places = c.requires.places.0 in
    let held = c.in-Ok.made.2.ok in
    omega arith

pub part-seat-requires-clause-free : goal.part-seat-requires-clause-free
part-seat-requires-clause-free g c = subst (All (λ (s : Sitting). s.holding ≡ None)) (sym c.in-Ok.ensures.seats) (all_free c.args.opened.seats)

pub with_instances-seating-requires-clause-free : goal.with_instances-seating-requires-clause-free
with_instances-seating-requires-clause-free g c κs within =
    subst (λ (x : Seated). All (λ (s : Sitting). s.holding ≡ None) x.seats) (sym c.of-seating.ensures) c.part-seat.ensures.others

pub wind_up-history-requires-clause-whole : goal.wind_up-history-requires-clause-whole
wind_up-history-requires-clause-whole g c =
    let are = ap length c.in-Ok.ensures.seats in
    let count = length-map-range_with_len fresh_seat 0 c.args.opened.seats in
    let held = c.in-Ok.made.2.ok in
    let fewer = c.part-seat.ensures.len in
    let others = c.part-seat.result.1.ok in
    let same = c.with_instances-seating.ensures.len in
    let seating = ap (λ (x : Seated). length x.seats) c.of-seating.ensures in
    let back = ap length c.into_seats.ensures.seats in
    let kept = c.into_seats.result.ok in
    let seats = ap (λ (h : Extent). h.seats) c.in-Ok.ensures.hub in
    omega arith

pub wind_up-history-requires-clause-room : goal.wind_up-history-requires-clause-room
wind_up-history-requires-clause-room g c =
    let room = c.part-seat.ensures.room in
    let others = c.part-seat.result.1.ok in
    let same = c.with_instances-seating.ensures.len in
    let kept_room = c.with_instances-seating.ensures.room in
    let seating = ap (λ (x : Seated). length x.seats) c.of-seating.ensures in
    let seating_room = ap (λ (x : Seated). x.room) c.of-seating.ensures in
    let back = ap length c.into_seats.ensures.seats in
    let back_room = c.into_seats.ensures.room in
    let kept = c.into_seats.result.ok in
    omega arith

pub wind_up-history-requires-clause-numbers : goal.wind_up-history-requires-clause-numbers
wind_up-history-requires-clause-numbers g c κs within =
    let numbers = λ (l : List Sitting). map (λ (s : Sitting). s.number) l in
    let are = ap length c.in-Ok.ensures.seats in
    let made = length-map-range_with_len fresh_seat 0 c.args.opened.seats in
    let held = c.in-Ok.made.2.ok in
    let fewer = c.part-seat.ensures.len in
    let others = c.part-seat.result.1.ok in
    let same = c.with_instances-seating.ensures.len in
    let seating = ap (λ (x : Seated). length x.seats) c.of-seating.ensures in
    let back = ap length c.into_seats.ensures.seats in
    let kept = c.into_seats.result.ok in
    let count : c.args.opened.seats - 1 ≡ vec_len c.into_seats.result = omega arith in
    ap numbers c.into_seats.ensures.seats ∙ c.with_instances-seating.ensures.numbers ∙ ap (λ (x : Seated). numbers x.seats) c.of-seating.ensures
    ∙ ap numbers c.part-seat.ensures.rest ∙ ap (λ (l : List Sitting). numbers (drop 1 l)) c.in-Ok.ensures.seats
    ∙ behind_first c.args.opened.seats ∙ ap (range_with_len 1) count

pub wind_up-history-requires-clause-over : goal.wind_up-history-requires-clause-over
wind_up-history-requires-clause-over g c κs within = subst (All (λ (s : Sitting). s.over ≡ true)) (sym c.into_seats.ensures.seats) c.with_instances-seating.ensures.over

pub returns-clause-ends : goal.returns-clause-ends
returns-clause-ends g c =
    let first = c.args.ways.intake in
    let last = c.with_instances-seating.result.2.intake in
    let G = λ (events : List Event). g.I.Intake.gave first events last in
    let all = g.I.Intake.ended last in
    let before = g.I.Intake.stops first in
    let behind = g.I.Intake.stops last in
    let kept = g.I.Intake.cause last in
    let n = c.args.crewed.splitter.instances in
    let batch = c.args.crewed.splitter.batch in
    let start = c.args.crewed.splitter.core in
    let old = g.O.Outlet.state c.args.ways.outlet in
    let new = g.O.Outlet.state c.with_instances-seating.result.2.outlet in
    let history = c.wind_up-history.result in
    let seats : c.in-Ok.made.0.seats ≡ n + 1 = ap (λ (h : Extent). h.seats) c.in-Ok.ensures.hub ∙ c.requires.places.0 in
    let wound = subst (λ (k : ℕ). WoundUp k (length c.with_instances-seating.result.1.by.got) history) seats c.wind_up-history.ensures in
    subst (λ r. Ends G all before behind kept n batch start old new r) (sym c.with_history.ensures)
    (ends_with G all before behind kept n batch start old new c.with_instances-seating.result.1.end (length c.with_instances-seating.result.1.by.got) history c.into_crew.result c.with_instances-seating.ensures.served c.requires.instances.0 wound c.returns_follow_readings.ensures)

pub returns-in-Err-clause-prompt : goal.returns-in-Err-clause-prompt
returns-in-Err-clause-prompt g c = prompt_none (g.I.Intake.asked c.args.ways.intake) c.args.ways.intake c.args.crewed.splitter.core.plan (g.O.Outlet.state c.args.ways.outlet) (g.I.Intake.asked_none c.args.ways.intake)

pub returns-clause-crew : goal.returns-clause-crew
returns-clause-crew g c =
    let first : Team _ _ = record { first = c.args.crewed.splitter.predictor; relay = c.args.crewed.relay } in
    let served = c.with_instances-seating.result.1 in
    let own = c.with_instances-seating.ensures in
    subst (λ r. IfOk r (λ e. Relayed (λ one. (goal.Predictor-dyn g (one.vtable, one.value)).named one.value) (crew_of first) e.crew e.why e.core.machine.finished)) (sym c.with_history.ensures)
    (if_ending (λ crew why core. Relayed (λ one. (goal.Predictor-dyn g (one.vtable, one.value)).named one.value) (crew_of first) crew why core.machine.finished) c.wind_up-history.result c.into_crew.result
    served.end (relayed_end (λ one. (goal.Predictor-dyn g (one.vtable, one.value)).named one.value) first served.team c.into_crew.result served.end c.requires.none c.into_crew.ensures own.relieved own.due))
