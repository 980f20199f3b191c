use Rattle.std.proofs.Common.{◌≡◌, ◌++◌, ◌∙◌, List, length, get_or, take, drop, map, ap, arith}
use Rattle.std.proofs.lemmas.List.{take_at}
use Rattle.sp_hub.specs.State.{Sitting}
use Rattle.sp_hub.proofs.Told.{same_numbers}
use Rattle.sp_split.specs.Seatings.{Seated}
use Rattle.sp_split.proofs.attending.dismiss.Goals as goal

pub returns-clause-numbers : goal.returns-clause-numbers
returns-clause-numbers g c =
    let first : List Sitting = c.seating.inside.seats.items in
    let last : List Sitting = c.loop-seat.seat-items in
    let value = c.deref_mut-seat-items.ensures.value in
    let long : length last ≡ length first = c.loop-seat.auto.seat-items ∙ ap length value in
    let whole : take c.seating.inside.seats.len (last ++ drop (length last) first) ≡ last = take_at last (drop (length last) first) c.seating.inside.seats.len (c.loop-seat.auto.seat-items ∙ c.deref_mut-seat-items.ensures.len) in
    let numbers = λ (l : List Sitting). map (λ (s : Sitting). s.number) l in
    ap numbers whole
    ∙ same_numbers first last long (λ k d below. c.loop-seat.invariant.numbers k d (omega (arith, below, long)) ∙ ap (λ (l : List Sitting). (get_or l k d).number) value)
    ∙ ap (λ (s : Seated). numbers s.seats) c.seating.view_is
