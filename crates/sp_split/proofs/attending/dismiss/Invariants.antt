use Rattle.std.proofs.Common.{◌≡◌, ℕ, ◌<◌, ◌≤◌, true, None, length, get_or}
use Rattle.sp_hub.specs.State.{Sitting}
use Rattle.sp_split.proofs.attending.dismiss.Given as goal

abbrev pub invariant-loop-seat : goal.invariant-loop-seat
invariant-loop-seat g l = record {
  numbers : (k : ℕ) (d : Sitting) → k < length l.seat-items → (get_or l.seat-items k d).number ≡ (get_or l.initial.seat-items k d).number;
  free : (k : ℕ) (d : Sitting) → l.seat-index ≤ k → k < length l.seat-items → (get_or l.seat-items k d).holding ≡ None;
  over : (k : ℕ) (d : Sitting) → k < l.seat-index → (get_or l.seat-items k d).over ≡ true;
}
