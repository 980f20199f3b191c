-- Seats that hold nothing.
use Rattle.std.proofs.Common.{◌≡◌, ℕ, List, [], ◌∷◌, ◌++◌, length, None, ap, subst, zero-add, arith}
use Rattle.std.specs.List.{All}
use Rattle.std.proofs.Math.ListN.{get_or-append}
use Rattle.std.proofs.Math.Seq.{get_or-append_seam}
use Rattle.std.proofs.lemmas.List.{length-append}
use Rattle.std.proofs.lemmas.List.FromFn.{length-map-range_with_len, get_or-map-range_with_len}
use Rattle.sp_hub.specs.State.{Sitting}
use Rattle.sp_hub.specs.Calls.{fresh_seat, fresh_seats}

pub all_free : (n : ℕ) → All (λ (s : Sitting). s.holding ≡ None) (fresh_seats n)
all_free n k d below =
    ap (λ (s : Sitting). s.holding) (get_or-map-range_with_len fresh_seat 0 n k k d (omega (arith, length-map-range_with_len fresh_seat 0 n)) (zero-add k))

pub all_begin : {X : Type 0} (P : X → Type 0) (xs ys : List X) → All P (xs ++ ys) → All P xs
all_begin P xs ys h k d below = subst P (get_or-append xs ys d k below) (h k d (omega (arith, length-append xs ys)))

pub all_last : {X : Type 0} (P : X → Type 0) (xs : List X) (x : X) → All P (xs ++ x ∷ []) → P x
all_last P xs x h = subst P (get_or-append_seam xs x [] x) (h (length xs) x (omega (arith, length-append xs (x ∷ []))))
