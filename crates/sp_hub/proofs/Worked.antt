-- Worked rows of what is said of the pieces at the end.
use Rattle.std.proofs.Common.{ℕ, false, List, [], ◌∷◌, refl}
use Rattle.std.specs.Prelude.{None}
use Rattle.std.proofs.lemmas.List.Elements.{All-head}
use mathlib.Core.List.{IsPrefix}
use Rattle.sp_hub.specs.State.{Sitting}
use Rattle.sp_hub.specs.Collecting.{AreCollectedInOrder, tickets_by}

-- a seat that put two tickets
abbrev two_put : Sitting
two_put = record { number = 3; holding = None; calls = 2; over = false; put = 5 ∷ 7 ∷ [] }

abbrev collected_so : List (ℕ × ℕ) → Type 0
collected_so got = AreCollectedInOrder got (two_put ∷ [])

-- what is said of the one seat
prefix_of : (got : List (ℕ × ℕ)) → collected_so got → IsPrefix (tickets_by 3 got) (5 ∷ 7 ∷ [])
prefix_of got h = All-head (λ (seat : Sitting). IsPrefix (tickets_by seat.number got) seat.put) two_put [] h

first_alone : IsPrefix (tickets_by 3 ((3, 5) ∷ (1, 9) ∷ [])) (5 ∷ 7 ∷ [])
first_alone = (7 ∷ [], refl)

-- the second one before the first is out of order
pub second_first_is_out_of_order : collected_so ((3, 7) ∷ []) → ⊥
second_first_is_out_of_order h = let pre : IsPrefix {A = ℕ} (7 ∷ []) (5 ∷ 7 ∷ []) = prefix_of ((3, 7) ∷ []) h in cc pre.1

-- nor is a ticket collected that the seat didn't put
pub strange_is_out_of_order : collected_so ((3, 5) ∷ (3, 9) ∷ []) → ⊥
strange_is_out_of_order h = let pre : IsPrefix {A = ℕ} (5 ∷ 9 ∷ []) (5 ∷ 7 ∷ []) = prefix_of ((3, 5) ∷ (3, 9) ∷ []) h in cc pre.1

-- nor one collected twice
pub twice_is_out_of_order : collected_so ((3, 5) ∷ (3, 5) ∷ []) → ⊥
twice_is_out_of_order h = let pre : IsPrefix {A = ℕ} (5 ∷ 5 ∷ []) (5 ∷ 7 ∷ []) = prefix_of ((3, 5) ∷ (3, 5) ∷ []) h in cc pre.1
