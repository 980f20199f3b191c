-- What a search by halves finds in a label.
use Rattle.std.proofs.Common.{◌≡◌, ℕ, zero, suc, ◌<◌, ◌≤◌, Bool, true, false, ◌||◌, ◌==◌, List, [], ◌∷◌, length, get_or, refl, sym, ap, subst, ◌∙◌, arith, inl, inr}
use Rattle.std.specs.Prelude.{Result, Ok, Err, is_ok}
use Rattle.std.specs.Ordering.{nat_cmp}
use Rattle.std.specs.List.Sorted.{IsStrictlyIncreasing, IsBinarySearchResult}
use Rattle.std.proofs.lemmas.Bool.{cases_eq, cases_lt, eq-eqb, ne_eqb, or_left, or_right}
use Rattle.std.proofs.lemmas.List.Sorted.{searched}
use Rattle.sp_base.specs.Numbers.{is_among}
use Rattle.sp_base.proofs.Placed.{earlier}

-- what stands at an index is among the numbers
pub among_at : (xs : List ℕ) (i d : ℕ) → i < length xs → is_among xs (get_or xs i d) ≡ true
among_at [] i d within = absurd (omega arith)
among_at (x ∷ xs) zero d within = or_left (x == x) (is_among xs x) (eq-eqb x x refl)
among_at (x ∷ xs) (suc i) d within = or_right (x == get_or xs i d) (is_among xs (get_or xs i d)) (among_at xs i d (omega arith))

not_falling : (ns : List ℕ) → IsStrictlyIncreasing ns → (i j : ℕ) → i ≤ j → j < length ns → get_or ns i 0 ≤ get_or ns j 0
not_falling ns rising i j h within =
    elim (cases_eq i j) [
      | inl e ↦ subst (λ k. get_or ns i 0 ≤ get_or ns k 0) e (omega arith)
      | inr e ↦ (let more : get_or ns i 0 < get_or ns j 0 = earlier ns rising i j (omega arith) within in omega arith)
    ]

not_among : (ns : List ℕ) (n : ℕ) → ((k : ℕ) → k < length ns → get_or ns k 0 ≡ n → ⊥) → is_among ns n ≡ false
not_among [] n none = refl
not_among (m ∷ ns) n none =
    ap (λ (b : Bool). b || is_among ns n) (ne_eqb m n (none 0 (omega arith))) ∙ not_among ns n (λ k within. none (suc k) (omega arith))

pub found_run : (ns : List ℕ) (n : ℕ) (r : Result ℕ ℕ) → IsStrictlyIncreasing ns → IsBinarySearchResult (λ m. nat_cmp m n) ns r → is_ok r ≡ is_among ns n
found_run ns n (Ok at) rising search =
    let found = searched ns n (Ok at) search (not_falling ns rising) in
    sym (subst (λ m. is_among ns m ≡ true) found.1 (among_at ns at 0 found.0))
found_run ns n (Err at) rising search =
    let found = searched ns n (Err at) search (not_falling ns rising) in
    sym (not_among ns n (λ k within is. elim (cases_lt k at) [ inl below ↦ (let less = found.1 k below in absurd (omega arith)) | inr behind ↦ (let more = found.2 k behind within in absurd (omega arith)) ]))
