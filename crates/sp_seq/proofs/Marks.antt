-- One number more is marked.
use Rattle.std.proofs.Common.{◌≡◌, ℕ, ◌+◌, ◌-◌, ◌<◌, ◌≤◌, Bool, true, false, ◌||◌, eqb, List, [], ◌∷◌, ◌++◌, length, get_or, set, take, sym, ◌∙◌, ap, subst, arith, append_assoc, get_or-set_same, get_or-set_other, length-set}
use Rattle.std.specs.Prelude.{◌≢◌}
use Rattle.std.proofs.Common.{inl, inr}
use Rattle.std.proofs.lemmas.Bool.{cases_eq}
use Rattle.std.proofs.lemmas.Bool.Decides.{nat_tests}
use Rattle.std.proofs.lemmas.List.{take_more, append-nil}
use Rattle.std.proofs.lemmas.List.Concat.{flat_map-append}
use Rattle.std.specs.List.{flat_map}
use Rattle.sp_base.specs.Numbers.{is_among}
use Rattle.sp_plan.specs.declared.found.Match.{Match}
use Rattle.sp_seq.specs.Marked.{IsMarked}

-- what is among the numbers with one more
among_push : (ns : List ℕ) (n m : ℕ) → is_among (ns ++ n ∷ []) m ≡ (is_among ns m || eqb n m)
among_push [] n m = grind (arith, nat_tests)
among_push (x ∷ ns) n m = let rest = among_push ns n m in rw rest (grind (arith, nat_tests))

-- a number whose flag is set
marked_set : (ns : List ℕ) (flags : List Bool) (n : ℕ) → IsMarked ns flags → 0 < n → n ≤ length flags → IsMarked (ns ++ n ∷ []) (set flags (n - 1) true)
marked_set ns flags n marked above within k below =
    let old : k < length flags = omega (arith, length-set flags (n - 1) true) in
    let push = among_push ns n (k + 1) in
    elim (cases_eq k (n - 1)) [
      | inl here ↦
          let is : get_or (set flags (n - 1) true) k false ≡ true = rw here (get_or-set_same flags (n - 1) true false (omega arith)) in
          grind (arith, nat_tests)
      | inr other ↦
          let is : get_or (set flags (n - 1) true) k false ≡ get_or flags k false = get_or-set_other flags (n - 1) k true false other in
          let before = marked k old in
          grind (arith, nat_tests)
    ]

-- a number that has no flag
marked_skip : (ns : List ℕ) (flags : List Bool) (n : ℕ) → IsMarked ns flags → (0 < n → length flags < n) → IsMarked (ns ++ n ∷ []) flags
marked_skip ns flags n marked past k below =
    let push = among_push ns n (k + 1) in
    let before = marked k below in
    let differs : n ≢ k + 1 = λ same. omega (arith, past (omega arith)) in
    grind (arith, nat_tests)

module _ (before numbers : List ℕ) (flags : List Bool) (i : ℕ) (within : i < length numbers) (marked : IsMarked (before ++ take i numbers) flags) where
  more : before ++ take (i + 1) numbers ≡ (before ++ take i numbers) ++ get_or numbers i 0 ∷ []
  more = ap (λ (l : List ℕ). before ++ l) (take_more numbers i 0 within) ∙ sym (append_assoc before (take i numbers) (get_or numbers i 0 ∷ []))

  -- the flag of the next number is set
  pub marks_set : 0 < get_or numbers i 0 → get_or numbers i 0 ≤ length flags → IsMarked (before ++ take (i + 1) numbers) (set flags (get_or numbers i 0 - 1) true)
  marks_set above room = subst (λ (l : List ℕ). IsMarked l (set flags (get_or numbers i 0 - 1) true)) (sym more) (marked_set _ flags _ marked above room)

  -- the next number has no flag
  pub marks_skip : (0 < get_or numbers i 0 → length flags < get_or numbers i 0) → IsMarked (before ++ take (i + 1) numbers) flags
  marks_skip past = subst (λ (l : List ℕ). IsMarked l flags) (sym more) (marked_skip _ flags _ marked past)

-- the numbers that one match more uses
pub used_more : (before : List ℕ) (ms : List Match) (i : ℕ) (d one : Match) → i < length ms → one ≡ get_or ms i d → before ++ flat_map (λ (m : Match). m.used) (take (i + 1) ms) ≡ (before ++ flat_map (λ (m : Match). m.used) (take i ms)) ++ one.used
used_more before ms i d one within is =
    let f : Match → List ℕ = λ m. m.used in
    ap (λ (l : List Match). before ++ flat_map f l) (take_more ms i d within)
    ∙ ap (λ (l : List ℕ). before ++ l) (flat_map-append f (take i ms) (get_or ms i d ∷ []) ∙ ap (λ (l : List ℕ). flat_map f (take i ms) ++ l) (append-nil (get_or ms i d).used ∙ ap (λ (m : Match). m.used) (sym is)))
    ∙ sym (append_assoc before (flat_map f (take i ms)) one.used)
