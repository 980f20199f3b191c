use Rattle.std.proofs.Common.{◌≡◌, ℕ, ◌+◌, List, [], ◌∷◌, ◌++◌, refl, sym, ap, ◌∙◌, append_assoc, arith}
use Rattle.std.specs.List.{range_with_len}
use Rattle.std.proofs.lemmas.List.{map-id}
use Rattle.std.proofs.lemmas.List.FromFn.{map-range_with_len_more}
use Rattle.sp_emit.proofs.bindings.push_names.Goals as goal

-- a range with one number more
range_push : (first n : ℕ) → range_with_len first (n + 1) ≡ range_with_len first n ++ (first + n) ∷ []
range_push first n =
    sym (map-id (range_with_len first (n + 1))) ∙ map-range_with_len_more (λ (x : ℕ). x) first n (first + n) refl ∙ ap (λ (l : List ℕ). l ++ (first + n) ∷ []) (map-id (range_with_len first n))

one_more : (names old : List ℕ) (first n name : ℕ) → names ≡ old ++ range_with_len first n → name ≡ first + n → names ++ name ∷ [] ≡ old ++ range_with_len first (n + 1)
one_more names old first n name are is = (λ i. are i ++ is i ∷ []) ∙ append_assoc old (range_with_len first n) ((first + n) ∷ []) ∙ ap (λ (l : List ℕ). old ++ l) (sym (range_push first n))

pub loop-place-preserved : goal.loop-place-preserved
loop-place-preserved c = c.in_ok-push-in-Set.ensures.items ∙ one_more _ _ c.in-Set.first c.loop-place.place _ c.loop-place.invariant (omega (arith, c.from.ensures, c.from-in-loop-place.ensures))
