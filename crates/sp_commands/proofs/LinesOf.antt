-- The text of lines, one after another.
use Rattle.std.proofs.Common.{◌≡◌, ℕ, ◌+◌, ◌<◌, List, [], ◌∷◌, ◌++◌, length, get_or, map, take, drop, refl, sym, ◌∙◌, ap, subst, take-append-drop}
use Rattle.std.specs.Prelude.{◌≢◌}
use Rattle.std.specs.List.{flat_map}
use Rattle.std.proofs.lemmas.Grind.{flat_map-append}
use Rattle.std.proofs.lemmas.List.{append-nil, take_more, drop_more}
use Rattle.sp_io.specs.Outside.{Told, Grew, GrewWithin}
use Rattle.sp_io.proofs.Grew.{grew_more, within_all, within_more}
use Rattle.sp_trace.specs.Traced.{joined}

module _ {X : Type 0} (line : X → List ℕ) (ms : List X) (i : ℕ) where
  split : flat_map line ms ≡ flat_map line (take i ms) ++ flat_map line (drop i ms)
  split = ap (flat_map line) (sym (take-append-drop i ms)) ∙ flat_map-append line (take i ms) (drop i ms)

  pub within_so_far : (a b : Told) → Grew a (flat_map line (take i ms)) b → GrewWithin a (flat_map line ms) b
  within_so_far a b grew = subst (λ (l : List ℕ). GrewWithin a l b) (sym split) (within_all a b (flat_map line (take i ms)) (flat_map line (drop i ms)) grew)

  module _ (m : X) (inside : i < length ms) (is : m ≡ get_or ms i m) where
    pub text_more : flat_map line (take (i + 1) ms) ≡ flat_map line (take i ms) ++ line m
    text_more =
        ap (flat_map line) (take_more ms i m inside) ∙ flat_map-append line (take i ms) (get_or ms i m ∷ [])
        ∙ ap (λ (l : List ℕ). flat_map line (take i ms) ++ l) (append-nil (line (get_or ms i m)) ∙ ap line (sym is))

    rest : flat_map line (drop i ms) ≡ line m ++ flat_map line (drop (i + 1) ms)
    rest = ap (flat_map line) (drop_more ms i m inside) ∙ ap (λ (o : X). line o ++ flat_map line (drop (i + 1) ms)) (sym is)

    pub grew_line : (a b c : Told) (own : List ℕ) → own ≡ line m → Grew a (flat_map line (take i ms)) b → Grew b own c → Grew a (flat_map line (take (i + 1) ms)) c
    grew_line a b c own own_is so_far now = subst (λ (l : List ℕ). Grew a l c) (ap (λ (l : List ℕ). flat_map line (take i ms) ++ l) own_is ∙ sym text_more) (grew_more a b c (flat_map line (take i ms)) own so_far now)

    -- what stands before a line, the line, and what stands behind it
    pub parts : flat_map line ms ≡ flat_map line (take i ms) ++ (line m ++ flat_map line (drop (i + 1) ms))
    parts = split ∙ ap (λ (l : List ℕ). flat_map line (take i ms) ++ l) rest

    pub within_line : (a b c : Told) (own : List ℕ) → own ≡ line m → Grew a (flat_map line (take i ms)) b → GrewWithin b own c → GrewWithin a (flat_map line ms) c
    within_line a b c own own_is so_far now =
        subst (λ (l : List ℕ). GrewWithin a l c) (ap (λ (l : List ℕ). flat_map line (take i ms) ++ (l ++ flat_map line (drop (i + 1) ms))) own_is ∙ ap (λ (l : List ℕ). flat_map line (take i ms) ++ l) (sym rest) ∙ sym split)
        (within_more a b c (flat_map line (take i ms)) own (flat_map line (drop (i + 1) ms)) so_far now)

    pub not_empty : line m ≢ [] → flat_map line ms ≢ []
    not_empty some none = ends (line m) (flat_map line (take i ms)) some (sym (split ∙ ap (λ (l : List ℕ). flat_map line (take i ms) ++ l) rest) ∙ none)
      where
        ends : (own xs : List ℕ) → own ≢ [] → xs ++ (own ++ flat_map line (drop (i + 1) ms)) ≡ [] → ⊥
        ends [] [] some is_nil = some refl
        ends (b ∷ own) [] some is_nil = cc
        ends own (x ∷ xs) some is_nil = cc

-- the texts of lines, joined
pub joined_map : {X : Type 0} (line : X → List ℕ) (ms : List X) → joined (map line ms) ≡ flat_map line ms
joined_map line [] = refl
joined_map line (m ∷ ms) = ap (λ (l : List ℕ). line m ++ l) (joined_map line ms)
