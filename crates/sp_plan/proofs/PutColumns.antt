-- Columns of held sides that have another value for one run, side by side.
use Rattle.std.proofs.Common.{◌≡◌, ℕ, ℤ, ◌+◌, List, [], ◌∷◌, ◌++◌, length, map, take, drop, set, get_or, refl, sym, ap, ◌∙◌, append_assoc}
use Rattle.std.proofs.lemmas.List.{drop-map, get_or_at, length-append, length-map, map-append, take-map}
use Rattle.std.proofs.Math.Seq.{set-append_seam}
use Rattle.sp_plan.specs.declared.plan.Expr.{Expr}
use Rattle.sp_plan.specs.Held.{held_column, held_value, put}
use Rattle.sp_plan.specs.Values.{BoundEvents}

pub map-put : {X Y : Type 0} (f : X → Y) (xs : List X) (at : ℕ) (x : X) → map f (put xs at x) ≡ put (map f xs) at (f x)
map-put f xs at x = map-append f (take at xs) (x ∷ drop (at + 1) xs) ∙ λ i. sym (take-map f at xs) i ++ f x ∷ sym (drop-map f (at + 1) xs) i

-- what these sides come to
abbrev columns_of : List BoundEvents → List Expr → List (List ℤ)
columns_of bounds sides = map (held_column bounds) sides

-- Of the columns of these sides, which stand between others, those but the rest have another value for the run.
pub record IsPut (run : ℕ) (b : BoundEvents) (bounds : List BoundEvents) (front back : List (List ℤ)) (whole rest : List Expr) (next : ℕ) (columns : List (List ℤ)) : Type 0 where
  pub done : List (List ℤ)
  pub is : columns ≡ done ++ columns_of bounds rest ++ back
  pub place : length done ≡ next
  pub comes : done ++ columns_of (put bounds run b) rest ≡ front ++ columns_of (put bounds run b) whole

module _ (run : ℕ) (b : BoundEvents) (bounds : List BoundEvents) (front back : List (List ℤ)) (whole : List Expr) where
  after : List BoundEvents
  after = put bounds run b

  pub put_none : (columns : List (List ℤ)) (next : ℕ) → columns ≡ front ++ columns_of bounds whole ++ back → length front ≡ next → IsPut run b bounds front back whole whole next columns
  put_none columns next is place = record { done = front; is = is; place = place; comes = refl }

  pub put_right : (rights lefts : List Expr) (columns new : List (List ℤ)) (next behind : ℕ) → IsPut run b bounds front back whole (rights ++ lefts) next columns
      → ((fs bs : List (List ℤ)) → columns ≡ fs ++ columns_of bounds rights ++ bs → length fs ≡ next → new ≡ fs ++ columns_of (put bounds run b) rights ++ bs)
      → behind ≡ next + length rights → IsPut run b bounds front back whole lefts behind new
  put_right rights lefts columns new next behind p called so =
      let hr = columns_of bounds rights in
      let hl = columns_of bounds lefts in
      let nr = columns_of (put bounds run b) rights in
      let nl = columns_of (put bounds run b) lefts in
      let apart : columns ≡ (p.done ++ hr) ++ (hl ++ back) =
      p.is ∙ ap (λ (l : List (List ℤ)). (p.done ++ l) ++ back) (map-append (held_column bounds) rights lefts) ∙ ap (λ (l : List (List ℤ)). l ++ back) (sym (append_assoc p.done hr hl)) ∙ append_assoc (p.done ++ hr) hl back in record {
        done = p.done ++ nr;
        is = called p.done (hl ++ back) apart p.place ∙ sym (append_assoc (p.done ++ nr) hl back);
        place = length-append p.done nr ∙ (λ i. p.place i + length-map rights (held_column (put bounds run b)) i) ∙ sym so;
        comes = append_assoc p.done nr nl ∙ ap (λ (l : List (List ℤ)). p.done ++ l) (sym (map-append (held_column (put bounds run b)) rights lefts)) ∙ p.comes;
      }

  pub put_all : (columns : List (List ℤ)) (next : ℕ) → IsPut run b bounds front back whole [] next columns → columns ≡ front ++ columns_of (put bounds run b) whole ++ back
  put_all columns next p = p.is ∙ ap (λ (l : List (List ℤ)). l ++ back) p.comes

  pub put_last : (side : Expr) (columns : List (List ℤ)) (next : ℕ) (v : ℤ) → IsPut run b bounds front back whole (side ∷ []) next columns → v ≡ held_value b side
      → set columns next (put (get_or columns next []) run v) ≡ front ++ columns_of (put bounds run b) whole ++ back
  put_last side columns next v p so =
      let old = held_column bounds side in
      let new = held_column (put bounds run b) side in
      let is : columns ≡ p.done ++ (old ∷ back) = p.is ∙ append_assoc p.done (old ∷ []) back in
      let there : get_or columns next [] ≡ old = ap (λ (l : List (List ℤ)). get_or l next []) is ∙ get_or_at p.done old back [] next p.place in
      let value : put (get_or columns next []) run v ≡ new = (λ i. put (there i) run (so i)) ∙ sym (map-put (λ c. held_value c side) bounds run b) in
      (λ i. set (is i) (sym p.place i) (value i)) ∙ set-append_seam p.done old back new ∙ sym (append_assoc p.done (new ∷ []) back) ∙ ap (λ (l : List (List ℤ)). l ++ back) p.comes
