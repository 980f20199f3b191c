-- The numbers of runs, which no handling changes.
use Rattle.std.proofs.Common.{◌≡◌, ℕ, ◌<◌, List, [], ◌∷◌, map, Option, Some, None, refl, sym, ap, subst, ◌∙◌}
use Rattle.sp_plan.specs.declared.plan.Plan.{Plan}
use Rattle.sp_match.specs.inside.Kept.{Kept, before, last_under, started, undone}
use Rattle.sp_match.specs.inside.Good.{Undoes}
use Rattle.sp_match.proofs.RunNumbersRise.{Rising}

pub before_number : (n : ℕ) (k : Kept) → (before n k).number ≡ k.number
before_number n k = one (last_under n k)
  where
    one : (o : Option ℕ) → (undone n o k).number ≡ k.number
    one None = refl
    one (Some name) = refl

numbers_before : (n : ℕ) (ks : List Kept) → map (λ k. k.number) (map (before n) ks) ≡ map (λ k. k.number) ks
numbers_before n [] = refl
numbers_before n (k ∷ ks) = λ i. before_number n k i ∷ numbers_before n ks i

pub same_numbers : (q : Plan) (n : ℕ) (old new : List Kept) → Undoes q n old new → map (λ k. k.number) new ≡ map (λ k. k.number) old
same_numbers q n old new u = sym (numbers_before n new) ∙ ap (map (λ (k : Kept). k.number)) u.before ∙ numbers_before n old

pub rising_same : (low top : ℕ) (old new : List Kept) → map (λ k. k.number) new ≡ map (λ k. k.number) old → Rising low top (map started old) → Rising low top (map started new)
rising_same low top [] [] same up = up
rising_same low top [] (k ∷ new) same up = cc
rising_same low top (k ∷ old) [] same up = cc
rising_same low top (k ∷ old) (m ∷ new) same up =
    let first : k.number ≡ m.number = cc in
    let rest : map (λ k. k.number) new ≡ map (λ k. k.number) old = cc in
    (subst (λ n. low < n) first up.0, rising_same m.number top old new rest (subst (λ n. Rising n top (map started old)) first up.1))
