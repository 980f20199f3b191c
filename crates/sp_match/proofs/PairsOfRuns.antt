-- The pairs of a run, from its names, numbers and events.
use Rattle.std.proofs.Common.{◌≡◌, ℕ, List, [], ◌∷◌, ◌++◌, map, length, ◌-◌, Bool, true, false, cond, ◌&&◌, ◌||◌, ◌==◌, Option, Some, None, refl, sym, ap, subst, ◌∙◌, arith}
use Rattle.std.specs.Prelude.{slice_get, option_map, find, if◌then◌else◌}
use Rattle.std.specs.List.{zip, last_or, list_any, filter}
use Rattle.sp_plan.specs.declared.event.Event.{Event}
use Rattle.sp_plan.specs.declared.plan.Element.{Element}
use Rattle.sp_plan.specs.Runs.{Pair, again, bound_events, is_plus, numbers_under}
use Rattle.sp_match.specs.inside.Kept.{pair_of}

-- the events of the pairs, where names and events fit together
pub events_of : (bs : List (ℕ × ℕ)) (es : List (ℕ × Event)) → map (λ p. p.0) bs ≡ map (λ p. p.0) es → bound_events (map pair_of (zip bs es)) ≡ es
events_of [] [] same = refl
events_of [] (e ∷ es) same = cc
events_of (b ∷ bs) [] same = cc
events_of (b ∷ bs) (e ∷ es) same =
    let head : b.0 ≡ e.0 = cc in
    let tail : map (λ p. p.0) bs ≡ map (λ p. p.0) es = cc in
    λ i. (head i, e.1) ∷ events_of bs es tail i

-- the name of the last pair
pub last_name : (bs : List (ℕ × ℕ)) (es : List (ℕ × Event)) (o : Option (ℕ × ℕ)) (p : Option Pair) → map (λ p. p.0) bs ≡ map (λ p. p.0) es → option_map (λ x. x.name) p ≡ option_map (λ x. x.0) o
    → option_map (λ x. x.name) (last_or p (map pair_of (zip bs es))) ≡ option_map (λ x. x.0) (last_or o bs)
last_name [] [] o p same first = first
last_name [] (e ∷ es) o p same first = cc
last_name (b ∷ bs) [] o p same first = cc
last_name (b ∷ bs) (e ∷ es) o p same first =
    let tail : map (λ p. p.0) bs ≡ map (λ p. p.0) es = cc in
    last_name bs es (Some b) (Some (pair_of (b, e))) tail refl

-- the last element is the one before the end
pub last_get : {X : Type 0} (xs : List X) (x : X) (o : Option X) → last_or o (x ∷ xs) ≡ slice_get (x ∷ xs) (length xs)
last_get [] x o = refl
last_get (y ∷ ys) x o = last_get ys y (Some x)

pub last_at : {X : Type 0} (xs : List X) → slice_get xs (length xs - 1) ≡ last_or None xs
last_at [] = refl
last_at (x ∷ xs) = let e : length (x ∷ xs) - 1 ≡ length xs = omega arith in ap (slice_get (x ∷ xs)) e ∙ sym (last_get xs x None)

-- what is found among the last name again
pub again_none : (elements : List Element) (o : Option Pair) (p : ℕ → Bool) → option_map (λ x. x.name) o ≡ None → find p (again elements o) ≡ None
again_none elements None p e = refl
again_none elements (Some pair) p e = cc

pub again_found : (elements : List Element) (o : Option Pair) (p : ℕ → Bool) (n : ℕ) → option_map (λ x. x.name) o ≡ Some n
    → find p (again elements o) ≡ (if list_any (is_plus n) elements && p n then Some n else None)
again_found elements None p n e = cc
again_found elements (Some pair) p n e =
    let same : pair.name ≡ n = cc in
    subst (λ m. find p (if list_any (is_plus pair.name) elements then pair.name ∷ [] else []) ≡ (if list_any (is_plus m) elements && p m then Some m else None)) same (one (list_any (is_plus pair.name) elements))
  where
    one : (b : Bool) → find p (if b then pair.name ∷ [] else []) ≡ (if b && p pair.name then Some pair.name else None)
    one true = refl
    one false = refl

-- the numbers of the pairs
pub numbers_of : (bs : List (ℕ × ℕ)) (es : List (ℕ × Event)) → map (λ p. p.0) bs ≡ map (λ p. p.0) es → map (λ pair. pair.number) (map pair_of (zip bs es)) ≡ map (λ b. b.1) bs
numbers_of [] [] same = refl
numbers_of [] (e ∷ es) same = refl
numbers_of (b ∷ bs) [] same = cc
numbers_of (b ∷ bs) (e ∷ es) same =
    let tail : map (λ p. p.0) bs ≡ map (λ p. p.0) es = cc in
    ap (λ ns. b.1 ∷ ns) (numbers_of bs es tail)

-- a number under some name
pub holds_pairs : (p : ℕ → Bool) (bs : List (ℕ × ℕ)) (es : List (ℕ × Event)) → map (λ p. p.0) bs ≡ map (λ p. p.0) es → list_any (λ pair. p pair.number) (map pair_of (zip bs es)) ≡ list_any (λ b. p b.1) bs
holds_pairs p [] [] same = refl
holds_pairs p [] (e ∷ es) same = refl
holds_pairs p (b ∷ bs) [] same = cc
holds_pairs p (b ∷ bs) (e ∷ es) same =
    let tail : map (λ p. p.0) bs ≡ map (λ p. p.0) es = cc in
    ap (λ rest. p b.1 || rest) (holds_pairs p bs es tail)

-- the numbers under a name
pub under_pairs : (name : ℕ) (bs : List (ℕ × ℕ)) (es : List (ℕ × Event)) → map (λ p. p.0) bs ≡ map (λ p. p.0) es
    → numbers_under (map pair_of (zip bs es)) name ≡ map (λ b. b.1) (filter (λ b. b.0 == name) bs)
under_pairs name [] [] same = refl
under_pairs name [] (e ∷ es) same = refl
under_pairs name (b ∷ bs) [] same = cc
under_pairs name (b ∷ bs) (e ∷ es) same =
    let tail : map (λ p. p.0) bs ≡ map (λ p. p.0) es = cc in
    one (b.0 == name) (under_pairs name bs es tail)
  where
    one : (t : Bool) → numbers_under (map pair_of (zip bs es)) name ≡ map (λ b. b.1) (filter (λ b. b.0 == name) bs)
        → map (λ pair. pair.number) (cond t (pair_of (b, e) ∷ filter (λ pair. pair.name == name) (map pair_of (zip bs es))) (filter (λ pair. pair.name == name) (map pair_of (zip bs es))))
        ≡ map (λ b. b.1) (cond t (b ∷ filter (λ b. b.0 == name) bs) (filter (λ b. b.0 == name) bs))
    one true ih = ap (λ ns. b.1 ∷ ns) ih
    one false ih = ih

-- one pair more
pub pairs_push : (bs : List (ℕ × ℕ)) (es : List (ℕ × Event)) (name number : ℕ) (event : Event) → map (λ p. p.0) bs ≡ map (λ p. p.0) es
    → map pair_of (zip (bs ++ (name, number) ∷ []) (es ++ (name, event) ∷ [])) ≡ map pair_of (zip bs es) ++ (record { name = name; number = number; event = event }) ∷ []
pairs_push [] [] name number event same = refl
pairs_push [] (e ∷ es) name number event same = cc
pairs_push (b ∷ bs) [] name number event same = cc
pairs_push (b ∷ bs) (e ∷ es) name number event same =
    let tail : map (λ p. p.0) bs ≡ map (λ p. p.0) es = cc in
    ap (λ rest. pair_of (b, e) ∷ rest) (pairs_push bs es name number event tail)
