-- What is known of the events of a core: it is so of those that are lent, and under a plan that differs in addresses alone.
use Rattle.std.proofs.Common.{◌≡◌, ℕ, zero, suc, List, [], ◌∷◌, ◌++◌, take, drop, length, refl, ap, ◌∙◌}
use Rattle.std.specs.List.{AllZip}
use Rattle.sp_plan.specs.declared.event.Event.{Event}
use Rattle.sp_plan.specs.declared.plan.Plan.{Plan}
use Rattle.sp_plan.specs.Runs.{Run, guarded, takes}
use Rattle.sp_match.specs.declared.known.Known.{Known}
use Rattle.sp_match.specs.declared.known.Known.TheVariants.{Never, Onward, Any}
use Rattle.sp_match.specs.public.Known.{IsKnown}

-- plans under which runs take the same events, and are guarded by the same
abbrev TakeAlike : Plan → Plan → Type 0
TakeAlike p q = (run : Run) (e : Event) → (takes p run e ≡ takes q run e) × (guarded p run e ≡ guarded q run e)

known_alike : (p q : Plan) → TakeAlike p q → (e : Event) (known : Known) → IsKnown q e known → IsKnown p e known
known_alike p q same e Never is = λ run. ((same run e).0 ∙ (is run).0, (same run e).1 ∙ (is run).1)
known_alike p q same e Onward is = (same [] e).0 ∙ is
known_alike p q same e Any is = tt

-- what is known of events under one is so under the other
pub all_known_alike : (p q : Plan) → TakeAlike p q → (events : List Event) (known : List Known) → AllZip (IsKnown q) events known → AllZip (IsKnown p) events known
all_known_alike p q same [] [] are = tt
all_known_alike p q same [] (k ∷ known) are = absurd are
all_known_alike p q same (e ∷ events) [] are = absurd are
all_known_alike p q same (e ∷ events) (k ∷ known) are = (known_alike p q same e k are.0, all_known_alike p q same events known are.1)

-- something is known of each event, and of no more
pub as_many : {A B : Type 0} (R : A → B → Type 0) (xs : List A) (ys : List B) → AllZip R xs ys → length xs ≡ length ys
as_many R [] [] are = refl
as_many R [] (y ∷ ys) are = absurd are
as_many R (x ∷ xs) [] are = absurd are
as_many R (x ∷ xs) (y ∷ ys) are = ap suc (as_many R xs ys are.1)

-- of one event more
pub one_more_known : {A B : Type 0} (R : A → B → Type 0) (xs : List A) (ys : List B) (x : A) (y : B) → AllZip R xs ys → R x y → AllZip R (xs ++ x ∷ []) (ys ++ y ∷ [])
one_more_known R [] [] x y are is = (is, tt)
one_more_known R [] (b ∷ ys) x y are is = absurd are
one_more_known R (a ∷ xs) [] x y are is = absurd are
one_more_known R (a ∷ xs) (b ∷ ys) x y are is = (are.0, one_more_known R xs ys x y are.1 is)

first_ones : {A B : Type 0} (R : A → B → Type 0) (n : ℕ) (xs : List A) (ys : List B) → AllZip R xs ys → AllZip R (take n xs) (take n ys)
first_ones R zero xs ys are = tt
first_ones R (suc n) [] [] are = tt
first_ones R (suc n) [] (y ∷ ys) are = absurd are
first_ones R (suc n) (x ∷ xs) [] are = absurd are
first_ones R (suc n) (x ∷ xs) (y ∷ ys) are = (are.0, first_ones R n xs ys are.1)

later_ones : {A B : Type 0} (R : A → B → Type 0) (n : ℕ) (xs : List A) (ys : List B) → AllZip R xs ys → AllZip R (drop n xs) (drop n ys)
later_ones R zero xs ys are = are
later_ones R (suc n) [] [] are = tt
later_ones R (suc n) [] (y ∷ ys) are = absurd are
later_ones R (suc n) (x ∷ xs) [] are = absurd are
later_ones R (suc n) (x ∷ xs) (y ∷ ys) are = later_ones R n xs ys are.1

-- what holds place by place holds of so many from a place on
pub part_known : {A B : Type 0} (R : A → B → Type 0) (n place : ℕ) (xs : List A) (ys : List B) → AllZip R xs ys → AllZip R (take n (drop place xs)) (take n (drop place ys))
part_known R n place xs ys are = first_ones R n (drop place xs) (drop place ys) (later_ones R place xs ys are)
