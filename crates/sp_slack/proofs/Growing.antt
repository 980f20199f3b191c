-- What is to be given of events stays first once others come that are not late.
use Rattle.std.proofs.Common.{◌≡◌, ℤ, ◌≤ℤ◌, Bool, true, false, List, [], ◌∷◌, ◌++◌, Some, None, Option, refl, sym, ◌∙◌, ap, subst, append_assoc, arith}
use Rattle.std.specs.Prelude.{int_lt, if◌then◌else◌}
use Rattle.std.specs.List.{filter}
use Rattle.std.proofs.lemmas.Int.{ints}
use Rattle.std.proofs.lemmas.List.{append-nil}
use Rattle.std.proofs.lemmas.List.Sums.{fold_push}
use Rattle.sp_plan.specs.declared.event.Event.{Event}
use Rattle.sp_slack.specs.HeldBack.{put, sorted, slacked, greatest, with_time, before, least, is_before, is_up_to, is_late, AreTimely}
use Rattle.sp_slack.proofs.Sorting.{Rise, AreFrom, rise_sorted, sorted_more}

-- one list is the front of another
abbrev pub Begins : List Event → List Event → Type 0
Begins xs ys = (others : List Event) × (ys ≡ xs ++ others)

-- a time is at most another one, where both are there
abbrev pub IsUpTo : Option ℤ → Option ℤ → Type 0
IsUpTo None t = Unit {0}
IsUpTo (Some s) None = ⊥
IsUpTo (Some s) (Some t) = s ≤ℤ t

-- the events that are up to a time, as they stand in a list, without those behind the first that is not
abbrev front : Option ℤ → List Event → List Event
front t [] = []
front t (x ∷ xs) = if is_up_to t x then x ∷ front t xs else []

pub none_up_to : (t : Option ℤ) (x : Event) (xs : List Event) → is_up_to t x ≡ false → AreFrom x xs → filter (is_up_to t) xs ≡ []
none_up_to t x [] is from = refl
none_up_to t x (y ∷ ys) is from = rw (past t is) (none_up_to t x ys is from.1)
  where
    past : (t : Option ℤ) → is_up_to t x ≡ false → is_up_to t y ≡ false
    past None is = refl
    past (Some s) is = let le = from.0 in grind (arith, ints)

-- of a list that rises those up to a time are its front
filter_front : (t : Option ℤ) (xs : List Event) → Rise xs → filter (is_up_to t) xs ≡ front t xs
filter_front t [] rise = refl
filter_front t (x ∷ xs) rise = by (is_up_to t x) refl (filter_front t xs rise.1)
  where
    by : (b : Bool) → is_up_to t x ≡ b → filter (is_up_to t) xs ≡ front t xs → (if b then x ∷ filter (is_up_to t) xs else filter (is_up_to t) xs) ≡ (if b then x ∷ front t xs else [])
    by true is rest = ap (λ (l : List Event). x ∷ l) rest
    by false is rest = none_up_to t x xs is rise.0

-- a later time has more
pub up_to_more : (s t : Option ℤ) (x : Event) → IsUpTo s t → is_up_to s x ≡ true → is_up_to t x ≡ true
up_to_more None t x le is = absurd (cc is)
up_to_more (Some s) None x le is = absurd le
up_to_more (Some s) (Some t) x le is = grind (arith, ints)

front_more : (s t : Option ℤ) (xs : List Event) → IsUpTo s t → Begins (front s xs) (front t xs)
front_more s t [] le = ([], refl)
front_more s t (x ∷ xs) le = by (is_up_to s x) refl (front_more s t xs le)
  where
    by : (b : Bool) → is_up_to s x ≡ b → Begins (front s xs) (front t xs) → Begins (if b then x ∷ front s xs else []) (front t (x ∷ xs))
    by true is rest = (rest.0, rw (up_to_more s t x le is) (ap (λ (l : List Event). x ∷ l) rest.1))
    by false is rest = (front t (x ∷ xs), refl)

-- an event that is not before a time stands behind those up to it
pub passes : (s : Option ℤ) (x e : Event) → is_before s e ≡ false → is_up_to s x ≡ true → int_lt e.time x.time ≡ false
passes None x e late is = absurd (cc is)
passes (Some t) x e late is = grind (arith, ints)

front_put : (s t : Option ℤ) (xs : List Event) (e : Event) → IsUpTo s t → is_before s e ≡ false → Begins (front s xs) (front t (put xs e))
front_put s t [] e le late = (front t (e ∷ []), refl)
front_put s t (x ∷ xs) e le late = by (is_up_to s x) refl (front_put s t xs e le late)
  where
    by : (b : Bool) → is_up_to s x ≡ b → Begins (front s xs) (front t (put xs e)) → Begins (if b then x ∷ front s xs else []) (front t (put (x ∷ xs) e))
    by true is rest = (rest.0, rw (passes s x e late is, up_to_more s t x le is) (ap (λ (l : List Event). x ∷ l) rest.1))
    by false is rest = (front t (put (x ∷ xs) e), refl)

front_all : (s : Option ℤ) (xs : List Event) → Begins (front s xs) xs
front_all s [] = ([], refl)
front_all s (x ∷ xs) = by (is_up_to s x) (front_all s xs)
  where
    by : (b : Bool) → Begins (front s xs) xs → Begins (if b then x ∷ front s xs else []) (x ∷ xs)
    by true rest = (rest.0, ap (λ (l : List Event). x ∷ l) rest.1)
    by false rest = (x ∷ xs, refl)

-- the least time that may come only rises
pub greater : (slack : ℤ) (t : Option ℤ) (e : Event) → IsUpTo (before slack t) (before slack (with_time t e))
greater slack None e = tt
greater slack (Some t) e = grind (arith, ints)

pub greatest_more : (events : List Event) (e : Event) → greatest (events ++ e ∷ []) ≡ with_time (greatest events) e
greatest_more events e = fold_push with_time None events e

begins_on : (xs ys zs : List Event) → Begins xs ys → Begins ys zs → Begins xs zs
begins_on xs ys zs one two = (one.0 ++ two.0, two.1 ∙ ap (λ (l : List Event). l ++ two.0) one.1 ∙ append_assoc xs one.0 two.0)

slacked_front : (slack : ℤ) (events : List Event) → slacked slack events false ≡ front (least slack events) (sorted events)
slacked_front slack events = filter_front (least slack events) (sorted events) (rise_sorted events)

-- one event more
pub grows_one : (slack : ℤ) (events : List Event) (e : Event) → is_late slack events e ≡ false → Begins (slacked slack events false) (slacked slack (events ++ e ∷ []) false)
grows_one slack events e late =
    subst (λ (l : List Event). Begins l (slacked slack (events ++ e ∷ []) false)) (sym (slacked_front slack events))
    (subst (λ (l : List Event). Begins (front (least slack events) (sorted events)) l) (sym more) (front_put (least slack events) (before slack (with_time (greatest events) e)) (sorted events) e (greater slack (greatest events) e) late))
  where
    more : slacked slack (events ++ e ∷ []) false ≡ front (before slack (with_time (greatest events) e)) (put (sorted events) e)
    more =
        slacked_front slack (events ++ e ∷ [])
        ∙ ap (λ (t : Option ℤ). front (before slack t) (sorted (events ++ e ∷ []))) (greatest_more events e)
        ∙ ap (front (before slack (with_time (greatest events) e))) (sorted_more events e)

pub ends_whole : (slack : ℤ) (events : List Event) (ended : Bool) → Begins (slacked slack events false) (slacked slack events ended)
ends_whole slack events false = ([], sym (append-nil (slacked slack events false)))
ends_whole slack events true = subst (λ (l : List Event). Begins l (sorted events)) (sym (slacked_front slack events)) (front_all (least slack events) (sorted events))

pub grows : (slack : ℤ) (events more : List Event) (ended : Bool) → AreTimely slack events more → Begins (slacked slack events false) (slacked slack (events ++ more) ended)
grows slack events [] ended timely = subst (λ (l : List Event). Begins (slacked slack events false) (slacked slack l ended)) (sym (append-nil events)) (ends_whole slack events ended)
grows slack events (e ∷ more) ended timely =
    subst (λ (l : List Event). Begins (slacked slack events false) (slacked slack l ended)) (append_assoc events (e ∷ []) more)
    (begins_on (slacked slack events false) (slacked slack (events ++ e ∷ []) false) (slacked slack ((events ++ e ∷ []) ++ more) ended)
    (grows_one slack events e timely.0) (grows slack (events ++ e ∷ []) more ended timely.1))
