-- The reading of events by their numbers, and the states of lists of events.
use Rattle.std.proofs.Common.{◌≡◌, ℕ, zero, suc, ◌+◌, ◌-◌, ◌<◌, ◌≤◌, Bool, true, false, cond, not, List, [], ◌∷◌, ◌++◌, length, take, drop, Option, Some, None, refl, sym, ap, ◌∙◌, arith}
use Rattle.std.specs.Prelude.{filter, slice_get}
use Rattle.std.specs.List.{enumerate_from, fold}
use Rattle.std.specs.Option.{option_map}
use Rattle.std.proofs.lemmas.List.Elements.{filter-append}
use Rattle.std.proofs.lemmas.List.Sums.{fold-append}
use Rattle.sp_base.specs.Numbers.{is_among}
use Rattle.sp_plan.specs.declared.event.Event.{Event}
use Rattle.sp_plan.specs.declared.plan.Plan.{Plan}
use Rattle.sp_plan.specs.Windows.{Numbered, numbered}
use Rattle.sp_plan.specs.Runs.{State, fresh, handle, state}
use Rattle.sp_plan.specs.Reading.{event_of, after_event, read_one, reading}
use Rattle.sp_plan.specs.Laws.{ReadingIsState}

-- an item, or none, as a list
abbrev one_of : {X : Type 0} → Option X → List X
one_of None = []
one_of (Some x) = x ∷ []

take_next : {X : Type 0} (n : ℕ) (xs : List X) → take (suc n) xs ≡ take n xs ++ one_of (slice_get xs n)
take_next zero [] = refl
take_next zero (x ∷ xs) = refl
take_next (suc n) [] = refl
take_next (suc n) (x ∷ xs) = ap (λ l. x ∷ l) (take_next n xs)

get_drop : {X : Type 0} (k : ℕ) (xs : List X) (i : ℕ) → slice_get (drop k xs) i ≡ slice_get xs (k + i)
get_drop zero xs i = let at : i ≡ 0 + i = omega arith in ap (slice_get xs) at
get_drop (suc k) [] i = refl
get_drop (suc k) (x ∷ xs) i = let at : suc (k + i) ≡ suc k + i = omega arith in get_drop k xs i ∙ ap (slice_get (x ∷ xs)) at

get_in_front : {X : Type 0} (xs ys : List X) (i : ℕ) → i < length xs → slice_get (xs ++ ys) i ≡ slice_get xs i
get_in_front [] ys i within = absurd (omega arith)
get_in_front (x ∷ xs) ys zero within = refl
get_in_front (x ∷ xs) ys (suc i) within = get_in_front xs ys i (omega arith)

-- an event with its number
numbered_at : (k : ℕ) (events : List Event) (i : ℕ) → slice_get (enumerate_from k events) i ≡ option_map (λ (e : Event). (k + i, e)) (slice_get events i)
numbered_at k [] i = refl
numbered_at k (e ∷ events) zero = let at : k ≡ k + 0 = omega arith in ap (λ (n : ℕ). Some (n, e)) at
numbered_at k (e ∷ events) (suc i) =
    let at : k + 1 + i ≡ k + suc i = omega arith in
    numbered_at (k + 1) events i ∙ ap (λ (n : ℕ). option_map (λ (e : Event). (n, e)) (slice_get events i)) at

event_at : (events : List Event) (first n : ℕ) → 1 ≤ first → slice_get (drop (first - 1) (numbered events)) n ≡ option_map (λ (e : Event). (first + n, e)) (event_of events (first + n))
event_at events first n low =
    let number : 1 + (first - 1 + n) ≡ first + n = omega arith in
    let place : first - 1 + n ≡ first + n - 1 = omega arith in
    get_drop (first - 1) (numbered events) n ∙ numbered_at 1 events (first - 1 + n)
    ∙ (λ i. option_map (λ (e : Event). (number i, e)) (slice_get events (place i)))

-- whether an event is read
abbrev is_read : List ℕ → Numbered → Bool
is_read skipped x = not (is_among skipped x.0)

-- one event of a list is handled as it is read
read_as_listed : (q : Plan) (skipped : List ℕ) (s : State) (number : ℕ) (o : Option Event)
    → cond (is_among skipped number) s (after_event q s number o) ≡ fold (handle q) s (filter (is_read skipped) (one_of (option_map (λ (e : Event). (number, e)) o)))
read_as_listed q skipped s number None = one (is_among skipped number)
  where
    one : (b : Bool) → cond b s s ≡ s
    one true = refl
    one false = refl
read_as_listed q skipped s number (Some e) = one (is_among skipped number)
  where
    one : (b : Bool) → cond b s (handle q s (number, e)) ≡ fold (handle q) s (cond (not b) ((number, e) ∷ []) [])
    one true = refl
    one false = refl

state_is : (q : Plan) (events : List Event) (skipped : List ℕ) (first n : ℕ) → 1 ≤ first → reading q events skipped first n ≡ state q (filter (is_read skipped) (take n (drop (first - 1) (numbered events))))
state_is q events skipped first zero low = refl
state_is q events skipped first (suc n) low =
    let own : List Numbered = drop (first - 1) (numbered events) in
    ap (λ (s : State). read_one q events skipped s (first + n)) (state_is q events skipped first n low)
    ∙ read_as_listed q skipped (state q (filter (is_read skipped) (take n own))) (first + n) (event_of events (first + n))
    ∙ ap (λ (o : Option Numbered). fold (handle q) (state q (filter (is_read skipped) (take n own))) (filter (is_read skipped) (one_of o))) (sym (event_at events first n low))
    ∙ sym (fold-append (handle q) fresh (filter (is_read skipped) (take n own)) (filter (is_read skipped) (one_of (slice_get own n))))
    ∙ ap (state q) (sym (filter-append (is_read skipped) (take n own) (one_of (slice_get own n))) ∙ ap (filter (is_read skipped)) (sym (take_next n own)))

skipped_within : (q : Plan) (events : List Event) (skipped others : List ℕ) (first n : ℕ) → ((i : ℕ) → first ≤ i → i < first + n → is_among skipped i ≡ is_among others i)
    → reading q events skipped first n ≡ reading q events others first n
skipped_within q events skipped others first zero agree = refl
skipped_within q events skipped others first (suc n) agree =
    let before = skipped_within q events skipped others first n (λ i low high. agree i low (omega arith)) in
    let here = agree (first + n) (omega arith) (omega arith) in
    λ i. cond (here i) (before i) (after_event q (before i) (first + n) (event_of events (first + n)))

more_behind : (q : Plan) (events more : List Event) (skipped : List ℕ) (first n : ℕ) → 1 ≤ first → first + n ≤ length events + 1
    → reading q (events ++ more) skipped first n ≡ reading q events skipped first n
more_behind q events more skipped first zero low within = refl
more_behind q events more skipped first (suc n) low within =
    let before = more_behind q events more skipped first n low (omega arith) in
    let here = get_in_front events more (first + n - 1) (omega arith) in
    λ i. cond (is_among skipped (first + n)) (before i) (after_event q (before i) (first + n) (here i))

-- the law of readings
pub reading_is_state : ReadingIsState
reading_is_state = record { state_is = state_is; skipped_within = skipped_within; more_behind = more_behind }
