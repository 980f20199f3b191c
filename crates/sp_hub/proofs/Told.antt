-- Seats by their numbers, and those that were told that no job will come.
use Rattle.std.proofs.Common.{◌≡◌, ◌∙◌, ℕ, zero, suc, ◌+◌, ◌-◌, ◌<◌, ◌≤◌, true, cond, List, [], ◌∷◌, ◌++◌, map, drop, length, get_or, refl, sym, ap, subst, arith}
use Rattle.std.specs.List.{All, Contains, filter, range_with_len}
use Rattle.std.proofs.lemmas.List.{same_lists, length-map, get_or-map, map-append}
use Rattle.std.proofs.lemmas.List.Elements.{All-head, All-tail, Contains-append_left, filter-append}
use Rattle.std.proofs.lemmas.List.FromFn.{length-range_with_len, get_or-range_with_len}
use Rattle.sp_hub.specs.State.{Sitting}
use Rattle.sp_hub.specs.Calls.{fresh_seat, fresh_seats, told_over}

abbrev number : Sitting → ℕ
number = λ (s : Sitting). s.number

abbrev IsOver : Sitting → Type 0
IsOver = λ (s : Sitting). s.over ≡ true

-- ---- numbers

-- the same at each place, the same in all
pub same_numbers : (xs ys : List Sitting) → length ys ≡ length xs → ((k : ℕ) (d : Sitting) → k < length xs → (get_or ys k d).number ≡ (get_or xs k d).number) → map number ys ≡ map number xs
same_numbers xs ys long each =
    same_lists (map number ys) (map number xs) (length-map ys number ∙ long ∙ sym (length-map xs number)) (λ k e below.
    let within : k < length ys = omega (arith, below, length-map ys number) in
    get_or-map number ys k (fresh_seat 0) e within ∙ each k (fresh_seat 0) (omega (arith, within, long)) ∙ sym (get_or-map number xs k (fresh_seat 0) e (omega (arith, within, long))))

numbered : (from count : ℕ) → map number (map fresh_seat (range_with_len from count)) ≡ range_with_len from count
numbered from zero = refl
numbered from (suc count) = ap (λ (l : List ℕ). from ∷ l) (numbered (from + 1) count)

-- the seats of a new hub behind the first one are numbered from 1
pub behind_first : (count : ℕ) → map number (drop 1 (fresh_seats count)) ≡ range_with_len 1 (count - 1)
behind_first zero = refl
behind_first (suc count) = numbered 1 count ∙ ap (range_with_len 1) (omega arith)

-- ---- told

all_told : (seats : List Sitting) → All IsOver seats → told_over seats ≡ map number seats
all_told [] over = refl
all_told (s ∷ seats) over =
    let rest = filter (λ (x : Sitting). x.over) seats in
    ap (λ b. map number (cond b (s ∷ rest) rest)) (All-head IsOver s seats over) ∙ ap (λ (l : List ℕ). s.number ∷ l) (all_told seats (All-tail IsOver s seats over))

-- where seats that are numbered from 1 were told, each of them is among the told ones, whichever seat stands behind them
pub each_told : (seats : List Sitting) (last : Sitting) (count : ℕ) → All IsOver seats → map number seats ≡ range_with_len 1 count
    → (seat : ℕ) → 0 < seat → seat ≤ count → Contains (told_over (seats ++ last ∷ [])) seat
each_told seats last count over numbers seat some few =
    let told : told_over seats ≡ range_with_len 1 count = all_told seats over ∙ numbers in
    let named : Contains (range_with_len 1 count) seat = (seat - 1, omega (arith, length-range_with_len 1 count), omega (arith, get_or-range_with_len 1 count (seat - 1) seat (omega arith))) in
    let front : told_over (seats ++ last ∷ []) ≡ told_over seats ++ told_over (last ∷ [])
    = ap (map number) (filter-append (λ (s : Sitting). s.over) seats (last ∷ [])) ∙ map-append number (filter (λ (s : Sitting). s.over) seats) (filter (λ (s : Sitting). s.over) (last ∷ [])) in
    subst (λ (l : List ℕ). Contains l seat) (sym front) (Contains-append_left (told_over seats) (told_over (last ∷ [])) seat (subst (λ (l : List ℕ). Contains l seat) (sym told) named))
