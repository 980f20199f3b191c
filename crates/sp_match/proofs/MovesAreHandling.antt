-- Open runs in the order of their start are runs whose numbers rise.
use Rattle.std.proofs.Common.{ℕ, zero, suc, ◌<◌, ◌≤◌, List, [], ◌∷◌, length, map, get_or, add-one, arith}
use Rattle.std.specs.List.{All}
use Rattle.std.specs.List.Sorted.{IsStrictlyIncreasing}
use Rattle.std.proofs.lemmas.List.Elements.{All-nil, All-cons, All-head, All-tail}
use Rattle.sp_plan.specs.Runs.{Started, State}
use Rattle.sp_match.specs.public.Laws.{Ordered, MovesAreHandling}
use Rattle.sp_match.proofs.RunNumbersRise.{Rising, rising_span}
use Rattle.sp_match.proofs.MovesFollowRuns.{moves_lead}

-- a number was given
abbrev pub IsGiven : ℕ → Started → Type 0
IsGiven n run = (1 ≤ run.0) × (run.0 ≤ n)

numbers_tail : (n : ℕ) (ns : List ℕ) → IsStrictlyIncreasing (n ∷ ns) → IsStrictlyIncreasing ns
numbers_tail n ns up = λ k below. simp add-one (simp add-one at (up (suc k) (omega arith)))

numbers_push : (low n : ℕ) (ns : List ℕ) → low < n → IsStrictlyIncreasing (n ∷ ns) → IsStrictlyIncreasing (low ∷ n ∷ ns)
numbers_push low n ns above up zero below = above
numbers_push low n ns above up (suc k) below = simp add-one (simp add-one at (up k (omega arith)))

rising_from : (low top : ℕ) (runs : List Started) → low ≤ top → ((n : ℕ) → 0 < length runs → low < get_or (map (λ (run : Started). run.0) runs) 0 n)
    → IsStrictlyIncreasing (map (λ (run : Started). run.0) runs) → All (IsGiven top) runs → Rising low top runs
rising_from low top [] within first up given = within
rising_from low top (run ∷ runs) within first up given =
    let here = All-head (IsGiven top) run runs given in
    (first 0 (omega arith), rising_from run.0 top runs here.1 (λ n some. next runs n some up) (numbers_tail run.0 (map (λ (other : Started). other.0) runs) up) (All-tail (IsGiven top) run runs given))
  where
    next : (runs : List Started) (n : ℕ) → 0 < length runs → IsStrictlyIncreasing (run.0 ∷ map (λ (other : Started). other.0) runs) → run.0 < get_or (map (λ (other : Started). other.0) runs) 0 n
    next [] n some up = absurd (omega arith)
    next (other ∷ runs) n some up = up 0 (omega arith)

-- open runs in order rise
pub ordered_rises : (s : State) → Ordered s → Rising 0 s.started s.open_runs
ordered_rises s ordered = rising_from 0 s.started s.open_runs (omega arith) (first s.open_runs ordered.given) ordered.rising ordered.given
  where
    first : (runs : List Started) → All (IsGiven s.started) runs → (n : ℕ) → 0 < length runs → 0 < get_or (map (λ (run : Started). run.0) runs) 0 n
    first [] given n some = absurd (omega arith)
    first (run ∷ runs) given n some = let here = All-head (IsGiven s.started) run runs given in omega (arith, here.0)

-- and runs that rise are in order
rising_given : (low top : ℕ) (runs : List Started) → Rising low top runs → All (IsGiven top) runs
rising_given low top [] up = All-nil (IsGiven top)
rising_given low top (run ∷ runs) up =
    let span = rising_span run.0 top runs up.1 in
    All-cons (IsGiven top) run runs (omega (arith, up.0), span) (rising_given run.0 top runs up.1)

rising_numbers : (low top : ℕ) (runs : List Started) → Rising low top runs → IsStrictlyIncreasing (low ∷ map (λ (run : Started). run.0) runs)
rising_numbers low top [] up = λ k below. absurd (omega arith)
rising_numbers low top (run ∷ runs) up = numbers_push low run.0 (map (λ (other : Started). other.0) runs) up.0 (rising_numbers run.0 top runs up.1)

pub rising_ordered : (s : State) → Rising 0 s.started s.open_runs → Ordered s
rising_ordered s up = record {
  rising = numbers_tail 0 (map (λ (run : Started). run.0) s.open_runs) (rising_numbers 0 s.started s.open_runs up);
  given = rising_given 0 s.started s.open_runs up;
}

-- The moves of an event are its handling.
pub moves_are_handling : MovesAreHandling
moves_are_handling q s x ordered = moves_lead q s x (ordered_rises s ordered)
