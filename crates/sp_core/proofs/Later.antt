-- The matches that came later: they are the completions told, and what these come to is what is made of the matches.
use Rattle.std.proofs.Common.{◌≡◌, ℕ, suc, ◌+◌, ◌≤◌, Bool, true, false, cond, ◌||◌, ◌==◌, nat_lt, List, [], ◌∷◌, ◌++◌, length, filter, map, refl, sym, ap, ◌∙◌, arith}
use Rattle.std.specs.List.{All, flat_map}
use Rattle.std.specs.List.Sorted.{IsStrictlyIncreasing}
use Rattle.std.proofs.lemmas.List.{append_cancel_left, map-append}
use Rattle.std.proofs.lemmas.List.Concat.{flat_map-cons}
use Rattle.std.proofs.lemmas.List.Elements.{All-nil, All-cons, All-head, All-tail}
use Rattle.std.proofs.lemmas.List.Sums.{fold-append}
use Rattle.sp_base.proofs.RisingLists.{among_numbers, numbers_rise}
use Rattle.sp_base.specs.Numbers.{RisingSame, is_among, with_number, with_numbers}
use Rattle.sp_plan.specs.declared.found.Match.{Match}
use Rattle.sp_plan.specs.declared.plan.Plan.{Plan}
use Rattle.sp_plan.specs.Moves.{Told, OpenedTold, GrownTold, CompletedTold, AbandonedTold}
use Rattle.sp_plan.specs.Runs.{Run, Started, State, used}
use Rattle.sp_plan.specs.Sequential.{match_of}
use Rattle.sp_match.specs.declared.moves.Moves.{Moves}
use Rattle.sp_match.specs.public.Laws.{completion, is_completion}
use Rattle.sp_match.specs.public.Seen.{seen}
use Rattle.sp_piece.specs.Alike.{all_told}
use Rattle.sp_piece.specs.Reading.{Account, seen_moves}
use Rattle.sp_group.specs.Rising.{has_number}
use Rattle.sp_rules.specs.ByGroups.{using_runs}
use Rattle.sp_core.specs.Holding.{unnumbered}
use Rattle.sp_core.specs.Homecoming.{completions, spent_run, unnumbered_told, used_told}

-- what moves tell is what their accounts tell
all_seen : (moves : List Moves) → flat_map (λ (m : Moves). map seen m.list.items) moves ≡ all_told (map seen_moves moves)
all_seen [] = refl
all_seen (m ∷ moves) =
    flat_map-cons (λ (n : Moves). map seen n.list.items) m moves
    ∙ ap (λ (ts : List Told). map seen m.list.items ++ ts) (all_seen moves)
    ∙ sym (flat_map-cons (λ (a : Account). a.told) (seen_moves m) (map seen_moves moves))

-- all completions are completions
completions_twice : (ts : List Told) → filter is_completion (filter is_completion ts) ≡ filter is_completion ts
completions_twice [] = refl
completions_twice (OpenedTold run ∷ ts) = completions_twice ts
completions_twice (GrownTold run number ∷ ts) = completions_twice ts
completions_twice (CompletedTold run bound used ∷ ts) = ap (λ (us : List Told). CompletedTold run bound used ∷ us) (completions_twice ts)
completions_twice (AbandonedTold run ∷ ts) = completions_twice ts

-- the completions told are the matches that are added
pub completions_are : (q : Plan) (s t : State) (later : List Started) (moves : List Moves) (accounts : List Account)
    → all_told (map seen_moves moves) ≡ filter is_completion (all_told accounts) → t.matched ≡ s.matched ++ later
    → map (completion q) t.matched ≡ map (completion q) s.matched ++ filter is_completion (all_told accounts)
    → completions moves ≡ map (completion q) later
completions_are q s t later moves accounts told added law =
    ap (filter is_completion) (all_seen moves ∙ told)
    ∙ completions_twice (all_told accounts)
    ∙ append_cancel_left (map (completion q) s.matched) (filter is_completion (all_told accounts)) (map (completion q) later)
    (sym law ∙ ap (map (completion q)) added ∙ map-append (completion q) s.matched later)

-- what the completions of runs come to: matches that are not numbered yet
pub unnumbered_are : (q : Plan) (window : ℕ) (runs : List Started) → map (unnumbered_told window) (map (completion q) runs) ≡ map (λ (run : Run). match_of q window (0, run)) (map (λ (run : Started). run.1) runs)
unnumbered_are q window [] = refl
unnumbered_are q window (run ∷ runs) = ap (λ (ms : List Match). match_of q window (0, run.1) ∷ ms) (unnumbered_are q window runs)

-- the runs that used an event
pub spent_are : (q : Plan) (runs : List Started) → flat_map spent_run (map (completion q) runs) ≡ using_runs q runs
spent_are q [] = refl
spent_are q (run ∷ runs) =
    flat_map-cons spent_run (completion q run) (map (completion q) runs)
    ∙ ap (λ (ns : List ℕ). spent_run (completion q run) ++ ns) (spent_are q runs)
    ∙ one (has_number (used q run.1))
  where
    one : (b : Bool) → cond b (run.0 ∷ []) [] ++ using_runs q runs
        ≡ map (λ (r : Started). r.0) (cond b (run ∷ filter (λ (r : Started). has_number (used q r.1)) runs) (filter (λ (r : Started). has_number (used q r.1)) runs))
    one true = refl
    one false = refl

-- and what they used
pub used_are : (q : Plan) (runs : List Started) → flat_map used_told (map (completion q) runs) ≡ flat_map (used q) (map (λ (run : Started). run.1) runs)
used_are q [] = refl
used_are q (run ∷ runs) =
    flat_map-cons used_told (completion q run) (map (completion q) runs)
    ∙ ap (λ (ns : List ℕ). used q run.1 ++ ns) (used_are q runs)
    ∙ sym (flat_map-cons (used q) run.1 (map (λ (r : Started). r.1) runs))

-- matches of a window behind those before
pub unnumbered_more : (q : Plan) (window : ℕ) (s t : State) (later : List Started) → t.matched ≡ s.matched ++ later
    → unnumbered q window t ≡ unnumbered q window s ++ map (λ (run : Run). match_of q window (0, run)) (map (λ (run : Started). run.1) later)
unnumbered_more q window s t later added =
    ap (λ (runs : List Started). map (λ (run : Run). match_of q window (0, run)) (map (λ (run : Started). run.1) runs)) added
    ∙ ap (map (λ (run : Run). match_of q window (0, run))) (map-append (λ (run : Started). run.1) s.matched later)
    ∙ map-append (λ (run : Run). match_of q window (0, run)) (map (λ (run : Started). run.1) s.matched) (map (λ (run : Started). run.1) later)

-- numbers that are taken in at once, or one list after the other
pub numbers_more : RisingSame → (a b : List ℕ) → with_numbers (with_numbers [] a) (with_numbers [] b) ≡ with_numbers [] (a ++ b)
numbers_more law a b =
    let rising : IsStrictlyIncreasing (with_numbers [] a) = numbers_rise [] a (λ k l. absurd (omega (arith, l))) in
    law (with_numbers (with_numbers [] a) (with_numbers [] b)) (with_numbers (with_numbers [] a) b)
    (numbers_rise (with_numbers [] a) (with_numbers [] b) rising) (numbers_rise (with_numbers [] a) b rising)
    (λ n. among_numbers (with_numbers [] a) (with_numbers [] b) n
    ∙ ap (λ (x : Bool). is_among (with_numbers [] a) n || x) (among_numbers [] b n)
    ∙ sym (among_numbers (with_numbers [] a) b n))
    ∙ sym (fold-append with_number [] a b)

length_number : (ms : List ℕ) (n : ℕ) → length (with_number ms n) ≤ suc (length ms)
length_number [] n = omega arith
length_number (m ∷ ms) n = one (nat_lt n m) (m == n) (length_number ms n)
  where
    one : (b c : Bool) → length (with_number ms n) ≤ suc (length ms) → length (cond b (n ∷ m ∷ ms) (cond c (m ∷ ms) (m ∷ with_number ms n))) ≤ suc (length (m ∷ ms))
    one true c rest = omega arith
    one false true rest = omega arith
    one false false rest = omega arith

-- a list grows by no more numbers than it takes in
pub length_numbers : (ms ns : List ℕ) → length (with_numbers ms ns) ≤ length ms + length ns
length_numbers ms [] = omega arith
length_numbers ms (n ∷ ns) = let one = length_number ms n in let rest = length_numbers (with_number ms n) ns in omega arith

-- runs whose numbers begin at 1
pub using_given : (q : Plan) (runs : List Started) → All (λ (run : Started). 1 ≤ run.0) runs → All (λ (r : ℕ). 1 ≤ r) (using_runs q runs)
using_given q [] h = All-nil (λ (r : ℕ). 1 ≤ r)
using_given q (run ∷ runs) h = one (has_number (used q run.1)) (using_given q runs (All-tail (λ (r : Started). 1 ≤ r.0) run runs h))
  where
    one : (b : Bool) → All (λ (r : ℕ). 1 ≤ r) (using_runs q runs)
        → All (λ (r : ℕ). 1 ≤ r) (map (λ (r : Started). r.0) (cond b (run ∷ filter (λ (r : Started). has_number (used q r.1)) runs) (filter (λ (r : Started). has_number (used q r.1)) runs)))
    one true rest = All-cons (λ (r : ℕ). 1 ≤ r) run.0 (using_runs q runs) (All-head (λ (r : Started). 1 ≤ r.0) run runs h) rest
    one false rest = rest
