-- Matches that get their numbers one after another.
use Rattle.std.proofs.Common.{◌≡◌, ℕ, zero, suc, ◌+◌, ◌<◌, List, [], ◌∷◌, ◌++◌, length, map, take, drop, get_or, set, refl, sym, ap, ◌∙◌, arith, add-one}
use Rattle.std.specs.List.{enumerate_from}
use Rattle.sp_plan.specs.declared.found.Match.{Match}
use Rattle.sp_plan.specs.declared.plan.Plan.{Plan}
use Rattle.sp_plan.specs.Runs.{Run}
use Rattle.sp_plan.specs.Sequential.{match_of}
use Rattle.sp_core.specs.Finishing.{numbered}

-- the next match gets the next number
next_numbered : (i n first : ℕ) (was : List Match) (d : Match) → i < length was → n ≡ first + i
    → set (numbered first (take i was) ++ drop i was) i (record (get_or (numbered first (take i was) ++ drop i was) i d) { number = n })
    ≡ numbered first (take (suc i) was) ++ drop (suc i) was
next_numbered i n first [] d within is = absurd (omega arith)
next_numbered zero n first (x ∷ xs) d within is = let same : n ≡ first = omega arith in ap (λ k. record x { number = k } ∷ xs) same
next_numbered (suc i) n first (x ∷ xs) d within is =
    ap (λ (ms : List Match). record x { number = first } ∷ ms) (next_numbered i n (first + 1) xs d (omega arith) (omega arith))

pub more_numbered : (i n first : ℕ) (was now : List Match) (d : Match) → i < length was → n ≡ first + i → now ≡ numbered first (take i was) ++ drop i was
    → set now i (record (get_or now i d) { number = n }) ≡ numbered first (take (i + 1) was) ++ drop (i + 1) was
more_numbered i n first was now d within is now_is =
    ap (λ (ms : List Match). set ms i (record (get_or ms i d) { number = n })) now_is
    ∙ next_numbered i n first was d within is
    ∙ ap (λ k. numbered first (take k was) ++ drop k was) (sym (add-one i))

-- matches with no number yet, and with their numbers
pub numbered_on : (q : Plan) (window first : ℕ) (runs : List Run)
    → numbered first (map (λ run. match_of q window (0, run)) runs) ≡ map (match_of q window) (enumerate_from first runs)
numbered_on q window first [] = refl
numbered_on q window first (run ∷ runs) = ap (λ (ms : List Match). match_of q window (first, run) ∷ ms) (numbered_on q window (first + 1) runs)

pub length_numbered : (first : ℕ) (ms : List Match) → length (numbered first ms) ≡ length ms
length_numbered first [] = refl
length_numbered first (m ∷ ms) = ap suc (length_numbered (first + 1) ms)
