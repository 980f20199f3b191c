-- Matches one after another: the runs that they tell of, and their numbers.
use Rattle.std.proofs.Common.{◌≡◌, ℕ, zero, suc, ◌+◌, ◌<◌, List, [], ◌∷◌, ◌++◌, length, get_or, map, take, sym, ap, ◌∙◌, subst, arith}
use Rattle.std.specs.List.{All}
use Rattle.std.proofs.lemmas.List.{take_more, map-append}
use Rattle.std.proofs.lemmas.List.Elements.{All-push}
use Rattle.sp_plan.specs.declared.found.Match.{Match}
use Rattle.sp_scan.specs.declared.found.Found.{Found}
use Rattle.sp_cert.specs.Checking.{run_of, TellsOf, TellOf, GoOn}

-- one match more
pub tell_more : (window i : ℕ) (ms : List Match) (rs : List Found) (m : Match) (r : Found) → i < length ms → i < length rs → m ≡ get_or ms i m → r ≡ get_or rs i r
    → TellOf window (take i ms) (take i rs) → TellsOf window m r → TellOf window (take (i + 1) ms) (take (i + 1) rs)
tell_more window i ms rs m r in_ms in_rs m_is r_is so_far one =
    let front : take (i + 1) ms ≡ take i ms ++ m ∷ [] = take_more ms i m in_ms ∙ ap (λ (x : Match). take i ms ++ x ∷ []) (sym m_is) in
    let runs : take (i + 1) rs ≡ take i rs ++ r ∷ [] = take_more rs i r in_rs ∙ ap (λ (x : Found). take i rs ++ x ∷ []) (sym r_is) in
    record {
      windows_are = subst (All (λ (x : Match). x.window ≡ window)) (sym front) (All-push (λ (x : Match). x.window ≡ window) (take i ms) m so_far.windows_are one.window_is);
      runs_are = ap (map run_of) front ∙ map-append run_of (take i ms) (m ∷ []) ∙ (λ j. so_far.runs_are j ++ one.run_is j ∷ []) ∙ sym runs;
    }

-- the number of the match at a place, where they go on by one
pub number_at : (number i : ℕ) (ms : List Match) (d : Match) → i < length ms → GoOn number ms → (get_or ms i d).number ≡ number + i + 1
number_at number i [] d within on = absurd (omega arith)
number_at number zero (m ∷ ms) d within on = let own : m.number ≡ number + 1 = cc on in omega arith
number_at number (suc i) (m ∷ ms) d within on =
    let rest : GoOn (number + 1) ms = cc on in
    let at = number_at (number + 1) i ms d (omega arith) rest in
    omega arith

-- one match more that goes on
number_next : (number i : ℕ) (ms : List Match) (d : Match) → i < length ms → GoOn number (take i ms) → (get_or ms i d).number ≡ number + i + 1 → GoOn number (take (suc i) ms)
number_next number i [] d within on is = absurd (omega arith)
number_next number zero (m ∷ ms) d within on is = let own : m.number ≡ number + 1 = omega (arith, is) in ap (λ (n : ℕ). n ∷ []) own
number_next number (suc i) (m ∷ ms) d within on is =
    let own : m.number ≡ number + 1 = cc on in
    let rest : GoOn (number + 1) (take i ms) = cc on in
    let more = number_next (number + 1) i ms d (omega arith) rest (omega (arith, is)) in
    λ j. own j ∷ more j

pub go_on_more : (number i : ℕ) (ms : List Match) (d : Match) → i < length ms → GoOn number (take i ms) → (get_or ms i d).number ≡ number + i + 1 → GoOn number (take (i + 1) ms)
go_on_more number i ms d within on is = let one : suc i ≡ i + 1 = omega arith in subst (λ (n : ℕ). GoOn number (take n ms)) one (number_next number i ms d within on is)
