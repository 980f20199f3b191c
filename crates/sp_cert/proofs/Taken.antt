-- The matches of a run fall into those of its windows.
use Rattle.std.proofs.Common.{◌≡◌, ℕ, zero, suc, ◌+◌, ◌-◌, ◌<◌, ◌≤◌, false, List, [], ◌∷◌, ◌++◌, length, map, refl, sym, ap, ◌∙◌, subst, arith, append_assoc}
use Rattle.std.specs.Prelude.{◌==◌}
use Rattle.std.specs.List.{All, enumerate_from, range_with_len}
use Rattle.std.proofs.lemmas.Bool.Decides.{nat_tests}
use Rattle.std.proofs.lemmas.List.{map-append}
use Rattle.std.proofs.lemmas.List.Concat.{flat_map-append}
use Rattle.std.proofs.lemmas.List.Elements.{All-nil, All-cons, All-head, All-tail, All-append, All-weaker}
use Rattle.sp_plan.specs.declared.event.Event.{Event}
use Rattle.sp_plan.specs.declared.plan.Plan.{Plan}
use Rattle.sp_plan.specs.declared.found.Match.{Match}
use Rattle.sp_plan.specs.Runs.{Run}
use Rattle.sp_plan.specs.Sequential.{seq, match_of}
use Rattle.sp_listing.specs.Listing.{Entry}
use Rattle.sp_cert.specs.Proofs.{own_matches, proof_of, first_proofs, matches_of}
use Rattle.sp_cert.specs.Taking.{begins_with, IsFront}
use Rattle.sp_cert.proofs.Telling.{own_are, matches_are, runs_behind}

-- the front of matches that are of a window is one alone
pub one_front : (window : ℕ) (own rest ones others : List Match) → own ++ rest ≡ ones ++ others → All (λ (m : Match). m.window ≡ window) own → begins_with window rest ≡ false
    → All (λ (m : Match). m.window ≡ window) ones → begins_with window others ≡ false → (own ≡ ones) × (rest ≡ others)
one_front window [] rest [] others same a b c d = (refl, same)
one_front window [] rest (m ∷ ones) others same a b c d =
    let is : m.window ≡ window = All-head (λ (m : Match). m.window ≡ window) m ones c in
    let off : (m.window == window) ≡ false = sym (ap (begins_with window) same) ∙ b in
    absurd (grind (arith, nat_tests))
one_front window (m ∷ own) rest [] others same a b c d =
    let is : m.window ≡ window = All-head (λ (m : Match). m.window ≡ window) m own a in
    let off : (m.window == window) ≡ false = ap (begins_with window) same ∙ d in
    absurd (grind (arith, nat_tests))
one_front window (m ∷ own) rest (k ∷ ones) others same a b c d =
    let first : m ≡ k = cc same in
    let tails : own ++ rest ≡ ones ++ others = cc same in
    let all = one_front window own rest ones others tails (All-tail (λ (m : Match). m.window ≡ window) m own a) b (All-tail (λ (m : Match). m.window ≡ window) k ones c) d in
    (λ i. first i ∷ all.0 i, all.1)

-- a range in two
range_joined : (a m n : ℕ) → range_with_len a (m + n) ≡ range_with_len a m ++ range_with_len (a + m) n
range_joined a zero n = let at : a ≡ a + zero = omega arith in let size : zero + n ≡ n = omega arith in λ i. range_with_len (at i) (size i)
range_joined a (suc m) n =
    let size : suc m + n ≡ suc (m + n) = omega arith in
    let at : a + 1 + m ≡ a + suc m = omega arith in
    ap (range_with_len a) size ∙ ap (λ l. a ∷ l) (range_joined (a + 1) m n ∙ ap (λ k. range_with_len (a + 1) m ++ range_with_len k n) at)

module _ (q : Plan) (events : List Event) where
  -- the matches of a window are of it
  of_window : (n : ℕ) → All (λ (m : Match). m.window ≡ suc n) (own_matches q events (suc n))
  of_window n = subst (All (λ (m : Match). m.window ≡ suc n)) (sym (own_are q events n)) (from (length (seq q events n).matches + 1) (runs_behind q events n))
    where
      from : (first : ℕ) (runs : List Run) → All (λ (m : Match). m.window ≡ suc n) (map (match_of q (suc n)) (enumerate_from first runs))
      from first [] = All-nil (λ (m : Match). m.window ≡ suc n)
      from first (run ∷ runs) = All-cons (λ (m : Match). m.window ≡ suc n) (match_of q (suc n) (first, run)) (map (match_of q (suc n)) (enumerate_from (first + 1) runs)) refl (from (first + 1) runs)

  -- those of windows from one on
  abbrev pub from_window : ℕ → ℕ → List Match
  from_window a k = matches_of (map (proof_of q events) (range_with_len a k))

  behind : (a k w : ℕ) → w ≤ a → All (λ (m : Match). (m.window == w) ≡ false) (from_window (suc a) k)
  behind a zero w low = All-nil (λ (m : Match). (m.window == w) ≡ false)
  behind a (suc k) w low =
      let at : suc a + 1 ≡ suc (suc a) = omega arith in
      All-append (λ (m : Match). (m.window == w) ≡ false) (own_matches q events (suc a)) (from_window (suc a + 1) k)
      (All-weaker (λ (m : Match). m.window ≡ suc a) (λ (m : Match). (m.window == w) ≡ false) (λ m is. (let apart : w < m.window = omega arith in grind (arith, nat_tests))) (own_matches q events (suc a)) (of_window a))
      (subst (λ n. All (λ (m : Match). (m.window == w) ≡ false) (from_window n k)) (sym at) (behind (suc a) k w (omega arith)))

  begins_behind : (a k w : ℕ) → w ≤ a → begins_with w (from_window (suc a) k) ≡ false
  begins_behind a k w low = by (from_window (suc a) k) (behind a k w low)
    where
      by : (ms : List Match) → All (λ (m : Match). (m.window == w) ≡ false) ms → begins_with w ms ≡ false
      by [] all = refl
      by (m ∷ ms) all = All-head (λ (m : Match). (m.window == w) ≡ false) m ms all

  -- the matches of all windows: those of the first n, those of the next one, and the others
  parts : (n k : ℕ) → (seq q events (n + suc k)).matches ≡ (seq q events n).matches ++ (own_matches q events (suc n) ++ from_window (suc (suc n)) k)
  parts n k =
      let at : 1 + n ≡ suc n = omega arith in
      let more : suc n + 1 ≡ suc (suc n) = omega arith in
      sym (matches_are q events (n + suc k))
      ∙ ap (λ l. matches_of (map (proof_of q events) l)) (range_joined 1 n (suc k))
      ∙ ap matches_of (map-append (proof_of q events) (range_with_len 1 n) (range_with_len (1 + n) (suc k)))
      ∙ flat_map-append (λ (e : Entry). e.matches) (first_proofs q events n) (map (proof_of q events) (range_with_len (1 + n) (suc k)))
      ∙ (λ i. matches_are q events n i ++ from_window (at i) (suc k))
      ∙ ap (λ m. (seq q events n).matches ++ (own_matches q events (suc n) ++ from_window m k)) more

  -- what is left behind the first n windows begins with the matches of the next one
  pub front_is : (n all : ℕ) (rest own others : List Match) → n < all → (seq q events all).matches ≡ (seq q events n).matches ++ rest → IsFront (suc n) rest own others
      → (own ≡ own_matches q events (suc n)) × ((seq q events all).matches ≡ (seq q events (suc n)).matches ++ others)
  front_is n all rest own others low left front =
      let k : ℕ = all - suc n in
      let count : n + suc k ≡ all = omega arith in
      let later = from_window (suc (suc n)) k in
      let split : (seq q events all).matches ≡ (seq q events n).matches ++ (own_matches q events (suc n) ++ later) = ap (λ m. (seq q events m).matches) (sym count) ∙ parts n k in
      let rest_is : rest ≡ own_matches q events (suc n) ++ later = append_cancel (seq q events n).matches rest (own_matches q events (suc n) ++ later) (sym left ∙ split) in
      let both = one_front (suc n) own others (own_matches q events (suc n)) later (sym front.parts ∙ rest_is) front.own_are front.stops (of_window n) (begins_behind (suc n) k (suc n) (omega arith)) in
      (both.0, left ∙ ap (λ l. (seq q events n).matches ++ l) (front.parts ∙ ap (λ l. l ++ others) (both.0 ∙ own_are q events n)) ∙ sym (append_assoc (seq q events n).matches (map (match_of q (suc n)) (enumerate_from (length (seq q events n).matches + 1) (runs_behind q events n))) others))
    where
      append_cancel : (xs ys zs : List Match) → xs ++ ys ≡ xs ++ zs → ys ≡ zs
      append_cancel [] ys zs same = same
      append_cancel (x ∷ xs) ys zs same = let rest : xs ++ ys ≡ xs ++ zs = cc same in append_cancel xs ys zs rest
