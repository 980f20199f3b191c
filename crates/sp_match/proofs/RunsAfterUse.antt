-- Runs that are marked to leave, one after another.
use Rattle.std.proofs.Common.{◌≡◌, ℕ, ◌+◌, ◌-◌, ◌<◌, ◌≤◌, List, [], ◌∷◌, ◌++◌, map, length, take, drop, take-append-drop, get_or, set, refl, sym, ap, ◌∙◌, arith}
use Rattle.std.specs.List.{All, flat_map}
use Rattle.std.proofs.lemmas.List.{map-append, take_more, append-nil, get_or-append_right, get_or-drop, length-map, length-take-le, take_all, drop_all}
use Rattle.std.proofs.lemmas.Grind.{flat_map-append}
use Rattle.std.proofs.lemmas.List.Edits.{map_over_more}
use Rattle.std.proofs.lemmas.List.Elements.{All-append, All-map, All-weaker, All-take, All-drop}
use Rattle.sp_plan.specs.declared.plan.Plan.{Plan}
use Rattle.sp_plan.specs.Moves.{Told}
use Rattle.sp_match.specs.inside.Kept.{Kept, before}
use Rattle.sp_match.specs.inside.Good.{Good, Undoes}
use Rattle.sp_match.specs.inside.Effects.{run_after_use, use_told}
use Rattle.sp_match.proofs.GrownRunIsGood.{before_fate, good_fate}

-- the first runs marked, the others as they were
abbrev pub after_use_to : List ℕ → ℕ → List Kept → List Kept
after_use_to ns i ks = map (run_after_use ns) (take i ks) ++ drop i ks

-- what is told of the first runs
abbrev pub told_to : List ℕ → ℕ → List Kept → List Told
told_to ns i ks = flat_map (use_told ns) (take i ks)

marked_before : (n : ℕ) (ns : List ℕ) (k : Kept) → before n (run_after_use ns k) ≡ before n k
marked_before n ns k = before_fate n (run_after_use ns k).fate k

marked_good : (q : Plan) (ns : List ℕ) (k : Kept) → Good q k → Good q (run_after_use ns k)
marked_good q ns k g = good_fate q (run_after_use ns k).fate k g

pub all_before : (n : ℕ) (ns : List ℕ) (ks : List Kept) → map (before n) (map (run_after_use ns) ks) ≡ map (before n) ks
all_before n ns [] = refl
all_before n ns (k ∷ ks) = λ i. marked_before n ns k i ∷ all_before n ns ks i

pub all_good : (q : Plan) (ns : List ℕ) (ks : List Kept) → All (Good q) ks → All (Good q) (map (run_after_use ns) ks)
all_good q ns ks good = All-map (Good q) (run_after_use ns) ks (All-weaker (Good q) (λ k. Good q (run_after_use ns k)) (marked_good q ns) ks good)

-- runs that are marked can be undone
pub after_use_undoes : (q : Plan) (n : ℕ) (ns : List ℕ) (i : ℕ) (ks : List Kept) → All (Good q) ks → Undoes q n ks (after_use_to ns i ks)
after_use_undoes q n ns i ks good = record {
  good = All-append (Good q) (map (run_after_use ns) (take i ks)) (drop i ks) (all_good q ns (take i ks) (All-take (Good q) i ks good)) (All-drop (Good q) i ks good);
  before = map-append (before n) (map (run_after_use ns) (take i ks)) (drop i ks) ∙ ap (λ rest. rest ++ map (before n) (drop i ks)) (all_before n ns (take i ks))
      ∙ sym (map-append (before n) (take i ks) (drop i ks)) ∙ ap (map (before n)) (take-append-drop i ks);
}

-- one run more
pub after_use_more : (ns : List ℕ) (ks ys : List Kept) (i : ℕ) (k : Kept) → i < length ks → ys ≡ after_use_to ns i ks → k ≡ get_or ys i k → set ys i (run_after_use ns k) ≡ after_use_to ns (i + 1) ks
after_use_more ns ks ys i k within is at = map_over_more (run_after_use ns) ks ys i k within is at

-- where the first elements have been mapped, the one at hand is as it was
pub over_at : {X : Type 0} (f : X → X) (xs ys : List X) (i : ℕ) (x : X) → i < length xs → ys ≡ map f (take i xs) ++ drop i xs → x ≡ get_or ys i x → x ≡ get_or xs i x
over_at f xs ys i x within is at =
    let front : length (map f (take i xs)) ≡ i = length-map (take i xs) f ∙ length-take-le i xs (omega arith) in
    let here : i - i ≡ 0 = omega arith in
    let there : i + 0 ≡ i = omega arith in
    at ∙ ap (λ l. get_or l i x) is ∙ get_or-append_right (map f (take i xs)) (drop i xs) i i x front (omega arith)
    ∙ ap (λ n. get_or (drop i xs) n x) here ∙ get_or-drop i xs 0 x ∙ ap (λ n. get_or xs n x) there

-- the run at hand is as it was
pub after_use_at : (ns : List ℕ) (ks ys : List Kept) (i : ℕ) (k : Kept) → i < length ks → ys ≡ after_use_to ns i ks → k ≡ get_or ys i k → k ≡ get_or ks i k
after_use_at ns ks ys i k within is at = over_at (run_after_use ns) ks ys i k within is at

pub told_more : (ns : List ℕ) (ks : List Kept) (i : ℕ) (k : Kept) → i < length ks → k ≡ get_or ks i k → told_to ns (i + 1) ks ≡ told_to ns i ks ++ use_told ns k
told_more ns ks i k within at =
    ap (flat_map (use_told ns)) (take_more ks i k within ∙ ap (λ x. take i ks ++ x ∷ []) (sym at))
    ∙ flat_map-append (use_told ns) (take i ks) (k ∷ []) ∙ ap (λ l. told_to ns i ks ++ l) (append-nil (use_told ns k))

pub all_after_use : (ns : List ℕ) (i : ℕ) (ks : List Kept) → length ks ≤ i → after_use_to ns i ks ≡ map (run_after_use ns) ks
all_after_use ns i ks done = (λ j. map (run_after_use ns) (take_all i ks done j) ++ drop_all i ks done j) ∙ append-nil (map (run_after_use ns) ks)

pub all_told : (ns : List ℕ) (i : ℕ) (ks : List Kept) → length ks ≤ i → told_to ns i ks ≡ flat_map (use_told ns) ks
all_told ns i ks done = ap (flat_map (use_told ns)) (take_all i ks done)
