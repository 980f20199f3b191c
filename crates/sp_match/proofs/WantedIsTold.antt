-- What the runs wanted and want, against the moves.
use Rattle.std.proofs.Common.{◌≡◌, ℕ, ◌+◌, ◌<◌, Bool, true, false, cond, not, List, [], ◌∷◌, ◌++◌, map, length, take, get_or, refl, sym, ap, ◌∙◌, arith}
use Rattle.std.specs.Prelude.{if◌then◌else◌}
use Rattle.std.specs.List.{All, filter, flat_map, list_any, zip}
use Rattle.std.proofs.lemmas.Grind.{flat_map-append}
use Rattle.std.proofs.lemmas.List.{append-nil, length-take-le, take_more}
use Rattle.std.proofs.lemmas.List.Elements.{All-head, All-tail}
use Rattle.sp_plan.specs.declared.plan.Plan.{Plan}
use Rattle.sp_plan.specs.Runs.{Started, State}
use Rattle.sp_plan.specs.Moves.{Move, abandons, left, pair_given, still_wanted}
use Rattle.sp_match.specs.inside.Kept.{Kept, before, pairs, started}
use Rattle.sp_match.specs.inside.Good.{NumbersBelow, Undoes}
use Rattle.sp_match.specs.inside.Tally.{Tally, is_leaving}
use Rattle.sp_match.specs.inside.Wanted.{all_left, wanted_all, wanted_by}
use Rattle.sp_match.proofs.RunNumbersStay.{before_number}
use Rattle.sp_match.proofs.GrownRunIsGood.{looked_for}
use Rattle.sp_match.proofs.MatcherAfterEvent.{all_before_below, all_started_looked}

pub zip_push : {X Y : Type 0} (xs : List X) (ys : List Y) (x : X) (y : Y) → length xs ≡ length ys → zip (xs ++ x ∷ []) (ys ++ y ∷ []) ≡ zip xs ys ++ (x, y) ∷ []
zip_push [] [] x y same = refl
zip_push [] (b ∷ bs) x y same = absurd (omega (arith, same))
zip_push (a ∷ more) [] x y same = absurd (omega (arith, same))
zip_push (a ∷ more) (b ∷ bs) x y same = let rest : length more ≡ length bs = omega (arith, same) in ap (λ l. (a, b) ∷ l) (zip_push more bs x y rest)

-- one run more
pub wanted_more : (q : Plan) (lefts : List ℕ) (ks : List Kept) (i n : ℕ) (k : Kept) → i < length lefts → i < length ks → n ≡ get_or lefts i n → k ≡ get_or ks i k
    → wanted_all q (take (i + 1) lefts) (take (i + 1) ks) ≡ wanted_all q (take i lefts) (take i ks) ++ wanted_by q (n, k)
wanted_more q lefts ks i n k inside within left_is run_is =
    let long : length (take i lefts) ≡ length (take i ks) = length-take-le i lefts (omega (arith, inside)) ∙ sym (length-take-le i ks (omega (arith, within))) in
    (λ j. wanted_all q ((take_more lefts i n inside ∙ ap (λ (m : ℕ). take i lefts ++ m ∷ []) (sym left_is)) j) ((take_more ks i k within ∙ ap (λ (m : Kept). take i ks ++ m ∷ []) (sym run_is)) j))
    ∙ ap (flat_map (wanted_by q)) (zip_push (take i lefts) (take i ks) n k long) ∙ flat_map-append (wanted_by q) (zip (take i lefts) (take i ks)) ((n, k) ∷ [])
    ∙ ap (λ (l : List (ℕ × ℕ)). wanted_all q (take i lefts) (take i ks) ++ l) (append-nil (wanted_by q (n, k)))

-- the runs as they were, by the moves
still : (q : Plan) (n : ℕ) (ms : List Move) (ks : List Kept) → All (Tally n ms) ks → wanted_all q (all_left q (map (before n) ks)) ks
    ≡ map (λ run. (left q run.1, left q (run.1 ++ flat_map (pair_given run.0) ms))) (filter (λ run. not (list_any (abandons run.0) ms)) (map started (map (before n) ks)))
still q n ms [] tallies = refl
still q n ms (k ∷ ks) tallies =
    let own = All-head (Tally n ms) k ks tallies in
    one (is_leaving k.fate) (ap (λ (r : ℕ). list_any (abandons r) ms) (before_number n k) ∙ own.leaves)
    (ap (left q) own.given ∙ ap (λ (r : ℕ). left q (pairs (before n k) ++ flat_map (pair_given r) ms)) (sym (before_number n k)))
    (still q n ms ks (All-tail (Tally n ms) k ks tallies))
  where
    one : (b : Bool) → list_any (abandons (before n k).number) ms ≡ b → left q (pairs k) ≡ left q (pairs (before n k) ++ flat_map (pair_given (before n k).number) ms)
        → wanted_all q (all_left q (map (before n) ks)) ks
        ≡ map (λ run. (left q run.1, left q (run.1 ++ flat_map (pair_given run.0) ms))) (filter (λ run. not (list_any (abandons run.0) ms)) (map started (map (before n) ks)))
        → (if b then [] else (left q (pairs (before n k)), left q (pairs k)) ∷ []) ++ wanted_all q (all_left q (map (before n) ks)) ks
        ≡ map (λ run. (left q run.1, left q (run.1 ++ flat_map (pair_given run.0) ms)))
        (cond (not (list_any (abandons (before n k).number) ms)) (started (before n k) ∷ filter (λ run. not (list_any (abandons run.0) ms)) (map started (map (before n) ks))) (filter (λ run. not (list_any (abandons run.0) ms)) (map started (map (before n) ks))))
    one true gone now rest =
        rest ∙ λ i. map (λ run. (left q run.1, left q (run.1 ++ flat_map (pair_given run.0) ms)))
        (cond (not (sym gone i)) (started (before n k) ∷ filter (λ run. not (list_any (abandons run.0) ms)) (map started (map (before n) ks))) (filter (λ run. not (list_any (abandons run.0) ms)) (map started (map (before n) ks))))
    one false stays now rest =
        (λ i. (left q (pairs (before n k)), now i) ∷ rest i) ∙ λ i. map (λ run. (left q run.1, left q (run.1 ++ flat_map (pair_given run.0) ms)))
        (cond (not (sym stays i)) (started (before n k) ∷ filter (λ run. not (list_any (abandons run.0) ms)) (map started (map (before n) ks))) (filter (λ run. not (list_any (abandons run.0) ms)) (map started (map (before n) ks))))

-- what a run wants doesn't hang on whether it is known what it may take next
all_left_looked : (q : Plan) (ks : List Kept) → all_left q ks ≡ all_left q (map looked_for ks)
all_left_looked q [] = refl
all_left_looked q (k ∷ ks) = ap (λ (l : List ℕ). left q (pairs k) ∷ l) (all_left_looked q ks)

pub wanted_is : (q : Plan) (n : ℕ) (s : State) (ms : List Move) (old new : List Kept) → All (NumbersBelow n) old → Undoes q n old new → s.open_runs ≡ map started old → All (Tally n ms) new
    → wanted_all q (all_left q old) new ≡ still_wanted q s ms
wanted_is q n s ms old new below undoes is tallies =
    let was : map looked_for old ≡ map (before n) new = sym (undoes.before ∙ all_before_below n old below) in
    ap (λ (l : List ℕ). wanted_all q l new) (all_left_looked q old) ∙ ap (λ (l : List Kept). wanted_all q (all_left q l) new) was ∙ still q n ms new tallies
    ∙ ap (λ (l : List Started). map (λ run. (left q run.1, left q (run.1 ++ flat_map (pair_given run.0) ms))) (filter (λ run. not (list_any (abandons run.0) ms)) l)) (sym (is ∙ sym (all_started_looked old) ∙ ap (map started) was))
