-- Many pairs learned at once.
use Rattle.std.proofs.Common.{◌≡◌, ℕ, zero, suc, ◌+◌, ◌-◌, ◌<◌, ◌≤◌, ◌==◌, true, false, cond, List, [], ◌∷◌, ◌++◌, length, take, drop, get_or, replicate, refl, sym, ap, ◌∙◌, arith, length-append, length-drop, drop-drop, append_assoc}
use Rattle.std.specs.List.{All}
use Rattle.std.proofs.lemmas.Grind.{flat_map-append}
use Rattle.std.proofs.lemmas.List.{append-nil, drop-append-le, length-replicate, replicate-append-replicate, take_more}
use Rattle.std.proofs.lemmas.List.Elements.{All-head, All-replicate, All-tail}
use Rattle.std.proofs.lemmas.List.Sums.{fold-append}
use Rattle.std.proofs.lemmas.Bool.Decides.{nat_tests}
use Rattle.circular_buffer.specs.Buffer.{keep_last}
use Rattle.sp_base.specs.Limits.{renewal}
use Rattle.sp_wants.specs.declared.stretch.Stretch.{Stretch}
use Rattle.sp_wants.specs.Stretches.{all_pairs, pairs_of}
use Rattle.sp_chance.specs.Counted.{IsMove}
use Rattle.sp_chance.specs.Learned.{Learned, is_move, learned, learned_all, turned, with_pair}

module _ {A : Type 0} where
  -- the last ones of the last ones and of what comes behind
  pub keep_twice : (xs ys : List A) → keep_last 256 (keep_last 256 xs ++ ys) ≡ keep_last 256 (xs ++ ys)
  keep_twice xs ys =
      let k : ℕ = length xs - 256 in
      let zs : List A = xs ++ ys in
      let long : length zs ≡ length xs + length ys = length-append xs ys in
      let front : drop k xs ++ ys ≡ drop k zs = sym (drop-append-le k xs ys (omega arith)) in
      let left : length (drop k zs) ≡ length zs - k = length-drop k zs in
      let same : k + (length (drop k zs) - 256) ≡ length zs - 256 = omega (arith, long, left) in
      ap (keep_last 256) front
      ∙ drop-drop (length (drop k zs) - 256) k zs
      ∙ ap (λ n. drop n zs) same

-- the pairs of a stretch stand behind those of the ones in front of it
pub stretch_more : (xs : List Stretch) (i : ℕ) (d : Stretch) → i < length xs → all_pairs (take (i + 1) xs) ≡ all_pairs (take i xs) ++ pairs_of (get_or xs i d)
stretch_more xs i d within =
    let s : Stretch = get_or xs i d in
    ap all_pairs (take_more xs i d within) ∙ flat_map-append pairs_of (take i xs) (s ∷ []) ∙ ap (λ (l : List (ℕ × ℕ)). all_pairs (take i xs) ++ l) (append-nil (pairs_of s))

counts : (p : ℕ × ℕ) → IsMove p → is_move p.0 p.1 ≡ true
counts p move = let some = move.some in let most = move.most in let falls = move.falls in grind (arith, nat_tests)

-- what pairs that count lead to, up to a turn at most
pub after_moves : Learned → List (ℕ × ℕ) → Learned
after_moves m pairs =
    let ring : List (ℕ × ℕ) = keep_last 256 (m.ring ++ pairs) in
    cond (m.since + length pairs == renewal) (record { ring = ring; since = 0; built = ring }) (record { ring = ring; since = m.since + length pairs; built = m.built })

one_learned : (m : Learned) (p : ℕ × ℕ) → IsMove p → learned m p.0 p.1 ≡ after_moves m (p ∷ [])
unfolding after_moves
one_learned m p move = ap (λ b. cond b (turned m (with_pair m.ring p.0 p.1)) m) (counts p move)

pub moves_learned : (m : Learned) (p : ℕ × ℕ) (pairs : List (ℕ × ℕ)) → All IsMove (p ∷ pairs) → m.since + length (p ∷ pairs) ≤ renewal → learned_all m (p ∷ pairs) ≡ after_moves m (p ∷ pairs)
unfolding after_moves
moves_learned m p [] moves within = one_learned m p (All-head IsMove p [] moves)
moves_learned m p (r ∷ rs) moves within =
    let ring : List (ℕ × ℕ) = keep_last 256 (m.ring ++ p ∷ []) in
    let next : Learned = record { ring = ring; since = m.since + 1; built = m.built } in
    let no_turn : (m.since + 1 == renewal) ≡ false = grind (arith, nat_tests) in
    let first : learned m p.0 p.1 ≡ next =
    one_learned m p (All-head IsMove p (r ∷ rs) moves)
    ∙ ap (λ b. cond b (record { ring = ring; since = 0; built = ring }) next) no_turn in
    let kept : keep_last 256 (ring ++ r ∷ rs) ≡ keep_last 256 (m.ring ++ p ∷ r ∷ rs) =
    keep_twice (m.ring ++ p ∷ []) (r ∷ rs) ∙ ap (keep_last 256) (append_assoc m.ring (p ∷ []) (r ∷ rs)) in
    let long : m.since + 1 + length (r ∷ rs) ≡ m.since + length (p ∷ r ∷ rs) = omega arith in
    ap (λ n. learned_all n (r ∷ rs)) first
    ∙ moves_learned next r rs (All-tail IsMove p (r ∷ rs) moves) (omega (arith, within))
    ∙ (λ i. cond (long i == renewal) (record { ring = kept i; since = 0; built = kept i }) (record { ring = kept i; since = long i; built = m.built }))

-- the same pair so many times, up to a turn at most
pub times_learned : (m : Learned) (p : ℕ × ℕ) (n : ℕ) → IsMove p → 0 < n → m.since + n ≤ renewal
    → learned_all m (replicate n p)
    ≡ cond (m.since + n == renewal) (record { ring = keep_last 256 (m.ring ++ replicate n p); since = 0; built = keep_last 256 (m.ring ++ replicate n p) })
    (record { ring = keep_last 256 (m.ring ++ replicate n p); since = m.since + n; built = m.built })
unfolding after_moves
times_learned m p zero move some within = absurd (omega (arith, some))
times_learned m p (suc n) move some within =
    let pairs : List (ℕ × ℕ) = replicate (suc n) p in
    let kept : List (ℕ × ℕ) = keep_last 256 (m.ring ++ pairs) in
    let long : m.since + length pairs ≡ m.since + suc n = ap (λ k. m.since + k) (length-replicate (suc n) p) in
    moves_learned m p (replicate n p) (All-replicate IsMove (suc n) p move) (omega (arith, long, within))
    ∙ (λ i. cond (long i == renewal) (record { ring = kept; since = 0; built = kept }) (record { ring = kept; since = long i; built = m.built }))

-- a pair that doesn't count is passed over, as often as it comes
pub passed_over : (m : Learned) (from to n : ℕ) → is_move from to ≡ false → learned_all m (replicate n (from, to)) ≡ m
passed_over m from to zero not = refl
passed_over m from to (suc n) not =
    ap (λ k. learned_all k (replicate n (from, to))) (ap (λ b. cond b (turned m (with_pair m.ring from to)) m) not) ∙ passed_over m from to n not

-- some times, and then some times more
pub more_times : (m : Learned) (p : ℕ × ℕ) (n k : ℕ) → learned_all (learned_all m (replicate n p)) (replicate k p) ≡ learned_all m (replicate (n + k) p)
more_times m p n k =
    sym (fold-append (λ (l : Learned) (q : ℕ × ℕ). learned l q.0 q.1) m (replicate n p) (replicate k p))
    ∙ ap (learned_all m) (replicate-append-replicate n k p)

-- a stretch more
pub stretch_learned : (m : Learned) (xs : List Stretch) (i : ℕ) (d : Stretch) → i < length xs
    → learned_all (learned_all m (all_pairs (take i xs))) (pairs_of (get_or xs i d)) ≡ learned_all m (all_pairs (take (i + 1) xs))
stretch_learned m xs i d within =
    sym (fold-append (λ (l : Learned) (q : ℕ × ℕ). learned l q.0 q.1) m (all_pairs (take i xs)) (pairs_of (get_or xs i d)))
    ∙ ap (learned_all m) (sym (stretch_more xs i d within))
