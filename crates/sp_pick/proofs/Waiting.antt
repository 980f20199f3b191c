-- The heap of the versions that wait in front: each stands there once, by its rank.
use Rattle.std.proofs.Common.{◌≡◌, ℕ, zero, suc, ◌+◌, Bool, true, false, cond, ◌==◌, ◌&&◌, List, [], ◌∷◌, ◌++◌, length, map, filter, All}
use Rattle.std.proofs.Common.{IsPermutation, Option, Some, None, is_none, refl, sym, ap, subst, ◌∙◌, arith}
use Rattle.std.specs.BinaryHeap.{IsUpperBound}
use Rattle.std.specs.List.{AllByRecursion}
use Rattle.std.specs.Ordering.{is_lt}
use Rattle.std.proofs.lemmas.Bool.{eqb-true, eq-eqb}
use Rattle.std.proofs.lemmas.Bool.Decides.{nat_tests}
use Rattle.std.proofs.lemmas.List.{length-append}
use Rattle.std.proofs.lemmas.List.Elements.{All-append, All-head, All-map, All-tail, recursion_from_All, filter-append}
use Rattle.std.proofs.lemmas.List.Sorted.{All-permutation, IsPermutation-reverse, sum_by-IsPermutation}
use Rattle.std.proofs.lemmas.List.Sums.{length-filter}
use Rattle.sp_group.specs.Family.{is_parent}
use Rattle.sp_tree.specs.Grown.{Entry, FallFrom}
use Rattle.sp_tree.specs.Paths.{ids_under}
use Rattle.sp_pick.specs.declared.picking.Rank.{Rank}
use Rattle.sp_pick.specs.Ranks.{rank_cmp, rank_in, ids_by}
use Rattle.sp_pick.proofs.Found.{live_in, parent_in, found}
use Rattle.sp_pick.proofs.Fronts.{once, is_front, parent_out, AreHung, AreOut, IsFront, front_is, front_more}
use Rattle.sp_pick.proofs.Ranking.{is_before, rank_as_key}
use Rattle.sp_pick.proofs.Taken.{is_it, with_out}

-- whether a rank is that of the version
abbrev pub has_id : ℕ → Rank → Bool
has_id id rank = rank.id.0 == id

-- a test passes as often in either order
pub same_count : {X : Type 0} (p : X → Bool) (xs ys : List X) → IsPermutation xs ys → length (filter p ys) ≡ length (filter p xs)
same_count p xs ys moved = length-filter p ys ∙ sum_by-IsPermutation (λ x. cond (p x) 1 0) xs ys moved ∙ sym (length-filter p xs)

module _ {V : Type 0} (shares : ℕ → ℕ → ℕ) (es : List (Entry V)) where
  count_ranks : (id : ℕ) (ids : List ℕ) → length (filter (has_id id) (map (rank_in shares es) ids)) ≡ length (filter (is_it id) ids)
  count_ranks id [] = refl
  count_ranks id (x ∷ ids) = one (x == id) (count_ranks id ids)
    where
      one : (b : Bool) → length (filter (has_id id) (map (rank_in shares es) ids)) ≡ length (filter (is_it id) ids)
          → length (cond b (rank_in shares es x ∷ filter (has_id id) (map (rank_in shares es) ids))
          (filter (has_id id) (map (rank_in shares es) ids)))
          ≡ length (cond b (x ∷ filter (is_it id) ids) (filter (is_it id) ids))
      one true rest = ap suc rest
      one false rest = rest

  are_ranks : (ids : List ℕ) → All (λ (rank : Rank). rank ≡ rank_in shares es rank.id.0) (map (rank_in shares es) ids)
  are_ranks ids = All-map (λ (rank : Rank). rank ≡ rank_in shares es rank.id.0) (rank_in shares es) ids (λ k d within. refl)

  -- those in the heap, in any order, are those in front, once each
  pub record AreWaiting (out : ℕ → Bool) (heap : List Rank) : Type 0 where
    pub ranked : All (λ (rank : Rank). rank ≡ rank_in shares es rank.id.0) heap
    pub counts : (id : ℕ) → length (filter (has_id id) heap) ≡ once (is_front (live_in es) (parent_in es) out id)

  -- at first the root
  pub root_waits : (top : ℕ) → FallFrom top es → (heap : List Rank) → IsPermutation (map (rank_in shares es) (ids_by is_none es)) heap
      → AreWaiting (λ _. false) heap
  root_waits top fall heap moved = record {
    ranked = All-permutation (λ (rank : Rank). rank ≡ rank_in shares es rank.id.0) (map (rank_in shares es) (ids_by is_none es)) heap moved
        (are_ranks (ids_by is_none es));
    counts = λ id.
        same_count (has_id id) (map (rank_in shares es) (ids_by is_none es)) heap moved ∙ count_ranks id (ids_by is_none es)
        ∙ found is_none id top es fall
        ∙ ap (λ (b : Bool). once (live_in es id && b)) (top_in (parent_in es id));
  }
    where
      top_in : (o : Option ℕ) → is_none o ≡ parent_out (λ _. false) o
      top_in None = refl
      top_in (Some p) = refl

  -- what comes out of the heap was in front
  pub record IsNextOut (out : ℕ → Bool) (heap : List Rank) (rank : Rank) : Type 0 where
    pub ranked : rank ≡ rank_in shares es rank.id.0
    pub front : IsFront (live_in es) (parent_in es) out rank.id.0

  pub next_out : (out : ℕ → Bool) (heap rest : List Rank) (rank : Rank) → AreWaiting out heap → IsPermutation heap (rank ∷ rest)
      → IsNextOut out heap rank
  next_out out heap rest rank are moved = record {
    ranked = All-head (λ (r : Rank). r ≡ rank_in shares es r.id.0) rank rest
        (All-permutation (λ (r : Rank). r ≡ rank_in shares es r.id.0) heap (rank ∷ rest) moved are.ranked);
    front = front_is (live_in es) (parent_in es) out rank.id.0 (one (is_front (live_in es) (parent_in es) out rank.id.0) refl);
  }
    where
      many : suc (length (filter (has_id rank.id.0) rest)) ≡ once (is_front (live_in es) (parent_in es) out rank.id.0)
      many =
          sym (ap (λ (b : Bool). length (cond b (rank ∷ filter (has_id rank.id.0) rest) (filter (has_id rank.id.0) rest)))
          (eq-eqb rank.id.0 rank.id.0 refl))
          ∙ same_count (has_id rank.id.0) heap (rank ∷ rest) moved ∙ are.counts rank.id.0

      one : (b : Bool) → is_front (live_in es) (parent_in es) out rank.id.0 ≡ b → is_front (live_in es) (parent_in es) out rank.id.0 ≡ true
      one true is = is
      one false is = let none : suc (length (filter (has_id rank.id.0) rest)) ≡ 0 = many ∙ ap once is in absurd (omega arith)

  -- and its children come in its place
  pub children_wait : (top : ℕ) → FallFrom top es → (out : ℕ → Bool) (heap rest heap' : List Rank) (rank : Rank) → AreHung (live_in es) (parent_in es)
      → AreOut (live_in es) (parent_in es) out
      → AreWaiting out heap → IsPermutation heap (rank ∷ rest) → IsPermutation (rest ++ map (rank_in shares es) (ids_under es rank.id.0)) heap'
      → AreWaiting (with_out rank.id.0 out) heap'
  children_wait top fall out heap rest heap' rank hung are waiting moved moved' = record {
    ranked =
        All-permutation (λ (r : Rank). r ≡ rank_in shares es r.id.0) (rest ++ map (rank_in shares es) (ids_under es rank.id.0)) heap' moved'
        (All-append (λ (r : Rank). r ≡ rank_in shares es r.id.0) rest (map (rank_in shares es) (ids_under es rank.id.0))
        (All-tail (λ (r : Rank). r ≡ rank_in shares es r.id.0) rank rest
        (All-permutation (λ (r : Rank). r ≡ rank_in shares es r.id.0) heap (rank ∷ rest) moved waiting.ranked))
        (are_ranks (ids_under es rank.id.0)));
    counts = λ id. one id (rank.id.0 == id) refl;
  }
    where
      r : ℕ
      r = rank.id.0

      kids : (id : ℕ) → length (filter (has_id id) (map (rank_in shares es) (ids_under es rank.id.0)))
          ≡ once (live_in es id && is_parent rank.id.0 (parent_in es id))
      kids id =
          count_ranks id (ids_under es rank.id.0)
          ∙ same_count (is_it id) (ids_by (is_parent rank.id.0) es) (ids_under es rank.id.0) (IsPermutation-reverse (ids_by (is_parent rank.id.0) es))
          ∙ found (is_parent rank.id.0) id top es fall

      turned : (id : ℕ) (b : Bool) → (rank.id.0 == id) ≡ b → (id == rank.id.0) ≡ b
      turned id true is = eq-eqb id rank.id.0 (sym (eqb-true rank.id.0 id is))
      turned id false is = grind (arith, nat_tests)

      one : (id : ℕ) (b : Bool) → (rank.id.0 == id) ≡ b → length (filter (has_id id) heap')
          ≡ once (is_front (live_in es) (parent_in es) (with_out rank.id.0 out) id)
      one id b is =
          let now = same_count (has_id id) (rest ++ map (rank_in shares es) (ids_under es rank.id.0)) heap' moved' in
          let parts = ap length (filter-append (has_id id) rest (map (rank_in shares es) (ids_under es rank.id.0)))
          ∙ length-append (filter (has_id id) rest) (filter (has_id id) (map (rank_in shares es) (ids_under es rank.id.0))) in
          let children = kids id in
          let before = same_count (has_id id) heap (rank ∷ rest) moved ∙ waiting.counts id in
          let first : length (cond b (rank ∷ filter (has_id id) rest) (filter (has_id id) rest)) ≡ once (is_front (live_in es) (parent_in es) out id)
          = sym (ap (λ (c : Bool). length (cond c (rank ∷ filter (has_id id) rest) (filter (has_id id) rest))) is) ∙ before in
          let more = front_more (live_in es) (parent_in es) out rank.id.0 hung are (next_out out heap rest rank waiting moved).front id in
          let itself : once (id == rank.id.0) ≡ once b = ap once (turned id b is) in
          let one_of = first_of b (filter (has_id id) rest) in
          omega arith
        where
          first_of : (b : Bool) (ranks : List Rank) → length (cond b (rank ∷ ranks) ranks) ≡ once b + length ranks
          first_of true ranks = omega arith
          first_of false ranks = omega arith

  -- one of the heap that has the id
  one_of : (P : Rank → Type 0) (id : ℕ) (heap : List Rank) → AllByRecursion P heap → length (filter (has_id id) heap) ≡ 1 → (rank : Rank) × P rank
      × (rank.id.0 ≡ id)
  one_of P id [] all many = absurd (omega arith)
  one_of P id (rank ∷ heap) all many = one (rank.id.0 == id) refl many (λ m. one_of P id heap all.1 m)
    where
      one : (b : Bool) → (rank.id.0 == id) ≡ b → length (cond b (rank ∷ filter (has_id id) heap) (filter (has_id id) heap)) ≡ 1
          → (length (filter (has_id id) heap) ≡ 1 → (r : Rank) × P r × (r.id.0 ≡ id)) → (r : Rank) × P r × (r.id.0 ≡ id)
      one true is many rest = (rank, all.0, eqb-true rank.id.0 id is)
      one false is many rest = rest many

  -- none in front comes before the greatest rank
  pub front_behind : (out : ℕ → Bool) (heap : List Rank) (rank : Rank) → AreWaiting out heap → rank ≡ rank_in shares es rank.id.0
      → IsUpperBound rank_cmp rank heap
      → (id : ℕ) → is_front (live_in es) (parent_in es) out id ≡ true → is_before shares es id rank.id.0 ≡ false
  front_behind out heap rank are ranked upper id front =
      let here = one_of (λ (r : Rank). (r ≡ rank_in shares es r.id.0) × (is_lt (rank_cmp rank r) ≡ false)) id heap
      (both heap (recursion_from_All (λ (r : Rank). r ≡ rank_in shares es r.id.0) heap are.ranked) upper)
      (are.counts id ∙ ap once front) in
      let is : here.0 ≡ rank_in shares es id = here.1.0 ∙ ap (rank_in shares es) here.2 in
      sym (ap is_lt (rank_as_key (rank_in shares es rank.id.0) (rank_in shares es id)))
      ∙ subst (λ (r : Rank). is_lt (rank_cmp (rank_in shares es rank.id.0) r) ≡ false) is
      (subst (λ (r : Rank). is_lt (rank_cmp r here.0) ≡ false) ranked here.1.1)
    where
      both : (heap : List Rank) → AllByRecursion (λ (r : Rank). r ≡ rank_in shares es r.id.0) heap
          → AllByRecursion (λ (r : Rank). is_lt (rank_cmp rank r) ≡ false) heap
          → AllByRecursion (λ (r : Rank). (r ≡ rank_in shares es r.id.0) × (is_lt (rank_cmp rank r) ≡ false)) heap
      both [] a b = tt
      both (r ∷ heap) a b = ((a.0, b.0), both heap a.1 b.1)

  -- where the heap is empty none is in front
  pub none_front : (out : ℕ → Bool) → AreWaiting out [] → (id : ℕ) → is_front (live_in es) (parent_in es) out id ≡ false
  none_front out are id = one (is_front (live_in es) (parent_in es) out id) refl
    where
      one : (b : Bool) → is_front (live_in es) (parent_in es) out id ≡ b → is_front (live_in es) (parent_in es) out id ≡ false
      one false is = is
      one true is = absurd (no (are.counts id ∙ ap once is))
        where
          no : zero ≡ suc zero → ⊥
          no is = omega arith
