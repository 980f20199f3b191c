-- From a version down to its children: their ids, and their ranks from its own.
use Rattle.std.proofs.Common.{◌≡◌, ℕ, zero, suc, ◌+◌, ◌<◌, ◌≤◌, Bool, true, false, cond, ◌==◌, ◌&&◌, List, [], ◌∷◌, ◌++◌, length, get_or, take, map}
use Rattle.std.proofs.Common.{filter, min, append_assoc, Option, Some, None, is_some, is_none, unwrap_or, IsPermutation, refl, sym, ap, subst, ◌∙◌}
use Rattle.std.proofs.Common.{arith}
use Rattle.std.specs.Option.{option_to_list}
use Rattle.std.proofs.lemmas.Bool.{and_parts, eqb-true, eq-eqb, false≢true}
use Rattle.std.proofs.lemmas.List.{map_more}
use Rattle.std.proofs.lemmas.List.Sorted.{IsPermutation-reverse, IsPermutation-push_more}
use Rattle.sp_base.specs.Limits.{whole_share}
use Rattle.sp_group.specs.Family.{entry_at, is_parent}
use Rattle.sp_tree.specs.Grown.{Entry, FallFrom, AreRooted, kin, parent_of, root_in}
use Rattle.sp_tree.specs.Paths.{ids_under}
use Rattle.sp_tree.specs.Version.{Version}
use Rattle.sp_pick.specs.declared.picking.Rank.{Rank}
use Rattle.sp_pick.specs.Paths.{above}
use Rattle.sp_pick.specs.Picking.{survival_in, depth_in}
use Rattle.sp_pick.specs.Ranks.{rank_in, ids_by}
use Rattle.sp_pick.proofs.Found.{live_in, parent_in, found, roots_are}
use Rattle.sp_pick.proofs.Fronts.{once}
use Rattle.sp_pick.proofs.Ranking.{survival_most}
use Rattle.sp_pick.proofs.Standing.{some_entry, under_parent, at_root, depth_within}
use Rattle.sp_pick.proofs.Taken.{is_it}
use Rattle.sp_pick.proofs.Waiting.{same_count}

-- a number of the list stands there
stands : (ids : List ℕ) (i : ℕ) → i < length ids → 0 < length (filter (is_it (get_or ids i 0)) ids)
stands [] i within = absurd (omega arith)
stands (id ∷ ids) zero within =
    subst (λ n. 0 < n) (sym (ap (λ (b : Bool). length (cond b (id ∷ filter (is_it id) ids) (filter (is_it id) ids))) (eq-eqb id id refl)))
    (omega arith)
stands (id ∷ ids) (suc i) within = one (id == get_or ids i 0) (stands ids i (omega arith))
  where
    one : (b : Bool) → 0 < length (filter (is_it (get_or ids i 0)) ids)
        → 0 < length (cond b (id ∷ filter (is_it (get_or ids i 0)) ids) (filter (is_it (get_or ids i 0)) ids))
    one true more = omega arith
    one false more = more

once_true : (b : Bool) → 0 < once b → b ≡ true
once_true true more = refl
once_true false more = absurd (omega arith)

the_parent : (p : ℕ) (o : Option ℕ) → is_parent p o ≡ true → o ≡ Some p
the_parent p None is = absurd (false≢true is)
the_parent p (Some q) is = ap Some (eqb-true q p is)

-- one rank more is pushed
pub pushed : (f : ℕ → Rank) (old now now' : List Rank) (ids : List ℕ) (i : ℕ) (rank : Rank) → rank ≡ f (get_or ids i 0) → i < length ids
    → IsPermutation (old ++ map f (take i ids)) now
    → IsPermutation (rank ∷ now) now' → IsPermutation (old ++ map f (take (i + 1) ids)) now'
pushed f old now now' ids i rank is within before moved =
    subst (λ (l : List Rank). IsPermutation l now')
    (append_assoc old (map f (take i ids)) (rank ∷ [])
    ∙ ap (λ (l : List Rank). old ++ l) (ap (λ (r : Rank). map f (take i ids) ++ r ∷ []) is ∙ sym (map_more f ids i 0 within)))
    (IsPermutation-push_more (old ++ map f (take i ids)) now now' rank before moved)

-- ranks with the same parts
pub same_rank : (a b a' b' id : ℕ) → a ≡ a' → b ≡ b'
    → ◌≡◌ {A = Rank} (record { survival = a; depth = record { 0 = b }; id = record { 0 = id } })
    (record { survival = a'; depth = record { 0 = b' }; id = record { 0 = id } })
same_rank a b a' b' id p q = λ i. record { survival = p i; depth = record { 0 = q i }; id = record { 0 = id } }

module _ {V : Type 0} (shares : ℕ → ℕ → ℕ) (es : List (Entry V)) (top : ℕ) (fall : FallFrom top es) (rooted : AreRooted es) where
  -- a child, and its rank from that of its parent
  pub record IsUnderRank (rank : Rank) (id : ℕ) : Type 0 where
    pub child : is_some (parent_of (entry_at kin es id)) ≡ true
    pub share : min rank.survival whole_share ≡ survival_in shares es (above es id)
    pub depth : depth_in es id ≡ rank.depth.0 + 1
    pub few : rank.depth.0 + 1 ≤ length es

  pub under_rank : ((version run : ℕ) → shares version run ≤ whole_share) → (rank : Rank) (ids : List ℕ) (i : ℕ) → rank ≡ rank_in shares es rank.id.0
      → ids ≡ ids_under es rank.id.0 → i < length ids
      → IsUnderRank rank (get_or ids i 0)
  under_rank most rank ids i ranked are within =
      one (get_or ids i 0)
      (once_true (live_in es (get_or ids i 0) && is_parent rank.id.0 (parent_in es (get_or ids i 0)))
      (subst (λ n. 0 < n) (times (get_or ids i 0)) (stands ids i within)))
    where
      times : (id : ℕ) → length (filter (is_it id) ids) ≡ once (live_in es id && is_parent rank.id.0 (parent_in es id))
      times id =
          ap (λ (l : List ℕ). length (filter (is_it id) l)) are
          ∙ same_count (is_it id) (ids_by (is_parent rank.id.0) es) (ids_under es rank.id.0) (IsPermutation-reverse (ids_by (is_parent rank.id.0) es))
          ∙ found (is_parent rank.id.0) id top es fall

      one : (id : ℕ) → (live_in es id && is_parent rank.id.0 (parent_in es id)) ≡ true → IsUnderRank rank id
      one id is =
          let parts = and_parts (live_in es id) (is_parent rank.id.0 (parent_in es id)) is in
          let up = the_parent rank.id.0 (parent_in es id) parts.1 in
          let e = some_entry (entry_at kin es id) parts.0 in
          let u = under_parent shares top es id e.0 rank.id.0 fall rooted e.1 (sym (ap parent_of e.1) ∙ up) in
          let survives : rank.survival ≡ survival_in shares es rank.id.0 = ap (λ (r : Rank). r.survival) ranked in
          let deep : rank.depth.0 ≡ depth_in es rank.id.0 = ap (λ (r : Rank). r.depth.0) ranked in
          let low = survival_most shares es most rank.id.0 in
          let lower = u.depth in
          let within = depth_within es id in
          let capped : min rank.survival whole_share ≡ survival_in shares es rank.id.0 = omega arith in
          record {
            child = ap is_some up;
            share = capped ∙ ap (survival_in shares es) (sym (ap (λ (o : Option ℕ). unwrap_or o id) up));
            depth = omega arith;
            few = omega arith;
          }

  -- the root, and its rank
  pub root_ranks : length (filter (λ (v : Version). is_none v.parent) (map (λ e. e.version) es)) ≤ 1 → (root : ℕ) → Some root ≡ root_in es
      → map (rank_in shares es) (ids_by is_none es) ≡ record { survival = whole_share; depth = record { 0 = 0 }; id = record { 0 = root } } ∷ []
  root_ranks few root is = ap (map (rank_in shares es)) are ∙ flat
    where
      are : ids_by is_none es ≡ root ∷ []
      are = roots_are es few ∙ ap option_to_list (sym is)

      there : (live_in es root && is_none (parent_in es root)) ≡ true
      there =
          once_true (live_in es root && is_none (parent_in es root))
          (subst (λ n. 0 < n) (found is_none root top es fall)
          (subst (λ (l : List ℕ). 0 < length (filter (is_it root) l)) (sym are) (stands (root ∷ []) 0 (omega arith))))

      top_is : (o : Option ℕ) → is_none o ≡ true → o ≡ None
      top_is None none = refl
      top_is (Some p) none = absurd (false≢true none)

      flat : map (rank_in shares es) (root ∷ []) ≡ record { survival = whole_share; depth = record { 0 = 0 }; id = record { 0 = root } } ∷ []
      flat =
          let parts = and_parts (live_in es root) (is_none (parent_in es root)) there in
          let e = some_entry (entry_at kin es root) parts.0 in
          let r = at_root shares es root e.0 e.1 (sym (ap parent_of e.1) ∙ top_is (parent_in es root) parts.1) in
          λ i. record { survival = r.survival i; depth = record { 0 = r.depth i }; id = record { 0 = root } } ∷ []

  pub no_ranks : length (filter (λ (v : Version). is_none v.parent) (map (λ e. e.version) es)) ≤ 1 → None ≡ root_in es
      → map (rank_in shares es) (ids_by is_none es) ≡ []
  no_ranks few is = ap (map (rank_in shares es)) (roots_are es few ∙ ap option_to_list (sym is))
