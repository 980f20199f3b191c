-- Where the root stands among those that are picked.
use Rattle.std.proofs.Common.{◌≡◌, ℕ, zero, suc, ◌<◌, ◌≤◌, true, false, List, [], ◌∷◌, is_some, length, get_or, take, Option, Some, None, refl, sym}
use Rattle.std.proofs.Common.{ap, subst, ◌∙◌, arith, All}
use Rattle.std.specs.Prelude.{slice_get}
use Rattle.std.proofs.lemmas.Bool.{both_ways}
use Rattle.std.proofs.lemmas.List.Sorted.{All-permutation, Contains-permutation, sorted_far}
use Rattle.sp_base.specs.Limits.{whole_share}
use Rattle.sp_group.specs.Family.{entry_at}
use Rattle.sp_tree.specs.Grown.{Entry, FallFrom, AreRooted, kin, parent_of}
use Rattle.sp_pick.specs.Picking.{key_in, survival_in, depth_in, IsPicked, IsTop, RootIsFirst}
use Rattle.sp_pick.proofs.Ranking.{comes_before, in_line, is_before, survival_most}
use Rattle.sp_pick.proofs.Standing.{some_entry, under_parent, at_root}

-- the first of a list, and of its first elements
first_taken : (xs : List ℕ) (k d : ℕ) → 0 < k → 0 < length xs → slice_get (take k xs) 0 ≡ Some (get_or xs 0 d)
first_taken [] k d some there = absurd (omega arith)
first_taken (x ∷ xs) zero d some there = absurd (omega arith)
first_taken (x ∷ xs) (suc k) d some there = refl

module _ {V : Type 0} (shares : ℕ → ℕ → ℕ) (es : List (Entry V)) (top : ℕ) (fall : FallFrom top es) (rooted : AreRooted es)
    (most : (version run : ℕ) → shares version run ≤ whole_share) where
  -- what a root does not come before has no parent
  above_it : (root first : ℕ) → is_some (entry_at kin es root) ≡ true → IsTop es root → is_some (entry_at kin es first) ≡ true
      → is_before shares es root first ≡ false → IsTop es first
  above_it root first live is_top live' behind =
      let r = some_entry (entry_at kin es root) live in
      let e = some_entry (entry_at kin es first) live' in
      let top_key = at_root shares es root r.0 r.1 (sym (ap parent_of r.1) ∙ is_top) in
      one top_key.survival top_key.depth e.0 e.1 e.0.version.parent refl
    where
      one : survival_in shares es root ≡ whole_share → depth_in es root ≡ 0 → (e : Entry V) → entry_at kin es first ≡ Some e → (parent : Option ℕ)
          → e.version.parent ≡ parent → IsTop es first
      one whole flat e at None up = ap parent_of at ∙ up
      one whole flat e at (Some p) up =
          let deep = (under_parent shares top es first e p fall rooted at up).depth in
          let less = survival_most shares es most first in
          absurd (both_ways (is_before shares es root first) behind
          (comes_before (key_in shares es root) (key_in shares es first) (omega arith) (omega arith)))

  pub root_first : (ready : List ℕ) (k : ℕ) (ids : List ℕ) → IsPicked shares es ready k ids → All (λ id. is_some (entry_at kin es id) ≡ true) ready
      → RootIsFirst es ready k ids
  root_first ready k ids picked live root ready_root is_top some =
      let there = Contains-permutation ready picked.order root picked.permutation ready_root in
      let live' = All-permutation (λ id. is_some (entry_at kin es id) ≡ true) ready picked.order picked.permutation live in
      let within = there.1 in
      let far = sorted_far (is_before shares es) (in_line shares es) picked.order picked.sorted 0 there.0 root (omega arith) within in (
        get_or picked.order 0 root,
        ap (λ (l : List ℕ). slice_get l 0) picked.first ∙ first_taken picked.order k root some (omega arith),
        above_it root (get_or picked.order 0 root) (subst (λ q. is_some (entry_at kin es q) ≡ true) there.2 (live' there.0 root within)) is_top
            (live' 0 root (omega arith))
            (subst (λ q. is_before shares es q (get_or picked.order 0 root) ≡ false) there.2 far),
      )
