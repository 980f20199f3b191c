-- Ranks against keys, and the order in which versions come: none comes before its parent.
use Rattle.std.proofs.Common.{inl, inr, Ordering, Less, Equal, Greater, ◌≡◌, ℕ, ◌-◌, ◌*◌, ◌/◌, ◌<◌, ◌≤◌, Bool, true, false, cond, List, [], ◌∷◌}
use Rattle.std.proofs.Common.{Option, Some, None, is_some, ◌==◌, refl, sym, ap, ◌∙◌, arith}
use Rattle.std.specs.Ordering.{is_lt, nat_cmp, ordering_then}
use Rattle.std.specs.Cmp.{IsTotalOrder, IsStrictWeakOrder}
use Rattle.std.proofs.lemmas.Bool.{both_ways, cases_lt, cases_order}
use Rattle.std.proofs.lemmas.Bool.Decides.{nat_tests}
use Rattle.std.proofs.lemmas.Cmp.{nat_cmp_total, on_total, then_total, back_total}
use Rattle.std.proofs.lemmas.List.Sorted.{ranks_by}
use Rattle.std.proofs.Math.Nat.{div-le_of_le-mul, mul-le-mul_left}
use Rattle.sp_base.specs.Limits.{whole_share}
use Rattle.sp_base.specs.Numbers.{is_among}
use Rattle.sp_group.specs.Family.{entry_at}
use Rattle.sp_tree.specs.Grown.{Entry, FallFrom, AreRooted, kin, groups_of, parent_of}
use Rattle.sp_pick.specs.declared.key.Key.{Key}
use Rattle.sp_pick.specs.declared.picking.Rank.{Rank}
use Rattle.sp_pick.specs.Picking.{part, under, key_cmp, key_in, survival_in, survival_under}
use Rattle.sp_pick.specs.Ranks.{rank_cmp}
use Rattle.sp_pick.proofs.Standing.{some_entry, under_parent}

-- keys are in a total order
pub key_total : IsTotalOrder key_cmp
key_total = then_total (then_total (on_total (λ (k : Key). k.survival) (back_total nat_cmp_total)) (on_total (λ (k : Key). k.depth) nat_cmp_total))
    (on_total (λ (k : Key). k.id) nat_cmp_total)

-- what makes a key come before another
likelier : (a b : Key) → b.survival < a.survival → is_lt (key_cmp a b) ≡ true
likelier a b less =
    let is : nat_cmp b.survival a.survival ≡ Less = grind (arith, nat_tests) in
    ap (λ (o : Ordering). is_lt (ordering_then (ordering_then o (nat_cmp a.depth b.depth)) (nat_cmp a.id b.id))) is

flatter : (a b : Key) → a.survival ≡ b.survival → a.depth < b.depth → is_lt (key_cmp a b) ≡ true
flatter a b same less =
    let is : nat_cmp b.survival a.survival ≡ Equal = grind (arith, nat_tests) in
    let deep : nat_cmp a.depth b.depth ≡ Less = grind (arith, nat_tests) in
    ap (λ (o : Ordering). is_lt (ordering_then (ordering_then o (nat_cmp a.depth b.depth)) (nat_cmp a.id b.id))) is
    ∙ ap (λ (o : Ordering). is_lt (ordering_then o (nat_cmp a.id b.id))) deep

older : (a b : Key) → a.survival ≡ b.survival → a.depth ≡ b.depth → a.id < b.id → is_lt (key_cmp a b) ≡ true
older a b same flat less =
    let is : nat_cmp b.survival a.survival ≡ Equal = grind (arith, nat_tests) in
    let deep : nat_cmp a.depth b.depth ≡ Equal = grind (arith, nat_tests) in
    let old : nat_cmp a.id b.id ≡ Less = grind (arith, nat_tests) in
    ap (λ (o : Ordering). is_lt (ordering_then (ordering_then o (nat_cmp a.depth b.depth)) (nat_cmp a.id b.id))) is
    ∙ ap (λ (o : Ordering). is_lt (ordering_then o (nat_cmp a.id b.id))) deep
    ∙ ap is_lt old

-- the key of one that is no less likely, and less deep, comes before
pub comes_before : (a b : Key) → b.survival ≤ a.survival → a.depth < b.depth → is_lt (key_cmp a b) ≡ true
comes_before a b most deep = elim (cases_lt b.survival a.survival) [ inl less ↦ likelier a b less | inr same ↦ flatter a b (omega arith) deep ]

-- keys of which neither comes before the other have the same id
pub same_key : (a b : Key) → is_lt (key_cmp a b) ≡ false → is_lt (key_cmp b a) ≡ false → a.id ≡ b.id
same_key a b one other =
    elim (cases_order a.survival b.survival) [
      | inl same ↦ elim (cases_order a.depth b.depth) [
        | inl flat ↦ elim (cases_order a.id b.id) [
          | inl is ↦ is
          | inr (inl less) ↦ absurd (both_ways (is_lt (key_cmp a b)) one (older a b same flat less))
          | inr (inr less) ↦ absurd (both_ways (is_lt (key_cmp b a)) other (older b a (sym same) (sym flat) less))
        ]
        | inr (inl less) ↦ absurd (both_ways (is_lt (key_cmp a b)) one (flatter a b same less))
        | inr (inr less) ↦ absurd (both_ways (is_lt (key_cmp b a)) other (flatter b a (sym same) less))
      ]
      | inr (inl less) ↦ absurd (both_ways (is_lt (key_cmp b a)) other (likelier b a less))
      | inr (inr less) ↦ absurd (both_ways (is_lt (key_cmp a b)) one (likelier a b less))
    ]

-- the key that a rank stands for
abbrev key_of : Rank → Key
key_of rank = record { survival = rank.survival; depth = rank.depth.0; id = rank.id.0 }

-- a lesser rank has a key that comes later
pub rank_as_key : (a b : Rank) → rank_cmp a b ≡ key_cmp (key_of b) (key_of a)
rank_as_key a b = one (nat_cmp a.survival b.survival) (nat_cmp b.depth.0 a.depth.0) (nat_cmp b.id.0 a.id.0)
  where
    one : (x y z : Ordering) → ordering_then x (ordering_then y z) ≡ ordering_then (ordering_then x y) z
    one Less y z = refl
    one Equal y z = refl
    one Greater y z = refl

-- a part of a share is no more than it
part_less : (shares : ℕ → ℕ) (label : List ℕ) (share run : ℕ) → shares run ≤ whole_share → share * part shares label run / whole_share ≤ share
part_less shares label share run most =
    one (part shares label run) (two (is_among label run))
  where
    two : (b : Bool) → cond b (shares run) (whole_share - shares run) ≤ whole_share
    two true = most
    two false = omega arith

    one : (n : ℕ) → n ≤ whole_share → share * n / whole_share ≤ share
    one n low = let less = mul-le-mul_left share low in div-le_of_le-mul whole_share (omega arith)

pub under_less : (shares : ℕ → ℕ) (groups label : List ℕ) (share : ℕ) → ((run : ℕ) → shares run ≤ whole_share)
    → under shares groups label share ≤ share
under_less shares [] label share most = omega arith
under_less shares (run ∷ groups) label share most =
    let rest = under_less shares groups label (share * part shares label run / whole_share) most in
    let less = part_less shares label share run (most run) in
    omega arith

module _ {V : Type 0} (shares : ℕ → ℕ → ℕ) (es : List (Entry V)) where
  -- whether a version comes before another
  abbrev pub is_before : ℕ → ℕ → Bool
  is_before a b = is_lt (key_cmp (key_in shares es a) (key_in shares es b))

  pub in_line : IsStrictWeakOrder is_before
  in_line = ranks_by key_total (λ id. key_in shares es id)

  pub same_id : (a b : ℕ) → is_before a b ≡ false → is_before b a ≡ false → a ≡ b
  same_id a b = same_key (key_in shares es a) (key_in shares es b)

  -- no version is surer to survive than the root
  pub survival_most : ((version run : ℕ) → shares version run ≤ whole_share) → (id : ℕ) → survival_in shares es id ≤ whole_share
  survival_most most id = most_in es id
    where
      most_in : (es : List (Entry V)) (id : ℕ) → survival_in shares es id ≤ whole_share
      most_in [] id = omega arith
      most_in (e ∷ es) id = one (e.version.id == id) e.version.parent (most_in es)
        where
          one : (b : Bool) (o : Option ℕ) → ((p : ℕ) → survival_in shares es p ≤ whole_share)
              → cond b (survival_under shares (λ p. groups_of (entry_at kin es p)) (survival_in shares es) o e.version.label)
              (survival_in shares es id) ≤ whole_share
          one true None rest = omega arith
          one true (Some p) rest =
              let less = under_less (shares p) (groups_of (entry_at kin es p)) e.version.label (survival_in shares es p) (most p) in
              let above = rest p in
              omega arith
          one false o rest = rest id

  module _ (top : ℕ) (fall : FallFrom top es) (rooted : AreRooted es) (most : (version run : ℕ) → shares version run ≤ whole_share) where
    -- a parent comes before its child
    pub parent_before : (id p : ℕ) → is_some (entry_at kin es id) ≡ true → parent_of (entry_at kin es id) ≡ Some p → is_before p id ≡ true
    parent_before id p live up =
        let e = some_entry (entry_at kin es id) live in
        let u = under_parent shares top es id e.0 p fall rooted e.1 (sym (ap parent_of e.1) ∙ up) in
        let deep = u.depth in
        let less = under_less (shares p) (groups_of (entry_at kin es p)) e.0.version.label (survival_in shares es p) (most p) in
        let is = u.survival in
        comes_before (key_in shares es p) (key_in shares es id) (omega arith) (omega arith)
