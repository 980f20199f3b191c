-- Versions whose ids fall, by index.
use Rattle.std.proofs.Common.{◌≡◌, ◌≢◌, ℕ, zero, suc, ◌<◌, ◌≤◌, inl, inr, true, false, ◌==◌, List, [], ◌∷◌, length, get_or, set, remove, drop, Some, None, refl, sym, ap, subst, ◌∙◌, arith, eq-eqb}
use Rattle.std.specs.Prelude.{nat_lt}
use Rattle.std.specs.List.Sorted.{IsPartitionedBy, IsPartitionPoint}
use Rattle.std.proofs.lemmas.Bool.{cases_eq, cases_lt}
use Rattle.std.proofs.lemmas.Bool.Decides.{nat_tests}
use Rattle.sp_store.specs.Stored.{Stored, FallFrom}
use Rattle.sp_group.specs.Family.{entry_at}
use Rattle.sp_tree.specs.declared.version.Version.{Version as Branch}
use Rattle.sp_tree.specs.Branches.{branches, Falls, AreFalling, IsIndex}
use Rattle.sp_tree.specs.Joined.{HaveIds, AreJoined}

differs : (m n : ℕ) → m ≢ n → (m == n) ≡ false
differs m n h = grind (arith, nat_tests)

pub all_below : (top : ℕ) (vs : List Branch) → Falls top vs → (k : ℕ) (d : Branch) → k < length vs → (get_or vs k d).id < top
all_below top [] h k d within = absurd (omega arith)
all_below top (v ∷ vs) h zero d within = h.0
all_below top (v ∷ vs) h (suc k) d within =
    let later : (get_or vs k d).id < v.id = all_below v.id vs h.1 k d (omega arith) in
    let first : v.id < top = h.0 in
    omega arith

far_below : (top : ℕ) (vs : List Branch) → Falls top vs → (i j : ℕ) (d : Branch) → i < j → j < length vs → (get_or vs j d).id < (get_or vs i d).id
far_below top [] h i j d less within = absurd (omega arith)
far_below top (v ∷ vs) h i zero d less within = absurd (omega arith)
far_below top (v ∷ vs) h zero (suc j) d less within = all_below v.id vs h.1 j d (omega arith)
far_below top (v ∷ vs) h (suc i) (suc j) d less within = far_below v.id vs h.1 i j d (omega arith) (omega arith)

less : (m n : ℕ) → nat_lt m n ≡ true → m < n
less m n h = grind (arith, nat_tests)

is_less : (m n : ℕ) → m < n → nat_lt m n ≡ true
is_less m n h = grind (arith, nat_tests)

not_less : (m n : ℕ) → nat_lt m n ≡ false → n ≤ m
not_less m n h = grind (arith, nat_tests)

-- the ids above one stand in front
pub parted : (vs : List Branch) (id : ℕ) → AreFalling vs → IsPartitionedBy (λ (v : Branch). nat_lt id v.id) vs
parted vs id h i j d le within is =
    elim (cases_eq i j) [
      | inl e ↦ subst (λ k. nat_lt id (get_or vs k d).id ≡ true) (sym e) is
      | inr e ↦ (
          let low = less id (get_or vs j d).id is in
          let more : (get_or vs j d).id < (get_or vs i d).id = far_below h.top vs h.falls i j d (omega arith) within in
          is_less id (get_or vs i d).id (omega arith))
    ]

none_from : (vs : List Branch) (id : ℕ) → ((k : ℕ) (d : Branch) → k < length vs → (get_or vs k d).id ≢ id) → entry_at branches vs id ≡ None
none_from [] id h = refl
none_from (v ∷ vs) id h =
    let n = differs v.id id (h 0 v (omega arith)) in
    rw n (none_from vs id (λ k d within. h (suc k) d (omega arith)))

-- an id that does not stand where the greater ones end is not there
pub not_there : (vs : List Branch) (id at : ℕ) → AreFalling vs → IsPartitionPoint (λ (v : Branch). nat_lt id v.id ≡ true) (λ (v : Branch). nat_lt id v.id ≡ false) vs at
    → (at < length vs → (d : Branch) → (get_or vs at d).id ≢ id) → entry_at branches vs id ≡ None
not_there vs id at h point apart = none_from vs id (λ k d within. elim (cases_lt k at) [
  | inl front ↦ (let a = less id (get_or vs k d).id (point.0 k d (omega arith) front) in λ e. omega arith)
  | inr behind ↦ elim (cases_eq k at) [
    | inl here ↦ subst (λ n. (get_or vs n d).id ≢ id) (sym here) (apart (omega arith) d)
    | inr past ↦ (
        let a : (get_or vs k d).id < (get_or vs at d).id = far_below h.top vs h.falls at k d (omega arith) within in
        let b = not_less id (get_or vs at d).id (point.1 at d (omega arith) (omega arith)) in
        λ e. omega arith)
  ]
])

-- what stands at the index of an id is what is found there
pub found_at : (top : ℕ) (vs : List Branch) (id i : ℕ) (d : Branch) → Falls top vs → i < length vs → (get_or vs i d).id ≡ id → entry_at branches vs id ≡ Some (get_or vs i d)
found_at top [] id i d h within same = absurd (omega arith)
found_at top (v ∷ vs) id zero d h within same = let n = eq-eqb v.id id same in rw n refl
found_at top (v ∷ vs) id (suc i) d h within same =
    let below : (get_or vs i d).id < v.id = all_below v.id vs h.1 i d (omega arith) in
    let n = differs v.id id (λ e. omega arith) in
    rw n (found_at v.id vs id i d h.1 (omega arith) same)

pub found_read : (vs : List Branch) (id i : ℕ) (v : Branch) → AreFalling vs → IsIndex vs id i → v ≡ get_or vs i v → entry_at branches vs id ≡ Some v
found_read vs id i v h at read = found_at h.top vs id i v h.falls at.0 (at.1 v) ∙ ap (λ (z : Branch). Some z) (sym read)

falls_drop : (i top : ℕ) (vs : List Branch) → Falls top vs → AreFalling (drop i vs)
falls_drop zero top vs h = record { top = top; falls = h }
falls_drop (suc i) top [] h = record { top = top; falls = tt }
falls_drop (suc i) top (v ∷ vs) h = falls_drop i v.id vs h.1

lower : (low top : ℕ) (vs : List Branch) → low < top → Falls low vs → Falls top vs
lower low top [] less h = tt
lower low top (v ∷ vs) less h = (let first : v.id < low = h.0 in omega arith, h.1)

removed_falls : (i top : ℕ) (vs : List Branch) → Falls top vs → i < length vs → Falls top (remove vs i)
removed_falls i top [] h within = absurd (omega arith)
removed_falls zero top (v ∷ vs) h within = lower v.id top vs h.0 h.1
removed_falls (suc i) top (v ∷ vs) h within = (h.0, removed_falls i v.id vs h.1 (omega arith))

-- a version removed
pub falls_removed : (vs : List Branch) (i : ℕ) → AreFalling vs → i < length vs → AreFalling (remove vs i)
falls_removed vs i h within = record { top = h.top; falls = removed_falls i h.top vs h.falls within }

-- a version written with its id kept
falls_written : (i top : ℕ) (vs : List Branch) (w : Branch) → Falls top vs → i < length vs → ((d : Branch) → w.id ≡ (get_or vs i d).id) → Falls top (set vs i w)
falls_written i top [] w h within is = absurd (omega arith)
falls_written zero top (v ∷ vs) w h within is = (subst (λ n. n < top) (sym (is v)) h.0, subst (λ n. Falls n vs) (sym (is v)) h.1)
falls_written (suc i) top (v ∷ vs) w h within is = (h.0, falls_written i v.id vs w h.1 (omega arith) is)

pub falls_set : (vs : List Branch) (i : ℕ) (w : Branch) → AreFalling vs → i < length vs → ((d : Branch) → w.id ≡ (get_or vs i d).id) → AreFalling (set vs i w)
falls_set vs i w h within is = record { top = h.top; falls = falls_written i h.top vs w h.falls within is }

pub falling_behind : (i : ℕ) (vs : List Branch) → AreFalling vs → AreFalling (drop i vs)
falling_behind i vs h = falls_drop i h.top vs h.falls

module _ {V : Type 0} where
  pub falls_from : (top : ℕ) (vs : List Branch) (es : List (ℕ × V)) → HaveIds vs es → FallFrom top es → Falls top vs
  falls_from top [] es h f = tt
  falls_from top (v ∷ vs) [] h f = absurd h
  falls_from top (v ∷ vs) (e ∷ es) h f =
      (subst (λ n. n < top) (sym h.0) f.0, subst (λ n. Falls n vs) (sym h.0) (falls_from e.0 vs es h.1 f.1))

  -- versions that have the ids of a store
  pub falling : (vs : List Branch) (values : Stored V) → AreJoined vs values → AreFalling vs
  falling vs values h = record { top = values.next; falls = falls_from values.next vs values.entries h.ids h.fall }
