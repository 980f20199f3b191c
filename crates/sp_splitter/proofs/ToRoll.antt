-- Versions in conflict: each is found, and lost by the list of those that are still to be rolled as it is rolled.
use Rattle.std.proofs.Common.{◌≡◌, ◌≢◌, ◌⊎◌, inl, inr, ⊎_elim, ℕ, ◌+◌, ◌<◌, ◌≤◌, ◌==◌, Bool, true, false, cond, not, List, [], ◌∷◌, ◌++◌, get_or, length, take, drop, map, Ordering, Less, Equal, Option, Some, None, is_some, refl, sym, ap, subst, ◌∙◌, Result, Ok, Err, arith}
use Rattle.std.specs.Prelude.{IfErr, IsSorted, OnErr, OnOk, reverse}
use Rattle.std.specs.List.{All, Contains}
use Rattle.std.specs.List.Sorted.{IsPermutation}
use Rattle.std.specs.Ordering.{is_lt, nat_cmp, ordering_then}
use Rattle.std.specs.Cmp.{IsTotalOrder}
use Rattle.std.proofs.lemmas.Bool.{cases_lt}
use Rattle.std.proofs.lemmas.Bool.Decides.{nat_tests}
use Rattle.std.proofs.lemmas.Cmp.{nat_cmp_total, on_total, then_total}
use Rattle.std.proofs.lemmas.List.{drop_more, get_or-drop, get_or_default, length-drop}
use Rattle.std.proofs.lemmas.Option.{none-some, same_Some}
use Rattle.std.proofs.lemmas.List.Elements.{All-contains, All-head, All-more, All-push, All-tail, All-weaker, Contains-append_left, Contains-append_right, Contains-push}
use Rattle.std.proofs.lemmas.List.Sorted.{All-permutation, Contains-permutation, IsPermutation-reverse, ranks_by, sorted_far}
use Rattle.std.proofs.lemmas.Map.Made.{Contains-tail}
use Rattle.sp_plan.specs.declared.plan.Plan.{Plan}
use Rattle.sp_version.specs.declared.version.Version as held
use Rattle.sp_group.specs.declared.refusal.Refusal.{Refusal}
use Rattle.sp_group.specs.declared.refusal.Refusal.TheVariants as why
use Rattle.sp_group.specs.declared.step.Step.TheVariants as s
use Rattle.sp_group.specs.Family.{entry_at}
use Rattle.sp_group.specs.Machine.{Version, Machine, version_at, conflict}
use Rattle.sp_group.specs.Refusing.{refuse_if, roll_refusal}
use Rattle.sp_tree.specs.Grown.{Entry, Grown, kin, value_of}
use Rattle.sp_core.specs.Holding.{version_of}
use Rattle.sp_core.specs.Running.{IsDone, Running, refused}
use Rattle.sp_core.specs.Showing.{IsTreeOf}
use Rattle.sp_spread.specs.Journaled.{readings_entered}
use Rattle.sp_spread.specs.Calm.{AreCalm}
use Rattle.sp_spread.specs.Laws.{LosesConflict}
use Rattle.sp_splitter.specs.Knowing.{Known}
use Rattle.sp_splitter.specs.Rolling.{AreListed, IsCalm, IsFirstInConflict, IsListed, IsNoLater, IsOfWindow, Quiet, Rolls, RollsOne, one_rolled, place_cmp}
use Rattle.sp_splitter.proofs.Listed.{shows}
use Rattle.sp_splitter.proofs.Stepping.{went_none, goes_none, went_then, goes_then, went_roll, goes_roll, none_emitted_roll, none_read_roll}

-- the version of an id is that of the entry of the id
version_found : (es : List (Entry held.Version)) (id : ℕ) → is_some (version_at (map version_of es) id) ≡ is_some (value_of (entry_at kin es id))
version_found [] id = refl
version_found (e ∷ es) id = one (e.version.id == id) (version_found es id)
  where
    one : (b : Bool) → is_some (version_at (map version_of es) id) ≡ is_some (value_of (entry_at kin es id))
        → is_some (cond b (Some (version_of e)) (version_at (map version_of es) id)) ≡ is_some (value_of (cond b (Some e) (entry_at kin es id)))
    one true rest = refl
    one false rest = rest

-- a tree holds a value for the live versions alone
pub live_held : (c : Running) (t : Grown held.Version) (id : ℕ) (o : Option held.Version) → IsTreeOf c t → o ≡ value_of (entry_at kin t.entries id)
    → is_some (version_at c.machine.versions id) ≡ is_some o
live_held c t id o is got = ap (λ (l : List Version). is_some (version_at l id)) (sym is.versions) ∙ version_found t.entries id ∙ ap is_some (sym got)

pub none_live : (c : Running) (t : Grown held.Version) (id : ℕ) (o : Option held.Version) (v : Version) → IsTreeOf c t → o ≡ value_of (entry_at kin t.entries id)
    → is_some o ≡ false → version_at c.machine.versions id ≡ Some v → ⊥
none_live c t id o v is got none at = let live = live_held c t id o is got ∙ none in let some = ap is_some at in cc

-- the id of a live version is among those of the tree
id_there : (es : List (Entry held.Version)) (id : ℕ) (v : Version) → version_at (map version_of es) id ≡ Some v → Contains (map (λ (e : Entry held.Version). e.version.id) es) id
id_there [] id v is = absurd (none-some v is)
id_there (e ∷ es) id v is = one (id_there es id v) (e.version.id == id) refl is
  where
    ids : List ℕ
    ids = map (λ (x : Entry held.Version). x.version.id) es

    one : (version_at (map version_of es) id ≡ Some v → Contains ids id) → (b : Bool) → (e.version.id == id) ≡ b
        → cond b (Some (version_of e)) (version_at (map version_of es) id) ≡ Some v → Contains (e.version.id ∷ ids) id
    one rest true own is = let same : e.version.id ≡ id = grind (arith, nat_tests) in subst (λ k. Contains (e.version.id ∷ ids) k) same (Contains-append_left (e.version.id ∷ []) ids e.version.id (Contains-push [] e.version.id))
    one rest false own is = Contains-append_right (e.version.id ∷ []) ids id (rest is)

pub id_walked : (c : Running) (t : Grown held.Version) (ids : List ℕ) (id : ℕ) (v : Version) → IsTreeOf c t → ids ≡ reverse (map (λ (e : Entry held.Version). e.version.id) t.entries)
    → version_at c.machine.versions id ≡ Some v → Contains ids id
id_walked c t ids id v is walk at =
    let own = map (λ (e : Entry held.Version). e.version.id) t.entries in
    let there = id_there t.entries id v (ap (λ (l : List Version). version_at l id) is.versions ∙ at) in
    subst (λ (l : List ℕ). Contains l id) (sym walk) (Contains-permutation own (reverse own) id (IsPermutation-reverse own) there)

-- all are listed, where those that the tree walks over are
pub walked_listed : (c : Running) (t : Grown held.Version) (ids : List ℕ) (found : List (ℕ × ℕ)) → IsTreeOf c t → ids ≡ reverse (map (λ (e : Entry held.Version). e.version.id) t.entries)
    → All (IsListed c.plan c.machine found) ids → All (IsOfWindow c.plan c.machine) found → AreListed c.plan c.machine found
walked_listed c t ids found is walk all windows = record {
  all = λ id v at hit. All-contains (IsListed c.plan c.machine found) ids id all (id_walked c t ids id v is walk at) v at hit;
  windows = windows;
}

-- a version that the tree holds has the window that it holds
pub window_held : (c : Running) (t : Grown held.Version) (id : ℕ) (v : held.Version) → IsTreeOf c t → Some v ≡ value_of (entry_at kin t.entries id) → IsOfWindow c.plan c.machine (v.window, id)
window_held c t id v is got u at hit =
    let h = shows c t is id u at in
    let same : v ≡ h.entry.value = same_Some v h.entry.value (got ∙ ap value_of h.is) in
    sym (ap (λ (w : Version). w.window) h.version) ∙ sym (ap (λ (w : held.Version). w.window) same)

module _ (q : Plan) (m : Machine) where
  -- the list is longer
  pub listed_more : (found : List (ℕ × ℕ)) (entry : ℕ × ℕ) (ids : List ℕ) → All (IsListed q m found) ids → All (IsListed q m (found ++ entry ∷ [])) ids
  listed_more found entry ids all =
      All-weaker (IsListed q m found) (IsListed q m (found ++ entry ∷ []))
      (λ id listed v at hit. Contains-append_left found (entry ∷ []) (v.window, id) (listed v at hit)) ids all

  pub listed_last : (found : List (ℕ × ℕ)) (window id : ℕ) → IsOfWindow q m (window, id) → IsListed q m (found ++ (window, id) ∷ []) id
  listed_last found window id of v at hit =
      subst (λ (w : ℕ). Contains (found ++ (window, id) ∷ []) (w, id)) (sym (of v at hit)) (Contains-push found (window, id))

  pub listed_calm : (found : List (ℕ × ℕ)) (id : ℕ) → IsCalm q m id → IsListed q m found id
  listed_calm found id calm v at hit = absurd (hit (calm v at))

  -- one id more was looked at, and listed
  pub listed_pushed : (found after : List (ℕ × ℕ)) (ids : List ℕ) (i window : ℕ) → i < length ids → after ≡ found ++ (window, get_or ids i 0) ∷ []
      → IsOfWindow q m (window, get_or ids i 0) → All (IsListed q m found) (take i ids) → All (IsListed q m after) (take (i + 1) ids)
  listed_pushed found after ids i window inside is of all =
      let id = get_or ids i 0 in
      let longer = found ++ (window, id) ∷ [] in
      subst (λ (l : List (ℕ × ℕ)). All (IsListed q m l) (take (i + 1) ids)) (sym is)
      (All-more (IsListed q m longer) ids i 0 inside (listed_more found (window, id) (take i ids) all) (listed_last found window id of))

  pub windows_pushed : (found after : List (ℕ × ℕ)) (entry : ℕ × ℕ) → after ≡ found ++ entry ∷ [] → IsOfWindow q m entry → All (IsOfWindow q m) found → All (IsOfWindow q m) after
  windows_pushed found after entry is of all = subst (λ (l : List (ℕ × ℕ)). All (IsOfWindow q m) l) (sym is) (All-push (IsOfWindow q m) found entry all of)

  -- one id more was looked at, of no version that is in conflict
  pub listed_passed : (found after : List (ℕ × ℕ)) (ids : List ℕ) (i : ℕ) → i < length ids → after ≡ found
      → IsCalm q m (get_or ids i 0)
      → All (IsListed q m found) (take i ids) → All (IsListed q m after) (take (i + 1) ids)
  listed_passed found after ids i inside is calm all =
      subst (λ (l : List (ℕ × ℕ)). All (IsListed q m l) (take (i + 1) ids)) (sym is)
      (All-more (IsListed q m found) ids i 0 inside all (listed_calm found (get_or ids i 0) calm))

  -- in another order
  pub listed_permuted : (found other : List (ℕ × ℕ)) → IsPermutation found other → AreListed q m found → AreListed q m other
  listed_permuted found other same listed = record {
    all = λ id v at hit. Contains-permutation found other (v.window, id) same (listed.all id v at hit);
    windows = All-permutation (IsOfWindow q m) found other same listed.windows;
  }

  -- none is left
  pub listed_none : AreListed q m [] → AreCalm q m
  listed_none listed id v at = one (conflict q m v) refl
    where
      one : (o : Option ℕ) → conflict q m v ≡ o → o ≡ None
      one None is = refl
      one (Some i) is = absurd (let l = listed.all id v at (λ hit. none-some i (sym hit ∙ is)) in omega (arith, l.1))

  -- the first of them is rolled
  pub listed_rolled : (n : Machine) (entry : ℕ × ℕ) (rest : List (ℕ × ℕ)) → LosesConflict q m n entry.1 → AreListed q m (entry ∷ rest) → AreListed q n rest
  listed_rolled n entry rest loses listed = record {
    all = λ id v at hit.
        let was = loses id v at hit in
        Contains-tail entry rest (v.window, id) (λ same. was.0 (sym (ap (λ (p : ℕ × ℕ). p.1) same))) (listed.all id v was.1 was.2);
    windows = All-weaker (IsOfWindow q m) (IsOfWindow q n) (λ other of v at hit. let was = loses other.1 v at hit in of v was.1 was.2) rest
        (All-tail (IsOfWindow q m) entry rest listed.windows);
  }

-- a roll that is refused
refused_loses : (c : Running) (id : ℕ) (r : Refusal) → refused c (s.Roll id) ≡ Some r → LosesConflict c.plan c.machine c.machine id
refused_loses c id r is other v at hit = (λ same. two same, at, hit)
  where
    two : other ≡ id → ⊥
    two same = three (conflict c.plan c.machine v) refl
      where
        there : roll_refusal c.plan c.machine id (Some v) ≡ Some r
        there = ap (roll_refusal c.plan c.machine id) (sym (ap (version_at c.machine.versions) (sym same) ∙ at)) ∙ is

        three : (o : Option ℕ) → conflict c.plan c.machine v ≡ o → ⊥
        three None none = hit none
        three (Some i) some = none-some r (sym (ap (λ (o : Option ℕ). refuse_if (not (is_some o)) (why.NoConflict id) None) some) ∙ there)

pub quiet_none : (old new : Running) → new ≡ old → Quiet old new
quiet_none old new same = record {
  went = λ n batch. went_none n batch old new same;
  goes = λ n. goes_none n old new same;
  emitted = ap (λ (c : Running). c.machine.emitted) same;
  read = ap (λ (c : Running). readings_entered c.journal) same;
}

pub quiet_then : (a b c : Running) → Quiet a b → Quiet b c → Quiet a c
quiet_then a b c first second = record {
  went = λ n batch. went_then n batch a b c (first.goes n) (first.went n batch) (second.went n batch);
  goes = λ n. goes_then n a b c (first.goes n) (second.goes n);
  emitted = second.emitted ∙ first.emitted;
  read = second.read ∙ first.read;
}

pub quiet_roll : (id : ℕ) (old new : Running) → Known old → IsDone (s.Roll id) old new → Quiet old new
quiet_roll id old new known done = record {
  went = λ n batch. went_roll n batch id old new known done;
  goes = λ n. goes_roll n id old new known done;
  emitted = none_emitted_roll id old new done;
  read = none_read_roll id old new done;
}

-- what a roll loses, done or refused
pub roll_loses : (id : ℕ) (old new : Running) → Known old → IsDone (s.Roll id) old new → LosesConflict old.plan old.machine new.machine id
roll_loses id old new known done = subst (λ (c : Running). LosesConflict old.plan old.machine c.machine id) (sym done.1) (known.lawful.calm.by_roll id done.0)

pub refusal_loses : (id : ℕ) (old new : Running) (r : Refusal) → new ≡ old → refused old (s.Roll id) ≡ Some r → LosesConflict old.plan old.machine new.machine id
refusal_loses id old new r same is = subst (λ (c : Running). LosesConflict old.plan old.machine c.machine id) (sym same) (refused_loses old id r is)

pub rolled_quiet : (id : ℕ) (old new : Running) (result : Result ℕ Refusal) → Known old → OnOk result (IsDone (s.Roll id) old new) → OnErr result (new ≡ old) → Quiet old new
rolled_quiet id old new (Ok n) known done err = quiet_roll id old new known done
rolled_quiet id old new (Err r) known done err = quiet_none old new err

pub rolled_loses : (id : ℕ) (old new : Running) (result : Result ℕ Refusal) → Known old → OnOk result (IsDone (s.Roll id) old new) → OnErr result (new ≡ old)
    → IfErr result (λ r. refused old (s.Roll id) ≡ Some r) → LosesConflict old.plan old.machine new.machine id
rolled_loses id old new (Ok n) known done err fault = roll_loses id old new known done
rolled_loses id old new (Err r) known done err fault = refusal_loses id old new r err fault

pub rolled_one : (id : ℕ) (old new : Running) (result : Result ℕ Refusal) → OnOk result (IsDone (s.Roll id) old new) → OnErr result (new ≡ old) → RollsOne id old new
rolled_one id old new (Ok n) done err = inl done
rolled_one id old new (Err r) done err = inr err

-- ---- the first of those in conflict

-- windows and ids are in a total order
place_total : IsTotalOrder place_cmp
place_total = then_total (on_total (λ (p : ℕ × ℕ). p.0) nat_cmp_total) (on_total (λ (p : ℕ × ℕ). p.1) nat_cmp_total)

-- what is not before another is no earlier
no_later : (one other : ℕ × ℕ) → is_lt (place_cmp other one) ≡ false → IsNoLater one other
no_later one other test = by (cases_lt one.0 other.0)
  where
    later : one.0 ≡ other.0 → one.1 ≤ other.1
    later same = ⊎_elim (λ (less : other.1 < one.1). absurd (lesser less)) (λ (least : one.1 ≤ other.1). least) (cases_lt other.1 one.1)
      where
        lesser : other.1 < one.1 → ⊥
        lesser less =
            let first : nat_cmp other.0 one.0 ≡ Equal = grind (arith, nat_tests) in
            let second : nat_cmp other.1 one.1 ≡ Less = grind (arith, nat_tests) in
            let is : is_lt (place_cmp other one) ≡ true =
            ap (λ (o : Ordering). is_lt (ordering_then o (nat_cmp other.1 one.1))) first ∙ ap is_lt second in
            cc

    by : (one.0 < other.0) ⊎ (other.0 ≤ one.0) → IsNoLater one other
    by (inl less) = inl less
    by (inr least) = ⊎_elim (λ (less : other.0 < one.0). absurd (earlier less)) (λ (most : one.0 ≤ other.0). let same : one.0 ≡ other.0 = omega arith in inr (same, later same)) (cases_lt other.0 one.0)
      where
        earlier : other.0 < one.0 → ⊥
        earlier less =
            let first : nat_cmp other.0 one.0 ≡ Less = grind (arith, nat_tests) in
            let is : is_lt (place_cmp other one) ≡ true = ap (λ (o : Ordering). is_lt (ordering_then o (nat_cmp other.1 one.1))) first in
            cc

-- in a sorted list, none behind a place is earlier
none_earlier : (found : List (ℕ × ℕ)) (i : ℕ) (other : ℕ × ℕ) → IsSorted place_cmp found → i < length found → Contains (drop i found) other → IsNoLater (get_or found i (0, 0)) other
none_earlier found i other sorted inside there =
    let k : ℕ = there.0 in
    let long = length-drop i found in
    let within : i + k < length found = let low = there.1 in omega arith in
    let at : get_or found (i + k) other ≡ other = sym (get_or-drop i found k other) ∙ there.2 in
    let here : get_or found i (0, 0) ≡ get_or found i other = get_or_default found i (0, 0) other inside in
    let far = sorted_far (λ x y. is_lt (place_cmp x y)) (ranks_by place_total (λ (p : ℕ × ℕ). p)) found sorted i (i + k) other (omega arith) within in
    let test : is_lt (place_cmp other (get_or found i (0, 0))) ≡ false =
    ap (λ (p : ℕ × ℕ). is_lt (place_cmp other p)) here ∙ ap (λ (p : ℕ × ℕ). is_lt (place_cmp p (get_or found i other))) (sym at) ∙ far in
    no_later (get_or found i (0, 0)) other test

-- a version that can be rolled is live and in conflict
rollable : (c : Running) (id : ℕ) → refused c (s.Roll id) ≡ None → (v : Version) × (version_at c.machine.versions id ≡ Some v) × (conflict c.plan c.machine v ≢ None)
rollable c id passes = one (version_at c.machine.versions id) refl passes
  where
    one : (o : Option Version) → version_at c.machine.versions id ≡ o → roll_refusal c.plan c.machine id o ≡ None
        → (v : Version) × (version_at c.machine.versions id ≡ Some v) × (conflict c.plan c.machine v ≢ None)
    one None at none = absurd (cc)
    one (Some v) at none = (v, at, λ calm. two calm)
      where
        two : conflict c.plan c.machine v ≡ None → ⊥
        two calm =
            let is : refuse_if true (why.NoConflict id) None ≡ None = ap (λ (o : Option ℕ). refuse_if (not (is_some o)) (why.NoConflict id) None) (sym calm) ∙ none in
            cc

-- the next of a sorted list, where it can be rolled, is the first in conflict
first_listed : (c : Running) (found : List (ℕ × ℕ)) (i : ℕ) → IsSorted place_cmp found → i < length found → AreListed c.plan c.machine (drop i found)
    → refused c (s.Roll (get_or found i (0, 0)).1) ≡ None → IsFirstInConflict c.plan c.machine (get_or found i (0, 0)).1
first_listed c found i sorted inside listed passes =
    let q : Plan = c.plan in
    let m : Machine = c.machine in
    let entry : ℕ × ℕ = get_or found i (0, 0) in
    let v = rollable c entry.1 passes in
    let here = subst (λ (l : List (ℕ × ℕ)). All (IsOfWindow q m) l) (drop_more found i (0, 0) inside) listed.windows in
    let of : v.0.window ≡ entry.0 = All-head (IsOfWindow q m) entry (drop (i + 1) found) here v.0 v.1 v.2 in
    record {
      version = v.0;
      live = v.1;
      first = λ other w at hit.
          subst (λ (k : ℕ). IsNoLater (k, entry.1) (w.window, other)) (sym of)
          (none_earlier found i (w.window, other) sorted inside (listed.all other w at hit));
    }

-- one entry of a sorted list more was looked at
pub rolls_more : (old c d : Running) (found : List (ℕ × ℕ)) (i id : ℕ) → id ≡ (get_or found i (0, 0)).1 → IsSorted place_cmp found → i < length found
    → AreListed c.plan c.machine (drop i found) → Rolls old c → RollsOne id c d → Rolls old d
rolls_more old c d found i id is sorted inside listed rolls (inl done) =
    let its = subst (λ (n : ℕ). IsDone (s.Roll n) c d) is done in
    one_rolled c d (get_or found i (0, 0)).1 rolls (first_listed c found i sorted inside listed its.0) its
rolls_more old c d found i id is sorted inside listed rolls (inr same) = subst (λ (z : Running). Rolls old z) (sym same) rolls
