-- Versions and their values, in step.
use Rattle.std.proofs.Common.{◌≡◌, ◌≢◌, ℕ, zero, suc, ◌+◌, ◌<◌, ◌≤◌, Bool, true, false, ◌==◌, List, [], ◌∷◌, length, get_or, set, remove, drop, Option, Some, None, is_some, refl, sym, ap, subst, ◌∙◌, arith, eq-eqb, cond}
use Rattle.std.specs.Prelude.{IsNone}
use Rattle.std.proofs.lemmas.List.{drop_more}
use Rattle.std.proofs.lemmas.Bool.{false≢true}
use Rattle.std.proofs.lemmas.Bool.Decides.{nat_tests}
use Rattle.sp_store.specs.Stored.{Stored, FallFrom, found, left}
use Rattle.sp_store.specs.declared.fault.PutFault.{PutFault}
use Rattle.sp_store.specs.declared.fault.PutFault.TheVariants.{Full, Memory}
use Rattle.sp_store.specs.Faults.{IsPutFault}
use Rattle.sp_tree.specs.Faults.{IsAddFault}
use Rattle.sp_group.specs.Family.{entry_at, parent_there, prune, kept}
use Rattle.sp_tree.specs.declared.version.Version.{Version as Branch}
use Rattle.sp_tree.specs.Branches.{branches, root_among, seen}
use Rattle.sp_tree.specs.Grown.{Grown, Entry, kin, value_of, root_in, AreRooted}
use Rattle.sp_tree.specs.Grown as g
use Rattle.sp_tree.specs.Joined.{joined, HaveIds}

differs : (m n : ℕ) → m ≢ n → (m == n) ≡ false
differs m n h = grind (arith, nat_tests)

root_if : (b : Bool) (o : Option ℕ) (q : Option ℕ) (id : ℕ) → o ≡ q → cond b o (Some id) ≡ cond b q (Some id)
root_if b o q id h = ap (λ z. cond b z (Some id)) h

module _ {V : Type 0} where
  pub length_joined : (vs : List Branch) (es : List (ℕ × V)) → HaveIds vs es → length (joined vs es) ≡ length vs
  length_joined [] [] h = refl
  length_joined [] (e ∷ es) h = absurd h
  length_joined (v ∷ vs) [] h = absurd h
  length_joined (v ∷ vs) (e ∷ es) h = ap suc (length_joined vs es h.1)

  pub length_values : (vs : List Branch) (es : List (ℕ × V)) → HaveIds vs es → length (joined vs es) ≡ length es
  length_values [] [] h = refl
  length_values [] (e ∷ es) h = absurd h
  length_values (v ∷ vs) [] h = absurd h
  length_values (v ∷ vs) (e ∷ es) h = ap suc (length_values vs es h.1)

  pub fall_joined : (top : ℕ) (vs : List Branch) (es : List (ℕ × V)) → HaveIds vs es → FallFrom top es → g.FallFrom top (joined vs es)
  fall_joined top [] es h f = tt
  fall_joined top (v ∷ vs) [] h f = absurd h
  fall_joined top (v ∷ vs) (e ∷ es) h f =
      (subst (λ (n : ℕ). n < top) (sym h.0) f.0, subst (λ (n : ℕ). g.FallFrom n (joined vs es)) (sym h.0) (fall_joined e.0 vs es h.1 f.1))

  value_if : (b : Bool) (v : V) (o : Option V) (e : Option (Entry V)) → o ≡ value_of e → (w : Branch) → cond b (Some v) o ≡ value_of (cond b (Some (record { version = seen w; value = v })) e)
  value_if true v o e h w = refl
  value_if false v o e h w = h

  pub found_joined : (vs : List Branch) (es : List (ℕ × V)) (id : ℕ) → HaveIds vs es → found es id ≡ value_of (entry_at kin (joined vs es) id)
  found_joined [] [] id h = refl
  found_joined [] (e ∷ es) id h = absurd h
  found_joined (v ∷ vs) [] id h = absurd h
  found_joined (v ∷ vs) (e ∷ es) id h =
      value_if (e.0 == id) e.1 (found es id) (entry_at kin (joined vs es) id) (found_joined vs es id h.1) v
      ∙ ap (λ n. value_of (cond (n == id) (Some (record { version = seen v; value = e.1 })) (entry_at kin (joined vs es) id))) (sym h.0)

  pub root_joined : (vs : List Branch) (es : List (ℕ × V)) → HaveIds vs es → root_among vs ≡ root_in (joined vs es)
  root_joined [] [] h = refl
  root_joined [] (e ∷ es) h = absurd h
  root_joined (v ∷ vs) [] h = absurd h
  root_joined (v ∷ vs) (e ∷ es) h = root_if (is_some v.parent) (root_among vs) (root_in (joined vs es)) v.id (root_joined vs es h.1)

  some_last : (e : Entry V) (es : List (Entry V)) → (root_in es ≡ None → es ≡ []) → parent_there kin es e.version.parent ≡ true → root_in (e ∷ es) ≡ None → ⊥
  some_last e es ih there none = go e.version.parent there none
    where
      no_parent : (o : Option ℕ) → (l : List (Entry V)) → l ≡ [] → parent_there kin l o ≡ true → is_some o ≡ true → ⊥
      no_parent None l e t s = false≢true s
      no_parent (Some p) l e t s = false≢true (sym (ap (λ z. is_some (entry_at kin z p)) e) ∙ t)

      go : (o : Option ℕ) → parent_there kin es o ≡ true → cond (is_some o) (root_in es) (Some e.version.id) ≡ None → ⊥
      go None t n = absurd (cc)
      go (Some p) t n = no_parent (Some p) es (ih n) t refl

  pub root_there : (es : List (Entry V)) → AreRooted es → root_in es ≡ None → es ≡ []
  root_there [] h n = refl
  root_there (e ∷ es) h n = absurd (some_last e es (root_there es h.1) h.0 n)

  rooted_kept : (o : Option (Entry V)) (es : List (Entry V)) → AreRooted es → AreRooted (kept kin o es)
  rooted_kept None es h = h
  rooted_kept (Some e) es h = go (parent_there kin es e.version.parent) refl
    where
      go : (b : Bool) → parent_there kin es e.version.parent ≡ b → AreRooted (cond b (e ∷ es) es)
      go true is = (is, h)
      go false is = h

  pub rooted_pruned : (rule : Entry V → Option (Entry V)) (es : List (Entry V)) → AreRooted (prune kin rule es)
  rooted_pruned rule [] = tt
  rooted_pruned rule (e ∷ es) = rooted_kept (rule e) (prune kin rule es) (rooted_pruned rule es)

  length_kept : (o : Option (Entry V)) (es : List (Entry V)) → length (kept kin o es) ≤ suc (length es)
  length_kept None es = omega arith
  length_kept (Some e) es = go (parent_there kin es e.version.parent)
    where
      go : (b : Bool) → length (cond b (e ∷ es) es) ≤ suc (length es)
      go true = omega arith
      go false = omega arith

  pub length_pruned : (rule : Entry V → Option (Entry V)) (es : List (Entry V)) → length (prune kin rule es) ≤ length es
  length_pruned rule [] = omega arith
  length_pruned rule (e ∷ es) =
      let a = length_kept (rule e) (prune kin rule es) in let b = length_pruned rule es in omega arith

  pub drop_joined : (i : ℕ) (vs : List Branch) (es : List (ℕ × V)) → HaveIds vs es → (drop i (joined vs es) ≡ joined (drop i vs) (drop i es)) × HaveIds (drop i vs) (drop i es)
  drop_joined zero vs es h = (refl, h)
  drop_joined (suc i) [] [] h = (refl, tt)
  drop_joined (suc i) [] (e ∷ es) h = absurd h
  drop_joined (suc i) (v ∷ vs) [] h = absurd h
  drop_joined (suc i) (v ∷ vs) (e ∷ es) h = drop_joined i vs es h.1

  some_if : (b : Bool) (v : Branch) (x : V) (o : Option (Entry V)) (q : Option Branch) → is_some o ≡ is_some q → is_some (cond b (Some (record { version = seen v; value = x })) o) ≡ is_some (cond b (Some v) q)
  some_if true v x o q h = refl
  some_if false v x o q h = h

  entry_there : (vs : List Branch) (es : List (ℕ × V)) (p : ℕ) → HaveIds vs es → is_some (entry_at kin (joined vs es) p) ≡ is_some (entry_at branches vs p)
  entry_there [] [] p h = refl
  entry_there [] (e ∷ es) p h = absurd h
  entry_there (v ∷ vs) [] p h = absurd h
  entry_there (v ∷ vs) (e ∷ es) p h = some_if (v.id == p) v e.1 (entry_at kin (joined vs es) p) (entry_at branches vs p) (entry_there vs es p h.1)

  pub there_joined : (vs : List Branch) (es : List (ℕ × V)) (p : Option ℕ) → HaveIds vs es → parent_there kin (joined vs es) p ≡ parent_there branches vs p
  there_joined vs es None h = refl
  there_joined vs es (Some p) h = entry_there vs es p h

  -- a version written at an index, over the value that is there
  pub set_joined : (j : ℕ) (vs : List Branch) (es : List (ℕ × V)) (w : Branch) → HaveIds vs es → j < length vs → ((d : Branch) → w.id ≡ (get_or vs j d).id)
      → (x : V) × (joined (set vs j w) es ≡ set (joined vs es) j (record { version = seen w; value = x })) × ((dv : Branch) (d : Entry V) → get_or (joined vs es) j d ≡ record { version = seen (get_or vs j dv); value = x }) × HaveIds (set vs j w) es
  set_joined j [] es w h within same = absurd (omega arith)
  set_joined j (v ∷ vs) [] w h within same = absurd h
  set_joined zero (v ∷ vs) (e ∷ es) w h within same = (e.1, refl, (λ dv d. refl), (same v ∙ h.0, h.1))
  set_joined (suc j) (v ∷ vs) (e ∷ es) w h within same =
      let rest = set_joined j vs es w h.1 (omega arith) same in
      (rest.0, ap (λ l. record { version = seen v; value = e.1 } ∷ l) rest.1, rest.2, (h.0, rest.3))

  pub id_below : (j top : ℕ) (vs : List Branch) (es : List (ℕ × V)) (d : Branch) → HaveIds vs es → FallFrom top es → j < length vs → (get_or vs j d).id < top
  id_below j top [] es d h f within = absurd (omega arith)
  id_below j top (v ∷ vs) [] d h f within = absurd h
  id_below zero top (v ∷ vs) (e ∷ es) d h f within = subst (λ n. n < top) (sym h.0) f.0
  id_below (suc j) top (v ∷ vs) (e ∷ es) d h f within =
      let later : (get_or vs j d).id < e.0 = id_below j e.0 vs es d h.1 f.1 (omega arith) in
      let first : e.0 < top = f.0 in omega arith

  lower : (top id : ℕ) (es : List (ℕ × V)) → id < top → FallFrom id es → FallFrom top es
  lower top id [] less f = tt
  lower top id (e ∷ es) less f = (let a : e.0 < id = f.0 in omega arith, f.1)

  -- the version at an index removed, and its value
  pub remove_joined : (j top : ℕ) (vs : List Branch) (es : List (ℕ × V)) (d : Branch) → HaveIds vs es → FallFrom top es → j < length vs
      → (joined (remove vs j) (left es (get_or vs j d).id) ≡ remove (joined vs es) j) × HaveIds (remove vs j) (left es (get_or vs j d).id) × FallFrom top (left es (get_or vs j d).id)
  remove_joined j top [] es d h f within = absurd (omega arith)
  remove_joined j top (v ∷ vs) [] d h f within = absurd h
  remove_joined zero top (v ∷ vs) (e ∷ es) d h f within =
      let gone = eq-eqb e.0 v.id (sym h.0) in
      rw gone (refl, h.1, lower top e.0 es f.0 f.1)
  remove_joined (suc j) top (v ∷ vs) (e ∷ es) d h f within =
      let below : (get_or vs j d).id < e.0 = id_below j e.0 vs es d h.1 f.1 (omega arith) in
      let stays = differs e.0 (get_or vs j d).id (λ z. omega arith) in
      let rest = remove_joined j e.0 vs es d h.1 f.1 (omega arith) in
      rw stays (ap (λ l. record { version = seen v; value = e.1 } ∷ l) rest.0, (h.0, rest.1), (f.0, rest.2))

pub entry_here : (vs : List Branch) (i : ℕ) (e : Branch) (id : ℕ) → i < length vs → e ≡ get_or vs i e → e.id ≡ id → entry_at branches (drop i vs) id ≡ Some e
entry_here vs i e id within read h =
    let here = eq-eqb e.id id h in
    ap (λ (l : List Branch). entry_at branches l id) (drop_more vs i e within ∙ ap (λ (x : Branch). x ∷ drop (i + 1) vs) (sym read)) ∙ rw here refl

root_first : (b : Bool) (o : Option ℕ) (id : ℕ) → b ≡ false → cond b o (Some id) ≡ Some id
root_first true o id h = absurd (false≢true (sym h))
root_first false o id h = refl

pub root_here : (vs : List Branch) (i : ℕ) (e : Branch) → i < length vs → e ≡ get_or vs i e → is_some e.parent ≡ false → root_among (drop i vs) ≡ Some e.id
root_here vs i e within read h =
    ap root_among (drop_more vs i e within ∙ ap (λ (x : Branch). x ∷ drop (i + 1) vs) (sym read)) ∙ root_first (is_some e.parent) (root_among (drop (i + 1) vs)) e.id h

pub fault_joined : {V : Type 0} (vs : List Branch) (values : Stored V) (value : V) (fault : PutFault V) → HaveIds vs values.entries → IsPutFault values value fault
    → (let t : Grown V = record { entries = joined vs values.entries; next = values.next; bound = values.bound } in IsAddFault t value fault)
fault_joined vs values value (Full live bound back) h f = (f.0 ∙ sym (length_values vs values.entries h), f.1, f.2, f.3)
fault_joined vs values value (Memory back) h f = (subst (λ n. n < values.bound) (sym (length_values vs values.entries h)) f.0, f.1)

pub none_is : {X : Type 0} (o : Option X) → IsNone o → o ≡ None
none_is None h = refl
none_is (Some x) h = absurd (false≢true (sym h))
