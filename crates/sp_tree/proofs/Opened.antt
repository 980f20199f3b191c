-- A group that opens for a version, and the child of a label.
use Rattle.std.proofs.Common.{◌≡◌, ◌≢◌, ℕ, zero, suc, ◌+◌, ◌<◌, Bool, true, false, ◌==◌, cond, List, [], ◌∷◌, length, get_or, set, drop, Option, Some, None, is_some, refl, sym, ap, subst, ◌∙◌, arith, eq-eqb}
use Rattle.std.specs.Prelude.{Result, Ok, Err, OnOk, OnErr, IfSome, IsSome}
use Rattle.std.proofs.lemmas.List.{drop_more, get_or_default}
use Rattle.std.proofs.lemmas.Bool.{false≢true}
use Rattle.std.proofs.lemmas.Bool.Decides.{nat_tests}
use Rattle.sp_store.specs.Stored.{Stored, FallFrom}
use Rattle.sp_group.specs.Family.{entry_at, parent_there}
use Rattle.sp_tree.specs.declared.version.Version.{Version as Branch}
use Rattle.sp_tree.specs.declared.vertex.Below as code
use Rattle.sp_tree.specs.Version.{Version}
use Rattle.sp_tree.specs.Branches.{branches, seen, IsIndex, IsUnder, IsChildAt, AreNoChild}
use Rattle.sp_tree.specs.Grown.{Grown, Entry, kin, with_all_groups, regrouped, AreRooted, IsChild, LacksChild}
use Rattle.sp_tree.specs.Joined.{joined, HaveIds, AreJoined, IsTree}
use Rattle.sp_tree.proofs.Zipped.{id_below, set_joined, there_joined}
use Rattle.sp_tree.proofs.Renewed.{anew, no_entry, tree}

differs : (m n : ℕ) → m ≢ n → (m == n) ≡ false
differs m n h = grind (arith, nat_tests)

pub on_ok : {T E : Type 0} (r : Result T E) (P Q : Type 0) → (P → Q) → OnOk r P → OnOk r Q
on_ok (Ok x) P Q f p = f p
on_ok (Err e) P Q f p = p

pub on_err : {T E : Type 0} (r : Result T E) (P : Type 0) → P → OnErr r P
on_err (Ok x) P p = tt
on_err (Err e) P p = p

pub if_some : {T : Type 0} (o : Option T) (P Q : T → Type 0) → ((x : T) → P x → Q x) → IfSome o P → IfSome o Q
if_some None P Q f p = p
if_some (Some x) P Q f p = f x p

both_if : {X : Type 0} (b : Bool) (x y : X) (o q : Option X) → is_some o ≡ is_some q → is_some (cond b (Some x) o) ≡ is_some (cond b (Some y) q)
both_if true x y o q h = refl
both_if false x y o q h = h

there_set : (j : ℕ) (vs : List Branch) (w : Branch) (p : ℕ) → j < length vs → ((d : Branch) → w.id ≡ (get_or vs j d).id) → is_some (entry_at branches (set vs j w) p) ≡ is_some (entry_at branches vs p)
there_set j [] w p within same = absurd (omega arith)
there_set zero (v ∷ vs) w p within same =
    ap (λ n. is_some (cond (n == p) (Some w) (entry_at branches vs p))) (same v)
    ∙ both_if (v.id == p) w v (entry_at branches vs p) (entry_at branches vs p) refl
there_set (suc j) (v ∷ vs) w p within same = both_if (v.id == p) v v (entry_at branches (set vs j w) p) (entry_at branches vs p) (there_set j vs w p (omega arith) same)

parent_set : (j : ℕ) (vs : List Branch) (w : Branch) (p : Option ℕ) → j < length vs → ((d : Branch) → w.id ≡ (get_or vs j d).id) → parent_there branches (set vs j w) p ≡ parent_there branches vs p
parent_set j vs w None within same = refl
parent_set j vs w (Some p) within same = there_set j vs w p within same

pub none_further : (vs : List Branch) (i : ℕ) (e : Branch) (p : ℕ) (label : List ℕ) → i < length vs → e ≡ get_or vs i e → ¬ IsUnder e p label
    → (AreNoChild (drop i vs) p label → AreNoChild vs p label) → AreNoChild (drop (i + 1) vs) p label → AreNoChild vs p label
none_further vs i e p label within read n h rest =
    h (subst (λ (l : List Branch). AreNoChild l p label) (sym (drop_more vs i e within ∙ ap (λ (x : Branch). x ∷ drop (i + 1) vs) (sym read))) (n, rest))

pub child_here : (vs : List Branch) (i : ℕ) (e : Branch) (p : ℕ) (label : List ℕ) → i < length vs → e ≡ get_or vs i e → IsUnder e p label → IsChildAt vs p label e.id
child_here vs i e p label within read u =
    let at : (d : Branch) → e ≡ get_or vs i d = λ d. read ∙ get_or_default vs i e d within in
    (i, (within, λ d. ap (λ (z : Branch). z.id) (sym (at d))), λ d. subst (λ (z : Branch). IsUnder z p label) (at d) u)

module _ {V : Type 0} where
  rooted_set : (j : ℕ) (vs : List Branch) (es : List (ℕ × V)) (w : Branch) → HaveIds vs es → j < length vs → ((d : Branch) → w.id ≡ (get_or vs j d).id) → ((d : Branch) → w.parent ≡ (get_or vs j d).parent)
      → AreRooted (joined vs es) → AreRooted (joined (set vs j w) es)
  rooted_set j [] es w h within same parent r = absurd (omega arith)
  rooted_set j (v ∷ vs) [] w h within same parent r = absurd h
  rooted_set zero (v ∷ vs) (e ∷ es) w h within same parent r = (ap (parent_there kin (joined vs es)) (parent v) ∙ r.0, r.1)
  rooted_set (suc j) (v ∷ vs) (e ∷ es) w h within same parent r =
      let s = set_joined j vs es w h.1 (omega arith) same in (
        there_joined (set vs j w) es v.parent s.3 ∙ parent_set j vs w v.parent (omega arith) same ∙ sym (there_joined vs es v.parent h.1) ∙ r.0,
        rooted_set j vs es w h.1 (omega arith) same parent r.1,
      )

  pub record HasOrder (versions : List Branch) (values : Stored V) : Type 0 where
    pub both : AreJoined versions values
    pub rooted : AreRooted (joined versions values.entries)

  -- a version changed at an index, with its id and parent kept
  pub rooted_kept : (vs : List Branch) (values : Stored V) (i : ℕ) (v w : Branch) → IsTree vs values → i < length vs → v ≡ get_or vs i v → w.id ≡ v.id → w.parent ≡ v.parent → HasOrder (set vs i w) values
  rooted_kept vs values i v w h within read same parent =
      let at : (d : Branch) → v ≡ get_or vs i d = λ d. read ∙ get_or_default vs i v d within in
      let id : (d : Branch) → w.id ≡ (get_or vs i d).id = λ d. same ∙ ap (λ (z : Branch). z.id) (at d) in
      let up : (d : Branch) → w.parent ≡ (get_or vs i d).parent = λ d. parent ∙ ap (λ (z : Branch). z.parent) (at d) in record {
        both = record { ids = (set_joined i vs values.entries w h.both.ids within id).3; fall = h.both.fall };
        rooted = rooted_set i vs values.entries w h.both.ids within id up h.rooted;
      }

  regrouped_joined : (j top : ℕ) (vs : List Branch) (es : List (ℕ × V)) (d w : Branch) (groups : List ℕ) → HaveIds vs es → FallFrom top es → j < length vs
      → seen w ≡ record (seen (get_or vs j d)) { groups = groups } → joined (set vs j w) es ≡ regrouped (get_or vs j d).id groups (joined vs es)
  regrouped_joined j top [] es d w groups h f within is = absurd (omega arith)
  regrouped_joined j top (v ∷ vs) [] d w groups h f within is = absurd h
  regrouped_joined zero top (v ∷ vs) (e ∷ es) d w groups h f within is =
      let m = eq-eqb v.id v.id refl in
      rw m (ap (λ (z : Version). let x : Entry V = record { version = z; value = e.1 } in x ∷ joined vs es) is)
  regrouped_joined (suc j) top (v ∷ vs) (e ∷ es) d w groups h f within is =
      let below : (get_or vs j d).id < e.0 = id_below j e.0 vs es d h.1 f.1 (omega arith) in
      let first = h.0 in
      let m = differs v.id (get_or vs j d).id (λ z. omega arith) in
      rw m (ap (λ l. record { version = seen v; value = e.1 } ∷ l) (regrouped_joined j e.0 vs es d w groups h.1 f.1 (omega arith) is))

  -- the groups of the version at an index are others
  pub groups_set : (vs : List Branch) (values : Stored V) (id i : ℕ) (groups : List ℕ) (v w : Branch) → IsTree vs values → IsIndex vs id i → v ≡ get_or vs i v → seen w ≡ record (seen v) { groups = groups }
      → tree (set vs i w) values ≡ with_all_groups (tree vs values) id groups
  groups_set vs values id i groups v w h at read is =
      let e = regrouped_joined i values.next vs values.entries v w groups h.both.ids h.both.fall at.0 (is ∙ ap (λ (z : Branch). record (seen z) { groups = groups }) read)
      ∙ ap (λ n. regrouped n groups (joined vs values.entries)) (at.1 v) in
      ap (λ (l : List (Entry V)). let t : Grown V = record { entries = l; next = values.next; bound = values.bound } in t) e

  -- the entry of an id whose version stands at an index
  entry_of : (vs : List Branch) (values : Stored V) (id i : ℕ) (v : Branch) → IsTree vs values → IsIndex vs id i → v ≡ get_or vs i v → (x : V) × (entry_at kin (joined vs values.entries) id ≡ Some (record { version = seen v; value = x }))
  entry_of vs values id i v h at read =
      let a = (anew i values.next vs values.entries v h.both.ids h.both.fall at.0).0 in (
        a.value,
        subst (λ n. entry_at kin (joined vs values.entries) n ≡ Some (record { version = seen v; value = a.value })) (at.1 v)
            (a.entry_is ∙ ap (λ (z : Branch). let e : Entry V = record { version = seen z; value = a.value } in Some e) (sym read)),
      )

  pub not_live : (vs : List Branch) (values : Stored V) (id : ℕ) → IsTree vs values → entry_at branches vs id ≡ None → IsSome (entry_at kin (joined vs values.entries) id) → ⊥
  not_live vs values id h n some = false≢true (sym (ap is_some (no_entry vs values.entries id h.both.ids n)) ∙ some)

  pub is_child : (vs : List Branch) (values : Stored V) (p : ℕ) (label : List ℕ) (id : ℕ) → IsTree vs values → IsChildAt vs p label id → IsChild (joined vs values.entries) p label id
  is_child vs values p label id h k =
      let d : Branch = record { id = 0; parent = None; label = []; groups = []; below = code.Nothing } in
      let v = get_or vs k.0 d in
      let e = entry_of vs values id k.0 v h k.1 (get_or_default vs k.0 d v k.1.0) in
      let u = k.2 d in
      (record { version = seen v; value = e.0 }, e.1, u.0, u.1)

  pub lacks_child : (vs : List Branch) (es : List (ℕ × V)) (p : ℕ) (label : List ℕ) → HaveIds vs es → AreNoChild vs p label → LacksChild (joined vs es) p label
  lacks_child [] es p label h n = tt
  lacks_child (v ∷ vs) [] p label h n = absurd h
  lacks_child (v ∷ vs) (e ∷ es) p label h n = (n.0, lacks_child vs es p label h.1 n.1)
