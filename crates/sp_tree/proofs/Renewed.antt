-- A version that begins anew.
use Rattle.std.proofs.Common.{◌≡◌, ◌≢◌, ℕ, zero, suc, ◌+◌, ◌<◌, ◌≤◌, Bool, true, false, ◌==◌, cond, List, [], ◌∷◌, length, get_or, remove, Option, Some, None, is_some, refl, sym, ap, subst, ◌∙◌, arith, eq-eqb, map, reverse, ◌++◌}
use Rattle.std.proofs.lemmas.List.{reverse-append, map-append}
use Rattle.std.proofs.lemmas.Bool.Decides.{nat_tests}
use Rattle.std.proofs.lemmas.Option.{same_Some}
use Rattle.sp_store.specs.Stored.{Stored, FallFrom, found, left}
use Rattle.sp_store.specs.Stored as s
use Rattle.sp_group.specs.Family.{entry_at, parent_there, prune, kept}
use Rattle.sp_tree.specs.declared.version.Version.{Version as Branch}
use Rattle.sp_tree.specs.Changes.{but}
use Rattle.sp_tree.specs.declared.vertex.Below as code
use Rattle.sp_tree.specs.Version.{Version}
use Rattle.sp_tree.specs.Branches.{branches, seen, changed_by, IsIndex}
use Rattle.sp_tree.specs.declared.version.Change.TheVariants as c
use Rattle.sp_tree.specs.Grown.{Grown, Entry, kin, lifted, AreRooted, renewed, begun_anew, answered}
use Rattle.sp_tree.specs.Joined.{joined, HaveIds, AreJoined, IsTree, IsPrunedFrom}
use Rattle.sp_tree.proofs.Same.{joined_seen, both_seen}
use Rattle.sp_tree.proofs.Zipped.{id_below, remove_joined, rooted_pruned}

differs : (m n : ℕ) → m ≢ n → (m == n) ≡ false
differs m n h = grind (arith, nat_tests)

-- what a version that begins anew is
abbrev pub fresh : ℕ → Branch → Branch
fresh next v = record v { id = next; groups = [] }

module _ {V : Type 0} where
  but_other : (id : ℕ) (e : Entry V) → e.version.id ≢ id → lifted (but id) e ≡ Some e
  but_other id e h = let n = differs e.version.id id h in rw n refl

  but_same : (id : ℕ) (e : Entry V) → e.version.id ≡ id → lifted (but id) e ≡ None
  but_same id e h = let n = eq-eqb e.version.id id h in rw n refl

  keep_below : (id top : ℕ) (vs : List Branch) (es : List (ℕ × V)) → top ≤ id → HaveIds vs es → FallFrom top es
      → prune kin (lifted (changed_by c.Prune)) (joined vs es) ≡ prune kin (lifted (but id)) (joined vs es)
  keep_below id top [] es le h f = refl
  keep_below id top (v ∷ vs) [] le h f = absurd h
  keep_below id top (v ∷ vs) (e ∷ es) le h f =
      let less : e.0 < top = f.0 in let same = h.0 in
      let x : Entry V = record { version = seen v; value = e.1 } in
      ap (kept kin (Some x)) (keep_below id e.0 vs es (omega arith) h.1 f.1)
      ∙ ap (λ o. kept kin o (prune kin (lifted (but id)) (joined vs es))) (sym (but_other id x (λ z. omega arith)))

  keep_rooted : (es : List (Entry V)) → AreRooted es → prune kin (lifted (changed_by c.Prune)) es ≡ es
  keep_rooted [] h = refl
  keep_rooted (e ∷ es) h = ap (kept kin (Some e)) (keep_rooted es h.1) ∙ ap (λ b. cond b (e ∷ es) es) h.0

  there_if : (b : Bool) (e : Entry V) (o : Option (Entry V)) → is_some o ≡ true → is_some (cond b (Some e) o) ≡ true
  there_if true e o h = refl
  there_if false e o h = h

  there_front : (e : Entry V) (es : List (Entry V)) (p : Option ℕ) → parent_there kin es p ≡ true → parent_there kin (e ∷ es) p ≡ true
  there_front e es None h = refl
  there_front e es (Some p) h = there_if (e.version.id == p) e (entry_at kin es p) h

  there_kept : (e : Entry V) (es : List (Entry V)) (p : Option ℕ) → parent_there kin es p ≡ true → parent_there kin (kept kin (Some e) es) p ≡ true
  there_kept e es p h = go (parent_there kin es e.version.parent)
    where
      go : (b : Bool) → parent_there kin (cond b (e ∷ es) es) p ≡ true
      go true = there_front e es p h
      go false = h

  -- what stands at the index of an id, and the list without it
  pub record Anew (vs : List Branch) (es : List (ℕ × V)) (v : Branch) : Type 0 where
    pub value : V
    pub found_is : found es v.id ≡ Some value
    pub entry_is : entry_at kin (joined vs es) v.id ≡ Some (record { version = seen v; value = value })
    pub there : AreRooted (joined vs es) → parent_there kin (prune kin (lifted (but v.id)) (joined vs es)) v.parent ≡ true

  pub anew : (i top : ℕ) (vs : List Branch) (es : List (ℕ × V)) (d : Branch) → HaveIds vs es → FallFrom top es → i < length vs
      → Anew vs es (get_or vs i d) × (prune kin (lifted (changed_by c.Prune)) (joined (remove vs i) (left es (get_or vs i d).id)) ≡ prune kin (lifted (but (get_or vs i d).id)) (joined vs es))
  anew i top [] es d h f within = absurd (omega arith)
  anew i top (v ∷ vs) [] d h f within = absurd h
  anew zero top (v ∷ vs) (e ∷ es) d h f within =
      let x : Entry V = record { version = seen v; value = e.1 } in
      let n = eq-eqb e.0 v.id (sym h.0) in let m = eq-eqb v.id v.id refl in
      let less = subst (λ k. FallFrom k es) (sym h.0) f.1 in
      let gone : prune kin (lifted (but v.id)) (x ∷ joined vs es) ≡ prune kin (lifted (but v.id)) (joined vs es) = ap (λ o. kept kin o (prune kin (lifted (but v.id)) (joined vs es))) (but_same v.id x refl) in
      let below = keep_below v.id v.id vs es (omega arith) h.1 less in (
        record {
          value = e.1;
          found_is = rw n refl;
          entry_is = rw m refl;
          there = λ rooted. ap (λ (l : List (Entry V)). parent_there kin l v.parent) (gone ∙ sym below ∙ keep_rooted (joined vs es) rooted.1) ∙ rooted.0;
        },
        ap (λ (l : List (ℕ × V)). prune kin (lifted (changed_by c.Prune)) (joined vs l)) (ap (λ b. cond b es (e ∷ left es v.id)) n) ∙ below ∙ sym gone,
      )
  anew (suc i) top (v ∷ vs) (e ∷ es) d h f within =
      let x : Entry V = record { version = seen v; value = e.1 } in
      let g = get_or vs i d in
      let below : g.id < e.0 = id_below i e.0 vs es d h.1 f.1 (omega arith) in
      let first = h.0 in
      let n = differs e.0 g.id (λ z. omega arith) in let m = differs v.id g.id (λ z. omega arith) in
      let rest = anew i e.0 vs es d h.1 f.1 (omega arith) in
      let stays = but_other g.id x (λ z. omega arith) in
      let front : prune kin (lifted (but g.id)) (x ∷ joined vs es) ≡ kept kin (Some x) (prune kin (lifted (but g.id)) (joined vs es)) = ap (λ o. kept kin o (prune kin (lifted (but g.id)) (joined vs es))) stays in (
        record {
          value = rest.0.value;
          found_is = ap (λ b. cond b (Some e.1) (found es g.id)) n ∙ rest.0.found_is;
          entry_is = ap (λ b. cond b (Some x) (entry_at kin (joined vs es) g.id)) m ∙ rest.0.entry_is;
          there = λ rooted. ap (λ (l : List (Entry V)). parent_there kin l g.parent) front ∙ there_kept x (prune kin (lifted (but g.id)) (joined vs es)) g.parent (rest.0.there rooted.1);
        },
        ap (λ (l : List (ℕ × V)). prune kin (lifted (changed_by c.Prune)) (joined (v ∷ remove vs i) l)) (ap (λ b. cond b es (e ∷ left es g.id)) n)
            ∙ ap (kept kin (Some x)) rest.1 ∙ sym front,
      )

  none_if : (b : Bool) (v : Branch) (x : V) (o : Option Branch) (q : Option (Entry V)) → cond b (Some v) o ≡ None → (o ≡ None → q ≡ None) → cond b (Some (record { version = seen v; value = x })) q ≡ None
  none_if true v x o q h f = absurd (cc)
  none_if false v x o q h f = f h

  pub no_entry : (vs : List Branch) (es : List (ℕ × V)) (id : ℕ) → HaveIds vs es → entry_at branches vs id ≡ None → entry_at kin (joined vs es) id ≡ None
  no_entry [] es id h n = refl
  no_entry (v ∷ vs) [] id h n = absurd h
  no_entry (v ∷ vs) (e ∷ es) id h n = none_if (v.id == id) v e.1 (entry_at branches vs id) (entry_at kin (joined vs es) id) n (no_entry vs es id h.1)

  abbrev pub tree : List Branch → Stored V → Grown V
  tree vs values = record { entries = joined vs values.entries; next = values.next; bound = values.bound }

  pub record Begun (vs : List Branch) (values : Stored V) (now : List Branch) (id : ℕ) : Type 0 where
    pub live : s.renewed_id values id ≡ Some values.next
    pub answer : Some values.next ≡ answered values.next (entry_at kin (joined vs values.entries) id)
    pub ready : AreJoined now (s.renewed values id)
    pub rooted : (new : List (Entry V)) → IsPrunedFrom 1 (changed_by c.Prune) (joined now (s.renewed values id).entries) new → AreRooted new
    pub shape : (new : List (Entry V)) (next bound : ℕ) → IsPrunedFrom 1 (changed_by c.Prune) (joined now (s.renewed values id).entries) new → next ≡ (s.renewed values id).next → bound ≡ (s.renewed values id).bound
        → (let t : Grown V = record { entries = new; next = next; bound = bound } in t ≡ renewed (tree vs values) id)

  module _ (vs : List Branch) (values : Stored V) (i : ℕ) (h : IsTree vs values) (within : i < length vs) (d : Branch) where
    pub begun_at : (now : List Branch) → now ≡ fresh values.next (get_or vs i d) ∷ remove vs i → Begun vs values now (get_or vs i d).id
    begun_at now e =
        let g = get_or vs i d in
        let a = anew i values.next vs values.entries d h.both.ids h.both.fall within in
        let r = remove_joined i values.next vs values.entries d h.both.ids h.both.fall within in
        let after : Stored V = record { entries = (values.next, a.0.value) ∷ left values.entries g.id; next = values.next + 1; bound = values.bound } in
        let moved : s.renewed values g.id ≡ after = ap (s.moved values g.id) a.0.found_is in
        let x : Entry V = record { version = seen (fresh values.next g); value = a.0.value } in
        let whole : (new : List (Entry V)) → IsPrunedFrom 1 (changed_by c.Prune) (joined now (s.renewed values g.id).entries) new → new ≡ x ∷ prune kin (lifted (but g.id)) (joined vs values.entries) =
        λ new p.
        let q : IsPrunedFrom 1 (changed_by c.Prune) (joined (fresh values.next g ∷ remove vs i) after.entries) new =
        subst (λ (z : List Branch). IsPrunedFrom 1 (changed_by c.Prune) (joined z after.entries) new) e (subst (λ (z : Stored V). IsPrunedFrom 1 (changed_by c.Prune) (joined now z.entries) new) moved p) in
        q ∙ ap (λ l. x ∷ l) a.1 in
        record {
          live = ap (s.answered values.next) a.0.found_is;
          answer = sym (ap (answered values.next) a.0.entry_is);
          ready = subst (λ (z : List Branch). AreJoined z (s.renewed values g.id)) (sym e) (subst (λ (z : Stored V). AreJoined (fresh values.next g ∷ remove vs i) z) (sym moved) (record { ids = (refl, r.1); fall = (omega arith, r.2) }));
          rooted = λ new p. subst AreRooted (sym (whole new p)) (a.0.there h.rooted, rooted_pruned (lifted (but g.id)) (joined vs values.entries));
          shape = λ new next bound p n b.
              (let w = whole new p in let m = n ∙ ap (λ (z : Stored V). z.next) moved in let k = b ∙ ap (λ (z : Stored V). z.bound) moved in
              rw (w, m, k) (sym (ap (begun_anew (tree vs values) g.id) a.0.entry_is)));
        }

  -- versions that callers see as the same
  begun_seen : (vs : List Branch) (values : Stored V) (first now : List Branch) (id : ℕ) → map seen first ≡ map seen now → Begun vs values first id → Begun vs values now id
  begun_seen vs values first now id same b =
      let e = joined_seen now first (s.renewed values id).entries (sym same) in record {
        live = b.live;
        answer = b.answer;
        ready = both_seen first now (s.renewed values id) same b.ready;
        rooted = λ new p. b.rooted new (subst (λ (l : List (Entry V)). IsPrunedFrom 1 (changed_by c.Prune) l new) e p);
        shape = λ new next bound p. b.shape new next bound (subst (λ (l : List (Entry V)). IsPrunedFrom 1 (changed_by c.Prune) l new) e p);
      }

  pub begun : (vs : List Branch) (values : Stored V) (id i : ℕ) → IsTree vs values → IsIndex vs id i → (v w : Branch) → v ≡ get_or vs i v → (changed now : List Branch) → seen w ≡ seen (fresh values.next v)
      → map seen changed ≡ map seen (remove vs i) → now ≡ w ∷ changed → Begun vs values now id
  begun vs values id i h at v w read changed now is same items =
      let first = fresh values.next (get_or vs i v) ∷ remove vs i in
      let as_seen : map seen first ≡ map seen now =
      ap (λ (z : Branch). seen (fresh values.next z) ∷ map seen (remove vs i)) (sym read) ∙ ap (λ (z : Version). z ∷ map seen (remove vs i)) (sym is)
      ∙ ap (λ (l : List Version). seen w ∷ l) (sym same) ∙ ap (map seen) (sym items) in
      subst (λ n. Begun vs values now n) (at.1 v) (begun_seen vs values first now (get_or vs i v).id as_seen (begun_at vs values i h at.0 v first refl))

  pub lives : (vs : List Branch) (values : Stored V) (id i : ℕ) → IsTree vs values → IsIndex vs id i → s.renewed_id values id ≡ Some values.next
  lives vs values id i h at =
      let d : Branch = record { id = 0; parent = None; label = []; groups = []; below = code.Nothing } in
      subst (λ n. s.renewed_id values n ≡ Some values.next) (at.1 d)
      (begun_at vs values i h at.0 d (fresh values.next (get_or vs i d) ∷ remove vs i) refl).live

  some_if : (b : Bool) (v w : Branch) (x : V) (o : Option Branch) (q : Option (Entry V)) → cond b (Some v) o ≡ Some w → (o ≡ Some w → (y : V) × (q ≡ Some (record { version = seen w; value = y })))
      → (y : V) × (cond b (Some (record { version = seen v; value = x })) q ≡ Some (record { version = seen w; value = y }))
  some_if true v w x o q h f = (x, ap (λ (z : Branch). let e : Entry V = record { version = seen z; value = x } in Some e) (same_Some v w h))
  some_if false v w x o q h f = f h

  pub some_entry : (vs : List Branch) (es : List (ℕ × V)) (id : ℕ) (w : Branch) → HaveIds vs es → entry_at branches vs id ≡ Some w → (y : V) × (entry_at kin (joined vs es) id ≡ Some (record { version = seen w; value = y }))
  some_entry [] es id w h n = absurd (cc)
  some_entry (v ∷ vs) [] id w h n = absurd h
  some_entry (v ∷ vs) (e ∷ es) id w h n = some_if (v.id == id) v w e.1 (entry_at branches vs id) (entry_at kin (joined vs es) id) n (some_entry vs es id w h.1)

  pub ids_joined : (vs : List Branch) (es : List (ℕ × V)) → HaveIds vs es → map (λ (v : Branch). v.id) vs ≡ map (λ (e : Entry V). e.version.id) (joined vs es)
  ids_joined [] [] h = refl
  ids_joined [] (e ∷ es) h = absurd h
  ids_joined (v ∷ vs) [] h = absurd h
  ids_joined (v ∷ vs) (e ∷ es) h = ap (λ l. v.id ∷ l) (ids_joined vs es h.1)

pub map_reversed : (vs : List Branch) → map (λ (v : Branch). v.id) (reverse vs) ≡ reverse (map (λ (v : Branch). v.id) vs)
map_reversed [] = refl
map_reversed (v ∷ vs) =
    ap (map (λ (x : Branch). x.id)) (reverse-append (v ∷ []) vs) ∙ map-append (λ (x : Branch). x.id) (reverse vs) (v ∷ [])
    ∙ ap (λ l. l ++ v.id ∷ []) (map_reversed vs) ∙ sym (reverse-append (v.id ∷ []) (map (λ (x : Branch). x.id) vs))
