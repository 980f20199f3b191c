-- A value that is written.
use Rattle.std.proofs.Common.{◌≡◌, ℕ, ◌<◌, Bool, true, false, ◌==◌, cond, List, [], ◌∷◌, refl, sym, ap, subst, ◌∙◌, arith}
use Rattle.std.proofs.lemmas.Bool.Decides.{nat_tests}
use Rattle.sp_store.specs.Stored.{Stored, FallFrom}
use Rattle.sp_store.specs.Stored as s
use Rattle.sp_tree.specs.declared.version.Version.{Version as Branch}
use Rattle.sp_tree.specs.Grown.{Entry, AreRooted, written}
use Rattle.sp_tree.specs.Branches.{seen}
use Rattle.sp_tree.specs.Joined.{joined, HaveIds, IsTree}
use Rattle.sp_tree.proofs.Zipped.{there_joined}

same_id : (m n : ℕ) → (m == n) ≡ true → m ≡ n
same_id m n h = grind (arith, nat_tests)

module _ {V : Type 0} where
  joined_if : (b : Bool) (v : Branch) (vs : List Branch) (e : ℕ × V) (es rest : List (ℕ × V)) (id : ℕ) (w : V) (all : List (Entry V)) → joined vs rest ≡ all
      → joined (v ∷ vs) (cond b ((id, w) ∷ es) (e ∷ rest)) ≡ cond b (record { version = seen v; value = w } ∷ joined vs es) (record { version = seen v; value = e.1 } ∷ all)
  joined_if true v vs e es rest id w all h = refl
  joined_if false v vs e es rest id w all h = ap (λ l. record { version = seen v; value = e.1 } ∷ l) h

  -- a value written in the store is written in the tree
  pub joined_written : (vs : List Branch) (es : List (ℕ × V)) (id : ℕ) (w : V) → HaveIds vs es → joined vs (s.written es id w) ≡ written (joined vs es) id w
  joined_written [] es id w h = refl
  joined_written (v ∷ vs) [] id w h = refl
  joined_written (v ∷ vs) (e ∷ es) id w h =
      joined_if (e.0 == id) v vs e es (s.written es id w) id w (written (joined vs es) id w) (joined_written vs es id w h.1)
      ∙ ap (λ n. cond (n == id) (record { version = seen v; value = w } ∷ joined vs es) (record { version = seen v; value = e.1 } ∷ written (joined vs es) id w)) (sym h.0)

  ids_written : (vs : List Branch) (es : List (ℕ × V)) (id : ℕ) (w : V) → HaveIds vs es → HaveIds vs (s.written es id w)
  ids_written [] [] id w h = tt
  ids_written [] (e ∷ es) id w h = absurd h
  ids_written (v ∷ vs) [] id w h = absurd h
  ids_written (v ∷ vs) (e ∷ es) id w h = one (ids_written vs es id w h.1) (e.0 == id) refl
    where
      one : HaveIds vs (s.written es id w) → (b : Bool) → (e.0 == id) ≡ b → HaveIds (v ∷ vs) (cond b ((id, w) ∷ es) (e ∷ s.written es id w))
      one rest true is = (h.0 ∙ same_id e.0 id is, h.1)
      one rest false is = (h.0, rest)

  fall_written : (top : ℕ) (es : List (ℕ × V)) (id : ℕ) (w : V) → FallFrom top es → FallFrom top (s.written es id w)
  fall_written top [] id w f = tt
  fall_written top (e ∷ es) id w f = one (fall_written e.0 es id w f.1) (e.0 == id) refl
    where
      one : FallFrom e.0 (s.written es id w) → (b : Bool) → (e.0 == id) ≡ b → FallFrom top (cond b ((id, w) ∷ es) (e ∷ s.written es id w))
      one rest true is = subst (λ (n : ℕ). (n < top) × FallFrom n es) (same_id e.0 id is) f
      one rest false is = (f.0, rest)

  -- which parents are there doesn't turn on values
  rooted_same : (vs : List Branch) (es fs : List (ℕ × V)) → HaveIds vs es → HaveIds vs fs → AreRooted (joined vs es) → AreRooted (joined vs fs)
  rooted_same [] es fs h k r = tt
  rooted_same (v ∷ vs) [] fs h k r = absurd h
  rooted_same (v ∷ vs) (e ∷ es) [] h k r = absurd k
  rooted_same (v ∷ vs) (e ∷ es) (f ∷ fs) h k r =
      (there_joined vs fs v.parent k.1 ∙ sym (there_joined vs es v.parent h.1) ∙ r.0, rooted_same vs es fs h.1 k.1 r.1)

  pub tree_written : (vs : List Branch) (values : Stored V) (id : ℕ) (w : V) → IsTree vs values → IsTree vs (s.with_value values id w)
  tree_written vs values id w h =
      let ids = ids_written vs values.entries id w h.both.ids in
      record {
        both = record { ids = ids; fall = fall_written values.next values.entries id w h.both.fall };
        rooted = rooted_same vs values.entries (s.written values.entries id w) h.both.ids ids h.rooted;
        family = h.family;
        hung = h.hung;
      }
