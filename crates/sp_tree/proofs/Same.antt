-- Lists of versions that callers see as the same.
use Rattle.std.proofs.Common.{◌≡◌, ℕ, zero, suc, ◌<◌, List, [], ◌∷◌, length, map, get_or, set, refl, sym, ap, ◌∙◌, arith}
use Rattle.sp_store.specs.Stored.{Stored}
use Rattle.sp_tree.specs.declared.version.Version.{Version as Branch}
use Rattle.sp_tree.specs.Version.{Version}
use Rattle.sp_tree.specs.Branches.{seen}
use Rattle.sp_tree.specs.Grown.{Entry}
use Rattle.sp_tree.specs.Joined.{joined, HaveIds, AreJoined}

heads : (v w : Branch) (vs ws : List Branch) → map seen (v ∷ vs) ≡ map seen (w ∷ ws) → (seen v ≡ seen w) × (map seen vs ≡ map seen ws)
heads v w vs ws h = (cc, cc)

pub seen_length : (vs ws : List Branch) → map seen vs ≡ map seen ws → length vs ≡ length ws
seen_length [] [] h = refl
seen_length [] (w ∷ ws) h = absurd (cc)
seen_length (v ∷ vs) [] h = absurd (cc)
seen_length (v ∷ vs) (w ∷ ws) h = ap suc (seen_length vs ws (heads v w vs ws h).1)

-- a version is written that is seen as the one that was there
pub seen_set : (vs : List Branch) (i : ℕ) (v w : Branch) → i < length vs → v ≡ get_or vs i v → seen w ≡ seen v → map seen (set vs i w) ≡ map seen vs
seen_set [] i v w within read e = absurd (omega arith)
seen_set (x ∷ vs) zero v w within read e = ap (λ (l : Version). l ∷ map seen vs) (e ∙ ap seen read)
seen_set (x ∷ vs) (suc i) v w within read e = ap (λ (l : List Version). seen x ∷ l) (seen_set vs i v w (omega arith) read e)

module _ {V : Type 0} where
  pub joined_seen : (vs ws : List Branch) (es : List (ℕ × V)) → map seen vs ≡ map seen ws → joined vs es ≡ joined ws es
  joined_seen [] [] es h = refl
  joined_seen [] (w ∷ ws) es h = absurd (cc)
  joined_seen (v ∷ vs) [] es h = absurd (cc)
  joined_seen (v ∷ vs) (w ∷ ws) [] h = refl
  joined_seen (v ∷ vs) (w ∷ ws) (e ∷ es) h =
      let s = heads v w vs ws h in
      ap (λ (z : Version). let x : Entry V = record { version = z; value = e.1 } in x ∷ joined vs es) s.0
      ∙ ap (λ (l : List (Entry V)). let x : Entry V = record { version = seen w; value = e.1 } in x ∷ l) (joined_seen vs ws es s.1)

  pub ids_seen : (vs ws : List Branch) (es : List (ℕ × V)) → map seen vs ≡ map seen ws → HaveIds vs es → HaveIds ws es
  ids_seen [] [] es h ids = ids
  ids_seen [] (w ∷ ws) es h ids = absurd (cc)
  ids_seen (v ∷ vs) [] es h ids = absurd (cc)
  ids_seen (v ∷ vs) (w ∷ ws) [] h ids = absurd ids
  ids_seen (v ∷ vs) (w ∷ ws) (e ∷ es) h ids =
      let s = heads v w vs ws h in (ap (λ (z : Version). z.id) (sym s.0) ∙ ids.0, ids_seen vs ws es s.1 ids.1)

  pub both_seen : (vs ws : List Branch) (values : Stored V) → map seen vs ≡ map seen ws → AreJoined vs values → AreJoined ws values
  both_seen vs ws values h both = record { ids = ids_seen vs ws values.entries h both.ids; fall = both.fall }
