-- The root of a tree is found under its id, and stands for the machine's root.
use Rattle.std.proofs.Common.{◌≡◌, ℕ, ◌<◌, Bool, true, false, cond, ◌==◌, List, [], ◌∷◌, map, Option, Some, None, is_some, refl, sym, ap, ◌∙◌, arith}
use Rattle.std.specs.Prelude.{IsSome}
use Rattle.std.proofs.lemmas.Bool.Decides.{nat_tests}
use Rattle.std.proofs.lemmas.Option.{same_Some, none-some}
use Rattle.sp_version.specs.declared.version.Version.{Version}
use Rattle.sp_group.specs.Family.{entry_at}
use Rattle.sp_group.specs.Machine as machine
use Rattle.sp_group.specs.Refusing.{id_of}
use Rattle.sp_tree.specs.Grown.{Grown, Entry, AreGrown, FallFrom, kin, root_in, value_of}
use Rattle.sp_core.specs.Holding.{version_of}
use Rattle.sp_core.specs.Finishing.{done_root}
use Rattle.sp_core.specs.Renewing.{IsAnew}

-- the entry of the root
pub record Root (es : List (Entry Version)) (root : ℕ) : Type 0 where
  pub entry : Entry Version
  pub is : entry_at kin es root ≡ Some entry
  pub own : entry.version.id ≡ root
  pub top : entry.version.parent ≡ None
  pub version : machine.root_in (map version_of es) ≡ Some (version_of entry)

has_none : (o : Option ℕ) → is_some o ≡ false → o ≡ None
has_none None h = refl
has_none (Some n) h = absurd (cc)

pub root_below : (top root : ℕ) (es : List (Entry Version)) → FallFrom top es → root_in es ≡ Some root → Root es root × (root < top)
root_below top root [] fall h = absurd (none-some root h)
root_below top root (e ∷ es) fall h = one (is_some e.version.parent) refl h (root_below e.version.id root es fall.1)
  where
    one : (b : Bool) → is_some e.version.parent ≡ b → cond b (root_in es) (Some e.version.id) ≡ Some root
        → (root_in es ≡ Some root → Root es root × (root < e.version.id)) → Root (e ∷ es) root × (root < top)
    one true is h rest =
        let r = rest h in
        let less = r.1 in
        let low = fall.0 in
        let other : (e.version.id == root) ≡ false = grind (arith, nat_tests) in (
          record {
            entry = r.0.entry;
            is = ap (λ b. cond b (Some e) (entry_at kin es root)) other ∙ r.0.is;
            own = r.0.own;
            top = r.0.top;
            version = ap (λ b. cond b (machine.root_in (map version_of es)) (Some (version_of e))) is ∙ r.0.version;
          },
          omega arith,
        )
    one false is h rest =
        let own : e.version.id ≡ root = same_Some e.version.id root h in
        let low = fall.0 in
        let same : (e.version.id == root) ≡ true = grind (arith, nat_tests) in (
          record {
            entry = e;
            is = ap (λ b. cond b (Some e) (entry_at kin es root)) same;
            own = own;
            top = has_none e.version.parent is;
            version = ap (λ b. cond b (machine.root_in (map version_of es)) (Some (version_of e))) is;
          },
          omega arith,
        )

pub root_entry : (t : Grown Version) (root : ℕ) → AreGrown t → root_in t.entries ≡ Some root → Root t.entries root
root_entry t root grown h = (root_below t.next root t.entries grown.fall h).0

-- the tree's root has the id of the machine's
pub root_id : (es : List (Entry Version)) → root_in es ≡ id_of (machine.root_in (map version_of es))
root_id [] = refl
root_id (e ∷ es) = one (is_some e.version.parent) (root_id es)
  where
    one : (b : Bool) → root_in es ≡ id_of (machine.root_in (map version_of es)) → cond b (root_in es) (Some e.version.id) ≡ id_of (cond b (machine.root_in (map version_of es)) (Some (version_of e)))
    one true rest = rest
    one false rest = refl

pub live_root : (t : Grown Version) (root : ℕ) → AreGrown t → root_in t.entries ≡ Some root → IsSome (entry_at kin t.entries root)
live_root t root grown h = ap is_some (root_entry t root grown h).is

-- where the root begins anew, it is the root under its new id
pub root_anew : (t new : Grown Version) (root : ℕ) → AreGrown t → root_in t.entries ≡ Some root → IsAnew t root new → root_in new.entries ≡ Some t.next
root_anew t new root grown h a =
    let r = root_entry t root grown h in
    let none : a.entry.version.parent ≡ None = ap (λ (e : Entry Version). e.version.parent) (same_Some a.entry r.entry (sym a.was ∙ r.is)) ∙ r.top in
    ap (λ (g : Grown Version). root_in g.entries) a.is ∙ rw none refl

-- a root that is done
pub record Done (es : List (Entry Version)) (root window : ℕ) : Type 0 where
  pub at : Root es root
  pub is_root : root_in es ≡ Some root
  pub done : at.entry.value.done ≡ true
  pub window_is : at.entry.value.window ≡ window

pub done_is : (t : Grown Version) (root window : ℕ) → AreGrown t → done_root (machine.root_in (map version_of t.entries)) ≡ Some (root, window) → Done t.entries root window
done_is t root window grown h = one (machine.root_in (map version_of t.entries)) refl h
  where
    two : (v : machine.Version) → machine.root_in (map version_of t.entries) ≡ Some v → (b : Bool) → v.done ≡ b → cond {A = Option (ℕ × ℕ)} b (Some (v.id, v.window)) None ≡ Some (root, window)
        → Done t.entries root window
    two v is false done h = absurd (cc)
    two v is true done h =
        let pair = same_Some (v.id, v.window) (root, window) h in
        let at : root_in t.entries ≡ Some root = root_id t.entries ∙ ap id_of is ∙ ap (λ (p : ℕ × ℕ). Some p.0) pair in
        let r = root_entry t root grown at in
        let same : version_of r.entry ≡ v = same_Some (version_of r.entry) v (sym r.version ∙ is) in
        record {
          at = r;
          is_root = at;
          done = ap (λ (u : machine.Version). u.done) same ∙ done;
          window_is = ap (λ (u : machine.Version). u.window) same ∙ ap (λ (p : ℕ × ℕ). p.1) pair;
        }

    one : (o : Option machine.Version) → machine.root_in (map version_of t.entries) ≡ o → done_root o ≡ Some (root, window) → Done t.entries root window
    one None is h = absurd (cc)
    one (Some v) is h = two v is v.done refl h

-- what the tree tells of its root
pub done_told : (t : Grown Version) (root : ℕ) (held : Version) (b : Bool) → AreGrown t → root_in t.entries ≡ Some root → Some held ≡ value_of (entry_at kin t.entries root)
    → held.done ≡ b → cond {A = Option (ℕ × ℕ)} b (Some (root, held.window)) None ≡ done_root (machine.root_in (map version_of t.entries))
done_told t root held b grown at got done =
    let r = root_entry t root grown at in
    let same : held ≡ r.entry.value = same_Some held r.entry.value (got ∙ ap value_of r.is) in
    ap (λ x. cond {A = Option (ℕ × ℕ)} x (Some (root, held.window)) None) (sym done)
    ∙ ap (λ (v : Version). cond {A = Option (ℕ × ℕ)} v.done (Some (root, v.window)) None) same
    ∙ ap (λ n. cond {A = Option (ℕ × ℕ)} r.entry.value.done (Some (n, r.entry.value.window)) None) (sym r.own)
    ∙ sym (ap done_root r.version)
