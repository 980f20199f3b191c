-- What is suppressed for a version, by its parent: a parent is found under an id that is less.
use Rattle.std.proofs.Common.{◌≡◌, ℕ, ◌<◌, Bool, true, false, cond, ◌||◌, ◌==◌, List, [], ◌∷◌, map, Option, Some, None, is_some, refl, sym, ap, subst, ◌∙◌, arith}
use Rattle.std.specs.Option.{option_map}
use Rattle.std.proofs.lemmas.Bool.Decides.{nat_tests}
use Rattle.sp_base.specs.Numbers.{is_among}
use Rattle.sp_plan.specs.declared.plan.Plan.{Plan}
use Rattle.sp_plan.specs.Runs.{State}
use Rattle.sp_group.specs.Family.{entry_at, parent_there}
use Rattle.sp_group.specs.Machine as machine
use Rattle.sp_group.specs.Machine.{version_at, is_withheld, withheld_by, suppressed_below, suppressed_by}
use Rattle.sp_version.specs.declared.version.Version.{Version}
use Rattle.sp_tree.specs.Grown.{AreRooted, Entry, FallFrom, kin}
use Rattle.sp_core.specs.Holding.{version_of}
use Rattle.sp_core.proofs.Entries.{id_below, version_found}

-- an entry that is there
pub some_entry : (o : Option (Entry Version)) → is_some o ≡ true → (e : Entry Version) × (o ≡ Some e)
some_entry None is = absurd (cc is)
some_entry (Some e) is = (e, refl)

module _ (q : Plan) (f : machine.Version → State) (consumed : List ℕ) where
  -- suppressed among the versions of these entries
  abbrev pub below : List (Entry Version) → ℕ → ℕ → Bool
  below es id i = suppressed_by q f consumed (map version_of es) id i

  -- the parent of a version, and what it makes of what is suppressed
  pub record Parent (es : List (Entry Version)) (id p : ℕ) (label : List ℕ) : Type 0 where
    pub entry : Entry Version
    pub is : entry_at kin es p ≡ Some entry
    pub less : p < id
    pub suppressed : (i : ℕ) → below es id i ≡ (below es p i || is_withheld q (f (version_of entry)) label i)

  -- entries behind the first one
  skip : (x : Entry Version) (es : List (Entry Version)) (id i : ℕ) → (x.version.id == id) ≡ false → below (x ∷ es) id i ≡ below es id i
  skip x es id i other =
      ap (λ (b : Bool). cond b (suppressed_below q f consumed (below es) (version_at (map version_of es)) x.version.parent x.version.label i) (below es id i)) other

  here : (x : Entry Version) (es : List (Entry Version)) (id i : ℕ) → (x.version.id == id) ≡ true
      → below (x ∷ es) id i ≡ suppressed_below q f consumed (below es) (version_at (map version_of es)) x.version.parent x.version.label i
  here x es id i own =
      ap (λ (b : Bool). cond b (suppressed_below q f consumed (below es) (version_at (map version_of es)) x.version.parent x.version.label i) (below es id i)) own

  skip_at : (x : Entry Version) (es : List (Entry Version)) (p : ℕ) (u : Entry Version) → (x.version.id == p) ≡ false → entry_at kin es p ≡ Some u
      → entry_at kin (x ∷ es) p ≡ Some u
  skip_at x es p u other at = ap (λ (b : Bool). cond b (Some x) (entry_at kin es p)) other ∙ at

  -- the root
  pub suppressed_root : (es : List (Entry Version)) (id : ℕ) (e : Entry Version) → entry_at kin es id ≡ Some e → e.version.parent ≡ None
      → (i : ℕ) → below es id i ≡ is_among consumed i
  suppressed_root [] id e at root i = absurd (cc at)
  suppressed_root (x ∷ es) id e at root i = one (x.version.id == id) refl at (λ there. suppressed_root es id e there root i)
    where
      one : (b : Bool) → (x.version.id == id) ≡ b → cond b (Some x) (entry_at kin es id) ≡ Some e
          → (entry_at kin es id ≡ Some e → below es id i ≡ is_among consumed i) → below (x ∷ es) id i ≡ is_among consumed i
      one true is at rest =
          let same : x ≡ e = cc at in
          let none : x.version.parent ≡ None = ap (λ (y : Entry Version). y.version.parent) same ∙ root in
          here x es id i is ∙ ap (λ (o : Option ℕ). suppressed_below q f consumed (below es) (version_at (map version_of es)) o x.version.label i) none
      one false is at rest = skip x es id i is ∙ rest at

  -- the first entry, and its parent behind it
  suppressed_first : (x : Entry Version) (es : List (Entry Version)) (id p : ℕ) (u : Entry Version) → (x.version.id == id) ≡ true → (x.version.id == p) ≡ false
      → x.version.parent ≡ Some p → version_at (map version_of es) p ≡ Some (version_of u) → (i : ℕ)
      → below (x ∷ es) id i ≡ (below (x ∷ es) p i || is_withheld q (f (version_of u)) x.version.label i)
  suppressed_first x es id p u own other mine version i =
      here x es id i own ∙ ap (λ (o : Option ℕ). suppressed_below q f consumed (below es) (version_at (map version_of es)) o x.version.label i) mine
      ∙ ap (λ (o : Option machine.Version). below es p i || withheld_by q f o x.version.label i) version
      ∙ ap (λ (b : Bool). b || is_withheld q (f (version_of u)) x.version.label i) (sym (skip x es p i other))

  first : (x : Entry Version) (es : List (Entry Version)) (id p : ℕ) (u : Entry Version) → x.version.id ≡ id → x.version.parent ≡ Some p → p < x.version.id
      → entry_at kin es p ≡ Some u → Parent (x ∷ es) id p x.version.label
  first x es id p u is mine low found =
      let own : (x.version.id == id) ≡ true = grind (arith, nat_tests) in
      let other : (x.version.id == p) ≡ false = grind (arith, nat_tests) in
      record {
        entry = u;
        is = skip_at x es p u other found;
        less = omega arith;
        suppressed = suppressed_first x es id p u own other mine (version_found es p ∙ ap (option_map version_of) found);
      }

  -- a version with a parent
  pub suppressed_child : (top : ℕ) (es : List (Entry Version)) (id p : ℕ) (e : Entry Version) → FallFrom top es → AreRooted es
      → entry_at kin es id ≡ Some e → e.version.parent ≡ Some p → Parent es id p e.version.label
  suppressed_child top [] id p e fall rooted at parent = absurd (cc at)
  suppressed_child top (x ∷ es) id p e fall rooted at parent =
      one (x.version.id == id) refl at (λ there. suppressed_child x.version.id es id p e fall.1 rooted.1 there parent)
    where
      one : (b : Bool) → (x.version.id == id) ≡ b → cond b (Some x) (entry_at kin es id) ≡ Some e
          → (entry_at kin es id ≡ Some e → Parent es id p e.version.label) → Parent (x ∷ es) id p e.version.label
      one true is at rest =
          let same : x ≡ e = cc at in
          let mine : x.version.parent ≡ Some p = ap (λ (y : Entry Version). y.version.parent) same ∙ parent in
          let there = some_entry (entry_at kin es p) (subst (λ (o : Option ℕ). parent_there kin es o ≡ true) mine rooted.0) in
          let own : x.version.id ≡ id = grind (arith, nat_tests) in
          let low : p < x.version.id = id_below x.version.id es p there.0 fall.1 there.1 in
          subst (λ (y : Entry Version). Parent (x ∷ es) id p y.version.label) same (first x es id p there.0 own mine low there.1)
      one false is at rest =
          let r = rest at in
          let low = id_below x.version.id es id e fall.1 at in
          let less = r.less in
          let other : (x.version.id == p) ≡ false = grind (arith, nat_tests) in
          record {
            entry = r.entry;
            is = skip_at x es p r.entry other r.is;
            less = less;
            suppressed = λ i. skip x es id i is ∙ r.suppressed i ∙ ap (λ (b : Bool). b || is_withheld q (f (version_of r.entry)) e.version.label i) (sym (skip x es p i other));
          }
