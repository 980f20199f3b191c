-- A prune of a list with kin: the versions of the machine for which the tree's entries stand, what holds of each entry, sums, and ids.
use Rattle.std.proofs.Common.{◌≡◌, ℕ, suc, ◌+◌, ◌<◌, ◌≤◌, Bool, true, false, cond, ◌==◌, List, [], ◌∷◌, length, get_or, map, Option, Some, None, is_some, refl, sym, ap, subst, ◌∙◌, arith, Bor}
use Rattle.std.specs.List.{All, sum}
use Rattle.std.specs.Option.{option_map, option_copied}
use Rattle.std.proofs.lemmas.List.Elements.{All-nil, All-cons, All-head, All-tail}
use Rattle.std.proofs.lemmas.List.Sums.{sum-map, sum_by-cons}
use Rattle.std.proofs.lemmas.Option.{same_Some}
use Rattle.sp_version.specs.declared.version.Version.{Version}
use Rattle.sp_group.specs.Family.{Kin, entry_at, parent_there, prune, kept, is_parent}
use Rattle.sp_group.specs.Machine as machine
use Rattle.sp_group.specs.Machine.{version_at}
use Rattle.sp_group.specs.Effects as effects
use Rattle.sp_tree.specs.Grown.{Grown, Entry, kin, lifted, with_version, value_of, AreGrown, AreRooted, FallFrom}
use Rattle.sp_tree.specs.Changes as changes
use Rattle.sp_core.specs.Holding.{version_of}
use Rattle.sp_core.proofs.Entries.{version_found}

is_some_map : {A B : Type 0} (f : A → B) (o : Option A) → is_some (option_map f o) ≡ is_some o
is_some_map f None = refl
is_some_map f (Some x) = refl

-- a value that is got is there for a version of the machine
pub live_where_got : (es : List (Entry Version)) (id : ℕ) (got : Option (Bor Version)) → option_copied got ≡ value_of (entry_at kin es id)
    → is_some (version_at (map version_of es) id) ≡ is_some got
live_where_got es id got h = ap is_some (version_found es id) ∙ is_some_map version_of (entry_at kin es id) ∙ held (entry_at kin es id) got h
  where
    held : (o : Option (Entry Version)) (got : Option (Bor Version)) → option_copied got ≡ value_of o → is_some o ≡ is_some got
    held None None h = refl
    held None (Some x) h = absurd (cc)
    held (Some e) None h = absurd (cc)
    held (Some e) (Some x) h = refl

pub parent_version : (es : List (Entry Version)) (p : Option ℕ) → parent_there machine.kin (map version_of es) p ≡ parent_there kin es p
parent_version es None = refl
parent_version es (Some p) = ap is_some (version_found es p) ∙ is_some_map version_of (entry_at kin es p)

kept_version : (o : Option (Entry Version)) (es : List (Entry Version)) → map version_of (kept kin o es) ≡ kept machine.kin (option_map version_of o) (map version_of es)
kept_version None es = refl
kept_version (Some e) es =
    one (parent_there kin es e.version.parent)
    ∙ ap (λ b. cond b (version_of e ∷ map version_of es) (map version_of es)) (sym (parent_version es e.version.parent))
  where
    one : (b : Bool) → map version_of (cond b (e ∷ es) es) ≡ cond b (version_of e ∷ map version_of es) (map version_of es)
    one true = refl
    one false = refl

-- one rule does to an entry what the other does to its version
abbrev pub AreAlike : (Entry Version → Option (Entry Version)) → (machine.Version → Option machine.Version) → Entry Version → Type 0
AreAlike rule other e = option_map version_of (rule e) ≡ other (version_of e)

-- The entries are pruned as their versions are, where the rules do the same to each of them.
pub versions_pruned : (rule : Entry Version → Option (Entry Version)) (other : machine.Version → Option machine.Version) (es : List (Entry Version))
    → All (AreAlike rule other) es → map version_of (prune kin rule es) ≡ prune machine.kin other (map version_of es)
versions_pruned rule other [] h = refl
versions_pruned rule other (e ∷ es) h =
    kept_version (rule e) (prune kin rule es)
    ∙ ap (kept machine.kin (option_map version_of (rule e))) (versions_pruned rule other es (All-tail (AreAlike rule other) e es h))
    ∙ ap (λ o. kept machine.kin o (prune machine.kin other (map version_of es))) (All-head (AreAlike rule other) e es h)

-- a version goes, and all below it
pub but_pruned : (id : ℕ) (es : List (Entry Version)) → map version_of (prune kin (lifted (changes.but id)) es) ≡ prune machine.kin (effects.but id) (map version_of es)
but_pruned id es = versions_pruned (lifted (changes.but id)) (effects.but id) es (λ k d _. one (get_or es k d) ((get_or es k d).version.id == id))
  where
    one : (e : Entry Version) (b : Bool) → option_map version_of (with_version e.value (cond b None (Some e.version))) ≡ cond b None (Some (version_of e))
    one e true = refl
    one e false = refl

-- the root goes, and its children lose their parent
pub promoted_pruned : (id : ℕ) (es : List (Entry Version)) → map version_of (prune kin (lifted (changes.promoted id)) es) ≡ prune machine.kin (effects.promoted id) (map version_of es)
promoted_pruned id es =
    versions_pruned (lifted (changes.promoted id)) (effects.promoted id) es
    (λ k d _. one (get_or es k d) ((get_or es k d).version.id == id) (is_parent id (get_or es k d).version.parent))
  where
    one : (e : Entry Version) (b p : Bool)
        → option_map version_of (with_version e.value (cond b None (cond p (Some (record e.version { parent = None })) (Some e.version))))
        ≡ cond b None (cond p (Some (record (version_of e) { parent = None })) (Some (version_of e)))
    one e true p = refl
    one e false true = refl
    one e false false = refl

-- a sum over a list that has one element more in front
pub sum_first : {A : Type 0} (g : A → ℕ) (x : A) (xs : List A) → sum (map g (x ∷ xs)) ≡ g x + sum (map g xs)
sum_first g x xs = sum-map g (x ∷ xs) ∙ sum_by-cons g x xs ∙ ap (λ n. g x + n) (sym (sum-map g xs))

module _ {A : Type 0} (k : Kin A) where
  all_kept : (Q : A → Type 0) (o : Option A) (es : List A) → ((new : A) → o ≡ Some new → Q new) → All Q es → All Q (kept k o es)
  all_kept Q None es h a = a
  all_kept Q (Some e) es h a = one (parent_there k es (k.parent e))
    where
      one : (b : Bool) → All Q (cond b (e ∷ es) es)
      one true = All-cons Q e es (h e refl) a
      one false = a

  sum_kept : (g : A → ℕ) (n m : ℕ) (o : Option A) (es : List A) → ((new : A) → o ≡ Some new → g new ≤ n) → sum (map g es) ≤ m → sum (map g (kept k o es)) ≤ n + m
  sum_kept g n m None es h l = omega arith
  sum_kept g n m (Some new) es h l = one (parent_there k es (k.parent new))
    where
      one : (b : Bool) → sum (map g (cond b (new ∷ es) es)) ≤ n + m
      one true = let here : g new ≤ n = h new refl in let more = sum_first g new es in omega arith
      one false = omega arith

  module _ (rule : A → Option A) where
    -- what the rule makes of each entry holds of all that are left
    pub all_pruned : (P Q : A → Type 0) → ((e new : A) → rule e ≡ Some new → P e → Q new) → (es : List A) → All P es → All Q (prune k rule es)
    all_pruned P Q h [] a = All-nil Q
    all_pruned P Q h (e ∷ es) a = all_kept Q (rule e) (prune k rule es) (λ new is. h e new is (All-head P e es a)) (all_pruned P Q h es (All-tail P e es a))

    module _ (g : A → ℕ) (less : (e new : A) → rule e ≡ Some new → g new ≤ g e) where
      -- a sum over the entries does not grow, where the rule makes no entry count for more
      pub sum_pruned : (es : List A) → sum (map g (prune k rule es)) ≤ sum (map g es)
      sum_pruned [] = omega arith
      sum_pruned (e ∷ es) =
          let kept = sum_kept g (g e) (sum (map g es)) (rule e) (prune k rule es) (less e) (sum_pruned es) in
          let more = sum_first g e es in
          omega arith

      without_first : (e gone : A) (es : List A) → e ≡ gone → rule gone ≡ None → sum (map g (prune k rule (e ∷ es))) + g gone ≤ sum (map g (e ∷ es))
      without_first e gone es same none =
          let left : sum (map g (prune k rule (e ∷ es))) ≡ sum (map g (prune k rule es)) = ap (λ o. sum (map g (kept k o (prune k rule es)))) (ap rule same ∙ none) in
          let fewer = sum_pruned es in
          let size = ap g same in
          let more = sum_first g e es in
          omega arith

      without_later : (e gone : A) (es : List A) → sum (map g (prune k rule es)) + g gone ≤ sum (map g es) → sum (map g (prune k rule (e ∷ es))) + g gone ≤ sum (map g (e ∷ es))
      without_later e gone es rest =
          let kept = sum_kept g (g e) (sum (map g (prune k rule es))) (rule e) (prune k rule es) (less e) (omega arith) in
          let more = sum_first g e es in
          omega arith

      without_if : (b : Bool) (e gone : A) (es : List A) (o : Option A) → cond b (Some e) o ≡ Some gone → rule gone ≡ None
          → (o ≡ Some gone → sum (map g (prune k rule es)) + g gone ≤ sum (map g es)) → sum (map g (prune k rule (e ∷ es))) + g gone ≤ sum (map g (e ∷ es))
      without_if true e gone es o at none rest = without_first e gone es (same_Some e gone at) none
      without_if false e gone es o at none rest = without_later e gone es (rest at)

      -- and what goes counts no more
      pub sum_without : (es : List A) (id : ℕ) (gone : A) → entry_at k es id ≡ Some gone → rule gone ≡ None → sum (map g (prune k rule es)) + g gone ≤ sum (map g es)
      sum_without [] id gone at none = absurd (cc)
      sum_without (e ∷ es) id gone at none = without_if (k.id e == id) e gone es (entry_at k es id) at none (λ there. sum_without es id gone there none)

-- the ids fall from a greater one too
pub fall_higher : {V : Type 0} (low top : ℕ) (es : List (Entry V)) → low ≤ top → FallFrom low es → FallFrom top es
fall_higher low top [] l h = tt
fall_higher low top (e ∷ es) l h = (let a = h.0 in omega arith, h.1)

module _ {V : Type 0} where
  rooted_kept : (o : Option (Entry V)) (es : List (Entry V)) → AreRooted es → AreRooted (kept kin o es)
  rooted_kept None es h = h
  rooted_kept (Some e) es h = one (parent_there kin es e.version.parent) refl
    where
      one : (b : Bool) → parent_there kin es e.version.parent ≡ b → AreRooted (cond b (e ∷ es) es)
      one true is = (is, h)
      one false is = h

  fall_kept : (top id : ℕ) (o : Option (Entry V)) (es : List (Entry V)) → ((new : Entry V) → o ≡ Some new → new.version.id ≡ id) → id < top → FallFrom id es → FallFrom top (kept kin o es)
  fall_kept top id None es h l f = fall_higher id top es (omega arith) f
  fall_kept top id (Some e) es h l f = one (parent_there kin es e.version.parent)
    where
      one : (b : Bool) → FallFrom top (cond b (e ∷ es) es)
      one true = let same : e.version.id ≡ id = h e refl in (omega arith, subst (λ n. FallFrom n es) (sym same) f)
      one false = fall_higher id top es (omega arith) f

  length_kept : (o : Option (Entry V)) (es : List (Entry V)) → length (kept kin o es) ≤ suc (length es)
  length_kept None es = omega arith
  length_kept (Some e) es = one (parent_there kin es e.version.parent)
    where
      one : (b : Bool) → length (cond b (e ∷ es) es) ≤ suc (length es)
      one true = omega arith
      one false = omega arith

  module _ (rule : Entry V → Option (Entry V)) where
    pub rooted_pruned : (es : List (Entry V)) → AreRooted (prune kin rule es)
    rooted_pruned [] = tt
    rooted_pruned (e ∷ es) = rooted_kept (rule e) (prune kin rule es) (rooted_pruned es)

    pub length_pruned : (es : List (Entry V)) → length (prune kin rule es) ≤ length es
    length_pruned [] = omega arith
    length_pruned (e ∷ es) = let a = length_kept (rule e) (prune kin rule es) in let b = length_pruned es in omega arith

    module _ (ids : (e new : Entry V) → rule e ≡ Some new → new.version.id ≡ e.version.id) where
      pub fall_pruned : (top : ℕ) (es : List (Entry V)) → FallFrom top es → FallFrom top (prune kin rule es)
      fall_pruned top [] h = tt
      fall_pruned top (e ∷ es) h = fall_kept top e.version.id (rule e) (prune kin rule es) (ids e) h.0 (fall_pruned e.version.id es h.1)

      -- what every tree keeps is kept
      pub grown_pruned : (t : Grown V) → AreGrown t → AreGrown (record t { entries = prune kin rule t.entries })
      grown_pruned t h = record {
        fall = fall_pruned t.next t.entries h.fall;
        most = let a = length_pruned t.entries in let b = h.most in omega arith;
        rooted = rooted_pruned t.entries;
      }
