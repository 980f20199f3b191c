-- Groups that open for a version, and the vertices for them.
use Rattle.std.proofs.Common.{◌≡◌, ℕ, ◌<◌, Bool, true, false, cond, ◌||◌, ◌==◌, List, [], ◌∷◌, length, map, reverse, get_or, set, Option, Some, None, is_some, refl, sym, ap, subst, ◌∙◌, arith, eq-eqb}
use Rattle.std.specs.Prelude.{nat_lt}
use Rattle.std.specs.List.{All, AllByRecursion}
use Rattle.std.proofs.lemmas.Bool.{false≢true}
use Rattle.std.proofs.lemmas.Bool.Decides.{nat_tests}
use Rattle.std.proofs.lemmas.List.Elements.{recursion_from_All, All-from_recursion}
use Rattle.std.proofs.lemmas.List.Sorted.{IsPermutation-reverse, list_any-IsPermutation}
use Rattle.sp_base.specs.Numbers.{is_among, with_number}
use Rattle.sp_store.specs.Stored.{Stored}
use Rattle.sp_group.specs.Family.{entry_at}
use Rattle.sp_tree.specs.declared.version.Version.{Version as Branch}
use Rattle.sp_tree.specs.Version.{Version}
use Rattle.sp_tree.specs.Branches.{branches, seen, HasBelow, IsFilled}
use Rattle.sp_tree.specs.Children.{children_of, IsRising}
use Rattle.sp_tree.specs.Shape.{shape_of, is_nothing, built, filled}
use Rattle.sp_tree.specs.Paths.{ids_under}
use Rattle.sp_tree.specs.Grown.{Entry, kin, groups_of, opened_for, regrouped, with_all_groups}
use Rattle.sp_tree.specs.Joined.{joined, IsTree}
use Rattle.sp_tree.proofs.Built.{built_none}
use Rattle.sp_tree.proofs.Counted.{ids_of}
use Rattle.sp_tree.proofs.Hung.{grows, hung_filled, family_filled}
use Rattle.sp_tree.proofs.Decided.{rises}
use Rattle.sp_tree.proofs.Renewed.{tree, some_entry}
use Rattle.sp_tree.proofs.Zipped.{there_joined}
use Rattle.sp_tree.proofs.Searched.{falling, found_at, found_read}
use Rattle.sp_tree.proofs.Seen.{seen_entry, version_rises}
use Rattle.sp_tree.proofs.Opened.{rooted_kept, groups_set}
use Rattle.sp_tree.proofs.Ways.{under_is}

same : (m n : ℕ) → (m == n) ≡ true → m ≡ n
same m n h = grind (arith, nat_tests)

right : (a b : Bool) → b ≡ true → (a || b) ≡ true
right true b h = refl
right false b h = h

-- what holds of all numbers of a list
all_among : (more gs : List ℕ) → AllByRecursion (λ r. is_among more r ≡ true) gs → (r : ℕ) → is_among gs r ≡ true → is_among more r ≡ true
all_among more [] h r m = absurd (false≢true m)
all_among more (g ∷ gs) h r m = one (g == r) refl m (all_among more gs h.1 r)
  where
    one : (b : Bool) → (g == r) ≡ b → (b || is_among gs r) ≡ true → (is_among gs r ≡ true → is_among more r ≡ true) → is_among more r ≡ true
    one true is e rest = ap (is_among more) (sym (same g r is)) ∙ h.0
    one false is e rest = rest e

pub from_all : (more gs : List ℕ) → All (λ r. is_among more r ≡ true) gs → (r : ℕ) → is_among gs r ≡ true → is_among more r ≡ true
from_all more gs h = all_among more gs (recursion_from_All (λ r. is_among more r ≡ true) gs h)

pub to_all : (more gs : List ℕ) → ((r : ℕ) → is_among gs r ≡ true → is_among more r ≡ true) → All (λ r. is_among more r ≡ true) gs
to_all more gs h = All-from_recursion (λ r. is_among more r ≡ true) gs (go gs h)
  where
    go : (ns : List ℕ) → ((r : ℕ) → is_among ns r ≡ true → is_among more r ≡ true) → AllByRecursion (λ r. is_among more r ≡ true) ns
    go [] h = tt
    go (n ∷ ns) h = (h n (ap (λ (b : Bool). b || is_among ns n) (eq-eqb n n refl)), go ns (λ r m. h r (right (n == r) (is_among ns r) m)))

-- one number more
pub among_with : (ns : List ℕ) (n r : ℕ) → is_among ns r ≡ true → is_among (with_number ns n) r ≡ true
among_with [] n r h = absurd (false≢true h)
among_with (m ∷ ms) n r h = one (nat_lt n m) (m == n) h (among_with ms n r)
  where
    two : (c : Bool) → (c || is_among ms r) ≡ true → (is_among ms r ≡ true → is_among (with_number ms n) r ≡ true) → (c || is_among (with_number ms n) r) ≡ true
    two true h rest = refl
    two false h rest = rest h

    one : (a b : Bool) → (m == r || is_among ms r) ≡ true → (is_among ms r ≡ true → is_among (with_number ms n) r ≡ true) → is_among (cond a (n ∷ m ∷ ms) (cond b (m ∷ ms) (m ∷ with_number ms n))) r ≡ true
    one true b h rest = right (n == r) (m == r || is_among ms r) h
    one false true h rest = h
    one false false h rest = two (m == r) h rest

some_there : (o : Option Branch) → is_some o ≡ true → (v : Branch) × (o ≡ Some v)
some_there None h = absurd (false≢true h)
some_there (Some v) h = (v, refl)

module _ {V : Type 0} where
  pub opened_regrouped : (owner run : ℕ) (es : List (Entry V)) → regrouped owner (with_number (groups_of (entry_at kin es owner)) run) es ≡ opened_for owner run es
  opened_regrouped owner run [] = refl
  opened_regrouped owner run (e ∷ es) = one (e.version.id == owner) (opened_regrouped owner run es)
    where
      one : (b : Bool) → regrouped owner (with_number (groups_of (entry_at kin es owner)) run) es ≡ opened_for owner run es
          → cond b (record { version = record e.version { groups = with_number (groups_of (cond b (Some e) (entry_at kin es owner))) run }; value = e.value } ∷ es) (e ∷ regrouped owner (with_number (groups_of (cond b (Some e) (entry_at kin es owner))) run) es)
          ≡ cond b (record { version = record e.version { groups = with_number e.version.groups run }; value = e.value } ∷ es) (e ∷ opened_for owner run es)
      one true rest = refl
      one false rest = ap (λ (l : List (Entry V)). e ∷ l) rest

  pub tree_filled : (vs : List Branch) (values : Stored V) (i : ℕ) (v w : Branch) → IsTree vs values → i < length vs → v ≡ get_or vs i v → w.id ≡ v.id → w.parent ≡ v.parent → w.label ≡ v.label
      → ((r : ℕ) → is_among v.groups r ≡ true → is_among w.groups r ≡ true) → IsRising w.groups → shape_of w.below ≡ filled w.groups (shape_of v.below) → IsTree (set vs i w) values
  tree_filled vs values i v w h within read id up label more rises shape =
      let fall = falling vs values h.both in
      let at : entry_at branches vs v.id ≡ Some v = found_at fall.top vs v.id i v fall.falls within (ap (λ (z : Branch). z.id) (sym read)) ∙ ap (λ (z : Branch). Some z) (sym read) in
      let mine = version_rises vs v.id v h.family.rising at in
      let r = rooted_kept vs values i v w h within read id up in
      record {
        both = r.both;
        rooted = r.rooted;
        family = family_filled vs i v w fall within read id up label h.family more rises;
        hung = hung_filled vs i v w fall within read id up label h.hung (grows v.groups v.groups w.groups mine.1 rises more (λ r m. refl)) (λ n there. h.family.held n (seen v) (seen_entry vs n v there)) shape;
      }

  -- where a version has no child nothing hangs below it
  pub childless : (vs : List Branch) (values : Stored V) (id : ℕ) (v : Branch) → IsTree vs values → entry_at branches vs id ≡ Some v → ids_under (joined vs values.entries) id ≡ [] → is_nothing (shape_of v.below) ≡ true
  childless vs values id v h at none =
      ap is_nothing (h.hung id v at ∙ ap (built v.groups) (go (children_of id (map seen vs)) (under_is vs values id h ∙ none)) ∙ built_none v.groups)
    where
      go : (cs : List (List ℕ × ℕ)) → reverse (ids_of cs) ≡ [] → cs ≡ []
      go [] e = refl
      go (c ∷ cs) e =
          let there : is_among (reverse (ids_of (c ∷ cs))) c.1 ≡ true =
          sym (list_any-IsPermutation (λ (k : ℕ). k == c.1) (ids_of (c ∷ cs)) (reverse (ids_of (c ∷ cs))) (IsPermutation-reverse (ids_of (c ∷ cs))))
          ∙ ap (λ (b : Bool). b || is_among (ids_of cs) c.1) (eq-eqb c.1 c.1 refl) in
          absurd (false≢true (sym (ap (λ (l : List ℕ). is_among l c.1) e) ∙ there))

  pub live_there : (vs : List Branch) (values : Stored V) (id : ℕ) → IsTree vs values → is_some (entry_at kin (joined vs values.entries) id) ≡ true → is_some (entry_at branches vs id) ≡ true
  live_there vs values id h live = sym (there_joined vs values.entries (Some id) h.both.ids) ∙ live

  pub has_child : (vs : List Branch) (values : Stored V) (id : ℕ) → IsTree vs values → is_some (entry_at kin (joined vs values.entries) id) ≡ true → HasBelow vs id → ids_under (joined vs values.entries) id ≡ [] → ⊥
  has_child vs values id h live below none =
      let v = some_there (entry_at branches vs id) (live_there vs values id h live) in
      false≢true (sym (below v.0 v.1) ∙ childless vs values id v.0 h v.1 none)

  -- the open groups of a version are others
  pub filled_tree : (vs : List Branch) (values : Stored V) (owner : ℕ) (groups : List ℕ) (new : List Branch) → IsTree vs values → IsFilled vs owner groups new
      → All (λ r. is_among groups r ≡ true) (groups_of (entry_at kin (joined vs values.entries) owner)) → IsTree new values × (tree new values ≡ with_all_groups (tree vs values) owner groups)
  filled_tree vs values owner groups new h f more =
      let at = found_read vs owner f.index f.was (falling vs values h.both) f.at f.read in
      let e = some_entry vs values.entries owner f.was h.both.ids at in
      let mine : f.now.groups ≡ groups = ap (λ (z : Version). z.groups) f.seen_as in
      let sub = from_all groups f.was.groups (subst (All (λ r. is_among groups r ≡ true)) (ap groups_of e.1) more) in
      let whole = tree_filled vs values f.index f.was f.now h f.at.0 f.read (ap (λ (z : Version). z.id) f.seen_as) (ap (λ (z : Version). z.parent) f.seen_as) (ap (λ (z : Version). z.label) f.seen_as)
      (λ r m. ap (λ (l : List ℕ). is_among l r) mine ∙ sub r m) (subst IsRising (sym mine) (rises groups f.label.rising))
      (f.shape ∙ ap (λ (l : List ℕ). filled l (shape_of f.was.below)) (sym mine)) in (
        subst (λ (l : List Branch). IsTree l values) (sym f.written) whole,
        ap (λ (l : List Branch). tree l values) f.written ∙ groups_set vs values owner f.index groups f.was f.now h f.at f.read f.seen_as,
      )
