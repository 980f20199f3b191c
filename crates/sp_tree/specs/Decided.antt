-- What becomes of the versions where several groups of one owner are decided, and where groups of it are opened.
use Rattle.std.specs.Prelude.{◌≡◌, ℕ, Bool, true, false, not, List, [], ◌∷◌, ◌++◌, filter, map, Option, Some, None, ◌==◌, if◌then◌else◌}
use Rattle.std.specs.List.Sorted.{IsStrictlyIncreasing}
use Rattle.sp_base.specs.Numbers.{is_among, with_number}
use Rattle.sp_group.specs.declared.outcome.Outcome.{Outcome}
use Rattle.sp_group.specs.declared.outcome.Outcome.TheVariants.{Completed}
use Rattle.sp_group.specs.Deciding.{others, others_than, foresaw_all}
use Rattle.sp_group.specs.Family.{entry_at, is_parent, prune}
use Rattle.sp_tree.specs.Version.{Version}
use Rattle.sp_tree.specs.Changes.{decided}
use Rattle.sp_tree.specs.Children.{AreFamily}
use Rattle.sp_tree.specs.Grown.{Entry, AreRooted, FallFrom, kin, lifted, opened_for, regrouped}
use Rattle.sp_tree.specs.Paths.{ids_under}

-- a child of the owner of decided groups: it stays where its label foresaw each outcome, and its label loses the groups
abbrev pub child_of_decided : (ℕ → Outcome) → List ℕ → Version → Option Version
child_of_decided outcome runs v = if foresaw_all outcome runs v.label then Some (record v { label = others_than runs v.label }) else None

-- Several groups of the owner are decided at once: they are open no more, and each child stays or goes.
abbrev pub rule_of : ℕ → (ℕ → Outcome) → List ℕ → Version → Option Version
rule_of owner outcome runs v =
    if v.id == owner then Some (record v { groups = others_than runs v.groups })
    else if is_parent owner v.parent then child_of_decided outcome runs v
    else Some v

module _ {V : Type 0} where
  -- an entry without its open groups
  abbrev pub bare : Entry V → Entry V
  bare e = record e { version = record e.version { groups = [] } }

  -- the entry of the owner, which has other open groups
  abbrev pub with_groups : List ℕ → Entry V → Entry V
  with_groups groups e = record e { version = record e.version { groups = groups } }

  -- the entries where groups of the owner were decided, one after another; those that pass the test are left open
  abbrev pub decided_each : ℕ → (ℕ → Bool) → (ℕ → Outcome) → List ℕ → List (Entry V) → List (Entry V)
  decided_each owner stays outcome [] es = es
  decided_each owner stays outcome (run ∷ runs) es = decided_each owner stays outcome runs (if stays run then es else prune kin (lifted (decided owner run (outcome run))) es)

-- Decisions one after another are one: where no group is decided nothing changes, and one group more adds to those decided before. The
-- owner stays, with its other groups. Whoever goes through the owner's groups, and decides those that do not pass a test, has decided
-- these at once. And all this looks at nobody's open groups but to take the decided ones from the owner's.
pub record DecisionsAddUp (V : Type 0) : Type 0 where
  pub none : (owner : ℕ) (outcome : ℕ → Outcome) (es : List (Entry V)) → AreRooted es → prune kin (lifted (rule_of owner outcome [])) es ≡ es
  pub more : (owner : ℕ) (outcome : ℕ → Outcome) (runs : List ℕ) (run : ℕ) (es : List (Entry V)) → is_among runs run ≡ false
      → prune kin (lifted (decided owner run (outcome run))) (prune kin (lifted (rule_of owner outcome runs)) es) ≡ prune kin (lifted (rule_of owner outcome (runs ++ run ∷ []))) es
  pub owner_stays : (owner : ℕ) (outcome : ℕ → Outcome) (runs : List ℕ) (top : ℕ) (es : List (Entry V)) (e : Entry V) → FallFrom top es → AreRooted es → entry_at kin es owner ≡ Some e
      → entry_at kin (prune kin (lifted (rule_of owner outcome runs)) es) owner ≡ Some (with_groups (others_than runs e.version.groups) e)
  pub each : (owner : ℕ) (stays : ℕ → Bool) (outcome : ℕ → Outcome) (groups : List ℕ) (es : List (Entry V)) → IsStrictlyIncreasing groups → AreRooted es
      → decided_each owner stays outcome groups es ≡ prune kin (lifted (rule_of owner outcome (filter (λ run. not (stays run)) groups))) es
  pub bares : (owner : ℕ) (outcome : ℕ → Outcome) (runs : List ℕ) (es : List (Entry V)) → map bare (prune kin (lifted (rule_of owner outcome runs)) es) ≡ prune kin (lifted (rule_of owner outcome runs)) (map bare es)

-- A group that opens changes nothing but the open groups of its owner, to which it is added.
pub record OpeningsChangeGroups (V : Type 0) : Type 0 where
  pub bares : (owner run : ℕ) (es : List (Entry V)) → map bare (opened_for owner run es) ≡ map bare es
  pub owner : (owner run : ℕ) (es : List (Entry V)) (e : Entry V) → entry_at kin es owner ≡ Some e → entry_at kin (opened_for owner run es) owner ≡ Some (with_groups (with_number e.version.groups run) e)
  pub rooted : (owner run : ℕ) (es : List (Entry V)) → AreRooted es → AreRooted (opened_for owner run es)
  pub fall : (owner run top : ℕ) (es : List (Entry V)) → FallFrom top es → FallFrom top (opened_for owner run es)

-- One group of an owner may be opened and decided before the others are set and decided: that comes to what all come to at once. And where it
-- completes, no child of the owner stays, since none foresaw a group that wasn't open.
pub record OneDecisionFirst (V : Type 0) : Type 0 where
  pub same : (owner : ℕ) (outcome : ℕ → Outcome) (runs : List ℕ) (run : ℕ) (groups : List ℕ) (top : ℕ) (es : List (Entry V)) → FallFrom top es → AreRooted es → is_among runs run ≡ true
      → prune kin (lifted (rule_of owner outcome (others run runs))) (regrouped owner (others run groups) (prune kin (lifted (decided owner run (outcome run))) (opened_for owner run es)))
      ≡ prune kin (lifted (rule_of owner outcome runs)) (regrouped owner groups es)
  pub none_stays : (owner run top : ℕ) (es : List (Entry V)) (e : Entry V) → FallFrom top es → AreRooted es → AreFamily (map (λ x. x.version) es) → entry_at kin es owner ≡ Some e → is_among e.version.groups run ≡ false
      → ids_under (prune kin (lifted (decided owner run Completed)) (opened_for owner run es)) owner ≡ []
