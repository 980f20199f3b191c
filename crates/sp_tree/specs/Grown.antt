-- What a tree is to its callers, and what each call does to it.
use Rattle.std.specs.Prelude.{◌≡◌, ℕ, ◌+◌, ◌<◌, ◌≤◌, length, Bool, true, List, [], ◌∷◌, Option, Some, None, is_some, ◌==◌, if◌then◌else◌, refl}
use Rattle.std.specs.List.{All}
use Rattle.std.specs.Coded.{Coded, code_by, coded×, coded_ℕ, coded_list, coded_option}
use Rattle.sp_base.specs.Numbers.{is_among}
use Rattle.sp_group.specs.Family.{Kin, entry_at, parent_there, prune}
use Rattle.sp_tree.specs.Version.{Version}
use Rattle.sp_tree.specs.Changes.{but, promoted, with_run}

-- a live version: where it stands, and its value
pub record Entry (V : Type 0) : Type 0 where
  pub version : Version
  pub value : V

-- the live versions, the newest first; the next id; how many may be live
pub record Grown (V : Type 0) : Type 0 where
  pub entries : List (Entry V)
  pub next : ℕ
  pub bound : ℕ

abbrev pub version_code : Coded Version
version_code =
    code_by
    (ℕ × (Option ℕ × (List ℕ × List ℕ)))
    (coded× coded_ℕ (coded× (coded_option coded_ℕ) (coded× (coded_list coded_ℕ) (coded_list coded_ℕ))))
    (λ v. (v.id, (v.parent, (v.label, v.groups))))
    (λ p. record { id = p.0; parent = p.1.0; label = p.1.1.0; groups = p.1.1.1 })
    (λ _. refl)

abbrev pub entry_code : {V : Type 0} → Coded V → Coded (Entry V)
entry_code {V} code = code_by (Version × V) (coded× version_code code) (λ e. (e.version, e.value)) (λ p. record { version = p.0; value = p.1 }) (λ _. refl)

-- a tree is kept as the tuple of its fields
abbrev pub grown_code : {V : Type 0} → Coded V → Coded (Grown V)
grown_code {V} code =
    code_by
    (List (Entry V) × (ℕ × ℕ))
    (coded× (coded_list (entry_code code)) (coded× coded_ℕ coded_ℕ))
    (λ s. (s.entries, (s.next, s.bound)))
    (λ p. record { entries = p.0; next = p.1.0; bound = p.1.1 })
    (λ _. refl)

module _ {V : Type 0} where
  -- entries by the ids and parents of their versions
  abbrev pub kin : Kin (Entry V)
  kin = record { id = λ e. e.version.id; parent = λ e. e.version.parent }

  -- an entry whose version a rule changes or takes away
  abbrev pub with_version : V → Option Version → Option (Entry V)
  with_version value None = None
  with_version value (Some v) = Some (record { version = v; value = value })

  abbrev pub lifted : (Version → Option Version) → Entry V → Option (Entry V)
  lifted rule e = with_version e.value (rule e.version)

  -- a tree of this bound before the first version
  abbrev pub opened : ℕ → Grown V
  opened bound = record { entries = []; next = 1; bound = bound }

  -- the tree with all its versions changed by a rule; what has lost its parent is gone
  abbrev pub pruned : (Version → Option Version) → Grown V → Grown V
  pruned rule t = record t { entries = prune kin (lifted rule) t.entries }

  -- the tree with a version more, under the next id
  abbrev pub with_child : Grown V → Option ℕ → List ℕ → V → Grown V
  with_child t parent label value = record t {
    entries = record { version = record { id = t.next; parent = parent; label = label; groups = [] }; value = value } ∷ t.entries;
    next = t.next + 1;
  }

  -- the value of an id
  abbrev pub value_of : Option (Entry V) → Option V
  value_of None = None
  value_of (Some e) = Some e.value

  -- the open groups of a version, none where it is not live
  abbrev pub groups_of : Option (Entry V) → List ℕ
  groups_of None = []
  groups_of (Some e) = e.version.groups

  -- the parent and the label of a version
  abbrev pub parent_of : Option (Entry V) → Option ℕ
  parent_of None = None
  parent_of (Some e) = e.version.parent

  abbrev pub label_of : Option (Entry V) → Option (List ℕ)
  label_of None = None
  label_of (Some e) = Some e.version.label

  -- whether a group of a version is open
  abbrev pub is_open : Grown V → ℕ → ℕ → Bool
  is_open t owner run = is_among (groups_of (entry_at kin t.entries owner)) run

  -- each parent that is named stands behind its children
  abbrev pub AreRooted : List (Entry V) → Type 0
  AreRooted [] = Unit {0}
  AreRooted (e ∷ es) = (parent_there kin es e.version.parent ≡ true) × AreRooted es

  -- the ids fall, and are below this one
  abbrev pub FallFrom : ℕ → List (Entry V) → Type 0
  FallFrom top [] = Unit {0}
  FallFrom top (e ∷ es) = (e.version.id < top) × FallFrom e.version.id es

  -- the version that has no parent
  abbrev pub root_in : List (Entry V) → Option ℕ
  root_in [] = None
  root_in (e ∷ es) = if is_some e.version.parent then root_in es else Some e.version.id

  -- the tree without its root, whose children have no parent
  abbrev pub without_root : Grown V → Option ℕ → Grown V
  without_root t None = t
  without_root t (Some root) = pruned (promoted root) t

  -- no child of the parent has this label
  abbrev pub LacksChild : List (Entry V) → ℕ → List ℕ → Type 0
  LacksChild [] p label = Unit {0}
  LacksChild (e ∷ es) p label = ¬ ((e.version.parent ≡ Some p) × (e.version.label ≡ label)) × LacksChild es p label

  -- the version of the id is a child of the parent, with this label
  abbrev pub IsChild : List (Entry V) → ℕ → List ℕ → ℕ → Type 0
  IsChild es p label id = (e : Entry V) × (entry_at kin es id ≡ Some e) × (e.version.parent ≡ Some p) × (e.version.label ≡ label)

  -- the entries where a group of the owner is open too
  abbrev pub opened_for : ℕ → ℕ → List (Entry V) → List (Entry V)
  opened_for owner run [] = []
  opened_for owner run (e ∷ es) = if e.version.id == owner then record { version = with_run run e.version; value = e.value } ∷ es else e ∷ opened_for owner run es

  -- the tree where a group of the owner is open too
  abbrev pub with_group : Grown V → ℕ → ℕ → Grown V
  with_group t owner run = record t { entries = opened_for owner run t.entries }

  -- the entries where these are the open groups of the owner
  abbrev pub regrouped : ℕ → List ℕ → List (Entry V) → List (Entry V)
  regrouped owner groups [] = []
  regrouped owner groups (e ∷ es) =
      if e.version.id == owner then record { version = record e.version { groups = groups }; value = e.value } ∷ es
      else e ∷ regrouped owner groups es

  -- the tree where these are the open groups of the owner
  abbrev pub with_all_groups : Grown V → ℕ → List ℕ → Grown V
  with_all_groups t owner groups = record t { entries = regrouped owner groups t.entries }

  -- where a version may be added: a root to an empty tree; a child under a live parent, over open groups of it, where no other child has that label
  abbrev pub CanStand : Grown V → Option ℕ → List ℕ → Type 0
  CanStand t None label = (t.entries ≡ []) × (label ≡ [])
  CanStand t (Some p) label = (is_some (entry_at kin t.entries p) ≡ true) × All (λ r. is_open t p r ≡ true) label × LacksChild t.entries p label

  -- the tree where a version, if it is live, begins anew: with the next id, no open group and nothing below it
  abbrev pub begun_anew : Grown V → ℕ → Option (Entry V) → Grown V
  begun_anew t id None = t
  begun_anew t id (Some e) = record t {
    entries = record { version = record { id = t.next; parent = e.version.parent; label = e.version.label; groups = [] }; value = e.value } ∷ prune kin (lifted (but id)) t.entries;
    next = t.next + 1;
  }

  abbrev pub renewed : Grown V → ℕ → Grown V
  renewed t id = begun_anew t id (entry_at kin t.entries id)

  -- the id that a renewal answers
  abbrev pub answered : ℕ → Option (Entry V) → Option ℕ
  answered next None = None
  answered next (Some e) = Some next

  -- the entries with another value at that id
  abbrev pub written : List (Entry V) → ℕ → V → List (Entry V)
  written [] id value = []
  written (e ∷ es) id value = if e.version.id == id then record e { value = value } ∷ es else e ∷ written es id value

  -- the tree after a write to the value of a version
  abbrev pub with_value : Grown V → ℕ → V → Grown V
  with_value t id value = record t { entries = written t.entries id value }

  -- what every tree keeps: its ids fall, all below the next one; no more are live than may be; each parent stands behind its children
  pub record AreGrown (t : Grown V) : Type 0 where
    pub fall : FallFrom t.next t.entries
    pub most : length t.entries ≤ t.bound
    pub rooted : AreRooted t.entries
