-- Lists in which each entry has an id and perhaps a parent: the newest entry first, so that a parent stands behind its children.
use Rattle.std.specs.Prelude.{ℕ, Bool, true, false, List, [], ◌∷◌, Option, Some, None, is_some, ◌==◌, if◌then◌else◌}

-- how the id and the parent of an entry are read
pub record Kin (A : Type 0) : Type 0 where
  pub id : A → ℕ
  pub parent : A → Option ℕ

-- the entry of an id
abbrev pub entry_at : {A : Type 0} → Kin A → List A → ℕ → Option A
entry_at kin [] id = None
entry_at kin (e ∷ es) id = if kin.id e == id then Some e else entry_at kin es id

-- whether the parent is there, where one is named
abbrev pub parent_there : {A : Type 0} → Kin A → List A → Option ℕ → Bool
parent_there kin es None = true
parent_there kin es (Some p) = is_some (entry_at kin es p)

-- an entry in front of older ones, where it stays and its parent is there
abbrev pub kept : {A : Type 0} → Kin A → Option A → List A → List A
kept kin None es = es
kept kin (Some e) es = if parent_there kin es (kin.parent e) then e ∷ es else es

-- The entries, each changed by a rule or taken away; what has lost its parent goes with it.
abbrev pub prune : {A : Type 0} → Kin A → (A → Option A) → List A → List A
prune kin rule [] = []
prune kin rule (e ∷ es) = kept kin (rule e) (prune kin rule es)

-- whether this is the parent
abbrev pub is_parent : ℕ → Option ℕ → Bool
is_parent id None = false
is_parent id (Some p) = p == id
