-- The children of a version, and what the versions of every tree keep.
use Rattle.std.specs.Prelude.{◌≡◌, ◌≢◌, ℕ, ◌<◌, ◌≤◌, true, List, [], ◌∷◌, length, filter, Some, is_none, if◌then◌else◌}
use Rattle.sp_base.specs.Numbers.{is_among}
use Rattle.sp_group.specs.Family.{Kin, entry_at, is_parent}
use Rattle.sp_tree.specs.Version.{Version}

-- versions by their ids and parents
abbrev pub plain : Kin Version
plain = record { id = λ v. v.id; parent = λ v. v.parent }

-- the children of a version, the newest first, each by its label and its id
abbrev pub children_of : ℕ → List Version → List (List ℕ × ℕ)
children_of p [] = []
children_of p (v ∷ vs) = if is_parent p v.parent then (v.label, v.id) ∷ children_of p vs else children_of p vs

-- the runs of each label are among the groups
abbrev pub AreOver : List ℕ → List (List ℕ × ℕ) → Type 0
AreOver groups [] = Unit {0}
AreOver groups (c ∷ cs) = ((r : ℕ) → is_among c.0 r ≡ true → is_among groups r ≡ true) × AreOver groups cs

-- no child has this label
abbrev pub HaveOther : List ℕ → List (List ℕ × ℕ) → Type 0
HaveOther label [] = Unit {0}
HaveOther label (c ∷ cs) = (c.0 ≢ label) × HaveOther label cs

-- no two children have the same label
abbrev pub AreApart : List (List ℕ × ℕ) → Type 0
AreApart [] = Unit {0}
AreApart (c ∷ cs) = HaveOther c.0 cs × AreApart cs

-- each number is below all those behind it
abbrev pub IsRising : List ℕ → Type 0
IsRising [] = Unit {0}
IsRising (n ∷ ns) = ((r : ℕ) → is_among ns r ≡ true → n < r) × IsRising ns

-- labels and groups rise
abbrev pub AreRising : List Version → Type 0
AreRising [] = Unit {0}
AreRising (v ∷ vs) = IsRising v.label × IsRising v.groups × AreRising vs

-- the children of a version with these open groups: their labels are over them, and differ
pub record AreHeld (groups : List ℕ) (children : List (List ℕ × ℕ)) : Type 0 where
  pub over : AreOver groups children
  pub apart : AreApart children

-- What the versions of every tree keep beside: at most one has no parent, the children of each are held by its open groups, and labels and
-- groups rise.
pub record AreFamily (vs : List Version) : Type 0 where
  pub one_root : length (filter (λ v. is_none v.parent) vs) ≤ 1
  pub held : (id : ℕ) (v : Version) → entry_at plain vs id ≡ Some v → AreHeld v.groups (children_of id vs)
  pub rising : AreRising vs
