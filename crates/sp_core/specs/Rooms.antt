-- The room that the end of input, rolls and finishes need, which take no memory.
use Rattle.std.specs.Prelude.{ℕ, ◌+◌, ◌-◌, Bool, vec_len, vec_capacity, List, length, is_some, ◌||◌, nat_lt, map, if◌then◌else◌}
use Rattle.std.specs.List.{sum}
use Rattle.std.specs.Global.{Vec}
use Rattle.sp_tree.specs.Grown.{Entry}
use Rattle.sp_version.specs.declared.version.Version.{Version}

-- how many elements more a vector can take in without memory
abbrev pub room : {X : Type 0} → Vec X → ℕ
room v = vec_capacity v - vec_len v

-- whether a version has read something, or something is out for it; only then can it be in conflict
abbrev pub is_touched : Version → Bool
is_touched v = nat_lt 0 v.position || is_some v.out

-- how many rolls and finishes a version can come to by itself: one finish, and one roll where it is touched
abbrev pub entries_for : Entry Version → ℕ
entries_for e = if is_touched e.value then 2 else 1

-- how many entries of a journal may come without memory: the end of input, and those of all versions
abbrev pub entries_owed : Bool → List (Entry Version) → ℕ
entries_owed ended entries = (if ended then 0 else 1) + sum (map entries_for entries)

-- how many matches the versions hold
abbrev pub matches_held : List (Entry Version) → ℕ
matches_held entries = sum (map (λ e. length e.value.copies.items) entries)

-- how many numbers the matches of the versions used
abbrev pub numbers_held : List (Entry Version) → ℕ
numbers_held entries = sum (map (λ e. length e.value.used.list) entries)
