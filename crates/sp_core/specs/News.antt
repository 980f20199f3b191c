-- Where a conflict can be: what came home since no version was in one.
use Rattle.std.specs.Prelude.{◌≡◌, ℕ, Bool, true, false, ◌&&◌, nat_le, nat_lt, List, Option, Some, None}
use Rattle.std.specs.List.{list_any}
use Rattle.sp_plan.specs.declared.plan.Plan.{Plan}
use Rattle.sp_group.specs.Machine.{Machine, Version, version_at, is_hit}
use Rattle.sp_core.specs.declared.news.News.{News}

-- whether one of these pieces came home to a version of a window before this one, and was lent this event or an earlier one
abbrev pub is_new : List News → ℕ → ℕ → Bool
is_new news window i = list_any (λ n. nat_lt n.window window && nat_le n.first i) news

-- whether what a piece brings, of a window and from an event on, is new to no one to whom it isn't by this one
abbrev pub covers : ℕ → ℕ → News → Bool
covers window first n = nat_le n.window window && nat_le n.first first

-- whether a number is from another one on, where that is there
abbrev pub is_from : Option ℕ → ℕ → Bool
is_from None i = false
is_from (Some first) i = nat_le first i

-- Each event that a live version reads although it is suppressed for it is new to its window.
abbrev pub AreNew : Plan → Machine → List News → Type 0
AreNew q m news =
    (id : ℕ) (v : Version) → version_at m.versions id ≡ Some v → (i : ℕ) → is_hit q m v i ≡ true → is_new news v.window i ≡ true
