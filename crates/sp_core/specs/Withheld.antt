-- What a parent keeps from a child, as the versions of a core hold it.
use Rattle.std.specs.Prelude.{ℕ, ◌+◌, Bool, ◌&&◌, ◌||◌, not, nat_le, nat_lt, List, Option, Some, None, min}
use Rattle.std.specs.List.{list_any}
use Rattle.sp_base.specs.Numbers.{is_within, is_among}
use Rattle.sp_plan.specs.Runs.{used}
use Rattle.sp_group.specs.Rising.{least}
use Rattle.sp_version.specs.declared.version.Version.{Version}

-- the lesser of two numbers, where both are there, and else the one that is
abbrev pub lesser : Option ℕ → Option ℕ → Option ℕ
lesser None other = other
lesser (Some n) None = Some n
lesser (Some n) (Some m) = Some (min n m)

-- whether a parent keeps an event from a child of that label: its matches used it, or an open run holds it that the label names
abbrev pub is_kept_back : Version → List ℕ → ℕ → Bool
is_kept_back parent label i =
    is_among parent.used.list i || list_any (λ run. is_among label run.0 && is_among (used parent.matcher.plan run.1) i) parent.matcher.open_runs

-- the same within a range of numbers
abbrev pub is_kept_within : Version → List ℕ → ℕ → ℕ → ℕ → Bool
is_kept_within parent label first count i = is_within first count i && is_kept_back parent label i

-- the least number of a range that a parent keeps from a child, and is not among others
abbrev pub least_kept_back : Version → List ℕ → ℕ → ℕ → List ℕ → Option ℕ
least_kept_back parent label first count skipped =
    least (λ i. is_kept_back parent label i && (nat_le first i && nat_lt i (first + count) && not (is_among skipped i))) first count
