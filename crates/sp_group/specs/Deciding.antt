-- What the decision of a group does to labels, and that of several groups at once.
use Rattle.std.specs.Prelude.{ℕ, Bool, not, List, ◌==◌, filter}
use Rattle.std.specs.List.{list_all}
use Rattle.sp_base.specs.Numbers.{is_among}
use Rattle.sp_group.specs.declared.outcome.Outcome.{Outcome}
use Rattle.sp_group.specs.declared.outcome.Outcome.TheVariants.{Completed, Abandoned}

-- runs but this one
abbrev pub others : ℕ → List ℕ → List ℕ
others run runs = filter (λ r. not (r == run)) runs

-- runs but these
abbrev pub others_than : List ℕ → List ℕ → List ℕ
others_than decided runs = filter (λ r. not (is_among decided r)) runs

-- whether a label foresaw what became of a group
abbrev pub foresaw : ℕ → Outcome → List ℕ → Bool
foresaw run Completed label = is_among label run
foresaw run Abandoned label = not (is_among label run)

-- whether a label foresaw what became of each of these groups
abbrev pub foresaw_all : (ℕ → Outcome) → List ℕ → List ℕ → Bool
foresaw_all outcome decided label = list_all (λ run. foresaw run (outcome run) label) decided
