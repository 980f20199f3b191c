-- The summary of a run.
use Rattle.std.specs.Prelude.{ℕ, List, ◌++◌, codes}
use Rattle.std.specs.Fmt.{decimal}

-- how many events there were, windows that they began, matches, and events that these consumed, in one line
abbrev pub summary : ℕ → ℕ → ℕ → ℕ → List ℕ
summary events windows matches consumed =
    codes "events=" ++ decimal events ++ codes " windows=" ++ decimal windows ++ codes " matches=" ++ decimal matches
    ++ codes " consumed=" ++ decimal consumed ++ codes "\n"
