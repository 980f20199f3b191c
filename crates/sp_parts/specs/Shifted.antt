-- What a part's matches are in the whole input.
use Rattle.std.specs.Prelude.{ℕ, ◌+◌, ◌-◌, List, [], ◌∷◌, ◌++◌, length, map}
use Rattle.sp_plan.specs.declared.found.Match.{Match}
use Rattle.sp_plan.specs.declared.plan.Plan.{Plan}
use Rattle.sp_plan.specs.Sequential.{whole}
use Rattle.sp_parts.specs.Parts.{Part}
use Rattle.sp_parts.specs.Moving.{moved_by}

-- the numbers of a part's events in the whole input
abbrev pub moved : Part → List ℕ → List ℕ
moved part numbers = moved_by (part.first - 1) numbers

-- a match of a part as one of the whole input, where so many matches stand before those of the part
abbrev pub shifted : Part → ℕ → Match → Match
shifted part before found = record {
  window = found.window + part.windows;
  number = found.number + before;
  bound = map (λ pair. (pair.0, moved part pair.1)) found.bound;
  used = moved part found.used;
}

-- the matches of a part by itself
abbrev pub own_matches : Plan → Part → List Match
own_matches q part = (whole q part.events part.closed).matches

-- the matches of parts as those of the whole input, where so many stand before all of them
abbrev pub shifted_from : Plan → ℕ → List Part → List Match
shifted_from q before [] = []
shifted_from q before (part ∷ parts) =
    map (shifted part before) (own_matches q part) ++ shifted_from q (before + length (own_matches q part)) parts

-- the matches of all parts as those of the whole input, in order
abbrev pub shifted_all : Plan → List Part → List Match
shifted_all q parts = shifted_from q 0 parts
