-- The numbers of matches, once all of those before them are known.
use Rattle.std.specs.Prelude.{ℕ, ◌+◌, List, [], ◌∷◌, ◌++◌, length, map}
use Rattle.sp_plan.specs.declared.found.Match.{Match}

-- a match behind so many others
abbrev pub numbered_up : ℕ → Match → Match
numbered_up before found = record found { number = found.number + before }

-- the matches of several parts, one part behind another, where so many stand before all of them
abbrev pub numbered_from : ℕ → List (List Match) → List Match
numbered_from before [] = []
numbered_from before (own ∷ others) = map (numbered_up before) own ++ numbered_from (before + length own) others
