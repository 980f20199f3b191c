-- The text of matches.
use Rattle.std.specs.Prelude.{ℕ, List, [], ◌++◌, Option, Some, None, slice_get, codes}
use Rattle.std.specs.List.{flat_map}
use Rattle.std.specs.Fmt.{decimal}
use Rattle.sp_base.specs.Commas.{commas, list_text}
use Rattle.sp_plan.specs.declared.plan.Plan.{Plan}
use Rattle.sp_plan.specs.declared.plan.Name.{Name}
use Rattle.sp_plan.specs.declared.found.Match.{Match}

abbrev pub name_text : Option Name → List ℕ
name_text None = []
name_text (Some name) = name.text

-- a name with its events
abbrev pub binding_text : Plan → ℕ × List ℕ → List ℕ
binding_text q pair = codes " " ++ name_text (slice_get q.names pair.0) ++ codes "=" ++ commas pair.1

abbrev pub line : Plan → Match → List ℕ
line q m =
    codes "w=" ++ decimal m.window ++ codes " m=" ++ decimal m.number ++ flat_map (binding_text q) m.bound
    ++ codes " used=" ++ list_text m.used ++ codes "\n"

-- the lines of matches, one after another
abbrev pub text : Plan → List Match → List ℕ
text q matches = flat_map (line q) matches
