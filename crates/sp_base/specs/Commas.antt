-- Lists of numbers as texts.
use Rattle.std.specs.Prelude.{ℕ, List, [], ◌∷◌, ◌++◌, codes}
use Rattle.std.specs.List.{flat_map, join_by}
use Rattle.std.specs.Fmt.{decimal}

-- numbers, each behind a comma
abbrev pub more : List ℕ → List ℕ
more ns = flat_map (λ n. codes "," ++ decimal n) ns

-- numbers joined by commas
abbrev pub commas : List ℕ → List ℕ
commas ns = join_by decimal (codes ",") ns

-- numbers joined by commas, or a dash where there are none
abbrev pub list_text : List ℕ → List ℕ
list_text [] = codes "-"
list_text (n ∷ ns) = commas (n ∷ ns)
