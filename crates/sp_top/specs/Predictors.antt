-- Which predictor is chosen, which follow it, and which commands ask none.
use Rattle.std.specs.Prelude.{ℕ, Bool, List, [], ◌∷◌, Option, Some, None, if◌then◌else◌, length, nat_le, option_map, take}
use Rattle.sp_cli.specs.Commands.{Command, run, plain, trace, drill, check, graph}

-- the first of the list that is so
abbrev pub first_of : {X : Type 0} → (X → Bool) → List X → Option X
first_of is [] = None
first_of is (x ∷ xs) = if is x then Some x else first_of is xs

-- the list without the first that is so
abbrev pub others_of : {X : Type 0} → (X → Bool) → List X → List X
others_of is [] = []
others_of is (x ∷ xs) = if is x then xs else x ∷ others_of is xs

-- one for each of so many trees: the first of the list that is so, and behind it the first of the others; none where there are too few
abbrev pub for_trees : {X : Type 0} → ℕ → (X → Bool) → List X → Option (List X)
for_trees trees is xs =
    if nat_le trees (length xs) then option_map (λ x. take trees (x ∷ others_of is xs)) (first_of is xs) else None

-- the command asks no predictor
abbrev pub AsksNoPredictor : Command → Type 0
AsksNoPredictor (run query speed slack late trees proof) = ⊥
AsksNoPredictor (plain query slack late) = Unit {0}
AsksNoPredictor (trace query schedule live) = Unit {0}
AsksNoPredictor (drill events seed speed) = ⊥
AsksNoPredictor (check query list) = Unit {0}
AsksNoPredictor (graph query second returns speed) = ⊥
