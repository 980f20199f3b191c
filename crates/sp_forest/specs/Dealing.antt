-- How parts are dealt to trees, in groups of one for each tree, and how what was found in them is put in order again.
use Rattle.std.specs.Prelude.{◌≡◌, ◌<◌, ◌≤◌, ℕ, zero, suc, List, [], ◌∷◌, ◌++◌, length, map, take, drop}
use Rattle.std.specs.List.{All, flat_map}

-- the first items, one behind the list of each tree, as far as they go
abbrev pub dealt : {X : Type 0} → List (List X) → List X → List (List X)
dealt [] xs = []
dealt (t ∷ ts) [] = t ∷ ts
dealt (t ∷ ts) (x ∷ xs) = (t ++ x ∷ []) ∷ dealt ts xs

-- the first item of each tree that has one, in the order of the trees
abbrev pub heads : {X : Type 0} → List (List X) → List X
heads ts = flat_map (take 1) ts

-- what each tree has behind its first item
abbrev pub tails : {X : Type 0} → List (List X) → List (List X)
tails ts = map (drop 1) ts

-- the items of so many groups, group after group
abbrev pub woven : {X : Type 0} → ℕ → List (List X) → List X
woven zero ts = []
woven (suc groups) ts = heads ts ++ woven groups (tails ts)

-- Of some items so many groups were dealt to trees that had none, and these are left: where some are, each tree has one of each group.
pub record AreDealt {X : Type 0} (items : List X) (groups : ℕ) (ts : List (List X)) (left : List X) : Type 0 where
  pub in_order : items ≡ woven groups ts ++ left
  pub short : All (λ t. length t ≤ groups) ts
  pub full : 0 < length left → All (λ t. length t ≡ groups) ts
