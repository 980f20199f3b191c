-- Survival, the order of picking and the candidates, worked out over small trees.
use Rattle.std.proofs.Common.{◌≡◌, ℕ, true, List, [], ◌∷◌, Option, Some, None, refl, cond, ◌==◌}
use Rattle.std.specs.Ordering.{is_lt}
use Rattle.sp_tree.specs.Grown.{Entry}
use Rattle.sp_pick.specs.Picking.{survival_in, depth_in, key_in, key_cmp, candidates_in}

abbrev entry : ℕ → Option ℕ → List ℕ → List ℕ → Entry (Unit {0})
entry id parent label groups = record { version = record { id = id; parent = parent; label = label; groups = groups }; value = tt }

-- a root with two open groups, a child for each guess, and a child of one of these
abbrev entries : List (Entry (Unit {0}))
entries = entry 4 (Some 2) (3 ∷ []) [] ∷ entry 3 (Some 1) (1 ∷ 2 ∷ []) [] ∷ entry 2 (Some 1) (1 ∷ []) (3 ∷ []) ∷ entry 1 None [] (1 ∷ 2 ∷ []) ∷ []

-- each group completes as likely as not; no share is set; and shares by run
abbrev even : ℕ → ℕ → ℕ
even owner run = 32768

abbrev unset : ℕ → ℕ → ℕ
unset owner run = 0

abbrev given : ℕ → ℕ → ℕ
given owner run = cond (run == 1) 40000 (cond (run == 2) 30000 0)

abbrev small : ℕ → ℕ → ℕ
small owner run = cond (run == 1) 1000 (cond (run == 2) 64537 65000)

root_survives : survival_in even entries 1 ≡ 65536
root_survives = refl

child_survives : survival_in even entries 3 ≡ 16384
child_survives = refl

-- rounded down at each group: 1000 * 999 / 65536 = 15, and 15 * 65000 / 65536 = 14, where rounding once would give 15
rounded : survival_in small entries 4 ≡ 14
rounded = refl

deep : depth_in entries 4 ≡ 2
deep = refl

-- a child that takes no group to complete is as likely as the root where no share is set, and comes behind it
behind_root : is_lt (key_cmp (key_in unset (entry 2 (Some 1) [] [] ∷ entry 1 None [] (1 ∷ []) ∷ []) 1) (key_in unset (entry 2 (Some 1) [] [] ∷ entry 1 None [] (1 ∷ []) ∷ []) 2)) ≡ true
behind_root = refl

-- the best label, and one group turned round
tried : candidates_in given entries 1 ≡ (1 ∷ []) ∷ [] ∷ (1 ∷ 2 ∷ []) ∷ []
tried = refl
