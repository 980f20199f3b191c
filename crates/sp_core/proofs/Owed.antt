-- How many entries of the journal may come without memory.
use Rattle.std.proofs.Common.{◌≡◌, ℕ, ◌+◌, ◌*◌, ◌≤◌, Bool, true, false, cond, List, [], ◌∷◌, map, length, arith}
use Rattle.std.specs.List.{sum}
use Rattle.std.proofs.lemmas.List.Sums.{sum_by-cons}
use Rattle.sp_version.specs.declared.version.Version.{Version}
use Rattle.sp_tree.specs.Grown.{Entry}
use Rattle.sp_core.specs.Rooms.{entries_for, entries_owed, is_touched}

-- at most two for a version
for_most : (e : Entry Version) → entries_for e ≤ 2
for_most e = one (is_touched e.value)
  where
    one : (b : Bool) → cond b 2 1 ≤ 2
    one true = omega arith
    one false = omega arith

-- what one version more comes to
one_more : (e : Entry Version) (es : List (Entry Version)) → sum (map entries_for (e ∷ es)) ≡ entries_for e + sum (map entries_for es)
one_more e es = sum_by-cons (λ n. n) (entries_for e) (map entries_for es)

sum_most : (es : List (Entry Version)) → sum (map entries_for es) ≤ 2 * length es
sum_most [] = omega arith
sum_most (e ∷ es) = let own = for_most e in let rest = sum_most es in let more = one_more e es in omega arith

-- and one for the end of input
pub owed_most : (ended : Bool) (es : List (Entry Version)) → entries_owed ended es ≤ 1 + 2 * length es
owed_most true es = let most = sum_most es in omega arith
owed_most false es = let most = sum_most es in omega arith

-- where room was made before a step for so many versions, there is enough behind it for at most one more of them
pub room_for : (ended : Bool) (es : List (Entry Version)) (live old new : ℕ) → length es ≤ live + 1 → 2 * live + 5 ≤ old → old ≤ new + 1 → entries_owed ended es ≤ new
room_for ended es live old new few made kept = let most = owed_most ended es in omega arith
