-- How a finish comes to what it answers.
use Rattle.std.specs.Prelude.{◌≡◌, ℕ, ◌+◌, ◌≤◌, Bool, true, false, ◌||◌, List, [], ◌∷◌, ◌++◌, length, Option, Some, None, if◌then◌else◌}
use Rattle.std.specs.Global.{Vec}
use Rattle.std.specs.List.Sorted.{IsStrictlyIncreasing}
use Rattle.sp_base.specs.Numbers.{NumberList, is_among}
use Rattle.sp_plan.specs.declared.found.Match.{Match}
use Rattle.sp_plan.specs.declared.plan.Plan.{Plan}
use Rattle.sp_group.specs.declared.step.Step.TheVariants as s
use Rattle.sp_group.specs.Effects.{popped}
use Rattle.sp_group.specs.Family.{entry_at}
use Rattle.sp_group.specs.Machine as machine
use Rattle.sp_group.specs.Machine.{Machine, root_in}
use Rattle.sp_group.specs.Steps.{Finished, answer}
use Rattle.sp_tree.specs.Grown.{Grown, kin, value_of}
use Rattle.sp_version.specs.declared.version.Version.{Version}
use Rattle.sp_core.specs.declared.emitted.Emitted.{Emitted}
use Rattle.sp_core.specs.Renewing.{IsAnew}
use Rattle.sp_core.specs.Rooms.{room}
use Rattle.sp_core.specs.Running.{Running}
use Rattle.sp_core.specs.Suppressing.{conflict_of}

-- a finish answers its window, the window's matches, and the root from now on
abbrev pub IsEmitted : Running → Emitted → Type 0
IsEmitted c e = answer c.plan c.machine s.Finish ≡ Finished e.window e.matches.items e.root

-- the id and the window of the root, where it is done
abbrev pub done_root : Option machine.Version → Option (ℕ × ℕ)
done_root None = None
done_root (Some v) = if v.done then Some (v.id, v.window) else None

-- the conflict of the version that is the root once the root has gone, with what its matches used consumed
abbrev pub heir_conflict : Plan → Machine → Option machine.Version → Option ℕ
heir_conflict q m None = None
heir_conflict q m (Some v) = conflict_of q (popped q m v) (root_in (popped q m v).versions)

-- the value of a version in a tree
abbrev pub held_at : Grown Version → ℕ → Option Version
held_at t id = value_of (entry_at kin t.entries id)

-- matches with their numbers, from this one on
abbrev pub numbered : ℕ → List Match → List Match
numbered n [] = []
numbered n (found ∷ more) = record found { number = n } ∷ numbered (n + 1) more

-- A version's matches go out, numbered on; its copies of them stand behind what was emitted, and what they used is consumed too.
pub record IsHandedOut (v : Version) (old new : Vec Match) (before after : NumberList) (matches : List Match) : Type 0 where
  pub out : matches ≡ numbered (length old.items + 1) v.matches.items
  pub emitted : new.items ≡ old.items ++ numbered (length old.items + 1) v.copies.items
  pub left : room old ≤ room new + length v.copies.items
  pub consumed : (i : ℕ) → is_among after.list i ≡ (is_among before.list i || is_among v.used.list i)
  pub rising : IsStrictlyIncreasing after.list
  pub spare : before.spare ≤ after.spare + length v.used.list

-- the root of a tree begins anew where it is to roll, and else the tree is as before
abbrev pub IsSettled : Grown Version → Option ℕ → Bool → Grown Version → Type 0
IsSettled old (Some root) true new = IsAnew old root new
IsSettled old (Some root) false new = new ≡ old
IsSettled old None rolls new = new ≡ old
