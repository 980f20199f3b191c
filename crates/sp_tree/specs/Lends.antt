-- What a tree ends as, where a `&mut` to the value of a version is returned.
use Rattle.std.specs.Prelude.{ℕ, Option}
use Rattle.std.specs.Borrow.{LendsIf, Fml, RattleType, MutBor}
use Rattle.sp_tree.specs.Grown.{Grown, with_value}
use Rattle.sp_tree.specs.contracts.tree.Tree.{the_row}

-- once the borrow ends the version has the last value written through it; at `None` the tree stays as it is
abbrev pub lends_found : (R : RattleType) → MutBor (Grown R.Denot) → ℕ → Option (MutBor R.Denot) → Fml
lends_found R t id r = LendsIf (the_row R) R t r (with_value t.now id) t.now
