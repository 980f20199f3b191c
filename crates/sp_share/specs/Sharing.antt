-- What is kept beside a matcher that several hold.
use Rattle.std.specs.Prelude.{◌≡◌, [], Option, Some, None, IfSome}
use Rattle.std.specs.Arc.{arc_value}
use Rattle.std.specs.declared.sync.Arc.{Arc}
use Rattle.sp_match.specs.public.Matching.{Matching}

-- It is of the plan of the other one, and has read nothing.
pub record IsFresh (fresh m : Matching) : Type 0 where
  pub plan : fresh.plan ≡ m.plan
  pub none : fresh.open_runs ≡ []
  pub count : fresh.started ≡ 0

-- the matcher that is held: the one that is lent, where one is
abbrev pub held : {Z : Type 0} → Matching → Option (Arc Matching Z) → Matching
held m None = m
held m (Some handle) = arc_value handle

-- What stands beside a handle is of the plan of the matcher that is lent by it, and has read nothing.
abbrev pub IsBeside : {Z : Type 0} → Matching → Option (Arc Matching Z) → Type 0
IsBeside m lent = IfSome lent (λ handle. IsFresh m (arc_value handle))
