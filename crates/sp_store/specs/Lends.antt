-- What a store ends as, where a `&mut` to one of its values is returned.
use Rattle.std.specs.Prelude.{ℕ, Option}
use Rattle.std.specs.Borrow.{LendsIf, Fml, RattleType, MutBor}
use Rattle.sp_store.specs.Stored.{Stored, with_value}
use Rattle.sp_store.specs.contracts.store.Store.{the_row}

-- once the borrow ends the id has the last value written through it; at `None` the store stays as it is
abbrev pub lends_found : (R : RattleType) → MutBor (Stored R.Denot) → ℕ → Option (MutBor R.Denot) → Fml
lends_found R s id r = LendsIf (the_row R) R s r (with_value s.now id) s.now
