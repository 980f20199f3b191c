-- The seats of instances, as contracts see them.
use Rattle.std.specs.Prelude.{ℕ, List}
use Rattle.sp_hub.specs.State.{Sitting}

pub record Seated : Type 0 where
  pub seats : List Sitting
  pub room : ℕ
