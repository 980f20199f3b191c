-- The making of a root.
use Rattle.std.specs.Prelude.{◌≡◌, ◌⊎◌, [], None, IsSome}
use Rattle.sp_group.specs.declared.step.Step.TheVariants as s
use Rattle.sp_core.specs.Running.{IsDone, Running, refused}

-- A root is made where none is live and its window has begun, and else nothing is done.
abbrev pub Plants : Running → Running → Type 0
Plants old new = IsDone (s.Spawn None []) old new ⊎ (IsSome (refused old (s.Spawn None [])) × (new ≡ old))
