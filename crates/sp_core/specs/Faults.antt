-- Why a core does not do a step.
use Rattle.std.specs.Prelude.{◌≡◌, Some}
use Rattle.sp_group.specs.declared.step.Step.{Step}
use Rattle.sp_core.specs.declared.fault.CoreFault.{CoreFault}
use Rattle.sp_core.specs.declared.fault.CoreFault.TheVariants as f
use Rattle.sp_core.specs.Running.{Running, refused}

-- a refusal is the machine's, with its values; want of memory may come at any time
abbrev pub IsFault : Running → Step → CoreFault → Type 0
IsFault c x (f.Refused refusal) = refused c x ≡ Some refusal
IsFault c x f.Memory = Unit {0}
