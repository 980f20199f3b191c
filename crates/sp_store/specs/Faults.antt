-- Why a store takes a value not in.
use Rattle.std.specs.Prelude.{◌≡◌, ◌<◌, length}
use Rattle.sp_store.specs.Stored.{Stored}
use Rattle.sp_store.specs.declared.fault.PutFault.{PutFault}
use Rattle.sp_store.specs.declared.fault.PutFault.TheVariants.{Full, Memory}

-- `Full` where as many are live as may be, `Memory` only where fewer are; the value is handed back
abbrev pub IsPutFault : {V : Type 0} → Stored V → V → PutFault V → Type 0
IsPutFault s value (Full live bound back) =
    (live ≡ length s.entries) × (bound ≡ s.bound) × (live ≡ bound) × (back ≡ value)
IsPutFault s value (Memory back) = (length s.entries < s.bound) × (back ≡ value)
