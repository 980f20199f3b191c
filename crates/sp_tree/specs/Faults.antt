-- Why a tree takes a version not in.
use Rattle.std.specs.Prelude.{◌≡◌, ◌<◌, length}
use Rattle.sp_store.specs.declared.fault.PutFault.{PutFault}
use Rattle.sp_store.specs.declared.fault.PutFault.TheVariants.{Full, Memory}
use Rattle.sp_tree.specs.Grown.{Grown}

-- `Full` where as many are live as may be, `Memory` only where fewer are; the value is handed back
abbrev pub IsAddFault : {V : Type 0} → Grown V → V → PutFault V → Type 0
IsAddFault t value (Full live bound back) =
    (live ≡ length t.entries) × (bound ≡ t.bound) × (live ≡ bound) × (back ≡ value)
IsAddFault t value (Memory back) = (length t.entries < t.bound) × (back ≡ value)
