-- A version that is found in the tree of a core is a version of the machine.
use Rattle.std.proofs.Common.{◌≡◌, ℕ, ◌==◌, Bool, true, false, cond, List, [], ◌∷◌, map, Some, refl, subst}
use Rattle.std.specs.Prelude.{IsSome}
use Rattle.sp_version.specs.declared.version.Version.{Version}
use Rattle.sp_group.specs.Family.{entry_at}
use Rattle.sp_group.specs.Machine as machine
use Rattle.sp_group.specs.Machine.{version_at}
use Rattle.sp_tree.specs.Grown.{Entry, kin, value_of}
use Rattle.sp_core.specs.Holding.{version_of}

found : (entries : List (Entry Version)) (id : ℕ) (held : Version) → Some held ≡ value_of (entry_at kin entries id) → IsSome (version_at (map version_of entries) id)
found [] id held is = absurd (cc)
found (e ∷ entries) id held is = one (found entries id held) (e.version.id == id) is
  where
    one : (Some held ≡ value_of (entry_at kin entries id) → IsSome (version_at (map version_of entries) id)) → (b : Bool)
        → Some held ≡ value_of (cond b (Some e) (entry_at kin entries id)) → IsSome (cond b (Some (version_of e)) (version_at (map version_of entries) id))
    one rest true is = refl
    one rest false is = rest is

pub live : (entries : List (Entry Version)) (versions : List machine.Version) (id : ℕ) (held : Version) → map version_of entries ≡ versions
    → Some held ≡ value_of (entry_at kin entries id) → IsSome (version_at versions id)
live entries versions id held are is = subst (λ (vs : List machine.Version). IsSome (version_at vs id)) are (found entries id held is)
