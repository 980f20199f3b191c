-- The ids of a tree, as its walk lists them, and the entries under them.
use Rattle.std.proofs.Common.{◌≡◌, ℕ, suc, ◌-◌, ◌<◌, Bool, true, false, ◌==◌, cond, List, [], ◌∷◌, length, get_or, map, Option, Some, None, refl, sym, ap, ◌∙◌, arith}
use Rattle.std.specs.Prelude.{reverse}
use Rattle.std.specs.Option.{option_map}
use Rattle.std.proofs.lemmas.Bool.Decides.{nat_tests}
use Rattle.std.proofs.lemmas.List.{length-reverse, get_or-reverse}
use Rattle.sp_version.specs.declared.version.Version.{Version}
use Rattle.sp_group.specs.Family.{entry_at}
use Rattle.sp_group.specs.Machine as machine
use Rattle.sp_group.specs.Machine.{version_at}
use Rattle.sp_tree.specs.Grown.{Entry, Grown, kin}
use Rattle.sp_core.specs.Holding.{version_of}
use Rattle.sp_core.specs.Running.{Running}
use Rattle.sp_core.specs.Showing.{IsTreeOf}
use Rattle.sp_core.proofs.Entries.{version_found}

-- the entry under the id of a live version
pub record Shows (c : Running) (t : Grown Version) (id : ℕ) (v : machine.Version) : Type 0 where
  pub entry : Entry Version
  pub is : entry_at kin t.entries id ≡ Some entry
  pub version : version_of entry ≡ v

some_mapped : (o : Option (Entry Version)) (v : machine.Version) → option_map version_of o ≡ Some v → (e : Entry Version) × (o ≡ Some e) × (version_of e ≡ v)
some_mapped None v is = absurd (cc)
some_mapped (Some e) v is = (e, refl, cc)

pub shows : (c : Running) (t : Grown Version) → IsTreeOf c t → (id : ℕ) (v : machine.Version) → version_at c.machine.versions id ≡ Some v → Shows c t id v
shows c t tree id v at =
    let found = some_mapped (entry_at kin t.entries id) v
    (sym (version_found t.entries id) ∙ ap (λ (vs : List machine.Version). version_at vs id) tree.versions ∙ at) in
    record { entry = found.0; is = found.1; version = found.2 }

-- the ids in the order of a walk
abbrev pub walked : List (Entry Version) → List ℕ
walked es = reverse (map (λ e. e.version.id) es)

place_of_id : (es : List (Entry Version)) (id : ℕ) (e : Entry Version) → entry_at kin es id ≡ Some e
    → (k : ℕ) × (k < length (map (λ (e : Entry Version). e.version.id) es)) × (get_or (map (λ (e : Entry Version). e.version.id) es) k 0 ≡ id)
place_of_id [] id e at = absurd (cc at)
place_of_id (x ∷ es) id e at = one (place_of_id es id e) (x.version.id == id) refl at
  where
    Place : Type 0
    Place = (k : ℕ) × (k < length (x.version.id ∷ map (λ (e : Entry Version). e.version.id) es)) × (get_or (x.version.id ∷ map (λ (e : Entry Version). e.version.id) es) k 0 ≡ id)

    one : (entry_at kin es id ≡ Some e → (k : ℕ) × (k < length (map (λ (e : Entry Version). e.version.id) es)) × (get_or (map (λ (e : Entry Version). e.version.id) es) k 0 ≡ id))
        → (b : Bool) → (x.version.id == id) ≡ b → cond b (Some x) (entry_at kin es id) ≡ Some e → Place
    one behind true is at = (0, omega arith, grind (arith, nat_tests))
    one behind false is at = let rest = behind at in (suc rest.0, omega (arith, rest.1), rest.2)

-- each of them is among those of a walk
pub listed : (es : List (Entry Version)) (id : ℕ) (e : Entry Version) → entry_at kin es id ≡ Some e
    → (k : ℕ) × (k < length (walked es)) × (get_or (walked es) k 0 ≡ id)
listed es id e at =
    let place = place_of_id es id e at in
    let ids : List ℕ = map (λ (e : Entry Version). e.version.id) es in
    let j : ℕ = place.0 in
    let within : j < length ids = place.1 in
    let k : ℕ = length ids - 1 - j in
    let low : k < length ids = omega arith in
    let back : length ids - 1 - k ≡ j = omega arith in
    (k, omega (arith, length-reverse ids), get_or-reverse ids k 0 low ∙ ap (λ (n : ℕ). get_or ids n 0) back ∙ place.2)
