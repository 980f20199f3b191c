-- The entries of a tree as the versions of the machine: what is found under an id is the same, and what holds of what is found holds of all.
use Rattle.std.proofs.Common.{◌≡◌, ℕ, ◌<◌, Bool, true, false, ◌==◌, cond, List, [], ◌∷◌, map, Option, Some, None, refl, ap, subst, ◌∙◌, arith}
use Rattle.std.specs.Option.{option_map}
use Rattle.std.specs.List.{All}
use Rattle.std.proofs.lemmas.Bool.Decides.{nat_tests}
use Rattle.std.proofs.lemmas.List.Elements.{All-nil, All-cons, All-head, All-tail}
use Rattle.sp_version.specs.declared.version.Version.{Version}
use Rattle.sp_group.specs.Family.{entry_at}
use Rattle.sp_group.specs.Machine.{version_at, is_suppressed}
use Rattle.sp_tree.specs.Grown.{Entry, FallFrom, kin, value_of}
use Rattle.sp_rules.specs.Kept.{Local}
use Rattle.sp_rules.specs.Schedules.{Reached}
use Rattle.sp_core.specs.Holding.{Holding, machine_of, version_of}
use Rattle.sp_core.specs.Carrying.{ticket_of}

-- an entry whose value is found
pub record Found (o : Option (Entry Version)) (v : Version) : Type 0 where
  pub entry : Entry Version
  pub is : o ≡ Some entry
  pub value : entry.value ≡ v

pub found : (o : Option (Entry Version)) (v : Version) → Some v ≡ value_of o → Found o v
found None v is = absurd (cc)
found (Some e) v is = record { entry = e; is = refl; value = cc }

pub not_found : (o : Option (Entry Version)) → None ≡ value_of o → o ≡ None
not_found None is = refl
not_found (Some e) is = absurd (cc)

-- under an id the machine has the version of the tree's entry
pub version_found : (es : List (Entry Version)) (id : ℕ) → version_at (map version_of es) id ≡ option_map version_of (entry_at kin es id)
version_found [] id = refl
version_found (e ∷ es) id = one (version_found es id) (e.version.id == id)
  where
    one : version_at (map version_of es) id ≡ option_map version_of (entry_at kin es id) → (b : Bool)
        → cond b (Some (version_of e)) (version_at (map version_of es) id) ≡ option_map version_of (cond b (Some e) (entry_at kin es id))
    one rest true = refl
    one rest false = rest

-- what is found has the id, which is below where ids fall from
pub id_below : (top : ℕ) (es : List (Entry Version)) (id : ℕ) (f : Entry Version) → FallFrom top es → entry_at kin es id ≡ Some f → id < top
id_below top [] id f fall at = absurd (cc)
id_below top (e ∷ es) id f fall at = one (id_below e.version.id es id f fall.1) (e.version.id == id) refl at
  where
    one : (entry_at kin es id ≡ Some f → id < e.version.id) → (b : Bool) → (e.version.id == id) ≡ b → cond b (Some e) (entry_at kin es id) ≡ Some f → id < top
    one rest true is at = let low = fall.0 in grind (arith, nat_tests)
    one rest false is at = let low = fall.0 in let next = rest at in omega arith

-- what holds of each entry that is found holds of all entries
pub all_found : (P : Entry Version → Type 0) (top : ℕ) (es : List (Entry Version)) → FallFrom top es
    → ((id : ℕ) (e : Entry Version) → entry_at kin es id ≡ Some e → P e) → All P es
all_found P top [] fall each = All-nil P
all_found P top (e ∷ es) fall each =
    All-cons P e es (each e.version.id e here) (all_found P e.version.id es fall.1 (λ id f at. each id f (behind id f at)))
  where
    own : (e.version.id == e.version.id) ≡ true
    own = grind (arith, nat_tests)

    here : cond (e.version.id == e.version.id) (Some e) (entry_at kin es e.version.id) ≡ Some e
    here = rw own refl

    behind : (id : ℕ) (f : Entry Version) → entry_at kin es id ≡ Some f → cond (e.version.id == id) (Some e) (entry_at kin es id) ≡ Some f
    behind id f at =
        let below = id_below e.version.id es id f fall.1 at in
        let other : (e.version.id == id) ≡ false = grind (arith, nat_tests) in
        rw other at

-- what holds of all entries holds of one that is found
pub found_of_all : (P : Entry Version → Type 0) (es : List (Entry Version)) (id : ℕ) (e : Entry Version) → All P es → entry_at kin es id ≡ Some e → P e
found_of_all P [] id e all at = absurd (cc)
found_of_all P (x ∷ es) id e all at = one (found_of_all P es id e (All-tail P x es all)) (x.version.id == id) at
  where
    one : (entry_at kin es id ≡ Some e → P e) → (b : Bool) → cond b (Some x) (entry_at kin es id) ≡ Some e → P e
    one rest true is = let same : x ≡ e = cc in subst P same (All-head P x es all)
    one rest false is = rest is

-- the version of an entry that is found
pub version_is : (es : List (Entry Version)) (id : ℕ) (e : Entry Version) → entry_at kin es id ≡ Some e → version_at (map version_of es) id ≡ Some (version_of e)
version_is es id e at = version_found es id ∙ ap (option_map version_of) at

-- what the rules say of each live version holds of each entry that is found
pub local : (h : Holding) → Reached h.plan h.tree.bound (machine_of h) → (id : ℕ) (e : Entry Version) → entry_at kin h.tree.entries id ≡ Some e
    → Local h.plan h.events h.ended (map ticket_of h.tickets) (is_suppressed h.plan (machine_of h) id) (version_of e)
local h r id e at = r.kept.sane.each id (version_of e) (version_is h.tree.entries id e at)
