-- The root begins anew where it is in conflict, as the machine settles it.
use Rattle.std.proofs.Common.{◌≡◌, ℕ, ◌+◌, ◌≤◌, Bool, true, false, cond, map, Option, Some, None, is_some, refl, sym, ap, subst, ◌∙◌, arith}
use Rattle.std.specs.List.{All, sum}
use Rattle.std.specs.Option.{option_map}
use Rattle.std.proofs.lemmas.Option.{none-some}
use Rattle.sp_version.specs.declared.version.Version.{Version}
use Rattle.sp_group.specs.Effects.{rolled, settled}
use Rattle.sp_group.specs.Machine as machine
use Rattle.sp_group.specs.Machine.{conflict, is_out, version_at}
use Rattle.sp_group.specs.Refusing.{id_of}
use Rattle.sp_tree.specs.Grown.{Grown, AreGrown, root_in}
use Rattle.sp_core.specs.Carrying.{ticket_of}
use Rattle.sp_core.specs.Finishing.{IsSettled}
use Rattle.sp_core.specs.Holding.{Holding, Holds, machine_of, version_of}
use Rattle.sp_core.specs.Rooms.{entries_for, matches_held, numbers_held}
use Rattle.sp_core.specs.Suppressing.{conflict_at, conflict_of}
use Rattle.sp_core.proofs.Entries.{version_found}
use Rattle.sp_core.proofs.Rolled.{all_hold, entries_anew, machine_anew, matches_anew, numbers_anew}
use Rattle.sp_core.proofs.Roots.{root_entry, root_id}

pub no_root : (o : Option machine.Version) → None ≡ id_of o → o ≡ None
no_root None h = refl
no_root (Some v) h = absurd (none-some v.id h)

module _ (h : Holding) (all : All (Holds h.plan h.events (map ticket_of h.tickets)) h.tree.entries) (free : is_out (map ticket_of h.tickets) h.tree.next ≡ false)
    (grown : AreGrown h.tree) (t : Grown Version) where
  -- what holds of the tree that is settled
  pub record Settles : Type 0 where
    pub machine_is : machine_of (record h { tree = t }) ≡ settled h.plan (machine_of h) (machine.root_in (machine_of h).versions)
    pub held : All (Holds h.plan h.events (map ticket_of h.tickets)) t.entries
    pub entries : sum (map entries_for t.entries) ≤ sum (map entries_for h.tree.entries)
    pub matches : matches_held t.entries ≤ matches_held h.tree.entries
    pub numbers : numbers_held t.entries ≤ numbers_held h.tree.entries
    pub bound : t.bound ≡ h.tree.bound
    pub next : t.next ≤ h.tree.next + 1

  unchanged : t ≡ h.tree → machine_of h ≡ settled h.plan (machine_of h) (machine.root_in (machine_of h).versions) → Settles
  unchanged same is = record {
    machine_is = ap (λ (g : Grown Version). machine_of (record h { tree = g })) same ∙ is;
    held = subst (λ (g : Grown Version). All (Holds h.plan h.events (map ticket_of h.tickets)) g.entries) (sym same) all;
    entries = let e = ap (λ (g : Grown Version). sum (map entries_for g.entries)) same in omega arith;
    matches = let e = ap (λ (g : Grown Version). matches_held g.entries) same in omega arith;
    numbers = let e = ap (λ (g : Grown Version). numbers_held g.entries) same in omega arith;
    bound = ap (λ (g : Grown Version). g.bound) same;
    next = let e = ap (λ (g : Grown Version). g.next) same in omega arith;
  }

  pub settles : (rolls : Bool) → rolls ≡ is_some (conflict_of h.plan (machine_of h) (machine.root_in (machine_of h).versions)) → IsSettled h.tree (root_in h.tree.entries) rolls t → Settles
  settles rolls told s = one (root_in h.tree.entries) refl rolls told s
    where
      one : (o : Option ℕ) → root_in h.tree.entries ≡ o → (b : Bool) → b ≡ is_some (conflict_of h.plan (machine_of h) (machine.root_in (machine_of h).versions))
          → IsSettled h.tree o b t → Settles
      one None is b told same =
          let none = no_root (machine.root_in (machine_of h).versions) (sym is ∙ root_id h.tree.entries) in
          unchanged same (sym (ap (settled h.plan (machine_of h)) none))
      one (Some id) is false told same =
          let r = root_entry h.tree id grown is in
          let u = version_of r.entry in
          let clear : is_some (conflict h.plan (machine_of h) u) ≡ false = ap (λ o. is_some (conflict_of h.plan (machine_of h) o)) (sym r.version) ∙ sym told in
          unchanged same (sym (ap (settled h.plan (machine_of h)) r.version ∙ ap (λ b. cond b (rolled (machine_of h) (Some u)) (machine_of h)) clear))
      one (Some id) is true told a =
          let r = root_entry h.tree id grown is in
          let u = version_of r.entry in
          let there : version_at (machine_of h).versions id ≡ Some u = version_found h.tree.entries id ∙ ap (option_map version_of) r.is in
          let conflicts : is_some (conflict h.plan (machine_of h) u) ≡ true = ap (λ o. is_some (conflict_of h.plan (machine_of h) o)) (sym r.version) ∙ sym told in
          let hit : is_some (conflict_at h.plan (machine_of h) id) ≡ true = ap (λ o. is_some (conflict_of h.plan (machine_of h) o)) there ∙ conflicts in
          let less = entries_anew h all free id t a hit in
          let next_is = ap (λ (g : Grown Version). g.next) a.is in
          record {
            machine_is = machine_anew h all free id t a hit ∙ ap (rolled (machine_of h)) there
                ∙ sym (ap (settled h.plan (machine_of h)) r.version ∙ ap (λ b. cond b (rolled (machine_of h) (Some u)) (machine_of h)) conflicts);
            held = all_hold h all free id t a hit;
            entries = omega arith;
            matches = matches_anew h all free id t a hit;
            numbers = numbers_anew h all free id t a hit;
            bound = ap (λ (g : Grown Version). g.bound) a.is;
            next = omega arith;
          }
