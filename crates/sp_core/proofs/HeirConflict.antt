-- The conflict of the version that a finish makes the root is the one that it had before.
use Rattle.std.proofs.Common.{◌≡◌, ℕ, Bool, true, false, ◌&&◌, ◌||◌, List, [], map, Option, Some, None, refl, sym, ap, ◌∙◌}
use Rattle.std.specs.Option.{option_map}
use Rattle.std.proofs.lemmas.Option.{same_Some}
use Rattle.sp_base.proofs.RisingLists.{among_numbers}
use Rattle.sp_base.specs.Numbers.{is_among}
use Rattle.sp_plan.specs.Groups.{used_by_all}
use Rattle.sp_plan.specs.WindowNumbers.{first, size}
use Rattle.sp_version.specs.declared.version.Version.{Version}
use Rattle.sp_group.specs.Effects as effects
use Rattle.sp_group.specs.Effects.{popped}
use Rattle.sp_group.specs.Family.{prune}
use Rattle.sp_group.specs.Machine as machine
use Rattle.sp_group.specs.Machine.{Machine, conflict, inner, is_bare, is_hit, is_read, is_suppressed, is_withheld, suppressed_by}
use Rattle.sp_tree.specs.Grown.{Entry, IsChild, LacksChild}
use Rattle.sp_rules.specs.Kept.{Kept}
use Rattle.sp_core.specs.Finishing.{heir_conflict}
use Rattle.sp_core.specs.Holding.{Holding, IsCore, machine_of, version_of}
use Rattle.sp_core.specs.Suppressing.{conflict_at, conflict_of}
use Rattle.sp_core.proofs.Ancestors.{suppressed_child, suppressed_root}
use Rattle.sp_core.proofs.Heirs.{Heir, no_heir, only_heir, orphaned, popped_from}
use Rattle.sp_core.proofs.Least.{least_alike}
use Rattle.sp_core.proofs.Entries.{version_found}
use Rattle.sp_core.proofs.Pruning.{promoted_pruned}
use Rattle.sp_core.proofs.Renewing.{at_entry}
use Rattle.sp_core.proofs.Roots.{Done, root_id}
use Rattle.sp_core.proofs.Settled.{no_root}

or_false : (b : Bool) → (b || false) ≡ b
or_false true = refl
or_false false = refl

module _ (h : Holding) (c : IsCore h) (k : Kept h.plan (machine_of h)) (root window : ℕ) (d : Done h.tree.entries root window) where
  abbrev the_root : machine.Version
  the_root = version_of d.at.entry

  -- the machine once the root has gone
  abbrev pub then : Machine
  then = popped h.plan (machine_of h) the_root

  abbrev TheHeir : ℕ → Type 0
  TheHeir id = Heir h.plan h.events h.finished h.tree.next h.tree.entries c.grown.fall k.sane.shape root d.is_root d.at d.done id

  pub versions_then : then.versions ≡ map version_of (popped_from root h.tree.entries)
  versions_then = ap (λ n. prune machine.kin (effects.promoted n) (map version_of h.tree.entries)) d.at.own ∙ sym (promoted_pruned root h.tree.entries)

  suppressed_then : (id i : ℕ) → TheHeir id → is_suppressed h.plan then id i ≡ is_among then.consumed i
  suppressed_then id i x =
      ap (λ (vs : List machine.Version). suppressed_by h.plan (inner h.plan h.events) then.consumed vs id i) versions_then
      ∙ suppressed_root h.plan (inner h.plan h.events) then.consumed (popped_from root h.tree.entries) id (orphaned x.was) x.new refl i

  suppressed_before : (id i : ℕ) → TheHeir id → is_suppressed h.plan (machine_of h) id i ≡ is_among then.consumed i
  suppressed_before id i x =
      let f = inner h.plan h.events in
      let used = used_by_all h.plan (f the_root) in
      let above = suppressed_child h.plan f h.consumed.list h.tree.next h.tree.entries id root x.was c.grown.fall c.grown.rooted x.is x.child in
      let same : above.entry ≡ d.at.entry = same_Some above.entry d.at.entry (sym above.is ∙ d.at.is) in
      above.suppressed i
      ∙ ap (λ b. b || is_withheld h.plan (f (version_of above.entry)) x.was.version.label i)
      (suppressed_root h.plan f h.consumed.list h.tree.entries root d.at.entry d.at.is d.at.top i)
      ∙ ap (λ (e : Entry Version). is_among h.consumed.list i || is_withheld h.plan (f (version_of e)) x.was.version.label i) same
      ∙ ap (λ (l : List ℕ). is_among h.consumed.list i || is_withheld h.plan (f the_root) l i) x.label
      ∙ ap (λ b. is_among h.consumed.list i || b) (or_false (is_among used i))
      ∙ sym (among_numbers h.consumed.list used i)

  same_conflict : (id : ℕ) (x : TheHeir id) → conflict h.plan (machine_of h) (version_of x.was) ≡ conflict h.plan then (version_of (orphaned x.was))
  same_conflict id x =
      let own = at_entry h.tree.entries id x.was x.is in
      least_alike (is_hit h.plan (machine_of h) (version_of x.was)) (is_hit h.plan then (version_of (orphaned x.was)))
      (first h.plan h.events x.was.value.window) (size h.plan h.events x.was.value.window)
      (λ i low high. ap (λ b. b && (is_read h.plan h.events (version_of x.was) i || is_bare (machine_of h).tickets x.was.version.id i))
      (ap (λ n. is_suppressed h.plan (machine_of h) n i) own ∙ suppressed_before id i x ∙ sym (suppressed_then id i x)
      ∙ ap (λ n. is_suppressed h.plan then n i) (sym own)))

  heir_of : (o : Option machine.Version) → machine.root_in (map version_of (popped_from root h.tree.entries)) ≡ o
      → conflict_of h.plan then o ≡ heir_conflict h.plan (machine_of h) (machine.root_in (machine_of h).versions)
  heir_of o is =
      ap (conflict_of h.plan then) (sym is)
      ∙ ap (λ (vs : List machine.Version). conflict_of h.plan then (machine.root_in vs)) (sym versions_then)
      ∙ ap (heir_conflict h.plan (machine_of h)) (sym d.at.version)

  -- where the root has no child
  pub no_conflict : LacksChild h.tree.entries root [] → None ≡ heir_conflict h.plan (machine_of h) (machine.root_in (machine_of h).versions)
  no_conflict none =
      heir_of None
      (no_root (machine.root_in (map version_of (popped_from root h.tree.entries)))
      (sym (no_heir h.plan h.events h.finished h.tree.next h.tree.entries c.grown.fall k.sane.shape root d.is_root d.at d.done none)
      ∙ root_id (popped_from root h.tree.entries)))

  -- and where it has one
  pub heir_in_conflict : (id : ℕ) → IsChild h.tree.entries root [] id
      → conflict_at h.plan (machine_of h) id ≡ heir_conflict h.plan (machine_of h) (machine.root_in (machine_of h).versions)
  heir_in_conflict id child =
      let x = only_heir h.plan h.events h.finished h.tree.next h.tree.entries c.grown.fall k.sane.shape root d.is_root d.at d.done id child.0 child.1 child.2 child.3 in
      ap (conflict_of h.plan (machine_of h)) (version_found h.tree.entries id ∙ ap (option_map version_of) x.is)
      ∙ same_conflict id x ∙ heir_of (Some (version_of (orphaned x.was))) x.version
