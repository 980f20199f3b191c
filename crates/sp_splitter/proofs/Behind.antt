-- For how many events a version is leased, by what the tree holds of it and of its parent.
use Rattle.std.proofs.Common.{◌≡◌, ℕ, ◌+◌, ◌-◌, ◌*◌, Bool, true, not, ◌||◌, List, Option, None, Some, sym, ap, ◌∙◌}
use Rattle.std.specs.Prelude.{min, max, nat_le, nat_lt, if◌then◌else◌}
use Rattle.std.specs.Option.{option_map}
use Rattle.sp_plan.specs.WindowNumbers.{first, size}
use Rattle.sp_group.specs.Family.{entry_at}
use Rattle.sp_group.specs.Machine as machine
use Rattle.sp_group.specs.Machine.{version_at}
use Rattle.sp_version.specs.declared.version.Version.{Version}
use Rattle.sp_tree.specs.Grown.{Entry, Grown, kin, parent_of, value_of}
use Rattle.sp_core.specs.Holding.{Holds, version_of}
use Rattle.sp_core.specs.Running.{Running}
use Rattle.sp_core.specs.Showing.{IsTreeOf}
use Rattle.sp_core.proofs.Entries.{Found, found, found_of_all, not_found, version_found}
use Rattle.sp_splitter.specs.Lending.{asked, asked_of, asked_behind, consumes, is_free, next_read, parent_in}

-- whether a child is free of what its parent has read, by what the tree holds of both
abbrev pub free_between : ℕ → Running → Version → Version → Bool
free_between batch c parent held =
    nat_lt held.position (2 * batch) || (parent.done
    || (nat_le (parent.first + size c.plan c.machine.events parent.window) (held.first + held.position) || not (consumes c.plan)))

-- how many events a child asks for, by whether it is shy, whether this is so, and the events that both read next
abbrev pub asked_between : Bool → ℕ → Bool → ℕ → ℕ → ℕ
asked_between shy batch free parents own = if shy then 1 else if free then batch else max (min batch 8) (min (parents - own) batch)

module _ (c : Running) (t : Grown Version) (tree : IsTreeOf c t) (shy : Bool) (batch : ℕ) where
  at_version : (id : ℕ) → version_at c.machine.versions id ≡ option_map version_of (entry_at kin t.entries id)
  at_version id = ap (λ (vs : List machine.Version). version_at vs id) (sym tree.versions) ∙ version_found t.entries id

  -- of an entry that is found, the number of its window's first event and that of the next one are those of its version
  begins_held : (id : ℕ) (e : Entry Version) → entry_at kin t.entries id ≡ Some e → e.value.first ≡ first c.plan c.machine.events e.value.window
  begins_held id e is = (found_of_all (Holds c.plan c.machine.events c.machine.tickets) t.entries id e tree.holds is).first

  next_held : (id : ℕ) (e : Entry Version) → entry_at kin t.entries id ≡ Some e → e.value.first + e.value.position ≡ next_read c.plan c.machine.events (version_of e)
  next_held id e is = ap (λ (n : ℕ). n + e.value.position) (begins_held id e is)

  -- the version is not live
  pub asked_gone : (id : ℕ) → None ≡ value_of (entry_at kin t.entries id) → batch ≡ asked shy batch c id
  asked_gone id none =
      sym (ap (asked_of shy batch c) (at_version id ∙ ap (option_map version_of) (not_found (entry_at kin t.entries id) none)))

  -- it is live, and its parent is this
  asked_found : (id : ℕ) (e : Entry Version) → entry_at kin t.entries id ≡ Some e → (parent : Option ℕ) → parent ≡ parent_of (entry_at kin t.entries id)
      → asked shy batch c id ≡ asked_behind shy batch c (version_of e) (parent_in c.machine.versions parent)
  asked_found id e is parent at =
      ap (asked_of shy batch c) (at_version id ∙ ap (option_map version_of) is)
      ∙ ap (λ (o : Option ℕ). asked_behind shy batch c (version_of e) (parent_in c.machine.versions o)) (sym (at ∙ ap parent_of is))

  -- it has no parent
  pub asked_root : (id : ℕ) (held : Version) → Some held ≡ value_of (entry_at kin t.entries id) → None ≡ parent_of (entry_at kin t.entries id) → batch ≡ asked shy batch c id
  asked_root id held is none =
      let f : Found (entry_at kin t.entries id) held = found (entry_at kin t.entries id) held is in
      sym (asked_found id f.entry f.is None none)

  -- its parent is not live
  pub asked_orphan : (id p : ℕ) (held : Version) → Some held ≡ value_of (entry_at kin t.entries id) → Some p ≡ parent_of (entry_at kin t.entries id)
      → None ≡ value_of (entry_at kin t.entries p) → batch ≡ asked shy batch c id
  asked_orphan id p held is above none =
      let f : Found (entry_at kin t.entries id) held = found (entry_at kin t.entries id) held is in
      sym (asked_found id f.entry f.is (Some p) above
      ∙ ap (asked_behind shy batch c (version_of f.entry)) (at_version p ∙ ap (option_map version_of) (not_found (entry_at kin t.entries p) none)))

  -- both are live
  pub asked_child : (id p : ℕ) (held parent : Version) → Some held ≡ value_of (entry_at kin t.entries id) → Some p ≡ parent_of (entry_at kin t.entries id)
      → Some parent ≡ value_of (entry_at kin t.entries p)
      → asked_between shy batch (free_between batch c parent held) (parent.first + parent.position) (held.first + held.position) ≡ asked shy batch c id
  asked_child id p held parent is above there =
      let f : Found (entry_at kin t.entries id) held = found (entry_at kin t.entries id) held is in
      let g : Found (entry_at kin t.entries p) parent = found (entry_at kin t.entries p) parent there in
      let own : held.first + held.position ≡ next_read c.plan c.machine.events (version_of f.entry) =
      ap (λ (v : Version). v.first + v.position) (sym f.value) ∙ next_held id f.entry f.is in
      let parents : parent.first + parent.position ≡ next_read c.plan c.machine.events (version_of g.entry) =
      ap (λ (v : Version). v.first + v.position) (sym g.value) ∙ next_held p g.entry g.is in
      let begins : parent.first ≡ first c.plan c.machine.events g.entry.value.window = ap (λ (v : Version). v.first) (sym g.value) ∙ begins_held p g.entry g.is in
      let window : parent.window ≡ g.entry.value.window = ap (λ (v : Version). v.window) (sym g.value) in
      let done : parent.done ≡ g.entry.value.done = ap (λ (v : Version). v.done) (sym g.value) in
      let position : held.position ≡ f.entry.value.position = ap (λ (v : Version). v.position) (sym f.value) in
      let free : free_between batch c parent held ≡ is_free batch c.plan c.machine.events (version_of g.entry) (version_of f.entry) =
      (λ i. nat_lt (position i) (2 * batch) || (done i || (nat_le (begins i + size c.plan c.machine.events (window i)) (own i) || not (consumes c.plan)))) in
      (λ i. asked_between shy batch (free i) (parents i) (own i))
      ∙ sym (asked_found id f.entry f.is (Some p) above
      ∙ ap (asked_behind shy batch c (version_of f.entry)) (at_version p ∙ ap (option_map version_of) g.is))

  -- both are live, and children are shy
  pub asked_shy : (id p : ℕ) (held parent : Version) → Some held ≡ value_of (entry_at kin t.entries id) → Some p ≡ parent_of (entry_at kin t.entries id)
      → Some parent ≡ value_of (entry_at kin t.entries p) → shy ≡ true → 1 ≡ asked shy batch c id
  asked_shy id p held parent is above there are =
      ap (λ (b : Bool). asked_between b batch (free_between batch c parent held) (parent.first + parent.position) (held.first + held.position)) (sym are)
      ∙ asked_child id p held parent is above there
