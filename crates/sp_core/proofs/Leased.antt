-- A core after a lease: what the new ticket changes of each version, and that the core is one of the machine's.
use Rattle.std.proofs.Common.{◌≡◌, ℕ, ◌+◌, ◌*◌, ◌≤◌, true, false, cond, ◌==◌, List, [], ◌∷◌, ◌++◌, length, map, Option, Some, None, refl, sym, ap, subst, ◌∙◌, arith}
use Rattle.std.specs.List.{All, sum}
use Rattle.std.specs.Option.{option_map}
use Rattle.std.proofs.lemmas.Bool.Decides.{nat_tests}
use Rattle.sp_plan.specs.declared.event.Event.{Event}
use Rattle.sp_plan.specs.declared.plan.Plan.{Plan}
use Rattle.sp_version.specs.declared.version.Version.{Version}
use Rattle.sp_group.specs.declared.step.Entry as step
use Rattle.sp_group.specs.declared.step.Step.TheVariants as s
use Rattle.sp_group.specs.Family.{entry_at}
use Rattle.sp_group.specs.Machine as machine
use Rattle.sp_group.specs.Machine.{Machine, Ticket, version_at}
use Rattle.sp_group.specs.Effects as effects
use Rattle.sp_group.specs.Effects.{effect, leased}
use Rattle.sp_spread.proofs.Hits.{by_lease}
use Rattle.sp_tree.specs.Grown.{Entry, Grown, kin, written, with_value}
use Rattle.sp_core.specs.declared.lent.Lent.{Lent}
use Rattle.sp_core.specs.Running.{after, once, refused}
use Rattle.sp_core.specs.Carrying.{ticket_of}
use Rattle.sp_core.specs.Leasing.{IsLent, out_where, with_out}
use Rattle.sp_core.specs.Holding.{Holding, Holds, IsCore, machine_of, running, version_of}
use Rattle.sp_core.proofs.Journal.{replayed_on}
use Rattle.sp_core.proofs.Newly.{news_on}
use Rattle.sp_core.proofs.Entries.{version_found, version_is}
use Rattle.sp_core.proofs.Owed.{owed_most}
use Rattle.sp_core.proofs.Written.{all_written, grown_written, length_written, map_written}

-- the version for which a ticket is out
abbrev pub out_now : Version → ℕ → Version
out_now v number = record v { out = Some number }

module _ (q : Plan) (events : List Event) (tickets : List Ticket) (t : Ticket) where
  out_here : (id : ℕ) → t.version ≡ id → (rest : Option ℕ) → Some t.number ≡ cond (t.version == id) (Some t.number) rest
  out_here id is rest = let same : (t.version == id) ≡ true = grind (arith, nat_tests) in rw same refl

  out_there : (id : ℕ) → ¬ (id ≡ t.version) → (rest : Option ℕ) → rest ≡ cond (t.version == id) (Some t.number) rest
  out_there id other rest = let apart : (t.version == id) ≡ false = grind (arith, nat_tests) in rw apart refl

  holds_out : (e : Entry Version) → t.version ≡ e.version.id → Holds q events tickets e → Holds q events (t ∷ tickets) (record e { value = out_now e.value t.number })
  holds_out e is h = record {
    first = h.first;
    plan = h.plan;
    stands = h.stands;
    matches = h.matches;
    copies = h.copies;
    used = h.used;
    out = out_here e.version.id is _;
    groups = h.groups;
    rising = h.rising;
  }

  holds_beside : (e : Entry Version) → Holds q events tickets e → ¬ (e.version.id ≡ t.version) → Holds q events (t ∷ tickets) e
  holds_beside e h other = record {
    first = h.first;
    plan = h.plan;
    stands = h.stands;
    matches = h.matches;
    copies = h.copies;
    used = h.used;
    out = h.out ∙ out_there e.version.id other _;
    groups = h.groups;
    rising = h.rising;
  }

-- the entry of a version that is live in the machine
pub record Live (h : Holding) (id : ℕ) : Type 0 where
  pub entry : Entry Version
  pub is : entry_at kin h.tree.entries id ≡ Some entry

live_if : (h : Holding) (id : ℕ) (v : machine.Version) (o : Option (Entry Version)) → entry_at kin h.tree.entries id ≡ o → option_map version_of o ≡ Some v → Live h id
live_if h id v None at is = absurd (cc)
live_if h id v (Some e) at is = record { entry = e; is = at }

pub live : (h : Holding) (id : ℕ) (v : machine.Version) → version_at (machine_of h).versions id ≡ Some v → Live h id
live h id v at = live_if h id v (entry_at kin h.tree.entries id) refl (sym (version_found h.tree.entries id) ∙ at)

-- A lease that is not refused: the version that reads, with its entry, and the ticket that the machine gives it.
pub record Leases (h : Holding) (lent : Lent) (n : ℕ) : Type 0 where
  pub core : IsCore h
  pub version : machine.Version
  pub at : version_at (machine_of h).versions lent.version ≡ Some version
  pub ticket : ticket_of lent ≡ effects.lent h.plan (machine_of h) n version
  pub passes : refused (running h) (s.Lease lent.version n) ≡ None
  pub entry : Live h lent.version

pub leases : (h : Holding) (lent : Lent) (n : ℕ) → IsCore h → IsLent (running h) lent.version n lent → refused (running h) (s.Lease lent.version n) ≡ None → Leases h lent n
leases h lent n k is passes = record {
  core = k;
  version = is.0;
  at = is.1;
  ticket = is.2;
  passes = passes;
  entry = live h lent.version is.0 is.1;
}

-- a core with another tree, other tickets, the next ticket's number and another journal
abbrev pub with_ticket : Holding → Grown Version → List Lent → List step.Entry → ℕ → Holding
with_ticket h tree tickets journal room = record h {
  tree = tree;
  tickets = tickets;
  next_ticket = h.next_ticket + 1;
  journal = journal;
  journal_room = room;
}

module _ (h : Holding) (lent : Lent) (n : ℕ) (a : Leases h lent n) where
  -- the machine's version is that of the entry
  pub version_same : a.version ≡ version_of a.entry.entry
  version_same = let same : Some a.version ≡ Some (version_of a.entry.entry) = sym a.at ∙ version_is h.tree.entries lent.version a.entry.entry a.entry.is in cc

  id_is : lent.version ≡ a.entry.entry.version.id
  id_is = ap (λ (t : Ticket). t.version) a.ticket ∙ ap (λ (v : machine.Version). v.id) version_same

  -- what the new value does not change
  same_of : {B : Type 0} (f : Entry Version → B) → f (record a.entry.entry { value = out_now a.entry.entry.value lent.ticket }) ≡ f a.entry.entry
      → map f (written h.tree.entries lent.version (out_now a.entry.entry.value lent.ticket)) ≡ map f h.tree.entries
  same_of f same = map_written f h.tree.entries lent.version (out_now a.entry.entry.value lent.ticket) a.entry.entry a.entry.is same

  module _ (room : ℕ) where
    -- the core after the lease, with so much room in its journal
    abbrev after_lease : Holding
    after_lease =
        with_ticket h (with_value h.tree lent.version (out_now a.entry.entry.value lent.ticket)) (lent ∷ h.tickets) (h.journal ++ once (s.Lease lent.version n) ∷ []) room

    machine_after : machine_of after_lease ≡ effect h.plan (machine_of h) (s.Lease lent.version n)
    machine_after =
        ap (λ (vs : List machine.Version). record (machine_of h) { versions = vs; tickets = ticket_of lent ∷ map ticket_of h.tickets; next_ticket = h.next_ticket + 1 }) (same_of version_of refl)
        ∙ ap (λ (t : Ticket). record (machine_of h) { tickets = t ∷ map ticket_of h.tickets; next_ticket = h.next_ticket + 1 }) a.ticket
        ∙ sym (ap (leased h.plan (machine_of h) n) a.at)

    all_hold : All (Holds h.plan h.events (ticket_of lent ∷ map ticket_of h.tickets)) (written h.tree.entries lent.version (out_now a.entry.entry.value lent.ticket))
    all_hold =
        let t = ticket_of lent in
        let ts = map ticket_of h.tickets in
        all_written (Holds h.plan h.events ts) (Holds h.plan h.events (t ∷ ts)) lent.version (out_now a.entry.entry.value lent.ticket) a.entry.entry
        (holds_beside h.plan h.events ts t) (holds_out h.plan h.events ts t a.entry.entry id_is) h.tree.next h.tree.entries a.core.grown.fall a.entry.is a.core.versions

    core_after : 2 * length h.tree.entries + 4 ≤ room → IsCore after_lease
    core_after fits =
        let k = a.core in
        let few = owed_most h.ended (written h.tree.entries lent.version (out_now a.entry.entry.value lent.ticket)) in
        let size = length_written h.tree.entries lent.version (out_now a.entry.entry.value lent.ticket) in
        let matches = ap sum (same_of (λ e. length e.value.copies.items) refl) in
        let numbers = ap sum (same_of (λ e. length e.value.used.list) refl) in
        let rooms = k.rooms in
        record {
          compiled = k.compiled;
          known_are = k.known_are;
          some = k.some;
          most = k.most;
          windows_plan = k.windows_plan;
          windows = k.windows;
          grown = grown_written h.tree lent.version (out_now a.entry.entry.value lent.ticket) k.grown;
          versions = all_hold;
          replayed = replayed_on h after_lease (s.Lease lent.version n) k.replayed refl refl refl tt a.passes machine_after (omega arith) (omega arith);
          news_are = news_on h (machine_of after_lease) (effect h.plan (machine_of h) (s.Lease lent.version n)) k.news_are machine_after
              (by_lease h.plan (machine_of h) n (version_at (machine_of h).versions lent.version));
          rooms = record { entries = omega arith; matches = omega (arith, matches, rooms.matches); numbers = omega (arith, numbers, rooms.numbers) };
        }

  module _ (tree : Grown Version) (tickets : List Lent) (journal : List step.Entry) (room : ℕ)
      (tree_is : tree ≡ with_out h.tree lent.version lent.ticket) (tickets_are : tickets ≡ lent ∷ h.tickets) (journal_is : journal ≡ h.journal ++ once (s.Lease lent.version n) ∷ []) where
    is_after : with_ticket h tree tickets journal room ≡ after_lease room
    is_after =
        ap (λ (t : Grown Version). with_ticket h t tickets journal room) (tree_is ∙ ap (out_where h.tree lent.version lent.ticket) a.entry.is)
        ∙ ap (λ (ts : List Lent). with_ticket h (with_value h.tree lent.version (out_now a.entry.entry.value lent.ticket)) ts journal room) tickets_are
        ∙ ap (λ (es : List step.Entry). with_ticket h (with_value h.tree lent.version (out_now a.entry.entry.value lent.ticket)) (lent ∷ h.tickets) es room) journal_is

    pub core_leased : 2 * length h.tree.entries + 4 ≤ room → IsCore (with_ticket h tree tickets journal room)
    core_leased fits = subst IsCore (sym is_after) (core_after room fits)

    pub running_leased : running (with_ticket h tree tickets journal room) ≡ after (running h) (s.Lease lent.version n)
    running_leased =
        ap running is_after
        ∙ ap (λ (m : Machine). record { plan = h.plan; bound = h.tree.bound; machine = m; journal = h.journal ++ once (s.Lease lent.version n) ∷ [] }) (machine_after room)
