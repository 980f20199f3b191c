-- A core after a ticket ended of which nothing was read.
use Rattle.std.proofs.Common.{◌≡◌, ℕ, ◌+◌, ◌*◌, ◌≤◌, List, [], ◌∷◌, ◌++◌, length, get_or, map, Option, Some, None, refl, sym, ap, subst, ◌∙◌, arith}
use Rattle.std.specs.List.{All, sum, remove}
use Rattle.std.specs.Option.{option_map}
use Rattle.sp_base.specs.Limits.{live_limit}
use Rattle.sp_version.specs.declared.version.Version.{Version}
use Rattle.sp_group.specs.declared.step.Entry as step
use Rattle.sp_group.specs.declared.step.Step.TheVariants as s
use Rattle.sp_group.specs.Family.{entry_at}
use Rattle.sp_group.specs.Machine as machine
use Rattle.sp_group.specs.Machine.{Machine, Ticket, ticket_at, version_at}
use Rattle.sp_group.specs.Refusing.{return_refusal}
use Rattle.sp_group.specs.Effects.{effect, home, returned, without}
use Rattle.sp_spread.proofs.Hits.{by_ending}
use Rattle.sp_rules.specs.Schedules.{EverySchedule, Reached}
use Rattle.sp_tree.specs.Grown.{AreGrown, Entry, Grown, kin, with_value, written}
use Rattle.sp_core.specs.declared.lent.Lent.{Lent}
use Rattle.sp_core.specs.Carrying.{ticket_of}
use Rattle.sp_core.specs.Holding.{Holding, Holds, IsCore, machine_of, running, version_of}
use Rattle.sp_core.specs.Returning.{IsPlaceOf, none_out_where, with_none_out, without_ticket}
use Rattle.sp_core.specs.Rooms.{matches_held, numbers_held}
use Rattle.sp_core.specs.Running.{after, once}
use Rattle.sp_core.proofs.Carried.{IsOutFor, here, lent_is, out_there, ticket_there}
use Rattle.sp_core.proofs.Entries.{all_found, found_of_all, version_found, version_is}
use Rattle.sp_core.proofs.Journal.{reached, replayed_on}
use Rattle.sp_core.proofs.Newly.{news_on}
use Rattle.sp_core.proofs.NothingRead.{nothing_home, same_version}
use Rattle.sp_core.proofs.Owed.{owed_most}
use Rattle.sp_core.proofs.Renewing.{at_entry}
use Rattle.sp_core.proofs.TicketsLeft.{left_without, none_out, same_out}
use Rattle.sp_core.proofs.Written.{all_written, grown_written, length_written, map_written}

-- A ticket that is out, and the tickets without it.
pub record IsOutAt (h : Holding) (n : ℕ) (d : Lent) (left : List Lent) : Type 0 where
  pub core : IsCore h
  pub reached : Reached h.plan h.tree.bound (machine_of h)
  pub number : d.ticket ≡ n
  pub out : ticket_at (map ticket_of h.tickets) n ≡ Some (ticket_of d)
  pub rest : map ticket_of left ≡ without n (map ticket_of h.tickets)

pub out_at : EverySchedule → (h : Holding) → IsCore h → (n place : ℕ) (d : Lent) (left : List Lent) → IsPlaceOf (map ticket_of h.tickets) n place → d ≡ get_or h.tickets place d
    → left ≡ remove h.tickets place → IsOutAt h n d left
out_at law h k n place d left at is are =
    let r = reached law h k in
    record {
      core = k;
      reached = r;
      number = sym (ap (λ (t : Ticket). t.number) (ticket_there h.tickets place at.0 d at.1 is)) ∙ at.2;
      out = out_there h.tickets n place d at is;
      rest = ap (map ticket_of) are ∙ left_without h.tickets n place r.kept.sane.newest_first at;
    }

-- the version for which nothing is out
abbrev none_now : Version → Version
none_now v = record v { out = None }

-- What a tree keeps where nothing is out for a version any more, while its ticket goes.
pub record Leaves (h : Holding) (n : ℕ) (d : Lent) (t : Grown Version) : Type 0 where
  pub next : t.next ≡ h.tree.next
  pub bound : t.bound ≡ h.tree.bound
  pub grown : AreGrown t
  pub size : length t.entries ≡ length h.tree.entries
  pub versions : map version_of t.entries ≡ map version_of h.tree.entries
  pub matches : matches_held t.entries ≡ matches_held h.tree.entries
  pub numbers : numbers_held t.entries ≡ numbers_held h.tree.entries
  pub hold : All (Holds h.plan h.events (without n (map ticket_of h.tickets))) t.entries
  pub comes : home h.plan (machine_of h) n (ticket_of d) (version_at (machine_of h).versions d.version) ≡ record (machine_of h) { tickets = without n (map ticket_of h.tickets) }

module _ (h : Holding) (n : ℕ) (d : Lent) (left : List Lent) (a : IsOutAt h n d left) where
  holds_beside : (e : Entry Version) → Holds h.plan h.events (map ticket_of h.tickets) e → ¬ (e.version.id ≡ d.version) → Holds h.plan h.events (without n (map ticket_of h.tickets)) e
  holds_beside e held other = record {
    first = held.first;
    plan = held.plan;
    stands = held.stands;
    matches = held.matches;
    copies = held.copies;
    used = held.used;
    out = held.out ∙ sym (same_out (map ticket_of h.tickets) n e.version.id a.reached.kept.sane.newest_first not_its);
    groups = held.groups;
    rising = held.rising;
  }
    where
      not_its : (u : Ticket) → ticket_at (map ticket_of h.tickets) n ≡ Some u → u.version ≡ e.version.id → ⊥
      not_its u at of =
          let found : Some u ≡ Some (ticket_of d) = sym at ∙ a.out in
          let same : u ≡ ticket_of d = cc in
          other (sym of ∙ ap (λ (t : Ticket). t.version) same)

  -- of a version that is not live
  leaves_none : entry_at kin h.tree.entries d.version ≡ None → Leaves h n d h.tree
  leaves_none none = record {
    next = refl;
    bound = refl;
    grown = a.core.grown;
    size = refl;
    versions = refl;
    matches = refl;
    numbers = refl;
    hold = all_found (Holds h.plan h.events (without n (map ticket_of h.tickets))) h.tree.next h.tree.entries a.core.grown.fall each;
    comes = ap (home h.plan (machine_of h) n (ticket_of d)) (version_found h.tree.entries d.version ∙ ap (option_map version_of) none);
  }
    where
      each : (id : ℕ) (e : Entry Version) → entry_at kin h.tree.entries id ≡ Some e → Holds h.plan h.events (without n (map ticket_of h.tickets)) e
      each id e at =
          holds_beside e (found_of_all (Holds h.plan h.events (map ticket_of h.tickets)) h.tree.entries id e a.core.versions at)
          (λ same. let here : Some e ≡ None = sym at ∙ ap (entry_at kin h.tree.entries) (sym (at_entry h.tree.entries id e at) ∙ same) ∙ none in absurd (cc))

  -- of one that is
  leaves_live : (e : Entry Version) → entry_at kin h.tree.entries d.version ≡ Some e → Leaves h n d (with_value h.tree d.version (none_now e.value))
  leaves_live e at = record {
    next = refl;
    bound = refl;
    grown = grown_written h.tree d.version (none_now e.value) a.core.grown;
    size = length_written h.tree.entries d.version (none_now e.value);
    versions = same_of version_of refl;
    matches = ap sum (same_of (λ (x : Entry Version). length x.value.copies.items) refl);
    numbers = ap sum (same_of (λ (x : Entry Version). length x.value.used.list) refl);
    hold = all_written (Holds h.plan h.events ts) (Holds h.plan h.events (without n ts)) d.version (none_now e.value) e
        holds_beside holds_now h.tree.next h.tree.entries a.core.grown.fall at a.core.versions;
    comes = ap (home h.plan (machine_of h) n (ticket_of d)) (version_is h.tree.entries d.version e at)
        ∙ nothing_home h.plan (machine_of h) n (ticket_of d) (version_of e) a.reached.kept.sane.shape
        (ap (version_at (machine_of h).versions) own ∙ version_is h.tree.entries d.version e at)
        (same_version (version_of e) (ticket_of d) refl refl (λ i among. ((lent_is h n d e for_it).snapshot i among).1));
  }
    where
      ts : List Ticket
      ts = map ticket_of h.tickets

      own : e.version.id ≡ d.version
      own = at_entry h.tree.entries d.version e at

      for_it : IsOutFor h n d e
      for_it = record { core = a.core; reached = a.reached; number = a.number; out = a.out; live = at }

      same_of : {B : Type 0} (f : Entry Version → B) → f (record e { value = none_now e.value }) ≡ f e → map f (written h.tree.entries d.version (none_now e.value)) ≡ map f h.tree.entries
      same_of f same = map_written f h.tree.entries d.version (none_now e.value) e at same

      holds_now : Holds h.plan h.events ts e → Holds h.plan h.events (without n ts) (record e { value = none_now e.value })
      holds_now held = record {
        first = held.first;
        plan = held.plan;
        stands = held.stands;
        matches = held.matches;
        copies = held.copies;
        used = held.used;
        out = sym (none_out ts n e.version.id a.reached.kept.sane.newest_first (λ m u there of. (here h n d e for_it).only m n u (ticket_of d) there a.out of (sym own)));
        groups = held.groups;
        rising = held.rising;
      }

  leaves_if : (o : Option (Entry Version)) → entry_at kin h.tree.entries d.version ≡ o → Leaves h n d (none_out_where h.tree d.version o)
  leaves_if None at = leaves_none at
  leaves_if (Some e) at = leaves_live e at

  -- so nothing but the ticket goes
  pub machine_left : effect h.plan (machine_of h) (s.Return n) ≡ without_ticket (machine_of h) n
  machine_left = ap (returned h.plan (machine_of h) n) a.out ∙ (leaves_if (entry_at kin h.tree.entries d.version) refl).comes

  module _ (room : ℕ) where
    abbrev after_return : Grown Version → Holding
    after_return t = record h { tree = t; tickets = left; journal = h.journal ++ once (s.Return n) ∷ []; journal_room = room }

    module _ (t : Grown Version) (l : Leaves h n d t) where
      machine_after : machine_of (after_return t) ≡ effect h.plan (machine_of h) (s.Return n)
      machine_after =
          ap (λ (vs : List machine.Version). record (machine_of h) { versions = vs; tickets = map ticket_of left; next_id = t.next }) l.versions
          ∙ ap (λ (us : List Ticket). record (machine_of h) { tickets = us; next_id = t.next }) a.rest
          ∙ ap (λ (next : ℕ). record (machine_of h) { tickets = without n (map ticket_of h.tickets); next_id = next }) l.next
          ∙ sym (ap (returned h.plan (machine_of h) n) a.out ∙ l.comes)

      core_after : 2 * length h.tree.entries + 4 ≤ room → IsCore (after_return t)
      core_after fits =
          let k = a.core in
          let few = owed_most h.ended t.entries in
          let size = l.size in
          let rooms = k.rooms in
          record {
            compiled = k.compiled;
            known_are = k.known_are;
            some = subst (λ b. 1 ≤ b) (sym l.bound) k.some;
            most = subst (λ b. b ≤ live_limit) (sym l.bound) k.most;
            windows_plan = k.windows_plan;
            windows = k.windows;
            grown = l.grown;
            versions = subst (λ (us : List Ticket). All (Holds h.plan h.events us) t.entries) (sym a.rest) l.hold;
            replayed = replayed_on h (after_return t) (s.Return n) k.replayed refl l.bound refl tt (ap (return_refusal n) a.out) machine_after (omega (arith, l.next)) (omega arith);
            news_are = news_on h (machine_of (after_return t)) (without_ticket (machine_of h) n) k.news_are (machine_after ∙ machine_left) (by_ending h.plan (machine_of h) n);
            rooms = record { entries = omega arith; matches = omega (arith, l.matches, rooms.matches); numbers = omega (arith, l.numbers, rooms.numbers) };
          }

      running_after : running (after_return t) ≡ after (running h) (s.Return n)
      running_after =
          ap (λ (b : ℕ). record { plan = h.plan; bound = b; machine = machine_of (after_return t); journal = h.journal ++ once (s.Return n) ∷ [] }) l.bound
          ∙ ap (λ (m : Machine). record { plan = h.plan; bound = h.tree.bound; machine = m; journal = h.journal ++ once (s.Return n) ∷ [] }) machine_after

    module _ (tree : Grown Version) (journal : List step.Entry) (tree_is : tree ≡ with_none_out h.tree d.version) (journal_is : journal ≡ h.journal ++ once (s.Return n) ∷ []) where
      leaves : Leaves h n d tree
      leaves = subst (Leaves h n d) (sym tree_is) (leaves_if (entry_at kin h.tree.entries d.version) refl)

      is_after : record h { tree = tree; tickets = left; journal = journal; journal_room = room } ≡ after_return tree
      is_after = ap (λ (es : List step.Entry). record h { tree = tree; tickets = left; journal = es; journal_room = room }) journal_is

      pub core_ended : 2 * length h.tree.entries + 4 ≤ room → IsCore (record h { tree = tree; tickets = left; journal = journal; journal_room = room })
      core_ended fits = subst IsCore (sym is_after) (core_after tree leaves fits)

      pub running_ended : running (record h { tree = tree; tickets = left; journal = journal; journal_room = room }) ≡ after (running h) (s.Return n)
      running_ended = ap running is_after ∙ running_after tree leaves
