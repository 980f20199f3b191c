-- A core that has the same values, and more room, is the same core.
use Rattle.std.proofs.Common.{◌≡◌, ℕ, ◌≤◌, Bool, cond, ◌||◌, nat_lt, is_some, List, [], length, map, sym, ap, subst, ◌∙◌, arith}
use Rattle.std.specs.List.{sum}
use Rattle.sp_base.specs.Numbers.{NumberList, with_numbers}
use Rattle.sp_plan.specs.declared.event.Event.{Event}
use Rattle.sp_plan.specs.declared.found.Match.{Match}
use Rattle.sp_plan.specs.declared.plan.Plan.{Plan}
use Rattle.sp_plan.specs.Groups.{used_by_all}
use Rattle.sp_plan.specs.Same.{SamePlan}
use Rattle.sp_plan.specs.WindowNumbers.{first}
use Rattle.sp_match.specs.public.Matching.{Matching, Stands}
use Rattle.sp_version.specs.declared.version.Version.{Version}
use Rattle.sp_group.specs.declared.step.Entry as step
use Rattle.sp_group.specs.Machine as machine
use Rattle.sp_group.specs.Machine.{Ticket, inner, is_group}
use Rattle.sp_core.specs.declared.news.News.{News}
use Rattle.sp_core.specs.News.{AreNew}
use Rattle.sp_tree.specs.Grown.{Entry, Grown, with_value, written}
use Rattle.sp_core.specs.Carrying.{ticket_of}
use Rattle.sp_core.specs.Holding.{Holding, Holds, IsCore, machine_of, running, unnumbered, version_of}
use Rattle.sp_core.specs.Homecoming.{IsSameButRooms}
use Rattle.sp_core.specs.Rooms.{entries_for}
use Rattle.sp_core.specs.Settling.{IsSameTree}
use Rattle.sp_core.proofs.Written.{all_written, grown_written, map_written}

-- to the machine it is the same version
version_same : (e : Entry Version) (value : Version) → IsSameButRooms e.value value → version_of (record e { value = value }) ≡ version_of e
version_same e value same =
    let v : ℕ → ℕ → List ℕ → Bool → machine.Version =
    λ w position skipped done. record { id = e.version.id; parent = e.version.parent; window = w; label = e.version.label; position = position; skipped = skipped; done = done } in
    ap (λ w. v w value.position value.skipped.list value.done) same.window
    ∙ ap (λ at. v e.value.window at value.skipped.list value.done) same.position
    ∙ ap (λ ns. v e.value.window e.value.position ns value.done) same.skipped
    ∙ ap (v e.value.window e.value.position e.value.skipped.list) same.done

-- and comes to as many entries of the journal
owed_same : (e : Entry Version) (value : Version) → IsSameButRooms e.value value → entries_for (record e { value = value }) ≡ entries_for e
owed_same e value same =
    ap (λ n. cond (nat_lt 0 n || is_some value.out) 2 1) same.position ∙ ap (λ o. cond (nat_lt 0 e.value.position || is_some o) 2 1) same.out

-- a version holds what it did, whatever its rooms
holds_same : (q : Plan) (events : List Event) (ts : List Ticket) (e : Entry Version) (value : Version) → IsSameButRooms e.value value
    → Holds q events ts e → Holds q events ts (record e { value = value })
holds_same q events ts e value same holds = record {
  first = same.first ∙ holds.first ∙ ap (first q events) (sym same.window);
  plan = subst (λ (m : Matching). SamePlan m.plan q) (sym same.matcher) holds.plan;
  stands = subst (λ (v : machine.Version). Stands value.matcher (inner q events v)) (sym is) (subst (λ (m : Matching). Stands m (inner q events (version_of e))) (sym same.matcher) holds.stands);
  matches = same.matches ∙ holds.matches ∙ unnumbered_is;
  copies = same.copies ∙ holds.copies ∙ unnumbered_is;
  used = same.used ∙ holds.used ∙ ap (λ (v : machine.Version). with_numbers [] (used_by_all q (inner q events v))) (sym is);
  out = same.out ∙ holds.out;
  groups = λ r. holds.groups r ∙ ap (λ (v : machine.Version). is_group q (inner q events v) r) (sym is);
  rising = holds.rising;
}
  where
    is : version_of (record e { value = value }) ≡ version_of e
    is = version_same e value same

    unnumbered_is : unnumbered q e.value.window (inner q events (version_of e)) ≡ unnumbered q value.window (inner q events (version_of (record e { value = value })))
    unnumbered_is = ap (λ (v : machine.Version). unnumbered q v.window (inner q events v)) (sym is)

module _ (h : Holding) (c : IsCore h) (consumed : NumberList) (journal_room emitted_room : ℕ) (consumed_is : consumed.list ≡ h.consumed.list)
    (spares : h.consumed.spare ≤ consumed.spare) (enters : h.journal_room ≤ journal_room) (emits : h.emitted_room ≤ emitted_room) where
  -- the core with another tree
  abbrev pub roomier : Grown Version → Holding
  roomier tree = record h { tree = tree; consumed = consumed; journal_room = journal_room; emitted_room = emitted_room }

  pub core_roomier : IsCore (roomier h.tree)
  core_roomier = record {
    compiled = c.compiled;
    known_are = c.known_are;
    some = c.some;
    most = c.most;
    windows_plan = c.windows_plan;
    windows = c.windows;
    grown = c.grown;
    versions = c.versions;
    replayed = record {
      fits = c.replayed.fits;
      leads = c.replayed.leads ∙ sym machine_same;
      ids = c.replayed.ids;
      tickets = c.replayed.tickets;
    };
    news_are = subst (λ (m : machine.Machine). AreNew h.plan m h.news) (sym machine_same) c.news_are;
    rooms = record {
      entries = let room = c.rooms.entries in omega arith;
      matches = let room = c.rooms.matches in omega arith;
      numbers = let room = c.rooms.numbers in omega arith;
    };
  }
    where
      machine_same : machine_of (roomier h.tree) ≡ machine_of h
      machine_same = ap (λ (ns : List ℕ). record (machine_of h) { consumed = ns }) consumed_is

  pub running_roomier : running (roomier h.tree) ≡ running h
  running_roomier = ap (λ (ns : List ℕ). record (running h) { machine = record (machine_of h) { consumed = ns } }) consumed_is

-- where a version has other rooms the core is the same
module _ (h : Holding) (c : IsCore h) (id : ℕ) (tree : Grown Version) (same : IsSameTree h.tree id tree) where
  abbrev e : Entry Version
  e = same.entry

  abbrev es : List (Entry Version)
  es = written h.tree.entries id same.value

  abbrev pub with_tree : Grown Version → Holding
  with_tree t = record h { tree = t }

  same_of : {B : Type 0} (f : Entry Version → B) → f (record e { value = same.value }) ≡ f e → map f es ≡ map f h.tree.entries
  same_of f is = map_written f h.tree.entries id same.value e same.live is

  machine_same : machine_of (with_tree (with_value h.tree id same.value)) ≡ machine_of h
  machine_same = ap (λ (vs : List machine.Version). record (machine_of h) { versions = vs }) (same_of version_of (version_same e same.value same.same))

  core_written : IsCore (with_tree (with_value h.tree id same.value))
  core_written = record {
    compiled = c.compiled;
    known_are = c.known_are;
    some = c.some;
    most = c.most;
    windows_plan = c.windows_plan;
    windows = c.windows;
    grown = grown_written h.tree id same.value c.grown;
    versions = all_written (Holds h.plan h.events (map ticket_of h.tickets)) (Holds h.plan h.events (map ticket_of h.tickets)) id same.value e (λ x holds other. holds)
        (holds_same h.plan h.events (map ticket_of h.tickets) e same.value same.same) h.tree.next h.tree.entries c.grown.fall same.live c.versions;
    replayed = record {
      fits = c.replayed.fits;
      leads = c.replayed.leads ∙ sym machine_same;
      ids = c.replayed.ids;
      tickets = c.replayed.tickets;
    };
    news_are = subst (λ (m : machine.Machine). AreNew h.plan m h.news) (sym machine_same) c.news_are;
    rooms = record {
      entries = let room = c.rooms.entries in let all = ap sum (same_of entries_for (owed_same e same.value same.same)) in omega arith;
      matches = let room = c.rooms.matches in let all = ap sum (same_of (λ x. length x.value.copies.items) (ap length same.same.copies)) in omega arith;
      numbers = let room = c.rooms.numbers in let all = ap sum (same_of (λ x. length x.value.used.list) (ap length same.same.used)) in omega arith;
    };
  }

  pub core_same : IsCore (with_tree tree)
  core_same = subst (λ (t : Grown Version). IsCore (with_tree t)) (sym same.tree) core_written

  pub running_same : running (with_tree tree) ≡ running h
  running_same = ap (λ (t : Grown Version). running (with_tree t)) same.tree ∙ ap (λ (m : machine.Machine). record (running h) { machine = m }) machine_same

-- both, with the matches and the journal as they are given
module _ (h : Holding) (c : IsCore h) (id : ℕ) (tree : Grown Version) (same : IsSameTree h.tree id tree) (emitted : List Match) (consumed : NumberList) (journal : List step.Entry)
    (journal_room emitted_room : ℕ) (emitted_is : emitted ≡ h.emitted) (consumed_is : consumed.list ≡ h.consumed.list) (journal_is : journal ≡ h.journal)
    (spares : h.consumed.spare ≤ consumed.spare) (enters : h.journal_room ≤ journal_room) (emits : h.emitted_room ≤ emitted_room) where
  abbrev with_both : List Match → List step.Entry → Holding
  with_both ms es = record h { tree = tree; emitted = ms; consumed = consumed; journal = es; journal_room = journal_room; emitted_room = emitted_room }

  abbrev made : Holding
  made = roomier h c consumed journal_room emitted_room consumed_is spares enters emits h.tree

  made_core : IsCore made
  made_core = core_roomier h c consumed journal_room emitted_room consumed_is spares enters emits

  both_are : with_both emitted journal ≡ with_both h.emitted h.journal
  both_are = ap (λ (ms : List Match). with_both ms journal) emitted_is ∙ ap (with_both h.emitted) journal_is

  pub core_left : IsCore (with_both emitted journal)
  core_left = subst IsCore (sym both_are) (core_same made made_core id tree same)

  pub running_left : running (with_both emitted journal) ≡ running h
  running_left = ap running both_are ∙ running_same made made_core id tree same ∙ running_roomier h c consumed journal_room emitted_room consumed_is spares enters emits

-- the core with rooms made for all of these
pub core_made : (h : Holding) → IsCore h → (emitted : List Match) (consumed : NumberList) (journal : List step.Entry) (news : List News) (journal_room emitted_room : ℕ)
    → emitted ≡ h.emitted → consumed.list ≡ h.consumed.list → journal ≡ h.journal → news ≡ h.news
    → h.consumed.spare ≤ consumed.spare → h.journal_room ≤ journal_room → h.emitted_room ≤ emitted_room
    → IsCore (record h { emitted = emitted; consumed = consumed; journal = journal; news = news; journal_room = journal_room; emitted_room = emitted_room })
core_made h c emitted consumed journal news journal_room emitted_room emitted_is consumed_is journal_is news_is spares enters emits =
    subst (λ (ms : List Match). IsCore (record h { emitted = ms; consumed = consumed; journal = journal; news = news; journal_room = journal_room; emitted_room = emitted_room })) (sym emitted_is)
    (subst (λ (es : List step.Entry). IsCore (record h { consumed = consumed; journal = es; news = news; journal_room = journal_room; emitted_room = emitted_room })) (sym journal_is)
    (subst (λ (ns : List News). IsCore (record h { consumed = consumed; news = ns; journal_room = journal_room; emitted_room = emitted_room })) (sym news_is)
    (core_roomier h c consumed journal_room emitted_room consumed_is spares enters emits)))
