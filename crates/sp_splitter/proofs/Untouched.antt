-- What leases leave as it was, and returns of tickets whose versions are gone: the versions, and what is said of them alone.
use Rattle.std.proofs.Common.{◌≡◌, ℕ, ◌+◌, ◌≤◌, inl, inr, Bool, true, false, cond, ◌==◌, is_some, List, [], ◌∷◌, length, map, Option, None, Some, refl, sym, ap, subst, ◌∙◌, arith, min}
use Rattle.std.specs.List.{All}
use Rattle.std.proofs.lemmas.List.{append-nil, length-map}
use Rattle.std.proofs.lemmas.List.Elements.{All-map}
use Rattle.sp_base.specs.Limits.{whole_share}
use Rattle.sp_plan.specs.declared.event.Event.{Event}
use Rattle.sp_plan.specs.declared.plan.Plan.{Plan}
use Rattle.sp_plan.specs.WindowNumbers.{count, size}
use Rattle.sp_group.specs.declared.step.Step.TheVariants as s
use Rattle.sp_group.specs.Family.{entry_at, parent_there}
use Rattle.sp_group.specs.Machine as machine
use Rattle.sp_group.specs.Machine.{Machine, Ticket, version_at, root_in, inner, is_group, out_for}
use Rattle.sp_group.specs.Effects.{effect, home, leased, returned}
use Rattle.sp_group.specs.Steps.{IsSpreadOut, Spread, has_child, out_count}
use Rattle.sp_version.specs.declared.version.Version.{Version}
use Rattle.sp_tree.specs.Grown.{Grown, Entry, AreRooted, FallFrom, groups_of, kin}
use Rattle.sp_pick.specs.Picking.{IsNext, IsTaken, candidates_in, candidates}
use Rattle.sp_core.specs.Holding.{Holds, version_of}
use Rattle.sp_core.specs.Running.{IsDone, Running, after, refused}
use Rattle.sp_core.specs.Showing.{IsTreeOf}
use Rattle.sp_spread.specs.Calm.{IsRooted, Settled}
use Rattle.sp_spread.specs.Guessing.{AreGuessed, coming_in, left_of}
use Rattle.sp_spread.specs.Laws.{IsStale}
use Rattle.sp_splitter.specs.Breeding.{IsWide}
use Rattle.sp_splitter.specs.Knowing.{Known}
use Rattle.sp_splitter.specs.Keeping.{KeepsVersions}
use Rattle.sp_splitter.specs.Stages.{IsSpreading, StaysWithin, Went}
use Rattle.sp_splitter.proofs.Stepping.{fed_more, leaves_leased, none_read_step}

-- nothing was done
pub kept_itself : (c : Running) → KeepsVersions c c
kept_itself c = record {
  plan = refl;
  bound = refl;
  events = refl;
  ended = refl;
  finished = refl;
  emitted = refl;
  versions = refl;
  next_id = refl;
  tickets = omega arith;
  fed_are = refl;
  read = refl;
  calm = λ calm. calm;
  busy = refl;
}

-- one after another
pub kept_then : (a b c : Running) → KeepsVersions a b → KeepsVersions b c → KeepsVersions a c
kept_then a b c first then = record {
  plan = then.plan ∙ first.plan;
  bound = then.bound ∙ first.bound;
  events = then.events ∙ first.events;
  ended = then.ended ∙ first.ended;
  finished = then.finished ∙ first.finished;
  emitted = then.emitted ∙ first.emitted;
  versions = then.versions ∙ first.versions;
  next_id = then.next_id ∙ first.next_id;
  tickets = let one = first.tickets in let two = then.tickets in omega arith;
  fed_are = then.fed_are ∙ first.fed_are;
  read = then.read ∙ first.read;
  calm = λ calm. then.calm (first.calm calm);
  busy = then.busy ∙ first.busy;
}

-- what a lease leaves as it was beside events and matches
record Same (m n : Machine) : Type 0 where
  finished : n.finished ≡ m.finished
  versions : n.versions ≡ m.versions
  next_id : n.next_id ≡ m.next_id
  tickets : m.next_ticket ≤ n.next_ticket

same_leased : (q : Plan) (m : Machine) (n : ℕ) (o : Option machine.Version) → Same m (leased q m n o)
same_leased q m n None = record { finished = refl; versions = refl; next_id = refl; tickets = omega arith }
same_leased q m n (Some v) = record { finished = refl; versions = refl; next_id = refl; tickets = omega arith }

kept_after_lease : (id n : ℕ) (c : Running) → Known c → refused c (s.Lease id n) ≡ None → KeepsVersions c (after c (s.Lease id n))
kept_after_lease id n c known passes =
    let leaves = leaves_leased c.plan c.machine n (version_at c.machine.versions id) in
    let same = same_leased c.plan c.machine n (version_at c.machine.versions id) in
    record {
      plan = refl;
      bound = refl;
      events = leaves.events;
      ended = leaves.ended;
      finished = same.finished;
      emitted = leaves.emitted;
      versions = same.versions;
      next_id = same.next_id;
      tickets = same.tickets;
      fed_are = fed_more c.journal (s.Lease id n) refl;
      read = none_read_step (s.Lease id n) c (after c (s.Lease id n)) (passes, refl) refl;
      calm = known.lawful.calm.by_lease id n passes;
      busy = (known.lawful.busy.by_lease id n passes).1;
    }

-- a lease
pub kept_lease : (id n : ℕ) (old new : Running) → Known old → IsDone (s.Lease id n) old new → KeepsVersions old new
kept_lease id n old new known done = subst (λ (z : Running). KeepsVersions old z) (sym done.1) (kept_after_lease id n old known done.0)

-- the return of what is stale ends its ticket and does no more
pub stale_effect : (q : Plan) (m : Machine) (n : ℕ) (stale : IsStale m n) → effect q m (s.Return n) ≡ home q m n stale.ticket None
stale_effect q m n stale =
    ap (λ (o : Option Ticket). returned q m n o) stale.out ∙ ap (λ (o : Option machine.Version). home q m n stale.ticket o) stale.gone

pub stale_refusal : (c : Running) (n : ℕ) → IsStale c.machine n → refused c (s.Return n) ≡ None
stale_refusal c n stale = rw stale.out refl

kept_after_stale : (n : ℕ) (c : Running) → Known c → IsStale c.machine n → KeepsVersions c (after c (s.Return n))
kept_after_stale n c known stale =
    let is = stale_effect c.plan c.machine n stale in
    record {
      plan = refl;
      bound = refl;
      events = ap (λ (z : Machine). z.events) is;
      ended = ap (λ (z : Machine). z.ended) is;
      finished = ap (λ (z : Machine). z.finished) is;
      emitted = ap (λ (z : Machine). z.emitted) is;
      versions = ap (λ (z : Machine). z.versions) is;
      next_id = ap (λ (z : Machine). z.next_id) is;
      tickets = let as_before = ap (λ (z : Machine). z.next_ticket) is in omega arith;
      fed_are = fed_more c.journal (s.Return n) refl;
      read = none_read_step (s.Return n) c (after c (s.Return n)) (stale_refusal c n stale, refl) refl;
      calm = known.lawful.calm.by_stale n stale;
      busy = (known.lawful.busy.by_stale n stale).1;
    }

-- the return of what is stale
pub kept_stale : (n : ℕ) (old new : Running) → Known old → IsStale old.machine n → new ≡ after old (s.Return n) → KeepsVersions old new
kept_stale n old new known stale is = subst (λ (z : Running). KeepsVersions old z) (sym is) (kept_after_stale n old known stale)

-- such a stage went well
pub went_kept : (n batch : ℕ) (old new : Running) → KeepsVersions old new → (IsSpreading n old → Spread new.plan new.bound n new.journal)
    → (out_count old.machine ≤ n + 1 → out_count new.machine ≤ n + 1) → StaysWithin n batch old new → Went n batch old new
went_kept n batch old new kept spread few within = record {
  plan = kept.plan;
  bound = kept.bound;
  events = kept.events;
  ended = kept.ended;
  fed_are = kept.fed_are;
  more = [];
  emitted = kept.emitted ∙ sym (append-nil old.machine.emitted);
  spread = spread;
  few = few;
  within = within;
  tickets = kept.tickets;
  finished = let same = kept.finished in omega arith;
}

rooted_kept : (q r : Plan) (m n : Machine) → r ≡ q → n.events ≡ m.events → n.finished ≡ m.finished → n.versions ≡ m.versions → IsRooted q m → IsRooted r n
rooted_kept q r m n plan events finished versions (inl (v, is)) = inl (v, ap root_in versions ∙ is)
rooted_kept q r m n plan events finished versions (inr begun) =
    let same : count r n.events ≡ count q m.events = λ i. count (plan i) (events i) in
    inr (omega arith)

-- what is settled stays so
pub settled_kept : (old new : Running) → KeepsVersions old new → Settled old.plan old.machine → Settled new.plan new.machine
settled_kept old new kept settled = record {
  calm = kept.calm settled.calm;
  undone = λ v is. settled.undone v (sym (ap root_in kept.versions) ∙ is);
  rooted = rooted_kept old.plan new.plan old.machine new.machine kept.plan kept.events kept.finished kept.versions settled.rooted;
}

-- what is guessed, by the parts of a machine that it speaks of
abbrev Guessed : (ℕ → ℕ → ℕ) → (ℕ → ℕ → ℕ) → Plan → List Event → List machine.Version → Type 0
Guessed means share q events versions =
    (id : ℕ) (v : machine.Version) (r : ℕ) → version_at versions id ≡ Some v → is_group q (inner q events v) r ≡ true
    → share id r ≡ min whole_share (means (left_of q (inner q events v) r) (coming_in q.length (size q events v.window) v.position))

pub guessed_kept : (old new : Running) (means share : ℕ → ℕ → ℕ) → KeepsVersions old new → AreGuessed old.plan old.machine means share
    → AreGuessed new.plan new.machine means share
guessed_kept old new means share kept guessed =
    subst (λ (z : Plan). Guessed means share z new.machine.events new.machine.versions) (sym kept.plan)
    (subst (λ (z : List Event). Guessed means share old.plan z new.machine.versions) (sym kept.events)
    (subst (λ (z : List machine.Version). Guessed means share old.plan old.machine.events z) (sym kept.versions) guessed))

-- each version whose next window is there has a child
abbrev HaveChildren : Plan → List Event → List machine.Version → Type 0
HaveChildren q events versions = All (λ v. v.window + 1 ≤ count q events → has_child versions v ≡ true) versions

-- what is spread out stays so
pub spread_out_kept : (n : ℕ) (old new : Running) → KeepsVersions old new → IsSpreadOut old.plan old.bound n old.machine
    → IsSpreadOut new.plan new.bound n new.machine
spread_out_kept n old new kept (inl busy) = inl (subst (λ (z : ℕ). n + 1 ≤ z) (sym kept.busy) busy)
spread_out_kept n old new kept (inr (inl full)) = inr (inl (ap length kept.versions ∙ full ∙ sym kept.bound))
spread_out_kept n old new kept (inr (inr all)) =
    inr (inr (subst (λ (z : Plan). HaveChildren z new.machine.events new.machine.versions) (sym kept.plan)
    (subst (λ (z : List Event). HaveChildren old.plan z new.machine.versions) (sym kept.events)
    (subst (λ (z : List machine.Version). HaveChildren old.plan old.machine.events z) (sym kept.versions) all))))

-- an entry of a tree, with the ticket that is out for it
abbrev told : List Ticket → Entry Version → Entry Version
told tickets e = record { version = e.version; value = record e.value { out = out_for tickets e.version.id } }

abbrev all_told : List Ticket → Grown Version → Grown Version
all_told tickets t = record t { entries = map (told tickets) t.entries }

abbrev told_if : List Ticket → Option (Entry Version) → Option (Entry Version)
told_if tickets None = None
told_if tickets (Some e) = Some (told tickets e)

told_at : (tickets : List Ticket) (es : List (Entry Version)) (id : ℕ) → entry_at kin (map (told tickets) es) id ≡ told_if tickets (entry_at kin es id)
told_at tickets [] id = refl
told_at tickets (e ∷ es) id = one (e.version.id == id) (told_at tickets es id)
  where
    one : (b : Bool) → entry_at kin (map (told tickets) es) id ≡ told_if tickets (entry_at kin es id)
        → cond b (Some (told tickets e)) (entry_at kin (map (told tickets) es) id) ≡ told_if tickets (cond b (Some e) (entry_at kin es id))
    one true rest = refl
    one false rest = rest

told_versions : (tickets : List Ticket) (es : List (Entry Version)) → map version_of (map (told tickets) es) ≡ map version_of es
told_versions tickets [] = refl
told_versions tickets (e ∷ es) = ap (λ (vs : List machine.Version). version_of e ∷ vs) (told_versions tickets es)

told_fall : (tickets : List Ticket) (top : ℕ) (es : List (Entry Version)) → FallFrom top es → FallFrom top (map (told tickets) es)
told_fall tickets top [] fall = fall
told_fall tickets top (e ∷ es) fall = (fall.0, told_fall tickets e.version.id es fall.1)

told_is_some : (tickets : List Ticket) (o : Option (Entry Version)) → is_some (told_if tickets o) ≡ is_some o
told_is_some tickets None = refl
told_is_some tickets (Some e) = refl

told_there : (tickets : List Ticket) (es : List (Entry Version)) (parent : Option ℕ) → parent_there kin (map (told tickets) es) parent ≡ parent_there kin es parent
told_there tickets es None = refl
told_there tickets es (Some p) = ap is_some (told_at tickets es p) ∙ told_is_some tickets (entry_at kin es p)

told_rooted : (tickets : List Ticket) (es : List (Entry Version)) → AreRooted es → AreRooted (map (told tickets) es)
told_rooted tickets [] rooted = rooted
told_rooted tickets (e ∷ es) rooted = (told_there tickets es e.version.parent ∙ rooted.0, told_rooted tickets es rooted.1)

told_holds : (q : Plan) (events : List Event) (tickets : List Ticket) (others : List Ticket) (e : Entry Version) → Holds q events others e
    → Holds q events tickets (told tickets e)
told_holds q events tickets others e holds = record {
  first = holds.first;
  plan = holds.plan;
  stands = holds.stands;
  matches = holds.matches;
  copies = holds.copies;
  used = holds.used;
  out = refl;
  groups = holds.groups;
  rising = holds.rising;
}

-- the tree of a core whose versions stay, with the tickets that are out now
tree_kept : (old new : Running) (t : Grown Version) → KeepsVersions old new → IsTreeOf old t → IsTreeOf new (all_told new.machine.tickets t)
tree_kept old new t kept is =
    let tickets = new.machine.tickets in
    let all : All (Holds old.plan old.machine.events tickets) (map (told tickets) t.entries) =
    All-map (Holds old.plan old.machine.events tickets) (told tickets) t.entries
    (λ k d low. told_holds old.plan old.machine.events tickets old.machine.tickets _ (is.holds k d low)) in
    record {
      bound = is.bound ∙ sym kept.bound;
      next = is.next ∙ sym kept.next_id;
      versions = told_versions tickets t.entries ∙ is.versions ∙ sym kept.versions;
      grown = record {
        fall = told_fall tickets t.next t.entries is.grown.fall;
        most = subst (λ (z : ℕ). z ≤ t.bound) (sym (length-map t.entries (told tickets))) is.grown.most;
        rooted = told_rooted tickets t.entries is.grown.rooted;
      };
      holds = subst (λ (z : Plan). All (Holds z new.machine.events tickets) (map (told tickets) t.entries)) (sym kept.plan)
          (subst (λ (z : List Event). All (Holds old.plan z tickets) (map (told tickets) t.entries)) (sym kept.events) all);
    }

groups_told : (tickets : List Ticket) (o : Option (Entry Version)) → groups_of (told_if tickets o) ≡ groups_of o
groups_told tickets None = refl
groups_told tickets (Some e) = refl

taken_told : (tickets : List Ticket) (es : List (Entry Version)) (p : ℕ) (label : List ℕ) → IsTaken es p label → IsTaken (map (told tickets) es) p label
taken_told tickets es p label (id, (e, at, parent, same)) =
    (id, (told tickets e, told_at tickets es id ∙ ap (told_if tickets) at, parent, same))

none_next : (share : ℕ → ℕ → ℕ) (tickets : List Ticket) (es : List (Entry Version)) (p : ℕ) → IsNext es p (candidates_in share es p) None
    → IsNext (map (told tickets) es) p (candidates_in share (map (told tickets) es) p) None
none_next share tickets es p all =
    let groups : groups_of (entry_at kin (map (told tickets) es) p) ≡ groups_of (entry_at kin es p) =
    ap groups_of (told_at tickets es p) ∙ groups_told tickets (entry_at kin es p) in
    subst (λ (z : List ℕ). All (IsTaken (map (told tickets) es) p) (candidates (share p) z)) (sym groups)
    (λ k d low. taken_told tickets es p _ (all k d low))

-- what is wide stays so
pub wide_kept : (share : ℕ → ℕ → ℕ) (n : ℕ) (old new : Running) → KeepsVersions old new → IsWide share n old → IsWide share n new
wide_kept share n old new kept (inl busy) = inl (subst (λ (z : ℕ). n + 1 ≤ z) (sym kept.busy) busy)
wide_kept share n old new kept (inr (inl full)) = inr (inl (ap length kept.versions ∙ full ∙ sym kept.bound))
wide_kept share n old new kept (inr (inr (t, is, none))) =
    let begun : count new.plan new.machine.events ≡ count old.plan old.machine.events = λ i. count (kept.plan i) (kept.events i) in
    inr (inr (
      all_told new.machine.tickets t,
      tree_kept old new t kept is,
      λ p v live low.
          none_next share new.machine.tickets t.entries p
          (none p v (sym (ap (λ (vs : List machine.Version). version_at vs p) kept.versions) ∙ live) (subst (λ (z : ℕ). v.window + 1 ≤ z) begun low)),
    ))
