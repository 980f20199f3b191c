-- A fresh version: where a spawn that is not refused puts it, and what it holds.
use Rattle.std.proofs.Common.{◌≡◌, ℕ, ◌+◌, ◌<◌, ◌≤◌, Bool, true, false, not, ◌||◌, ◌==◌, cond, List, [], ◌∷◌, ◌++◌, map, length, Option, Some, None, is_some, refl, sym, ap, subst, ◌∙◌, arith, find, nat_lt}
use Rattle.std.specs.Option.{option_map}
use Rattle.std.proofs.lemmas.Bool.Decides.{nat_tests}
use Rattle.std.proofs.lemmas.List.Elements.{All-cons}
use Rattle.std.proofs.lemmas.List.Sums.{sum_by-cons}
use Rattle.sp_base.specs.Numbers.{is_among, with_numbers}
use Rattle.sp_plan.specs.declared.event.Event.{Event}
use Rattle.sp_plan.specs.declared.plan.Plan.{Plan}
use Rattle.sp_plan.specs.Same.{SamePlan}
use Rattle.sp_plan.specs.Runs.{State}
use Rattle.sp_plan.specs.Runs as runs
use Rattle.sp_plan.specs.Groups.{used_by_all}
use Rattle.sp_plan.specs.WindowNumbers.{count, first, numbered_window, size}
use Rattle.sp_plan.specs.Windows as spec
use Rattle.sp_window.specs.declared.windows.Window as shown_as
use Rattle.sp_window.specs.Laws as laws
use Rattle.sp_window.specs.Standing.{shown}
use Rattle.sp_match.specs.public.Matching.{Stands}
use Rattle.sp_version.specs.declared.version.Version.{Version}
use Rattle.sp_group.specs.declared.refusal.Refusal.TheVariants as r
use Rattle.sp_group.specs.declared.step.Entry as step
use Rattle.sp_group.specs.declared.step.Step.TheVariants as s
use Rattle.sp_group.specs.Family.{entry_at, parent_there}
use Rattle.sp_group.specs.Rising.{IsLabel}
use Rattle.sp_group.specs.Machine as machine
use Rattle.sp_group.specs.Machine.{Ticket, inner, is_group, is_out, out_for}
use Rattle.sp_group.specs.Refusing.{child_with, id_of, not_open}
use Rattle.sp_group.specs.Effects.{any_spawned, child_spawned, effect, fresh, spawned}
use Rattle.sp_spread.proofs.Hits.{by_spawn}
use Rattle.sp_tree.specs.Grown.{Grown, Entry, AreGrown, CanStand, groups_of, is_open, kin, with_child}
use Rattle.sp_rules.specs.Schedules.{Reached}
use Rattle.sp_core.specs.Holding.{Holding, Holds, IsCore, machine_of, running, unnumbered, version_of}
use Rattle.sp_core.specs.Carrying.{ticket_of}
use Rattle.sp_core.specs.Rooms.{entries_owed}
use Rattle.sp_core.specs.Running.{once, refused}
use Rattle.sp_core.specs.Spawning.{spawned_window, window_behind}
use Rattle.sp_core.proofs.Children.{root_found, no_root, lacks_child, all_pass}
use Rattle.sp_core.proofs.Entries.{found_of_all, version_is}
use Rattle.sp_core.proofs.Journal.{replayed_on}
use Rattle.sp_core.proofs.Newly.{news_on}
use Rattle.sp_core.proofs.Refused.{passes_if, passes_for}
use Rattle.sp_core.proofs.SpawnRefusals.{child_refused, parent_gone}

-- what a spawn keeps that is not refused: the version can stand in the tree, its window is there, and it is put in front of the others
pub record Passes (h : Holding) (parent : Option ℕ) (label : List ℕ) : Type 0 where
  pub stands : CanStand h.tree parent label
  pub there : (1 ≤ spawned_window (machine_of h) parent) × (spawned_window (machine_of h) parent ≤ count h.plan h.events)
  pub does : any_spawned (machine_of h) parent label ≡ spawned (machine_of h) (fresh h.tree.next parent (spawned_window (machine_of h) parent) label)

-- a label that has no first run is empty
no_run : (label : List ℕ) → find (λ _. true) label ≡ None → label ≡ []
no_run [] none = refl
no_run (run ∷ label) none = absurd (cc)

pub passes : (h : Holding) → IsCore h → (parent : Option ℕ) (label : List ℕ) → refused (running h) (s.Spawn parent label) ≡ None → Passes h parent label
passes h core None label is =
    let root = passes_for (id_of (machine.root_in (map version_of h.tree.entries))) r.LabelTaken _ is in
    let window = passes_if (nat_lt (count h.plan h.events) (h.finished + 1)) (r.NoWindow (h.finished + 1)) _ root.1 in
    let run = passes_for (find (λ _. true) label) r.NotOpen None window.1 in
    let none : label ≡ [] = no_run label run.0 in
    let test : nat_lt (count h.plan h.events) (h.finished + 1) ≡ false = window.0 in
    record {
      stands = (no_root h.tree.entries core.grown.rooted (sym (root_found h.tree.entries) ∙ root.0), none);
      there = (omega arith, grind (arith, nat_tests));
      does = ap (λ (l : List ℕ). spawned (machine_of h) (fresh h.tree.next None (h.finished + 1) l)) (sym none);
    }
passes h core (Some p) label is = one (entry_at kin h.tree.entries p) refl
  where
    one : (o : Option (Entry Version)) → entry_at kin h.tree.entries p ≡ o → Passes h (Some p) label
    one None none = absurd (let gone = sym is ∙ parent_gone h p label none in cc)
    one (Some e) at =
        let all = sym (child_refused h p label e at) ∙ is in
        let window = passes_if (nat_lt (count h.plan h.events) (e.value.window + 1)) (r.NoWindow (e.value.window + 1)) _ all in
        let group = passes_for (not_open h.plan (machine_of h) (version_of e) label) r.NotOpen _ window.1 in
        let child = passes_for (child_with (map version_of h.tree.entries) p label) r.LabelTaken _ group.1 in
        let test : nat_lt (count h.plan h.events) (e.value.window + 1) ≡ false = window.0 in
        let found = version_is h.tree.entries p e at in
        let number : spawned_window (machine_of h) (Some p) ≡ e.value.window + 1 = ap window_behind found in
        let holds = found_of_all (Holds h.plan h.events (map ticket_of h.tickets)) h.tree.entries p e core.versions at in
        let open_is : (run : ℕ) → is_open h.tree p run ≡ is_group h.plan (inner h.plan h.events (version_of e)) run =
        λ run. ap (λ (o : Option (Entry Version)). is_among (groups_of o) run) at ∙ holds.groups run in
        let within : e.value.window + 1 ≤ count h.plan h.events = grind (arith, nat_tests) in
        record {
          stands = (ap is_some at, all_pass (is_open h.tree p) label ((λ i. find (λ run. not (open_is run i)) label) ∙ group.0), lacks_child h.tree.entries p label child.0);
          there = (let n = number in omega arith, let n = number in omega arith);
          does = ap (child_spawned (machine_of h) p label) found ∙ ap (λ (n : ℕ). spawned (machine_of h) (fresh h.tree.next (Some p) n label)) (sym number);
        }

-- what is shown of the window of a spawn that is not refused: it is there, and begins where the window does
pub record Opens (h : Holding) (parent : Option ℕ) (o : Option shown_as.Window) : Type 0 where
  pub there : o ≡ None → ⊥
  pub first : (w : shown_as.Window) → o ≡ Some w → w.first ≡ first h.plan h.events (spawned_window (machine_of h) parent)

pub opens : (h : Holding) → IsCore h → Reached h.plan h.tree.bound (machine_of h) → (parent : Option ℕ) {label : List ℕ} → Passes h parent label
    → (number : ℕ) → spawned_window (machine_of h) parent ≡ number → laws.Holds h.plan → (o : Option shown_as.Window)
    → o ≡ option_map shown (numbered_window h.windows.plan h.events h.ended number) → Opens h parent o
opens h core reached parent pass number is law o got = record {
  there = λ none. let f : None ≡ Some (shown at.0) = sym none ∙ own in absurd (cc);
  first = λ w some. let f : Some w ≡ Some (shown at.0) = sym some ∙ own in let same : w ≡ shown at.0 = cc in ap (λ (x : shown_as.Window). x.first) same ∙ at.2;
}
  where
    m : ℕ
    m = spawned_window (machine_of h) parent

    at : (x : spec.Window) × (numbered_window h.plan h.events h.ended m ≡ Some x) × (x.first ≡ first h.plan h.events m) × (x.last + 1 ≡ first h.plan h.events m + size h.plan h.events m)
    at = law.there h.events m (record { good = reached.kept.sane.good; low = pass.there.0; high = pass.there.1 }) h.ended

    own : o ≡ Some (shown at.0)
    own = got ∙ (λ i. option_map shown (numbered_window (core.windows_plan i) h.events h.ended (sym is i))) ∙ ap (option_map shown) at.1

-- a version that has read nothing of a window
pub record IsFresh (q : Plan) (events : List Event) (number : ℕ) (v : Version) : Type 0 where
  pub window : v.window ≡ number
  pub first : v.first ≡ first q events number
  pub position : v.position ≡ 0
  pub skipped : v.skipped.list ≡ []
  pub plan : SamePlan v.matcher.plan q
  pub none : v.matcher.open_runs ≡ []
  pub started : v.matcher.started ≡ 0
  pub matches : v.matches.items ≡ []
  pub copies : v.copies.items ≡ []
  pub used : v.used.list ≡ []
  pub done : v.done ≡ false
  pub out : v.out ≡ None

-- the entry of a fresh version
abbrev pub entry_of : ℕ → Option ℕ → List ℕ → Version → Entry Version
entry_of id parent label v = record { version = record { id = id; parent = parent; label = label; groups = [] }; value = v }

pub fresh_is : (q : Plan) (events : List Event) (number : ℕ) (v : Version) (id : ℕ) (parent : Option ℕ) (label : List ℕ) → IsFresh q events number v
    → version_of (entry_of id parent label v) ≡ fresh id parent number label
fresh_is q events number v id parent label f =
    λ i. record { id = id; parent = parent; window = f.window i; label = label; position = f.position i; skipped = f.skipped i; done = f.done i }

-- it holds what its runs come to: nothing
pub holds_fresh : (q : Plan) (events : List Event) (tickets : List Ticket) (number : ℕ) (v : Version) (id : ℕ) (parent : Option ℕ) (label : List ℕ) → IsFresh q events number v
    → out_for tickets id ≡ None → Holds q events tickets (entry_of id parent label v)
holds_fresh q events tickets number v id parent label f out =
    let none : inner q events (version_of (entry_of id parent label v)) ≡ runs.fresh = ap (inner q events) (fresh_is q events number v id parent label f) in
    record {
      first = f.first ∙ ap (first q events) (sym f.window);
      plan = f.plan;
      stands = subst (λ (t : State). Stands v.matcher t) (sym none) (record { open_is = f.none; started_is = f.started });
      matches = f.matches ∙ sym (ap (unnumbered q v.window) none);
      copies = f.copies ∙ sym (ap (unnumbered q v.window) none);
      used = f.used ∙ sym (ap (λ (t : State). with_numbers [] (used_by_all q t)) none);
      out = f.out ∙ sym out;
      groups = λ run. sym (ap (λ (t : State). is_group q t run) none);
      rising = λ k within. absurd (omega arith);
    }

-- no ticket's number where none is out
pub not_out : (ts : List Ticket) (id : ℕ) → is_out ts id ≡ false → out_for ts id ≡ None
not_out [] id none = refl
not_out (t ∷ ts) id none = one (not_out ts id) (t.version == id) none
  where
    one : (is_out ts id ≡ false → out_for ts id ≡ None) → (b : Bool) → (b || is_out ts id) ≡ false → cond b (Some t.number) (out_for ts id) ≡ None
    one rest true none = absurd (cc)
    one rest false none = rest none

-- the tree is one with a version more
pub grown_with : (t : Grown Version) (parent : Option ℕ) (label : List ℕ) (v : Version) → AreGrown t → CanStand t parent label → length t.entries < t.bound
    → AreGrown (with_child t parent label v)
grown_with t parent label v grown stands room = record {
  fall = (omega arith, grown.fall);
  most = omega arith;
  rooted = (there parent stands, grown.rooted);
}
  where
    there : (parent : Option ℕ) → CanStand t parent label → parent_there kin t.entries parent ≡ true
    there None stands = refl
    there (Some p) stands = stands.0

-- what a core keeps with a fresh version more
abbrev pub with_fresh : Holding → Option ℕ → List ℕ → Version → List step.Entry → ℕ → Holding
with_fresh h parent label v journal room = record h { tree = with_child h.tree parent label v; journal = journal; journal_room = room }

-- the machine's step
pub spawn_does : (h : Holding) (parent : Option ℕ) (label : List ℕ) (v : Version) (journal : List step.Entry) (room : ℕ) → Passes h parent label
    → IsFresh h.plan h.events (spawned_window (machine_of h) parent) v
    → machine_of (with_fresh h parent label v journal room) ≡ effect h.plan (machine_of h) (s.Spawn parent label)
spawn_does h parent label v journal room pass f =
    ap (spawned (machine_of h)) (fresh_is h.plan h.events (spawned_window (machine_of h) parent) v h.tree.next parent label f) ∙ sym pass.does

-- a core with a fresh version more keeps what every core keeps
pub core_with : (h : Holding) (parent : Option ℕ) (label : List ℕ) (v : Version) (journal : List step.Entry) (room : ℕ) → IsCore h
    → Reached h.plan h.tree.bound (machine_of h) → refused (running h) (s.Spawn parent label) ≡ None → IsLabel label
    → IsFresh h.plan h.events (spawned_window (machine_of h) parent) v → length h.tree.entries < h.tree.bound
    → journal ≡ h.journal ++ once (s.Spawn parent label) ∷ []
    → entries_owed h.ended (entry_of h.tree.next parent label v ∷ h.tree.entries) ≤ room
    → IsCore (with_fresh h parent label v journal room)
core_with h parent label v journal room core reached is fits f live entered owed =
    let pass = passes h core parent label is in
    let k = with_fresh h parent label v journal room in
    let e = entry_of h.tree.next parent label v in
    let tickets = map ticket_of h.tickets in
    let none = not_out tickets h.tree.next (reached.kept.sane.unborn h.tree.next (omega arith)) in
    record {
      compiled = core.compiled;
      known_are = core.known_are;
      some = core.some;
      most = core.most;
      windows_plan = core.windows_plan;
      windows = core.windows;
      grown = grown_with h.tree parent label v core.grown pass.stands live;
      versions = All-cons (Holds h.plan h.events tickets) e h.tree.entries
          (holds_fresh h.plan h.events tickets (spawned_window (machine_of h) parent) v h.tree.next parent label f none) core.versions;
      replayed = replayed_on h k (s.Spawn parent label) core.replayed refl refl entered fits is (spawn_does h parent label v journal room pass f) (omega arith) (omega arith);
      news_are = news_on h (machine_of k) (effect h.plan (machine_of h) (s.Spawn parent label)) core.news_are (spawn_does h parent label v journal room pass f)
          (by_spawn h.plan (machine_of h) parent label reached.kept.sane);
      rooms = record {
        entries = owed;
        matches = let more = sum_by-cons (λ n. n) (length v.copies.items) (map (λ x. length x.value.copies.items) h.tree.entries) in
            let no = ap length f.copies in let old = core.rooms.matches in omega arith;
        numbers = let more = sum_by-cons (λ n. n) (length v.used.list) (map (λ x. length x.value.used.list) h.tree.entries) in
            let no = ap length f.used in let old = core.rooms.numbers in omega arith;
      };
    }
