-- A core after a piece came home is what the machine makes of it.
use Rattle.std.proofs.Common.{◌≡◌, ◌⊎◌, inl, inr, ℕ, zero, suc, ◌+◌, ◌*◌, ◌<◌, ◌≤◌, Bool, true, false, cond, ◌&&◌, ◌||◌, ◌==◌, nat_le, nat_lt, List, [], ◌∷◌, ◌++◌, filter, length, map, Option, Some, None, refl, sym, ap, subst, ◌∙◌, arith, get_or}
use Rattle.std.specs.Prelude.{IfSome}
use Rattle.std.specs.List.{All, flat_map, remove, sum}
use Rattle.std.specs.List.Sorted.{IsStrictlyIncreasing}
use Rattle.std.proofs.lemmas.Bool.Decides.{nat_tests}
use Rattle.std.proofs.lemmas.List.{append_assoc, length-append, length-map}
use Rattle.std.proofs.lemmas.List.Elements.{All-map}
use Rattle.std.proofs.lemmas.Option.{slice_get_within}
use Rattle.sp_base.specs.Limits.{live_limit}
use Rattle.sp_base.specs.Numbers.{NumberList, is_among, with_numbers}
use Rattle.sp_plan.specs.declared.event.Event.{Event}
use Rattle.sp_plan.specs.declared.found.Match.{Match}
use Rattle.sp_plan.specs.declared.plan.Plan.{Plan}
use Rattle.sp_plan.specs.Groups.{used_by_all}
use Rattle.sp_plan.specs.Runs.{Started, State, used}
use Rattle.sp_plan.specs.WindowNumbers.{first}
use Rattle.sp_match.specs.public.Laws.{completion}
use Rattle.sp_match.specs.public.Matching.{Stands}
use Rattle.sp_piece.specs.Pieced.{Pieced}
use Rattle.sp_version.specs.declared.version.Version.{Version}
use Rattle.sp_group.specs.declared.step.Entry as step
use Rattle.sp_group.specs.declared.step.Step.TheVariants as s
use Rattle.sp_group.specs.Deciding.{foresaw_all, others_than}
use Rattle.sp_group.specs.Effects.{after_reading, home, is_newly_spent, without}
use Rattle.sp_group.specs.Family.{entry_at, is_parent, prune}
use Rattle.sp_group.specs.Machine as machine
use Rattle.sp_group.specs.Machine.{Machine, Ticket, inner, is_group, out_for, ticket_at}
use Rattle.sp_group.specs.Steps.{step, steps}
use Rattle.sp_rules.specs.ByGroups.{AreToDecide, IsByGroups, ended, grouped, outcome_in, using_runs}
use Rattle.sp_rules.specs.Returning.{IsReadAndReturned, read_to, readings, reads_and_return}
use Rattle.sp_rules.specs.Schedules.{Fits}
use Rattle.sp_tree.specs.Version as branch
use Rattle.sp_tree.specs.Decided.{rule_of}
use Rattle.sp_tree.specs.Grown.{AreGrown, Entry, Grown, kin, lifted, pruned, with_version}
use Rattle.sp_core.specs.declared.homecoming.Brought.{Brought}
use Rattle.sp_core.specs.declared.given.Given.TheVariants as g
use Rattle.sp_core.specs.declared.lent.Lent.{Lent}
use Rattle.sp_core.specs.declared.news.News.{News}
use Rattle.sp_core.specs.Carrying.{ticket_of}
use Rattle.sp_core.specs.Holding.{Holding, Holds, IsCore, machine_of, running, unnumbered, version_of}
use Rattle.sp_core.specs.News.{AreNew, is_new}
use Rattle.sp_core.specs.Homecoming.{IsBrought, IsTakenUp, completions, ended_in, is_grouped, outcome_of, spent_run, unnumbered_told, used_told}
use Rattle.sp_core.specs.Returning.{IsGiven, IsPlaceOf, after_return, reading_entries}
use Rattle.sp_core.specs.Rooms.{matches_held, numbers_held}
use Rattle.sp_core.specs.Running.{Running, flat, once}
use Rattle.sp_core.specs.Settling.{HomeLaws, IsFrom, IsSettled, with_settled}
use Rattle.sp_core.proofs.Coming.{Coming, adds, before, comes, completed_now, grouped_now, has_before, has_now, held, id_is, live_here, local_is, now, plan_now, reached_is, stands_now, version_home}
use Rattle.sp_core.proofs.Deciding.{ended_alike, foresaw_alike, versions_decided}
use Rattle.sp_core.proofs.Journal.{replayed_by}
use Rattle.sp_core.proofs.Newly.{news_home}
use Rattle.sp_core.proofs.Later.{length_numbers, numbers_more, spent_are, unnumbered_are, unnumbered_more, used_are}
use Rattle.sp_core.proofs.Owed.{owed_most}
use Rattle.sp_core.proofs.Owner.{only_one, settled, settled_are, settled_if, sum_settled}
use Rattle.sp_core.proofs.Pruning.{all_pruned, length_pruned, sum_pruned}
use Rattle.sp_core.proofs.TicketsLeft.{left_without, none_out, same_out}

or_first : (a b c d : Bool) → d ≡ ((a || b) || c) → a ≡ true → d ≡ true
or_first true b c d is h = is
or_first false b c d is h = absurd (cc)

or_second : (a b c d : Bool) → d ≡ ((a || b) || c) → b ≡ true → d ≡ true
or_second true b c d is h = is
or_second false true c d is h = is
or_second false false c d is h = absurd (cc)

or_third : (a b c d : Bool) → d ≡ ((a || b) || c) → c ≡ true → d ≡ true
or_third true b c d is h = is
or_third false true c d is h = is
or_third false false true d is h = is
or_third false false false d is h = absurd (cc)

or_one : (a b c d : Bool) → d ≡ ((a || b) || c) → d ≡ true → (a ≡ true) ⊎ (b ≡ true) ⊎ (c ≡ true)
or_one true b c d is h = inl refl
or_one false true c d is h = inr (inl refl)
or_one false false c d is h = inr (inr (sym is ∙ h))

differ : (x y : ℕ) → (x == y) ≡ false → x ≡ y → ⊥
differ x y is same = absurd (grind (arith, nat_tests))

alike : (x y : ℕ) → (x == y) ≡ true → x ≡ y
alike x y is = grind (arith, nat_tests)

-- the steps of a ticket's readings and its return, as entries of a journal
flat_return : (n times : ℕ) → flat (reading_entries n times ++ once (s.Return n) ∷ []) ≡ reads_and_return n times
flat_return n zero = refl
flat_return n (suc times) = refl

fits_return : (q : Plan) (bound : ℕ) (m : Machine) (n times : ℕ) → Fits q bound m (reads_and_return n times)
fits_return q bound m n zero = (tt, tt)
fits_return q bound m n (suc times) = (tt, fits_return q bound (step q bound m (s.Event n)) n times)

-- the length of a journal does not shrink
no_shorter : {A : Type 0} (xs ys : List A) → length xs ≤ length (xs ++ ys)
no_shorter xs ys = let both = length-append xs ys in omega arith

-- a version holds the same under another label
relabelled : (q : Plan) (events : List Event) (ts : List Ticket) (x : Entry Version) (label : List ℕ) → Holds q events ts x
    → Holds q events ts (record x { version = record x.version { label = label } })
relabelled q events ts x label holds = record {
  first = holds.first;
  plan = holds.plan;
  stands = holds.stands;
  matches = holds.matches;
  copies = holds.copies;
  used = holds.used;
  out = holds.out;
  groups = holds.groups;
  rising = holds.rising;
}

-- The version of a piece has taken it up, and its ended groups are decided.
module _ (laws : HomeLaws) (h : Holding) (p : Pieced) (a : Coming h p) (b : Brought) (from : IsFrom h.tree p b) (tree : Grown Version) (set : IsSettled h.tree p b tree) where
  abbrev value : Version
  value = set.value

  abbrev n : ℕ
  n = p.job.ticket

  abbrev e : Entry Version
  e = a.entry

  abbrev ts : List Ticket
  ts = map ticket_of h.tickets

  abbrev old : State
  old = before laws h p a

  abbrev new : State
  new = now laws h p a

  abbrev at_home : machine.Version
  at_home = version_home laws h p a

  same_entry : set.entry ≡ e
  same_entry = let same : Some set.entry ≡ Some e = sym set.live ∙ live_here laws h p a in cc

  taken : IsTakenUp e.value p b value
  taken = subst (λ (x : Entry Version). IsTakenUp x.value p b value) same_entry set.taken

  brought : IsBrought e.value.window e.version.groups from.after from.moves b
  brought = from.brought e (live_here laws h p a)

  done : completions from.moves ≡ map (completion h.plan) (adds laws h p a).later
  done = completed_now laws h p a from.moves from.tells

  completed_is : b.completed.items ≡ using_runs h.plan (adds laws h p a).later
  completed_is = brought.completed ∙ ap (flat_map spent_run) done ∙ spent_are h.plan (adds laws h p a).later

  newly : (r : ℕ) → is_newly_spent h.plan old new r ≡ is_among b.completed.items r
  newly r = (adds laws h p a).spent r ∙ ap (λ (rs : List ℕ). is_among rs r) (sym completed_is)

  members : (r : ℕ) → is_among b.groups r ≡ ((is_group h.plan old r || is_group h.plan new r) || is_newly_spent h.plan old new r)
  members r =
      brought.groups_are r
      ∙ ap (λ x. (x || is_grouped from.after r) || is_among b.completed.items r) ((held laws h p a).groups r)
      ∙ ap (λ x. (is_group h.plan old r || x) || is_among b.completed.items r) (grouped_now laws h p a from.after from.led r)
      ∙ ap (λ x. (is_group h.plan old r || is_group h.plan new r) || x) (sym (newly r))

  to_decide : AreToDecide h.plan old new b.groups
  to_decide = record {
    rising = from.rising;
    before = λ r. or_first (is_group h.plan old r) (is_group h.plan new r) (is_newly_spent h.plan old new r) (is_among b.groups r) (members r);
    after = λ r. or_second (is_group h.plan old r) (is_group h.plan new r) (is_newly_spent h.plan old new r) (is_among b.groups r) (members r);
    spent = λ r. or_third (is_group h.plan old r) (is_group h.plan new r) (is_newly_spent h.plan old new r) (is_among b.groups r) (members r);
    only = λ r. or_one (is_group h.plan old r) (is_group h.plan new r) (is_newly_spent h.plan old new r) (is_among b.groups r) (members r);
  }

  by_groups : IsByGroups h.plan (machine_of h) (version_of e) at_home old new b.groups
  by_groups = laws.groups h.plan (machine_of h) n a.ticket (version_of e) p.read p.closed b.groups a.core.compiled (comes laws h p a) to_decide

  abbrev over : List ℕ
  over = ended h.plan new b.groups

  over_is : ended_in value.matcher b.groups ≡ over
  over_is = ended_alike h.plan new value.matcher b.groups (grouped_now laws h p a value.matcher taken.matcher)

  foreseen : (label : List ℕ) → foresaw_all (outcome_of b.completed.items) over label ≡ foresaw_all (outcome_in h.plan new) over label
  foreseen =
      foresaw_alike (laws.lawful h.plan a.core.compiled).runs.open_unmatched h.plan old new (has_before laws h p a).sound b.groups b.completed.items to_decide newly

  -- what the version is to the machine
  new_is : version_of (settled b.groups value e) ≡ at_home
  new_is =
      let x = version_of e in
      let cut = λ (first : ℕ) (snapshot : List ℕ). with_numbers x.skipped (filter (λ i. nat_lt i (first + p.read)) snapshot) in
      let v : ℕ → ℕ → List ℕ → Bool → machine.Version =
      λ w position skipped done. record { id = x.id; parent = x.parent; window = w; label = x.label; position = position; skipped = skipped; done = done } in
      ap (λ w. v w value.position value.skipped.list value.done) taken.window
      ∙ ap (λ at. v x.window at value.skipped.list value.done) taken.position
      ∙ ap (λ ns. v x.window (x.position + p.read) ns value.done) (taken.skipped ∙ ap (λ first. cut first p.job.snapshot.list) a.carries.first ∙ ap (cut a.ticket.first) a.carries.snapshot)
      ∙ ap (v x.window (x.position + p.read) (cut a.ticket.first a.ticket.snapshot)) taken.done

  abbrev rule : Entry Version → Option (Entry Version)
  rule = lifted (rule_of e.version.id (outcome_of b.completed.items) over)

  abbrev entries : List (Entry Version)
  entries = map (settled_if e.version.id b.groups value) h.tree.entries

  -- the tree, by the version's own id
  tree_is : tree ≡ record h.tree { entries = prune kin rule entries }
  tree_is =
      set.tree
      ∙ ap (λ (runs : List ℕ). pruned (rule_of p.job.version (outcome_of b.completed.items) runs) (with_settled h.tree p.job.version value b.groups)) over_is
      ∙ ap (λ (id : ℕ). pruned (rule_of id (outcome_of b.completed.items) over) (with_settled h.tree id value b.groups)) (a.carries.version ∙ sym (id_is laws h p a))
      ∙ ap (λ (es : List (Entry Version)). let t : Grown Version = record h.tree { entries = prune kin rule es } in t)
      (settled_are e.version.id b.groups value h.tree.next h.tree.entries a.core.grown.fall)

  live_own : entry_at kin h.tree.entries e.version.id ≡ Some e
  live_own = ap (entry_at kin h.tree.entries) (id_is laws h p a) ∙ a.live

  only : All (λ x. x.version.id ≡ e.version.id → x ≡ e) h.tree.entries
  only = only_one e.version.id h.tree.next h.tree.entries e a.core.grown.fall live_own

  versions_are : map version_of tree.entries ≡ prune machine.kin (after_reading h.plan e.version.id at_home old new) (map version_of h.tree.entries)
  versions_are =
      ap (λ (t : Grown Version). map version_of t.entries) tree_is
      ∙ versions_decided e at_home b.groups value (outcome_of b.completed.items) (outcome_in h.plan new) over foreseen new_is h.tree.entries only
      ∙ by_groups.versions

  -- what each entry holds
  stands_here : Stands value.matcher new
  stands_here = stands_now laws h p a value.matcher taken.matcher

  groups_left : others_than over b.groups ≡ grouped h.plan new
  groups_left = by_groups.keeps

  unnumbered_here : (ms : List Match) → ms ≡ unnumbered h.plan e.value.window old → (more : List Match) → more ≡ map (unnumbered_told e.value.window) (completions from.moves)
      → ms ++ more ≡ unnumbered h.plan value.window new
  unnumbered_here ms were more are =
      let w = e.value.window in
      let later = (adds laws h p a).later in
      ap (λ (xs : List Match). xs ++ more) were
      ∙ ap (λ (xs : List Match). unnumbered h.plan w old ++ xs) (are ∙ ap (map (unnumbered_told w)) done ∙ unnumbered_are h.plan w later)
      ∙ sym (unnumbered_more h.plan w old new later (adds laws h p a).matched)
      ∙ ap (λ (x : ℕ). unnumbered h.plan x new) (sym taken.window)

  used_here : value.used.list ≡ with_numbers [] (used_by_all h.plan new)
  used_here =
      let later = (adds laws h p a).later in
      taken.used
      ∙ ap (λ ns. with_numbers ns b.used.list) (held laws h p a).used
      ∙ ap (with_numbers (with_numbers [] (used_by_all h.plan old))) (brought.used ∙ ap (λ told. with_numbers [] (flat_map used_told told)) done ∙ ap (with_numbers []) (used_are h.plan later))
      ∙ numbers_more laws.rising (used_by_all h.plan old) (flat_map (used h.plan) (map (λ (run : Started). run.1) later))
      ∙ ap (with_numbers []) (sym (adds laws h p a).used)

  none_for : out_for (without n ts) e.version.id ≡ None
  none_for =
      none_out ts n e.version.id (reached_is laws h p a).kept.sane.newest_first
      (λ m u at of. (local_is laws h p a).only m n u a.ticket at a.out of (sym (id_is laws h p a)))

  runs_here : inner h.plan h.events (version_of (settled (others_than over b.groups) value e)) ≡ new
  runs_here = ap (inner h.plan h.events) new_is

  beside : (x : Entry Version) → Holds h.plan h.events ts x → ¬ (x.version.id ≡ e.version.id) → Holds h.plan h.events (without n ts) x
  beside x holds other = record {
    first = holds.first;
    plan = holds.plan;
    stands = holds.stands;
    matches = holds.matches;
    copies = holds.copies;
    used = holds.used;
    out = holds.out ∙ sym (same_out ts n x.version.id (reached_is laws h p a).kept.sane.newest_first (λ u at of. other (apart u at of)));
    groups = holds.groups;
    rising = holds.rising;
  }
    where
      apart : (u : Ticket) → ticket_at ts n ≡ Some u → u.version ≡ x.version.id → x.version.id ≡ e.version.id
      apart u at of =
          let found : Some u ≡ Some a.ticket = sym at ∙ a.out in
          let same : u ≡ a.ticket = cc in
          sym of ∙ ap (λ (t : Ticket). t.version) same ∙ sym (id_is laws h p a)

  holds_owner : Holds h.plan h.events (without n ts) (settled (others_than over b.groups) value e)
  holds_owner = record {
    first = taken.first ∙ (held laws h p a).first ∙ ap (first h.plan h.events) (sym taken.window);
    plan = plan_now laws h p a value.matcher taken.matcher;
    stands = subst (Stands value.matcher) (sym runs_here) stands_here;
    matches = taken.matches ∙ unnumbered_here e.value.matches.items (held laws h p a).matches b.matches.items brought.matches ∙ ap (unnumbered h.plan value.window) (sym runs_here);
    copies = taken.copies ∙ unnumbered_here e.value.copies.items (held laws h p a).copies b.copies.items brought.copies ∙ ap (unnumbered h.plan value.window) (sym runs_here);
    used = used_here ∙ ap (λ x. with_numbers [] (used_by_all h.plan x)) (sym runs_here);
    out = taken.out ∙ sym none_for;
    groups = λ r. ap (λ ns. is_among ns r) groups_left ∙ (has_now laws h p a).groups.are r ∙ ap (λ x. is_group h.plan x r) (sym runs_here);
    rising = subst IsStrictlyIncreasing (sym groups_left) (has_now laws h p a).groups.label.rising;
  }

  -- of an entry it is said that it is the owner's as it was set, or holds what it did
  abbrev Comes : Entry Version → Type 0
  Comes x = (x.version.id ≡ e.version.id → x ≡ settled b.groups value e) × (¬ (x.version.id ≡ e.version.id) → Holds h.plan h.events (without n ts) x)

  comes_if : (x : Entry Version) → Holds h.plan h.events ts x → (x.version.id ≡ e.version.id → x ≡ e) → Comes (settled_if e.version.id b.groups value x)
  comes_if x holds own = one (x.version.id == e.version.id) refl
    where
      one : (c : Bool) → (x.version.id == e.version.id) ≡ c → Comes (cond c (settled b.groups value x) x)
      one true is =
          let same = alike x.version.id e.version.id is in
          (λ _. ap (settled b.groups value) (own same), λ other. absurd (other same))
      one false is =
          let other = differ x.version.id e.version.id is in
          (λ same. absurd (other same), λ _. beside x holds other)

  all_come : All Comes entries
  all_come =
      All-map Comes (settled_if e.version.id b.groups value) h.tree.entries
      (λ k d l. comes_if (get_or h.tree.entries k d) (a.core.versions k d l) (only k d l))

  after_rule : (x z : Entry Version) → rule x ≡ Some z → Comes x → Holds h.plan h.events (without n ts) z
  after_rule x z is told = one (x.version.id == e.version.id) refl is
    where
      child : (c : Bool) → Holds h.plan h.events (without n ts) x
          → with_version x.value (cond c (Some (record x.version { label = others_than over x.version.label })) None) ≡ Some z → Holds h.plan h.events (without n ts) z
      child true holds is =
          let same : record x { version = record x.version { label = others_than over x.version.label } } ≡ z = cc in
          subst (Holds h.plan h.events (without n ts)) same (relabelled h.plan h.events (without n ts) x (others_than over x.version.label) holds)
      child false holds is = absurd (cc)

      two : (c : Bool) → Holds h.plan h.events (without n ts) x
          → with_version x.value (cond c (cond (foresaw_all (outcome_of b.completed.items) over x.version.label) (Some (record x.version { label = others_than over x.version.label })) None) (Some x.version)) ≡ Some z
          → Holds h.plan h.events (without n ts) z
      two true holds is = child (foresaw_all (outcome_of b.completed.items) over x.version.label) holds is
      two false holds is = let same : x ≡ z = cc in subst (Holds h.plan h.events (without n ts)) same holds

      one : (c : Bool) → (x.version.id == e.version.id) ≡ c
          → with_version x.value (cond c (Some (record x.version { groups = others_than over x.version.groups })) (cond (is_parent e.version.id x.version.parent)
          (cond (foresaw_all (outcome_of b.completed.items) over x.version.label) (Some (record x.version { label = others_than over x.version.label })) None) (Some x.version))) ≡ Some z
          → Holds h.plan h.events (without n ts) z
      one true own is =
          let here = told.0 (alike x.version.id e.version.id own) in
          let same : record x { version = record x.version { groups = others_than over x.version.groups } } ≡ z = cc in
          subst (Holds h.plan h.events (without n ts))
          (ap (λ (y : Entry Version). let u : Entry Version = record y { version = record y.version { groups = others_than over y.version.groups } } in u) (sym here) ∙ same) holds_owner
      one false other is = two (is_parent e.version.id x.version.parent) (told.1 (differ x.version.id e.version.id other)) is

  pub all_hold : All (Holds h.plan h.events (without n ts)) tree.entries
  all_hold =
      subst (λ (t : Grown Version). All (Holds h.plan h.events (without n ts)) t.entries) (sym tree_is)
      (all_pruned kin rule Comes (Holds h.plan h.events (without n ts)) after_rule entries all_come)

  -- sums over the entries
  value_kept : (x z : Entry Version) → rule x ≡ Some z → z.value ≡ x.value
  value_kept x z is = one (rule_of e.version.id (outcome_of b.completed.items) over x.version) is
    where
      one : (o : Option branch.Version) → with_version x.value o ≡ Some z → z.value ≡ x.value
      one None is = absurd (cc)
      one (Some v) is = let same : record x { version = v } ≡ z = cc in sym (ap (λ (y : Entry Version). y.value) same)

  sum_most : (g : Version → ℕ) (more : ℕ) → g value ≤ g e.value + more → sum (map (λ x. g x.value) tree.entries) ≤ sum (map (λ x. g x.value) h.tree.entries) + more
  sum_most g more is =
      let left = sum_pruned kin rule (λ x. g x.value) (λ x z r. let same = ap g (value_kept x z r) in omega arith) entries in
      let all = sum_settled e.version.id b.groups value (λ x. g x.value) h.tree.next h.tree.entries e a.core.grown.fall live_own in
      let tree = ap (λ (t : Grown Version). sum (map (λ x. g x.value) t.entries)) tree_is in
      omega arith

  pub matches_most : matches_held tree.entries ≤ matches_held h.tree.entries + length b.copies.items
  matches_most = sum_most (λ v. length v.copies.items) (length b.copies.items) (let same = ap length taken.copies in let both = length-append e.value.copies.items b.copies.items in omega arith)

  pub numbers_most : numbers_held tree.entries ≤ numbers_held h.tree.entries + length b.used.list
  numbers_most = sum_most (λ v. length v.used.list) (length b.used.list) (let same = ap length taken.used in let few = length_numbers e.value.used.list b.used.list in omega arith)

  pub length_most : length tree.entries ≤ length h.tree.entries
  length_most =
      let left = length_pruned rule entries in
      let all = length-map h.tree.entries (settled_if e.version.id b.groups value) in
      let tree = ap (λ (t : Grown Version). length t.entries) tree_is in
      omega arith

  -- the ticket goes, and the readings and the return are entered
  returns_is : IsReadAndReturned h.plan h.tree.bound (machine_of h) n a.ticket p.read p.closed
  returns_is = laws.returns h.plan h.tree.bound (machine_of h) n a.ticket p.read p.closed a.out (comes laws h p a).so_far

  module _ (grown : AreGrown tree) (tickets : List Lent) (consumed : NumberList) (journal : List step.Entry) (news : List News) (journal_room emitted_room : ℕ)
      (tickets_are : map ticket_of tickets ≡ without n ts) (consumed_is : consumed.list ≡ h.consumed.list)
      (journal_is : journal ≡ h.journal ++ reading_entries n (readings p.read p.closed) ++ once (s.Return n) ∷ [])
      (heard : (later i : ℕ) → is_new news later i ≡ (is_new h.news later i || (nat_lt e.value.window later && nat_le p.job.first i))) where
    -- the core after the piece came home
    abbrev pub after : Holding
    after = record h {
      tree = tree;
      tickets = tickets;
      consumed = consumed;
      journal = journal;
      news = news;
      journal_room = journal_room;
      emitted_room = emitted_room;
    }

    abbrev versions_then : List machine.Version
    versions_then = prune machine.kin (after_reading h.plan e.version.id at_home old new) (map version_of h.tree.entries)

    abbrev machine_then : Machine
    machine_then = steps h.plan h.tree.bound (machine_of h) (reads_and_return n (readings p.read p.closed))

    home_is : machine_of after ≡ home h.plan (machine_of h) n (read_to a.ticket p.read p.closed) (Some (version_of e))
    home_is =
        let m = machine_of h in
        ap (λ (vs : List machine.Version). record m { versions = vs; tickets = map ticket_of tickets; consumed = consumed.list; next_id = tree.next }) versions_are
        ∙ ap (λ (us : List Ticket). record m { versions = versions_then; tickets = us; consumed = consumed.list; next_id = tree.next }) tickets_are
        ∙ ap (λ (ns : List ℕ). record m { versions = versions_then; tickets = without n ts; consumed = ns; next_id = tree.next }) consumed_is
        ∙ ap (λ (t : Grown Version). record m { versions = versions_then; tickets = without n ts; next_id = t.next }) tree_is

    machine_is : machine_of after ≡ steps h.plan h.tree.bound (machine_of h) (reads_and_return n (readings p.read p.closed))
    machine_is = home_is ∙ sym (ap (home h.plan (machine_of h) n (read_to a.ticket p.read p.closed)) (comes laws h p a).live) ∙ sym returns_is.whole

    bound_is : tree.bound ≡ h.tree.bound
    bound_is = ap (λ (t : Grown Version). t.bound) tree_is

    pub core_home : 2 * length h.tree.entries + 3 ≤ journal_room → matches_held h.tree.entries + length b.copies.items ≤ emitted_room
        → numbers_held h.tree.entries + length b.used.list ≤ consumed.spare → IsCore after
    core_home fits emits consumes =
        let c = a.core in
        let entries = reading_entries n (readings p.read p.closed) ++ once (s.Return n) ∷ [] in
        let longer = ap length journal_is in
        let more = no_shorter (h.journal ++ reading_entries n (readings p.read p.closed)) (once (s.Return n) ∷ []) in
        let some = no_shorter h.journal (reading_entries n (readings p.read p.closed)) in
        let next = ap (λ (t : Grown Version). t.next) tree_is in
        let ids = c.replayed.ids in
        let numbers = c.replayed.tickets in
        record {
          compiled = c.compiled;
          known_are = c.known_are;
          some = subst (λ k. 1 ≤ k) (sym bound_is) c.some;
          most = subst (λ k. k ≤ live_limit) (sym bound_is) c.most;
          windows_plan = c.windows_plan;
          windows = c.windows;
          grown = grown;
          versions = subst (λ (us : List Ticket). All (Holds h.plan h.events us) tree.entries) (sym tickets_are) all_hold;
          replayed = replayed_by h after entries c.replayed refl bound_is (journal_is ∙ append_assoc h.journal (reading_entries n (readings p.read p.closed)) (once (s.Return n) ∷ []))
              (subst (Fits h.plan h.tree.bound (machine_of h)) (sym (flat_return n (readings p.read p.closed))) (fits_return h.plan h.tree.bound (machine_of h) n (readings p.read p.closed)))
              (ap (steps h.plan h.tree.bound (machine_of h)) (flat_return n (readings p.read p.closed)) ∙ sym machine_is) (omega arith) (omega arith);
          news_are = subst (λ (m : Machine). AreNew h.plan m news) (sym home_is) (news_home h.plan (laws.lawful h.plan c.compiled) (machine_of h) n a.ticket (version_of e) p.read p.closed (comes laws h p a)
              h.news news (λ later i. heard later i ∙ ap (λ (f : ℕ). is_new h.news later i || (nat_lt e.value.window later && nat_le f i)) a.carries.first) c.news_are);
          rooms = record {
            entries = let owed = owed_most h.ended tree.entries in let fewer = length_most in omega arith;
            matches = let most = matches_most in omega arith;
            numbers = let most = numbers_most in omega arith;
          };
        }

    pub running_home : running after ≡ after_return (running h) n (readings p.read p.closed)
    running_home =
        ap (λ k. let x : Running = record { plan = h.plan; bound = k; machine = machine_of after; journal = journal } in x) bound_is
        ∙ ap (λ (m : Machine). let x : Running = record { plan = h.plan; bound = h.tree.bound; machine = m; journal = journal } in x) machine_is
        ∙ ap (λ (j : List step.Entry). let x : Running = record { plan = h.plan; bound = h.tree.bound; machine = machine_then; journal = j } in x) journal_is

    pub given_home : IsGiven (running h) (running after) p g.Home
    given_home = (
      a.ticket,
      version_of e,
      record { out = a.out; live = (comes laws h p a).live },
      a.carries,
      running_home,
      record { reading = returns_is.accepts_reads; returning = returns_is.accepts_return },
    )

-- what is heard of a piece, in the words of its version
pub heard_home : (laws : HomeLaws) (h : Holding) (p : Pieced) (a : Coming h p) (window first : ℕ) (earlier news : List News)
    → IfSome (entry_at kin h.tree.entries p.job.version) (λ e. window ≡ e.value.window) → first ≡ p.job.first → earlier ≡ h.news
    → ((later i : ℕ) → is_new news later i ≡ (is_new earlier later i || (nat_lt window later && nat_le first i)))
    → (later i : ℕ) → is_new news later i ≡ (is_new h.news later i || (nat_lt a.entry.value.window later && nat_le p.job.first i))
heard_home laws h p a window first earlier news of is same heard later i =
    let own : window ≡ a.entry.value.window = subst (λ (o : Option (Entry Version)). IfSome o (λ e. window ≡ e.value.window)) (live_here laws h p a) of in
    heard later i
    ∙ ap (λ (ns : List News). is_new ns later i || (nat_lt window later && nat_le first i)) same
    ∙ ap (λ (w : ℕ). is_new h.news later i || (nat_lt w later && nat_le first i)) own
    ∙ ap (λ (f : ℕ). is_new h.news later i || (nat_lt a.entry.value.window later && nat_le f i)) is

-- it is a place among the tickets
pub place_within : (ls : List Lent) (n place : ℕ) → IsPlaceOf (map ticket_of ls) n place → place < length ls
place_within ls n place at = let many = length-map ls ticket_of in let within = slice_get_within (map ticket_of ls) place at.0 at.1 in omega arith

-- What a core promises where a piece comes home, with the matches as they are given.
module _ (laws : HomeLaws) (h : Holding) (p : Pieced) (a : Coming h p) (b : Brought) (from : IsFrom h.tree p b) (tree : Grown Version) (set : IsSettled h.tree p b tree)
    (grown : AreGrown tree) (tickets : List Lent) (emitted : List Match) (consumed : NumberList) (journal : List step.Entry) (news : List News) (journal_room emitted_room : ℕ)
    (place : ℕ) (at : IsPlaceOf (map ticket_of h.tickets) p.job.ticket place) (tickets_are : tickets ≡ remove h.tickets place)
    (emitted_is : emitted ≡ h.emitted) (consumed_is : consumed.list ≡ h.consumed.list)
    (journal_is : journal ≡ h.journal ++ reading_entries p.job.ticket (readings p.read p.closed) ++ once (s.Return p.job.ticket) ∷ [])
    (heard : (later i : ℕ) → is_new news later i ≡ (is_new h.news later i || (nat_lt a.entry.value.window later && nat_le p.job.first i))) where
  abbrev with_matches : List Match → Holding
  with_matches ms = record h {
    tree = tree;
    tickets = tickets;
    emitted = ms;
    consumed = consumed;
    journal = journal;
    news = news;
    journal_room = journal_room;
    emitted_room = emitted_room;
  }

  left_are : map ticket_of tickets ≡ without p.job.ticket (map ticket_of h.tickets)
  left_are = ap (map ticket_of) tickets_are ∙ left_without h.tickets p.job.ticket place (reached_is laws h p a).kept.sane.newest_first at

  pub core_comes : 2 * length h.tree.entries + 3 ≤ journal_room → matches_held h.tree.entries + length b.copies.items ≤ emitted_room
      → numbers_held h.tree.entries + length b.used.list ≤ consumed.spare → IsCore (with_matches emitted)
  core_comes fits emits consumes =
      subst (λ (ms : List Match). IsCore (with_matches ms)) (sym emitted_is)
      (core_home laws h p a b from tree set grown tickets consumed journal news journal_room emitted_room left_are consumed_is journal_is heard fits emits consumes)

  pub given_comes : (earlier : Running) → running h ≡ earlier → IsGiven earlier (running (with_matches emitted)) p g.Home
  given_comes earlier is =
      subst (λ (x : Running). IsGiven x (running (with_matches emitted)) p g.Home) is
      (subst (λ (ms : List Match). IsGiven (running h) (running (with_matches ms)) p g.Home) (sym emitted_is)
      (given_home laws h p a b from tree set grown tickets consumed journal news journal_room emitted_room left_are consumed_is journal_is heard))
