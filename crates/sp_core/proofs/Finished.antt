-- A core after a finish is what the machine makes of it.
use Rattle.std.proofs.Common.{◌≡◌, ℕ, ◌+◌, ◌<◌, ◌≤◌, Bool, true, false, cond, not, ◌||◌, ◌++◌, ◌∷◌, List, [], length, map, Option, Some, None, is_some, refl, sym, ap, subst, ◌∙◌, arith, rules, eq-eqb, ◌==◌, if◌then◌else◌}
use Rattle.std.specs.Prelude.{IfSome}
use Rattle.std.specs.Global.{Vec}
use Rattle.std.specs.List.{All, sum}
use Rattle.std.specs.List.Sorted.{IsStrictlyIncreasing}
use Rattle.std.proofs.lemmas.Bool.{true≢false}
use Rattle.std.proofs.lemmas.Option.{none-some, same_Some}
use Rattle.sp_base.specs.Limits.{live_limit}
use Rattle.sp_base.proofs.RisingLists.{among_numbers, numbers_rise, union_is}
use Rattle.sp_base.specs.Numbers.{NumberList, RisingSame, is_among, with_numbers}
use Rattle.sp_plan.specs.declared.found.Match.{Match}
use Rattle.sp_plan.specs.Groups.{used_by_all}
use Rattle.sp_plan.specs.Runs.{matched_runs}
use Rattle.sp_plan.specs.Sequential.{seq}
use Rattle.sp_version.specs.declared.version.Version.{Version}
use Rattle.sp_group.specs.declared.refusal.Refusal.TheVariants as r
use Rattle.sp_group.specs.declared.step.Entry as step
use Rattle.sp_group.specs.declared.step.Step.TheVariants as s
use Rattle.sp_group.specs.Effects.{effect, finished_one, new_matches, popped, settled}
use Rattle.sp_spread.proofs.Hits.{NoneHitAnew, by_finish}
use Rattle.sp_rules.proofs.Facts.{facts}
use Rattle.sp_rules.specs.Lawful.{Lawful}
use Rattle.sp_group.specs.Family.{entry_at}
use Rattle.sp_group.specs.Machine as machine
use Rattle.sp_group.specs.Machine.{Machine, inner, is_out}
use Rattle.sp_group.specs.Refusing.{finish_refusal, id_of, refuse_if}
use Rattle.sp_group.specs.Steps.{Finished, finish_answer}
use Rattle.sp_tree.specs.Changes.{promoted}
use Rattle.sp_tree.specs.Grown.{Grown, Entry, AreGrown, groups_of, kin, lifted, pruned, root_in, value_of}
use Rattle.sp_rules.specs.Kept.{Kept, Shape, Stands}
use Rattle.sp_rules.specs.Schedules.{EverySchedule}
use Rattle.sp_core.specs.declared.machine.Core.TheInside.{Inside}
use Rattle.sp_core.specs.Carrying.{ticket_of}
use Rattle.sp_core.specs.Finishing.{IsHandedOut, IsSettled, done_root, heir_conflict, numbered}
use Rattle.sp_core.specs.Holding.{Holding, Holds, IsCore, holding, machine_of, running, unnumbered, version_of}
use Rattle.sp_core.specs.Rooms.{entries_for, is_touched, matches_held, numbers_held, room}
use Rattle.sp_core.specs.Running.{Running, after, once, refused}
use Rattle.sp_core.specs.Suppressing.{conflict_of}
use Rattle.sp_core.proofs.HeirConflict.{versions_then}
use Rattle.sp_core.proofs.Heirs.{CameOf, came_of, idle, orphan, orphaned, other, popped_from}
use Rattle.sp_core.proofs.Journal.{reached, replayed_on}
use Rattle.sp_core.proofs.Newly.{news_on}
use Rattle.sp_core.proofs.Numbering.{numbered_on}
use Rattle.sp_core.proofs.Entries.{found_of_all}
use Rattle.sp_core.proofs.Pruning.{all_pruned, sum_without}
use Rattle.sp_core.proofs.Roots.{Done, done_is, root_id}
use Rattle.sp_core.proofs.Settled.{Settles, settles}

-- the root is of the window behind those that are finished
root_window : (h : Holding) (es : List (Entry Version)) → Shape h.plan (inner h.plan h.events) h.finished (map version_of es) → (id : ℕ) (x : Entry Version)
    → entry_at kin es id ≡ Some x → x.version.parent ≡ None → x.value.window ≡ h.finished + 1
root_window h [] shape id x at top = absurd (none-some x at)
root_window h (e ∷ es) shape id x at top = one (e.version.id == id) at (λ there. root_window h es shape.1 id x there top)
  where
    stands : (z : Entry Version) → e ≡ z → z.version.parent ≡ None → Stands h.plan (inner h.plan h.events) h.finished (map version_of es) (version_of z) None
    stands z is none =
        subst (λ (o : Option ℕ). Stands h.plan (inner h.plan h.events) h.finished (map version_of es) (version_of z) o) none
        (subst (λ (z : Entry Version). Stands h.plan (inner h.plan h.events) h.finished (map version_of es) (version_of z) z.version.parent) is shape.0.stands)

    one : (b : Bool) → cond b (Some e) (entry_at kin es id) ≡ Some x → (entry_at kin es id ≡ Some x → x.value.window ≡ h.finished + 1) → x.value.window ≡ h.finished + 1
    one true at rest = (stands x (same_Some e x at) top).1
    one false at rest = rest at

no_number : (ns : List ℕ) → ((n : ℕ) → is_among ns n ≡ false) → ns ≡ []
no_number [] h = refl
no_number (n ∷ ns) h = absurd (true≢false (sym (ap (λ b. b || is_among ns n) (eq-eqb n n refl)) ∙ h n))

nothing_rises : IsStrictlyIncreasing []
nothing_rises = search rules

some_for : (e : Entry Version) → 1 ≤ entries_for e
some_for e = one (is_touched e.value)
  where
    one : (b : Bool) → 1 ≤ cond b 2 1
    one true = omega arith
    one false = omega arith

goes : (root : ℕ) (e : Entry Version) → e.version.id ≡ root → lifted (promoted root) e ≡ None
goes root e is = let same : (e.version.id == root) ≡ true = eq-eqb e.version.id root is in rw same refl

same_value : (root : ℕ) (x w : Entry Version) → CameOf root x w → w.value ≡ x.value
same_value root x w (orphan n p is) = ap (λ (e : Entry Version). e.value) is
same_value root x w (other n is) = ap (λ (e : Entry Version). e.value) is

-- what the root's matches leave
pub record Handed (h : Holding) (v : Version) (emitted : List Match) (emitted_room : ℕ) (consumed : NumberList) : Type 0 where
  pub emitted_is : emitted ≡ h.emitted ++ numbered (length h.emitted + 1) v.copies.items
  pub left : h.emitted_room ≤ emitted_room + length v.copies.items
  pub members : (i : ℕ) → is_among consumed.list i ≡ (is_among h.consumed.list i || is_among v.used.list i)
  pub rising : IsStrictlyIncreasing consumed.list
  pub spare : h.consumed.spare ≤ consumed.spare + length v.used.list

module _ (law : EverySchedule) (h : Holding) (c : IsCore h) (root window : ℕ) (d : Done h.tree.entries root window) where
  abbrev held_root : Entry Version
  held_root = d.at.entry

  kept : Kept h.plan (machine_of h)
  kept = (reached law h c).kept

  holds : Holds h.plan h.events (map ticket_of h.tickets) held_root
  holds = found_of_all (Holds h.plan h.events (map ticket_of h.tickets)) h.tree.entries root held_root c.versions d.at.is

  window_next : window ≡ h.finished + 1
  window_next = sym d.window_is ∙ root_window h h.tree.entries kept.sane.shape root held_root d.at.is d.at.top

  pub passes : refused (running h) s.Finish ≡ None
  passes = ap (finish_refusal (machine_of h)) d.at.version ∙ ap (λ b. refuse_if (not b) (r.NotDone h.finished) None) d.done

  pub no_group : groups_of (entry_at kin h.tree.entries root) ≡ []
  no_group = ap groups_of d.at.is ∙ no_number held_root.version.groups (λ n. holds.groups n ∙ idle h.plan h.events (version_of held_root) d.done n)

  -- what the others count for, where they count by their values
  rest_of : (g : Version → ℕ) → sum (map (λ (e : Entry Version). g e.value) (popped_from root h.tree.entries)) + g held_root.value ≤ sum (map (λ (e : Entry Version). g e.value) h.tree.entries)
  rest_of g =
      sum_without kin (lifted (promoted root)) (λ (e : Entry Version). g e.value)
      (λ x new is. let same = ap g (same_value root x new (came_of root x new is)) in omega arith) h.tree.entries root held_root d.at.is (goes root held_root d.at.own)

  entries_rest : sum (map entries_for (popped_from root h.tree.entries)) + 1 ≤ sum (map entries_for h.tree.entries)
  entries_rest = let rest = rest_of (λ v. if is_touched v then 2 else 1) in let one = some_for held_root in omega arith

  matches_rest : matches_held (popped_from root h.tree.entries) + length held_root.value.copies.items ≤ matches_held h.tree.entries
  matches_rest = rest_of (λ v. length v.copies.items)

  numbers_rest : numbers_held (popped_from root h.tree.entries) + length held_root.value.used.list ≤ numbers_held h.tree.entries
  numbers_rest = rest_of (λ v. length v.used.list)

  pub matches_room : IfSome (value_of (entry_at kin h.tree.entries root)) (λ v. length v.copies.items ≤ h.emitted_room)
  matches_room =
      subst (λ (o : Option Version). IfSome o (λ v. length v.copies.items ≤ h.emitted_room)) (sym (ap value_of d.at.is))
      (let rest = matches_rest in let room = c.rooms.matches in omega arith)

  pub numbers_room : IfSome (value_of (entry_at kin h.tree.entries root)) (λ v. length v.used.list ≤ h.consumed.spare)
  numbers_room =
      subst (λ (o : Option Version). IfSome o (λ v. length v.used.list ≤ h.consumed.spare)) (sym (ap value_of d.at.is))
      (let rest = numbers_rest in let room = c.rooms.numbers in omega arith)

  pub journal_room : 0 < h.journal_room
  journal_room = let rest = entries_rest in let room = c.rooms.entries in omega arith

  pub consumed_rises : IsStrictlyIncreasing h.consumed.list
  consumed_rises =
      subst IsStrictlyIncreasing (sym kept.sane.consumed) (numbers_rise [] (seq h.plan h.events h.finished).consumed nothing_rises)

  holds_orphaned : (x : Entry Version) → Holds h.plan h.events (map ticket_of h.tickets) x → Holds h.plan h.events (map ticket_of h.tickets) (orphaned x)
  holds_orphaned x p = record {
    first = p.first;
    plan = p.plan;
    stands = p.stands;
    matches = p.matches;
    copies = p.copies;
    used = p.used;
    out = p.out;
    groups = p.groups;
    rising = p.rising;
  }

  holds_came : (x w : Entry Version) → CameOf root x w → Holds h.plan h.events (map ticket_of h.tickets) x → Holds h.plan h.events (map ticket_of h.tickets) w
  holds_came x w (orphan n p is) held = subst (Holds h.plan h.events (map ticket_of h.tickets)) (sym is) (holds_orphaned x held)
  holds_came x w (other n is) held = subst (Holds h.plan h.events (map ticket_of h.tickets)) (sym is) held

  all_rest : All (Holds h.plan h.events (map ticket_of h.tickets)) (popped_from root h.tree.entries)
  all_rest =
      all_pruned kin (lifted (promoted root)) (Holds h.plan h.events (map ticket_of h.tickets)) (Holds h.plan h.events (map ticket_of h.tickets))
      (λ x new is held. holds_came x new (came_of root x new is) held) h.tree.entries c.versions

  numbered_new : (ms : List Match) → ms ≡ unnumbered h.plan held_root.value.window (inner h.plan h.events (version_of held_root))
      → numbered (length h.emitted + 1) ms ≡ new_matches h.plan (machine_of h) (version_of held_root)
  numbered_new ms is =
      ap (numbered (length h.emitted + 1)) is
      ∙ numbered_on h.plan held_root.value.window (length h.emitted + 1) (matched_runs (inner h.plan h.events (version_of held_root)))

  -- the root has gone, and the new one may begin anew
  module _ (rises : RisingSame) (t : Grown Version) (pops : t ≡ pruned (promoted root) h.tree) (grown : AreGrown t) (emitted : List Match) (emitted_room : ℕ)
      (consumed : NumberList) (out : Handed h held_root.value emitted emitted_room consumed) (rolls : Bool)
      (told : rolls ≡ is_some (heir_conflict h.plan (machine_of h) (machine.root_in (machine_of h).versions))) (new : Grown Version)
      (settled_is : IsSettled t (root_in t.entries) rolls new) where
    abbrev without : Holding
    without = record h { finished = window; emitted = emitted; emitted_room = emitted_room; consumed = consumed; tree = t }

    made : ℕ → List Match → List ℕ → List machine.Version → ℕ → Machine
    made finished matches numbers versions next = record (machine_of h) { finished = finished; emitted = matches; consumed = numbers; versions = versions; next_id = next }

    consumed_is : consumed.list ≡ with_numbers h.consumed.list (used_by_all h.plan (inner h.plan h.events (version_of held_root)))
    consumed_is =
        let used = used_by_all h.plan (inner h.plan h.events (version_of held_root)) in
        union_is rises h.consumed.list used consumed.list consumed_rises out.rising
        (λ i. out.members i ∙ ap (λ b. is_among h.consumed.list i || b) (ap (λ (l : List ℕ). is_among l i) holds.used ∙ among_numbers [] used i))

    machine_then : machine_of without ≡ popped h.plan (machine_of h) (version_of held_root)
    unfolding made
    machine_then =
        let matches = h.emitted ++ new_matches h.plan (machine_of h) (version_of held_root) in
        let numbers = with_numbers h.consumed.list (used_by_all h.plan (inner h.plan h.events (version_of held_root))) in
        ap (λ n. made n emitted consumed.list (map version_of t.entries) t.next) window_next
        ∙ ap (λ ms. made (h.finished + 1) ms consumed.list (map version_of t.entries) t.next)
        (out.emitted_is ∙ ap (λ ms. h.emitted ++ ms) (numbered_new held_root.value.copies.items holds.copies))
        ∙ ap (λ ns. made (h.finished + 1) matches ns (map version_of t.entries) t.next) consumed_is
        ∙ ap (λ (g : Grown Version). made (h.finished + 1) matches numbers (map version_of g.entries) g.next) pops
        ∙ ap (λ vs. made (h.finished + 1) matches numbers vs h.tree.next) (sym (versions_then h c kept root window d))

    entries_are : t.entries ≡ popped_from root h.tree.entries
    entries_are = ap (λ (g : Grown Version). g.entries) pops

    free : is_out (map ticket_of h.tickets) t.next ≡ false
    free = kept.sane.unborn t.next (let same = ap (λ (g : Grown Version). g.next) pops in omega arith)

    settled_so : Settles without (subst (All (Holds h.plan h.events (map ticket_of h.tickets))) (sym entries_are) all_rest) free grown new
    settled_so =
        settles without (subst (All (Holds h.plan h.events (map ticket_of h.tickets))) (sym entries_are) all_rest) free grown new rolls
        (told ∙ ap (λ o. is_some (heir_conflict h.plan (machine_of h) o)) d.at.version
        ∙ sym (ap (λ (m : Machine). is_some (conflict_of h.plan m (machine.root_in m.versions))) machine_then))
        settled_is

    does : machine_of (record without { tree = new }) ≡ effect h.plan (machine_of h) s.Finish
    does =
        settled_so.machine_is ∙ ap (λ (m : Machine). settled h.plan m (machine.root_in m.versions)) machine_then
        ∙ sym (ap (finished_one h.plan (machine_of h)) d.at.version)

    -- what the finish answers
    pub answers : (matches : List Match) (answer : Option ℕ) → matches ≡ numbered (length h.emitted + 1) held_root.value.matches.items → answer ≡ root_in new.entries
        → finish_answer h.plan (machine_of h) (machine.root_in (machine_of h).versions) ≡ Finished window matches answer
    answers matches answer is root_is =
        let v = version_of held_root in
        let next = finished_one h.plan (machine_of h) (Some v) in
        let last : id_of (machine.root_in next.versions) ≡ answer =
        ap (λ (m : Machine). id_of (machine.root_in m.versions)) (ap (finished_one h.plan (machine_of h)) (sym d.at.version) ∙ sym does)
        ∙ sym (root_id new.entries) ∙ sym root_is in
        ap (finish_answer h.plan (machine_of h)) d.at.version
        ∙ ap (λ n. Finished n (new_matches h.plan (machine_of h) v) (id_of (machine.root_in next.versions))) d.window_is
        ∙ ap (λ ms. Finished window ms (id_of (machine.root_in next.versions))) (sym (is ∙ numbered_new held_root.value.matches.items holds.matches))
        ∙ ap (λ o. Finished window matches o) last

    module _ (new_grown : AreGrown new) (journal : List step.Entry) (room : ℕ) (entered : journal ≡ h.journal ++ once s.Finish ∷ []) (left : h.journal_room ≤ room + 1) where
      abbrev after_finish : Holding
      after_finish = record without { tree = new; journal = journal; journal_room = room }

      bound_is : new.bound ≡ h.tree.bound
      bound_is = settled_so.bound ∙ ap (λ (g : Grown Version). g.bound) pops

      pub core_finished : Lawful h.plan → IsCore after_finish
      core_finished lawful = record {
        compiled = c.compiled;
        known_are = c.known_are;
        some = subst (λ n. 1 ≤ n) (sym bound_is) c.some;
        most = subst (λ n. n ≤ live_limit) (sym bound_is) c.most;
        windows_plan = c.windows_plan;
        windows = c.windows;
        grown = new_grown;
        versions = settled_so.held;
        replayed = replayed_on h after_finish s.Finish c.replayed refl bound_is entered tt passes does
            (let next = settled_so.next in let same = ap (λ (g : Grown Version). g.next) pops in omega arith) (omega arith);
        news_are = news_on h (machine_of after_finish) (effect h.plan (machine_of h) s.Finish) c.news_are does
            (subst (λ (o : Option machine.Version). NoneHitAnew h.plan (machine_of h) (finished_one h.plan (machine_of h) o)) (sym d.at.version)
            (by_finish h.plan (facts h.plan lawful) (machine_of h) (version_of held_root) d.at.version d.done kept));
        rooms = record {
          entries = let less = settled_so.entries in let same = ap (λ es. sum (map entries_for es)) entries_are in let rest = entries_rest in
              let owed = c.rooms.entries in omega arith;
          matches = let less = settled_so.matches in let same = ap matches_held entries_are in let rest = matches_rest in
              let owed = c.rooms.matches in let left = out.left in omega arith;
          numbers = let less = settled_so.numbers in let same = ap numbers_held entries_are in let rest = numbers_rest in
              let owed = c.rooms.numbers in let left = out.spare in omega arith;
        };
      }

      pub running_finished : running after_finish ≡ after (running h) s.Finish
      running_finished =
          ap (λ n. let x : Running = record { plan = h.plan; bound = n; machine = machine_of after_finish; journal = journal } in x) bound_is
          ∙ ap (λ (m : Machine). let x : Running = record { plan = h.plan; bound = h.tree.bound; machine = m; journal = journal } in x) does
          ∙ ap (λ (j : List step.Entry). let x : Running = record { plan = h.plan; bound = h.tree.bound; machine = effect h.plan (machine_of h) s.Finish; journal = j } in x) entered

-- the root that a core tells of, and the conflict of its child
pub done_seen : (h : Holding) → IsCore h → (now : Running) (root window : ℕ) (told : Option (ℕ × ℕ)) → running h ≡ now → told ≡ done_root (machine.root_in now.machine.versions)
    → told ≡ Some (root, window) → Done h.tree.entries root window
done_seen h c now root window told same is some =
    done_is h.tree root window c.grown
    (ap (λ (x : Running). done_root (machine.root_in x.machine.versions)) same ∙ sym is ∙ some)

pub heir_seen : (h : Holding) (now : Running) (told : Option ℕ) (rolls : Bool) → running h ≡ now → told ≡ heir_conflict now.plan now.machine (machine.root_in now.machine.versions)
    → rolls ≡ is_some told → rolls ≡ is_some (heir_conflict h.plan (machine_of h) (machine.root_in (machine_of h).versions))
heir_seen h now told rolls same is some =
    some ∙ ap is_some is ∙ ap (λ (x : Running). is_some (heir_conflict x.plan x.machine (machine.root_in x.machine.versions))) (sym same)

-- what the root's matches leave in a core
pub handed_out : (inside : Inside) (root window : ℕ) (d : Done inside.tree.entries root window) (emitted : Vec Match) (after : NumberList) (matches : List Match)
    → IfSome (value_of (entry_at kin inside.tree.entries root)) (λ v. IsHandedOut v inside.emitted emitted inside.consumed after matches)
    → IsHandedOut d.at.entry.value inside.emitted emitted inside.consumed after matches
handed_out inside root window d emitted after matches h =
    subst (λ (o : Option Version). IfSome o (λ v. IsHandedOut v inside.emitted emitted inside.consumed after matches)) (ap value_of d.at.is) h

pub handed : (inside : Inside) (v : Version) (emitted : Vec Match) (after : NumberList) (matches : List Match)
    → IsHandedOut v inside.emitted emitted inside.consumed after matches → Handed (holding inside) v emitted.items (room emitted) after
handed inside v emitted after matches o = record { emitted_is = o.emitted; left = o.left; members = o.consumed; rising = o.rising; spare = o.spare }
