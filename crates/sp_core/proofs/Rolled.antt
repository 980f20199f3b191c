-- A core after a version began anew is what the machine makes of it.
use Rattle.std.proofs.Common.{◌≡◌, ℕ, ◌+◌, ◌<◌, ◌≤◌, Bool, true, false, not, ◌||◌, nat_lt, List, [], ◌∷◌, ◌++◌, length, map, Option, Some, None, is_some, refl, sym, ap, subst, ◌∙◌, arith}
use Rattle.std.specs.List.{All, sum}
use Rattle.std.specs.Option.{option_map}
use Rattle.sp_base.specs.Limits.{live_limit}
use Rattle.sp_plan.specs.declared.plan.Plan.{Plan}
use Rattle.sp_version.specs.declared.version.Version.{Version}
use Rattle.sp_group.specs.declared.refusal.Refusal.TheVariants as r
use Rattle.sp_group.specs.declared.step.Entry as step
use Rattle.sp_group.specs.declared.step.Step.TheVariants as s
use Rattle.sp_group.specs.Machine as machine
use Rattle.sp_group.specs.Machine.{Machine, kin, version_at, is_out, conflict}
use Rattle.sp_group.specs.Family.{prune}
use Rattle.sp_group.specs.Effects.{fresh, but, rolled, effect}
use Rattle.sp_spread.proofs.Hits.{by_roll}
use Rattle.sp_group.specs.Refusing.{refuse_if, roll_refusal}
use Rattle.sp_tree.specs.Grown.{Grown, Entry, AreGrown}
use Rattle.sp_rules.specs.Schedules.{EverySchedule}
use Rattle.sp_core.specs.Running.{Running, after, once, refused}
use Rattle.sp_core.specs.Holding.{Holding, Holds, IsCore, machine_of, running, version_of}
use Rattle.sp_core.specs.Carrying.{ticket_of}
use Rattle.sp_core.specs.Renewing.{IsAnew, anew}
use Rattle.sp_core.specs.Rooms.{entries_for, is_touched, matches_held, numbers_held}
use Rattle.sp_core.specs.Suppressing.{conflict_of, conflict_at}
use Rattle.sp_core.proofs.Conflicting.{out_is, touched}
use Rattle.sp_core.proofs.Journal.{reached, replayed_on}
use Rattle.sp_core.proofs.Newly.{news_on}
use Rattle.sp_core.proofs.Entries.{found_of_all, version_found}
use Rattle.sp_core.proofs.Renewing.{at_entry, versions_anew, all_hold_anew, sum_anew}

two_for : (e : Entry Version) → is_touched e.value ≡ true → entries_for e ≡ 2
two_for e h = rw h refl

pub one_for : (e : Entry Version) → is_touched e.value ≡ false → entries_for e ≡ 1
one_for e h = rw h refl

-- a roll is refused where the version is not live
pub not_live : (q : Plan) (m : Machine) (id : ℕ) → is_some (version_at m.versions id) ≡ false → roll_refusal q m id (version_at m.versions id) ≡ Some (r.NotLive id)
not_live q m id h = one (version_at m.versions id) h
  where
    one : (o : Option machine.Version) → is_some o ≡ false → roll_refusal q m id o ≡ Some (r.NotLive id)
    one None h = refl
    one (Some v) h = absurd (cc)

-- and where it is in no conflict
pub no_conflict : (q : Plan) (m : Machine) (id : ℕ) → is_some (version_at m.versions id) ≡ true → is_some (conflict_at q m id) ≡ false
    → roll_refusal q m id (version_at m.versions id) ≡ Some (r.NoConflict id)
no_conflict q m id live h = one (version_at m.versions id) live h
  where
    one : (o : Option machine.Version) → is_some o ≡ true → is_some (conflict_of q m o) ≡ false → roll_refusal q m id o ≡ Some (r.NoConflict id)
    one None live h = absurd (cc)
    one (Some v) live h = ap (λ b. refuse_if (not b) (r.NoConflict id) None) h

-- whether there is a conflict, as a core tells it of the state that its callers see
pub conflict_told : (x y : Running) (id : ℕ) (told : Option ℕ) (b : Bool) → x ≡ y → told ≡ conflict_at y.plan y.machine id → is_some told ≡ b
    → is_some (conflict_at x.plan x.machine id) ≡ b
conflict_told x y id told b same is h = ap (λ (z : Running). is_some (conflict_at z.plan z.machine id)) same ∙ ap is_some (sym is) ∙ h

-- a version in conflict begins anew
module _ (h : Holding) (all : All (Holds h.plan h.events (map ticket_of h.tickets)) h.tree.entries) (free : is_out (map ticket_of h.tickets) h.tree.next ≡ false)
    (id : ℕ) (t : Grown Version) (a : IsAnew h.tree id t) (hit : is_some (conflict_at h.plan (machine_of h) id) ≡ true) where
  pub is_there : version_at (machine_of h).versions id ≡ Some (version_of a.entry)
  is_there = version_found h.tree.entries id ∙ ap (option_map version_of) a.was

  pub in_conflict : is_some (conflict h.plan (machine_of h) (version_of a.entry)) ≡ true
  in_conflict = ap (λ v. is_some (conflict_of h.plan (machine_of h) v)) (sym is_there) ∙ hit

  pub machine_anew : machine_of (record h { tree = t }) ≡ rolled (machine_of h) (version_at (machine_of h).versions id)
  machine_anew =
      let e = a.entry in
      let m = machine_of h in
      let front : machine.Version = fresh h.tree.next e.version.parent e.value.window e.version.label in
      ap (λ (g : Grown Version). machine_of (record h { tree = g })) a.is
      ∙ ap (λ (vs : List machine.Version). record m { versions = vs; next_id = h.tree.next + 1 }) (versions_anew h.tree.next id e a.value h.tree.entries a.restarted)
      ∙ ap (λ n. record m { versions = front ∷ prune kin (but n) m.versions; next_id = h.tree.next + 1 }) (sym (at_entry h.tree.entries id e a.was))
      ∙ sym (ap (rolled m) is_there)

  held : Holds h.plan h.events (map ticket_of h.tickets) a.entry
  held = found_of_all (Holds h.plan h.events (map ticket_of h.tickets)) h.tree.entries id a.entry all a.was

  pub all_hold : All (Holds h.plan h.events (map ticket_of h.tickets)) t.entries
  all_hold =
      subst (λ (g : Grown Version). All (Holds h.plan h.events (map ticket_of h.tickets)) g.entries) (sym a.is)
      (all_hold_anew h.plan h.events (map ticket_of h.tickets) h.tree.next id a.entry a.value h.tree.entries a.restarted free held all)

  sum_then : (g : Entry Version → ℕ) → sum (map g t.entries) + g a.entry ≤ sum (map g h.tree.entries) + g (anew h.tree.next a.entry a.value)
  sum_then g =
      let same = ap (λ (u : Grown Version). sum (map g u.entries)) a.is in
      let less = sum_anew g h.tree.next id a.entry a.value h.tree.entries a.was in
      omega arith

  -- the roll's own entry of the journal is no more owed
  pub entries_anew : sum (map entries_for t.entries) + 1 ≤ sum (map entries_for h.tree.entries)
  entries_anew =
      let less = sum_then entries_for in
      let before = two_for a.entry (ap (λ b. nat_lt 0 a.entry.value.position || b) (ap is_some held.out ∙ out_is (map ticket_of h.tickets) a.entry.version.id)
      ∙ touched h.plan (machine_of h) (version_of a.entry) in_conflict) in
      let now = one_for (anew h.tree.next a.entry a.value) (rw (a.restarted.position, a.restarted.out) refl) in
      omega arith

  pub matches_anew : matches_held t.entries ≤ matches_held h.tree.entries
  matches_anew =
      let less = sum_then (λ e. length e.value.copies.items) in
      let none : length a.value.copies.items ≡ 0 = ap length a.restarted.copies in
      omega arith

  pub numbers_anew : numbers_held t.entries ≤ numbers_held h.tree.entries
  numbers_anew =
      let less = sum_then (λ e. length e.value.used.list) in
      let none : length a.value.used.list ≡ 0 = ap length a.restarted.used in
      omega arith

-- the core after a roll
module _ (law : EverySchedule) (h : Holding) (c : IsCore h) (id : ℕ) (hit : is_some (conflict_at h.plan (machine_of h) id) ≡ true) (t : Grown Version)
    (a : IsAnew h.tree id t) (grown : AreGrown t) where
  unborn : is_out (map ticket_of h.tickets) h.tree.next ≡ false
  unborn = (reached law h c).kept.sane.unborn h.tree.next (omega arith)

  pub passes : refused (running h) (s.Roll id) ≡ None
  passes =
      ap (roll_refusal h.plan (machine_of h) id) (is_there h c.versions unborn id t a hit)
      ∙ ap (λ b. refuse_if (not b) (r.NoConflict id) None) (in_conflict h c.versions unborn id t a hit)

  pub has_room : 0 < h.journal_room
  has_room = let one = entries_anew h c.versions unborn id t a hit in let room = c.rooms.entries in omega arith

  module _ (journal : List step.Entry) (room : ℕ) (entered : journal ≡ h.journal ++ once (s.Roll id) ∷ []) (left : h.journal_room ≤ room + 1) where
    abbrev then : Holding
    then = record h { tree = t; journal = journal; journal_room = room }

    bound_is : t.bound ≡ h.tree.bound
    bound_is = ap (λ (g : Grown Version). g.bound) a.is

    rolls : machine_of then ≡ effect h.plan (machine_of h) (s.Roll id)
    rolls = machine_anew h c.versions unborn id t a hit

    pub core_rolled : IsCore then
    core_rolled = record {
      compiled = c.compiled;
      known_are = c.known_are;
      some = subst (λ n. 1 ≤ n) (sym bound_is) c.some;
      most = subst (λ n. n ≤ live_limit) (sym bound_is) c.most;
      windows_plan = c.windows_plan;
      windows = c.windows;
      grown = grown;
      versions = all_hold h c.versions unborn id t a hit;
      replayed = replayed_on h then (s.Roll id) c.replayed refl bound_is entered tt passes rolls
          (let next = ap (λ (g : Grown Version). g.next) a.is in omega arith) (omega arith);
      news_are = news_on h (machine_of then) (effect h.plan (machine_of h) (s.Roll id)) c.news_are rolls
          (by_roll h.plan (machine_of h) (version_at (machine_of h).versions id) (reached law h c).kept.sane);
      rooms = record {
        entries = let less = entries_anew h c.versions unborn id t a hit in let room = c.rooms.entries in omega arith;
        matches = let less = matches_anew h c.versions unborn id t a hit in let room = c.rooms.matches in omega arith;
        numbers = let less = numbers_anew h c.versions unborn id t a hit in let room = c.rooms.numbers in omega arith;
      };
    }

    pub running_rolled : running then ≡ after (running h) (s.Roll id)
    running_rolled =
        ap (λ n. let x : Running = record { plan = h.plan; bound = n; machine = machine_of then; journal = journal } in x) bound_is
        ∙ ap (λ (m : Machine). let x : Running = record { plan = h.plan; bound = h.tree.bound; machine = m; journal = journal } in x) rolls
        ∙ ap (λ (j : List step.Entry). let x : Running = record { plan = h.plan; bound = h.tree.bound; machine = effect h.plan (machine_of h) (s.Roll id); journal = j } in x) entered
