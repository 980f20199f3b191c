-- The decisions of groups do to labels what a reading does.
use Rattle.std.proofs.Common.{◌≡◌, ◌≢◌, ℕ, ◌<◌, ◌≤◌, ◌⊎◌, Bool, true, false, cond, not, ◌&&◌, ◌||◌, ◌==◌, List, [], ◌∷◌, ◌++◌, filter, map, Option, Some, None, ⊎_elim, refl, sym, ap, ◌∙◌, subst, arith}
use Rattle.std.specs.List.{All, flat_map, list_all, list_any}
use Rattle.std.proofs.lemmas.Bool.Decides.{nat_tests}
use Rattle.std.proofs.lemmas.List.{append-nil}
use Rattle.std.proofs.lemmas.List.Elements.{All-filter, All-map}
use Rattle.std.proofs.lemmas.List.Kept.{IsStrictlyIncreasing-filter}
use Rattle.sp_base.proofs.RisingLists.{Rises, rises, rising_same}
use Rattle.sp_base.specs.Numbers.{is_among}
use Rattle.sp_plan.specs.declared.event.Event.{Event}
use Rattle.sp_plan.specs.declared.plan.Plan.{Plan}
use Rattle.sp_plan.specs.Runs.{Started, State, used, after_closing}
use Rattle.sp_plan.specs.Moves.{is_run, pairs_of}
use Rattle.sp_plan.specs.Reading.{reading}
use Rattle.sp_plan.specs.WindowNumbers.{first}
use Rattle.sp_match.specs.public.Laws.{Sound}
use Rattle.sp_group.specs.declared.outcome.Outcome.TheVariants.{Completed, Abandoned}
use Rattle.sp_group.specs.Rising.{IsLabel, has_number}
use Rattle.sp_group.specs.Deciding.{others_than, foresaw, foresaw_all}
use Rattle.sp_group.specs.Family.{is_parent, kept, prune}
use Rattle.sp_group.specs.Machine.{Version, Ticket, Machine, kin, version_at, inner, is_group, is_spent, is_suppressed}
use Rattle.sp_group.specs.Effects.{is_newly_spent, names_completed, names_no_abandoned, child_after, after_reading}
use Rattle.sp_rules.specs.Kept.{Lent, Shape}
use Rattle.sp_rules.specs.Lawful.{Lawful}
use Rattle.sp_rules.specs.Returning.{read_to}
use Rattle.sp_rules.specs.ComingHome.{IsComingHome, come_home}
use Rattle.sp_rules.specs.ByGroups.{using_runs, grouped, HasGroups, VersionHasGroups, outcome_in, ended, AreToDecide, child_of_decided, after_decisions, IsByGroups}
use Rattle.sp_rules.proofs.Facts.{ReadsOn, facts, group_open, spent_matched}
use Rattle.sp_rules.proofs.Lists.{or_right, and_left, and_both, same_bool, absent, not_true, mem_filter, filter_mem, all_mem}
use Rattle.sp_rules.proofs.Labels.{foresees, child_is, names_it, member_fate}
use Rattle.sp_rules.proofs.Tree.{at_id, at_head, Each, each_tail, parent_is}
use Rattle.sp_rules.proofs.Home.{home_leads}
use Rattle.sp_rules.proofs.ComingHome.{lent_is}

-- a filter whose test agrees on what is there
filter_on : (p p' : ℕ → Bool) (xs : List ℕ) → ((x : ℕ) → is_among xs x ≡ true → p x ≡ p' x) → filter p xs ≡ filter p' xs
filter_on p p' [] same = refl
filter_on p p' (x ∷ xs) same =
    ap (λ (b : Bool). cond b (x ∷ filter p xs) (filter p xs)) (same x (grind (arith, nat_tests)))
    ∙ ap (λ (z : List ℕ). cond (p' x) (x ∷ z) z) (filter_on p p' xs (λ y m. same y (or_right (x == y) (is_among xs y) m)))

all_is : (p : ℕ → Bool) (xs : List ℕ) → ((x : ℕ) → is_among xs x ≡ true → p x ≡ true) → list_all p xs ≡ true
all_is p [] h = refl
all_is p (x ∷ xs) h = and_both (p x) (list_all p xs) (h x (grind (arith, nat_tests))) (all_is p xs (λ y m. h y (or_right (x == y) (is_among xs y) m)))

module _ (q : Plan) where
  -- The runs that have a group, as a list.
  no_pairs : (runs : List Started) (r : ℕ) → is_among (map (λ (run : Started). run.0) runs) r ≡ false → pairs_of runs r ≡ []
  no_pairs [] r none = refl
  no_pairs (x ∷ runs) r none = one (x.0 == r) none (no_pairs runs r)
    where
      one : (b : Bool) → (b || is_among (map (λ (run : Started). run.0) runs) r) ≡ false → (is_among (map (λ (run : Started). run.0) runs) r ≡ false → pairs_of runs r ≡ [])
          → flat_map (λ (run : Started). run.1) (cond b (x ∷ filter (is_run r) runs) (filter (is_run r) runs)) ≡ []
      one true none rest = absurd (cc)
      one false none rest = rest none

  pairs_behind : (x : Started) (runs : List Started) (r : ℕ) → x.0 < r → pairs_of (x ∷ runs) r ≡ pairs_of runs r
  pairs_behind x runs r low = let apart : (x.0 == r) ≡ false = grind (arith, nat_tests) in ap (λ (b : Bool). flat_map (λ (run : Started). run.1) (cond b (x ∷ filter (is_run r) runs) (filter (is_run r) runs))) apart

  pairs_here : (x : Started) (runs : List Started) → is_among (map (λ (run : Started). run.0) runs) x.0 ≡ false → pairs_of (x ∷ runs) x.0 ≡ x.1
  pairs_here x runs none =
      let same : (x.0 == x.0) ≡ true = grind (arith, nat_tests) in
      ap (λ (b : Bool). flat_map (λ (run : Started). run.1) (cond b (x ∷ filter (is_run x.0) runs) (filter (is_run x.0) runs))) same
      ∙ ap (λ (z : List _). x.1 ++ z) (no_pairs runs x.0 none)
      ∙ append-nil x.1

  grouped_in : (runs : List Started) → Rises (map (λ (run : Started). run.0) runs)
      → map (λ (run : Started). run.0) (filter (λ (run : Started). has_number (used q run.1)) runs) ≡ filter (λ r. has_number (used q (pairs_of runs r))) (map (λ (run : Started). run.0) runs)
  grouped_in [] up = refl
  grouped_in (x ∷ runs) up =
      front (has_number (used q x.1))
      ∙ ap (λ (z : List ℕ). cond (has_number (used q x.1)) (x.0 ∷ z) z) (grouped_in runs up.1 ∙ filter_on _ _ (map (λ (run : Started). run.0) runs) (λ r m. ap (λ (z : List _). has_number (used q z)) (sym (pairs_behind x runs r (up.0 r m)))))
      ∙ ap (λ (z : List _). cond (has_number (used q z)) (x.0 ∷ behind) behind) (sym (pairs_here x runs none))
    where
      left : List Started
      left = filter (λ (run : Started). has_number (used q run.1)) runs

      behind : List ℕ
      behind = filter (λ r. has_number (used q (pairs_of (x ∷ runs) r))) (map (λ (run : Started). run.0) runs)

      none : is_among (map (λ (run : Started). run.0) runs) x.0 ≡ false
      none = one (is_among (map (λ (run : Started). run.0) runs) x.0) refl
        where
          one : (b : Bool) → is_among (map (λ (run : Started). run.0) runs) x.0 ≡ b → b ≡ false
          one true m = let low = up.0 x.0 m in absurd (omega arith)
          one false m = refl

      front : (b : Bool) → map (λ (run : Started). run.0) (cond b (x ∷ left) left) ≡ cond b (x.0 ∷ map (λ (run : Started). run.0) left) (map (λ (run : Started). run.0) left)
      front true = refl
      front false = refl

  open_among : (runs : List Started) (r : ℕ) → is_among (map (λ (run : Started). run.0) runs) r ≡ list_any (is_run r) runs
  open_among [] r = refl
  open_among (x ∷ runs) r = ap (λ (b : Bool). x.0 == r || b) (open_among runs r)

  any_among : (runs : List Started) (r : ℕ) → list_any (λ (run : Started). run.0 == r && has_number (used q run.1)) runs ≡ is_among (using_runs q runs) r
  any_among [] r = refl
  any_among (x ∷ runs) r = one (has_number (used q x.1)) (any_among runs r)
    where
      last : (a : Bool) → (a && true) ≡ a
      last true = refl
      last false = refl

      none : (a : Bool) → (a && false) ≡ false
      none true = refl
      none false = refl

      one : (b : Bool) → list_any (λ (run : Started). run.0 == r && has_number (used q run.1)) runs ≡ is_among (using_runs q runs) r
          → ((x.0 == r && b) || list_any (λ (run : Started). run.0 == r && has_number (used q run.1)) runs)
          ≡ is_among (map (λ (run : Started). run.0) (cond b (x ∷ filter (λ (run : Started). has_number (used q run.1)) runs) (filter (λ (run : Started). has_number (used q run.1)) runs))) r
      one true rest = ap (λ (a : Bool). a || list_any (λ (run : Started). run.0 == r && has_number (used q run.1)) runs) (last (x.0 == r)) ∙ ap (λ (a : Bool). x.0 == r || a) rest
      one false rest = ap (λ (a : Bool). a || list_any (λ (run : Started). run.0 == r && has_number (used q run.1)) runs) (none (x.0 == r)) ∙ rest

  given_numbers : (n : ℕ) (runs : List Started) → All (λ (run : Started). (1 ≤ run.0) × (run.0 ≤ n)) runs → All (λ r. r ≢ 0) (map (λ (run : Started). run.0) runs)
  given_numbers n runs given = All-map (λ r. r ≢ 0) (λ (run : Started). run.0) runs (λ k d within none. let low = (given k d within).0 in absurd (omega (arith, none)))

  pub has_groups : (law : Lawful q) (s : State) → Sound s → HasGroups q s
  has_groups law s sound = record {
    label = subst IsLabel (sym listed) (record {
      rising = IsStrictlyIncreasing-filter (is_group q s) (map (λ (run : Started). run.0) s.open_runs) sound.ordered.rising;
      given = All-filter (is_group q s) (λ r. r ≢ 0) (map (λ (run : Started). run.0) s.open_runs) (given_numbers s.started s.open_runs sound.ordered.given);
    });
    are = are;
    any = λ r. any_among s.open_runs r ∙ are r;
  }
    where
      numbers : List ℕ
      numbers = map (λ (run : Started). run.0) s.open_runs

      listed : grouped q s ≡ filter (is_group q s) (map (λ (run : Started). run.0) s.open_runs)
      listed = grouped_in s.open_runs (rises (map (λ (run : Started). run.0) s.open_runs) sound.ordered.rising)

      are : (r : ℕ) → is_among (grouped q s) r ≡ is_group q s r
      are r = ap (λ (z : List ℕ). is_among z r) listed ∙ same_bool (is_among (filter (is_group q s) numbers) r) (is_group q s r)
          (λ h. (mem_filter r (is_group q s) numbers h).1) (λ h. filter_mem r (is_group q s) numbers (open_among s.open_runs r ∙ group_open q law s r h) h)

  pub inner_sound : (law : Lawful q) (events : List Event) (v : Version) → Sound (inner q events v)
  inner_sound law events v = one v.done
    where
      one : (b : Bool) → Sound (cond b (after_closing (reading q events v.skipped (first q events v.window) v.position)) (reading q events v.skipped (first q events v.window) v.position))
      one true = law.runs.one_event.closed_sound (reading q events v.skipped (first q events v.window) v.position) (law.runs.readings.sound events v.skipped (first q events v.window) v.position)
      one false = law.runs.readings.sound events v.skipped (first q events v.window) v.position

  pub version_has_groups : Lawful q → (events : List Event) (v : Version) → VersionHasGroups q events v
  version_has_groups law events v = record { sound = inner_sound law events v; groups = has_groups law (inner q events v) (inner_sound law events v) }

  -- no run of sound runs has both a group and a match that used an event
  group_unspent : (law : Lawful q) (s : State) → Sound s → (r : ℕ) → is_group q s r ≡ true → is_spent q s r ≡ true → ⊥
  group_unspent law s sound r grouped_ spent = let is = spent_matched q law s r spent in let isnt = law.runs.open_unmatched s r sound (group_open q law s r grouped_) in absurd (cc)

  module _ (s t : State) (on : ReadsOn q s t) (apart : (r : ℕ) → is_group q t r ≡ true → is_spent q t r ≡ true → ⊥) (groups : List ℕ) (to : AreToDecide q s t groups) where
    ends : List ℕ
    ends = ended q t groups

    ends_if : (r : ℕ) → is_among groups r ≡ true → is_group q t r ≡ false → is_among (ended q t groups) r ≡ true
    ends_if r m gone = filter_mem r (λ r. not (is_group q t r)) groups m (ap not gone)

    ended_is : (r : ℕ) → is_among (ended q t groups) r ≡ true → (is_among groups r ≡ true) × (is_group q t r ≡ false)
    ended_is r m = let x = mem_filter r (λ r. not (is_group q t r)) groups m in (x.0, not_true (is_group q t r) x.1)

    -- of these runs those are left that have a group in t
    left_if : (r : ℕ) → is_among groups r ≡ true → not (is_among (ended q t groups) r) ≡ is_group q t r
    left_if r m = one (is_group q t r) refl (is_among (ended q t groups) r) refl
      where
        one : (a : Bool) → is_group q t r ≡ a → (b : Bool) → is_among (ended q t groups) r ≡ b → not b ≡ a
        one true is true e = let x = (ended_is r e).1 in absurd (cc)
        one true is false e = refl
        one false is true e = refl
        one false is false e = let x = ends_if r m is in absurd (cc)

    label_left : (l : List ℕ) → ((r : ℕ) → is_among l r ≡ true → is_group q s r ≡ true) → others_than (ended q t groups) l ≡ filter (is_group q t) l
    label_left l names = filter_on (λ r. not (is_among (ended q t groups) r)) (is_group q t) l (λ r m. left_if r (to.before r (names r m)))

    foresaw_if : (l : List ℕ) → foresees q s t l ≡ true → foresaw_all (outcome_in q t) (ended q t groups) l ≡ true
    foresaw_if l h = all_is (λ r. foresaw r (outcome_in q t r) l) (ended q t groups) (λ r m. one r m (is_spent q t r) refl)
      where
        newly : (r : ℕ) → is_among (ended q t groups) r ≡ true → is_spent q t r ≡ true → is_newly_spent q s t r ≡ true
        newly r m spent =
            let x = ended_is r m in
            ⊎_elim
            (λ (y : is_group q s r ≡ true). and_both (is_spent q t r) (not (is_spent q s r)) spent (ap not (unspent (is_spent q s r) refl y)))
            (λ (y : (is_group q t r ≡ true) ⊎ (is_newly_spent q s t r ≡ true)). ⊎_elim (λ (z : is_group q t r ≡ true). let w = x.1 in absurd (cc)) (λ (z : is_newly_spent q s t r ≡ true). z) y)
            (to.only r x.0)
          where
            unspent : (b : Bool) → is_spent q s r ≡ b → is_group q s r ≡ true → b ≡ false
            unspent true e y = absurd (on.apart r y e)
            unspent false e y = refl

        left_out : (r : ℕ) → is_among (ended q t groups) r ≡ true → is_spent q t r ≡ false → (b : Bool) → is_among l r ≡ b → not b ≡ true
        left_out r m e true k = absurd (⊎_elim (λ (y : is_group q t r ≡ true). let x = (ended_is r m).1 in cc) (λ (y : is_spent q t r ≡ true). cc) (member_fate q s t l r h k))
        left_out r m e false k = refl

        one : (r : ℕ) → is_among (ended q t groups) r ≡ true → (b : Bool) → is_spent q t r ≡ b → foresaw r (cond b Completed Abandoned) l ≡ true
        one r m true e = names_it q s t l t.matched r (and_left (names_completed q s t l) (names_no_abandoned q t l) h) e (newly r m e)
        one r m false e = left_out r m e (is_among l r) refl

    foresees_if : (l : List ℕ) → ((r : ℕ) → is_among l r ≡ true → is_group q s r ≡ true) → foresaw_all (outcome_in q t) (ended q t groups) l ≡ true → foresees q s t l ≡ true
    foresees_if l names h = and_both (names_completed q s t l) (names_no_abandoned q t l) (completed t.matched) (all_is (λ r. is_group q t r || is_spent q t r) l (λ r m. open_or_spent r m (is_group q t r) refl (is_spent q t r) refl))
      where
        told : (r : ℕ) → is_among (ended q t groups) r ≡ true → foresaw r (outcome_in q t r) l ≡ true
        told r m = all_mem r (λ r. foresaw r (outcome_in q t r) l) (ended q t groups) h m

        named : (r : ℕ) → is_newly_spent q s t r ≡ true → is_among l r ≡ true
        named r new =
            let spent = and_left (is_spent q t r) (not (is_spent q s r)) new in
            let gone : is_group q t r ≡ false = absent (is_group q t r) {c = false} (λ g. absurd (apart r g spent)) refl in
            subst (λ (b : Bool). foresaw r (cond b Completed Abandoned) l ≡ true) spent (told r (ends_if r (to.spent r new) gone))

        either : (r : ℕ) (b : Bool) → is_newly_spent q s t r ≡ b → (not b || is_among l r) ≡ true
        either r true e = named r e
        either r false e = refl

        completed : (runs : List Started) → list_all (λ (run : Started). not (is_newly_spent q s t run.0) || is_among l run.0) runs ≡ true
        completed [] = refl
        completed (x ∷ runs) = and_both (not (is_newly_spent q s t x.0) || is_among l x.0) (list_all (λ (run : Started). not (is_newly_spent q s t run.0) || is_among l run.0) runs) (either x.0 (is_newly_spent q s t x.0) refl) (completed runs)

        open_or_spent : (r : ℕ) → is_among l r ≡ true → (a : Bool) → is_group q t r ≡ a → (b : Bool) → is_spent q t r ≡ b → (a || b) ≡ true
        open_or_spent r m true is b e = refl
        open_or_spent r m false is true e = refl
        open_or_spent r m false is false e =
            let left : not (is_among l r) ≡ true = subst (λ (b : Bool). foresaw r (cond b Completed Abandoned) l ≡ true) e (told r (ends_if r (to.before r (names r m)) is)) in
            let out = not_true (is_among l r) left in
            absurd (cc)

    pub child_is_same : (w : Version) → ((r : ℕ) → is_among w.label r ≡ true → is_group q s r ≡ true) → child_of_decided (outcome_in q t) (ended q t groups) w ≡ child_after q s t w
    child_is_same w names =
        ap {B = Option Version} (λ (l : List ℕ). cond (foresaw_all (outcome_in q t) (ended q t groups) w.label) (Some (record w { label = l })) None) (label_left w.label names)
        ∙ ap {B = Option Version} (λ (b : Bool). cond b (Some (record w { label = filter (is_group q t) w.label })) None)
        (same_bool (foresaw_all (outcome_in q t) (ended q t groups) w.label) (foresees q s t w.label) (foresees_if w.label names) (foresaw_if w.label))

    pub groups_left : HasGroups q t → others_than (ended q t groups) groups ≡ grouped q t
    groups_left has =
        rising_same (others_than (ended q t groups) groups) (grouped q t) (IsStrictlyIncreasing-filter (λ r. not (is_among (ended q t groups) r)) groups to.rising) has.label.rising
        (λ r m. let x = mem_filter r (λ r. not (is_among (ended q t groups) r)) groups m in has.are r ∙ sym (left_if r x.0) ∙ x.1)
        (λ r m. let g = sym (has.are r) ∙ m in let a = to.after r g in filter_mem r (λ r. not (is_among (ended q t groups) r)) groups a (left_if r a ∙ g))

  -- the ticket, read so far
  pub lent_so_far : (law : Lawful q) (m : Machine) (n : ℕ) (t : Ticket) (v : Version) (k : ℕ) (closed : Bool) → IsComingHome q m n t v k closed → Lent q m.events m.ended (is_suppressed q m t.version) v (read_to t k closed)
  lent_so_far law m n t v k closed comes =
      let l = lent_is q law m n t v k closed comes in
      record { begins = l.begins; fits = l.fits; closes = l.closes; undone = l.undone; snapshot = l.snapshot; reads = comes.so_far.within; shuts = comes.so_far.last }

  -- rules that do the same to each version
  prune_same : (f : Version → State) (fin : ℕ) (rule other : Version → Option Version) (vs : List Version) → Shape q f fin vs → Each (λ w. rule w ≡ other w) vs → prune kin rule vs ≡ prune kin other vs
  prune_same f fin rule other [] shape same = refl
  prune_same f fin rule other (v ∷ vs) shape same =
      ap (λ (o : Option Version). kept kin o (prune kin rule vs)) (same v.id v (at_head v vs))
      ∙ ap (kept kin (other v)) (prune_same f fin rule other vs shape.1 (each_tail q (λ w. rule w ≡ other w) f fin v vs shape.0 same))

  pub by_groups : Lawful q → (m : Machine) (n : ℕ) (t : Ticket) (v : Version) (k : ℕ) (closed : Bool) (groups : List ℕ) → IsComingHome q m n t v k closed
      → AreToDecide q (inner q m.events v) (inner q m.events (come_home v t k closed)) groups
      → IsByGroups q m v (come_home v t k closed) (inner q m.events v) (inner q m.events (come_home v t k closed)) groups
  by_groups law m n t v k closed groups comes to = record {
    keeps = groups_left s s' on apart groups to (has_groups law s' (inner_sound law m.events new));
    child = child_is_same s s' on apart groups to;
    versions = prune_same (inner q m.events) m.finished (after_decisions v.id new (outcome_in q s') (ended q s' groups)) (after_reading q v.id new s s') m.versions comes.kept.sane.shape each;
  }
    where
      new : Version
      new = come_home v t k closed

      s : State
      s = inner q m.events v

      s' : State
      s' = inner q m.events (come_home v t k closed)

      on : ReadsOn q (inner q m.events v) (inner q m.events (come_home v t k closed))
      on = home_leads q (facts q law) m.events m.ended (is_suppressed q m t.version) v (read_to t k closed) (lent_so_far law m n t v k closed comes)

      apart : (r : ℕ) → is_group q (inner q m.events (come_home v t k closed)) r ≡ true → is_spent q (inner q m.events (come_home v t k closed)) r ≡ true → ⊥
      apart = group_unspent law (inner q m.events (come_home v t k closed)) (inner_sound law m.events (come_home v t k closed))

      live : version_at m.versions v.id ≡ Some v
      live = subst (λ (z : ℕ). version_at m.versions z ≡ Some v) (sym (at_id m.versions t.version v comes.live)) comes.live

      names : (id : ℕ) (w : Version) → version_at m.versions id ≡ Some w → w.parent ≡ Some v.id → (r : ℕ) → is_among w.label r ≡ true → is_group q (inner q m.events v) r ≡ true
      names id w at parent r among =
          let x = parent_is q (inner q m.events) m.finished m.versions comes.kept.sane.shape id v.id w at parent in
          let same : x.0 ≡ v = let a = x.1 in let b = live in cc in
          subst (λ (u : Version). is_group q (inner q m.events u) r ≡ true) same (x.3 r among)

      each : Each (λ w. after_decisions v.id (come_home v t k closed) (outcome_in q s') (ended q s' groups) w ≡ after_reading q v.id (come_home v t k closed) s s' w) m.versions
      each id w at = one (w.id == v.id) (is_parent v.id w.parent) refl
        where
          one : (a b : Bool) → is_parent v.id w.parent ≡ b
              → cond a (Some new) (cond b (child_of_decided (outcome_in q s') (ended q s' groups) w) (Some w)) ≡ cond a (Some new) (cond b (child_after q s s' w) (Some w))
          one true b is = refl
          one false true is = child_is_same s s' on apart groups to w (names id w at (child_is v.id w.parent is))
          one false false is = refl
