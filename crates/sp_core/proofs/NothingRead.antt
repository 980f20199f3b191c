-- The return of a ticket of which nothing was read: it takes the ticket away, and leaves each version as it is.
use Rattle.std.proofs.Common.{◌≡◌, ℕ, ◌+◌, ◌≤◌, Bool, true, false, cond, ◌==◌, ◌&&◌, ◌||◌, not, nat_lt, List, [], ◌∷◌, filter, Option, Some, None, is_some, refl, sym, ap, ◌∙◌, arith}
use Rattle.std.specs.List.{list_all}
use Rattle.std.proofs.lemmas.Bool.Decides.{nat_tests}
use Rattle.sp_base.specs.Numbers.{is_among, with_numbers}
use Rattle.sp_plan.specs.declared.plan.Plan.{Plan}
use Rattle.sp_plan.specs.Runs.{Started, State}
use Rattle.sp_group.specs.Family.{kept, parent_there, prune, is_parent}
use Rattle.sp_group.specs.Machine.{Machine, Ticket, Version, inner, is_group, is_spent, kin, version_at}
use Rattle.sp_group.specs.Effects.{after_reading, after_ticket, child_after, home, is_newly_spent, names_completed, names_no_abandoned, without}
use Rattle.sp_rules.specs.Kept.{Child, Placed, Shape, Stands}

-- what holds of each number of a list
module _ (test : ℕ → Bool) where
  behind : (b : Bool) → (b || true) ≡ true
  behind true = refl
  behind false = refl

  front : (n : ℕ) (ns : List ℕ) → is_among (n ∷ ns) n ≡ true
  front n ns = let own : (n == n) ≡ true = grind (arith, nat_tests) in ap (λ b. b || is_among ns n) own

  later : (n : ℕ) (ns : List ℕ) (r : ℕ) → is_among ns r ≡ true → is_among (n ∷ ns) r ≡ true
  later n ns r among = ap (λ b. (n == r) || b) among ∙ behind (n == r)

  pub all_named : (ns : List ℕ) → ((r : ℕ) → is_among ns r ≡ true → test r ≡ true) → filter test ns ≡ ns
  all_named [] each = refl
  all_named (n ∷ ns) each =
      ap (λ b. cond b (n ∷ filter test ns) (filter test ns)) (each n (front n ns)) ∙ ap (λ ms. n ∷ ms) (all_named ns (λ r among. each r (later n ns r among)))

  pub all_pass : (ns : List ℕ) → ((r : ℕ) → is_among ns r ≡ true → test r ≡ true) → list_all test ns ≡ true
  all_pass [] each = refl
  all_pass (n ∷ ns) each =
      ap (λ b. b && list_all test ns) (each n (front n ns)) ∙ all_pass ns (λ r among. each r (later n ns r among))

  pub none_named : (ns : List ℕ) → ((r : ℕ) → is_among ns r ≡ true → test r ≡ false) → filter test ns ≡ []
  none_named [] each = refl
  none_named (n ∷ ns) each =
      ap (λ b. cond b (n ∷ filter test ns) (filter test ns)) (each n (front n ns)) ∙ none_named ns (λ r among. each r (later n ns r among))

-- no run is newly spent on the way from runs to the same
none_newly : (q : Plan) (s : State) (label : List ℕ) (runs : List Started)
    → list_all (λ (run : Started). not (is_newly_spent q s s run.0) || is_among label run.0) runs ≡ true
none_newly q s label [] = refl
none_newly q s label (run ∷ runs) =
    ap (λ b. b && list_all (λ (r : Started). not (is_newly_spent q s s r.0) || is_among label r.0) runs) (one (is_spent q s run.0)) ∙ none_newly q s label runs
  where
    one : (b : Bool) → (not (b && not b) || is_among label run.0) ≡ true
    one true = refl
    one false = refl

-- a child whose label names groups of its parent stays where that reads nothing
pub child_stays : (q : Plan) (s : State) (w : Version) → ((r : ℕ) → is_among w.label r ≡ true → is_group q s r ≡ true) → child_after q s s w ≡ Some w
child_stays q s w names =
    let completed : names_completed q s s w.label ≡ true = none_newly q s w.label s.matched in
    let abandoned : names_no_abandoned q s w.label ≡ true =
    all_pass (λ r. is_group q s r || is_spent q s r) w.label (λ r among. ap (λ b. b || is_spent q s r) (names r among)) in
    let label : filter (is_group q s) w.label ≡ w.label = all_named (is_group q s) w.label names in
    ap (λ b. cond (b && names_no_abandoned q s w.label) (Some (record w { label = filter (is_group q s) w.label })) None) completed
    ∙ ap (λ b. cond b (Some (record w { label = filter (is_group q s) w.label })) None) abandoned
    ∙ ap (λ (ns : List ℕ). Some (record w { label = ns })) label

module _ (q : Plan) (f : Version → State) (finished : ℕ) (v : Version) where
  -- a version as the rule of a reading leaves it, where nothing was read
  stays : (w : Version) (vs : List Version) → Placed q f finished vs w → (w.id ≡ v.id → w ≡ v) → ((u : Version) → version_at vs v.id ≡ Some u → u ≡ v)
      → after_reading q v.id v (f v) (f v) w ≡ Some w
  stays w vs placed own only = one (w.id == v.id) refl
    where
      three : (p : ℕ) → Child q f vs w p → (b : Bool) → (p == v.id) ≡ b → cond b (child_after q (f v) (f v) w) (Some w) ≡ Some w
      three p child true is =
          let same : p ≡ v.id = grind (arith, nat_tests) in
          let parent : child.parent ≡ v = only child.parent (ap (version_at vs) (sym same) ∙ child.is) in
          child_stays q (f v) w (λ r among. ap (λ (u : Version). is_group q (f u) r) (sym parent) ∙ child.names r among)
      three p child false is = refl

      two : (o : Option ℕ) → Stands q f finished vs w o → cond (is_parent v.id o) (child_after q (f v) (f v) w) (Some w) ≡ Some w
      two None stand = refl
      two (Some p) stand = three p stand (p == v.id) refl

      one : (b : Bool) → (w.id == v.id) ≡ b → cond b (Some v) (cond (is_parent v.id w.parent) (child_after q (f v) (f v) w) (Some w)) ≡ Some w
      one true is = ap Some (sym (own (grind (arith, nat_tests))))
      one false is = two w.parent placed.stands

  parent_stands : (w : Version) (vs : List Version) (o : Option ℕ) → Stands q f finished vs w o → parent_there kin vs o ≡ true
  parent_stands w vs None stand = refl
  parent_stands w vs (Some p) stand = ap is_some stand.is

  -- and so all of them stay
  pub all_stay : (vs : List Version) → Shape q f finished vs → ((u : Version) → version_at vs v.id ≡ Some u → u ≡ v)
      → prune kin (after_reading q v.id v (f v) (f v)) vs ≡ vs
  all_stay [] shape only = refl
  all_stay (w ∷ vs) shape only =
      let rest = all_stay vs shape.1 below in
      ap (λ o. kept kin o (prune kin (after_reading q v.id v (f v) (f v)) vs)) (stays w vs shape.0 own below)
      ∙ ap (λ us. kept kin (Some w) us) rest
      ∙ ap (λ b. cond b (w ∷ vs) vs) (parent_stands w vs w.parent shape.0.stands)
    where
      own : w.id ≡ v.id → w ≡ v
      own same = let is : (w.id == v.id) ≡ true = grind (arith, nat_tests) in only w (ap (λ b. cond b (Some w) (version_at vs v.id)) is)

      below : (u : Version) → version_at vs v.id ≡ Some u → u ≡ v
      below u at =
          let newer = shape.0.newest v.id u at in
          let is : (w.id == v.id) ≡ false = grind (arith, nat_tests) in
          only u (ap (λ b. cond b (Some w) (version_at vs v.id)) is ∙ at)

-- a version that has read a ticket of which nothing was read
pub same_version : (v : Version) (t : Ticket) → t.read ≡ 0 → t.closing_read ≡ false → ((i : ℕ) → is_among t.snapshot i ≡ true → t.first ≤ i) → after_ticket v t ≡ v
same_version v t unread unclosed from =
    let position : v.position + t.read ≡ v.position = omega arith in
    let none : filter (λ i. nat_lt i (t.first + t.read)) t.snapshot ≡ [] =
    none_named (λ i. nat_lt i (t.first + t.read)) t.snapshot (λ i among. let low = from i among in grind (arith, nat_tests)) in
    let skipped : with_numbers v.skipped (filter (λ i. nat_lt i (t.first + t.read)) t.snapshot) ≡ v.skipped = ap (with_numbers v.skipped) none in
    let done : (v.done || t.closing_read) ≡ v.done = ap (λ b. v.done || b) unclosed ∙ one v.done in
    λ i. record v { position = position i; skipped = skipped i; done = done i }
  where
    one : (b : Bool) → (b || false) ≡ b
    one true = refl
    one false = refl

-- nothing comes home but that the ticket goes
pub nothing_home : (q : Plan) (m : Machine) (n : ℕ) (t : Ticket) (v : Version) → Shape q (inner q m.events) m.finished m.versions → version_at m.versions v.id ≡ Some v
    → after_ticket v t ≡ v → home q m n t (Some v) ≡ record m { tickets = without n m.tickets }
nothing_home q m n t v shape at same =
    ap (λ (u : Version). record m { tickets = without n m.tickets; versions = prune kin (after_reading q v.id u (inner q m.events v) (inner q m.events u)) m.versions }) same
    ∙ ap (λ (vs : List Version). record m { tickets = without n m.tickets; versions = vs })
    (all_stay q (inner q m.events) m.finished v m.versions shape (λ u there. let found : Some u ≡ Some v = sym there ∙ at in cc))
