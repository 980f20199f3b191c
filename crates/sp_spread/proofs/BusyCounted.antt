-- A version is busy where it is out or ready; what a spawn, a lease and the return of what is stale do to that.
use Rattle.std.proofs.Common.{◌≡◌, ◌≢◌, ℕ, ◌+◌, ◌≤◌, Bool, true, false, cond, not, ◌&&◌, ◌||◌, ◌==◌, List, [], ◌∷◌, length, map, filter, Option, Some, None, refl, sym, ap, ◌∙◌, subst, arith}
use Rattle.std.specs.Prelude.{is_none}
use Rattle.std.proofs.lemmas.Bool.Decides.{nat_tests}
use Rattle.sp_plan.specs.declared.plan.Plan.{Plan}
use Rattle.sp_plan.specs.Compiled.{IsCompiled}
use Rattle.sp_plan.specs.Runs.{State}
use Rattle.sp_plan.specs.WindowNumbers.{count}
use Rattle.sp_group.specs.declared.step.Step.TheVariants as s
use Rattle.sp_group.specs.Machine.{Version, Ticket, Machine, version_at, is_out, is_bare, is_lent, inner}
use Rattle.sp_group.specs.Refusing.{lease_refusal, child_refusal, refusal}
use Rattle.sp_group.specs.Effects.{fresh, spawned, child_spawned, lent, leased, without, effect}
use Rattle.sp_group.specs.Steps.{is_busy, is_ready}
use Rattle.sp_rules.specs.Kept.{Shape, Kept}
use Rattle.sp_rules.specs.Lawful.{Lawful}
use Rattle.sp_rules.specs.Schedules.{Reached}
use Rattle.sp_rules.proofs.Facts.{Facts, facts}
use Rattle.sp_rules.proofs.Steps.{root_open, child_open}
use Rattle.sp_rules.proofs.Tree.{at_head, at_id, Each, each_tail}
use Rattle.sp_spread.specs.Counting.{busy_count, out_versions}
use Rattle.sp_spread.specs.Laws.{IsStale, BusyIsCounted, ready_numbers}
use Rattle.sp_spread.proofs.LiveTickets.{Ends, here, later, ends}
use Rattle.sp_spread.proofs.OutCounted.{stale_is}
use Rattle.sp_spread.proofs.Ready.{ready_in, same_ready, same_busy, fresh_out, fresh_ready, older_ready}

-- those that pass either test are as many as those that pass the one and those that pass the other, where none passes both
in_two : (p r : Version → Bool) (vs : List Version) → ((v : Version) → r v ≡ true → p v ≡ false) → length (filter (λ v. cond (p v) true (r v)) vs) ≡ length (filter p vs) + length (filter r vs)
in_two p r [] apart = refl
in_two p r (v ∷ vs) apart = one (p v) (r v) (apart v) (in_two p r vs apart)
  where
    one : (b c : Bool) → (c ≡ true → b ≡ false) → length (filter (λ w. cond (p w) true (r w)) vs) ≡ length (filter p vs) + length (filter r vs)
        → length (cond (cond b true c) (v ∷ filter (λ w. cond (p w) true (r w)) vs) (filter (λ w. cond (p w) true (r w)) vs)) ≡ length (cond b (v ∷ filter p vs) (filter p vs)) + length (cond c (v ∷ filter r vs) (filter r vs))
    one true true apart rest = let no = apart refl in absurd (cc)
    one true false apart rest = omega arith
    one false true apart rest = omega arith
    one false false apart rest = rest

module _ (q : Plan) (f : Version → State) (finished : ℕ) where
  -- the same live versions pass tests that agree on them
  same_pass : (p r : Version → Bool) (vs : List Version) → Shape q f finished vs → Each (λ v. p v ≡ r v) vs → filter p vs ≡ filter r vs
  same_pass p r [] shape same = refl
  same_pass p r (v ∷ vs) shape same = one (p v) (r v) (same v.id v (at_head v vs)) (same_pass p r vs shape.1 (each_tail q (λ w. p w ≡ r w) f finished v vs shape.0 same))
    where
      one : (b c : Bool) → b ≡ c → filter p vs ≡ filter r vs → cond b (v ∷ filter p vs) (filter p vs) ≡ cond c (v ∷ filter r vs) (filter r vs)
      one true true is rest = ap (λ (ws : List Version). v ∷ ws) rest
      one true false is rest = absurd (cc)
      one false true is rest = absurd (cc)
      one false false is rest = rest

  -- the ids of those that pass, but one
  but_one : (p r : Version → Bool) (id : ℕ) (vs : List Version) → Shape q f finished vs → Each (λ v. r v ≡ (p v && not (v.id == id))) vs
      → map (λ v. v.id) (filter r vs) ≡ filter (λ other. not (other == id)) (map (λ v. v.id) (filter p vs))
  but_one p r id [] shape same = refl
  but_one p r id (v ∷ vs) shape same = one (p v) (r v) (same v.id v (at_head v vs)) (but_one p r id vs shape.1 (each_tail q (λ w. r w ≡ (p w && not (w.id == id))) f finished v vs shape.0 same))
    where
      two : (b c : Bool) → c ≡ not b → map (λ w. w.id) (filter r vs) ≡ filter (λ other. not (other == id)) (map (λ w. w.id) (filter p vs))
          → map (λ w. w.id) (cond c (v ∷ filter r vs) (filter r vs)) ≡ cond (not b) (v.id ∷ filter (λ other. not (other == id)) (map (λ w. w.id) (filter p vs))) (filter (λ other. not (other == id)) (map (λ w. w.id) (filter p vs)))
      two true true is rest = absurd (cc)
      two true false is rest = rest
      two false true is rest = ap (λ (ids : List ℕ). v.id ∷ ids) rest
      two false false is rest = absurd (cc)

      one : (b c : Bool) → c ≡ (b && not (v.id == id)) → map (λ w. w.id) (filter r vs) ≡ filter (λ other. not (other == id)) (map (λ w. w.id) (filter p vs))
          → map (λ w. w.id) (cond c (v ∷ filter r vs) (filter r vs)) ≡ filter (λ other. not (other == id)) (map (λ w. w.id) (cond b (v ∷ filter p vs) (filter p vs)))
      one true c is rest = two (v.id == id) c is rest
      one false true is rest = absurd (cc)
      one false false is rest = rest

-- a version that is found is found by its own id
by_own : (vs : List Version) (id : ℕ) (v : Version) → version_at vs id ≡ Some v → version_at vs v.id ≡ Some v
by_own vs id v at = subst (λ (k : ℕ). version_at vs k ≡ Some v) (sym (at_id vs id v at)) at

-- a test of ids that differ, and of those that are the same
differ : (a b : ℕ) → a ≢ b → (a == b) ≡ false
differ a b other = grind (arith, nat_tests)

equal : (a b : ℕ) → (a == b) ≡ true → a ≡ b
equal a b is = grind (arith, nat_tests)

module _ (q : Plan) (k : Facts q) (bound : ℕ) (m : Machine) (kept : Kept q m) where
  -- what a spawn does to the ids that are ready, and to those that are out
  Spawns : Machine → Type 0
  Spawns n = (ready_numbers q bound n ≡ m.next_id ∷ ready_numbers q bound m) × (length (out_versions n) ≡ length (out_versions m))

  spawns : (p : Option ℕ) (w : ℕ) (l : List ℕ) → 1 ≤ w → w ≤ count q m.events → Spawns (spawned m (fresh m.next_id p w l))
  unfolding Spawns
  spawns p w l begun there = (
    ready (is_ready q bound (spawned m new) new) (fresh_ready q k bound m kept p w l begun there)
        (same_pass q (inner q m.events) m.finished (is_ready q bound (spawned m new)) (is_ready q bound m) m.versions kept.sane.shape
        (λ id v at. older_ready q k bound m kept p w l v (by_own m.versions id v at))),
    out (is_out m.tickets m.next_id) (fresh_out q k bound m kept p w l),
  )
    where
      new : Version
      new = fresh m.next_id p w l

      ready : (b : Bool) → b ≡ true → filter (is_ready q bound (spawned m new)) m.versions ≡ filter (is_ready q bound m) m.versions
          → map (λ v. v.id) (cond b (new ∷ filter (is_ready q bound (spawned m new)) m.versions) (filter (is_ready q bound (spawned m new)) m.versions)) ≡ m.next_id ∷ ready_numbers q bound m
      ready true is rest = ap (λ (ws : List Version). m.next_id ∷ map (λ v. v.id) ws) rest
      ready false is rest = absurd (cc)

      out : (b : Bool) → b ≡ false → length (cond b (new ∷ out_versions m) (out_versions m)) ≡ length (out_versions m)
      out true is = absurd (cc)
      out false is = refl

  by_spawn : (parent : Option ℕ) (label : List ℕ) → refusal q bound m (s.Spawn parent label) ≡ None → Spawns (effect q m (s.Spawn parent label))
  by_spawn None label passes = let begins = root_open q bound m label passes in spawns None (m.finished + 1) [] (omega arith) begins.1
  by_spawn (Some p) label passes = one (version_at m.versions p) passes
    where
      one : (o : Option Version) → child_refusal q bound m p label o ≡ None → Spawns (child_spawned m p label o)
      one None passes = absurd (cc)
      one (Some u) passes = let begins = child_open q bound m p label u passes in spawns (Some p) (u.window + 1) label (omega arith) begins.window

  -- what a lease does to the ids that are ready, and to those that are busy
  Leases : ℕ → Machine → Type 0
  Leases id n = (ready_numbers q bound n ≡ filter (λ other. not (other == id)) (ready_numbers q bound m)) × (busy_count q bound n ≡ busy_count q bound m)

  leases : (id n : ℕ) (v : Version) → version_at m.versions id ≡ Some v → is_ready q bound m v ≡ true → Leases id (leased q m n (Some v))
  unfolding Leases
  leases id n v at was = (
    but_one q (inner q m.events) m.finished (is_ready q bound m) (is_ready q bound after) id m.versions kept.sane.shape
        (λ i w e. ready w (by_own m.versions i w e) (w.id == id) refl),
    ap (λ (ws : List Version). length ws) (same_pass q (inner q m.events) m.finished (is_busy q bound after) (is_busy q bound m) m.versions kept.sane.shape
        (λ i w e. busy w (by_own m.versions i w e) (w.id == id) refl)),
  )
    where
      after : Machine
      after = leased q m n (Some v)

      own : v.id ≡ id
      own = at_id m.versions id v at

      -- no ticket more for another version
      others : (w : Version) → (w.id == id) ≡ false → (v.id == w.id) ≡ false
      others w other = grind (arith, nat_tests, own)

      same_out : (w : Version) → (w.id == id) ≡ false → is_out (lent q m n v ∷ m.tickets) w.id ≡ is_out m.tickets w.id
      same_out w other = ap (λ (b : Bool). b || is_out m.tickets w.id) (others w other)

      same_bare : (w : Version) → (w.id == id) ≡ false → (i : ℕ) → is_bare (lent q m n v ∷ m.tickets) w.id i ≡ is_bare m.tickets w.id i
      same_bare w other i = ap (λ (b : Bool). (b && is_lent (lent q m n v) i) || is_bare m.tickets w.id i) (others w other)

      -- the leased version is out
      is_it : (w : Version) → (w.id == id) ≡ true → is_out (lent q m n v ∷ m.tickets) w.id ≡ true
      is_it w this = let same : (v.id == w.id) ≡ true = grind (arith, nat_tests, own) in ap (λ (b : Bool). b || is_out m.tickets w.id) same

      ready : (w : Version) → version_at m.versions w.id ≡ Some w → (b : Bool) → (w.id == id) ≡ b → is_ready q bound after w ≡ (is_ready q bound m w && not (w.id == id))
      ready w live true this = two (is_ready q bound after w) (is_ready q bound m w) (w.id == id) refl this
        where
          two : (b c d : Bool) → is_ready q bound after w ≡ b → d ≡ true → b ≡ (c && not d)
          two true c d is e = let free = ready_in q bound after w is in let out = is_it w this in absurd (cc)
          two false true d is e = cc
          two false false d is e = refl
      ready w live false other = two (is_ready q bound m w) (w.id == id) (same_ready q bound m (lent q m n v ∷ m.tickets) (m.next_ticket + 1) w live (same_out w other) (same_bare w other)) other
        where
          two : (c d : Bool) → is_ready q bound after w ≡ c → d ≡ false → is_ready q bound after w ≡ (c && not d)
          two true d is e = cc
          two false d is e = is

      busy : (w : Version) → version_at m.versions w.id ≡ Some w → (b : Bool) → (w.id == id) ≡ b → is_busy q bound after w ≡ is_busy q bound m w
      busy w live true this = two (is_out (lent q m n v ∷ m.tickets) w.id) (is_out m.tickets w.id) (is_ready q bound m w) (is_it w this) ready_was
        where
          two : (a b c : Bool) → a ≡ true → c ≡ true → cond a true (is_ready q bound after w) ≡ cond b true c
          two true true c out is = refl
          two true false c out is = sym is
          two false b c out is = absurd (cc)

          ready_was : is_ready q bound m w ≡ true
          ready_was =
              let own_id : w.id ≡ id = equal w.id id this in
              let found : version_at m.versions id ≡ Some w = subst (λ (z : ℕ). version_at m.versions z ≡ Some w) own_id live in
              let same : v ≡ w = cc in
              subst (λ (z : Version). is_ready q bound m z ≡ true) same was
      busy w live false other = same_busy q bound m (lent q m n v ∷ m.tickets) (m.next_ticket + 1) w live (same_out w other) (same_bare w other)

  by_lease : (id n : ℕ) → refusal q bound m (s.Lease id n) ≡ None → Leases id (effect q m (s.Lease id n))
  by_lease id n passes = one (version_at m.versions id) refl passes
    where
      one : (o : Option Version) → version_at m.versions id ≡ o → lease_refusal q m id o ≡ None → Leases id (leased q m n o)
      one None is passes = absurd (cc)
      one (Some v) is passes =
          let own : v.id ≡ id = at_id m.versions id v is in
          let ready : is_none (lease_refusal q m id (version_at m.versions id)) ≡ true = ap (λ (o : Option Version). is_none (lease_refusal q m id o)) is ∙ ap is_none passes in
          leases id n v is (subst (λ (z : ℕ). is_none (lease_refusal q m z (version_at m.versions z)) ≡ true) (sym own) ready)

-- where a ticket of another version ends, the same tickets are out for a version
ends_out : (t : Ticket) (ts us : List Ticket) (id : ℕ) → (t.version == id) ≡ false → Ends t ts us → is_out us id ≡ is_out ts id
ends_out t ts0 us0 id other (here ts) = ap (λ (b : Bool). b || is_out ts id) (sym other)
ends_out t ts0 us0 id other (later u ts us e) = ap (λ (b : Bool). (u.version == id) || b) (ends_out t ts us id other e)

ends_bare : (t : Ticket) (ts us : List Ticket) (id i : ℕ) → (t.version == id) ≡ false → Ends t ts us → is_bare us id i ≡ is_bare ts id i
ends_bare t ts0 us0 id i other (here ts) = ap (λ (b : Bool). (b && is_lent t i) || is_bare ts id i) (sym other)
ends_bare t ts0 us0 id i other (later u ts us e) = ap (λ (b : Bool). ((u.version == id) && is_lent u i) || b) (ends_bare t ts us id i other e)

module _ (q : Plan) (bound : ℕ) (m : Machine) (kept : Kept q m) (n : ℕ) (stale : IsStale m n) where
  abbrev after : Machine
  after = record m { tickets = without n m.tickets }

  -- its ticket is out for no live version
  another : (w : Version) → version_at m.versions w.id ≡ Some w → (stale.ticket.version == w.id) ≡ false
  another w live = differ stale.ticket.version w.id (λ same. let none : version_at m.versions w.id ≡ None = subst (λ (z : ℕ). version_at m.versions z ≡ None) same stale.gone in absurd (cc))

  ended : Ends stale.ticket m.tickets (without n m.tickets)
  ended = ends n stale.ticket m.tickets kept.sane.newest_first stale.out

  by_stale : (ready_numbers q bound (effect q m (s.Return n)) ≡ ready_numbers q bound m) × (busy_count q bound (effect q m (s.Return n)) ≡ busy_count q bound m)
  by_stale = subst (λ (z : Machine). (ready_numbers q bound z ≡ ready_numbers q bound m) × (busy_count q bound z ≡ busy_count q bound m)) (sym (stale_is q m n stale)) (
    ap (map (λ (v : Version). v.id)) (same_pass q (inner q m.events) m.finished (is_ready q bound after) (is_ready q bound m) m.versions kept.sane.shape
        (λ id w at. let live = by_own m.versions id w at in let other = another w live in
        same_ready q bound m (without n m.tickets) m.next_ticket w live (ends_out stale.ticket m.tickets (without n m.tickets) w.id other ended) (λ i. ends_bare stale.ticket m.tickets (without n m.tickets) w.id i other ended))),
    ap (λ (ws : List Version). length ws) (same_pass q (inner q m.events) m.finished (is_busy q bound after) (is_busy q bound m) m.versions kept.sane.shape
        (λ id w at. let live = by_own m.versions id w at in let other = another w live in
        same_busy q bound m (without n m.tickets) m.next_ticket w live (ends_out stale.ticket m.tickets (without n m.tickets) w.id other ended) (λ i. ends_bare stale.ticket m.tickets (without n m.tickets) w.id i other ended))),
  )

pub busy_is_counted : (q : Plan) (bound : ℕ) (m : Machine) → Lawful q → IsCompiled q → Reached q bound m → BusyIsCounted q bound m
unfolding Spawns Leases
busy_is_counted q bound m law compiled reached = record {
  parts = in_two (λ v. is_out m.tickets v.id) (is_ready q bound m) m.versions (λ v ready. ready_in q bound m v ready);
  by_spawn = λ parent label passes. by_spawn q (facts q law) bound m reached.kept parent label passes;
  by_lease = λ id n passes. by_lease q (facts q law) bound m reached.kept id n passes;
  by_stale = λ n stale. by_stale q bound m reached.kept n stale;
}
