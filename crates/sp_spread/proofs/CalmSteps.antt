-- A spawn, a lease and the return of what is stale make no conflict where there is none.
use Rattle.std.proofs.Common.{◌≡◌, ◌≢◌, ℕ, ◌+◌, true, ◌&&◌, ◌==◌, List, [], ◌∷◌, Option, Some, None, ⊎_elim, refl, sym, ◌∙◌, subst, arith}
use Rattle.std.specs.List.{range_with_len}
use Rattle.std.proofs.lemmas.Bool.Decides.{nat_tests}
use Rattle.sp_base.specs.Numbers.{is_among}
use Rattle.sp_plan.specs.declared.plan.Plan.{Plan}
use Rattle.sp_group.specs.declared.step.Step.TheVariants as s
use Rattle.sp_group.specs.Machine.{Version, Ticket, Machine, version_at, is_lent, is_bare, is_hit, conflict, is_suppressed}
use Rattle.sp_group.specs.Refusing.{refusal}
use Rattle.sp_group.specs.Effects.{fresh, spawned, child_spawned, lent_count, next_number, lent, leased, without, home, returned, effect}
use Rattle.sp_rules.specs.Kept.{Sane}
use Rattle.sp_rules.proofs.Lists.{or_cases, and_left, and_right, filter_mem, range_mem}
use Rattle.sp_rules.proofs.Tickets.{lent_is, without_bare}
use Rattle.sp_rules.proofs.Tree.{at_cases, at_id}
use Rattle.sp_rules.proofs.Home.{HasRead, hit_cases, hit_read, hit_bare}
use Rattle.sp_rules.proofs.Spawning.{older_hit}
use Rattle.sp_rules.proofs.Leasing.{fewer_hit}
use Rattle.sp_spread.specs.Calm.{AreCalm}
use Rattle.sp_spread.specs.Laws.{IsStale}
use Rattle.sp_spread.proofs.Conflicts.{stays_clear, fresh_is_clear}

spawned_calm : (q : Plan) (m : Machine) (p : Option ℕ) (w : ℕ) (l : List ℕ) → Sane q m → AreCalm q m → AreCalm q (spawned m (fresh m.next_id p w l))
spawned_calm q m p w l h calm id v at = ⊎_elim
    (λ (y : (m.next_id ≡ id) × (fresh m.next_id p w l ≡ v)).
    subst (λ (z : Version). conflict q (spawned m (fresh m.next_id p w l)) z ≡ None) y.1 (fresh_is_clear q (spawned m (fresh m.next_id p w l)) p w l m.next_id (h.unborn m.next_id (omega arith))))
    (λ (y : (m.next_id ≢ id) × (version_at m.versions id ≡ Some v)).
    stays_clear q m (spawned m (fresh m.next_id p w l)) v v refl refl
    (λ i x. sym (older_hit q m (fresh m.next_id p w l) v i (λ z. y.0 (z ∙ at_id m.versions id v y.1))) ∙ x) (calm id v y.1))
    (at_cases (fresh m.next_id p w l) m.versions id v at)

pub spawn_is_calm : (q : Plan) (bound : ℕ) (m : Machine) → Sane q m → (parent : Option ℕ) (label : List ℕ) → refusal q bound m (s.Spawn parent label) ≡ None
    → AreCalm q m → AreCalm q (effect q m (s.Spawn parent label))
spawn_is_calm q bound m h None label accepted calm = spawned_calm q m None (m.finished + 1) [] h calm
spawn_is_calm q bound m h (Some p) label accepted calm = one (version_at m.versions p)
  where
    one : (o : Option Version) → AreCalm q (child_spawned m p label o)
    one None = calm
    one (Some u) = spawned_calm q m (Some p) (u.window + 1) label h calm

eq_true : (a b : ℕ) → (a == b) ≡ true → a ≡ b
eq_true a b h = grind (arith, nat_tests)

-- what is suppressed of what is lent is in the snapshot
pub lent_hit : (q : Plan) (m : Machine) (n : ℕ) (v w : Version) (i : ℕ) → is_hit q (leased q m n (Some v)) w i ≡ true → is_hit q m w i ≡ true
lent_hit q m n v w i x =
    let o = hit_cases q (leased q m n (Some v)) w i x in
    ⊎_elim
    (λ (y : HasRead q m.events w i). hit_read q m w i o.0 y)
    (λ (y : is_bare (lent q m n v ∷ m.tickets) w.id i ≡ true). ⊎_elim
    (λ (z : (v.id == w.id && is_lent (lent q m n v) i) ≡ true).
    let same : v.id ≡ w.id = eq_true v.id w.id (and_left (v.id == w.id) (is_lent (lent q m n v) i) z) in
    let b = lent_is (lent q m n v) i (and_right (v.id == w.id) (is_lent (lent q m n v) i) z) in
    let inside : is_among (lent q m n v).snapshot i ≡ true = filter_mem i (is_suppressed q m v.id) (range_with_len (next_number q m v) (lent_count q m n v))
    (range_mem i (next_number q m v) (lent_count q m n v) b.0 b.1) (subst (λ (k : ℕ). is_suppressed q m k i ≡ true) (sym same) o.0) in
    let out = b.2 in
    absurd (cc))
    (λ (z : is_bare m.tickets w.id i ≡ true). hit_bare q m w i o.0 z)
    (or_cases (v.id == w.id && is_lent (lent q m n v) i) (is_bare m.tickets w.id i) y))
    o.1

pub lease_is_calm : (q : Plan) (bound : ℕ) (m : Machine) (id n : ℕ) → refusal q bound m (s.Lease id n) ≡ None → AreCalm q m → AreCalm q (effect q m (s.Lease id n))
lease_is_calm q bound m id n accepted calm = one (version_at m.versions id)
  where
    one : (o : Option Version) → AreCalm q (leased q m n o)
    one None = calm
    one (Some v) = λ other w at. stays_clear q m (leased q m n (Some v)) w w refl refl (lent_hit q m n v w) (calm other w at)

pub stale_is_calm : (q : Plan) (m : Machine) (n : ℕ) → IsStale m n → AreCalm q m → AreCalm q (effect q m (s.Return n))
stale_is_calm q m n stale calm =
    subst (λ (o : Option Ticket). AreCalm q (returned q m n o)) (sym stale.out)
    (subst (λ (o : Option Version). AreCalm q (home q m n stale.ticket o)) (sym stale.gone) one)
  where
    one : AreCalm q (record m { tickets = without n m.tickets })
    one id v at = stays_clear q m (record m { tickets = without n m.tickets }) v v refl refl (λ i x. fewer_hit q m (without n m.tickets) v i (without_bare n m.tickets v.id i) x) (calm id v at)
