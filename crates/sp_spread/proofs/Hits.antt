-- What a version reads after a step although it is suppressed for it, one of the same window read so before; the return of a ticket alone
-- can change that.
use Rattle.std.proofs.Common.{◌≡◌, ◌≢◌, ℕ, ◌+◌, Bool, true, false, cond, List, ◌∷◌, [], ◌++◌, Option, Some, None, is_some, ⊎_elim, refl, sym, ◌∙◌, subst, arith}
use Rattle.sp_plan.specs.declared.event.Event.{Event}
use Rattle.sp_plan.specs.declared.plan.Plan.{Plan}
use Rattle.sp_plan.specs.WindowNumbers.{Good}
use Rattle.sp_group.specs.Effects.{any_spawned, but, child_spawned, finished_one, fresh, leased, popped, promoted, rolled, settled, spawned, without}
use Rattle.sp_group.specs.Family.{prune}
use Rattle.sp_group.specs.Machine.{Machine, Version, conflict, inner, is_hit, kin, root_in, version_at}
use Rattle.sp_rules.specs.Kept.{Kept, Sane}
use Rattle.sp_rules.proofs.Facts.{Facts}
use Rattle.sp_rules.proofs.Feeding.{fed, same_inner}
use Rattle.sp_rules.proofs.Finish.{back, pop_sane}
use Rattle.sp_rules.proofs.Leasing.{fewer_hit}
use Rattle.sp_rules.proofs.Locals.{supp_same}
use Rattle.sp_rules.proofs.Roll.{cut_back}
use Rattle.sp_rules.proofs.Spawning.{fresh_clear, older_hit}
use Rattle.sp_rules.proofs.Tickets.{without_bare}
use Rattle.sp_rules.proofs.Tree.{at_cases, at_id, prune_is}
use Rattle.sp_spread.proofs.CalmFinish.{popped_hit, rises_window}
use Rattle.sp_spread.proofs.CalmRoll.{cut, cut_hit}
use Rattle.sp_spread.proofs.CalmSteps.{lent_hit}

-- a live version of the window reads the event although it is suppressed for it
pub record WasHit (q : Plan) (m : Machine) (window i : ℕ) : Type 0 where
  pub id : ℕ
  pub version : Version
  pub live : version_at m.versions id ≡ Some version
  pub of : version.window ≡ window
  pub hit : is_hit q m version i ≡ true

-- so it was in m wherever it is so in n
abbrev pub NoneHitAnew : Plan → Machine → Machine → Type 0
NoneHitAnew q m n = (id : ℕ) (w : Version) → version_at n.versions id ≡ Some w → (i : ℕ) → is_hit q n w i ≡ true → WasHit q m w.window i

module _ (q : Plan) where
  itself : (m : Machine) → NoneHitAnew q m m
  itself m id w at i hit = record { id = id; version = w; live = at; of = refl; hit = hit }

  one_after_another : (m n o : Machine) → NoneHitAnew q m n → NoneHitAnew q n o → NoneHitAnew q m o
  one_after_another m n o first second id w at i hit =
      let x = second id w at i hit in
      subst (λ (window : ℕ). WasHit q m window i) x.of (first x.id x.version x.live i x.hit)

  -- an event is fed
  pub by_feed : Facts q → (m : Machine) (e : Event) → Good q (m.events ++ e ∷ []) → Kept q m → NoneHitAnew q m (fed m e)
  by_feed k m e good h id w at i hit = record { id = id; version = w; live = at; of = refl; hit = sym as_before ∙ hit }
    where
      as_before : is_hit q (fed m e) w i ≡ is_hit q m w i
      as_before =
          let l = h.sane.each id w at in
          let a = supp_same q (inner q m.events) (inner q (m.events ++ e ∷ [])) m.consumed m.finished m.versions h.sane.shape (same_inner q k m e good h) w.id i in
          let b = k.first_fed m.events e w.window good l.there.0 l.there.1 in
          rw (a, b) refl

  -- a fresh version comes
  with_fresh : (m : Machine) (p : Option ℕ) (window : ℕ) (label : List ℕ) → Sane q m → NoneHitAnew q m (spawned m (fresh m.next_id p window label))
  with_fresh m p window label h id w at i hit = ⊎_elim
      (λ (y : (m.next_id ≡ id) × (new ≡ w)).
      absurd (fresh_clear q (spawned m new) p window label m.next_id i (h.unborn m.next_id (omega arith)) (subst (λ (z : Version). is_hit q (spawned m new) z i ≡ true) (sym y.1) hit)))
      (λ (y : (m.next_id ≢ id) × (version_at m.versions id ≡ Some w)).
      record { id = id; version = w; live = y.1; of = refl; hit = sym (older_hit q m new w i (λ z. y.0 (z ∙ at_id m.versions id w y.1))) ∙ hit })
      (at_cases new m.versions id w at)
    where
      new : Version
      new = fresh m.next_id p window label

  pub by_spawn : (m : Machine) (parent : Option ℕ) (label : List ℕ) → Sane q m → NoneHitAnew q m (any_spawned m parent label)
  by_spawn m None label h = with_fresh m None (m.finished + 1) [] h
  by_spawn m (Some p) label h = one (version_at m.versions p)
    where
      one : (o : Option Version) → NoneHitAnew q m (child_spawned m p label o)
      one None = itself m
      one (Some u) = with_fresh m (Some p) (u.window + 1) label h

  -- a ticket goes out, and ends
  pub by_lease : (m : Machine) (n : ℕ) (o : Option Version) → NoneHitAnew q m (leased q m n o)
  by_lease m n None = itself m
  by_lease m n (Some v) = λ id w at i hit. record { id = id; version = w; live = at; of = refl; hit = lent_hit q m n v w i hit }

  pub by_ending : (m : Machine) (n : ℕ) → NoneHitAnew q m (record m { tickets = without n m.tickets })
  by_ending m n id w at i hit =
      record { id = id; version = w; live = at; of = refl; hit = fewer_hit q m (without n m.tickets) w i (without_bare n m.tickets w.id i) hit }

  -- a version begins anew
  begun_anew : (m : Machine) (r : Version) → Sane q m → NoneHitAnew q m (rolled m (Some r))
  begun_anew m r h id w at i hit = ⊎_elim
      (λ (y : (m.next_id ≡ id) × (new ≡ w)).
      absurd (fresh_clear q (rolled m (Some r)) r.parent r.window r.label m.next_id i (h.unborn m.next_id (omega arith))
      (subst (λ (z : Version). is_hit q (rolled m (Some r)) z i ≡ true) (sym y.1) hit)))
      (λ (y : (m.next_id ≢ id) × (version_at (prune kin (but r.id) m.versions) id ≡ Some w)). older y.0 y.1)
      (at_cases new (prune kin (but r.id) m.versions) id w at)
    where
      new : Version
      new = fresh m.next_id r.parent r.window r.label

      older : m.next_id ≢ id → version_at (cut m r.id).versions id ≡ Some w → WasHit q m w.window i
      older apart there =
          let was = (cut_back q m r.id h id w there).0 in
          record {
            id = id;
            version = w;
            live = was;
            of = refl;
            hit = cut_hit q m r.id h id w there i (sym (older_hit q (cut m r.id) new w i (λ z. apart (z ∙ at_id m.versions id w was))) ∙ hit);
          }

  pub by_roll : (m : Machine) (o : Option Version) → Sane q m → NoneHitAnew q m (rolled m o)
  by_roll m None h = itself m
  by_roll m (Some r) h = begun_anew m r h

  -- the root goes
  popped_old : (m : Machine) (r : Version) → Sane q m → root_in m.versions ≡ Some r → NoneHitAnew q m (popped q m r)
  popped_old m r h root id w at i hit =
      let b = back q (inner q m.events) r.id m.finished m.versions (popped q m r).versions (prune_is (promoted r.id) m.versions) h.shape id w at in
      record { id = id; version = b.0; live = b.1; of = sym (rises_window r.id b.0 w b.2); hit = popped_hit q m r h root id w at b.0 b.2 i hit }

  settled_old : (m : Machine) (o : Option Version) → Sane q m → NoneHitAnew q m (settled q m o)
  settled_old m None h = itself m
  settled_old m (Some v) h = one (is_some (conflict q m v))
    where
      one : (b : Bool) → NoneHitAnew q m (cond b (rolled m (Some v)) m)
      one true = begun_anew m v h
      one false = itself m

  pub by_finish : Facts q → (m : Machine) (r : Version) → root_in m.versions ≡ Some r → r.done ≡ true → Kept q m → NoneHitAnew q m (finished_one q m (Some r))
  by_finish k m r root done h =
      let p = popped q m r in
      one_after_another m p (finished_one q m (Some r)) (popped_old m r h.sane root) (settled_old p (root_in p.versions) (pop_sane q k m r root done h))
