-- When a live version is ready: nothing is out for it, it is in no conflict, and there is something to read.
use Rattle.std.proofs.Common.{◌≡◌, ℕ, zero, suc, ◌+◌, ◌≤◌, Bool, true, false, cond, not, ◌&&◌, ◌||◌, ◌==◌, nat_le, nat_lt, List, [], ◌∷◌, Option, Some, None, is_some, refl, sym, ap, ◌∙◌, subst, arith}
use Rattle.std.specs.Prelude.{is_none}
use Rattle.std.proofs.lemmas.Bool.Decides.{nat_tests}
use Rattle.sp_plan.specs.declared.plan.Plan.{Plan}
use Rattle.sp_plan.specs.Windows.{closed}
use Rattle.sp_plan.specs.WindowNumbers.{count, first, size}
use Rattle.sp_group.specs.declared.refusal.Refusal.{Refusal}
use Rattle.sp_group.specs.Rising.{least}
use Rattle.sp_group.specs.Machine.{Version, Ticket, Machine, version_at, out_for, is_out, is_bare, is_read, is_suppressed, is_hit, conflict}
use Rattle.sp_group.specs.Refusing.{refuse_if, refuse_for, has_nothing_to_read, lease_refusal}
use Rattle.sp_group.specs.Effects.{fresh, spawned}
use Rattle.sp_group.specs.Steps.{is_busy, is_ready}
use Rattle.sp_rules.specs.Kept.{Kept}
use Rattle.sp_rules.proofs.Facts.{Facts}
use Rattle.sp_rules.proofs.Lists.{least_some}
use Rattle.sp_rules.proofs.Spawning.{fresh_clear, older_hit}
use Rattle.sp_rules.proofs.Steps.{passes_for}
use Rattle.sp_rules.proofs.Tickets.{free_is}
use Rattle.sp_rules.proofs.Tree.{at_head, at_later, at_id}

-- nothing is refused where no cause holds
none_for : (o : Option ℕ) (why : ℕ → Refusal) (rest : Option Refusal) → is_none (refuse_for o why rest) ≡ (is_none o && is_none rest)
none_for (Some n) why rest = refl
none_for None why rest = refl

none_if : (b : Bool) (why : Refusal) → is_none (refuse_if b why None) ≡ not b
none_if true why = refl
none_if false why = refl

none_out : (ts : List Ticket) (id : ℕ) → is_none (out_for ts id) ≡ not (is_out ts id)
none_out [] id = refl
none_out (t ∷ ts) id = one (t.version == id) (none_out ts id)
  where
    one : (b : Bool) → is_none (out_for ts id) ≡ not (is_out ts id) → is_none (cond b (Some t.number) (out_for ts id)) ≡ not (b || is_out ts id)
    one true rest = refl
    one false rest = rest

none_some : (o : Option ℕ) → is_some o ≡ false → is_none o ≡ true
none_some None is = refl
none_some (Some n) is = absurd (cc)

some_none : (o : Option Refusal) → is_none o ≡ true → o ≡ None
some_none None is = refl
some_none (Some why) is = absurd (cc)

-- nothing is out for a version, it is in no conflict, and there is something to read
abbrev pub can_read : Plan → Machine → Version → Bool
can_read q m v = not (is_out m.tickets v.id) && (is_none (conflict q m v) && not (has_nothing_to_read q m v))

-- readiness of a live version
pub ready_is : (q : Plan) (bound : ℕ) (m : Machine) (v : Version) → version_at m.versions v.id ≡ Some v → is_ready q bound m v ≡ can_read q m v
ready_is q bound m v live =
    ap (λ (o : Option Version). is_none (lease_refusal q m v.id o)) live
    ∙ none_for (out_for m.tickets v.id) _ _
    ∙ parts _ _ _ _ _ _ (none_out m.tickets v.id) (none_for (conflict q m v) _ _) (none_if (has_nothing_to_read q m v) _)
  where
    parts : (a out b clear c reads : Bool) → a ≡ out → b ≡ (clear && c) → c ≡ reads → (a && b) ≡ (out && (clear && reads))
    parts a out b clear c reads e e' e'' = cc

-- nothing is out for what is ready
pub ready_in : (q : Plan) (bound : ℕ) (m : Machine) (v : Version) → is_ready q bound m v ≡ true → is_out m.tickets v.id ≡ false
ready_in q bound m v ready = one (version_at m.versions v.id) refl ready
  where
    one : (o : Option Version) → version_at m.versions v.id ≡ o → is_none (lease_refusal q m v.id o) ≡ true → is_out m.tickets v.id ≡ false
    one None is ready = absurd (cc)
    one (Some w) is ready =
        let none = passes_for (out_for m.tickets w.id) _ _ (some_none (lease_refusal q m v.id (Some w)) ready) in
        subst (λ (id : ℕ). is_out m.tickets id ≡ false) (at_id m.versions v.id w is) (free_is m.tickets w.id none.0)

-- the least number that passes is the same where the same numbers pass
pub least_same : (p p' : ℕ → Bool) (a n : ℕ) → ((i : ℕ) → p i ≡ p' i) → least p a n ≡ least p' a n
least_same p p' a zero same = refl
least_same p p' a (suc n) same = one (p a) (p' a) (same a) (least_same p p' (a + 1) n same)
  where
    one : (b c : Bool) → b ≡ c → least p (a + 1) n ≡ least p' (a + 1) n → cond b (Some a) (least p (a + 1) n) ≡ cond c (Some a) (least p' (a + 1) n)
    one true true is rest = refl
    one true false is rest = absurd (cc)
    one false true is rest = absurd (cc)
    one false false is rest = rest

-- Other tickets, with the same ones for a live version, leave it ready or not, and busy or not.
module _ (q : Plan) (bound : ℕ) (m : Machine) (us : List Ticket) (next : ℕ) where
  abbrev with_tickets : Machine
  with_tickets = record m { tickets = us; next_ticket = next }

  pub same_ready : (v : Version) → version_at m.versions v.id ≡ Some v → is_out us v.id ≡ is_out m.tickets v.id → ((i : ℕ) → is_bare us v.id i ≡ is_bare m.tickets v.id i)
      → is_ready q bound (record m { tickets = us; next_ticket = next }) v ≡ is_ready q bound m v
  same_ready v live out bare =
      let hits = least_same (is_hit q with_tickets v) (is_hit q m v) (first q m.events v.window) (size q m.events v.window)
      (λ i. ap (λ (b : Bool). is_suppressed q m v.id i && (is_read q m.events v i || b)) (bare i)) in
      ready_is q bound with_tickets v live
      ∙ ap (λ (b : Bool). not b && (is_none (conflict q with_tickets v) && not (has_nothing_to_read q m v))) out
      ∙ ap (λ (o : Option ℕ). not (is_out m.tickets v.id) && (is_none o && not (has_nothing_to_read q m v))) hits
      ∙ sym (ready_is q bound m v live)

  pub same_busy : (v : Version) → version_at m.versions v.id ≡ Some v → is_out us v.id ≡ is_out m.tickets v.id → ((i : ℕ) → is_bare us v.id i ≡ is_bare m.tickets v.id i)
      → is_busy q bound (record m { tickets = us; next_ticket = next }) v ≡ is_busy q bound m v
  same_busy v live out bare =
      ap (λ (b : Bool). cond b true (is_ready q bound with_tickets v)) out
      ∙ ap (λ (b : Bool). cond (is_out m.tickets v.id) true b) (same_ready v live out bare)

-- A version that is spawned is ready, and the others are ready or not as before.
module _ (q : Plan) (k : Facts q) (bound : ℕ) (m : Machine) (kept : Kept q m) (p : Option ℕ) (w : ℕ) (l : List ℕ) where
  abbrev new : Version
  new = fresh m.next_id p w l

  pub fresh_out : is_out m.tickets m.next_id ≡ false
  fresh_out = kept.sane.unborn m.next_id (omega arith)

  pub fresh_ready : 1 ≤ w → w ≤ count q m.events → is_ready q bound (spawned m (fresh m.next_id p w l)) (fresh m.next_id p w l) ≡ true
  fresh_ready one there =
      ready_is q bound (spawned m new) new (at_head new m.versions)
      ∙ all (is_out m.tickets m.next_id) (is_none (conflict q (spawned m new) new)) (has_nothing_to_read q (spawned m new) new) fresh_out
      (none_some (conflict q (spawned m new) new) (least_some (is_hit q (spawned m new) new) (first q m.events w) (size q m.events w) (λ i hit. fresh_clear q (spawned m new) p w l m.next_id i fresh_out hit)))
      (some (size q m.events w) (nat_lt (closed q m.events m.ended) w) (k.some m.events w kept.sane.good one there))
    where
      all : (a b c : Bool) → a ≡ false → b ≡ true → c ≡ false → (not a && (b && not c)) ≡ true
      all a b c out clear reads = cc

      some : (z : ℕ) (b : Bool) → 1 ≤ z → (nat_le z 0 && (false || b)) ≡ false
      some z b filled = grind (arith, nat_tests)

  pub older_ready : (v : Version) → version_at m.versions v.id ≡ Some v → is_ready q bound (spawned m (fresh m.next_id p w l)) v ≡ is_ready q bound m v
  older_ready v live =
      let older = kept.sane.ids v.id v live in
      let hits = least_same (is_hit q (spawned m new) v) (is_hit q m v) (first q m.events v.window) (size q m.events v.window)
      (λ i. older_hit q m new v i (λ same. let is : m.next_id ≡ v.id = same in absurd (omega arith))) in
      ready_is q bound (spawned m new) v (at_later new m.versions v.id v older live)
      ∙ ap (λ (o : Option ℕ). not (is_out m.tickets v.id) && (is_none o && not (has_nothing_to_read q m v))) hits
      ∙ sym (ready_is q bound m v live)
