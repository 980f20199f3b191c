-- A version of the tree that begins anew: what the machine's version is then, what it holds, and how much room that frees.
use Rattle.std.proofs.Common.{◌≡◌, ℕ, ◌+◌, ◌≤◌, Bool, true, false, cond, ◌==◌, ◌||◌, List, [], ◌∷◌, map, Option, Some, None, refl, sym, ap, subst, ◌∙◌, arith, rules, eq-eqb}
use Rattle.std.specs.Prelude.{IsSome}
use Rattle.std.specs.List.{All, sum}
use Rattle.std.proofs.lemmas.List.Elements.{All-cons}
use Rattle.std.proofs.lemmas.Bool.Decides.{nat_tests}
use Rattle.std.proofs.lemmas.Option.{same_Some, none-some}
use Rattle.sp_base.specs.Numbers.{with_numbers}
use Rattle.sp_plan.specs.declared.event.Event.{Event}
use Rattle.sp_plan.specs.declared.plan.Plan.{Plan}
use Rattle.sp_plan.specs.Runs as runs
use Rattle.sp_plan.specs.Runs.{State}
use Rattle.sp_plan.specs.Groups.{used_by_all}
use Rattle.sp_plan.specs.WindowNumbers.{first}
use Rattle.sp_plan.specs.Same.{SamePlan}
use Rattle.sp_match.specs.public.Matching.{Stands}
use Rattle.sp_version.specs.declared.version.Version.{Version}
use Rattle.sp_group.specs.Family.{entry_at, prune}
use Rattle.sp_group.specs.Machine as machine
use Rattle.sp_group.specs.Machine.{Ticket, inner, is_group, is_out, out_for}
use Rattle.sp_group.specs.Effects as effects
use Rattle.sp_group.specs.Effects.{fresh}
use Rattle.sp_tree.specs.Grown.{Grown, Entry, kin, lifted, with_version, answered, begun_anew, renewed, value_of, with_value}
use Rattle.sp_tree.specs.Changes.{but}
use Rattle.sp_core.specs.Holding.{Holds, version_of, unnumbered}
use Rattle.sp_core.specs.Renewing.{IsRestarted, IsAnew, anew, all_anew}
use Rattle.sp_core.proofs.Pruning.{all_pruned, but_pruned, sum_first, sum_without}

pub version_anew : (next : ℕ) (e : Entry Version) (value : Version) → IsRestarted e.value value
    → version_of (anew next e value) ≡ fresh next e.version.parent e.value.window e.version.label
version_anew next e value r = rw (r.window, r.position, r.skipped, r.done) refl

pub versions_anew : (next id : ℕ) (e : Entry Version) (value : Version) (es : List (Entry Version)) → IsRestarted e.value value
    → map version_of (all_anew next id e value es)
    ≡ fresh next e.version.parent e.value.window e.version.label ∷ prune machine.kin (effects.but id) (map version_of es)
versions_anew next id e value es r =
    ap (λ (v : machine.Version). v ∷ map version_of (prune kin (lifted (but id)) es)) (version_anew next e value r)
    ∙ ap (λ (vs : List machine.Version). fresh next e.version.parent e.value.window e.version.label ∷ vs) (but_pruned id es)

-- for what is not out no ticket is
pub not_out : (ts : List Ticket) (id : ℕ) → is_out ts id ≡ false → out_for ts id ≡ None
not_out [] id h = refl
not_out (t ∷ ts) id h = one (t.version == id) h (not_out ts id)
  where
    one : (b : Bool) → (b || is_out ts id) ≡ false → (is_out ts id ≡ false → out_for ts id ≡ None) → cond b (Some t.number) (out_for ts id) ≡ None
    one true h rest = absurd (cc)
    one false h rest = rest h

same_lifted : (id : ℕ) (e new : Entry Version) → lifted (but id) e ≡ Some new → e ≡ new
same_lifted id e new is = one (e.version.id == id) is
  where
    one : (b : Bool) → with_version e.value (cond b None (Some e.version)) ≡ Some new → e ≡ new
    one true is = absurd (cc)
    one false is = same_Some e new is

-- the entry of an id has that id
pub at_entry : (es : List (Entry Version)) (id : ℕ) (e : Entry Version) → entry_at kin es id ≡ Some e → e.version.id ≡ id
at_entry [] id e h = absurd (cc)
at_entry (x ∷ es) id e h = one (x.version.id == id) refl h (at_entry es id e)
  where
    one : (b : Bool) → (x.version.id == id) ≡ b → cond b (Some x) (entry_at kin es id) ≡ Some e → (entry_at kin es id ≡ Some e → e.version.id ≡ id) → e.version.id ≡ id
    one true is h rest = let same = ap (λ (y : Entry Version). y.version.id) (same_Some x e h) in grind (arith, nat_tests)
    one false is h rest = rest h

module _ (q : Plan) (events : List Event) (tickets : List Ticket) where
  pub holds_anew : (next : ℕ) (e : Entry Version) (value : Version) → IsRestarted e.value value → is_out tickets next ≡ false → Holds q events tickets e
      → Holds q events tickets (anew next e value)
  holds_anew next e value r free h =
      let none : inner q events (version_of (anew next e value)) ≡ runs.fresh = ap (inner q events) (version_anew next e value r) in record {
        first = r.first ∙ h.first ∙ ap (first q events) (sym r.window);
        plan = subst (λ (p : Plan). SamePlan p q) (sym r.plan) h.plan;
        stands = subst (λ (s : State). Stands value.matcher s) (sym none) (record { open_is = r.none; started_is = r.count });
        matches = r.matches ∙ sym (ap (unnumbered q value.window) none);
        copies = r.copies ∙ sym (ap (unnumbered q value.window) none);
        used = r.used ∙ sym (ap (λ (s : State). with_numbers [] (used_by_all q s)) none);
        out = r.out ∙ sym (not_out tickets next free);
        groups = λ x. sym (ap (λ (s : State). is_group q s x) none);
        rising = search rules;
      }

  pub all_hold_anew : (next id : ℕ) (e : Entry Version) (value : Version) (es : List (Entry Version)) → IsRestarted e.value value → is_out tickets next ≡ false
      → Holds q events tickets e → All (Holds q events tickets) es → All (Holds q events tickets) (all_anew next id e value es)
  all_hold_anew next id e value es r free here all =
      All-cons (Holds q events tickets) (anew next e value) (prune kin (lifted (but id)) es) (holds_anew next e value r free here)
      (all_pruned kin (lifted (but id)) (Holds q events tickets) (Holds q events tickets) (λ x new is h. subst (Holds q events tickets) (same_lifted id x new is) h) es all)

-- What entries count for in a sum, where the one that begins anew counts for less than before.
pub sum_anew : (g : Entry Version → ℕ) (next id : ℕ) (e : Entry Version) (value : Version) (es : List (Entry Version)) → entry_at kin es id ≡ Some e
    → sum (map g (all_anew next id e value es)) + g e ≤ sum (map g es) + g (anew next e value)
sum_anew g next id e value es at =
    let front = sum_first g (anew next e value) (prune kin (lifted (but id)) es) in
    let rest = sum_without kin (lifted (but id)) g (λ x new is. let same = ap g (same_lifted id x new is) in omega arith) es id e at (gone e (at_entry es id e at)) in
    omega arith
  where
    gone : (x : Entry Version) → x.version.id ≡ id → lifted (but id) x ≡ None
    gone x is = let same : (x.version.id == id) ≡ true = eq-eqb x.version.id id is in rw same refl

some_entry : (o : Option (Entry Version)) → IsSome o → (e : Entry Version) × (o ≡ Some e)
some_entry None h = absurd (cc)
some_entry (Some e) h = (e, refl)

found_anew : (old now : Grown Version) (id next : ℕ) (e : Entry Version) → entry_at kin old.entries id ≡ Some e
    → Some next ≡ answered old.next (entry_at kin old.entries id) → now ≡ renewed old id
    → (next ≡ old.next) × (now ≡ begun_anew old id (Some e)) × (value_of (entry_at kin now.entries next) ≡ Some e.value)
found_anew old now id next e at answer renews =
    let next_is : next ≡ old.next = same_Some next old.next (answer ∙ ap (answered old.next) at) in
    let now_is : now ≡ begun_anew old id (Some e) = renews ∙ ap (begun_anew old id) at in
    let same : (old.next == old.next) ≡ true = eq-eqb old.next old.next refl in (
      next_is,
      now_is,
      ap (λ (t : Grown Version). value_of (entry_at kin t.entries next)) now_is
          ∙ ap (λ n. value_of (entry_at kin (begun_anew old id (Some e)).entries n)) next_is ∙ rw same refl,
    )

-- the new id is live
pub not_found : (old now : Grown Version) (id next : ℕ) → IsSome (entry_at kin old.entries id) → Some next ≡ answered old.next (entry_at kin old.entries id)
    → now ≡ renewed old id → None ≡ value_of (entry_at kin now.entries next) → ⊥
not_found old now id next live answer renews none =
    let e = some_entry (entry_at kin old.entries id) live in
    let f = found_anew old now id next e.0 e.1 answer renews in
    none-some e.0.value (none ∙ f.2)

-- a live version that gets the next id, and whose value is restarted then
pub begins_anew : (old now new : Grown Version) (id next : ℕ) (held value : Version) → IsSome (entry_at kin old.entries id)
    → Some next ≡ answered old.next (entry_at kin old.entries id) → now ≡ renewed old id → Some held ≡ value_of (entry_at kin now.entries next)
    → IsRestarted held value → new ≡ with_value now next value → IsAnew old id new
begins_anew old now new id next held value live answer renews found restarted wrote =
    let e = some_entry (entry_at kin old.entries id) live in
    let f = found_anew old now id next e.0 e.1 answer renews in
    let same : (old.next == old.next) ≡ true = eq-eqb old.next old.next refl in
    record {
      entry = e.0;
      value = value;
      was = e.1;
      restarted = subst (λ (v : Version). IsRestarted v value) (same_Some held e.0.value (found ∙ f.2)) restarted;
      is = wrote ∙ ap (λ (t : Grown Version). with_value t next value) f.1
          ∙ ap (λ n. with_value (begun_anew old id (Some e.0)) n value) f.0 ∙ rw same refl;
    }
