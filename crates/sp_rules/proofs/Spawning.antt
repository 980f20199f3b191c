-- A version that is spawned keeps what every state keeps.
use Rattle.std.proofs.Common.{◌≡◌, ◌≢◌, ℕ, ◌+◌, ◌<◌, ◌≤◌, Bool, true, false, cond, ◌&&◌, ◌==◌, List, [], ◌∷◌, Option, Some, None, ⊎_elim, refl, sym, ap, ◌∙◌, subst, arith}
use Rattle.std.proofs.lemmas.Bool.Decides.{nat_tests}
use Rattle.std.proofs.lemmas.List.Elements.{All-nil}
use Rattle.sp_plan.specs.declared.plan.Plan.{Plan}
use Rattle.sp_plan.specs.WindowNumbers.{count, first}
use Rattle.sp_group.specs.Rising.{IsLabel}
use Rattle.sp_group.specs.Family.{is_parent}
use Rattle.sp_group.specs.Machine.{Version, Machine, version_at, root_in, is_out, is_bare, is_hit, is_group, inner, suppressed_by, is_suppressed}
use Rattle.sp_group.specs.Refusing.{same_list, child_with, not_open}
use Rattle.sp_group.specs.Effects.{fresh, spawned}
use Rattle.sp_rules.specs.Kept.{Stands, Local, Sane, Kept}
use Rattle.sp_rules.proofs.Lists.{and_left, and_right, and_both, find_none}
use Rattle.sp_rules.proofs.Tickets.{bare_out}
use Rattle.sp_rules.proofs.Tree.{at_cases, at_id, supp_later}
use Rattle.sp_rules.proofs.Locals.{local_grows, local_fresh, rootless}
use Rattle.sp_rules.proofs.Home.{HasRead, hit_cases}

pub fresh_sane : (q : Plan) (s : Machine) (p : Option ℕ) (w : ℕ) (l : List ℕ) → Sane q s → 1 ≤ w → w ≤ count q s.events → IsLabel l → Stands q (inner q s.events) s.finished s.versions (fresh s.next_id p w l) p → Sane q (spawned s (fresh s.next_id p w l))
fresh_sane q s p w l h one there rl st = record {
  shape = (record { newest = h.ids; labelled = rl; stands = st }, h.shape);
  each = λ id v at. each id v at;
  ids = λ id v at. ⊎_elim
      (λ (y : (s.next_id ≡ id) × (fresh s.next_id p w l ≡ v)). let e = y.0 in omega arith)
      (λ (y : (s.next_id ≢ id) × (version_at s.versions id ≡ Some v)). let e = h.ids id v y.1 in omega arith)
      (at_cases (fresh s.next_id p w l) s.versions id v at);
  newest_first = h.newest_first;
  numbers = h.numbers;
  unborn = λ id le. h.unborn id (omega arith);
  emitted = h.emitted;
  consumed = h.consumed;
  good = h.good;
  closed = h.closed;
}
  where
    each : (id : ℕ) (v : Version) → version_at (fresh s.next_id p w l ∷ s.versions) id ≡ Some v → Local q s.events s.ended s.tickets (suppressed_by q (inner q s.events) s.consumed (fresh s.next_id p w l ∷ s.versions) id) v
    each id v at = ⊎_elim
        (λ (y : (s.next_id ≡ id) × (fresh s.next_id p w l ≡ v)). subst (λ (z : Version). Local q s.events s.ended s.tickets (suppressed_by q (inner q s.events) s.consumed (fresh s.next_id p w l ∷ s.versions) id) z) y.1
        (local_fresh q s.events s.ended s.tickets (suppressed_by q (inner q s.events) s.consumed (fresh s.next_id p w l ∷ s.versions) id) s.next_id p w l one there (h.unborn s.next_id (omega arith))))
        (λ (y : (s.next_id ≢ id) × (version_at s.versions id ≡ Some v)).
        local_grows q s.events s.ended s.tickets s.tickets (is_suppressed q s id) (suppressed_by q (inner q s.events) s.consumed (fresh s.next_id p w l ∷ s.versions) id) v
        (λ i x. supp_later q (inner q s.events) s.consumed (fresh s.next_id p w l) s.versions id i y.0 ∙ x) (λ n t e. e) (h.each id v y.1))
        (at_cases (fresh s.next_id p w l) s.versions id v at)

-- a fresh version is in no conflict
pub fresh_clear : (q : Plan) (s : Machine) (p : Option ℕ) (w : ℕ) (l : List ℕ) (id i : ℕ) → is_out s.tickets id ≡ false → is_hit q s (fresh id p w l) i ≡ true → ⊥
fresh_clear q s p w l id i h x = ⊎_elim
    (λ (y : HasRead q s.events (fresh id p w l) i). no_range (first q s.events w) (fresh id p w l).position (omega arith) y.0 y.1)
    (λ (y : is_bare s.tickets id i ≡ true). let z = bare_out s.tickets id i y in cc)
    (hit_cases q s (fresh id p w l) i x).1
  where
    no_range : (f n : ℕ) → n ≡ 0 → f ≤ i → i < f + n → ⊥
    no_range f n none low high = absurd (omega arith)

-- the hits of an older version are those before
pub older_hit : (q : Plan) (s : Machine) (new : Version) (v : Version) (i : ℕ) → new.id ≢ v.id → is_hit q (spawned s new) v i ≡ is_hit q s v i
older_hit q s new v i n = let a = supp_later q (inner q s.events) s.consumed new s.versions v.id i n in rw a refl

-- the root of a machine that has none
abbrev pub root_of : Machine → Version
root_of s = fresh s.next_id None (s.finished + 1) []

pub empty_label : IsLabel []
empty_label = record { rising = λ k l. absurd (omega (arith, l)); given = All-nil (λ r. r ≢ 0) }

pub spawn_root_keeps : (q : Plan) (s : Machine) → root_in s.versions ≡ None → s.finished + 1 ≤ count q s.events → Kept q s → Kept q (spawned s (root_of s))
spawn_root_keeps q s none there h =
    let empty = rootless q (inner q s.events) s.finished s.versions h.sane.shape none in
    record {
      sane = fresh_sane q s None (s.finished + 1) [] h.sane (omega arith) there empty_label (empty, refl, refl);
      clear = λ id v at root i x. ⊎_elim
          (λ (y : (s.next_id ≡ id) × (root_of s ≡ v)).
          fresh_clear q (spawned s (root_of s)) None (s.finished + 1) [] s.next_id i (h.sane.unborn s.next_id (omega arith)) (subst (λ (z : Version). is_hit q (spawned s (root_of s)) z i ≡ true) (sym y.1) x))
          (λ (y : (s.next_id ≢ id) × (version_at s.versions id ≡ Some v)).
          let z : version_at [] id ≡ Some v = subst (λ (z : List Version). version_at z id ≡ Some v) empty y.1 in absurd (cc))
          (at_cases (root_of s) s.versions id v at);
    }

-- lists that are told to be the same are
pub same_is : (ms ns : List ℕ) → same_list ms ns ≡ true → ms ≡ ns
same_is [] [] h = refl
same_is [] (n ∷ ns) h = absurd (cc)
same_is (m ∷ ms) [] h = absurd (cc)
same_is (m ∷ ms) (n ∷ ns) h =
    let head : m ≡ n = let a = and_left (m == n) (same_list ms ns) h in grind (arith, nat_tests) in
    ap (λ k. k ∷ ms) head ∙ ap (λ ks. n ∷ ks) (same_is ms ns (and_right (m == n) (same_list ms ns) h))

same_refl : (l : List ℕ) → same_list l l ≡ true
same_refl [] = refl
same_refl (x ∷ xs) = grind (arith, nat_tests, same_refl xs)

-- where no child has the label, no child has it
pub not_taken : (vs : List Version) (p : ℕ) (l : List ℕ) → child_with vs p l ≡ None → (id : ℕ) (w : Version) → version_at vs id ≡ Some w → w.parent ≡ Some p → w.label ≡ l → ⊥
not_taken [] p l h id w e o m = absurd (cc)
not_taken (x ∷ vs) p l h id w e o m = one (is_parent p x.parent && same_list x.label l) refl h (not_taken vs p l)
  where
    is_it : x ≡ w → (is_parent p x.parent && same_list x.label l) ≡ true
    is_it same =
        let a : is_parent p w.parent ≡ true = subst (λ (z : Option ℕ). is_parent p z ≡ true) (sym o) (grind (arith, nat_tests)) in
        let b : same_list w.label l ≡ true = subst (λ (z : List ℕ). same_list z l ≡ true) (sym m) (same_refl l) in
        subst (λ (z : Version). (is_parent p z.parent && same_list z.label l) ≡ true) (sym same) (and_both (is_parent p w.parent) (same_list w.label l) a b)

    one : (b : Bool) → (is_parent p x.parent && same_list x.label l) ≡ b → cond b (Some x.id) (child_with vs p l) ≡ None
        → (child_with vs p l ≡ None → (id : ℕ) (w : Version) → version_at vs id ≡ Some w → w.parent ≡ Some p → w.label ≡ l → ⊥) → ⊥
    one true is h ih = absurd (cc)
    one false is h ih = ⊎_elim
        (λ (y : (x.id ≡ id) × (x ≡ w)). let t = is_it y.1 in absurd (cc))
        (λ (y : (x.id ≢ id) × (version_at vs id ≡ Some w)). ih h id w y.1 o m)
        (at_cases x vs id w e)

-- the child of a parent with a label
abbrev pub child_of : Machine → Version → ℕ → List ℕ → Version
child_of s u p l = fresh s.next_id (Some p) (u.window + 1) l

pub spawn_child_keeps : (q : Plan) (s : Machine) (p : ℕ) (l : List ℕ) (u : Version) → version_at s.versions p ≡ Some u → u.window + 1 ≤ count q s.events → not_open q s u l ≡ None → child_with s.versions p l ≡ None → IsLabel l → Kept q s → Kept q (spawned s (child_of s u p l))
spawn_child_keeps q s p l u at there all free rl h = record {
  sane = fresh_sane q s (Some p) (u.window + 1) l h.sane (omega arith) there rl (record {
    parent = u;
    is = at;
    next = refl;
    names = λ r m. find_none r (is_group q (inner q s.events u)) l all m;
    apart = λ id w e o m. not_taken s.versions p l free id w e o m;
  });
  clear = λ id v e root i x. ⊎_elim
      (λ (y : (s.next_id ≡ id) × (child_of s u p l ≡ v)).
      let z : Some p ≡ None = ap (λ (w : Version). w.parent) y.1 ∙ root in absurd (cc))
      (λ (y : (s.next_id ≢ id) × (version_at s.versions id ≡ Some v)).
      h.clear id v y.1 root i (sym (older_hit q s (child_of s u p l) v i (λ z. y.0 (z ∙ at_id s.versions id v y.1))) ∙ x))
      (at_cases (child_of s u p l) s.versions id v e);
}
