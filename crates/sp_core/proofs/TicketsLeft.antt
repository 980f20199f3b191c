-- The tickets without the one of a number: where it stood, and what is out for versions then.
use Rattle.std.proofs.Common.{◌≡◌, ℕ, zero, suc, Bool, true, false, cond, not, ◌==◌, List, [], ◌∷◌, map, Some, None, refl, sym, ap, ◌∙◌, arith}
use Rattle.std.specs.Prelude.{slice_get}
use Rattle.std.specs.List.{remove}
use Rattle.std.proofs.lemmas.Bool.Decides.{nat_tests}
use Rattle.sp_group.specs.Machine.{Ticket, ticket_at, out_for}
use Rattle.sp_group.specs.Effects.{without}
use Rattle.sp_rules.specs.Kept.{NewestFirst}
use Rattle.sp_core.specs.declared.lent.Lent.{Lent}
use Rattle.sp_core.specs.Carrying.{ticket_of}
use Rattle.sp_core.specs.Returning.{IsPlaceOf}

-- a ticket that stands somewhere is found by its number
pub found_somewhere : (ts : List Ticket) (place : ℕ) (t : Ticket) → slice_get ts place ≡ Some t → (u : Ticket) × (ticket_at ts t.number ≡ Some u)
found_somewhere [] place t at = absurd (cc)
found_somewhere (x ∷ ts) place t at = one (x.number == t.number) refl place at (λ k there. found_somewhere ts k t there)
  where
    one : (b : Bool) → (x.number == t.number) ≡ b → (place : ℕ) → slice_get (x ∷ ts) place ≡ Some t
        → ((k : ℕ) → slice_get ts k ≡ Some t → (u : Ticket) × (ticket_at ts t.number ≡ Some u))
        → (u : Ticket) × (cond b (Some x) (ticket_at ts t.number) ≡ Some u)
    one true is place at rest = (x, refl)
    one false is zero at rest = let same : x ≡ t = cc in let number = ap (λ (u : Ticket). u.number) same in absurd (grind (arith, nat_tests))
    one false is (suc place) at rest = rest place at

-- a number that is found nowhere takes no ticket away
none_taken : (n : ℕ) (ts : List Ticket) → ((u : Ticket) → ticket_at ts n ≡ Some u → ⊥) → without n ts ≡ ts
none_taken n [] none = refl
none_taken n (x ∷ ts) none = one (x.number == n) none (none_taken n ts)
  where
    one : (b : Bool) → ((u : Ticket) → cond b (Some x) (ticket_at ts n) ≡ Some u → ⊥) → (((u : Ticket) → ticket_at ts n ≡ Some u → ⊥) → without n ts ≡ ts)
        → cond (not b) (x ∷ without n ts) (without n ts) ≡ x ∷ ts
    one true none rest = absurd (none x refl)
    one false none rest = ap (λ us. x ∷ us) (rest none)

-- the ticket at a place is taken out by its number
pub taken_out : (ts : List Ticket) (place : ℕ) (t : Ticket) → NewestFirst ts → slice_get ts place ≡ Some t → remove ts place ≡ without t.number ts
taken_out [] place t newest at = absurd (cc)
taken_out (x ∷ ts) zero t newest at =
    let same : x ≡ t = cc in
    let number = ap (λ (u : Ticket). u.number) same in
    let is : (x.number == t.number) ≡ true = grind (arith, nat_tests) in
    sym (
    ap (λ b. cond (not b) (x ∷ without t.number ts) (without t.number ts)) is
    ∙ none_taken t.number ts (λ u there. let low = newest.0 t.number u there in absurd (omega arith))
    )
taken_out (x ∷ ts) (suc place) t newest at =
    let there = found_somewhere ts place t at in
    let low = newest.0 t.number there.0 there.1 in
    let is : (x.number == t.number) ≡ false = grind (arith, nat_tests) in
    ap (λ us. x ∷ us) (taken_out ts place t newest.1 at)
    ∙ sym (ap (λ b. cond (not b) (x ∷ without t.number ts) (without t.number ts)) is)

-- where no other ticket is out for a version, none is without that one
pub none_out : (ts : List Ticket) (n id : ℕ) → NewestFirst ts → ((m : ℕ) (u : Ticket) → ticket_at ts m ≡ Some u → u.version ≡ id → m ≡ n)
    → out_for (without n ts) id ≡ None
none_out [] n id newest only = refl
none_out (x ∷ ts) n id newest only = one (none_out ts n id newest.1 (λ m u at of. only m u (behind m u at) of)) (x.number == n) refl
  where
    behind : (m : ℕ) (u : Ticket) → ticket_at ts m ≡ Some u → cond (x.number == m) (Some x) (ticket_at ts m) ≡ Some u
    behind m u at = let low = newest.0 m u at in let is : (x.number == m) ≡ false = grind (arith, nat_tests) in rw is at

    front : cond (x.number == x.number) (Some x) (ticket_at ts x.number) ≡ Some x
    front = let is : (x.number == x.number) ≡ true = grind (arith, nat_tests) in rw is refl

    two : out_for (without n ts) id ≡ None → (b : Bool) → (x.version == id) ≡ b → (x.number == n) ≡ false → cond b (Some x.number) (out_for (without n ts) id) ≡ None
    two rest true of is = let same = only x.number x front (grind (arith, nat_tests)) in absurd (grind (arith, nat_tests))
    two rest false of is = rest

    one : out_for (without n ts) id ≡ None → (b : Bool) → (x.number == n) ≡ b → out_for (cond (not b) (x ∷ without n ts) (without n ts)) id ≡ None
    one rest true is = rest
    one rest false is = two rest (x.version == id) refl is

-- for a version to which the ticket was not lent the same is out
pub same_out : (ts : List Ticket) (n id : ℕ) → NewestFirst ts → ((u : Ticket) → ticket_at ts n ≡ Some u → u.version ≡ id → ⊥)
    → out_for (without n ts) id ≡ out_for ts id
same_out [] n id newest other = refl
same_out (x ∷ ts) n id newest other = one (same_out ts n id newest.1) (x.number == n) refl other
  where
    two : (b : Bool) → (x.version == id) ≡ b → (x.version ≡ id → ⊥) → out_for ts id ≡ cond b (Some x.number) (out_for ts id)
    two true of other = absurd (other (grind (arith, nat_tests)))
    two false of other = refl

    one : (((u : Ticket) → ticket_at ts n ≡ Some u → u.version ≡ id → ⊥) → out_for (without n ts) id ≡ out_for ts id)
        → (b : Bool) → (x.number == n) ≡ b → ((u : Ticket) → cond b (Some x) (ticket_at ts n) ≡ Some u → u.version ≡ id → ⊥)
        → out_for (cond (not b) (x ∷ without n ts) (without n ts)) id ≡ out_for (x ∷ ts) id
    one rest true is other =
        rest (λ u at of. let low = newest.0 n u at in absurd (grind (arith, nat_tests)))
        ∙ two (x.version == id) refl (other x refl)
    one rest false is other = ap (λ o. cond (x.version == id) (Some x.number) o) (rest other)

pub map_remove : {A B : Type 0} (f : A → B) (xs : List A) (place : ℕ) → map f (remove xs place) ≡ remove (map f xs) place
map_remove f [] zero = refl
map_remove f [] (suc place) = refl
map_remove f (x ∷ xs) zero = refl
map_remove f (x ∷ xs) (suc place) = ap (λ ys. f x ∷ ys) (map_remove f xs place)

-- the tickets that are kept, where the one of a number is taken out of its place
pub left_without : (ls : List Lent) (n place : ℕ) → NewestFirst (map ticket_of ls) → IsPlaceOf (map ticket_of ls) n place → map ticket_of (remove ls place) ≡ without n (map ticket_of ls)
left_without ls n place newest at =
    map_remove ticket_of ls place ∙ taken_out (map ticket_of ls) place at.0 newest at.1 ∙ ap (λ (k : ℕ). without k (map ticket_of ls)) at.2
