-- The list of tickets.
use Rattle.std.proofs.Common.{◌≡◌, ◌≢◌, ℕ, ◌+◌, ◌<◌, ◌≤◌, ◌⊎◌, Bool, true, false, cond, not, ◌&&◌, ◌||◌, ◌==◌, nat_lt, nat_le, List, [], ◌∷◌, Some, None, ⊎_elim, refl, sym, ap, ◌∙◌, subst, arith}
use Rattle.std.proofs.lemmas.Bool.Decides.{nat_tests}
use Rattle.sp_base.specs.Numbers.{is_among}
use Rattle.sp_group.specs.Machine.{Ticket, ticket_at, out_for, is_out, is_lent, is_bare}
use Rattle.sp_group.specs.Effects.{without, read_on, read_if}
use Rattle.sp_rules.specs.Kept.{NewestFirst}
use Rattle.sp_rules.proofs.Lists.{or_cases, and_left, and_right, le_true, lt_true, not_true}

pub out_at : (ts : List Ticket) (n : ℕ) (t : Ticket) → ticket_at ts n ≡ Some t → is_out ts t.version ≡ true
out_at [] n t h = absurd (cc)
out_at (x ∷ ts) n t h = one (x.number == n) h (out_at ts n t)
  where
    one : (b : Bool) → cond b (Some x) (ticket_at ts n) ≡ Some t → (ticket_at ts n ≡ Some t → is_out ts t.version ≡ true) → (x.version == t.version || is_out ts t.version) ≡ true
    one true h k = let e : x ≡ t = cc in let f : x.version ≡ t.version = ap (λ (z : Ticket). z.version) e in grind (arith, nat_tests)
    one false h k = let e = k h in grind (arith, nat_tests)

pub bare_out : (ts : List Ticket) (id i : ℕ) → is_bare ts id i ≡ true → is_out ts id ≡ true
bare_out [] id i h = absurd (cc)
bare_out (x ∷ ts) id i h = grind (arith, nat_tests, bare_out ts id i)

pub number_at : (ts : List Ticket) (n : ℕ) (t : Ticket) → ticket_at ts n ≡ Some t → t.number ≡ n
number_at [] n t h = absurd (cc)
number_at (x ∷ ts) n t h = one (x.number == n) refl h (number_at ts n t)
  where
    one : (b : Bool) → (x.number == n) ≡ b → cond b (Some x) (ticket_at ts n) ≡ Some t → (ticket_at ts n ≡ Some t → t.number ≡ n) → t.number ≡ n
    one true e h k = let a : x ≡ t = cc in let f : x.number ≡ t.number = ap (λ (z : Ticket). z.number) a in grind (arith, nat_tests)
    one false e h k = k h

pub ticket_cases : (x : Ticket) (ts : List Ticket) (n : ℕ) (t : Ticket) → ticket_at (x ∷ ts) n ≡ Some t → ((x.number ≡ n) × (x ≡ t)) ⊎ ((x.number ≢ n) × (ticket_at ts n ≡ Some t))
ticket_cases x ts n t h = grind (arith, nat_tests)

pub bare_at : (ts : List Ticket) (n : ℕ) (t : Ticket) (i : ℕ) → ticket_at ts n ≡ Some t → t.first ≤ i → i < t.first + t.count → is_among t.snapshot i ≡ false → is_bare ts t.version i ≡ true
bare_at [] n t i h l m k = absurd (cc)
bare_at (x ∷ ts) n t i h l m k = ⊎_elim
    (λ (y : (x.number ≡ n) × (x ≡ t)). subst (λ (z : Ticket). is_bare (x ∷ ts) z.version i ≡ true) y.1 (subst (λ (z : Ticket). is_bare (z ∷ ts) z.version i ≡ true) (sym y.1) (grind (arith, nat_tests))))
    (λ (y : (x.number ≢ n) × (ticket_at ts n ≡ Some t)). let r = bare_at ts n t i y.1 l m k in grind (arith, nat_tests))
    (ticket_cases x ts n t h)

-- without a number
pub without_at : (n : ℕ) (ts : List Ticket) (m : ℕ) (t : Ticket) → ticket_at (without n ts) m ≡ Some t → (m ≢ n) × (ticket_at ts m ≡ Some t)
without_at n [] m t h = absurd (cc)
without_at n (x ∷ ts) m t h = one (x.number == n) refl h (without_at n ts m t)
  where
    one : (b : Bool) → (x.number == n) ≡ b → ticket_at (cond (not b) (x ∷ without n ts) (without n ts)) m ≡ Some t → (ticket_at (without n ts) m ≡ Some t → (m ≢ n) × (ticket_at ts m ≡ Some t)) → (m ≢ n) × (ticket_at (x ∷ ts) m ≡ Some t)
    one true e h k = let r = k h in (r.0, grind (arith, nat_tests, r.1))
    one false e h k = ⊎_elim
        (λ (y : (x.number ≡ m) × (x ≡ t)). (grind (arith, nat_tests), grind (arith, nat_tests)))
        (λ (y : (x.number ≢ m) × (ticket_at (without n ts) m ≡ Some t)). let r = k y.1 in (r.0, grind (arith, nat_tests, r.1)))
        (ticket_cases x (without n ts) m t h)

pub without_out : (n : ℕ) (ts : List Ticket) (id : ℕ) → is_out ts id ≡ false → is_out (without n ts) id ≡ false
without_out n [] id h = refl
without_out n (x ∷ ts) id h = grind (arith, nat_tests, without_out n ts id)

pub without_bare : (n : ℕ) (ts : List Ticket) (id i : ℕ) → is_bare (without n ts) id i ≡ true → is_bare ts id i ≡ true
without_bare n [] id i h = h
without_bare n (x ∷ ts) id i h = one (x.number == n) h (without_bare n ts id i)
  where
    one : (b : Bool) → is_bare (cond (not b) (x ∷ without n ts) (without n ts)) id i ≡ true → (is_bare (without n ts) id i ≡ true → is_bare ts id i ≡ true) → is_bare (x ∷ ts) id i ≡ true
    one true h k = let r = k h in grind (arith, nat_tests)
    one false h k = grind (arith, nat_tests)

-- one event read
pub touched_at : (n : ℕ) (ts : List Ticket) (m : ℕ) (t : Ticket) → ticket_at (read_on n ts) m ≡ Some t → (u : Ticket) × (ticket_at ts m ≡ Some u) × (t ≡ read_if (m == n) u)
touched_at n [] m t h = absurd (cc)
touched_at n (x ∷ ts) m t h = ⊎_elim
    (λ (y : (x.number ≡ m) × (read_if (x.number == n) x ≡ t)). (x, grind (arith, nat_tests), sym y.1 ∙ ap (λ (k : ℕ). read_if (k == n) x) y.0))
    (λ (y : (x.number ≢ m) × (ticket_at (read_on n ts) m ≡ Some t)). let r = touched_at n ts m t y.1 in (r.0, grind (arith, nat_tests, r.1), r.2))
    (ticket_cases (read_if (x.number == n) x) (read_on n ts) m t h)

pub touched_out : (n : ℕ) (ts : List Ticket) (id : ℕ) → is_out (read_on n ts) id ≡ is_out ts id
touched_out n [] id = refl
touched_out n (x ∷ ts) id = rw (touched_out n ts id) refl

pub touched_bare : (n : ℕ) (ts : List Ticket) (id i : ℕ) → is_bare (read_on n ts) id i ≡ is_bare ts id i
touched_bare n [] id i = refl
touched_bare n (x ∷ ts) id i = rw (touched_bare n ts id i) refl

pub without_ordered : (n : ℕ) (ts : List Ticket) → NewestFirst ts → NewestFirst (without n ts)
without_ordered n [] o = tt
without_ordered n (x ∷ ts) o = one (x.number == n) (without_ordered n ts o.1)
  where
    one : (b : Bool) → NewestFirst (without n ts) → NewestFirst (cond (not b) (x ∷ without n ts) (without n ts))
    one true k = k
    one false k = ((λ m t e. o.0 m t (without_at n ts m t e).1), k)

pub touched_ordered : (n : ℕ) (ts : List Ticket) → NewestFirst ts → NewestFirst (read_on n ts)
touched_ordered n [] o = tt
touched_ordered n (x ∷ ts) o = ((λ m t e. let r = touched_at n ts m t e in o.0 m r.0 r.1), touched_ordered n ts o.1)

-- a bare event is one of a ticket that is out
pub at_bare : (ts : List Ticket) → NewestFirst ts → (id i : ℕ) → is_bare ts id i ≡ true → (n : ℕ) × (t : Ticket) × (ticket_at ts n ≡ Some t) × (t.version ≡ id) × (t.first ≤ i) × (i < t.first + t.count)
at_bare [] o id i h = absurd (cc)
at_bare (x ∷ ts) o id i h = ⊎_elim
    (λ (y : (x.version == id && is_lent x i) ≡ true). (x.number, x, grind (arith, nat_tests), grind (arith, nat_tests), grind (arith, nat_tests), grind (arith, nat_tests)))
    (λ (y : is_bare ts id i ≡ true).
    let r = at_bare ts o.1 id i y in
    let l = o.0 r.0 r.1 r.2 in
    (r.0, r.1, grind (arith, nat_tests, r.2), r.3, r.4, r.5))
    (or_cases (x.version == id && is_lent x i) (is_bare ts id i) h)

-- where no ticket's number is found for a version, none is out for it
pub free_is : (ts : List Ticket) (id : ℕ) → out_for ts id ≡ None → is_out ts id ≡ false
free_is [] id h = refl
free_is (x ∷ ts) id h = one (x.version == id) h (free_is ts id)
  where
    one : (b : Bool) → cond b (Some x.number) (out_for ts id) ≡ None → (out_for ts id ≡ None → is_out ts id ≡ false) → (b || is_out ts id) ≡ false
    one true h k = absurd (cc)
    one false h k = k h

-- what a number that a ticket lends tells
pub lent_is : (t : Ticket) (i : ℕ) → is_lent t i ≡ true → (t.first ≤ i) × (i < t.first + t.count) × (is_among t.snapshot i ≡ false)
lent_is t i h =
    let low = nat_le t.first i in
    let high = nat_lt i (t.first + t.count) in
    let passed = not (is_among t.snapshot i) in
    let range = and_left (low && high) passed h in
    (le_true t.first i (and_left low high range), lt_true i (t.first + t.count) (and_right low high range), not_true (is_among t.snapshot i) (and_right (low && high) passed h))
