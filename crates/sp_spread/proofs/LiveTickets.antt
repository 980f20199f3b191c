-- The tickets that are out for live versions, and how many they are.
use Rattle.std.proofs.Common.{◌≡◌, ℕ, suc, ◌+◌, ◌≤◌, Bool, true, false, cond, not, ◌||◌, ◌==◌, List, [], ◌∷◌, length, filter, Option, Some, None, is_some, refl, sym, ap, subst, arith}
use Rattle.std.proofs.lemmas.Bool.Decides.{nat_tests}
use Rattle.sp_plan.specs.declared.plan.Plan.{Plan}
use Rattle.sp_plan.specs.Runs.{State}
use Rattle.sp_group.specs.Machine.{Version, Ticket, version_at, ticket_at, is_out}
use Rattle.sp_group.specs.Effects.{without, read_on}
use Rattle.sp_rules.specs.Kept.{NewestFirst, Shape}
use Rattle.sp_rules.proofs.Lists.{or_right}
use Rattle.sp_rules.proofs.Tree.{at_head, Each, each_tail}

-- the tickets of live versions
abbrev pub live_tickets : List Version → List Ticket → List Ticket
live_tickets vs ts = filter (λ t. is_some (version_at vs t.version)) ts

-- one more on both sides, or on the second alone
module _ (xs ys : List Ticket) (fewer : length xs ≤ length ys) where
  both_more : (b : Bool) (x y : Ticket) → length (cond b (x ∷ xs) xs) ≤ length (cond b (y ∷ ys) ys)
  both_more true x y = omega arith
  both_more false x y = fewer

  one_more : (b : Bool) (y : Ticket) → length xs ≤ length (cond b (y ∷ ys) ys)
  one_more true y = omega arith
  one_more false y = fewer

-- Where no version that a ticket is out for becomes live, no ticket becomes one of a live version.
pub fewer_live : (vs ws : List Version) (ts : List Ticket) → ((id : ℕ) → is_out ts id ≡ true → is_some (version_at ws id) ≡ true → is_some (version_at vs id) ≡ true)
    → length (live_tickets ws ts) ≤ length (live_tickets vs ts)
fewer_live vs ws [] back = omega arith
fewer_live vs ws (t ∷ ts) back =
    one (is_some (version_at ws t.version)) (is_some (version_at vs t.version)) (back t.version (grind (arith, nat_tests)))
    (fewer_live vs ws ts (λ id out. back id (or_right (t.version == id) (is_out ts id) out)))
  where
    one : (b c : Bool) → (b ≡ true → c ≡ true) → length (live_tickets ws ts) ≤ length (live_tickets vs ts) → length (cond b (t ∷ live_tickets ws ts) (live_tickets ws ts)) ≤ length (cond c (t ∷ live_tickets vs ts) (live_tickets vs ts))
    one true true f fewer = omega arith
    one true false f fewer = let both = f refl in absurd (cc)
    one false c f fewer = one_more (live_tickets ws ts) (live_tickets vs ts) fewer c t

-- no more where one ticket ends
pub fewer_without : (vs : List Version) (n : ℕ) (ts : List Ticket) → length (live_tickets vs (without n ts)) ≤ length (live_tickets vs ts)
fewer_without vs n [] = omega arith
fewer_without vs n (t ∷ ts) = one (t.number == n) (fewer_without vs n ts)
  where
    one : (b : Bool) → length (live_tickets vs (without n ts)) ≤ length (live_tickets vs ts) → length (live_tickets vs (cond (not b) (t ∷ without n ts) (without n ts))) ≤ length (live_tickets vs (t ∷ ts))
    one true fewer = one_more (live_tickets vs (without n ts)) (live_tickets vs ts) fewer (is_some (version_at vs t.version)) t
    one false fewer = both_more (live_tickets vs (without n ts)) (live_tickets vs ts) fewer (is_some (version_at vs t.version)) t t

-- no more where one is read on
pub fewer_read : (vs : List Version) (n : ℕ) (ts : List Ticket) → length (live_tickets vs (read_on n ts)) ≤ length (live_tickets vs ts)
fewer_read vs n [] = omega arith
fewer_read vs n (t ∷ ts) = both_more (live_tickets vs (read_on n ts)) (live_tickets vs ts) (fewer_read vs n ts) (is_some (version_at vs t.version)) _ t

-- without a number that no ticket has
without_none : (n : ℕ) (ts : List Ticket) → ticket_at ts n ≡ None → without n ts ≡ ts
without_none n [] none = refl
without_none n (t ∷ ts) none = one (t.number == n) none (without_none n ts)
  where
    one : (b : Bool) → cond b (Some t) (ticket_at ts n) ≡ None → (ticket_at ts n ≡ None → without n ts ≡ ts) → cond (not b) (t ∷ without n ts) (without n ts) ≡ t ∷ ts
    one true none rest = absurd (cc)
    one false none rest = ap (λ (us : List Ticket). t ∷ us) (rest none)

-- no older ticket has the number of a newer one
no_older : (t : Ticket) (ts : List Ticket) → NewestFirst (t ∷ ts) → ticket_at ts t.number ≡ None
no_older t ts newest = one (ticket_at ts t.number) refl
  where
    one : (o : Option Ticket) → ticket_at ts t.number ≡ o → o ≡ None
    one None is = refl
    one (Some u) is = let older = newest.0 t.number u is in absurd (omega arith)

-- What a ticket ends that is out under a number: the tickets with that ticket left out.
pub data Ends (t : Ticket) : List Ticket → List Ticket → Type 0 where
  here : (ts : List Ticket) → Ends t (t ∷ ts) ts
  later : (u : Ticket) (ts us : List Ticket) → Ends t ts us → Ends t (u ∷ ts) (u ∷ us)

pub ends : (n : ℕ) (t : Ticket) (ts : List Ticket) → NewestFirst ts → ticket_at ts n ≡ Some t → Ends t ts (without n ts)
ends n t [] newest out = absurd (cc)
ends n t (x ∷ ts) newest out = one (x.number == n) refl out (ends n t ts newest.1)
  where
    one : (b : Bool) → (x.number == n) ≡ b → cond b (Some x) (ticket_at ts n) ≡ Some t → (ticket_at ts n ≡ Some t → Ends t ts (without n ts)) → Ends t (x ∷ ts) (cond (not b) (x ∷ without n ts) (without n ts))
    one true is out rest =
        let number : x.number ≡ n = grind (arith, nat_tests) in
        let same : x ≡ t = cc in
        let none = without_none n ts (subst (λ (k : ℕ). ticket_at ts k ≡ None) number (no_older x ts newest)) in
        subst (λ (y : Ticket). Ends t (y ∷ ts) (without n ts)) (sym same) (subst (λ (us : List Ticket). Ends t (t ∷ ts) us) (sym none) (here ts))
    one false is out rest = later x ts (without n ts) (rest out)

-- as many where the ticket that ends is of no live version
pub same_ends : (vs : List Version) (t : Ticket) (ts us : List Ticket) → version_at vs t.version ≡ None → Ends t ts us → length (live_tickets vs us) ≡ length (live_tickets vs ts)
same_ends vs t ts0 us0 gone (here us) = one (is_some (version_at vs t.version)) (ap is_some gone)
  where
    one : (b : Bool) → b ≡ false → length (live_tickets vs us) ≡ length (cond b (t ∷ live_tickets vs us) (live_tickets vs us))
    one true is = absurd (cc)
    one false is = refl
same_ends vs t ts0 us0 gone (later u ts us e) = one (is_some (version_at vs u.version)) (same_ends vs t ts us gone e)
  where
    one : (b : Bool) → length (live_tickets vs us) ≡ length (live_tickets vs ts) → length (cond b (u ∷ live_tickets vs us) (live_tickets vs us)) ≡ length (cond b (u ∷ live_tickets vs ts) (live_tickets vs ts))
    one true same = ap suc same
    one false same = same

-- At most one of the tickets is out for the version of an id.
abbrev pub OneAtMost : List Ticket → ℕ → Type 0
OneAtMost ts id = (n m : ℕ) (t u : Ticket) → ticket_at ts n ≡ Some t → ticket_at ts m ≡ Some u → t.version ≡ id → u.version ≡ id → n ≡ m

-- a ticket that is out for a version, under its number
out_under : (ts : List Ticket) → NewestFirst ts → (id : ℕ) → is_out ts id ≡ true → (t : Ticket) × (ticket_at ts t.number ≡ Some t) × (t.version ≡ id)
out_under [] newest id out = absurd (cc)
out_under (x ∷ ts) newest id out = one (x.version == id) refl out (out_under ts newest.1 id)
  where
    one : (b : Bool) → (x.version == id) ≡ b → (b || is_out ts id) ≡ true → (is_out ts id ≡ true → (t : Ticket) × (ticket_at ts t.number ≡ Some t) × (t.version ≡ id)) → (t : Ticket) × (ticket_at (x ∷ ts) t.number ≡ Some t) × (t.version ≡ id)
    one true is out rest = (x, grind (arith, nat_tests), grind (arith, nat_tests))
    one false is out rest =
        let found = rest out in
        let older = newest.0 found.0.number found.0 found.1 in
        (found.0, grind (arith, nat_tests, found.1), found.2)

abbrev tickets_of : ℕ → List Ticket → List Ticket
tickets_of id ts = filter (λ t. t.version == id) ts

-- they are as many as the test says
of_one : (id : ℕ) (ts : List Ticket) → NewestFirst ts → OneAtMost ts id → length (tickets_of id ts) ≡ cond (is_out ts id) 1 0
of_one id [] newest only = refl
of_one id (x ∷ ts) newest only = one (x.version == id) refl (of_one id ts newest.1 (λ n m t u e e' o o'. only n m t u (older n t e) (older m u e') o o'))
  where
    older : (n : ℕ) (t : Ticket) → ticket_at ts n ≡ Some t → ticket_at (x ∷ ts) n ≡ Some t
    older n t e = let l = newest.0 n t e in grind (arith, nat_tests)

    two : (b : Bool) → is_out ts id ≡ b → (x.version == id) ≡ true → length (tickets_of id ts) ≡ cond b 1 0 → length (tickets_of id ts) ≡ 0
    two true out is rest =
        let found = out_under ts newest.1 id out in
        let l = newest.0 found.0.number found.0 found.1 in
        let same = only x.number found.0.number x found.0 (grind (arith, nat_tests)) (older found.0.number found.0 found.1) (grind (arith, nat_tests)) found.2 in
        absurd (omega arith)
    two false out is rest = rest

    one : (b : Bool) → (x.version == id) ≡ b → length (tickets_of id ts) ≡ cond (is_out ts id) 1 0 → length (cond b (x ∷ tickets_of id ts) (tickets_of id ts)) ≡ cond (b || is_out ts id) 1 0
    one true is rest = ap suc (two (is_out ts id) refl is rest)
    one false is rest = rest

-- the tickets of a version in front of the others, and those of the others
in_parts : (v : Version) (vs : List Version) → version_at vs v.id ≡ None → (ts : List Ticket) → length (live_tickets (v ∷ vs) ts) ≡ length (tickets_of v.id ts) + length (live_tickets vs ts)
in_parts v vs new [] = refl
in_parts v vs new (t ∷ ts) = one (v.id == t.version) (t.version == v.id) refl refl (in_parts v vs new ts)
  where
    gone : (v.id == t.version) ≡ true → is_some (version_at vs t.version) ≡ false
    gone is = let same : v.id ≡ t.version = grind (arith, nat_tests) in ap is_some (subst (λ (k : ℕ). version_at vs k ≡ None) same new)

    two : (b : Bool) → length (live_tickets (v ∷ vs) ts) ≡ length (tickets_of v.id ts) + length (live_tickets vs ts)
        → length (cond b (t ∷ live_tickets (v ∷ vs) ts) (live_tickets (v ∷ vs) ts)) ≡ length (tickets_of v.id ts) + length (cond b (t ∷ live_tickets vs ts) (live_tickets vs ts))
    two true rest = omega arith
    two false rest = rest

    three : (b : Bool) → b ≡ false → length (live_tickets (v ∷ vs) ts) ≡ length (tickets_of v.id ts) + length (live_tickets vs ts)
        → suc (length (live_tickets (v ∷ vs) ts)) ≡ suc (length (tickets_of v.id ts)) + length (cond b (t ∷ live_tickets vs ts) (live_tickets vs ts))
    three true is rest = absurd (cc)
    three false is rest = omega arith

    one : (b c : Bool) → (v.id == t.version) ≡ b → (t.version == v.id) ≡ c → length (live_tickets (v ∷ vs) ts) ≡ length (tickets_of v.id ts) + length (live_tickets vs ts)
        → length (cond (is_some (cond b (Some v) (version_at vs t.version))) (t ∷ live_tickets (v ∷ vs) ts) (live_tickets (v ∷ vs) ts)) ≡ length (cond c (t ∷ tickets_of v.id ts) (tickets_of v.id ts)) + length (cond (is_some (version_at vs t.version)) (t ∷ live_tickets vs ts) (live_tickets vs ts))
    one true true is is' rest = three (is_some (version_at vs t.version)) (gone is) rest
    one true false is is' rest = absurd (grind (arith, nat_tests))
    one false true is is' rest = absurd (grind (arith, nat_tests))
    one false false is is' rest = two (is_some (version_at vs t.version)) rest

-- no live version, no ticket of one
none_live : (ts : List Ticket) → length (live_tickets [] ts) ≡ 0
none_live [] = refl
none_live (t ∷ ts) = none_live ts

-- There are as many tickets of live versions as live versions with one.
pub as_many : (q : Plan) (f : Version → State) (finished : ℕ) (vs : List Version) (ts : List Ticket) → Shape q f finished vs → NewestFirst ts → Each (λ v. OneAtMost ts v.id) vs
    → length (live_tickets vs ts) ≡ length (filter (λ v. is_out ts v.id) vs)
as_many q f finished [] ts shape newest only = none_live ts
as_many q f finished (v ∷ vs) ts shape newest only =
    one (is_out ts v.id) (in_parts v vs (new (version_at vs v.id) refl) ts) (of_one v.id ts newest (only v.id v (at_head v vs)))
    (as_many q f finished vs ts shape.1 newest (each_tail q (λ w. OneAtMost ts w.id) f finished v vs shape.0 only))
  where
    new : (o : Option Version) → version_at vs v.id ≡ o → o ≡ None
    new None is = refl
    new (Some w) is = let older = shape.0.newest v.id w is in absurd (omega arith)

    one : (b : Bool) → length (live_tickets (v ∷ vs) ts) ≡ length (tickets_of v.id ts) + length (live_tickets vs ts) → length (tickets_of v.id ts) ≡ cond b 1 0
        → length (live_tickets vs ts) ≡ length (filter (λ w. is_out ts w.id) vs) → length (live_tickets (v ∷ vs) ts) ≡ length (cond b (v ∷ filter (λ w. is_out ts w.id) vs) (filter (λ w. is_out ts w.id) vs))
    one true parts this rest = omega arith
    one false parts this rest = omega arith
