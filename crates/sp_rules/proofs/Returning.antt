-- The readings of a ticket, one after another, and its return.
use Rattle.std.proofs.Common.{◌≡◌, ℕ, zero, suc, ◌+◌, ◌<◌, ◌≤◌, Bool, true, false, cond, not, ◌&&◌, ◌||◌, ◌==◌, nat_lt, nat_le, List, [], ◌∷◌, Option, Some, None, refl, sym, ap, ◌∙◌, subst, arith}
use Rattle.std.specs.Prelude.{⊤}
use Rattle.std.proofs.lemmas.Bool.Decides.{nat_tests}
use Rattle.std.proofs.lemmas.List.Sums.{fold-append}
use Rattle.sp_plan.specs.declared.plan.Plan.{Plan}
use Rattle.sp_group.specs.declared.refusal.Refusal.{Refusal}
use Rattle.sp_group.specs.declared.refusal.Refusal.TheVariants as r
use Rattle.sp_group.specs.declared.step.Step.TheVariants as s
use Rattle.sp_group.specs.Machine.{Version, Ticket, Machine, version_at, ticket_at}
use Rattle.sp_group.specs.Refusing.{refuse_if, is_read_whole, event_refusal, return_refusal, refusal}
use Rattle.sp_group.specs.Effects.{read_if, read_on, without, home, returned, event_read}
use Rattle.sp_group.specs.Steps.{unless_refused, step, steps}
use Rattle.sp_rules.specs.Kept.{NewestFirst}
use Rattle.sp_rules.specs.Returning.{read_to, tickets_read, readings, reads, LendsSoFar, IsReadAndReturned}

-- a ticket that is read on so many times
abbrev read_times : ℕ → Ticket → Ticket
read_times zero t = t
read_times (suc k) t = read_times k (read_if true t)

-- the tickets after so many readings of one
abbrev tickets_after : ℕ → ℕ → List Ticket → List Ticket
tickets_after n zero tickets = tickets
tickets_after n (suc k) tickets = tickets_after n k (read_on n tickets)

-- a ticket can be read on so many times
abbrev CanRead : ℕ → Ticket → Type 0
CanRead zero t = ⊤
CanRead (suc k) t = (is_read_whole t ≡ false) × CanRead k (read_if true t)

-- each time before the last one it is not read whole
can_read_at : (k j : ℕ) (t : Ticket) → CanRead k t → j < k → is_read_whole (read_times j t) ≡ false
can_read_at zero j t can less = absurd (omega arith)
can_read_at (suc k) zero t can less = can.0
can_read_at (suc k) (suc j) t can less = can_read_at k j (read_if true t) can.1 (omega arith)

can_read_less : (k j : ℕ) (t : Ticket) → CanRead k t → j ≤ k → CanRead j t
can_read_less k zero t can less = tt
can_read_less zero (suc j) t can less = absurd (omega arith)
can_read_less (suc k) (suc j) t can less = (can.0, can_read_less k j (read_if true t) can.1 (omega arith))

found_read_on : (n : ℕ) (tickets : List Ticket) (t : Ticket) → ticket_at tickets n ≡ Some t → ticket_at (read_on n tickets) n ≡ Some (read_if true t)
found_read_on n [] t at = absurd (cc)
found_read_on n (x ∷ tickets) t at = one (x.number == n) at (found_read_on n tickets t)
  where
    one : (b : Bool) → cond b (Some x) (ticket_at tickets n) ≡ Some t → (ticket_at tickets n ≡ Some t → ticket_at (read_on n tickets) n ≡ Some (read_if true t))
        → cond b (Some (read_if b x)) (ticket_at (read_on n tickets) n) ≡ Some (read_if true t)
    one true at rest = let same : x ≡ t = cc in ap (λ (z : Ticket). Some (read_if true z)) same
    one false at rest = rest at

found_after : (n k : ℕ) (tickets : List Ticket) (t : Ticket) → ticket_at tickets n ≡ Some t → ticket_at (tickets_after n k tickets) n ≡ Some (read_times k t)
found_after n zero tickets t at = at
found_after n (suc k) tickets t at = found_after n k (read_on n tickets) (read_if true t) (found_read_on n tickets t at)

without_read_on : (n : ℕ) (tickets : List Ticket) → without n (read_on n tickets) ≡ without n tickets
without_read_on n [] = refl
without_read_on n (x ∷ tickets) = one (x.number == n) (without_read_on n tickets)
  where
    one : (b : Bool) → without n (read_on n tickets) ≡ without n tickets → cond (not b) (read_if b x ∷ without n (read_on n tickets)) (without n (read_on n tickets)) ≡ cond (not b) (x ∷ without n tickets) (without n tickets)
    one true rest = rest
    one false rest = ap (λ (z : List Ticket). x ∷ z) rest

without_after : (n k : ℕ) (tickets : List Ticket) → without n (tickets_after n k tickets) ≡ without n tickets
without_after n zero tickets = refl
without_after n (suc k) tickets = without_after n k (read_on n tickets) ∙ without_read_on n tickets

version_kept : (k : ℕ) (t : Ticket) → (read_times k t).version ≡ t.version
version_kept zero t = refl
version_kept (suc k) t = version_kept k (read_if true t)

-- what comes home does not depend on how far tickets were read before
home_tickets : (q : Plan) (m : Machine) (tickets : List Ticket) (n : ℕ) (t : Ticket) (o : Option Version) → without n tickets ≡ without n m.tickets → home q (record m { tickets = tickets }) n t o ≡ home q m n t o
home_tickets q m tickets n t None same = ap {B = Machine} (λ (z : List Ticket). record m { tickets = z }) same
home_tickets q m tickets n t (Some v) same = ap {B = Machine} (λ (z : List Ticket). record (home q m n t (Some v)) { tickets = z }) same

module _ (q : Plan) (bound n : ℕ) where
  event_open : (m : Machine) (t : Ticket) → ticket_at m.tickets n ≡ Some t → is_read_whole t ≡ false → refusal q bound m (s.Event n) ≡ None
  event_open m t at open_still = ap (event_refusal n) at ∙ ap (λ (b : Bool). refuse_if b (r.NothingToRead t.read) None) open_still

  events_read : (k : ℕ) (m : Machine) (t : Ticket) → ticket_at m.tickets n ≡ Some t → CanRead k t → steps q bound m (reads n k) ≡ record m { tickets = tickets_after n k m.tickets }
  events_read zero m t at can = refl
  events_read (suc k) m t at can =
      ap (λ (o : Option Refusal). steps q bound (unless_refused o m (event_read m n)) (reads n k)) (event_open m t at can.0)
      ∙ events_read k (event_read m n) (read_if true t) (found_read_on n m.tickets t at) can.1

  returned_home : (k : ℕ) (m : Machine) (t : Ticket) → ticket_at m.tickets n ≡ Some t → step q bound (record m { tickets = tickets_after n k m.tickets }) (s.Return n) ≡ home q m n (read_times k t) (version_at m.versions t.version)
  returned_home k m t at =
      let now : Machine = record m { tickets = tickets_after n k m.tickets } in
      ap (λ (o : Option Ticket). unless_refused (return_refusal n o) now (returned q now n o)) (found_after n k m.tickets t at)
      ∙ home_tickets q m (tickets_after n k m.tickets) n (read_times k t) (version_at m.versions (read_times k t).version) (without_after n k m.tickets)
      ∙ ap (λ (id : ℕ). home q m n (read_times k t) (version_at m.versions id)) (version_kept k t)

-- one more event
next_event : (t : Ticket) → t.read < t.count → read_if true t ≡ record t { read = t.read + 1 }
next_event t less = one (nat_lt t.read t.count) (nat_le t.count t.read) (grind (arith, nat_tests)) (grind (arith, nat_tests))
  where
    one : (b c : Bool) → b ≡ true → c ≡ false → record t { read = cond b (t.read + 1) t.read; closing_read = cond c true t.closing_read } ≡ record t { read = t.read + 1 }
    one true false e f = refl
    one true true e f = absurd (cc)
    one false c e f = absurd (cc)

-- the closing behind all events
next_closing : (t : Ticket) → t.read ≡ t.count → read_if true t ≡ record t { closing_read = true }
next_closing t all = one (nat_lt t.read t.count) (nat_le t.count t.read) (grind (arith, nat_tests)) (grind (arith, nat_tests))
  where
    one : (b c : Bool) → b ≡ false → c ≡ true → record t { read = cond b (t.read + 1) t.read; closing_read = cond c true t.closing_read } ≡ record t { closing_read = true }
    one false true e f = refl
    one false false e f = absurd (cc)
    one true c e f = absurd (cc)

still_open : (t : Ticket) → t.read < t.count → is_read_whole t ≡ false
still_open t less = let b : nat_le t.count t.read ≡ false = grind (arith, nat_tests) in ap (λ (z : Bool). z && (t.closing_read || not t.closes)) b

closing_open : (t : Ticket) → t.closing_read ≡ false → t.closes ≡ true → is_read_whole t ≡ false
closing_open t unread lent = one (nat_le t.count t.read) t.closing_read t.closes unread lent
  where
    one : (a b c : Bool) → b ≡ false → c ≡ true → (a && (b || not c)) ≡ false
    one true false true e f = refl
    one false b c e f = refl
    one true true c e f = absurd (cc)
    one true false false e f = absurd (cc)

-- Events are read while there are some, and so they count.
events_can : (k : ℕ) (t : Ticket) → t.read + k ≤ t.count → CanRead k t
events_can zero t within = tt
events_can (suc k) t within =
    (still_open t (omega arith), subst (CanRead k) (sym (next_event t (omega arith))) (events_can k (record t { read = t.read + 1 }) (omega arith)))

events_count : (k : ℕ) (t : Ticket) → t.read + k ≤ t.count → read_times k t ≡ record t { read = t.read + k }
events_count zero t within = let at : t.read ≡ t.read + 0 = omega arith in ap {B = Ticket} (λ (j : ℕ). record t { read = j }) at
events_count (suc k) t within =
    let at : t.read + 1 + k ≡ t.read + suc k = omega arith in
    ap (read_times k) (next_event t (omega arith))
    ∙ events_count k (record t { read = t.read + 1 }) (omega arith)
    ∙ ap {B = Ticket} (λ (j : ℕ). record t { read = j }) at

-- the same with the closing behind the last event
closing_can : (k : ℕ) (t : Ticket) → t.read + k ≡ t.count → t.closing_read ≡ false → t.closes ≡ true → CanRead (suc k) t
closing_can zero t all unread lent = (closing_open t unread lent, tt)
closing_can (suc k) t all unread lent =
    (still_open t (omega arith), subst (CanRead (suc k)) (sym (next_event t (omega arith))) (closing_can k (record t { read = t.read + 1 }) (omega arith) unread lent))

closing_count : (k : ℕ) (t : Ticket) → t.read + k ≡ t.count → read_times (suc k) t ≡ record t { read = t.count; closing_read = true }
closing_count zero t all = let at : t.read ≡ t.count = omega arith in next_closing t at ∙ ap {B = Ticket} (λ (j : ℕ). record t { read = j; closing_read = true }) at
closing_count (suc k) t all =
    ap (read_times (suc k)) (next_event t (omega arith))
    ∙ closing_count k (record t { read = t.read + 1 }) (omega arith)

can_read : (t : Ticket) (k : ℕ) (closed : Bool) → LendsSoFar t k closed → CanRead (readings k closed) t
can_read t k false lends = let none = lends.unread in let most = lends.within in events_can k t (omega arith)
can_read t k true lends =
    let none = lends.unread in
    let last = lends.last refl in
    let all = last.1 in
    let times : suc k ≡ k + 1 = omega arith in
    subst (λ (j : ℕ). CanRead j t) times (closing_can k t (omega arith) lends.unclosed last.0)

is_read : (t : Ticket) (k : ℕ) (closed : Bool) → LendsSoFar t k closed → read_times (readings k closed) t ≡ read_to t k closed
is_read t k false lends =
    let none = lends.unread in
    let most = lends.within in
    let at : t.read + k ≡ k = omega arith in
    events_count k t (omega arith)
    ∙ ap {B = Ticket} (λ (j : ℕ). record t { read = j }) at
    ∙ ap {B = Ticket} (λ (b : Bool). record t { read = k; closing_read = b }) lends.unclosed
is_read t k true lends =
    let none = lends.unread in
    let all = (lends.last refl).1 in
    let times : k + 1 ≡ suc k = omega arith in
    ap (λ (j : ℕ). read_times j t) times
    ∙ closing_count k t (omega arith)
    ∙ ap {B = Ticket} (λ (j : ℕ). record t { read = j; closing_read = true }) (sym all)

-- no ticket has the number
abbrev Lacks : ℕ → List Ticket → Type 0
Lacks n [] = ⊤
Lacks n (x ∷ tickets) = ((x.number == n) ≡ false) × Lacks n tickets

lacks_after : (n k : ℕ) (tickets : List Ticket) → Lacks n tickets → tickets_after n k tickets ≡ tickets
lacks_after n zero tickets lacks = refl
lacks_after n (suc k) tickets lacks = ap (tickets_after n k) (same tickets lacks) ∙ lacks_after n k tickets lacks
  where
    same : (tickets : List Ticket) → Lacks n tickets → read_on n tickets ≡ tickets
    same [] lacks = refl
    same (x ∷ tickets) lacks =
        ap (λ (b : Bool). read_if b x ∷ read_on n tickets) lacks.0 ∙ ap (λ (z : List Ticket). x ∷ z) (same tickets lacks.1)

lacks_read : (n k : ℕ) (closed : Bool) (tickets : List Ticket) → Lacks n tickets → tickets_read n k closed tickets ≡ tickets
lacks_read n k closed [] lacks = refl
lacks_read n k closed (x ∷ tickets) lacks =
    ap (λ (b : Bool). cond b (read_to x k closed) x ∷ tickets_read n k closed tickets) lacks.0 ∙ ap (λ (z : List Ticket). x ∷ z) (lacks_read n k closed tickets lacks.1)

older_lack : (n : ℕ) (tickets : List Ticket) → NewestFirst tickets → ((m : ℕ) (u : Ticket) → ticket_at tickets m ≡ Some u → m < n) → Lacks n tickets
older_lack n [] order older = tt
older_lack n (x ∷ tickets) order older =
    let here : ticket_at (x ∷ tickets) x.number ≡ Some x = grind (arith, nat_tests) in
    let below = older x.number x here in
    (grind (arith, nat_tests), older_lack n tickets order.1 (λ m u at. let less = order.0 m u at in omega arith))

-- the ticket in front, and the others behind it
after_front : (n k : ℕ) (x : Ticket) (tickets : List Ticket) → (x.number == n) ≡ true → tickets_after n k (x ∷ tickets) ≡ read_times k x ∷ tickets_after n k tickets
after_front n zero x tickets is = refl
after_front n (suc k) x tickets is =
    ap (λ (b : Bool). tickets_after n k (read_if b x ∷ read_on n tickets)) is ∙ after_front n k (read_if true x) (read_on n tickets) is

after_other : (n k : ℕ) (x : Ticket) (tickets : List Ticket) → (x.number == n) ≡ false → tickets_after n k (x ∷ tickets) ≡ x ∷ tickets_after n k tickets
after_other n zero x tickets is = refl
after_other n (suc k) x tickets is =
    ap (λ (b : Bool). tickets_after n k (read_if b x ∷ read_on n tickets)) is ∙ after_other n k x (read_on n tickets) is

all_read : (n k : ℕ) (closed : Bool) (tickets : List Ticket) (t : Ticket) → NewestFirst tickets → ticket_at tickets n ≡ Some t → LendsSoFar t k closed → tickets_after n (readings k closed) tickets ≡ tickets_read n k closed tickets
all_read n k closed [] t order at lends = absurd (cc)
all_read n k closed (x ∷ tickets) t order at lends = one (x.number == n) refl at (λ found. all_read n k closed tickets t order.1 found lends)
  where
    one : (b : Bool) → (x.number == n) ≡ b → cond b (Some x) (ticket_at tickets n) ≡ Some t
        → (ticket_at tickets n ≡ Some t → tickets_after n (readings k closed) tickets ≡ tickets_read n k closed tickets)
        → tickets_after n (readings k closed) (x ∷ tickets) ≡ cond b (read_to x k closed) x ∷ tickets_read n k closed tickets
    one true is at rest =
        let same : x ≡ t = cc in
        let number : x.number ≡ n = grind (arith, nat_tests) in
        let lacks : Lacks n tickets = older_lack n tickets order.1 (λ m u found. let less = order.0 m u found in omega arith) in
        after_front n (readings k closed) x tickets is
        ∙ ap (λ (z : Ticket). z ∷ tickets_after n (readings k closed) tickets) (is_read x k closed (subst (λ (z : Ticket). LendsSoFar z k closed) (sym same) lends))
        ∙ ap (λ (z : List Ticket). read_to x k closed ∷ z) (lacks_after n (readings k closed) tickets lacks ∙ sym (lacks_read n k closed tickets lacks))
    one false is at rest = after_other n (readings k closed) x tickets is ∙ ap (λ (z : List Ticket). x ∷ z) (rest at)

pub read_and_returned : (q : Plan) (bound : ℕ) (m : Machine) (n : ℕ) (t : Ticket) (k : ℕ) (closed : Bool) → ticket_at m.tickets n ≡ Some t → LendsSoFar t k closed → IsReadAndReturned q bound m n t k closed
read_and_returned q bound m n t k closed at lends = record {
  accepts_reads = λ j less.
      let after = events_read q bound n j m t at (can_read_less (readings k closed) j t can (omega arith)) in
      ap (λ (z : Machine). refusal q bound z (s.Event n)) after
      ∙ event_open q bound n (record m { tickets = tickets_after n j m.tickets }) (read_times j t) (found_after n j m.tickets t at) (can_read_at (readings k closed) j t can less);
  accepts_return = ap (λ (z : Machine). refusal q bound z (s.Return n)) after ∙ ap (return_refusal n) (found_after n (readings k closed) m.tickets t at);
  found = ap (λ (z : Machine). ticket_at z.tickets n) after ∙ found_after n (readings k closed) m.tickets t at ∙ ap Some (is_read t k closed lends);
  read = λ order. after ∙ ap {B = Machine} (λ (z : List Ticket). record m { tickets = z }) (all_read n k closed m.tickets t order at lends);
  comes = home_is;
  whole = fold-append (step q bound) m (reads n (readings k closed)) (s.Return n ∷ []) ∙ home_is;
}
  where
    can : CanRead (readings k closed) t
    can = can_read t k closed lends

    after : steps q bound m (reads n (readings k closed)) ≡ record m { tickets = tickets_after n (readings k closed) m.tickets }
    after = events_read q bound n (readings k closed) m t at can

    home_is : step q bound (steps q bound m (reads n (readings k closed))) (s.Return n) ≡ home q m n (read_to t k closed) (version_at m.versions t.version)
    home_is =
        ap (λ (z : Machine). step q bound z (s.Return n)) after
        ∙ returned_home q bound n (readings k closed) m t at
        ∙ ap (λ (z : Ticket). home q m n z (version_at m.versions t.version)) (is_read t k closed lends)
