-- A lease, a reading, and the return of a ticket whose version is gone keep what every state keeps.
use Rattle.std.proofs.Common.{◌≡◌, ◌≢◌, ℕ, ◌+◌, ◌-◌, ◌≤◌, ◌⊎◌, Bool, true, false, cond, not, ◌&&◌, ◌||◌, ◌==◌, nat_lt, nat_le, List, ◌∷◌, Some, None, ⊎_elim, refl, sym, ap, ◌∙◌, subst, arith}
use Rattle.std.specs.List.{range_with_len}
use Rattle.std.proofs.lemmas.Bool.Decides.{nat_tests}
use Rattle.sp_base.specs.Numbers.{is_among}
use Rattle.sp_plan.specs.declared.plan.Plan.{Plan}
use Rattle.sp_plan.specs.Windows.{closed}
use Rattle.sp_plan.specs.WindowNumbers.{size}
use Rattle.sp_group.specs.Machine.{Version, Ticket, Machine, version_at, ticket_at, is_out, is_lent, is_bare, is_hit, is_suppressed}
use Rattle.sp_group.specs.Refusing.{has_nothing_to_read, is_read_whole}
use Rattle.sp_group.specs.Effects.{unread, lent_count, next_number, lent, leased, without, read_on}
use Rattle.sp_rules.specs.Kept.{Lent, Local, Kept}
use Rattle.sp_rules.proofs.Lists.{or_cases, and_left, and_right, le_true, mem_filter, filter_mem, mem_range, range_mem}
use Rattle.sp_rules.proofs.Tickets.{ticket_cases, lent_is, without_at, without_out, without_bare, without_ordered, touched_at, touched_out, touched_bare, touched_ordered}
use Rattle.sp_rules.proofs.Tree.{at_id}
use Rattle.sp_rules.proofs.Locals.{local_grows, not_out}
use Rattle.sp_rules.proofs.Home.{HasRead, hit_cases, hit_read, hit_bare}

eq_true : (a b : ℕ) → (a == b) ≡ true → a ≡ b
eq_true a b h = grind (arith, nat_tests)

count_fits : (p z n : ℕ) → p ≤ z → p + cond (nat_le (z - p) n) (z - p) n ≤ z
count_fits p z n h = grind (arith, nat_tests)

count_all : (p z n : ℕ) → p ≤ z → nat_le (z - p) n ≡ true → p + cond (nat_le (z - p) n) (z - p) n ≡ z
count_all p z n h k = grind (arith, nat_tests)

pub undone : (q : Plan) (s : Machine) (v : Version) (S : ℕ → Bool) → Local q s.events s.ended s.tickets S v → has_nothing_to_read q s v ≡ false → v.done ≡ false
undone q s v S l h = one v.done refl
  where
    one : (b : Bool) → v.done ≡ b → v.done ≡ false
    one false e = e
    one true e = let d = l.done e in let z : nat_le (size q s.events v.window) v.position ≡ true = grind (arith, nat_tests) in absurd (grind (arith, e, z))

pub lease_keeps : (q : Plan) (s : Machine) (id n : ℕ) (v : Version) → version_at s.versions id ≡ Some v → is_out s.tickets v.id ≡ false → has_nothing_to_read q s v ≡ false → Kept q s → Kept q (leased q s n (Some v))
lease_keeps q s id n v at free some h = record {
  sane = record {
    shape = h.sane.shape;
    each = λ id' w e. loc id' w e (h.sane.each id' w e);
    ids = h.sane.ids;
    newest_first = (h.sane.numbers, h.sane.newest_first);
    numbers = λ m x e. ⊎_elim
        (λ (y : (s.next_ticket ≡ m) × (t ≡ x)). let z = y.0 in omega arith)
        (λ (y : (s.next_ticket ≢ m) × (ticket_at s.tickets m ≡ Some x)). let z = h.sane.numbers m x y.1 in omega arith)
        (ticket_cases t s.tickets m x e);
    unborn = λ m le. let a = h.sane.unborn m le in let b = h.sane.ids id v at in let c = at_id s.versions id v at in grind (arith, nat_tests);
    emitted = h.sane.emitted;
    consumed = h.sane.consumed;
    good = h.sane.good;
    closed = h.sane.closed;
  };
  clear = λ id' w e root i x. clear id' w e root i x;
}
  where
    t : Ticket
    t = lent q s n v

    S : ℕ → ℕ → Bool
    S = is_suppressed q s

    mine : Lent q s.events s.ended (S id) v (lent q s n v)
    mine =
        let l = h.sane.each id v at in
        let same = at_id s.versions id v at in
        record {
          begins = refl;
          fits = count_fits v.position (size q s.events v.window) n l.reads;
          closes = λ c. (le_true v.window (closed q s.events s.ended) (and_left (nat_le v.window (closed q s.events s.ended)) (nat_le (unread q s v) n) c), count_all v.position (size q s.events v.window) n l.reads (and_right (nat_le v.window (closed q s.events s.ended)) (nat_le (unread q s v) n) c));
          undone = undone q s v (S id) l some;
          snapshot = λ i m.
              let a = mem_filter i (S v.id) (range_with_len (next_number q s v) (lent_count q s n v)) m in
              let b = mem_range i (next_number q s v) (lent_count q s n v) a.0 in
              (subst (λ (z : ℕ). S z i ≡ true) same a.1, b.0);
          reads = omega arith;
          shuts = λ c. absurd (cc);
        }

    loc : (id' : ℕ) (w : Version) → version_at s.versions id' ≡ Some w → Local q s.events s.ended s.tickets (S id') w → Local q s.events s.ended (lent q s n v ∷ s.tickets) (S id') w
    loc id' w e l = record {
      there = l.there;
      reads = l.reads;
      rising = l.rising;
      skips = l.skips;
      read_them = l.read_them;
      done = l.done;
      lent = λ m x ex ox. ⊎_elim
          (λ (y : (s.next_ticket ≡ m) × (lent q s n v ≡ x)).
          let wid : id' ≡ id = sym (at_id s.versions id' w e) ∙ sym ox ∙ ap (λ (z : Ticket). z.version) (sym y.1) ∙ at_id s.versions id v at in
          let same : v ≡ w = sm wid in
          subst (λ (z : Ticket). Lent q s.events s.ended (S id') w z) y.1 (subst (λ (z : Version). Lent q s.events s.ended (S id') z (lent q s n v)) same (subst (λ (z : ℕ). Lent q s.events s.ended (S z) v (lent q s n v)) (sym wid) mine)))
          (λ (y : (s.next_ticket ≢ m) × (ticket_at s.tickets m ≡ Some x)). l.lent m x y.1 ox)
          (ticket_cases (lent q s n v) s.tickets m x ex);
      only = λ m m' x x' ex ex' ox ox'. ⊎_elim
          (λ (y : (s.next_ticket ≡ m) × (lent q s n v ≡ x)). ⊎_elim
          (λ (y' : (s.next_ticket ≡ m') × (lent q s n v ≡ x')). sym y.0 ∙ y'.0)
          (λ (y' : (s.next_ticket ≢ m') × (ticket_at s.tickets m' ≡ Some x')).
          absurd (not_out q s.tickets v.id m' x' free y'.1 (ox' ∙ sym ox ∙ ap (λ (z : Ticket). z.version) (sym y.1))))
          (ticket_cases (lent q s n v) s.tickets m' x' ex'))
          (λ (y : (s.next_ticket ≢ m) × (ticket_at s.tickets m ≡ Some x)). ⊎_elim
          (λ (y' : (s.next_ticket ≡ m') × (lent q s n v ≡ x')).
          absurd (not_out q s.tickets v.id m x free y.1 (ox ∙ sym ox' ∙ ap (λ (z : Ticket). z.version) (sym y'.1))))
          (λ (y' : (s.next_ticket ≢ m') × (ticket_at s.tickets m' ≡ Some x')). l.only m m' x x' y.1 y'.1 ox ox')
          (ticket_cases (lent q s n v) s.tickets m' x' ex'))
          (ticket_cases (lent q s n v) s.tickets m x ex);
    }
      where
        sm : id' ≡ id → v ≡ w
        sm wid = let a : version_at s.versions id ≡ Some w = subst (λ (z : ℕ). version_at s.versions z ≡ Some w) wid e in cc

    clear : (id' : ℕ) (w : Version) → version_at s.versions id' ≡ Some w → w.parent ≡ None → (i : ℕ) → is_hit q (leased q s n (Some v)) w i ≡ true → ⊥
    clear id' w e root i x =
        let o = hit_cases q (leased q s n (Some v)) w i x in
        ⊎_elim
        (λ (y : HasRead q s.events w i). h.clear id' w e root i (hit_read q s w i o.0 y))
        (λ (y : is_bare (lent q s n v ∷ s.tickets) w.id i ≡ true). ⊎_elim
        (λ (z : (v.id == w.id && is_lent (lent q s n v) i) ≡ true).
        let same : v.id ≡ w.id = eq_true v.id w.id (and_left (v.id == w.id) (is_lent (lent q s n v) i) z) in
        let b = lent_is (lent q s n v) i (and_right (v.id == w.id) (is_lent (lent q s n v) i) z) in
        let inside : is_among (lent q s n v).snapshot i ≡ true = filter_mem i (S v.id) (range_with_len (next_number q s v) (lent_count q s n v)) (range_mem i (next_number q s v) (lent_count q s n v) b.0 b.1) (subst (λ (m : ℕ). S m i ≡ true) (sym same) o.0) in
        let out = b.2 in
        cc)
        (λ (z : is_bare s.tickets w.id i ≡ true). h.clear id' w e root i (hit_bare q s w i o.0 z))
        (or_cases (v.id == w.id && is_lent (lent q s n v) i) (is_bare s.tickets w.id i) y))
        o.1

-- fewer bare events hit less
pub fewer_hit : (q : Plan) (s : Machine) (ts : List Ticket) (v : Version) (i : ℕ) → (is_bare ts v.id i ≡ true → is_bare s.tickets v.id i ≡ true) → is_hit q (record s { tickets = ts }) v i ≡ true → is_hit q s v i ≡ true
fewer_hit q s ts v i g x =
    let o = hit_cases q (record s { tickets = ts }) v i x in
    ⊎_elim (λ (y : HasRead q s.events v i). hit_read q s v i o.0 y) (λ (y : is_bare ts v.id i ≡ true). hit_bare q s v i o.0 (g y)) o.1

pub stale_keeps : (q : Plan) (s : Machine) (n : ℕ) → Kept q s → Kept q (record s { tickets = without n s.tickets })
stale_keeps q s n h = record {
  sane = record {
    shape = h.sane.shape;
    each = λ id v at. local_grows q s.events s.ended s.tickets (without n s.tickets) (is_suppressed q s id) (is_suppressed q s id) v (λ i x. x) (λ m t e. (without_at n s.tickets m t e).1) (h.sane.each id v at);
    ids = h.sane.ids;
    newest_first = without_ordered n s.tickets h.sane.newest_first;
    numbers = λ m t e. h.sane.numbers m t (without_at n s.tickets m t e).1;
    unborn = λ id le. without_out n s.tickets id (h.sane.unborn id le);
    emitted = h.sane.emitted;
    consumed = h.sane.consumed;
    good = h.sane.good;
    closed = h.sane.closed;
  };
  clear = λ id v at root i x. h.clear id v at root i (fewer_hit q s (without n s.tickets) v i (without_bare n s.tickets v.id i) x);
}

if_lt : (b : Bool) (r c : ℕ) → r ≤ c → cond (b && nat_lt r c) (r + 1) r ≤ c
if_lt b r c h = grind (arith, nat_tests)

if_shut : (b s : Bool) (r c : ℕ) → cond (b && nat_le c r) true s ≡ true → (s ≡ true) ⊎ ((b ≡ true) × (c ≤ r))
if_shut b s r c h = grind (arith, nat_tests)

if_full : (b : Bool) (r c : ℕ) → r ≡ c → cond (b && nat_lt r c) (r + 1) r ≡ c
if_full b r c h = grind (arith, nat_tests)

-- the read ticket has more to read, or closes
pub event_keeps : (q : Plan) (s : Machine) (n : ℕ) (t : Ticket) → ticket_at s.tickets n ≡ Some t → is_read_whole t ≡ false → Kept q s → Kept q (record s { tickets = read_on n s.tickets })
event_keeps q s n t at more h = record {
  sane = record {
    shape = h.sane.shape;
    each = λ id v e. loc id v (h.sane.each id v e);
    ids = h.sane.ids;
    newest_first = touched_ordered n s.tickets h.sane.newest_first;
    numbers = λ m x e. let r = touched_at n s.tickets m x e in h.sane.numbers m r.0 r.1;
    unborn = λ id le. touched_out n s.tickets id ∙ h.sane.unborn id le;
    emitted = h.sane.emitted;
    consumed = h.sane.consumed;
    good = h.sane.good;
    closed = h.sane.closed;
  };
  clear = λ id v e root i x. h.clear id v e root i (fewer_hit q s (read_on n s.tickets) v i (λ y. sym (touched_bare n s.tickets v.id i) ∙ y) x);
}
  where
    closing : (m : ℕ) (u : Ticket) → ticket_at s.tickets m ≡ Some u → u.read ≤ u.count → (m == n) ≡ true → u.count ≤ u.read → (u.closes ≡ true) × (u.read ≡ u.count)
    closing m u e l b c =
        let i : m ≡ n = eq_true m n b in
        let a : ticket_at s.tickets n ≡ Some u = subst (λ (z : ℕ). ticket_at s.tickets z ≡ Some u) i e in
        let same : t ≡ u = cc in
        let more' : (nat_le u.count u.read && (u.closing_read || not u.closes)) ≡ false = subst (λ (z : Ticket). (nat_le z.count z.read && (z.closing_read || not z.closes)) ≡ false) same more in
        (closes u.closes u.closing_read u.count u.read c more', omega arith)
      where
        closes : (c s : Bool) (a b : ℕ) → a ≤ b → (nat_le a b && (s || not c)) ≡ false → c ≡ true
        closes c s a b l h = grind (arith, nat_tests)

    loc : (id : ℕ) (v : Version) → Local q s.events s.ended s.tickets (is_suppressed q s id) v → Local q s.events s.ended (read_on n s.tickets) (is_suppressed q s id) v
    loc id v l = record {
      there = l.there;
      reads = l.reads;
      rising = l.rising;
      skips = l.skips;
      read_them = l.read_them;
      done = l.done;
      lent = λ m x e o.
          let r = touched_at n s.tickets m x e in
          let y = l.lent m r.0 r.1 (ap (λ (z : Ticket). z.version) (sym r.2) ∙ o) in
          subst (λ (z : Ticket). Lent q s.events s.ended (is_suppressed q s id) v z) (sym r.2) (record {
            begins = y.begins;
            fits = y.fits;
            closes = y.closes;
            undone = y.undone;
            snapshot = y.snapshot;
            reads = if_lt (m == n) r.0.read r.0.count y.reads;
            shuts = λ c. ⊎_elim
                (λ (z : r.0.closing_read ≡ true). ((y.shuts z).0, if_full (m == n) r.0.read r.0.count (y.shuts z).1))
                (λ (z : ((m == n) ≡ true) × (r.0.count ≤ r.0.read)). let g = closing m r.0 r.1 y.reads z.0 z.1 in (g.0, if_full (m == n) r.0.read r.0.count g.1))
                (if_shut (m == n) r.0.closing_read r.0.read r.0.count c);
          });
      only = λ m m' x x' e e' o o'.
          let r = touched_at n s.tickets m x e in
          let r' = touched_at n s.tickets m' x' e' in
          l.only m m' r.0 r'.0 r.1 r'.1 (ap (λ (z : Ticket). z.version) (sym r.2) ∙ o) (ap (λ (z : Ticket). z.version) (sym r'.2) ∙ o');
    }
