-- The conflict of a version is looked for among what it has read, and then among what is lent to it.
use Rattle.std.proofs.Common.{◌≡◌, ℕ, ◌+◌, ◌<◌, ◌≤◌, Bool, true, false, cond, not, ◌&&◌, ◌||◌, ◌==◌, List, [], ◌∷◌, Option, Some, None, refl, sym, ap, subst, ◌∙◌, arith}
use Rattle.std.specs.Prelude.{nat_le, nat_lt}
use Rattle.std.proofs.lemmas.Bool.Decides.{nat_tests}
use Rattle.std.proofs.lemmas.Option.{none-some, same_Some}
use Rattle.sp_base.specs.Numbers.{is_among}
use Rattle.sp_plan.specs.declared.plan.Plan.{Plan}
use Rattle.sp_plan.specs.WindowNumbers.{first, size}
use Rattle.sp_group.specs.Rising.{least}
use Rattle.sp_group.specs.Machine.{Machine, Ticket, Version, conflict, is_bare, is_hit, is_lent, is_read, is_suppressed, out_for, ticket_at}
use Rattle.sp_rules.specs.Kept.{Lent, Local, NewestFirst}
use Rattle.sp_core.specs.Suppressing.{least_suppressed}
use Rattle.sp_core.specs.Withheld.{lesser}
use Rattle.sp_core.proofs.Least.{least_alike, least_below, least_either, least_nothing, least_passes, least_within, lesser_before}

-- a ticket behind the newest one is found in the same way
at_behind : (t : Ticket) (ts : List Ticket) (n : ℕ) (u : Ticket) → n < t.number → ticket_at ts n ≡ Some u → ticket_at (t ∷ ts) n ≡ Some u
at_behind t ts n u low at = let other : (t.number == n) ≡ false = grind (arith, nat_tests) in ap (λ (b : Bool). cond b (Some t) (ticket_at ts n)) other ∙ at

at_front : (t : Ticket) (ts : List Ticket) → ticket_at (t ∷ ts) t.number ≡ Some t
at_front t ts = let own : (t.number == t.number) ≡ true = grind (arith, nat_tests) in ap (λ (b : Bool). cond b (Some t) (ticket_at ts t.number)) own

-- a ticket of a version
pub record Out (ts : List Ticket) (id n : ℕ) : Type 0 where
  pub ticket : Ticket
  pub is : ticket_at ts n ≡ Some ticket
  pub of : ticket.version ≡ id

-- the ticket that is out for a version is its own
pub out_is : (ts : List Ticket) (id n : ℕ) → NewestFirst ts → out_for ts id ≡ Some n → Out ts id n
out_is [] id n newest out = absurd (cc out)
out_is (t ∷ ts) id n newest out = one (t.version == id) refl out (λ later. out_is ts id n newest.1 later)
  where
    one : (b : Bool) → (t.version == id) ≡ b → cond b (Some t.number) (out_for ts id) ≡ Some n → (out_for ts id ≡ Some n → Out ts id n) → Out (t ∷ ts) id n
    one true own is rest =
        let mine : t.version ≡ id = grind (arith, nat_tests) in
        let same : t.number ≡ n = same_Some t.number n is in
        record { ticket = t; is = subst (λ (k : ℕ). ticket_at (t ∷ ts) k ≡ Some t) same (at_front t ts); of = mine }
    one false other is rest =
        let r = rest is in
        record { ticket = r.ticket; is = at_behind t ts n r.ticket (newest.0 n r.ticket r.is) r.is; of = r.of }

-- a ticket that lends an event to a version
pub record Lends (ts : List Ticket) (id i : ℕ) : Type 0 where
  pub ticket : Ticket
  pub is : ticket_at ts ticket.number ≡ Some ticket
  pub of : ticket.version ≡ id
  pub lends : is_lent ticket i ≡ true

pub bare_is : (ts : List Ticket) (id i : ℕ) → NewestFirst ts → is_bare ts id i ≡ true → Lends ts id i
bare_is [] id i newest bare = absurd (cc bare)
bare_is (t ∷ ts) id i newest bare = one (t.version == id) (is_lent t i) refl refl bare (λ later. bare_is ts id i newest.1 later)
  where
    behind : Lends ts id i → Lends (t ∷ ts) id i
    behind r = record { ticket = r.ticket; is = at_behind t ts r.ticket.number r.ticket (newest.0 r.ticket.number r.ticket r.is) r.is; of = r.of; lends = r.lends }

    one : (b c : Bool) → (t.version == id) ≡ b → is_lent t i ≡ c → ((b && c) || is_bare ts id i) ≡ true → (is_bare ts id i ≡ true → Lends ts id i) → Lends (t ∷ ts) id i
    one true true own lends is rest =
        let mine : t.version ≡ id = grind (arith, nat_tests) in
        record { ticket = t; is = at_front t ts; of = mine; lends = lends }
    one true false own lends is rest = behind (rest is)
    one false c own lends is rest = behind (rest is)

-- a ticket of a version lends it its events
pub is_bare_for : (ts : List Ticket) (id i n : ℕ) (t : Ticket) → ticket_at ts n ≡ Some t → t.version ≡ id → is_lent t i ≡ true → is_bare ts id i ≡ true
is_bare_for [] id i n t at of lends = absurd (cc at)
is_bare_for (x ∷ ts) id i n t at of lends = one (x.number == n) at (λ later. is_bare_for ts id i n t later of lends)
  where
    or_right : (a b : Bool) → b ≡ true → (a || b) ≡ true
    or_right true b is = refl
    or_right false b is = is

    one : (b : Bool) → cond b (Some x) (ticket_at ts n) ≡ Some t → (ticket_at ts n ≡ Some t → is_bare ts id i ≡ true) → ((x.version == id && is_lent x i) || is_bare ts id i) ≡ true
    one true is rest =
        let own : (t.version == id) ≡ true = grind (arith, nat_tests) in
        subst (λ (y : Ticket). ((y.version == id && is_lent y i) || is_bare ts id i) ≡ true) (sym (same_Some x t is)) (rw (own, lends) refl)
    one false is rest = or_right (x.version == id && is_lent x i) (is_bare ts id i) (rest is)

same_bool : (a b : Bool) → (a ≡ true → b ≡ true) → (b ≡ true → a ≡ true) → a ≡ b
same_bool true b f g = sym (f refl)
same_bool false true f g = g refl
same_bool false false f g = refl

and_right : (a b : Bool) → (a && b) ≡ true → b ≡ true
and_right true b is = is
and_right false b is = absurd (cc is)

and_none : (a b : Bool) → b ≡ false → (a && b) ≡ false
and_none true b is = is
and_none false b is = refl

-- what is lent, and not in the snapshot, is within what is lent
lent_from : (t : Ticket) (i : ℕ) → is_lent t i ≡ true → t.first ≤ i
lent_from t i lends = grind (arith, nat_tests)

lent_before : (t : Ticket) (i : ℕ) → i < t.first → is_lent t i ≡ false
lent_before t i low = grind (arith, nat_tests)

lent_behind : (t : Ticket) (i : ℕ) → t.first + t.count ≤ i → is_lent t i ≡ false
lent_behind t i high = grind (arith, nat_tests)

read_behind : (f n : ℕ) (skipped : List ℕ) (i : ℕ) → f + n ≤ i → (nat_le f i && nat_lt i (f + n) && not (is_among skipped i)) ≡ false
read_behind f n skipped i high = grind (arith, nat_tests)

and_over : (a b c : Bool) → ((a && b) || (a && c)) ≡ (a && (b || c))
and_over true b c = refl
and_over false b c = refl

-- where nothing is out for a version, nothing is lent to it
out_none : (ts : List Ticket) (id i : ℕ) → out_for ts id ≡ None → is_bare ts id i ≡ false
out_none [] id i out = refl
out_none (t ∷ ts) id i out = one (t.version == id) out (out_none ts id i)
  where
    one : (b : Bool) → cond b (Some t.number) (out_for ts id) ≡ None → (out_for ts id ≡ None → is_bare ts id i ≡ false) → ((b && is_lent t i) || is_bare ts id i) ≡ false
    one true is rest = absurd (none-some t.number (sym is))
    one false is rest = rest is

-- the ticket of a version is the only one that lends it events
bare_alike : (ts : List Ticket) (id i n : ℕ) (t : Ticket) → NewestFirst ts
    → ((k j : ℕ) (u w : Ticket) → ticket_at ts k ≡ Some u → ticket_at ts j ≡ Some w → u.version ≡ id → w.version ≡ id → k ≡ j)
    → ticket_at ts n ≡ Some t → t.version ≡ id → is_bare ts id i ≡ is_lent t i
bare_alike ts id i n t newest only at of = same_bool (is_bare ts id i) (is_lent t i) lends (is_bare_for ts id i n t at of)
  where
    lends : is_bare ts id i ≡ true → is_lent t i ≡ true
    lends bare =
        let l = bare_is ts id i newest bare in
        let number : l.ticket.number ≡ n = only l.ticket.number n l.ticket t l.is at l.of of in
        let same : l.ticket ≡ t = same_Some l.ticket t (sym l.is ∙ ap (ticket_at ts) number ∙ at) in
        subst (λ (u : Ticket). is_lent u i ≡ true) same l.lends

module _ (q : Plan) (m : Machine) (v : Version) where
  -- suppressed, and read; suppressed, and lent
  abbrev hit_read : ℕ → Bool
  hit_read i = is_suppressed q m v.id i && is_read q m.events v i

  abbrev hit_lent : ℕ → Bool
  hit_lent i = is_suppressed q m v.id i && is_bare m.tickets v.id i

  abbrev from : ℕ
  from = first q m.events v.window

  -- what the rules say of the version
  abbrev pub IsLocal : Type 0
  IsLocal = Local q m.events m.ended m.tickets (is_suppressed q m v.id) v

  -- the least of those that it has read
  abbrev pub read_least : Option ℕ
  read_least = least_suppressed q m v.id (first q m.events v.window) v.position v.skipped

  abbrev lent_least : Option ℕ
  lent_least = least hit_lent from (size q m.events v.window)

  both : v.position ≤ size q m.events v.window → conflict q m v ≡ lesser read_least lent_least
  both reads =
      let n = size q m.events v.window in
      least_alike (is_hit q m v) (λ i. hit_read i || hit_lent i) from n
      (λ i low high. sym (and_over (is_suppressed q m v.id i) (is_read q m.events v i) (is_bare m.tickets v.id i)))
      ∙ sym (least_either hit_read hit_lent from n)
      ∙ ap (λ (o : Option ℕ). lesser o lent_least) (least_within hit_read from n from v.position (omega arith) (omega arith) (λ i low less. absurd (omega arith))
      (λ i past. and_none (is_suppressed q m v.id i) (is_read q m.events v i) (read_behind from v.position v.skipped i past)))

  -- one that it has read is the conflict
  pub conflict_read : NewestFirst m.tickets → IsLocal → (n : ℕ) → read_least ≡ Some n → read_least ≡ conflict q m v
  conflict_read newest local n is =
      is ∙ sym (both local.reads ∙ ap (λ (o : Option ℕ). lesser o lent_least) is ∙ lesser_before n lent_least low)
    where
      low : (k : ℕ) → lent_least ≡ Some k → n ≤ k
      low k found =
          let pass = least_passes hit_lent from (size q m.events v.window) k found in
          let l = bare_is m.tickets v.id k newest (and_right (is_suppressed q m v.id k) (is_bare m.tickets v.id k) pass) in
          let begins : l.ticket.first ≡ from + v.position = (local.lent l.ticket.number l.ticket l.is l.of).begins in
          let above : l.ticket.first ≤ k = lent_from l.ticket k l.lends in
          let below : n < from + v.position = least_below hit_read from v.position n is in
          omega arith

  -- none where it has read none, and nothing is out for it
  pub conflict_none : IsLocal → read_least ≡ None → out_for m.tickets v.id ≡ None → conflict q m v ≡ None
  conflict_none local is out =
      both local.reads ∙ ap (λ (o : Option ℕ). lesser o lent_least) is
      ∙ least_nothing hit_lent from (size q m.events v.window)
      (λ i low high. and_none (is_suppressed q m v.id i) (is_bare m.tickets v.id i) (out_none m.tickets v.id i out))

  -- and else the least of those that its ticket lends
  pub conflict_lent : NewestFirst m.tickets → IsLocal → read_least ≡ None → (n : ℕ) (t : Ticket) → ticket_at m.tickets n ≡ Some t → t.version ≡ v.id
      → least_suppressed q m v.id t.first t.count t.snapshot ≡ conflict q m v
  conflict_lent newest local is n t at of =
      let all = size q m.events v.window in
      let lent : Lent q m.events m.ended (is_suppressed q m v.id) v t = local.lent n t at of in
      let begins = lent.begins in
      let fits = lent.fits in
      let hit : ℕ → Bool = λ i. is_suppressed q m v.id i && is_lent t i in
      let same : lent_least ≡ least hit from all =
      least_alike hit_lent hit from all
      (λ i low high. ap (λ (b : Bool). is_suppressed q m v.id i && b) (bare_alike m.tickets v.id i n t newest local.only at of)) in
      let within : least hit from all ≡ least hit t.first t.count =
      least_within hit from all t.first t.count (omega arith) (omega arith)
      (λ i low less. and_none (is_suppressed q m v.id i) (is_lent t i) (lent_before t i less))
      (λ i past. and_none (is_suppressed q m v.id i) (is_lent t i) (lent_behind t i past)) in
      sym (both local.reads ∙ ap (λ (o : Option ℕ). lesser o lent_least) is ∙ same ∙ within)
