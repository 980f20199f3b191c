-- The windows that events open: as one event more comes, and in which order they stand.
use Rattle.std.proofs.Common.{◌≡◌, ℕ, ℤ, pos, zero, suc, ◌+◌, ◌-◌, ◌*◌, ◌/◌, ◌%◌, ◌<◌, ◌≤◌, ◌<ℤ◌, Bool, true, false, List, [], ◌∷◌, ◌++◌, length, map, None, refl, sym, ap, ◌∙◌, subst, arith, append_assoc, length-append}
use Rattle.std.specs.Prelude.{unsigned_abs, ◌==◌, if◌then◌else◌}
use Rattle.std.specs.List.{All, range_with_len}
use Rattle.std.proofs.lemmas.Bool.Decides.{nat_tests}
use Rattle.std.proofs.lemmas.Int.{ints}
use Rattle.std.proofs.lemmas.Nat.{mul-le}
use Rattle.std.proofs.lemmas.List.{append-nil, length-map}
use Rattle.std.proofs.lemmas.List.Elements.{All-nil, All-cons, All-head, All-tail, All-append, All-weaker, All-map, All-filter, filter_passes}
use Rattle.std.proofs.Math.Nat.{div-mul-le_self, le-div_iff_mul-le}
use Rattle.sp_plan.specs.declared.event.Event.{Event}
use Rattle.sp_plan.specs.declared.plan.Plan.{Plan}
use Rattle.sp_plan.specs.declared.plan.Length.{Length}
use Rattle.sp_plan.specs.declared.plan.Length.TheVariants.{Events, Time}
use Rattle.sp_plan.specs.declared.plan.Opening.{Opening}
use Rattle.sp_plan.specs.declared.plan.Opening.TheVariants.{EveryEvents, EveryTime, When}
use Rattle.sp_plan.specs.Values.{holds}
use Rattle.sp_plan.specs.Windows.{IsWindowed, IsLength, IsOpening, duration}
use Rattle.sp_plan.specs.WindowNumbers.{Good}
use Rattle.sp_window.specs.declared.record.Limit.{Limit}
use Rattle.sp_window.specs.declared.record.Limit.TheVariants.{AtNumber, AtTime}
use Rattle.sp_window.specs.declared.record.Record.{Record}
use Rattle.sp_window.specs.Times.{stamp, last_stamp}
use Rattle.sp_window.specs.Openings.{limit_from, open_at, goes_on, spans_begun, first_begun, opening_by, next_span, opened_from, opened, span_after}
use Rattle.sp_window.specs.Holding.{is_below}
use Rattle.sp_window.proofs.Lists.{by_feeding, length_push, all_both, range_within}
use Rattle.sp_window.proofs.Spans.{begun_is, begun_few}
use Rattle.sp_window.proofs.Feeding.{good_less, last_stamp_push}

-- one event more opens its windows behind the others, whatever number the first event has
pub opened_from_push : (o : Opening) (l : Length) (number next : ℕ) (events : List Event) (e : Event) → opened_from o l number next (events ++ e ∷ []) ≡ opened_from o l number next events ++ opening_by o l (number + length events) (span_after o next events) e
opened_from_push o l number next [] e =
    let at : number ≡ number + 0 = omega arith in
    append-nil (opening_by o l number next e) ∙ ap (λ (n : ℕ). opening_by o l n next e) at
opened_from_push o l number next (x ∷ events) e =
    let at : number + 1 + length events ≡ number + suc (length events) = omega arith in
    ap (λ z. opening_by o l number next x ++ z) (opened_from_push o l (number + 1) (next_span o x) events e ∙ ap (λ (n : ℕ). opened_from o l (number + 1) (next_span o x) events ++ opening_by o l n (span_after o (next_span o x) events) e) at)
    ∙ sym (append_assoc (opening_by o l number next x) (opened_from o l (number + 1) (next_span o x) events) (opening_by o l (number + suc (length events)) (span_after o (next_span o x) events) e))

-- the windows that an event opens behind others
abbrev pub opening : Plan → List Event → Event → List Record
opening q events e = opening_by q.opening q.length (length events + 1) (span_after q.opening 0 events) e

-- one event more opens its windows behind the others
pub opened_push : (q : Plan) (events : List Event) (e : Event) → opened q (events ++ e ∷ []) ≡ opened q events ++ opening q events e
opened_push q events e =
    let at : 1 + length events ≡ length events + 1 = omega arith in
    opened_from_push q.opening q.length 1 0 events e ∙ ap (λ (n : ℕ). opened q events ++ opening_by q.opening q.length n (span_after q.opening 0 events) e) at

-- the next span after one event more
pub span_after_push : (o : Opening) (next : ℕ) (events : List Event) (e : Event) → span_after o next (events ++ e ∷ []) ≡ next_span o e
span_after_push o next [] e = refl
span_after_push o next (x ∷ events) e = span_after_push o (next_span o x) events e

-- a limit is no later than another
abbrev pub IsNoLater : Limit → Limit → Type 0
IsNoLater (AtNumber a) (AtNumber b) = a ≤ b
IsNoLater (AtTime a) (AtTime b) = a ≤ b
IsNoLater (AtNumber a) (AtTime b) = ⊥
IsNoLater (AtTime a) (AtNumber b) = ⊥

-- limits are in order
pub no_later_trans : (a b c : Limit) → IsNoLater a b → IsNoLater b c → IsNoLater a c
no_later_trans (AtNumber a) (AtNumber b) (AtNumber c) p q = omega arith
no_later_trans (AtTime a) (AtTime b) (AtTime c) p q = omega arith
no_later_trans (AtNumber a) (AtNumber b) (AtTime c) p q = absurd q
no_later_trans (AtTime a) (AtTime b) (AtNumber c) p q = absurd q
no_later_trans (AtNumber a) (AtTime b) c p q = absurd p
no_later_trans (AtTime a) (AtNumber b) c p q = absurd p

-- a window stands behind another: it neither begins nor stops before
pub record Follows (r s : Record) : Type 0 where
  pub first : r.first ≤ s.first
  pub limit : IsNoLater r.limit s.limit

-- windows in order
abbrev pub InOrder : List Record → Type 0
InOrder [] = Unit {0}
InOrder (r ∷ rs) = All (Follows r) rs × InOrder rs

-- windows in order, and others behind all of them
pub in_order_append : (rs ss : List Record) → InOrder rs → InOrder ss → All (λ r. All (Follows r) ss) rs → InOrder (rs ++ ss)
in_order_append [] ss before after between = after
in_order_append (r ∷ rs) ss before after between =
    (All-append (Follows r) rs ss before.0 (All-head (λ r. All (Follows r) ss) r rs between), in_order_append rs ss before.1 after (All-tail (λ r. All (Follows r) ss) r rs between))

-- the latest limit of the windows that were opened so far
abbrev pub horizon : Opening → Length → ℕ → ℕ → Limit
horizon (EveryEvents s) l number time = limit_from l number time
horizon (When p) l number time = limit_from l number time
horizon (EveryTime s) l number time = AtTime (time / unsigned_abs s * unsigned_abs s + unsigned_abs (duration l))

-- what a window keeps that opens with an event of this number and time, behind windows with earlier limits
pub record Opens (late : Limit) (o : Opening) (l : Length) (number : ℕ) (e : Event) (r : Record) : Type 0 where
  pub first_is : r.first ≡ number
  pub end_is : r.end ≡ None
  pub below : is_below r.limit (number, e) ≡ true
  pub from : IsNoLater late r.limit
  pub to : IsNoLater r.limit (horizon o l number (stamp e))

-- limits rise with numbers and times
limit_rises : (l : Length) (n t n' t' : ℕ) → n ≤ n' → t ≤ t' → IsNoLater (limit_from l n t) (limit_from l n' t')
limit_rises (Events c) n t n' t' more rise = omega arith
limit_rises (Time d) n t n' t' more rise = omega arith

-- a number above 0 is so in magnitude
pub abs_above : (d : ℤ) → pos 0 <ℤ d → 0 < unsigned_abs d
abs_above d above = omega (arith, ints)

-- an event is below the limit of the window that it opens
limit_above : (l : Length) (n : ℕ) (e : Event) → IsLength l → is_below (limit_from l n (stamp e)) (n, e) ≡ true
limit_above (Events c) n e long = let some = long.0 in grind (arith, nat_tests)
limit_above (Time d) n e long = let some = abs_above d long.0 in grind (arith, nat_tests)

-- multiples of a step up to a number rise with it
div_rises : (a b s : ℕ) → 0 < s → a ≤ b → a / s * s ≤ b / s * s
div_rises a b s above rise =
    let low : a / s * s ≤ a = div-mul-le_self a s in
    let at : a / s ≤ b / s = (le-div_iff_mul-le {k = s} {x = a / s} {y = b} above).1 (omega arith) in
    mul-le (a / s) s (b / s) s at (omega arith)

-- the latest limit rises
pub horizon_rises : (o : Opening) (l : Length) → IsOpening l o → (n t n' t' : ℕ) → n ≤ n' → t ≤ t' → IsNoLater (horizon o l n t) (horizon o l n' t')
horizon_rises (EveryEvents s) l limits n t n' t' more rise = limit_rises l n t n' t' more rise
horizon_rises (When p) l limits n t n' t' more rise = limit_rises l n t n' t' more rise
horizon_rises (EveryTime s) (Events c) limits n t n' t' more rise = absurd limits
horizon_rises (EveryTime s) (Time d) limits n t n' t' more rise = let product = div_rises t t' (unsigned_abs s) (abs_above s limits.0) rise in omega arith

-- the windows of spans that begin with an event
module _ (step size number : ℕ) where
  -- the window of a span
  abbrev span_record : ℕ → Record
  span_record k = open_at number (AtTime (k * step + size))

  -- the windows of a range of spans are in order
  spans_in_order : (a n : ℕ) → InOrder (map span_record (range_with_len a n))
  spans_in_order a zero = tt
  spans_in_order a (suc n) = (
    All-map (Follows (span_record a)) span_record (range_with_len (a + 1) n)
        (All-weaker (λ k. (a + 1 ≤ k) × (k < a + 1 + n)) (λ k. Follows (span_record a) (span_record k)) (λ k within. later k within.0) (range_with_len (a + 1) n) (range_within (a + 1) n)),
    spans_in_order (a + 1) n,
  )
    where
      later : (k : ℕ) → a + 1 ≤ k → Follows (span_record a) (span_record k)
      later k high = let product : a * step ≤ k * step = mul-le a step k step (omega arith) (omega arith) in record { first = omega arith; limit = omega arith }

  -- and those of the spans that begin
  spans_ordered : (next time : ℕ) → 0 < step → InOrder (map span_record (spans_begun step size next time))
  spans_ordered next time above = subst (λ (l : List ℕ). InOrder (map span_record l)) (sym (begun_is step size next time above)) (spans_in_order (first_begun step size next time) (time / step + 1 - first_begun step size next time))

  -- what each of them keeps
  spans_open : (o : Opening) (l : Length) (late next : ℕ) (e : Event) → 0 < step → horizon o l number (stamp e) ≡ AtTime (stamp e / step * step + size)
      → ((k : ℕ) → next ≤ k → late ≤ k * step + size) → All (Opens (AtTime late) o l number e) (map span_record (spans_begun step size next (stamp e)))
  spans_open o l late next e above horizon_is ahead =
      let time = stamp e in
      let range = range_with_len next (time / step + 1 - next) in
      let Within : ℕ → Type 0 = λ k. (next ≤ k) × (k < next + (time / step + 1 - next)) in
      let Passes : ℕ → Type 0 = λ k. goes_on step size time k ≡ true in
      let kept : All Within (spans_begun step size next time) = All-filter (goes_on step size time) Within range (range_within next (time / step + 1 - next)) in
      let passed : All Passes (spans_begun step size next time) = filter_passes (goes_on step size time) range in
      All-map (Opens (AtTime late) o l number e) span_record (spans_begun step size next time)
      (All-weaker (λ k. Within k × Passes k) (λ k. Opens (AtTime late) o l number e (span_record k)) (λ k both. one k both.0.0 both.0.1 both.1) (spans_begun step size next time) (all_both Within Passes (spans_begun step size next time) kept passed))
    where
      one : (k : ℕ) → next ≤ k → k < next + (stamp e / step + 1 - next) → goes_on step size (stamp e) k ≡ true → Opens (AtTime late) o l number e (span_record k)
      one k low high on =
          let product : k * step ≤ stamp e / step * step = mul-le k step (stamp e / step) step (omega arith) (omega arith) in
          record {
            first_is = refl;
            end_is = refl;
            below = on;
            from = ahead k low;
            to = subst (λ (h : Limit). IsNoLater (AtTime (k * step + size)) h) (sym horizon_is) (omega arith);
          }

-- one window or none
module _ (late : Limit) (o : Opening) (l : Length) (number : ℕ) (e : Event) (long : IsLength l) (from : IsNoLater late (limit_from l number (stamp e))) (horizon_is : horizon o l number (stamp e) ≡ limit_from l number (stamp e)) where
  -- a limit is no later than itself
  self_no_later : (h : Limit) → IsNoLater h h
  self_no_later (AtNumber n) = omega arith
  self_no_later (AtTime t) = omega arith

  -- what one window keeps, or none
  one_opens : (b : Bool) → All (Opens late o l number e) (if b then open_at number (limit_from l number (stamp e)) ∷ [] else [])
  one_opens true =
      All-cons (Opens late o l number e) (open_at number (limit_from l number (stamp e))) []
      (record { first_is = refl; end_is = refl; below = limit_above l number e long; from = from; to = subst (λ (h : Limit). IsNoLater (limit_from l number (stamp e)) h) (sym horizon_is) (self_no_later (limit_from l number (stamp e))) })
      (All-nil (Opens late o l number e))
  one_opens false = All-nil (Opens late o l number e)

  -- one window is in order
  one_in_order : (b : Bool) → InOrder (if b then open_at number (limit_from l number (stamp e)) ∷ [] else [])
  one_in_order true = (All-nil (Follows (open_at number (limit_from l number (stamp e)))), tt)
  one_in_order false = tt

  -- one window is few
  one_few : (b : Bool) → length (if b then open_at number (limit_from l number (stamp e)) ∷ [] else []) ≤ 64
  one_few true = omega arith
  one_few false = omega arith

-- the windows that one event opens: each begins with it, they are in order, and at most 64
pub record OpensFew (late : Limit) (o : Opening) (l : Length) (number : ℕ) (e : Event) (rs : List Record) : Type 0 where
  pub open_all : All (Opens late o l number e) rs
  pub in_order : InOrder rs
  pub few : length rs ≤ 64

-- the windows that one event opens
opens_few : (o : Opening) (l : Length) → IsLength l → IsOpening l o → (n t next : ℕ) (e : Event) → t ≤ stamp e → ((s : ℤ) → o ≡ EveryTime s → (k : ℕ) → next ≤ k → t / unsigned_abs s * unsigned_abs s ≤ k * unsigned_abs s)
    → OpensFew (horizon o l n t) o l (n + 1) e (opening_by o l (n + 1) next e)
opens_few (EveryEvents s) l long limits n t next e rise ahead =
    let b = (n + 1 - 1) % s == 0 in
    let from = limit_rises l n t (n + 1) (stamp e) (omega arith) rise in
    record { open_all = one_opens (limit_from l n t) (EveryEvents s) l (n + 1) e long from refl b; in_order = one_in_order (limit_from l n t) (EveryEvents s) l (n + 1) e long from refl b; few = one_few (limit_from l n t) (EveryEvents s) l (n + 1) e long from refl b }
opens_few (When p) l long limits n t next e rise ahead =
    let b = holds p e [] in
    let from = limit_rises l n t (n + 1) (stamp e) (omega arith) rise in
    record { open_all = one_opens (limit_from l n t) (When p) l (n + 1) e long from refl b; in_order = one_in_order (limit_from l n t) (When p) l (n + 1) e long from refl b; few = one_few (limit_from l n t) (When p) l (n + 1) e long from refl b }
opens_few (EveryTime s) (Events c) long limits n t next e rise ahead = absurd limits
opens_few (EveryTime s) (Time d) long limits n t next e rise ahead =
    let step = unsigned_abs s in
    let size = unsigned_abs d in
    let above : 0 < step = abs_above s limits.0 in
    let some : 0 < size = abs_above d long.0 in
    record {
      open_all = spans_open step size (n + 1) (EveryTime s) (Time d) (t / step * step + size) next e above refl (λ k low. let product = ahead s refl k low in omega arith);
      in_order = spans_ordered step size (n + 1) next (stamp e) above;
      few = ap_le (length-map (spans_begun step size next (stamp e)) (span_record step size (n + 1))) (begun_few step size next (stamp e) above some limits.2);
    }
  where
    ap_le : {a b : ℕ} → a ≡ b → b ≤ 64 → a ≤ 64
    ap_le is few = omega arith

-- what each window that was opened keeps after so many events, the last of this time
pub record InRange (o : Opening) (l : Length) (n t : ℕ) (r : Record) : Type 0 where
  pub low : 1 ≤ r.first
  pub high : r.first ≤ n
  pub end_is : r.end ≡ None
  pub limit : IsNoLater r.limit (horizon o l n t)

-- what all of them keep
pub record AllOpened (q : Plan) (n t : ℕ) (rs : List Record) : Type 0 where
  pub in_range : All (InRange q.opening q.length n t) rs
  pub in_order : InOrder rs
  pub few : length rs ≤ 64 * n

-- the next span begins no earlier than the multiple of the step at the last time
span_ahead : (s : ℤ) (events : List Event) → 0 < unsigned_abs s → (k : ℕ) → span_after (EveryTime s) 0 events ≤ k → last_stamp events / unsigned_abs s * unsigned_abs s ≤ k * unsigned_abs s
span_ahead s events above = by_feeding (λ l. (k : ℕ) → span_after (EveryTime s) 0 l ≤ k → last_stamp l / unsigned_abs s * unsigned_abs s ≤ k * unsigned_abs s) (λ k low. let none : 0 / unsigned_abs s * unsigned_abs s ≤ 0 = div-mul-le_self 0 (unsigned_abs s) in omega arith) (λ l e before. more l e) events
  where
    more : (l : List Event) (e : Event) (k : ℕ) → span_after (EveryTime s) 0 (l ++ e ∷ []) ≤ k → last_stamp (l ++ e ∷ []) / unsigned_abs s * unsigned_abs s ≤ k * unsigned_abs s
    more l e k low =
        let at = span_after_push (EveryTime s) 0 l e in
        let high : stamp e / unsigned_abs s ≤ k = omega arith in
        let product = mul-le (stamp e / unsigned_abs s) (unsigned_abs s) k (unsigned_abs s) high (omega arith) in
        subst (λ (t : ℕ). t / unsigned_abs s * unsigned_abs s ≤ k * unsigned_abs s) (sym (last_stamp_push l e)) product

-- a step in time is above 0
step_above : (o : Opening) (l : Length) (s : ℤ) → IsOpening l o → o ≡ EveryTime s → 0 < unsigned_abs s
step_above (EveryTime r) (Time d) s limits is = let same : r ≡ s = cc in subst (λ (z : ℤ). 0 < unsigned_abs z) same (abs_above r limits.0)
step_above (EveryTime r) (Events c) s limits is = absurd limits
step_above (EveryEvents r) l s limits is = cc
step_above (When p) l s limits is = cc

-- what the windows that an event opens keep
pub opening_opens : (q : Plan) → IsWindowed q → (events : List Event) (e : Event) → last_stamp events ≤ stamp e → OpensFew (horizon q.opening q.length (length events) (last_stamp events)) q.opening q.length (length events + 1) e (opening q events e)
opening_opens q limits events e rise =
    opens_few q.opening q.length limits.length_is limits.opening_is (length events) (last_stamp events) (span_after q.opening 0 events) e rise
    (λ s is k low. span_ahead s events (step_above q.opening q.length s limits.opening_is is) k (subst (λ (o : Opening). span_after o 0 events ≤ k) is low))

-- one event more, and the windows that it opens
one_more : (q : Plan) → IsWindowed q → (n t : ℕ) (e : Event) (rs ss : List Record) → t ≤ stamp e → AllOpened q n t rs → OpensFew (horizon q.opening q.length n t) q.opening q.length (n + 1) e ss → AllOpened q (n + 1) (stamp e) (rs ++ ss)
one_more q limits n t e rs ss rise held opens = record {
  in_range = All-append (InRange o l (n + 1) (stamp e)) rs ss
      (All-weaker (InRange o l n t) (InRange o l (n + 1) (stamp e)) (λ r own. old r own) rs held.in_range)
      (All-weaker (Opens late o l (n + 1) e) (InRange o l (n + 1) (stamp e)) (λ r own. new r own) ss opens.open_all);
  in_order = in_order_append rs ss held.in_order opens.in_order (All-weaker (InRange o l n t) (λ r. All (Follows r) ss) (λ r own. All-weaker (Opens late o l (n + 1) e) (Follows r) (λ s its. behind r s own its) ss opens.open_all) rs held.in_range);
  few = let size = length-append rs ss in let some = held.few in let more = opens.few in omega arith;
}
  where
    o : Opening
    o = q.opening

    l : Length
    l = q.length

    late : Limit
    late = horizon q.opening q.length n t

    old : (r : Record) → InRange q.opening q.length n t r → InRange q.opening q.length (n + 1) (stamp e) r
    old r own = record {
      low = own.low;
      high = let h = own.high in omega arith;
      end_is = own.end_is;
      limit = no_later_trans r.limit (horizon q.opening q.length n t) (horizon q.opening q.length (n + 1) (stamp e)) own.limit (horizon_rises q.opening q.length limits.opening_is n t (n + 1) (stamp e) (omega arith) rise);
    }

    new : (r : Record) → Opens (horizon q.opening q.length n t) q.opening q.length (n + 1) e r → InRange q.opening q.length (n + 1) (stamp e) r
    new r own = record { low = let h = own.first_is in omega arith; high = let h = own.first_is in omega arith; end_is = own.end_is; limit = own.to }

    behind : (r s : Record) → InRange q.opening q.length n t r → Opens (horizon q.opening q.length n t) q.opening q.length (n + 1) e s → Follows r s
    behind r s own its = record {
      first = let a = own.high in let b = its.first_is in omega arith;
      limit = no_later_trans r.limit (horizon q.opening q.length n t) s.limit own.limit its.from;
    }

-- the windows that good events open
pub all_opened : (q : Plan) → IsWindowed q → (events : List Event) → Good q events → AllOpened q (length events) (last_stamp events) (opened q events)
all_opened q limits = by_feeding (λ l. Good q l → AllOpened q (length l) (last_stamp l) (opened q l)) (λ good. record { in_range = All-nil (InRange q.opening q.length 0 0); in_order = tt; few = omega arith }) (λ l e before good. more l e before good)
  where
    more : (l : List Event) (e : Event) → (Good q l → AllOpened q (length l) (last_stamp l) (opened q l)) → Good q (l ++ e ∷ []) → AllOpened q (length (l ++ e ∷ [])) (last_stamp (l ++ e ∷ [])) (opened q (l ++ e ∷ []))
    more l e before good =
        let fed = good_less q l e good in
        let next : AllOpened q (length l + 1) (stamp e) (opened q l ++ opening q l e) =
        one_more q limits (length l) (last_stamp l) e (opened q l) (opening q l e) fed.rises (before fed.before) (opening_opens q limits l e fed.rises) in
        subst (λ (n : ℕ). AllOpened q n (last_stamp (l ++ e ∷ [])) (opened q (l ++ e ∷ []))) (sym (length_push l e))
        (subst (λ (t : ℕ). AllOpened q (length l + 1) t (opened q (l ++ e ∷ []))) (sym (last_stamp_push l e))
        (subst (λ (rs : List Record). AllOpened q (length l + 1) (stamp e) rs) (sym (opened_push q l e)) next))
