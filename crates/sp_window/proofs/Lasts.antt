-- The last event of a window, as events come.
use Rattle.std.proofs.Common.{◌≡◌, inl, inr, ℕ, ◌+◌, ◌-◌, ◌≤◌, max, Bool, true, false, ◌&&◌, List, [], ◌∷◌, ◌++◌, length, None, refl, sym, ap, ◌∙◌, arith}
use Rattle.std.specs.Prelude.{nat_le, nat_lt, filter, if◌then◌else◌}
use Rattle.std.specs.List.{last_or}
use Rattle.std.proofs.lemmas.Bool.{cases_Bool, cases_order}
use Rattle.std.proofs.lemmas.Bool.Decides.{nat_tests}
use Rattle.std.proofs.lemmas.List.{append-nil}
use Rattle.std.proofs.lemmas.List.Elements.{filter-append}
use Rattle.sp_plan.specs.declared.event.Event.{Event}
use Rattle.sp_plan.specs.Windows.{Numbered, numbered, number_or}
use Rattle.sp_window.specs.declared.record.Limit.{Limit}
use Rattle.sp_window.specs.declared.record.Limit.TheVariants.{AtNumber, AtTime}
use Rattle.sp_window.specs.declared.record.Record.{Record}
use Rattle.sp_window.specs.Limits.{is_reached, last_before}
use Rattle.sp_window.specs.Times.{stamp, last_stamp}
use Rattle.sp_window.specs.Holding.{is_below, last_of}
use Rattle.sp_window.proofs.Lists.{by_feeding, last_or-push, enumerate_push, length_push}
use Rattle.sp_window.proofs.Feeding.{last_stamp_push}

-- the events with their numbers, and one more
pub numbered_push : (events : List Event) (e : Event) → numbered (events ++ e ∷ []) ≡ numbered events ++ (length events + 1, e) ∷ []
numbered_push events e = let at : 1 + length events ≡ length events + 1 = omega arith in enumerate_push 1 events e ∙ ap (λ (k : ℕ). numbered events ++ (k, e) ∷ []) at

-- whether an event joins a window
abbrev pub joins : Record → Numbered → Bool
joins r y = nat_le r.first y.0 && is_below r.limit y

-- the numbers of the events of a window
abbrev members : List Event → Record → List Numbered
members events r = filter (joins r) (numbered events)

module _ (events : List Event) (e : Event) (r : Record) where
  -- the events of a window, with one more or without
  members_push : (b : Bool) → joins r (length events + 1, e) ≡ b → members (events ++ e ∷ []) r ≡ members events r ++ (if b then (length events + 1, e) ∷ [] else [])
  members_push b is =
      ap (filter (joins r)) (numbered_push events e) ∙ filter-append (joins r) (numbered events) ((length events + 1, e) ∷ [])
      ∙ ap (λ (b : Bool). members events r ++ (if b then (length events + 1, e) ∷ [] else [])) is

  -- an event that joins a window is its last
  pub last_joins : joins r (length events + 1, e) ≡ true → last_of (events ++ e ∷ []) r ≡ length events + 1
  last_joins is = ap (λ (l : List Numbered). number_or r.first (last_or None l)) (members_push true is) ∙ ap (number_or r.first) (last_or-push None (members events r) (length events + 1, e))

  -- and one that doesn't leaves it
  pub last_passes : joins r (length events + 1, e) ≡ false → last_of (events ++ e ∷ []) r ≡ last_of events r
  last_passes is = ap (λ (l : List Numbered). number_or r.first (last_or None l)) (members_push false is ∙ append-nil (members events r))

  -- the last event of a window never falls
  pub last_rises : last_of events r ≤ max r.first (length events) → last_of events r ≤ last_of (events ++ e ∷ []) r
  last_rises low = elim (cases_Bool (joins r (length events + 1, e))) [
    | inl yes' ↦
        let at = last_joins yes' in
        let first : r.first ≤ length events + 1 = joined r.first (is_below r.limit (length events + 1, e)) yes' in
        omega arith
    | inr no' ↦ let same = last_passes no' in omega arith
  ]
    where
      joined : (n : ℕ) (b : Bool) → (nat_le n (length events + 1) && b) ≡ true → n ≤ length events + 1
      joined n b is = grind (arith, nat_tests)

-- a window's last event comes no earlier than its first
pub first_le_last : (r : Record) (events : List Event) → r.first ≤ last_of events r
first_le_last r = by_feeding (λ l. r.first ≤ last_of l r) (omega arith) (λ l e low. more l e low)
  where
    more : (l : List Event) (e : Event) → r.first ≤ last_of l r → r.first ≤ last_of (l ++ e ∷ []) r
    more l e low = elim (cases_Bool (joins r (length l + 1, e))) [
      | inl yes' ↦ let at = last_joins l e r yes' in let first : r.first ≤ length l + 1 = joined r.first (is_below r.limit (length l + 1, e)) yes' in omega arith
      | inr no' ↦ let same = last_passes l e r no' in omega arith
    ]
      where
        joined : (n : ℕ) (b : Bool) → (nat_le n (length l + 1) && b) ≡ true → n ≤ length l + 1
        joined n b is = grind (arith, nat_tests)

-- it is an event, or stands where the window begins
pub last_within : (r : Record) (events : List Event) → last_of events r ≤ max r.first (length events)
last_within r = by_feeding (λ l. last_of l r ≤ max r.first (length l)) (omega arith) (λ l e low. more l e low)
  where
    more : (l : List Event) (e : Event) → last_of l r ≤ max r.first (length l) → last_of (l ++ e ∷ []) r ≤ max r.first (length (l ++ e ∷ []))
    more l e low =
        let size = length_push l e in
        elim (cases_Bool (joins r (length l + 1, e))) [
          | inl yes' ↦ let at = last_joins l e r yes' in omega arith
          | inr no' ↦ let same = last_passes l e r no' in omega arith
        ]

-- whether a window's limit is reached after events
abbrev pub reached : List Event → Record → Bool
reached events r = is_reached r.limit (length events) (last_stamp events)

-- an event behind a limit that is reached is not below it
above_reached : (l : Limit) (n t : ℕ) (e : Event) → t ≤ stamp e → is_reached l n t ≡ true → is_below l (n + 1, e) ≡ false
above_reached (AtNumber m) n t e rise is = grind (arith, nat_tests)
above_reached (AtTime u) n t e rise is = grind (arith, nat_tests)

-- a limit that is reached stays so
pub stays_reached : (l : Limit) (n t n' t' : ℕ) → n ≤ n' → t ≤ t' → is_reached l n t ≡ true → is_reached l n' t' ≡ true
stays_reached (AtNumber m) n t n' t' more rise is = grind (arith, nat_tests)
stays_reached (AtTime u) n t n' t' more rise is = grind (arith, nat_tests)

-- the last event before a limit that is not reached is below it
below_open : (l : Limit) (n : ℕ) (e : Event) → is_reached l (n + 1) (stamp e) ≡ false → is_below l (n + 1, e) ≡ true
below_open (AtNumber m) n e is = grind (arith, nat_tests)
below_open (AtTime u) n e is = grind (arith, nat_tests)

-- a test fails where its second part does
and_late : (a b : Bool) → b ≡ false → (a && b) ≡ false
and_late true b is = is
and_late false b is = refl

-- the last event of a window whose limit is reached stays
pub last_stays : (events : List Event) (e : Event) (r : Record) → last_stamp events ≤ stamp e → reached events r ≡ true → last_of (events ++ e ∷ []) r ≡ last_of events r
last_stays events e r rise is = last_passes events e r (and_late (nat_le r.first (length events + 1)) (is_below r.limit (length events + 1, e)) (above_reached r.limit (length events) (last_stamp events) e rise is))

-- the last event of a window whose limit is not reached is the last one
pub last_open : (r : Record) (events : List Event) → r.first ≤ length events → reached events r ≡ false → last_of events r ≡ length events
last_open r = by_feeding (λ l. r.first ≤ length l → reached l r ≡ false → last_of l r ≡ length l) (λ low is. omega arith) (λ l e before. more l e)
  where
    more : (l : List Event) (e : Event) → r.first ≤ length (l ++ e ∷ []) → reached (l ++ e ∷ []) r ≡ false → last_of (l ++ e ∷ []) r ≡ length (l ++ e ∷ [])
    more l e low is =
        let size = length_push l e in
        let here : is_reached r.limit (length l + 1) (stamp e) ≡ false = (λ i. is_reached r.limit (sym size i) (sym (last_stamp_push l e) i)) ∙ is in
        let below = below_open r.limit (length l) e here in
        let first : nat_le r.first (length l + 1) ≡ true = grind (arith, nat_tests) in
        last_joins l e r (rw (first, below) refl) ∙ sym size

-- the last event of a window whose limit is reached with an event
pub last_closing : (events : List Event) (e : Event) (r : Record) → r.first ≤ length events + 1 → (r.first ≡ length events + 1 → is_below r.limit (length events + 1, e) ≡ true)
    → reached events r ≡ false → is_reached r.limit (length events + 1) (stamp e) ≡ true → last_of (events ++ e ∷ []) r ≡ last_before r.limit (length events + 1)
last_closing events e r low new before after = by r.limit refl before after new
  where
    by : (l : Limit) → r.limit ≡ l → is_reached l (length events) (last_stamp events) ≡ false → is_reached l (length events + 1) (stamp e) ≡ true
        → (r.first ≡ length events + 1 → is_below l (length events + 1, e) ≡ true) → last_of (events ++ e ∷ []) r ≡ last_before l (length events + 1)
    by (AtNumber m) is before after new =
        let first : nat_le r.first (length events + 1) ≡ true = grind (arith, nat_tests) in
        let below : nat_lt (length events + 1) m ≡ true = grind (arith, nat_tests) in
        let end : length events + 1 ≡ m - 1 = grind (arith, nat_tests) in
        last_joins events e r (rw (first, is) below) ∙ end
    by (AtTime u) is before after new =
        let late : nat_lt (stamp e) u ≡ false = grind (arith, nat_tests) in
        let above : is_below r.limit (length events + 1, e) ≡ false = ap (λ (l : Limit). is_below l (length events + 1, e)) is ∙ late in
        let old : r.first ≤ length events = not_new late new in
        let end : length events ≡ length events + 1 - 1 = omega arith in
        last_passes events e r (and_late (nat_le r.first (length events + 1)) (is_below r.limit (length events + 1, e)) above)
        ∙ last_open r events old (ap (λ (l : Limit). is_reached l (length events) (last_stamp events)) is ∙ before) ∙ end
      where
        not_new : nat_lt (stamp e) u ≡ false → (r.first ≡ length events + 1 → nat_lt (stamp e) u ≡ true) → r.first ≤ length events
        not_new late new = elim (cases_order r.first (length events + 1)) [
          | inl same ↦ let early = new same in absurd (cc)
          | inr (inl less) ↦ omega arith
          | inr (inr more) ↦ absurd (omega arith)
        ]
