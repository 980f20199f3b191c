-- The windows of parts: each shares an event with the one before it in its part, and the parts stand apart.
use Rattle.std.proofs.Common.{◌≡◌, inl, inr, ℕ, ◌+◌, ◌-◌, ◌<◌, ◌≤◌, Bool, true, false, ◌&&◌, ◌||◌, List, [], ◌∷◌, ◌++◌, map, take, drop, Some, refl, sym, ap, ◌∙◌, arith}
use Rattle.std.specs.Prelude.{nat_le}
use Rattle.std.specs.List.{All, flat_map, last_or, list_any}
use Rattle.std.proofs.lemmas.Bool.{cases_Bool, cond_both, ltb-true, ltb-false}
use Rattle.std.proofs.lemmas.Bool.Decides.{nat_tests}
use Rattle.std.proofs.lemmas.List.{take-map, drop-map}
use Rattle.std.proofs.lemmas.List.Elements.{All-nil, All-head, All-weaker, filter_agree}
use Rattle.sp_plan.specs.declared.event.Event.{Event}
use Rattle.sp_plan.specs.Windows.{Numbered, numbered, Window}
use Rattle.sp_window.proofs.Parts.{events_are}
use Rattle.sp_parts.specs.Parts.{stands_apart, in_front, grouped, is_in, events_in, is_closed, part_of}
use Rattle.sp_parts.proofs.Places.{enumerated}
use Rattle.sp_parts.proofs.Order.{Before, InTurn, last_from, ends_low, begins_high}

-- the windows of all groups
abbrev pub joined : List (List Window) → List Window
joined groups = flat_map (λ own. own) groups

-- each window shares an event with the one before it
abbrev pub Linked : Window → List Window → Type 0
Linked w [] = Unit {0}
Linked w (v ∷ ws) = (v.first ≤ w.last) × Linked v ws

-- a number is that of an event in front of the groups
abbrev pub InFront : List (List Window) → ℕ → Type 0
InFront [] n = Unit {0}
InFront ([] ∷ groups) n = ⊥
InFront ((v ∷ own) ∷ groups) n = n < v.first

-- groups are longest ones
abbrev pub AreGroups : List (List Window) → Type 0
AreGroups [] = Unit {0}
AreGroups ([] ∷ groups) = ⊥
AreGroups ((w ∷ own) ∷ groups) = Linked w own × InFront groups (last_from w own).last × AreGroups groups

-- one window more in front
in_front_joined : (w : Window) (groups : List (List Window)) → joined (in_front w groups) ≡ w ∷ joined groups
in_front_joined w [] = refl
in_front_joined w ([] ∷ groups) = refl
in_front_joined w ((next ∷ own) ∷ groups) = elim (cases_Bool (stands_apart w next)) [ inl apart ↦ rw apart refl | inr near ↦ rw near refl ]

-- the windows of the groups are all windows
pub grouped_joined : (ws : List Window) → joined (grouped ws) ≡ ws
grouped_joined [] = refl
grouped_joined (w ∷ ws) = in_front_joined w (grouped ws) ∙ ap (λ l. w ∷ l) (grouped_joined ws)

-- one window more in front leaves longest groups
in_front_groups : (w : Window) (groups : List (List Window)) → AreGroups groups → AreGroups (in_front w groups)
in_front_groups w [] are = (tt, tt, tt)
in_front_groups w ([] ∷ groups) are = absurd are
in_front_groups w ((next ∷ own) ∷ groups) are =
    cond_both (stands_apart w next) ((w ∷ []) ∷ (next ∷ own) ∷ groups) ((w ∷ next ∷ own) ∷ groups) AreGroups
    (λ apart. (tt, ltb-true w.last next.first apart, are)) (λ near. ((ltb-false w.last next.first near, are.0), are.1, are.2))

-- the windows of parts are longest groups
pub grouped_groups : (ws : List Window) → AreGroups (grouped ws)
grouped_groups [] = tt
grouped_groups (w ∷ ws) = in_front_groups w (grouped ws) (grouped_groups ws)

-- an event is in one of linked windows exactly where it is between the first of the first one and the last of the last one
in_some : (x : Numbered) (w : Window) (ws : List Window) → Linked w ws → InTurn (w ∷ ws) → list_any (is_in x) (w ∷ ws) ≡ (nat_le w.first x.0 && nat_le x.0 (last_from w ws).last)
in_some x w [] linked turn = or_false (is_in x w)
  where
    or_false : (b : Bool) → (b || false) ≡ b
    or_false true = refl
    or_false false = refl
in_some x w (v ∷ ws) linked turn =
    let before = All-head (Before w) v ws turn.0 in
    let low = ends_low v ws turn.1 in
    ap (λ (b : Bool). is_in x w || b) (in_some x v ws linked.1 turn.1)
    ∙ either x.0 w.first w.last v.first (last_from v ws).last before.first linked.0 (let first = before.last in let next = All-head (λ u. u.last ≤ (last_from v ws).last) v ws low in omega arith)
  where
    either : (n f l g m : ℕ) → f ≤ g → g ≤ l → l ≤ m → ((nat_le f n && nat_le n l) || (nat_le g n && nat_le n m)) ≡ (nat_le f n && nat_le n m)
    either n f l g m rise share ends = grind (arith, nat_tests)

-- the events of linked windows are those from the first one's first up to the last one's last
pub events_between : (events : List Event) (w : Window) (ws : List Window) → Linked w ws → InTurn (w ∷ ws) → 1 ≤ w.first → w.first ≤ (last_from w ws).last
    → events_in events (w ∷ ws) ≡ take ((last_from w ws).last + 1 - w.first) (drop (w.first - 1) events)
events_between events w ws linked turn low some =
    let last = (last_from w ws).last in
    let hull : Window = record { first = w.first; last = last; closed = true } in
    let number : Numbered → Event = λ x. x.1 in
    ap (map number) (filter_agree (λ x. list_any (is_in x) (w ∷ ws)) (λ x. nat_le w.first x.0 && nat_le x.0 last) (λ x. in_some x w ws linked turn) (numbered events) ∙ events_are events hull low (omega arith))
    ∙ sym (take-map number (last + 1 - w.first) (drop (w.first - 1) (numbered events)))
    ∙ ap (take (last + 1 - w.first)) (sym (drop-map number (w.first - 1) (numbered events)) ∙ ap (drop (w.first - 1)) (enumerated 1 events))

-- what is in front of groups may be earlier
pub in_front_earlier : (groups : List (List Window)) (m n : ℕ) → m ≤ n → InFront groups n → InFront groups m
in_front_earlier [] m n le its = tt
in_front_earlier ([] ∷ groups) m n le its = absurd its
in_front_earlier ((v ∷ own) ∷ groups) m n le its = omega arith

-- the windows of groups begin past what is in front of them
pub begin_past : (groups : List (List Window)) (n : ℕ) → InTurn (joined groups) → InFront groups n → All (λ w. n < w.first) (joined groups)
begin_past [] n turn its = All-nil (λ w. n < w.first)
begin_past ([] ∷ groups) n turn its = absurd its
begin_past ((v ∷ own) ∷ groups) n turn its = All-weaker (λ w. v.first ≤ w.first) (λ w. n < w.first) (λ w le. omega arith) (v ∷ own ++ joined groups) (begins_high v (own ++ joined groups) turn)

-- the last one of windows, as a list has it
pub last_is : (w : Window) (ws : List Window) → last_or (Some w) ws ≡ Some (last_from w ws)
last_is w [] = refl
last_is w (v ∷ ws) = last_is v ws

-- the part of linked windows
pub part_between : (events : List Event) (before : ℕ) (w : Window) (ws : List Window) → Linked w ws → InTurn (w ∷ ws) → 1 ≤ w.first → w.first ≤ (last_from w ws).last
    → part_of events before (w ∷ ws) ≡ record { first = w.first; windows = before; closed = (last_from w ws).closed; events = take ((last_from w ws).last + 1 - w.first) (drop (w.first - 1) events) }
part_between events before w ws linked turn low some =
    let flag = ap is_closed (last_is w ws) in
    let own = events_between events w ws linked turn low some in
    λ i. record { first = w.first; windows = before; closed = flag i; events = own i }
