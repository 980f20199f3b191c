-- The windows that are kept, by their places, and those of a part among them.
use Rattle.std.proofs.Common.{◌≡◌, inl, inr, ℕ, zero, suc, ◌+◌, ◌-◌, ◌*◌, ◌<◌, ◌≤◌, Bool, true, false, List, [], ◌∷◌, ◌++◌, length, take, drop, Some, None, refl, sym, ap, ◌∙◌, subst, arith, length-drop}
use Rattle.std.specs.Prelude.{slice_get, is_some, unwrap_or, if◌then◌else◌}
use Rattle.std.proofs.lemmas.Bool.{cases_Bool, lt-ltb, le-ltb}
use Rattle.std.proofs.lemmas.List.{length-map, take-append-drop, drop-drop, length-take-le, drop_all}
use Rattle.std.proofs.lemmas.List.Elements.{All-head}
use Rattle.std.proofs.lemmas.Option.{slice_get_within}
use Rattle.sp_plan.specs.declared.event.Event.{Event}
use Rattle.sp_plan.specs.declared.plan.Plan.{Plan}
use Rattle.sp_plan.specs.Windows.{Window, windows, IsWindowed}
use Rattle.sp_plan.specs.WindowNumbers.{Good, numbered_window}
use Rattle.sp_window.specs.Standing.{shown}
use Rattle.sp_window.specs.Openings.{opened}
use Rattle.sp_window.proofs.Lists.{all_at, get_there}
use Rattle.sp_window.proofs.Numbers.{number_test}
use Rattle.sp_window.proofs.Opened.{all_opened}
use Rattle.sp_window.proofs.WindowsAre.{window_of}
use Rattle.sp_window.proofs.SpansAre.{windows_are}
use Rattle.sp_parts.specs.Parts.{in_front, grouped, stands_apart, part_of}
use Rattle.sp_parts.specs.Stretches.{IsStretch}
use Rattle.sp_parts.proofs.Order.{InTurn, Own, in_turn, all_own, in_turn_back, in_turn_front, last_from, ends_low}
use Rattle.sp_parts.proofs.Groups.{Linked, AreGroups, grouped_groups, part_between}

-- there are at most 64 windows an event
pub few_windows : (q : Plan) → IsWindowed q → (events : List Event) (ended : Bool) → Good q events → length (windows q events ended) ≤ 64 * length events
few_windows q limits events ended good =
    let size = ap length (windows_are q limits events ended good) ∙ length-map (opened q events) (window_of events ended) in
    let few = (all_opened q limits events good).few in
    omega arith

-- the window at a place
pub record At (q : Plan) (events : List Event) (ended : Bool) (place : ℕ) : Type 0 where
  pub w : Window
  pub here : slice_get (windows q events ended) place ≡ Some w
  pub by_number : numbered_window q events ended (place + 1) ≡ Some w
  pub own : Own (length events) w

pub at_place : (q : Plan) → IsWindowed q → (events : List Event) (ended : Bool) → Good q events → (place : ℕ) → place < length (windows q events ended) → At q events ended place
at_place q limits events ended good place low = by (get_there (windows q events ended) place low)
  where
    by : (w : Window) × (slice_get (windows q events ended) place ≡ Some w) → At q events ended place
    by (w, here) =
        let back : place + 1 - 1 ≡ place = omega arith in
        record {
          w = w;
          here = here;
          by_number = number_test q events ended (place + 1) (omega arith) ∙ ap (slice_get (windows q events ended)) back ∙ here;
          own = all_at (Own (length events)) (windows q events ended) place w (all_own q limits events ended good) here;
        }

-- a window is known by what is shown of it: one that is open goes up to the last event
pub shown_is : (n : ℕ) (w : Window) → Own n w → (let own : Window = record { first = (shown w).first; last = unwrap_or (shown w).end n; closed = is_some (shown w).end } in own) ≡ w
shown_is n w own = by w.closed refl
  where
    by : (b : Bool) → b ≡ w.closed → (let made : Window = record { first = w.first; last = unwrap_or (if w.closed then Some w.last else None) n; closed = is_some (if w.closed then Some w.last else None) } in made) ≡ w
    by true is = (λ i. record { first = w.first; last = unwrap_or (if sym is i then Some w.last else None) n; closed = is_some (if sym is i then Some w.last else None) }) ∙ (λ i. record { first = w.first; last = w.last; closed = is i })
    by false is = (λ i. record { first = w.first; last = unwrap_or (if sym is i then Some w.last else None) n; closed = is_some (if sym is i then Some w.last else None) }) ∙ (λ i. record { first = w.first; last = sym (own.open' (sym is)) i; closed = is i })

-- ---- lists by places

-- from the place of an item on
dropped : {X : Type 0} (xs : List X) (k : ℕ) (x : X) → slice_get xs k ≡ Some x → drop k xs ≡ x ∷ drop (suc k) xs
dropped [] k x is = cc
dropped (y ∷ xs) zero x is = let same : y ≡ x = cc in ap (λ z. z ∷ xs) same
dropped (y ∷ xs) (suc k) x is = dropped xs k x is

-- the items from a place on, by their places
got_dropped : {X : Type 0} (k : ℕ) (xs : List X) (i : ℕ) → slice_get (drop k xs) i ≡ slice_get xs (k + i)
got_dropped zero xs i = let at : i ≡ 0 + i = omega arith in ap (slice_get xs) at
got_dropped (suc k) [] i = refl
got_dropped (suc k) (x ∷ xs) i = let at : suc (k + i) ≡ suc k + i = omega arith in got_dropped k xs i ∙ ap (slice_get (x ∷ xs)) at

-- the first items, by their places
got_taken : {X : Type 0} (n : ℕ) (xs : List X) (i : ℕ) → i < n → slice_get (take n xs) i ≡ slice_get xs i
got_taken zero xs i low = absurd (omega arith)
got_taken (suc n) [] i low = refl
got_taken (suc n) (x ∷ xs) zero low = refl
got_taken (suc n) (x ∷ xs) (suc i) low = got_taken n xs i (omega arith)

-- one item more in front of a place
taken_more : {X : Type 0} (n : ℕ) (xs : List X) (x : X) → slice_get xs n ≡ Some x → take (suc n) xs ≡ take n xs ++ x ∷ []
taken_more n [] x is = cc
taken_more zero (y ∷ xs) x is = let same : y ≡ x = cc in ap (λ z. z ∷ []) same
taken_more (suc n) (y ∷ xs) x is = ap (λ l. y ∷ l) (taken_more n xs x is)

-- the last one of windows, by its place
last_got : (w : Window) (ws : List Window) → slice_get (w ∷ ws) (length ws) ≡ Some (last_from w ws)
last_got w [] = refl
last_got w (v ∷ ws) = last_got v ws

-- ---- how far a part goes

-- the windows behind a number of events begin past it, if there are any
abbrev BeginPast : ℕ → List Window → Type 0
BeginPast n [] = Unit {0}
BeginPast n (u ∷ rest) = n < u.first

-- the first group has the first window
heads : (u : Window) (groups : List (List Window)) → (own : List Window) × (later : List (List Window)) × (in_front u groups ≡ (u ∷ own) ∷ later)
heads u [] = ([], [], refl)
heads u ([] ∷ groups) = ([], groups, refl)
heads u ((next ∷ own) ∷ groups) = elim (cases_Bool (stands_apart u next)) [
  | inl apart ↦ ([], (next ∷ own) ∷ groups, rw apart refl)
  | inr near ↦ (next ∷ own, groups, rw near refl)
]

-- linked windows are the first group where the others begin past them
group_ends : (v : Window) (g rest : List Window) → Linked v g → BeginPast (last_from v g).last rest → grouped ((v ∷ g) ++ rest) ≡ (v ∷ g) ∷ grouped rest
group_ends v [] [] linked past = refl
group_ends v [] (u ∷ rest) linked past = by (heads u (grouped rest))
  where
    by : (own : List Window) × (later : List (List Window)) × (in_front u (grouped rest) ≡ (u ∷ own) ∷ later) → in_front v (in_front u (grouped rest)) ≡ (v ∷ []) ∷ in_front u (grouped rest)
    by (own, later, is) =
        let apart : stands_apart v u ≡ true = lt-ltb v.last u.first past in
        let here : in_front v ((u ∷ own) ∷ later) ≡ (v ∷ []) ∷ (u ∷ own) ∷ later = rw apart refl in
        ap (in_front v) is ∙ here ∙ ap (λ l. (v ∷ []) ∷ l) (sym is)
group_ends v (w ∷ g) rest linked past =
    let near : stands_apart v w ≡ false = le-ltb v.last w.first linked.0 in
    let here : in_front v ((w ∷ g) ∷ grouped rest) ≡ (v ∷ w ∷ g) ∷ grouped rest = rw near refl in
    ap (in_front v) (group_ends w g rest linked.1 past) ∙ here

-- one window more is linked to the others
linked_push : (v : Window) (g : List Window) (u : Window) → Linked v g → u.first ≤ (last_from v g).last → Linked v (g ++ u ∷ [])
linked_push v [] u linked share = (share, tt)
linked_push v (w ∷ g) u linked share = (linked.0, linked_push w g u linked.1 share)

last_push : (v : Window) (g : List Window) (u : Window) → last_from v (g ++ u ∷ []) ≡ u
last_push v [] u = refl
last_push v (w ∷ g) u = last_push w g u

-- the windows from one place up to another are in one part, and the last of them ends with this event
pub record Going (ws : List Window) (begin end last : ℕ) : Type 0 where
  pub v : Window
  pub g : List Window
  pub are : take (end - begin) (drop begin ws) ≡ v ∷ g
  pub linked : Linked v g
  pub last_is : last ≡ (last_from v g).last
  pub some : begin < end
  pub within : end ≤ length ws

-- the first of them
pub begun : (ws : List Window) (begin : ℕ) (w : Window) → slice_get ws begin ≡ Some w → Going ws begin (begin + 1) w.last
begun ws begin w is = record {
  v = w;
  g = [];
  are = let size : begin + 1 - begin ≡ 1 = omega arith in (λ i. take (size i) (dropped ws begin w is i));
  linked = tt;
  last_is = refl;
  some = omega arith;
  within = let low = slice_get_within ws begin w is in omega arith;
}

-- one more, which shares an event with the last one
pub gone_on : (ws : List Window) (begin end last : ℕ) (u : Window) → Going ws begin end last → slice_get ws end ≡ Some u → u.first ≤ last → Going ws begin (end + 1) u.last
gone_on ws begin end last u going is share =
    let some = going.some in
    let at : end + 1 - begin ≡ suc (end - begin) = omega arith in
    let place : begin + (end - begin) ≡ end = omega arith in
    record {
      v = going.v;
      g = going.g ++ u ∷ [];
      are = ap (λ (n : ℕ). take n (drop begin ws)) at ∙ taken_more (end - begin) (drop begin ws) u (got_dropped begin ws (end - begin) ∙ ap (slice_get ws) place ∙ is) ∙ ap (λ (l : List Window). l ++ u ∷ []) going.are;
      linked = linked_push going.v going.g u going.linked (let last' = going.last_is in omega arith);
      last_is = ap (λ (w : Window). w.last) (sym (last_push going.v going.g u));
      some = omega arith;
      within = let low = slice_get_within ws end u is in omega arith;
    }

-- where the others begin past them they are a stretch
goes_to : (ws : List Window) (begin end last : ℕ) → Going ws begin end last → BeginPast last (drop end ws) → IsStretch ws begin end
goes_to ws begin end last going past =
    let some = going.some in
    let place : begin + (end - begin) ≡ end = omega arith in
    let rest : drop (end - begin) (drop begin ws) ≡ drop end ws = drop-drop (end - begin) begin ws ∙ ap (λ (n : ℕ). drop n ws) place in
    let both : drop begin ws ≡ (going.v ∷ going.g) ++ drop end ws = sym (take-append-drop (end - begin) (drop begin ws)) ∙ (λ i. going.are i ++ rest i) in
    record {
      some = going.some;
      within = going.within;
      group = ap grouped both ∙ group_ends going.v going.g (drop end ws) going.linked (subst (λ (n : ℕ). BeginPast n (drop end ws)) going.last_is past) ∙ ap (λ (l : List Window). l ∷ grouped (drop end ws)) (sym going.are);
    }

pub stopped : (ws : List Window) (begin end last : ℕ) (u : Window) → Going ws begin end last → slice_get ws end ≡ Some u → last < u.first → IsStretch ws begin end
stopped ws begin end last u going is past = goes_to ws begin end last going (subst (BeginPast last) (sym (dropped ws end u is)) past)

pub all_gone : (ws : List Window) (begin end last : ℕ) → Going ws begin end last → end ≡ length ws → IsStretch ws begin end
all_gone ws begin end last going is = goes_to ws begin end last going (subst (BeginPast last) (sym (drop_all end ws (omega arith))) tt)

-- ---- the part of a stretch

module _ (q : Plan) (limits : IsWindowed q) (events : List Event) (ended : Bool) (good : Good q events) (begin end : ℕ) where
  abbrev ws : List Window
  ws = windows q events ended

  -- the windows of a stretch, from its first to its last
  record Bounded (f l : Window) : Type 0 where
    g : List Window
    are : take (end - begin) (drop begin ws) ≡ f ∷ g
    linked : Linked f g
    turn : InTurn (f ∷ g)
    last_is : last_from f g ≡ l

  bounded : IsStretch ws begin end → (f l : Window) → slice_get ws begin ≡ Some f → slice_get ws (end - 1) ≡ Some l → Bounded f l
  bounded stretch f l first last =
      let some = stretch.some in
      let within = stretch.within in
      let size = end - begin - 1 in
      let rest = drop (suc begin) ws in
      let at : end - begin ≡ suc size = omega arith in
      let are : take (end - begin) (drop begin ws) ≡ f ∷ take size rest = λ i. take (at i) (dropped ws begin f first i) in
      let count : length (take size rest) ≡ size = let long = length-drop (suc begin) ws in length-take-le size rest (omega arith) in
      let place : begin + length (take size rest) ≡ end - 1 = omega arith in
      let low : length (take size rest) < end - begin = omega arith in
      let found : Some (last_from f (take size rest)) ≡ Some l =
      sym (last_got f (take size rest)) ∙ ap (λ (z : List Window). slice_get z (length (take size rest))) (sym are) ∙ got_taken (end - begin) (drop begin ws) (length (take size rest)) low
      ∙ got_dropped begin ws (length (take size rest)) ∙ ap (slice_get ws) place ∙ last in
      let groups = subst AreGroups (stretch.group ∙ ap (λ (z : List Window). z ∷ grouped (drop end ws)) are) (grouped_groups (drop begin ws)) in
      let later = in_turn_back (take begin ws) (drop begin ws) (subst InTurn (sym (take-append-drop begin ws)) (in_turn q limits events ended good)) in
      record {
        g = take size rest;
        are = are;
        linked = groups.0;
        turn = subst InTurn are (in_turn_front (take (end - begin) (drop begin ws)) (drop (end - begin) (drop begin ws)) (subst InTurn (sym (take-append-drop (end - begin) (drop begin ws))) later));
        last_is = cc;
      }

  -- what a window at a place keeps
  pub own_at : (place : ℕ) (w : Window) → slice_get ws place ≡ Some w → Own (length events) w
  own_at place w here = all_at (Own (length events)) ws place w (all_own q limits events ended good) here

  -- its first window begins no later than its last one ends
  pub in_order : IsStretch ws begin end → (f l : Window) → slice_get ws begin ≡ Some f → slice_get ws (end - 1) ≡ Some l → f.first ≤ l.last
  in_order stretch f l first last =
      let own = bounded stretch f l first last in
      let some = (own_at begin f first).some in
      let ends = All-head (λ v. v.last ≤ (last_from f own.g).last) f own.g (ends_low f own.g own.turn) in
      let same = ap (λ (w : Window). w.last) own.last_is in
      omega arith

  -- the part of its windows
  pub stretch_part : IsStretch ws begin end → (f l : Window) → slice_get ws begin ≡ Some f → slice_get ws (end - 1) ≡ Some l
      → part_of events begin (take (end - begin) (drop begin ws)) ≡ record { first = f.first; windows = begin; closed = l.closed; events = take (l.last - (f.first - 1)) (drop (f.first - 1) events) }
  stretch_part stretch f l first last =
      let own = bounded stretch f l first last in
      let low = (own_at begin f first).low in
      let rise = in_order stretch f l first last in
      let same = ap (λ (w : Window). w.last) own.last_is in
      let size : (last_from f own.g).last + 1 - f.first ≡ l.last - (f.first - 1) = omega arith in
      ap (part_of events begin) own.are ∙ part_between events begin f own.g own.linked own.turn low (omega arith)
      ∙ (λ i. record { first = f.first; windows = begin; closed = (own.last_is i).closed; events = take (size i) (drop (f.first - 1) events) })
