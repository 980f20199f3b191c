-- What held sides come to for many runs, and the columns of a predicate from a place on.
use Rattle.std.proofs.Common.{◌≡◌, ℕ, ℤ, pos, ◌+◌, ◌<◌, ◌≤◌, Bool, true, false, ◌&&◌, List, [], ◌∷◌, ◌++◌, length, map, get_or, take, drop, refl, sym, subst, ap, ◌∙◌, arith, length-append}
use Rattle.std.proofs.lemmas.List.{drop-drop, drop-take, drop_at, get_or-drop, get_or-map, get_or-take, length-map, map-append, take-take, take_all, take_at}
use Rattle.sp_plan.specs.declared.event.Event.{Event}
use Rattle.sp_plan.specs.declared.plan.Compare.{Compare}
use Rattle.sp_plan.specs.declared.plan.Expr.{Expr}
use Rattle.sp_plan.specs.declared.plan.Pred.{Pred, Always, Test, And', Or', Not'}
use Rattle.sp_plan.specs.Known.{reads_bound}
use Rattle.sp_plan.specs.Values.{BoundEvents, compares, value}
use Rattle.sp_plan.specs.declared.held.Sides.{Sides}
use Rattle.sp_plan.specs.declared.held.Sides.TheVariants.{Near, LeftHeld, RightHeld}
use Rattle.sp_plan.specs.Held.{blank, held_column, held_columns, held_of, held_sides, held_value, reads_event, saturated, sides, sides_by, turned}
use Rattle.sp_plan.specs.Masks.{has}
use Rattle.sp_plan.specs.Holding.{AreFrom, AreHeldFrom}
use Rattle.sp_plan.proofs.HeldSides.{alike, turned_round}
use Rattle.sp_plan.proofs.KnownAnswers.{alone}
use Rattle.sp_plan.proofs.MaskBits.{asked_so}

-- the columns of some held sides and of more behind them
split : (columns : List (List ℤ)) (next : ℕ) (bounds : List BoundEvents) (first more : List Expr) → AreFrom columns next bounds (first ++ more)
    → AreFrom columns next bounds first × AreFrom columns (next + length first) bounds more
split columns next bounds first more h =
    let f : Expr → List ℤ = held_column bounds in
    let rest : List (List ℤ) = drop next columns in
    let both : take (length first + length more) rest ≡ map f first ++ map f more = ap (λ n. take n rest) (sym (length-append first more)) ∙ h ∙ map-append f first more in (
      sym (take-take (length first) (length first + length more) rest (omega arith)) ∙ ap (take (length first)) both ∙ take_at (map f first) (map f more) (length first) (length-map first f),
      ap (take (length more)) (sym (drop-drop (length first) next columns))
          ∙ sym (drop-take (length first) (length more) rest) ∙ ap (drop (length first)) both ∙ drop_at (map f first) (map f more) (length first) (length-map first f),
    )

held_from : (p : Pred) (columns : List (List ℤ)) (next : ℕ) (bounds : List BoundEvents) → AreFrom columns next bounds (held_sides p) → AreHeldFrom columns next bounds p
held_from Always columns next bounds h = tt
held_from (Test by left right) columns next bounds h = h
held_from (And' p left q right) columns next bounds h =
    let parts = split columns next bounds (held_sides right) (held_sides left) h in
    (held_from right columns next bounds parts.0, held_from left columns (next + length (held_sides right)) bounds parts.1)
held_from (Or' p left q right) columns next bounds h =
    let parts = split columns next bounds (held_sides right) (held_sides left) h in
    (held_from right columns next bounds parts.0, held_from left columns (next + length (held_sides right)) bounds parts.1)
held_from (Not' p inner) columns next bounds h = held_from inner columns next bounds h

-- the columns of a predicate are there from the first one on
pub held_from_first : (p : Pred) (columns : List (List ℤ)) (bounds : List BoundEvents) → columns ≡ held_columns p bounds → AreHeldFrom columns 0 bounds p
held_from_first p columns bounds h =
    let f : Expr → List ℤ = held_column bounds in
    held_from p columns 0 bounds (ap (take (length (held_sides p))) h ∙ take_all (length (held_sides p)) (map f (held_sides p)) (omega (arith, length-map (held_sides p) f)))

-- the column of a held side that is next
next_column : (columns : List (List ℤ)) (next : ℕ) (bounds : List BoundEvents) (side : Expr) (d : List ℤ) → AreFrom columns next bounds (side ∷ []) → get_or columns next d ≡ held_column bounds side
next_column columns next bounds side d h =
    let whole : next ≡ next + 0 = omega arith in
    ap (λ k. get_or columns k d) whole ∙ sym (get_or-drop next columns 0 d) ∙ sym (get_or-take 1 (drop next columns) 0 d (omega arith)) ∙ ap (λ l. get_or l 0 d) h

-- what it tells for a run, where its side reads nothing of the event at hand
told : (column : List ℤ) (bounds : List BoundEvents) (side : Expr) (e : Event) (run : ℕ) → column ≡ held_column bounds side → reads_event side ≡ false → run < length bounds
    → get_or column run (pos 0) ≡ saturated (value side e (get_or bounds run []))
told column bounds side e run h alone_so within =
    ap (λ (l : List ℤ). get_or l run (pos 0)) h
    ∙ get_or-map (λ b. saturated (value side blank b)) bounds run [] (pos 0) within
    ∙ ap saturated (alike side blank e (get_or bounds run []) alone_so)

near_parts : (a b l r : Bool) → sides_by a b l r ≡ Near → (a ≡ false) × (b ≡ false)
near_parts false false l r h = (refl, refl)
near_parts true false true r h = absurd cc
near_parts true false false r h = absurd cc
near_parts false true l true h = absurd cc
near_parts false true l false h = absurd cc
near_parts true true l r h = absurd cc

left_parts : (a b l r : Bool) → sides_by a b l r ≡ LeftHeld → (b ≡ false) × (l ≡ false)
left_parts false false l r h = absurd cc
left_parts true false true r h = absurd cc
left_parts true false false r h = (refl, refl)
left_parts false true l true h = absurd cc
left_parts false true l false h = absurd cc
left_parts true true l r h = absurd cc

right_parts : (a b l r : Bool) → sides_by a b l r ≡ RightHeld → (a ≡ false) × (r ≡ false)
right_parts false false l r h = absurd cc
right_parts true false true r h = absurd cc
right_parts true false false r h = absurd cc
right_parts false true l true h = absurd cc
right_parts false true l false h = (refl, refl)
right_parts true true l r h = absurd cc

module _ (by : Compare) (left right : Expr) (e : Event) (bounds : List BoundEvents) where
  -- a comparison of near sides comes to the same for each run
  pub near_for_all : (none : BoundEvents) (run : ℕ) (is : Bool) → sides left right ≡ Near → is ≡ compares by (value left e none) (value right e none)
      → is ≡ compares by (value left e (get_or bounds run [])) (value right e (get_or bounds run []))
  near_for_all none run is near same =
      let parts = near_parts (reads_bound left) (reads_bound right) (reads_event left) (reads_event right) near in
      same ∙ (λ i. compares by (alone left e none (get_or bounds run []) parts.0 i) (alone right e none (get_or bounds run []) parts.1 i))

  module _ (columns : List (List ℤ)) (next : ℕ) (d : List ℤ) (few : length bounds ≤ 64) (mask : ℕ) (s : Sides) (same : s ≡ sides left right) (h : AreFrom columns next bounds (held_of s left right)) where
    -- one whose right side is held comes to what its column tells
    pub right_for_all : s ≡ RightHeld → ((run : ℕ) (n : ℤ) → run < 64 → run < length (get_or columns next d) → get_or (get_or columns next d) run (pos 0) ≡ saturated n → has mask run ≡ compares by (value left e []) n)
        → (run : ℕ) → run < length bounds → has mask run ≡ compares by (value left e (get_or bounds run [])) (value right e (get_or bounds run []))
    right_for_all is tells run within =
        let b : BoundEvents = get_or bounds run [] in
        let parts = right_parts (reads_bound left) (reads_bound right) (reads_event left) (reads_event right) (sym same ∙ is) in
        let column = next_column columns next bounds right d (subst (λ (t : Sides). AreFrom columns next bounds (held_of t left right)) is h) in
        let long : run < length (get_or columns next d) = omega (arith, ap (λ (l : List ℤ). length l) column, length-map bounds (λ (c : BoundEvents). held_value c right)) in
        tells run (value right e b) (omega arith) long (told (get_or columns next d) bounds right e run column parts.1 within)
        ∙ ap (λ n. compares by n (value right e b)) (alone left e [] b parts.0)

    -- and one whose left side is
    pub left_for_all : s ≡ LeftHeld → ((run : ℕ) (n : ℤ) → run < 64 → run < length (get_or columns next d) → get_or (get_or columns next d) run (pos 0) ≡ saturated n → has mask run ≡ compares (turned by) (value right e []) n)
        → (run : ℕ) → run < length bounds → has mask run ≡ compares by (value left e (get_or bounds run [])) (value right e (get_or bounds run []))
    left_for_all is tells run within =
        let b : BoundEvents = get_or bounds run [] in
        let parts = left_parts (reads_bound left) (reads_bound right) (reads_event left) (reads_event right) (sym same ∙ is) in
        let column = next_column columns next bounds left d (subst (λ (t : Sides). AreFrom columns next bounds (held_of t left right)) is h) in
        let long : run < length (get_or columns next d) = omega (arith, ap (λ (l : List ℤ). length l) column, length-map bounds (λ (c : BoundEvents). held_value c left)) in
        tells run (value left e b) (omega arith) long (told (get_or columns next d) bounds left e run column parts.1 within)
        ∙ ap (λ n. compares (turned by) n (value left e b)) (alone right e [] b parts.0)
        ∙ sym (turned_round by (value left e b) (value right e b))

  -- what a comparison comes to for a run that is asked by itself
  pub asked_itself : (bound : BoundEvents) (run : ℕ) (is said asked : Bool) → bound ≡ get_or bounds run [] → asked ≡ true → is ≡ said → said ≡ compares by (value left e bound) (value right e bound)
      → is ≡ (asked && compares by (value left e (get_or bounds run [])) (value right e (get_or bounds run [])))
  asked_itself bound run is said asked at wanted same compared =
      asked_so is asked (compares by (value left e (get_or bounds run [])) (value right e (get_or bounds run []))) wanted (same ∙ compared ∙ ap (λ b. compares by (value left e b) (value right e b)) at)
