-- Held sides stand alone: the event at hand doesn't count, nor do bound events but the last one of each name that is read; and a number inside compares with what is kept of one as with itself.
use Rattle.std.proofs.Common.{◌≡◌, ℕ, suc, ℤ, pos, negsuc, ◌-◌, ◌<◌, ◌^◌, min, true, false, not, List, [], ◌∷◌, length, map, get_or, refl, sym, ap, arith, ltb, leb, eqb}
use Rattle.std.specs.List.{list_any}
use Rattle.std.specs.Prelude.{◌+ℤ◌, ◌-ℤ◌, ◌*ℤ◌, neg_ℤ, int_lt, int_le}
use Rattle.std.specs.Ordering.{int_eq}
use Rattle.std.proofs.lemmas.Bool.{or_left, or_parts, or_right}
use Rattle.std.proofs.lemmas.Bool.Decides.{nat_tests, same_from_decides, Decides-like, Decides-int_eq}
use Rattle.sp_plan.specs.declared.event.Event.{Event}
use Rattle.sp_plan.specs.declared.plan.Compare.{Compare}
use Rattle.sp_plan.specs.declared.plan.Compare.TheVariants.{Equal, Unequal, Less, AtMost, Greater, AtLeast}
use Rattle.sp_plan.specs.declared.plan.Expr.{Expr, Literal, Word, Column, Earlier, Raise', Minus', Add', Sub', Mul'}
use Rattle.sp_plan.specs.Values.{BoundEvents, compares, earlier_column, last_bound, value}
use Rattle.sp_plan.specs.Held.{blank, held_column, held_sides, reads_event, reads_name, saturated, turned, IsInside, HeldSidesStandAlone}

-- what reads nothing of the event at hand comes to the same whatever it is
pub alike : (x : Expr) (e f : Event) (b : BoundEvents) → reads_event x ≡ false → value x e b ≡ value x f b
alike (Literal n) e f b h = refl
alike (Word s) e f b h = refl
alike (Column n) e f b h = absurd cc
alike (Earlier name n) e f b h = refl
alike (Raise' by p inner) e f b h = ap (λ x. x *ℤ pos (10 ^ by)) (alike inner e f b h)
alike (Minus' p inner) e f b h = ap neg_ℤ (alike inner e f b h)
alike (Add' p left q right) e f b h =
    let parts = or_parts (reads_event left) (reads_event right) h in
    λ i. alike left e f b parts.0 i +ℤ alike right e f b parts.1 i
alike (Sub' p left q right) e f b h =
    let parts = or_parts (reads_event left) (reads_event right) h in
    λ i. alike left e f b parts.0 i -ℤ alike right e f b parts.1 i
alike (Mul' p left q right) e f b h =
    let parts = or_parts (reads_event left) (reads_event right) h in
    λ i. alike left e f b parts.0 i *ℤ alike right e f b parts.1 i

own_name : (name : ℕ) → eqb name name ≡ true
own_name name = grind (arith, nat_tests)

-- what is bound comes to the same where the last event of each name that is read does
by_last : (x : Expr) (e : Event) (b c : BoundEvents) → ((name : ℕ) → reads_name name x ≡ true → last_bound name b ≡ last_bound name c) → value x e b ≡ value x e c
by_last (Literal n) e b c h = refl
by_last (Word s) e b c h = refl
by_last (Column n) e b c h = refl
by_last (Earlier name n) e b c h = ap (λ o. earlier_column o n) (h name (own_name name))
by_last (Raise' by p inner) e b c h = ap (λ x. x *ℤ pos (10 ^ by)) (by_last inner e b c h)
by_last (Minus' p inner) e b c h = ap neg_ℤ (by_last inner e b c h)
by_last (Add' p left q right) e b c h =
    let one = by_last left e b c (λ name reads. h name (or_left (reads_name name left) (reads_name name right) reads)) in
    let other = by_last right e b c (λ name reads. h name (or_right (reads_name name left) (reads_name name right) reads)) in
    λ i. one i +ℤ other i
by_last (Sub' p left q right) e b c h =
    let one = by_last left e b c (λ name reads. h name (or_left (reads_name name left) (reads_name name right) reads)) in
    let other = by_last right e b c (λ name reads. h name (or_right (reads_name name left) (reads_name name right) reads)) in
    λ i. one i -ℤ other i
by_last (Mul' p left q right) e b c h =
    let one = by_last left e b c (λ name reads. h name (or_left (reads_name name left) (reads_name name right) reads)) in
    let other = by_last right e b c (λ name reads. h name (or_right (reads_name name left) (reads_name name right) reads)) in
    λ i. one i *ℤ other i

-- tests of a number below the greatest one against what is cut off there
cut_lt : (m a b : ℕ) → a < m → ltb a (min b m) ≡ ltb a b
cut_lt m a b h = grind (arith, nat_tests)

cut_gt : (m a b : ℕ) → a < m → ltb (min b m) a ≡ ltb b a
cut_gt m a b h = grind (arith, nat_tests)

cut_le : (m a b : ℕ) → a < m → leb a (min b m) ≡ leb a b
cut_le m a b h = grind (arith, nat_tests)

cut_ge : (m a b : ℕ) → a < m → leb (min b m) a ≡ leb b a
cut_ge m a b h = grind (arith, nat_tests)

less : (x y : ℤ) → IsInside x → int_lt x (saturated y) ≡ int_lt x y
less (pos a) (pos b) h = cut_lt (2 ^ 63 - 1) a b h
less (pos a) (negsuc b) h = refl
less (negsuc a) (pos b) h = refl
less (negsuc a) (negsuc b) h = cut_gt (2 ^ 63 - 1) a b (omega arith)

more : (x y : ℤ) → IsInside x → int_lt (saturated y) x ≡ int_lt y x
more (pos a) (pos b) h = cut_gt (2 ^ 63 - 1) a b h
more (pos a) (negsuc b) h = refl
more (negsuc a) (pos b) h = refl
more (negsuc a) (negsuc b) h = cut_lt (2 ^ 63 - 1) a b (omega arith)

at_most : (x y : ℤ) → IsInside x → int_le x (saturated y) ≡ int_le x y
at_most (pos a) (pos b) h = cut_le (2 ^ 63 - 1) a b h
at_most (pos a) (negsuc b) h = refl
at_most (negsuc a) (pos b) h = refl
at_most (negsuc a) (negsuc b) h = cut_ge (2 ^ 63 - 1) a b (omega arith)

at_least : (x y : ℤ) → IsInside x → int_le (saturated y) x ≡ int_le y x
at_least (pos a) (pos b) h = cut_ge (2 ^ 63 - 1) a b h
at_least (pos a) (negsuc b) h = refl
at_least (negsuc a) (pos b) h = refl
at_least (negsuc a) (negsuc b) h = cut_le (2 ^ 63 - 1) a b (omega arith)

to_whole : (x y : ℤ) → IsInside x → x ≡ saturated y → x ≡ y
to_whole (pos a) (pos b) h same = let e : a ≡ min b (2 ^ 63 - 1) = cc in ap pos (omega arith)
to_whole (pos a) (negsuc b) h same = absurd cc
to_whole (negsuc a) (pos b) h same = absurd cc
to_whole (negsuc a) (negsuc b) h same = let e : a ≡ min b (2 ^ 63 - 1) = cc in ap negsuc (omega arith)

to_cut : (x y : ℤ) → IsInside x → x ≡ y → x ≡ saturated y
to_cut (pos a) (pos b) h same = let e : a ≡ b = cc in ap pos (omega arith)
to_cut (pos a) (negsuc b) h same = absurd cc
to_cut (negsuc a) (pos b) h same = absurd cc
to_cut (negsuc a) (negsuc b) h same = let e : a ≡ b = cc in ap negsuc (omega arith)

equal : (x y : ℤ) → IsInside x → int_eq x (saturated y) ≡ int_eq x y
equal x y h = same_from_decides (int_eq x (saturated y)) (int_eq x y) (Decides-like (int_eq x (saturated y)) (to_whole x y h) (to_cut x y h) (Decides-int_eq x (saturated y))) (Decides-int_eq x y)

-- a number inside compares with what is kept as with the side itself
pub compared : (by : Compare) (x y : ℤ) → IsInside x → compares by x (saturated y) ≡ compares by x y
compared Equal x y h = equal x y h
compared Unequal x y h = ap not (equal x y h)
compared Less x y h = less x y h
compared AtMost x y h = at_most x y h
compared Greater x y h = more x y h
compared AtLeast x y h = at_least x y h

pub same_either : (x y : ℤ) → int_eq x y ≡ int_eq y x
same_either x y = same_from_decides (int_eq x y) (int_eq y x) (Decides-int_eq x y) (Decides-like (int_eq y x) (λ e. sym e) (λ e. sym e) (Decides-int_eq y x))

pub turned_round : (by : Compare) (x y : ℤ) → compares by x y ≡ compares (turned by) y x
turned_round Equal x y = same_either x y
turned_round Unequal x y = ap not (same_either x y)
turned_round Less x y = refl
turned_round AtMost x y = refl
turned_round Greater x y = refl
turned_round AtLeast x y = refl

-- what a side comes to for some runs, and some sides
column_alike : (side : Expr) (bounds others : List BoundEvents) → length bounds ≡ length others
    → ((run name : ℕ) → run < length bounds → reads_name name side ≡ true → last_bound name (get_or bounds run []) ≡ last_bound name (get_or others run []))
    → held_column bounds side ≡ held_column others side
column_alike side [] [] same h = refl
column_alike side [] (c ∷ others) same h = absurd (omega arith)
column_alike side (b ∷ bounds) [] same h = absurd (omega arith)
column_alike side (b ∷ bounds) (c ∷ others) same h =
    let first = ap saturated (by_last side blank b c (λ name reads. h 0 name (omega arith) reads)) in
    let rest = column_alike side bounds others (omega arith) (λ run name within reads. h (suc run) name (omega arith) reads) in
    λ i. first i ∷ rest i

columns_alike : (held : List Expr) (bounds others : List BoundEvents) → length bounds ≡ length others
    → ((run name : ℕ) → run < length bounds → list_any (reads_name name) held ≡ true → last_bound name (get_or bounds run []) ≡ last_bound name (get_or others run []))
    → map (held_column bounds) held ≡ map (held_column others) held
columns_alike [] bounds others same h = refl
columns_alike (side ∷ held) bounds others same h =
    let first = column_alike side bounds others same (λ run name within reads. h run name within (or_left (reads_name name side) (list_any (reads_name name) held) reads)) in
    let rest = columns_alike held bounds others same (λ run name within reads. h run name within (or_right (reads_name name side) (list_any (reads_name name) held) reads)) in
    λ i. first i ∷ rest i

pub stand_alone : HeldSidesStandAlone
stand_alone p bounds others same h = columns_alike (held_sides p) bounds others same h
