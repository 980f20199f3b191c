-- Two lists of events that are held, as the one that they are together: those of the second are put among those of the first.
use Rattle.std.proofs.Common.{◌≡◌, ◌==◌, ℕ, ℤ, pos, ◌≤ℤ◌, Bor, Bool, true, false, List, [], ◌∷◌, ◌++◌, zero, suc, Some, None, Option, refl, sym, ◌∙◌, ap, subst, arith}
use Rattle.std.specs.Prelude.{int_lt, int_le, slice_get, IfSome, IfNone, not, if◌then◌else◌}
use Rattle.std.specs.Int.{int_min, int_max}
use Rattle.std.specs.Slice.{IsItemAt}
use Rattle.std.specs.Option.{option_map}
use Rattle.std.specs.Map.{values_of}
use Rattle.std.specs.List.{All, fold}
use Rattle.std.proofs.lemmas.Int.{ints}
use Rattle.std.proofs.lemmas.List.Elements.{All-append, All-nil, All-push, All-weaker}
use Rattle.sp_plan.specs.declared.event.Event.{Event}
use Rattle.sp_slack.specs.HeldBack.{put, is_before, is_up_to, first_held, first_of, with_time}
use Rattle.sp_slack.specs.declared.waiting.First.{First}
use Rattle.sp_slack.proofs.Keeping.{Placed}
use Rattle.sp_slack.proofs.Sorting.{Rise, AreFrom, from_earlier, all_put, rise_put, rise_ordered}
use Rattle.sp_plan.specs.Events.{NeverGoesBack}

-- the events of a line and of those behind it
abbrev pub held : List Event → List Event → List Event
held line behind = fold put line behind

put_before : (x e : Event) (xs : List Event) → int_lt e.time x.time ≡ true → put (x ∷ xs) e ≡ e ∷ x ∷ xs
put_before x e xs less = rw less refl

put_behind : (x e : Event) (xs : List Event) → int_lt e.time x.time ≡ false → put (x ∷ xs) e ≡ x ∷ put xs e
put_behind x e xs less = rw less refl

no_less : (x e : Event) → x.time ≤ℤ e.time → int_lt e.time x.time ≡ false
no_less x e le = grind (arith, ints)

-- ---- what never goes back

from_of : (e : Event) (xs : List Event) → ((j : ℕ) (x : Event) → slice_get xs j ≡ Some x → e.time ≤ℤ x.time) → AreFrom e xs
from_of e [] all = tt
from_of e (x ∷ xs) all = (all zero x refl, from_of e xs (λ j y at. all (suc j) y at))

pub rise_of : (xs : List Event) → NeverGoesBack xs → Rise xs
rise_of [] ordered = tt
rise_of (x ∷ xs) ordered = (from_of x xs (λ j y at. ordered zero (suc j) x y (omega arith) refl at), rise_of xs (λ i j y z le at bt. ordered (suc i) (suc j) y z (omega (arith, le)) at bt))

pub ordered_put : (xs : List Event) (e : Event) → NeverGoesBack xs → NeverGoesBack (put xs e)
ordered_put xs e ordered = rise_ordered (put xs e) (rise_put xs e (rise_of xs ordered))

pub ordered_rest : (x : Event) (xs : List Event) → NeverGoesBack (x ∷ xs) → NeverGoesBack xs
ordered_rest x xs ordered = rise_ordered xs (rise_of (x ∷ xs) ordered).1

-- ---- which is the first

line_first : (x : Event) (line behind : List Event) → AreFrom x behind → held (x ∷ line) behind ≡ x ∷ held line behind
line_first x line [] from = refl
line_first x line (y ∷ behind) from = ap (λ (l : List Event). held l behind) (put_behind x y line (no_less x y from.0)) ∙ line_first x (put line y) behind from.1

-- the place of the first that is held
abbrev place : Option First → First
place None = record { time = pos 0; in_line = false }
place (Some f) = f

sides : (f g : First) → f ≡ g → f.in_line ≡ true → g.in_line ≡ false → ⊥
sides f g same one other = absurd (cc (same, one, other))

-- the first of those that are held, where the line has it
pub from_line : (x : Event) (line behind : List Event) (f : First) → first_held (x ∷ line) behind ≡ Some f → f.in_line ≡ true → Rise behind → (held (x ∷ line) behind ≡ x ∷ held line behind) × (x.time ≡ f.time)
from_line x line [] f is side rise = (refl, ap (λ (o : Option First). (place o).time) is)
from_line x line (y ∷ behind) f is side rise = by (int_le x.time y.time) refl (ap place is)
  where
    by : (b : Bool) → int_le x.time y.time ≡ b → first_of b x y ≡ f → (held (x ∷ line) (y ∷ behind) ≡ x ∷ held line (y ∷ behind)) × (x.time ≡ f.time)
    by true at is =
        let le : x.time ≤ℤ y.time = grind (arith, ints) in
        (line_first x line (y ∷ behind) (le, from_earlier x y behind le rise.0), ap (λ (g : First). g.time) is)
    by false at is = absurd (sides f (first_of false x y) (sym is) side refl)

-- and where it stands behind it
pub from_behind : (line : List Event) (y : Event) (behind : List Event) (f : First) → first_held line (y ∷ behind) ≡ Some f → f.in_line ≡ false → Rise (y ∷ behind) → (held line (y ∷ behind) ≡ y ∷ held line behind) × (y.time ≡ f.time)
from_behind [] y behind f is side rise = (line_first y [] behind rise.0, ap (λ (o : Option First). (place o).time) is)
from_behind (x ∷ line) y behind f is side rise = by (int_le x.time y.time) refl (ap place is)
  where
    by : (b : Bool) → int_le x.time y.time ≡ b → first_of b x y ≡ f → (held (x ∷ line) (y ∷ behind) ≡ y ∷ held (x ∷ line) behind) × (y.time ≡ f.time)
    by true at is = absurd (sides (first_of true x y) f is refl side)
    by false at is =
        let less : int_lt y.time x.time ≡ true = grind (arith, ints) in
        (ap (λ (l : List Event). held l behind) (put_before x y line less) ∙ line_first y (x ∷ line) behind rise.0, ap (λ (g : First). g.time) is)

pub none_held : (line behind : List Event) → first_held line behind ≡ None → held line behind ≡ []
none_held [] [] is = refl
none_held (x ∷ line) [] is = absurd (cc is)
none_held [] (y ∷ behind) is = absurd (cc is)
none_held (x ∷ line) (y ∷ behind) is = absurd (cc is)

-- the time of the first is that of the first that is held
module _ (line behind : List Event) (f : First) (e : Event) (rest : List Event) (is : first_held line behind ≡ Some f) (ordered : NeverGoesBack behind) (are : held line behind ≡ e ∷ rest) where
  pub first_time : e.time ≡ f.time
  first_time = by line behind f is are (rise_of behind ordered) refl
    where
      own : (x : Event) (xs : List Event) (t : ℤ) → x ∷ xs ≡ e ∷ rest → x.time ≡ t → e.time ≡ t
      own x xs t same at = let one : x ≡ e = cc same in ap (λ (y : Event). y.time) (sym one) ∙ at

      other : (line : List Event) (y : Event) (behind : List Event) (f : First) (b : Bool) → first_held line (y ∷ behind) ≡ Some f → held line (y ∷ behind) ≡ e ∷ rest → Rise (y ∷ behind) → f.in_line ≡ b → b ≡ false → e.time ≡ f.time
      other line y behind f b is are rise side at =
          let next = from_behind line y behind f is (side ∙ at) rise in
          own y (held line behind) f.time (sym next.0 ∙ are) next.1

      in_line : (x : Event) (line behind : List Event) (f : First) → first_held (x ∷ line) behind ≡ Some f → held (x ∷ line) behind ≡ e ∷ rest → Rise behind → f.in_line ≡ true → e.time ≡ f.time
      in_line x line behind f is are rise side =
          let next = from_line x line behind f is side rise in
          own x (held line behind) f.time (sym next.0 ∙ are) next.1

      by : (line behind : List Event) (f : First) → first_held line behind ≡ Some f → held line behind ≡ e ∷ rest → Rise behind → f ≡ f → e.time ≡ f.time
      by [] [] f is are rise same = absurd (cc is)
      by (x ∷ line) [] f is are rise same = in_line x line [] f is are rise (ap (λ (o : Option First). (place o).in_line) (sym is))
      by [] (y ∷ behind) f is are rise same = other [] y behind f false is are rise (ap (λ (o : Option First). (place o).in_line) (sym is)) refl
      by (x ∷ line) (y ∷ behind) f is are rise same = sided f.in_line refl
        where
          sided : (b : Bool) → f.in_line ≡ b → e.time ≡ f.time
          sided true side = in_line x line (y ∷ behind) f is are rise side
          sided false side = other (x ∷ line) y behind f false is are rise side refl

-- ---- one event more

-- an event that is not before any of the line
put_last : (line : List Event) (e : Event) → All (λ x. int_lt e.time x.time ≡ false) line → put line e ≡ line ++ e ∷ []
put_last [] e all = refl
put_last (x ∷ line) e all = put_behind x e line (all zero x (omega arith)) ∙ ap (λ (l : List Event). x ∷ l) (put_last line e (λ j d inside. all (suc j) d (omega (arith, inside))))

-- an event among others, the last of which is later
put_among : (line : List Event) (e y : Event) → int_lt y.time e.time ≡ true → put (line ++ e ∷ []) y ≡ put line y ++ e ∷ []
put_among [] e y less = put_before e y [] less
put_among (x ∷ line) e y less = by (int_lt y.time x.time) (put_among line e y less)
  where
    by : (b : Bool) → put (line ++ e ∷ []) y ≡ put line y ++ e ∷ []
        → (if b then y ∷ x ∷ (line ++ e ∷ []) else x ∷ put (line ++ e ∷ []) y) ≡ (if b then y ∷ x ∷ line else x ∷ put line y) ++ e ∷ []
    by true rest = refl
    by false rest = ap (λ (l : List Event). x ∷ l) rest

longer_line : (line behind : List Event) (e : Event) → All (λ y. int_lt y.time e.time ≡ true) behind → held (line ++ e ∷ []) behind ≡ held line behind ++ e ∷ []
longer_line line [] e all = refl
longer_line line (y ∷ behind) e all =
    ap (λ (l : List Event). held l behind) (put_among line e y (all zero y (omega arith)))
    ∙ longer_line (put line y) behind e (λ j d inside. all (suc j) d (omega (arith, inside)))

all_held : (is : Event → Bool) (line behind : List Event) → All (λ x. is x ≡ true) line → All (λ x. is x ≡ true) behind → All (λ x. is x ≡ true) (held line behind)
all_held is line [] all rest = all
all_held is line (y ∷ behind) all rest = all_held is (put line y) behind (all_put is line y all (rest zero y (omega arith))) (λ j d inside. rest (suc j) d (omega (arith, inside)))

-- a time that no event of the line is past and each behind it is before, and an event that is not before it
module _ (t : Option ℤ) (line behind : List Event) (e : Event) (in_line : All (λ x. is_up_to t x ≡ true) line) (earlier : All (λ x. is_before t x ≡ true) behind) (late : is_before t e ≡ false) where
  up_to : (t : Option ℤ) (x : Event) → is_before t e ≡ false → is_up_to t x ≡ true → int_lt e.time x.time ≡ false
  up_to None x late is = absurd (cc is)
  up_to (Some s) x late is = grind (arith, ints)

  before_it : (t : Option ℤ) (x : Event) → is_before t e ≡ false → is_before t x ≡ true → int_lt x.time e.time ≡ true
  before_it None x late is = absurd (cc is)
  before_it (Some s) x late is = grind (arith, ints)

  no_later : (x : Event) → int_lt x.time e.time ≡ true → int_lt e.time x.time ≡ false
  no_later x is = grind (arith, ints)

  line_is : All (λ x. int_lt e.time x.time ≡ false) line
  line_is = All-weaker (λ x. is_up_to t x ≡ true) (λ x. int_lt e.time x.time ≡ false) (λ x is. up_to t x late is) line in_line

  behind_is : All (λ x. int_lt x.time e.time ≡ true) behind
  behind_is = All-weaker (λ x. is_before t x ≡ true) (λ x. int_lt x.time e.time ≡ true) (λ x is. before_it t x late is) behind earlier

  -- it stands last
  pub in_order : held (line ++ e ∷ []) behind ≡ put (held line behind) e
  in_order = longer_line line behind e behind_is ∙ sym (put_last (held line behind) e all)
    where
      swap : (x : Event) → not (int_lt e.time x.time) ≡ true → int_lt e.time x.time ≡ false
      swap x is = by (int_lt e.time x.time) is
        where
          by : (b : Bool) → not b ≡ true → b ≡ false
          by true is = absurd (cc is)
          by false is = refl

      all : All (λ x. int_lt e.time x.time ≡ false) (held line behind)
      all =
          All-weaker (λ x. not (int_lt e.time x.time) ≡ true) (λ x. int_lt e.time x.time ≡ false) swap (held line behind)
          (all_held (λ x. not (int_lt e.time x.time)) line behind
          (All-weaker (λ x. int_lt e.time x.time ≡ false) (λ x. not (int_lt e.time x.time) ≡ true) (λ x is. ap not is) line line_is)
          (All-weaker (λ x. int_lt x.time e.time ≡ true) (λ x. not (int_lt e.time x.time) ≡ true) (λ x is. ap not (no_later x is)) behind behind_is))

-- ---- one event behind the line more

-- two events of different times may be put in either order
put_both : (xs : List Event) (e y : Event) → int_lt e.time y.time ≡ true → put (put xs e) y ≡ put (put xs y) e
put_both [] e y less = put_behind e y [] (grind (arith, ints)) ∙ sym (put_before y e [] less)
put_both (x ∷ xs) e y less = by (int_lt e.time x.time) (int_lt y.time x.time) refl refl (put_both xs e y less)
  where
    no : int_lt y.time e.time ≡ false
    no = grind (arith, ints)

    by : (b c : Bool) → int_lt e.time x.time ≡ b → int_lt y.time x.time ≡ c → put (put xs e) y ≡ put (put xs y) e
        → put (if b then e ∷ x ∷ xs else x ∷ put xs e) y ≡ put (if c then y ∷ x ∷ xs else x ∷ put xs y) e
    by true true is at rest = put_behind e y (x ∷ xs) no ∙ ap (λ (l : List Event). e ∷ l) (put_before x y xs at) ∙ sym (put_before y e (x ∷ xs) less)
    by true false is at rest = put_behind e y (x ∷ xs) no ∙ ap (λ (l : List Event). e ∷ l) (put_behind x y xs at) ∙ sym (put_before x e (put xs y) is)
    by false true is at rest = absurd (clash is at)
      where
        clash : int_lt e.time x.time ≡ false → int_lt y.time x.time ≡ true → ⊥
        clash is at = let le = less in absurd (grind (arith, ints))
    by false false is at rest = put_behind x y (put xs e) at ∙ ap (λ (l : List Event). x ∷ l) rest ∙ sym (put_behind x e (put xs y) is)

held_both : (line behind : List Event) (e : Event) → All (λ y. int_lt e.time y.time ≡ true) behind → held (put line e) behind ≡ put (held line behind) e
held_both line [] e all = refl
held_both line (y ∷ behind) e all =
    ap (λ (l : List Event). held l behind) (put_both line e y (all zero y (omega arith)))
    ∙ held_both (put line y) behind e (λ j d inside. all (suc j) d (omega (arith, inside)))

later_all : (e y : Event) (behind : List Event) → int_lt e.time y.time ≡ true → AreFrom y behind → All (λ x. int_lt e.time x.time ≡ true) behind
later_all e y [] less from = All-nil (λ x. int_lt e.time x.time ≡ true)
later_all e y (x ∷ behind) less from =
    All-append (λ x. int_lt e.time x.time ≡ true) (x ∷ []) behind
    (All-push (λ x. int_lt e.time x.time ≡ true) [] x (All-nil (λ x. int_lt e.time x.time ≡ true)) (let le = from.0 in grind (arith, ints)))
    (later_all e y behind less from.1)

pub out_of_order : (line behind : List Event) (e : Event) → Rise behind → held line (put behind e) ≡ put (held line behind) e
out_of_order line [] e rise = refl
out_of_order line (y ∷ behind) e rise = by (int_lt e.time y.time) refl (out_of_order (put line y) behind e rise.1)
  where
    by : (b : Bool) → int_lt e.time y.time ≡ b → held (put line y) (put behind e) ≡ put (held (put line y) behind) e
        → held line (if b then e ∷ y ∷ behind else y ∷ put behind e) ≡ put (held (put line y) behind) e
    by true is rest =
        held_both line (y ∷ behind) e
        (All-append (λ x. int_lt e.time x.time ≡ true) (y ∷ []) behind (All-push (λ x. int_lt e.time x.time ≡ true) [] y (All-nil (λ x. int_lt e.time x.time ≡ true)) is) (later_all e y behind is rise.0))
    by false is rest = rest

-- ---- the greatest time

-- with an event more the line is still up to the greatest time, and what is behind it still before that
up_to_with : (t : Option ℤ) (e x : Event) → is_up_to t x ≡ true → is_up_to (with_time t e) x ≡ true
up_to_with None e x is = absurd (cc is)
up_to_with (Some s) e x is = grind (arith, ints)

before_with : (t : Option ℤ) (e x : Event) → is_before t x ≡ true → is_before (with_time t e) x ≡ true
before_with None e x is = absurd (cc is)
before_with (Some s) e x is = grind (arith, ints)

own_up_to : (t : Option ℤ) (e : Event) → is_up_to (with_time t e) e ≡ true
own_up_to None e = grind (arith, ints)
own_up_to (Some s) e = grind (arith, ints)

pub still_in_line : (t : Option ℤ) (e : Event) (line : List Event) → All (λ x. is_up_to t x ≡ true) line → All (λ x. is_up_to (with_time t e) x ≡ true) line
still_in_line t e line all = All-weaker (λ x. is_up_to t x ≡ true) (λ x. is_up_to (with_time t e) x ≡ true) (λ x is. up_to_with t e x is) line all

pub more_in_line : (t : Option ℤ) (e : Event) (line : List Event) → All (λ x. is_up_to t x ≡ true) line → All (λ x. is_up_to (with_time t e) x ≡ true) (line ++ e ∷ [])
more_in_line t e line all = All-push (λ x. is_up_to (with_time t e) x ≡ true) line e (still_in_line t e line all) (own_up_to t e)

pub still_earlier : (t : Option ℤ) (e : Event) (behind : List Event) → All (λ x. is_before t x ≡ true) behind → All (λ x. is_before (with_time t e) x ≡ true) behind
still_earlier t e behind all = All-weaker (λ x. is_before t x ≡ true) (λ x. is_before (with_time t e) x ≡ true) (λ x is. before_with t e x is) behind all

pub more_earlier : (t : Option ℤ) (e : Event) (behind : List Event) → All (λ x. is_before t x ≡ true) behind → is_before t e ≡ true → All (λ x. is_before (with_time t e) x ≡ true) (put behind e)
more_earlier t e behind all is = all_put (is_before (with_time t e)) behind e (still_earlier t e behind all) (before_with t e e is)

-- ---- the first of a line and of a map

pub line_item : (line : List Event) (r : Option (Bor Event)) → IsItemAt line 0 r → slice_get line 0 ≡ option_map (λ x. x.now) r
line_item [] None item = refl
line_item [] (Some x) item = let at : true ≡ false = item.0 in absurd (cc at)
line_item (y ∷ line) None item = absurd (omega (arith, item.3))
line_item (y ∷ line) (Some x) item = ap Some (sym item.1)

-- what the fronts come to
abbrev pub fronts : Option Event → Option ((ℤ × ℕ) × Event) → Option First
fronts None None = None
fronts (Some x) None = Some (record { time = x.time; in_line = true })
fronts None (Some f) = Some (record { time = f.0.0; in_line = false })
fronts (Some x) (Some f) = Some (record { time = int_min x.time f.0.0; in_line = int_le x.time f.0.0 })

earlier_of : (x y : Event) → first_of (int_le x.time y.time) x y ≡ record { time = int_min x.time y.time; in_line = int_le x.time y.time }
earlier_of x y = by (int_le x.time y.time) refl
  where
    by : (b : Bool) → int_le x.time y.time ≡ b → first_of b x y ≡ record { time = int_min x.time y.time; in_line = b }
    by true at = let same : int_min x.time y.time ≡ x.time = grind (arith, ints) in rw same refl
    by false at = let same : int_min x.time y.time ≡ y.time = grind (arith, ints) in rw same refl

pub by_fronts : (n : ℕ) (line : List Event) (entries : List ((ℤ × ℕ) × Event)) → All (Placed n) entries → first_held line (values_of entries) ≡ fronts (slice_get line 0) (slice_get entries 0)
by_fronts n [] [] placed = refl
by_fronts n (x ∷ line) [] placed = refl
by_fronts n [] (f ∷ entries) placed = ap (λ (t : ℤ). Some (record { time = t; in_line = false })) (sym (placed 0 f (omega arith)).0)
by_fronts n (x ∷ line) (f ∷ entries) placed =
    ap Some (earlier_of x f.1) ∙ ap (λ (t : ℤ). Some (record { time = int_min x.time t; in_line = int_le x.time t })) (sym (placed 0 f (omega arith)).0)

-- what holds of the events of a map holds of them without the first, where it does of each list without its first
pub taken_values : (P : List Event → Type 0) → ((x : Event) (xs : List Event) → P (x ∷ xs) → P xs) → (taken : Option ((ℤ × ℕ) × Event)) (old new : List ((ℤ × ℕ) × Event))
    → IfSome taken (λ f. old ≡ f ∷ new) → IfNone taken (new ≡ old) → P (values_of old) → P (values_of new)
taken_values P step None old new some none is = subst (λ (l : List ((ℤ × ℕ) × Event)). P (values_of l)) (sym none) is
taken_values P step (Some f) old new some none is = step f.1 (values_of new) (subst (λ (l : List ((ℤ × ℕ) × Event)). P (values_of l)) some is)

pub all_rest : (is : Event → Bool) (x : Event) (xs : List Event) → All (λ y. is y ≡ true) (x ∷ xs) → All (λ y. is y ≡ true) xs
all_rest is x xs all j d inside = all (suc j) d (omega (arith, inside))

-- a time that is before the greatest doesn't change it
pub same_time : (t : Option ℤ) (e : Event) → is_before t e ≡ true → with_time t e ≡ t
same_time None e is = absurd (cc is)
same_time (Some s) e is = let same : int_max s e.time ≡ s = grind (arith, ints) in ap Some same

pub all_more : (is : Event → Bool) (xs : List Event) (e : Event) → All (λ x. is x ≡ true) xs → is e ≡ true → All (λ x. is x ≡ true) (put xs e)
all_more is xs e all at = all_put is xs e all at
