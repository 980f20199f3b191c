-- What a slack keeps stands for the events that it kept.
use Rattle.std.proofs.Common.{◌≡◌, ◌==◌, ℕ, zero, suc, ℤ, ◌+◌, ◌<◌, ◌≤◌, Bool, true, false, cond, List, [], ◌∷◌, ◌++◌, length, take, drop, Some, None, Option, refl, sym, ◌∙◌, ap, subst, arith, length-append}
use Rattle.std.specs.Prelude.{int_lt, nat_lt, slice_get, ◌||◌, IfSome, IfNone, if◌then◌else◌}
use Rattle.std.specs.List.{All, filter}
use Rattle.std.specs.BTreeMap.{insert_entry}
use Rattle.std.specs.Map.{values_of}
use Rattle.std.specs.Ordering.{int_cmp, nat_cmp, ordering_then, match_ordering}
use Rattle.std.specs.declared.cmp.Ordering.{Ordering}
use Rattle.std.specs.declared.cmp.Ordering.TheVariants.{Less, Equal, Greater}
use Rattle.std.proofs.lemmas.Bool.Decides.{nat_tests}
use Rattle.std.proofs.lemmas.List.{take-append-drop, append-nil, length-take}
use Rattle.std.proofs.lemmas.List.Elements.{All-append, All-nil, All-push, All-weaker, filter-append}
use Rattle.std.proofs.Math.Seq.{drop-append_seam}
use Rattle.sp_plan.specs.declared.event.Event.{Event}
use Rattle.sp_slack.specs.HeldBack.{put, sorted, slacked, greatest, with_time, before, least, is_up_to, is_late}
use Rattle.sp_slack.specs.Standing.{Kept, Stands, all_given}
use Rattle.sp_slack.proofs.Sorting.{Rise, AreFrom, rise_sorted, length_sorted, sorted_more}
use Rattle.sp_slack.proofs.Growing.{IsUpTo, none_up_to, up_to_more, passes, greater, greatest_more}

-- ---- places of a list

taken_length : (n : ℕ) (xs : List Event) → n ≤ length xs → length (take n xs) ≡ n
taken_length n xs le = omega (arith, length-take n xs)

at_seam : (xs ys : List Event) (e : Event) → slice_get (xs ++ e ∷ ys) (length xs) ≡ Some e
at_seam [] ys e = refl
at_seam (x ∷ xs) ys e = at_seam xs ys e

take_seam : (xs ys : List Event) → take (length xs) (xs ++ ys) ≡ xs
take_seam [] ys = refl
take_seam (x ∷ xs) ys = ap (λ (l : List Event). x ∷ l) (take_seam xs ys)

drop_next : (n : ℕ) (xs : List Event) (e : Event) (rest : List Event) → drop n xs ≡ e ∷ rest → (drop (suc n) xs ≡ rest) × (take (suc n) xs ≡ take n xs ++ e ∷ []) × (suc n ≤ length xs)
drop_next zero [] e rest is = absurd (cc is)
drop_next zero (x ∷ xs) e rest is = (cc is, ap (λ (y : Event). y ∷ []) (cc is), omega arith)
drop_next (suc n) [] e rest is = absurd (cc is)
drop_next (suc n) (x ∷ xs) e rest is = let next = drop_next n xs e rest is in (next.0, ap (λ (l : List Event). x ∷ l) next.1, omega (arith, next.2))

drop_none : (n : ℕ) (xs : List Event) → drop n xs ≡ [] → length xs ≤ n
drop_none n [] is = omega arith
drop_none zero (x ∷ xs) is = absurd (cc is)
drop_none (suc n) (x ∷ xs) is = omega (arith, drop_none n xs is)

rise_drop : (n : ℕ) (xs : List Event) → Rise xs → Rise (drop n xs)
rise_drop zero xs rise = rise
rise_drop (suc n) [] rise = tt
rise_drop (suc n) (x ∷ xs) rise = rise_drop n xs rise.1

filter_all : (is : Event → Bool) (xs : List Event) → All (λ x. is x ≡ true) xs → filter is xs ≡ xs
filter_all is [] all = refl
filter_all is (x ∷ xs) all = by (is x) (all 0 x (omega arith)) (filter_all is xs (λ j d inside. all (suc j) d (omega (arith, inside))))
  where
    by : (b : Bool) → b ≡ true → filter is xs ≡ xs → (if b then x ∷ filter is xs else filter is xs) ≡ x ∷ xs
    by true at rest = ap (λ (l : List Event). x ∷ l) rest
    by false at rest = absurd (cc at)

-- an event stands behind all that are not later
put_past : (xs ys : List Event) (e : Event) → All (λ x. int_lt e.time x.time ≡ false) xs → put (xs ++ ys) e ≡ xs ++ put ys e
put_past [] ys e all = refl
put_past (x ∷ xs) ys e all = by (int_lt e.time x.time) (all 0 x (omega arith)) (put_past xs ys e (λ j d inside. all (suc j) d (omega (arith, inside))))
  where
    by : (b : Bool) → b ≡ false → put (xs ++ ys) e ≡ xs ++ put ys e → (if b then e ∷ x ∷ (xs ++ ys) else x ∷ put (xs ++ ys) e) ≡ x ∷ (xs ++ put ys e)
    by true at rest = absurd (cc at)
    by false at rest = ap (λ (l : List Event). x ∷ l) rest

-- ---- what is to be given

-- the events that were given, and those that are held
record Parted (t : Option ℤ) (s : List Event) (n : ℕ) (held : List Event) : Type 0 where
  size : length (take n s) ≡ n
  are : s ≡ take n s ++ held
  passed : All (λ e. is_up_to t e ≡ true) (take n s)

filtered : (t : Option ℤ) (s : List Event) (n : ℕ) (held : List Event) → Parted t s n held → filter (is_up_to t) s ≡ take n s ++ filter (is_up_to t) held
filtered t s n held p =
    ap (filter (is_up_to t)) p.are ∙ filter-append (is_up_to t) (take n s) held
    ∙ ap (λ (l : List Event). l ++ filter (is_up_to t) held) (filter_all (is_up_to t) (take n s) p.passed)

filter_yes : (is : Event → Bool) (e : Event) (rest : List Event) → is e ≡ true → filter is (e ∷ rest) ≡ e ∷ filter is rest
filter_yes is e rest at = rw at refl

filter_no : (is : Event → Bool) (e : Event) (rest : List Event) → is e ≡ false → filter is (e ∷ rest) ≡ filter is rest
filter_no is e rest at = rw at refl

next_of : (s : List Event) (n : ℕ) (l : List Event) (e : Event) (rest : List Event) → length (take n s) ≡ n → l ≡ take n s ++ e ∷ rest → slice_get l n ≡ Some e
next_of s n l e rest size is = ap (λ (xs : List Event). slice_get xs n) is ∙ sym (ap (slice_get (take n s ++ e ∷ rest)) size) ∙ at_seam (take n s) rest e

whole_of : (s : List Event) (n : ℕ) (l : List Event) → length (take n s) ≡ n → l ≡ take n s ++ [] → length l ≡ n
whole_of s n l size is = ap length (is ∙ append-nil (take n s)) ∙ size

module _ (k : Kept) (events : List Event) (given : ℕ) (stands : Stands k events given) where
  size : length (take given (sorted events)) ≡ given
  size = taken_length given (sorted events) (omega (arith, length_sorted events, stands.some))

  are : sorted events ≡ take given (sorted events) ++ k.held
  are = sym (take-append-drop given (sorted events)) ∙ ap (λ (l : List Event). take given (sorted events) ++ l) (sym stands.held)

  parted : k.ended ≡ false → Parted (least k.slack events) (sorted events) given k.held
  parted going = record { size = size; are = are; passed = stands.passed going }

  up_to : (e : Event) → is_up_to (before k.slack k.greatest) e ≡ is_up_to (least k.slack events) e
  up_to e = ap (λ (t : Option ℤ). is_up_to (before k.slack t) e) stands.latest

  -- nothing is held
  pub all_none : k.held ≡ [] → length (all_given k events) ≡ given
  all_none none = by k.ended refl
    where
      by : (b : Bool) → k.ended ≡ b → length (slacked k.slack events b) ≡ given
      by true is = whole_of (sorted events) given (sorted events) size (are ∙ ap (λ (l : List Event). take given (sorted events) ++ l) none)
      by false is =
          whole_of (sorted events) given (slacked k.slack events false) size
          (filtered (least k.slack events) (sorted events) given k.held (parted is) ∙ ap (λ (l : List Event). take given (sorted events) ++ filter (is_up_to (least k.slack events)) l) none)

  module _ (e : Event) (rest : List Event) (held : k.held ≡ e ∷ rest) where
    from_rest : AreFrom e rest
    from_rest = (subst Rise (sym stands.held ∙ held) (rise_drop given (sorted events) (rise_sorted events))).0

    -- the first of those that are held is not to be given yet
    pub all_before : (k.ended || is_up_to (before k.slack k.greatest) e) ≡ false → length (all_given k events) ≡ given
    all_before not_yet = by k.ended refl not_yet
      where
        by : (b : Bool) → k.ended ≡ b → (b || is_up_to (before k.slack k.greatest) e) ≡ false → length (slacked k.slack events b) ≡ given
        by true is not_yet = absurd (cc not_yet)
        by false is not_yet =
            let t : Option ℤ = least k.slack events in
            let no : is_up_to t e ≡ false = sym (up_to e) ∙ not_yet in
            let none : filter (is_up_to t) k.held ≡ [] = ap (filter (is_up_to t)) held ∙ filter_no (is_up_to t) e rest no ∙ none_up_to t e rest no from_rest in
            whole_of (sorted events) given (slacked k.slack events false) size
            (filtered t (sorted events) given k.held (parted is) ∙ ap (λ (l : List Event). take given (sorted events) ++ l) none)

    -- and where it is, it is given next
    pub next_given : (k.ended || is_up_to (before k.slack k.greatest) e) ≡ true → slice_get (all_given k events) given ≡ Some e
    next_given ready = by k.ended refl ready
      where
        by : (b : Bool) → k.ended ≡ b → (b || is_up_to (before k.slack k.greatest) e) ≡ true → slice_get (slacked k.slack events b) given ≡ Some e
        by true is ready = next_of (sorted events) given (sorted events) e rest size (are ∙ ap (λ (l : List Event). take given (sorted events) ++ l) held)
        by false is ready =
            let t : Option ℤ = least k.slack events in
            let yes : is_up_to t e ≡ true = sym (up_to e) ∙ ready in
            let one : filter (is_up_to t) k.held ≡ e ∷ filter (is_up_to t) rest = ap (filter (is_up_to t)) held ∙ filter_yes (is_up_to t) e rest yes in
            next_of (sorted events) given (slacked k.slack events false) e (filter (is_up_to t) rest) size
            (filtered t (sorted events) given k.held (parted is) ∙ ap (λ (l : List Event). take given (sorted events) ++ l) one)

    more_passed : (b : Bool) → k.ended ≡ b → (b || is_up_to (before k.slack k.greatest) e) ≡ true → b ≡ false → All (λ x. is_up_to (least k.slack events) x ≡ true) (take (suc given) (sorted events))
    more_passed true is ready going = absurd (cc going)
    more_passed false is ready going =
        let next = drop_next given (sorted events) e rest (sym stands.held ∙ held) in
        subst (All (λ x. is_up_to (least k.slack events) x ≡ true)) (sym next.1)
        (All-push (λ x. is_up_to (least k.slack events) x ≡ true) (take given (sorted events)) e (stands.passed is) (sym (up_to e) ∙ ready))

    pub next_stands : (k.ended || is_up_to (before k.slack k.greatest) e) ≡ true → (more : Kept) → more ≡ record k { held = rest } → Stands more events (given + 1)
    next_stands ready more is = subst (λ (m : Kept). Stands m events (given + 1)) (sym is) (subst (Stands (record k { held = rest }) events) (after given) (record {
      latest = stands.latest;
      held = sym next.0;
      some = omega (arith, next.2, length_sorted events);
      passed = λ going. more_passed k.ended refl ready going;
    }))
      where
        next : (drop (suc given) (sorted events) ≡ rest) × (take (suc given) (sorted events) ≡ take given (sorted events) ++ e ∷ []) × (suc given ≤ length (sorted events))
        next = drop_next given (sorted events) e rest (sym stands.held ∙ held)

        after : (n : ℕ) → suc n ≡ n + 1
        after n = omega arith

  -- ---- an event more

  module _ (e : Event) (going : k.ended ≡ false) (timely : is_late k.slack events e ≡ false) where
    behind : All (λ x. int_lt e.time x.time ≡ false) (take given (sorted events))
    behind = All-weaker (λ x. is_up_to (least k.slack events) x ≡ true) (λ x. int_lt e.time x.time ≡ false) (λ x is. passes (least k.slack events) x e timely is) (take given (sorted events)) (stands.passed going)

    more_sorted : sorted (events ++ e ∷ []) ≡ take given (sorted events) ++ put k.held e
    more_sorted =
        sorted_more events e ∙ ap (λ (l : List Event). put l e) are
        ∙ put_past (take given (sorted events)) k.held e behind

    pub kept_stands : (more : Kept) → more.slack ≡ k.slack → more.held ≡ put k.held e → more.greatest ≡ with_time k.greatest e → more.ended ≡ false → Stands more (events ++ e ∷ []) given
    kept_stands more slack held latest still = record {
      latest = latest ∙ ap (λ (t : Option ℤ). with_time t e) stands.latest ∙ sym (greatest_more events e);
      held = held ∙ sym (ap (drop given) more_sorted ∙ seam_drop);
      some = omega (arith, length-append events (e ∷ []), stands.some);
      passed = λ is. subst (All (λ x. is_up_to (least more.slack (events ++ e ∷ [])) x ≡ true)) (sym (ap (take given) more_sorted ∙ seam_take))
          (All-weaker (λ x. is_up_to (least k.slack events) x ≡ true) (λ x. is_up_to (least more.slack (events ++ e ∷ [])) x ≡ true) later (take given (sorted events)) (stands.passed going));
    }
      where
        seam_drop : drop given (take given (sorted events) ++ put k.held e) ≡ put k.held e
        seam_drop = sym (ap (λ (n : ℕ). drop n (take given (sorted events) ++ put k.held e)) size) ∙ drop-append_seam (take given (sorted events)) (put k.held e)

        seam_take : take given (take given (sorted events) ++ put k.held e) ≡ take given (sorted events)
        seam_take = sym (ap (λ (n : ℕ). take n (take given (sorted events) ++ put k.held e)) size) ∙ take_seam (take given (sorted events)) (put k.held e)

        rises : IsUpTo (least k.slack events) (least more.slack (events ++ e ∷ []))
        rises =
            subst (λ (d : ℤ). IsUpTo (least k.slack events) (least d (events ++ e ∷ []))) (sym slack)
            (subst (λ (t : Option ℤ). IsUpTo (least k.slack events) (before k.slack t)) (sym (greatest_more events e)) (greater k.slack (greatest events) e))

        later : (x : Event) → is_up_to (least k.slack events) x ≡ true → is_up_to (least more.slack (events ++ e ∷ [])) x ≡ true
        later x is = up_to_more (least k.slack events) (least more.slack (events ++ e ∷ [])) x rises is

-- ---- the map

-- an entry of the map has its event's time, and an arrival below this one
abbrev pub Placed : ℕ → (ℤ × ℕ) × Event → Type 0
Placed n entry = (entry.0.0 ≡ entry.1.time) × (entry.0.1 < n)

abbrev pub place_cmp : ℤ × ℕ → ℤ × ℕ → Ordering
place_cmp x y = ordering_then (int_cmp x.0 y.0) (nat_cmp x.1 y.1)

-- what arrives last stands behind those of its time
last_cmp : (t u : ℤ) (n a : ℕ) → a < n → place_cmp (t, n) (u, a) ≡ (if int_lt t u then Less else Greater)
last_cmp t u n a less = by (int_lt t u) (int_lt u t)
  where
    last : nat_cmp n a ≡ Greater
    last =
        let not_less : nat_lt n a ≡ false = grind (arith, nat_tests) in
        let not_same : (n == a) ≡ false = grind (arith, nat_tests) in
        rw (not_less, not_same) refl

    by : (b c : Bool) → ordering_then (cond b Less (cond c Greater Equal)) (nat_cmp n a) ≡ (if b then Less else Greater)
    by true c = refl
    by false true = refl
    by false false = last

module _ (n : ℕ) (e : Event) where
  unfoldable pub inserted : List ((ℤ × ℕ) × Event) → List ((ℤ × ℕ) × Event)
  inserted es = insert_entry place_cmp es (e.time, n) e

  chosen : (f : (ℤ × ℕ) × Event) (es : List ((ℤ × ℕ) × Event)) → Placed n f → inserted (f ∷ es) ≡ (if int_lt e.time f.1.time then ((e.time, n), e) ∷ f ∷ es else f ∷ inserted es)
  unfolding inserted
  chosen f es placed =
      ap (λ (o : Ordering). match_ordering o (((e.time, n), e) ∷ f ∷ es) ((f.0, e) ∷ es) (f ∷ inserted es)) (last_cmp e.time f.0.0 n f.0.1 placed.1 ∙ ap (λ (t : ℤ). if int_lt e.time t then Less else Greater) placed.0)
      ∙ by (int_lt e.time f.1.time)
    where
      by : (b : Bool) → match_ordering (if b then Less else Greater) (((e.time, n), e) ∷ f ∷ es) ((f.0, e) ∷ es) (f ∷ inserted es) ≡ (if b then ((e.time, n), e) ∷ f ∷ es else f ∷ inserted es)
      by true = refl
      by false = refl

  pub put_values : (es : List ((ℤ × ℕ) × Event)) → All (Placed n) es → values_of (inserted es) ≡ put (values_of es) e
  unfolding inserted
  put_values [] placed = refl
  put_values (f ∷ es) placed = ap values_of (chosen f es (placed 0 f (omega arith))) ∙ by (int_lt e.time f.1.time) (put_values es (λ j d inside. placed (suc j) d (omega (arith, inside))))
    where
      by : (b : Bool) → values_of (inserted es) ≡ put (values_of es) e
          → values_of (if b then ((e.time, n), e) ∷ f ∷ es else f ∷ inserted es) ≡ (if b then e ∷ f.1 ∷ values_of es else f.1 ∷ put (values_of es) e)
      by true rest = refl
      by false rest = ap (λ (l : List Event). f.1 ∷ l) rest

  pub put_placed : (es : List ((ℤ × ℕ) × Event)) → All (Placed n) es → All (Placed (n + 1)) (inserted es)
  unfolding inserted
  put_placed [] placed = All-push (Placed (n + 1)) [] ((e.time, n), e) (All-nil (Placed (n + 1))) (refl, omega arith)
  put_placed (f ∷ es) placed =
      subst (All (Placed (n + 1))) (sym (chosen f es (placed 0 f (omega arith)))) (by (int_lt e.time f.1.time) (put_placed es (λ j d inside. placed (suc j) d (omega (arith, inside)))))
    where
      wider : All (Placed (n + 1)) (f ∷ es)
      wider = All-weaker (Placed n) (Placed (n + 1)) (λ x is. (is.0, omega (arith, is.1))) (f ∷ es) placed

      own : All (Placed (n + 1)) (((e.time, n), e) ∷ [])
      own = All-push (Placed (n + 1)) [] ((e.time, n), e) (All-nil (Placed (n + 1))) (refl, omega arith)

      by : (b : Bool) → All (Placed (n + 1)) (inserted es) → All (Placed (n + 1)) (if b then ((e.time, n), e) ∷ f ∷ es else f ∷ inserted es)
      by true rest = All-append (Placed (n + 1)) (((e.time, n), e) ∷ []) (f ∷ es) own wider
      by false rest = All-append (Placed (n + 1)) (f ∷ []) (inserted es) (All-push (Placed (n + 1)) [] f (All-nil (Placed (n + 1))) (wider 0 f (omega arith))) rest

-- the entries without the first
pub placed_rest : (n : ℕ) (f : (ℤ × ℕ) × Event) (es : List ((ℤ × ℕ) × Event)) → All (Placed n) (f ∷ es) → All (Placed n) es
placed_rest n f es placed j d inside = placed (suc j) d (omega (arith, inside))

-- and without the one that was taken, if one was
pub placed_taken : (n : ℕ) (taken : Option ((ℤ × ℕ) × Event)) (old new : List ((ℤ × ℕ) × Event)) → All (Placed n) old → IfSome taken (λ f. old ≡ f ∷ new) → IfNone taken (new ≡ old) → All (Placed n) new
placed_taken n None old new placed some none = subst (All (Placed n)) (sym none) placed
placed_taken n (Some f) old new placed some none = placed_rest n f new (subst (All (Placed n)) some placed)

-- a further arrival is above all that were
pub placed_more : (n : ℕ) (es : List ((ℤ × ℕ) × Event)) → All (Placed n) es → All (Placed (n + 1)) es
placed_more n es placed = All-weaker (Placed n) (Placed (n + 1)) (λ x is. (is.0, omega (arith, is.1))) es placed
