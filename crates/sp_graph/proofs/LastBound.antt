-- The last event of each name stands for all that a match binds.
use Rattle.std.proofs.Common.{◌≡◌, ℕ, ℤ, ◌+◌, ◌<◌, Bool, true, false, ◌==◌, List, [], ◌∷◌, ◌++◌, length, get_or, take, map, Option, Some, None, refl, sym, ◌∙◌, ap, subst}
use Rattle.std.specs.Prelude.{neg_ℤ, ◌+ℤ◌, ◌-ℤ◌, ◌*ℤ◌, ◌^◌, pos, filter, slice_get, ◌-◌}
use Rattle.std.specs.List.{All, filter_map, flat_map, last_or, zip}
use Rattle.std.specs.Option.{option_map, option_to_list}
use Rattle.std.proofs.lemmas.List.{take_more}
use Rattle.std.proofs.lemmas.Option.{slice_get_within, get_or_from_slice_get}
use Rattle.std.proofs.lemmas.List.Elements.{All-nil, All-cons, All-head, All-tail, All-get_or, filter-append, filter_map-append}
use Rattle.sp_plan.specs.declared.event.Event.{Event}
use Rattle.sp_plan.specs.declared.plan.Column.{Column}
use Rattle.sp_plan.specs.declared.plan.Expr.{Expr, Literal, Word, Column as At, Earlier, Raise', Minus', Add', Sub', Mul'}
use Rattle.sp_plan.specs.Bounds.{AllSmall, IsSmall}
use Rattle.sp_plan.specs.Values.{BoundEvents, earlier_column, last_bound, value}
use Rattle.sp_graph.specs.Derived.{bound_to, given, given_in, nothing, numbered_event, value_of}
use Rattle.sp_graph.specs.Tables.{last_event, last_bound_to, last_of_each}

-- ---- one name more

module _ (events : List Event) (items : List (ℕ × List ℕ)) (i : ℕ) (pair : ℕ × List ℕ) (before after : BoundEvents) (inside : i < length items)
    (here : pair ≡ get_or items i pair) (is : before ≡ last_of_each events (take i items)) where
  grown : last_of_each events (take (i + 1) items) ≡ before ++ filter_map (last_bound_to events) (pair ∷ [])
  grown =
      ap (last_of_each events) (take_more items i pair inside ∙ ap (λ (x : ℕ × List ℕ). take i items ++ x ∷ []) (sym here))
      ∙ filter_map-append (last_bound_to events) (take i items) (pair ∷ []) ∙ ap (λ (l : BoundEvents). l ++ filter_map (last_bound_to events) (pair ∷ [])) (sym is)

  -- whose last event is bound
  pub one_bound : (e : Event) → last_event events pair.1 ≡ Some e → after ≡ before ++ (pair.0, e) ∷ [] → after ≡ last_of_each events (take (i + 1) items)
  one_bound e last put = put ∙ sym (grown ∙ rw last refl)

  -- none of whose events is there
  pub none_bound : last_event events pair.1 ≡ None → after ≡ before → after ≡ last_of_each events (take (i + 1) items)
  none_bound last same = same ∙ sym (grown ∙ rw last (append_nil before))
    where
      append_nil : (l : BoundEvents) → l ++ [] ≡ l
      append_nil [] = refl
      append_nil (x ∷ l) = ap (λ (m : BoundEvents). x ∷ m) (append_nil l)

-- ---- the last of a name is the same

last_or-append : {X : Type 0} (o : Option X) (xs ys : List X) → last_or o (xs ++ ys) ≡ last_or (last_or o xs) ys
last_or-append o [] ys = refl
last_or-append o (x ∷ xs) ys = last_or-append (Some x) xs ys

-- what an item gives comes first
held_in : {X Y : Type 0} (f : X → Option Y) (x : X) (xs : List X) → filter_map f (x ∷ xs) ≡ option_to_list (f x) ++ filter_map f xs
held_in f x xs = by (f x) refl
  where
    by : (o : Option _) → f x ≡ o → filter_map f (x ∷ xs) ≡ option_to_list (f x) ++ filter_map f xs
    by None is = rw is refl
    by (Some y) is = rw is refl

held_map : {X Y : Type 0} (f : X → Y) (o : Option X) → option_to_list (option_map f o) ≡ map f (option_to_list o)
held_map f None = refl
held_map f (Some x) = refl

module _ {X Y : Type 0} (f : X → Y) (p : Y → Bool) where
  all_kept : ((x : X) → p (f x) ≡ true) → (xs : List X) → filter p (map f xs) ≡ map f xs
  all_kept passes [] = refl
  all_kept passes (x ∷ xs) = rw (passes x) (ap (λ (l : List Y). f x ∷ l) (all_kept passes xs))

  none_kept : ((x : X) → p (f x) ≡ false) → (xs : List X) → filter p (map f xs) ≡ []
  none_kept fails [] = refl
  none_kept fails (x ∷ xs) = rw (fails x) (none_kept fails xs)

  last_alone : (o : Option Y) (x : X) (xs : List X) → last_or (Some (f x)) (map f xs) ≡ last_or o (map f (option_to_list (last_or (Some x) xs)))
  last_alone o x [] = refl
  last_alone o x (y ∷ xs) = last_alone o y xs

  last_or_none : (o : Option Y) (xs : List X) → last_or o (map f xs) ≡ last_or o (map f (option_to_list (last_or None xs)))
  last_or_none o [] = refl
  last_or_none o (x ∷ xs) = last_alone o x xs

  -- of things that all pass a test, or all don't, the last one stands for all
  last_stands : (b : Bool) → ((x : X) → p (f x) ≡ b) → (o : Option Y) (xs : List X) → last_or o (filter p (map f xs)) ≡ last_or o (filter p (map f (option_to_list (last_or None xs))))
  last_stands true passes o xs =
      ap (last_or o) (all_kept passes xs) ∙ last_or_none o xs ∙ sym (ap (last_or o) (all_kept passes (option_to_list (last_or None xs))))
  last_stands false fails o xs = ap (last_or o) (none_kept fails xs) ∙ sym (ap (last_or o) (none_kept fails (option_to_list (last_or None xs))))

module _ (events : List Event) (name : ℕ) where
  abbrev own : ℕ × Event → Bool
  own pair = pair.0 == name

  one_name : (o : Option (ℕ × Event)) (pair : ℕ × List ℕ) → last_or o (filter own (bound_to events pair)) ≡ last_or o (filter own (option_to_list (last_bound_to events pair)))
  one_name o pair =
      last_stands (λ (e : Event). (pair.0, e)) own (pair.0 == name) (λ e. refl) o (filter_map (numbered_event events) pair.1)
      ∙ ap (λ (l : BoundEvents). last_or o (filter own l)) (sym (held_map (λ (e : Event). (pair.0, e)) (last_event events pair.1)))

  each_name : (o : Option (ℕ × Event)) (bound : List (ℕ × List ℕ)) → last_or o (filter own (flat_map (bound_to events) bound)) ≡ last_or o (filter own (last_of_each events bound))
  each_name o [] = refl
  each_name o (pair ∷ bound) =
      ap (last_or o) (filter-append own (bound_to events pair) (flat_map (bound_to events) bound))
      ∙ last_or-append o (filter own (bound_to events pair)) (filter own (flat_map (bound_to events) bound))
      ∙ ap (λ (u : Option (ℕ × Event)). last_or u (filter own (flat_map (bound_to events) bound))) (one_name o pair)
      ∙ each_name (last_or o (filter own (option_to_list (last_bound_to events pair)))) bound
      ∙ sym (last_or-append o (filter own (option_to_list (last_bound_to events pair))) (filter own (last_of_each events bound)))
      ∙ sym (ap (last_or o) (filter-append own (option_to_list (last_bound_to events pair)) (last_of_each events bound)))
      ∙ sym (ap (λ (l : BoundEvents). last_or o (filter own l)) (held_in (last_bound_to events) pair bound))

-- a name has the same last event
pub last_is : (events : List Event) (bound : List (ℕ × List ℕ)) (name : ℕ) → last_bound name (flat_map (bound_to events) bound) ≡ last_bound name (last_of_each events bound)
last_is events bound name = each_name events name None bound

-- ---- so expressions come to the same

module _ (e : Event) (b d : BoundEvents) (same : (name : ℕ) → last_bound name b ≡ last_bound name d) where
  value_same : (expr : Expr) → value expr e b ≡ value expr e d
  value_same (Literal n) = refl
  value_same (Word s) = refl
  value_same (At c) = refl
  value_same (Earlier name c) = ap (λ (o : Option (ℕ × Event)). earlier_column o c) (same name)
  value_same (Raise' by p inner) = ap (λ (n : ℤ). n *ℤ pos (10 ^ by)) (value_same inner)
  value_same (Minus' p inner) = ap neg_ℤ (value_same inner)
  value_same (Add' p left q right) = (λ j. value_same left j +ℤ value_same right j)
  value_same (Sub' p left q right) = (λ j. value_same left j -ℤ value_same right j)
  value_same (Mul' p left q right) = (λ j. value_same left j *ℤ value_same right j)

given_same : (b d : BoundEvents) → ((name : ℕ) → last_bound name b ≡ last_bound name d) → (pairs : List (Column × Expr)) → map (given_in b) pairs ≡ map (given_in d) pairs
given_same b d same [] = refl
given_same b d same (pair ∷ pairs) = (λ j. value_of pair.0.kind (value_same nothing b d same pair.1 j) ∷ given_same b d same pairs j)

-- the last events of the names give what all events that a match binds give
pub given_by_last : (cs : List Column) (rs : List Expr) (events : List Event) (bound : List (ℕ × List ℕ))
    → given cs rs (last_of_each events bound) ≡ given cs rs (flat_map (bound_to events) bound)
given_by_last cs rs events bound = given_same (last_of_each events bound) (flat_map (bound_to events) bound) (λ name. sym (last_is events bound name)) (zip cs rs)

-- ---- and they are small

module _ {X : Type 0} (P : X → Type 0) where
  pub last_holds : (o : Option X) (xs : List X) (x : X) → ((y : X) → o ≡ Some y → P y) → All P xs → last_or o xs ≡ Some x → P x
  last_holds o [] x first all is = first x is
  last_holds o (y ∷ xs) x first all is = last_holds (Some y) xs x (λ z same. subst P (cc same) (All-head P y xs all)) (All-tail P y xs all) is

  pub found_hold : (xs : List X) (ns : List ℕ) → All P xs → All P (filter_map (λ n. slice_get xs (n - 1)) ns)
  found_hold xs [] all = All-nil P
  found_hold xs (n ∷ ns) all = by (slice_get xs (n - 1)) refl (found_hold xs ns all)
    where
      by : (o : Option X) → slice_get xs (n - 1) ≡ o → All P (filter_map (λ n. slice_get xs (n - 1)) ns) → All P (filter_map (λ n. slice_get xs (n - 1)) (n ∷ ns))
      by None is rest = rw is rest
      by (Some x) is rest =
          let inside = slice_get_within xs (n - 1) x is in
          let there : P x = subst P (get_or_from_slice_get xs (n - 1) x x is) (All-get_or P xs (n - 1) x inside all) in
          rw is (All-cons P x (filter_map (λ n. slice_get xs (n - 1)) ns) there rest)

pub last_small : (events : List Event) → All IsSmall events → (bound : List (ℕ × List ℕ)) → AllSmall (last_of_each events bound)
last_small events small [] = All-nil (λ (pair : ℕ × Event). IsSmall pair.1)
last_small events small (pair ∷ bound) = by (last_event events pair.1) refl (last_small events small bound)
  where
    by : (o : Option Event) → last_event events pair.1 ≡ o → AllSmall (last_of_each events bound) → AllSmall (last_of_each events (pair ∷ bound))
    by None is rest = rw is rest
    by (Some e) is rest =
        let own : IsSmall e = last_holds IsSmall None (filter_map (numbered_event events) pair.1) e (λ y none. absurd (cc none)) (found_hold IsSmall events pair.1 small) is in
        rw is (All-cons (λ (own : ℕ × Event). IsSmall own.1) (pair.0, e) (last_of_each events bound) own rest)
