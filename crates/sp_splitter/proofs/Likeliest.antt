-- The search for the child that is made: what one version could bear, and which of two comes first.
use Rattle.std.proofs.Common.{◌≡◌, ℕ, ◌+◌, ◌<◌, ◌≤◌, Bool, true, false, ◌==◌, cond, List, [], ◌∷◌, ◌++◌, length, get_or, nat_lt, nat_le, Option, Some, None, refl, sym, ap, subst, ◌∙◌, ◌⊎◌, inl, inr, arith, below_more}
use Rattle.std.specs.List.{All}
use Rattle.std.proofs.lemmas.Bool.Decides.{nat_tests}
use Rattle.std.proofs.lemmas.List.Elements.{All-head, All-tail}
use Rattle.sp_plan.specs.declared.plan.Plan.{Plan}
use Rattle.sp_plan.specs.Windows.{windows}
use Rattle.sp_plan.specs.WindowNumbers.{count}
use Rattle.sp_window.specs.Standing.{Kept}
use Rattle.sp_group.specs.Family.{entry_at}
use Rattle.sp_group.specs.Machine as machine
use Rattle.sp_group.specs.Machine.{version_at}
use Rattle.sp_version.specs.declared.version.Version.{Version}
use Rattle.sp_tree.specs.Grown.{Entry, Grown, LacksChild, is_open, kin, value_of}
use Rattle.sp_pick.specs.Picking.{IsNext, IsTaken, candidates_in, survival_of_child}
use Rattle.sp_core.specs.Holding.{version_of}
use Rattle.sp_core.specs.Running.{Running}
use Rattle.sp_core.specs.Showing.{IsTreeOf}
use Rattle.sp_core.proofs.Counts.{count_is}
use Rattle.sp_splitter.specs.declared.breeding.Born.{Born}
use Rattle.sp_splitter.specs.Breeding.{CanBear, ComesFirst}
use Rattle.sp_splitter.specs.Bearing.{BearsNone, BeatsOf, IsBorn, IsFoundAmong, IsFoundAmongAll, IsFoundFor, chosen, comes_before}
use Rattle.sp_splitter.proofs.Guessed.{HeldAt, held_at}
use Rattle.sp_splitter.proofs.Listed.{Shows, listed, shows, walked}

-- ---- the next label of a parent is one

-- a label that a child has is not free
taken_free : (es : List (Entry Version)) (p : ℕ) (label : List ℕ) → LacksChild es p label → IsTaken es p label → ⊥
taken_free [] p label lacks taken = let at = taken.1.1 in cc
taken_free (x ∷ es) p label lacks taken = one (taken_free es p label lacks.1) (x.version.id == taken.0) taken.1.1
  where
    one : (IsTaken es p label → ⊥) → (b : Bool) → cond b (Some x) (entry_at kin es taken.0) ≡ Some taken.1.0 → ⊥
    one rest true at =
        let same : x ≡ taken.1.0 = cc at in
        lacks.0 (ap (λ (y : Entry Version). y.version.parent) same ∙ taken.1.2, ap (λ (y : Entry Version). y.version.label) same ∙ taken.1.3)
    one rest false at = rest (taken.0, (taken.1.0, at, taken.1.2, taken.1.3))

module _ (es : List (Entry Version)) (p : ℕ) where
  in_middle : (before behind : List (List ℕ)) (label : List ℕ) → All (IsTaken es p) (before ++ label ∷ behind) → IsTaken es p label
  in_middle [] behind label all = All-head (IsTaken es p) label behind all
  in_middle (x ∷ before) behind label all = in_middle before behind label (All-tail (IsTaken es p) x (before ++ label ∷ behind) all)

  -- where each label is a child's none is next
  none_next : (labels : List (List ℕ)) (label : List ℕ) → IsNext es p labels None → IsNext es p labels (Some label) → ⊥
  none_next labels label all next =
      taken_free es p label next.free (in_middle next.before next.behind label (subst (All (IsTaken es p)) next.parts all))

  one_free : (xs ys us bs : List (List ℕ)) (a b : List ℕ) → xs ++ a ∷ us ≡ ys ++ b ∷ bs → All (IsTaken es p) xs → All (IsTaken es p) ys → LacksChild es p a → LacksChild es p b → a ≡ b
  one_free [] [] us bs a b same xs_taken ys_taken a_free b_free = cc same
  one_free [] (y ∷ ys) us bs a b same xs_taken ys_taken a_free b_free =
      let head : y ≡ a = cc same in
      absurd (taken_free es p a a_free (subst (IsTaken es p) head (All-head (IsTaken es p) y ys ys_taken)))
  one_free (x ∷ xs) [] us bs a b same xs_taken ys_taken a_free b_free =
      let head : x ≡ b = cc same in
      absurd (taken_free es p b b_free (subst (IsTaken es p) head (All-head (IsTaken es p) x xs xs_taken)))
  one_free (x ∷ xs) (y ∷ ys) us bs a b same xs_taken ys_taken a_free b_free =
      let tail : xs ++ a ∷ us ≡ ys ++ b ∷ bs = cc same in
      one_free xs ys us bs a b tail (All-tail (IsTaken es p) x xs xs_taken) (All-tail (IsTaken es p) y ys ys_taken) a_free b_free

  -- and two that are next are one
  one_next : (labels : List (List ℕ)) (a b : List ℕ) → IsNext es p labels (Some a) → IsNext es p labels (Some b) → a ≡ b
  one_next labels a b first then =
      one_free first.before then.before first.behind then.behind a b (sym first.parts ∙ then.parts) first.taken then.taken first.free then.free

-- ---- which of two comes first

by_tests : (s w p s' w' p' : ℕ) (x y : Bool) → (s == s') ≡ x → (w == w') ≡ y → cond x (cond y (nat_le p p') (nat_lt w w')) (nat_lt s' s) ≡ true → ComesFirst s w p s' w' p'
by_tests s w p s' w' p' true true a b h = inr (grind (arith, nat_tests), inr (grind (arith, nat_tests), grind (arith, nat_tests)))
by_tests s w p s' w' p' true false a b h = inr (grind (arith, nat_tests), inl (grind (arith, nat_tests)))
by_tests s w p s' w' p' false y a b h = inl (grind (arith, nat_tests))

by_no_tests : (s w p s' w' p' : ℕ) (x y : Bool) → (s == s') ≡ x → (w == w') ≡ y → cond x (cond y (nat_le p p') (nat_lt w w')) (nat_lt s' s) ≡ false → ComesFirst s' w' p' s w p
by_no_tests s w p s' w' p' true true a b h = inr (grind (arith, nat_tests), inr (grind (arith, nat_tests), grind (arith, nat_tests)))
by_no_tests s w p s' w' p' true false a b h = inr (grind (arith, nat_tests), inl (grind (arith, nat_tests)))
by_no_tests s w p s' w' p' false y a b h = inl (grind (arith, nat_tests))

first_then : (s w p s' w' p' s'' w'' p'' : ℕ) → ComesFirst s w p s' w' p' → ComesFirst s' w' p' s'' w'' p'' → ComesFirst s w p s'' w'' p''
first_then s w p s' w' p' s'' w'' p'' (inl a) (inl b) = inl (omega arith)
first_then s w p s' w' p' s'' w'' p'' (inl a) (inr b) = let e = b.0 in inl (omega arith)
first_then s w p s' w' p' s'' w'' p'' (inr a) (inl b) = let e = a.0 in inl (omega arith)
first_then s w p s' w' p' s'' w'' p'' (inr a) (inr b) = inr (a.0 ∙ b.0, later a.1 b.1)
  where
    later : (w < w') ⊎ ((w ≡ w') × (p ≤ p')) → (w' < w'') ⊎ ((w' ≡ w'') × (p' ≤ p'')) → (w < w'') ⊎ ((w ≡ w'') × (p ≤ p''))
    later (inl c) (inl d) = inl (omega arith)
    later (inl c) (inr d) = let e = d.0 in inl (omega arith)
    later (inr c) (inl d) = let e = c.0 in inl (omega arith)
    later (inr c) (inr d) = let e = c.1 in let f = d.1 in inr (c.0 ∙ d.0, omega arith)

-- ---- what one version could bear

-- as many windows are told as have begun
pub told_count : (c : Running) (w : Kept) → w.plan ≡ c.plan → (n : ℕ) → n ≡ length (windows w.plan c.machine.events c.machine.ended) → n ≡ count c.plan c.machine.events
told_count c w plan n is =
    is ∙ ap (λ (q : Plan). length (windows q c.machine.events c.machine.ended)) plan ∙ count_is c.plan c.machine.events c.machine.ended

module _ (c : Running) (t : Grown Version) (tree : IsTreeOf c t) (shares : ℕ → ℕ → ℕ) where
  -- the window behind the last one that has begun
  pub none_begun : (p : ℕ) (held : Version) → Some held ≡ value_of (entry_at kin t.entries p) → (n : ℕ) → n ≡ count c.plan c.machine.events → n ≤ held.window → BearsNone c t shares p
  none_begun p held is n all most v at begun =
      let h : HeldAt c t p held = held_at c t tree p held is in
      let own : Some (version_of h.entry) ≡ Some v = sym h.at ∙ at in
      let same : version_of h.entry ≡ v = cc in
      let window : v.window ≡ held.window = ap (λ (u : machine.Version). u.window) (sym same) ∙ ap (λ (u : Version). u.window) h.value in
      absurd (omega arith)

  pub born_of : (p : ℕ) (held : Version) → Some held ≡ value_of (entry_at kin t.entries p) → (n : ℕ) → n ≡ count c.plan c.machine.events → held.window < n
      → (next : Option (List ℕ)) (label : List ℕ) → next ≡ Some label → IsNext t.entries p (candidates_in shares t.entries p) next
      → All (λ run. is_open t p run ≡ true) label → (survival : ℕ) → survival ≡ survival_of_child shares t.entries p label
      → IsBorn c t shares (record { parent = p; label = label; survival = survival; window = held.window })
  born_of p held is n all low next label next_is is_next open_runs survival survival_is =
      let h : HeldAt c t p held = held_at c t tree p held is in
      let window : h.entry.value.window ≡ held.window = ap (λ (u : Version). u.window) h.value in
      record {
        can = record {
          parent = version_of h.entry;
          live = h.at;
          begun = omega arith;
          next = subst (IsNext t.entries p (candidates_in shares t.entries p)) next_is is_next;
        };
        survival = survival_is;
        window = sym window;
        open_runs = open_runs;
      }

  -- ---- the best so far

  no_bear : (p : ℕ) (its : List ℕ) → BearsNone c t shares p → CanBear c t shares p its → ⊥
  no_bear p its none bears = none_next t.entries p (candidates_in shares t.entries p) its (none bears.parent bears.live bears.begun) bears.next

  none_beats : (born : Born) (p : ℕ) → BearsNone c t shares p → BeatsOf c t shares born p
  none_beats born p none its bears = absurd (no_bear p its none bears)

  -- the child that comes before another comes before any that its parent could have
  beats : (a b : Born) → IsBorn c t shares b → ComesFirst a.survival a.window a.parent b.survival b.window b.parent → BeatsOf c t shares a b.parent
  beats a b born first its bears =
      let label : b.label ≡ its = one_next t.entries b.parent (candidates_in shares t.entries b.parent) b.label its born.can.next bears.next in
      let survival : b.survival ≡ survival_of_child shares t.entries b.parent its = born.survival ∙ ap (survival_of_child shares t.entries b.parent) label in
      let own : Some born.can.parent ≡ Some bears.parent = sym born.can.live ∙ bears.live in
      let same : born.can.parent ≡ bears.parent = cc in
      let window : b.window ≡ bears.parent.window = born.window ∙ ap (λ (u : machine.Version). u.window) same in
      subst (λ (w : ℕ). ComesFirst a.survival a.window a.parent (survival_of_child shares t.entries b.parent its) w b.parent) window
      (subst (λ (s : ℕ). ComesFirst a.survival a.window a.parent s b.window b.parent) survival first)

  beats_itself : (b : Born) → IsBorn c t shares b → BeatsOf c t shares b b.parent
  beats_itself b born = beats b b born (inr (refl, inr (refl, omega arith)))

  beats_then : (a b : Born) (p : ℕ) → ComesFirst a.survival a.window a.parent b.survival b.window b.parent → BeatsOf c t shares b p → BeatsOf c t shares a p
  beats_then a b p first then its bears =
      first_then a.survival a.window a.parent b.survival b.window b.parent (survival_of_child shares t.entries p its) bears.parent.window p first (then its bears)

  -- one version more
  pub found_more : (id : ℕ → ℕ) (n : ℕ) (best child : Option Born) → IsFoundAmong c t shares id n best → IsFoundFor c t shares (id n) child
      → IsFoundAmong c t shares id (n + 1) (chosen best child)
  found_more id n None None before here = below_more (λ k. BearsNone c t shares (id k)) n before here
  found_more id n None (Some b) before here =
      (here.0, below_more (λ k. BeatsOf c t shares b (id k)) n (λ k low. none_beats b (id k) (before k low)) (subst (BeatsOf c t shares b) here.1 (beats_itself b here.0)))
  found_more id n (Some a) None before here = (before.0, below_more (λ k. BeatsOf c t shares a (id k)) n before.1 (none_beats a (id n) here))
  found_more id n (Some a) (Some b) before here = one (comes_before a b) refl
    where
      one : (x : Bool) → comes_before a b ≡ x → IsFoundAmong c t shares id (n + 1) (cond x (Some a) (Some b))
      one true is =
          let first = by_tests a.survival a.window a.parent b.survival b.window b.parent (a.survival == b.survival) (a.window == b.window) refl refl is in
          (before.0, below_more (λ k. BeatsOf c t shares a (id k)) n before.1 (subst (BeatsOf c t shares a) here.1 (beats a b here.0 first)))
      one false is =
          let first = by_no_tests a.survival a.window a.parent b.survival b.window b.parent (a.survival == b.survival) (a.window == b.window) refl refl is in
          (here.0, below_more (λ k. BeatsOf c t shares b (id k)) n (λ k low. beats_then b a (id k) first (before.1 k low)) (subst (BeatsOf c t shares b) here.1 (beats_itself b here.0)))

  -- the place of a live version in a walk
  abbrev Place : List ℕ → ℕ → Type 0
  Place ids p = (k : ℕ) × (k < length ids) × (get_or ids k 0 ≡ p)

  place_of : (ids : List ℕ) → ids ≡ walked t.entries → (p : ℕ) (v : machine.Version) → version_at c.machine.versions p ≡ Some v → Place ids p
  place_of ids is p v at =
      let s : Shows c t p v = shows c t tree p v at in
      subst (λ (ns : List ℕ). Place ns p) (sym is) (listed t.entries p s.entry s.is)

  -- all versions
  pub found_all : (ids : List ℕ) → ids ≡ walked t.entries → (n : ℕ) → length ids ≤ n → (best : Option Born) → IsFoundAmong c t shares (λ k. get_or ids k 0) n best → IsFoundAmongAll c t shares best
  found_all ids is n most None found = λ p v at.
      let place = place_of ids is p v at in
      subst (BearsNone c t shares) place.2 (found place.0 (omega (arith, place.1))) v at
  found_all ids is n most (Some b) found = (record { can = born.can; first = first }, born)
    where
      born : IsBorn c t shares b
      born = found.0

      first : (other : ℕ) (its : List ℕ) (bears : CanBear c t shares other its)
          → ComesFirst (survival_of_child shares t.entries b.parent b.label) born.can.parent.window b.parent (survival_of_child shares t.entries other its) bears.parent.window other
      first other its bears =
          let place = place_of ids is other bears.parent bears.live in
          let beaten = subst (BeatsOf c t shares b) place.2 (found.1 place.0 (omega (arith, place.1))) its bears in
          subst (λ (w : ℕ). ComesFirst (survival_of_child shares t.entries b.parent b.label) w b.parent (survival_of_child shares t.entries other its) bears.parent.window other) born.window
          (subst (λ (s : ℕ). ComesFirst s b.window b.parent (survival_of_child shares t.entries other its) bears.parent.window other) born.survival beaten)
