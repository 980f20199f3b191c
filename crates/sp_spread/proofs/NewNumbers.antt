-- What is read on binds numbers of the events that are read, and no others: groups and matches gain these alone.
use Rattle.std.proofs.Common.{◌≡◌, ◌⊎◌, ℕ, zero, suc, ◌+◌, ◌≤◌, Bool, true, false, cond, not, ◌&&◌, ◌||◌, ◌==◌, List, [], ◌∷◌, ◌++◌, map, Option, Some, None, inl, inr, ⊎_elim, refl, sym, ap, ◌∙◌, subst, arith}
use Rattle.std.specs.Prelude.{⊤, slice_get}
use Rattle.std.specs.List.{filter, flat_map, fold, list_any}
use Rattle.std.proofs.lemmas.Bool.Decides.{nat_tests}
use Rattle.std.proofs.lemmas.List.{map-append}
use Rattle.std.proofs.lemmas.List.Elements.{filter-append}
use Rattle.std.proofs.lemmas.List.Folds.{list_any-append}
use Rattle.sp_base.specs.Numbers.{is_among}
use Rattle.sp_plan.specs.declared.event.Event.{Event}
use Rattle.sp_plan.specs.declared.plan.Plan.{Plan}
use Rattle.sp_plan.specs.Groups.{group, used_by}
use Rattle.sp_plan.specs.Moves.{Move, Opened, Grown, Completed, Abandoned, Acting, abandoned, acted, act_run, act_start, acting_on, apply, apply_all, completing, growing, handling_of, is_run, moves, pairs_of, with_pair, without_run}
use Rattle.sp_plan.specs.Reading.{after_event, event_of, read_one, reading}
use Rattle.sp_plan.specs.Runs.{Pair, Run, Started, State, after_closing, departs, holds_one, is_complete, is_consumed, may_start, takes, used}
use Rattle.sp_plan.specs.Windows.{Numbered}
use Rattle.sp_match.specs.public.Laws.{Sound}
use Rattle.sp_rules.specs.Lawful.{Lawful}
use Rattle.sp_rules.proofs.Lists.{and_both, and_left, and_right, or_cases, or_left, or_right}

-- a move binds no number below f
abbrev IsFrom : ℕ → Move → Type 0
IsFrom f Opened = ⊤
IsFrom f (Grown run pair) = f ≤ pair.number
IsFrom f (Completed run) = ⊤
IsFrom f (Abandoned run) = ⊤

abbrev AreFrom : ℕ → List Move → Type 0
AreFrom f [] = ⊤
AreFrom f (m ∷ ms) = IsFrom f m × AreFrom f ms

module _ (f : ℕ) where
  from_both : (ms ns : List Move) → AreFrom f ms → AreFrom f ns → AreFrom f (ms ++ ns)
  from_both [] ns first second = second
  from_both (m ∷ ms) ns first second = (first.0, from_both ms ns first.1 second)

  from_abandoned : (runs : List Started) → AreFrom f (map abandoned runs)
  from_abandoned [] = tt
  from_abandoned (run ∷ runs) = (tt, from_abandoned runs)

  module _ (q : Plan) where
    from_growing : (runs : List Started) (run : Started) (pair : Pair) → f ≤ pair.number → AreFrom f (growing q runs run pair)
    from_growing runs run pair low = (low, one (is_complete q (run.1 ++ pair ∷ [])))
      where
        one : (b : Bool) → AreFrom f (cond b (completing q runs (run.0, run.1 ++ pair ∷ [])) [])
        one true = (tt, from_abandoned (filter (λ other. holds_one (used q (run.1 ++ pair ∷ [])) other.1) (without_run run.0 runs)))
        one false = tt

    module _ (x : Numbered) (low : f ≤ x.0) where
      from_acted : (a : Acting) (run : Started) (o : Option ℕ) → AreFrom f a.moves → AreFrom f (acted q x a run o).moves
      from_acted a run (Some name) before =
          let pair : Pair = record { name = name; number = x.0; event = x.1 } in
          from_both a.moves (growing q a.now.open_runs run pair) before (from_growing a.now.open_runs run pair low)
      from_acted a run None before = one (departs q run.1 x.1)
        where
          one : (b : Bool) → AreFrom f (cond b (acting_on a (abandoned run ∷ []) []) a).moves
          one true = from_both a.moves (abandoned run ∷ []) before (tt, tt)
          one false = before

      from_run : (a : Acting) (run : Started) → AreFrom f a.moves → AreFrom f (act_run q x a run).moves
      from_run a run before = one (holds_one a.taken run.1) (is_among a.taken x.0)
        where
          one : (b c : Bool) → AreFrom f (cond b a (cond c a (acted q x a run (takes q run.1 x.1)))).moves
          one true c = before
          one false true = before
          one false false = from_acted a run (takes q run.1 x.1) before

      from_runs : (runs : List Started) (a : Acting) → AreFrom f a.moves → AreFrom f (fold (act_run q x) a runs).moves
      from_runs [] a before = before
      from_runs (run ∷ runs) a before = from_runs runs (act_run q x a run) (from_run a run before)

      from_start : (a : Acting) (o : Option ℕ) → AreFrom f a.moves → AreFrom f (act_start q x a o).moves
      from_start a None before = before
      from_start a (Some name) before =
          let pair : Pair = record { name = name; number = x.0; event = x.1 } in
          let opened = acting_on a (Opened ∷ []) [] in
          from_both opened.moves (growing q opened.now.open_runs (a.now.started + 1, []) pair) (from_both a.moves (Opened ∷ []) before (tt, tt))
          (from_growing opened.now.open_runs (a.now.started + 1, []) pair low)

      -- the moves of an event bind its own number alone
      from_event : (s : State) → AreFrom f (moves q s x)
      from_event s =
          let begun : Acting = record { moves = []; now = s; taken = [] } in
          let a = fold (act_run q x) begun s.open_runs in
          from_start a (cond (may_start q.select q s (handling_of a) x) (takes q [] x.1) None) (from_runs s.open_runs begun tt)

-- whether one of these runs has the number r, and binds the number i to a consumed name
abbrev holds_in : Plan → List Started → ℕ → ℕ → Bool
holds_in q runs r i = list_any (λ run. is_run r run && is_among (used q run.1) i) runs

module _ (q : Plan) where
  used_both : (a b : Run) (i : ℕ) → is_among (used q (a ++ b)) i ≡ (is_among (used q a) i || is_among (used q b) i)
  used_both a b i =
      let consumed : Pair → Bool = λ pair. is_consumed (slice_get q.names pair.name) in
      ap (λ (ns : List ℕ). is_among ns i)
      (ap (map (λ (pair : Pair). pair.number)) (filter-append consumed a b) ∙ map-append (λ (pair : Pair). pair.number) (filter consumed a) (filter consumed b))
      ∙ list_any-append (λ (m : ℕ). m == i) (used q a) (used q b)

  held_is : (runs : List Started) (r i : ℕ) → is_among (used q (pairs_of runs r)) i ≡ holds_in q runs r i
  held_is [] r i = refl
  held_is (x ∷ runs) r i = one (is_run r x) (held_is runs r i)
    where
      one : (b : Bool) → is_among (used q (pairs_of runs r)) i ≡ holds_in q runs r i
          → is_among (used q (flat_map (λ (run : Started). run.1) (cond b (x ∷ filter (is_run r) runs) (filter (is_run r) runs)))) i ≡ (b && is_among (used q x.1) i || holds_in q runs r i)
      one true rest = used_both x.1 (pairs_of runs r) i ∙ ap (λ (b : Bool). is_among (used q x.1) i || b) rest
      one false rest = rest

  -- some of the runs hold no more
  held_some : (p : Started → Bool) (runs : List Started) (r i : ℕ) → holds_in q (filter p runs) r i ≡ true → holds_in q runs r i ≡ true
  held_some p [] r i held = held
  held_some p (x ∷ runs) r i held = one (p x) held (held_some p runs r i)
    where
      here : Bool
      here = is_run r x && is_among (used q x.1) i

      one : (b : Bool) → holds_in q (cond b (x ∷ filter p runs) (filter p runs)) r i ≡ true → (holds_in q (filter p runs) r i ≡ true → holds_in q runs r i ≡ true)
          → (here || holds_in q runs r i) ≡ true
      one true held rest = ⊎_elim (λ (y : here ≡ true). or_left here (holds_in q runs r i) y)
          (λ (y : holds_in q (filter p runs) r i ≡ true). or_right here (holds_in q runs r i) (rest y))
          (or_cases here (holds_in q (filter p runs) r i) held)
      one false held rest = or_right here (holds_in q runs r i) (rest held)

  -- one pair binds its own number alone
  own_number : (pair : Pair) (i : ℕ) → is_among (used q (pair ∷ [])) i ≡ true → pair.number ≡ i
  own_number pair i held = one (is_consumed (slice_get q.names pair.name)) held
    where
      one : (b : Bool) → is_among (map (λ (p : Pair). p.number) (cond b (pair ∷ []) [])) i ≡ true → pair.number ≡ i
      one true held = grind (arith, nat_tests)
      one false held = absurd (cc)

  -- a run that takes a pair more gains the pair's number
  held_grown : (f n : ℕ) (pair : Pair) → f ≤ pair.number → (runs : List Started) (r i : ℕ) → holds_in q (map (with_pair n pair) runs) r i ≡ true → (holds_in q runs r i ≡ true) ⊎ (f ≤ i)
  held_grown f n pair low [] r i held = absurd (cc)
  held_grown f n pair low (x ∷ runs) r i held = ⊎_elim
      (λ (y : (is_run r (with_pair n pair x) && is_among (used q (with_pair n pair x).1) i) ≡ true). grown (is_run n x) y)
      (λ (y : holds_in q (map (with_pair n pair) runs) r i ≡ true). ⊎_elim (λ (z : holds_in q runs r i ≡ true). inl (or_right here (holds_in q runs r i) z)) (λ (z : f ≤ i). inr z)
      (held_grown f n pair low runs r i y))
      (or_cases (is_run r (with_pair n pair x) && is_among (used q (with_pair n pair x).1) i) (holds_in q (map (with_pair n pair) runs) r i) held)
    where
      here : Bool
      here = is_run r x && is_among (used q x.1) i

      own : is_run r x ≡ true → is_among (used q (x.1 ++ pair ∷ [])) i ≡ true → ((here || holds_in q runs r i) ≡ true) ⊎ (f ≤ i)
      own is among = ⊎_elim
          (λ (y : is_among (used q x.1) i ≡ true). inl (or_left here (holds_in q runs r i) (and_both (is_run r x) (is_among (used q x.1) i) is y)))
          (λ (y : is_among (used q (pair ∷ [])) i ≡ true). let same = own_number pair i y in inr (omega arith))
          (or_cases (is_among (used q x.1) i) (is_among (used q (pair ∷ [])) i) (sym (used_both x.1 (pair ∷ []) i) ∙ among))

      grown : (b : Bool) → (is_run r (cond b (x.0, x.1 ++ pair ∷ []) x) && is_among (used q (cond {A = Started} b (x.0, x.1 ++ pair ∷ []) x).1) i) ≡ true → ((here || holds_in q runs r i) ≡ true) ⊎ (f ≤ i)
      grown true y = own (and_left (is_run r x) (is_among (used q (x.1 ++ pair ∷ [])) i) y) (and_right (is_run r x) (is_among (used q (x.1 ++ pair ∷ [])) i) y)
      grown false y = inl (or_left here (holds_in q runs r i) y)

  -- On the way from the runs s to the runs t each number that a group gains is f at least; and each that a match used, it used before, or
  -- its run had it in its group, or it is f at least.
  pub record BindsFrom (f : ℕ) (s t : State) : Type 0 where
    pub groups : (r i : ℕ) → is_among (group q t r) i ≡ true → (is_among (group q s r) i ≡ true) ⊎ (f ≤ i)
    pub used_up : (r i : ℕ) → is_among (used_by q t r) i ≡ true → (is_among (used_by q s r) i ≡ true) ⊎ (is_among (group q s r) i ≡ true) ⊎ (f ≤ i)

  binds_same : (f : ℕ) (s : State) → BindsFrom f s s
  binds_same f s = record { groups = λ r i among. inl among; used_up = λ r i among. inl among }

  -- no run is open any more
  binds_none : (f : ℕ) (s t : State) → BindsFrom f s t → BindsFrom f s (after_closing t)
  binds_none f s t b = record { groups = λ r i among. absurd (cc); used_up = b.used_up }

  binds_on : (f : ℕ) (s t u : State) → BindsFrom f s t → BindsFrom f t u → BindsFrom f s u
  binds_on f s t u first second = record {
    groups = λ r i among. ⊎_elim (λ (y : is_among (group q t r) i ≡ true). first.groups r i y) (λ (y : f ≤ i). inr y) (second.groups r i among);
    used_up = λ r i among. ⊎_elim (λ (y : is_among (used_by q t r) i ≡ true). first.used_up r i y)
        (λ (y : (is_among (group q t r) i ≡ true) ⊎ (f ≤ i)). ⊎_elim
        (λ (z : is_among (group q t r) i ≡ true). ⊎_elim (λ (w : is_among (group q s r) i ≡ true). inr (inl w)) (λ (w : f ≤ i). inr (inr w)) (first.groups r i z))
        (λ (z : f ≤ i). inr (inr z)) y)
        (second.used_up r i among);
  }

  -- what is said of runs by what they hold
  by_held : (f : ℕ) (s t : State) → ((r i : ℕ) → holds_in q t.open_runs r i ≡ true → (holds_in q s.open_runs r i ≡ true) ⊎ (f ≤ i))
      → ((r i : ℕ) → holds_in q t.matched r i ≡ true → (holds_in q s.matched r i ≡ true) ⊎ (holds_in q s.open_runs r i ≡ true)) → BindsFrom f s t
  by_held f s t open_runs matched = record {
    groups = λ r i among. ⊎_elim (λ (y : holds_in q s.open_runs r i ≡ true). inl (held_is s.open_runs r i ∙ y)) (λ (y : f ≤ i). inr y)
        (open_runs r i (sym (held_is t.open_runs r i) ∙ among));
    used_up = λ r i among. ⊎_elim (λ (y : holds_in q s.matched r i ≡ true). inl (held_is s.matched r i ∙ y)) (λ (y : holds_in q s.open_runs r i ≡ true). inr (inl (held_is s.open_runs r i ∙ y)))
        (matched r i (sym (held_is t.matched r i) ∙ among));
  }

  binds_moved : (f : ℕ) (s : State) (m : Move) → IsFrom f m → BindsFrom f s (apply s m)
  binds_moved f s Opened from = by_held f s (apply s Opened)
      (λ r i held. ⊎_elim (λ (y : holds_in q s.open_runs r i ≡ true). inl y) (λ (y : holds_in q ((s.started + 1, []) ∷ []) r i ≡ true). absurd (empty ((s.started + 1) == r) y))
      (or_cases (holds_in q s.open_runs r i) (holds_in q ((s.started + 1, []) ∷ []) r i)
      (sym (list_any-append (λ (run : Started). is_run r run && is_among (used q run.1) i) s.open_runs ((s.started + 1, []) ∷ [])) ∙ held)))
      (λ r i held. inl held)
    where
      empty : (b : Bool) → (b && false || false) ≡ true → ⊥
      empty true h = cc
      empty false h = cc
  binds_moved f s (Grown n pair) from = by_held f s (apply s (Grown n pair)) (λ r i held. held_grown f n pair from s.open_runs r i held) (λ r i held. inl held)
  binds_moved f s (Completed n) from = by_held f s (apply s (Completed n)) (λ r i held. inl (held_some (λ run. not (is_run n run)) s.open_runs r i held))
      (λ r i held. ⊎_elim (λ (y : holds_in q s.matched r i ≡ true). inl y) (λ (y : holds_in q (filter (is_run n) s.open_runs) r i ≡ true). inr (held_some (is_run n) s.open_runs r i y))
      (or_cases (holds_in q s.matched r i) (holds_in q (filter (is_run n) s.open_runs) r i)
      (sym (list_any-append (λ (run : Started). is_run r run && is_among (used q run.1) i) s.matched (filter (is_run n) s.open_runs)) ∙ held)))
  binds_moved f s (Abandoned n) from = by_held f s (apply s (Abandoned n)) (λ r i held. inl (held_some (λ run. not (is_run n run)) s.open_runs r i held)) (λ r i held. inl held)

  binds_all : (f : ℕ) (s : State) (ms : List Move) → AreFrom f ms → BindsFrom f s (apply_all s ms)
  binds_all f s [] from = binds_same f s
  binds_all f s (m ∷ ms) from = binds_on f s (apply s m) (apply_all (apply s m) ms) (binds_moved f s m from.0) (binds_all f (apply s m) ms from.1)

  module _ (law : Lawful q) where
    binds_event : (f : ℕ) (s : State) (number : ℕ) (o : Option Event) → f ≤ number → Sound s → BindsFrom f s (after_event q s number o)
    binds_event f s number None low sound = binds_same f s
    binds_event f s number (Some e) low sound =
        subst (BindsFrom f s) (law.runs.event_by_moves q s (number, e) sound.ordered) (binds_all f s (moves q s (number, e)) (from_event f q (number, e) low s))

    binds_one : (events : List Event) (skipped : List ℕ) (f : ℕ) (s : State) (number : ℕ) → f ≤ number → Sound s → BindsFrom f s (read_one q events skipped s number)
    binds_one events skipped f s number low sound = one (is_among skipped number)
      where
        one : (b : Bool) → BindsFrom f s (cond b s (after_event q s number (event_of events number)))
        one true = binds_same f s
        one false = binds_event f s number (event_of events number) low sound

    -- Reading on from the first n events binds the numbers behind them, and no others.
    pub binds_reading : (events : List Event) (skipped : List ℕ) (first n k : ℕ) → BindsFrom (first + n) (reading q events skipped first n) (reading q events skipped first (n + k))
    binds_reading events skipped first n zero =
        let at : n ≡ n + 0 = omega arith in
        subst (λ (m : ℕ). BindsFrom (first + n) (reading q events skipped first n) (reading q events skipped first m)) at (binds_same (first + n) (reading q events skipped first n))
    binds_reading events skipped first n (suc k) =
        let s = reading q events skipped first n in
        let t = reading q events skipped first (n + k) in
        let at : suc (n + k) ≡ n + suc k = omega arith in
        subst (λ (m : ℕ). BindsFrom (first + n) s (reading q events skipped first m)) at
        (binds_on (first + n) s t (reading q events skipped first (suc (n + k))) (binds_reading events skipped first n k)
        (binds_one events skipped (first + n) t (first + (n + k)) (omega arith) (law.runs.readings.sound events skipped first (n + k))))

    -- and so does the closing behind them
    pub binds_closing : (events : List Event) (skipped : List ℕ) (first n k : ℕ) → BindsFrom (first + n) (reading q events skipped first n) (after_closing (reading q events skipped first (n + k)))
    binds_closing events skipped first n k =
        binds_none (first + n) (reading q events skipped first n) (reading q events skipped first (n + k)) (binds_reading events skipped first n k)

  -- a number that matches used is one that the match of a run used
  pub used_by_run : (runs : List Started) (i : ℕ) → is_among (flat_map (used q) (map (λ (run : Started). run.1) runs)) i ≡ true → (r : ℕ) × (is_among (used q (pairs_of runs r)) i ≡ true)
  used_by_run [] i among = absurd (cc)
  used_by_run (x ∷ runs) i among =
      let rest = flat_map (used q) (map (λ (run : Started). run.1) runs) in
      ⊎_elim
      (λ (y : is_among (used q x.1) i ≡ true). (
        x.0,
        held_is (x ∷ runs) x.0 i ∙ or_left (is_run x.0 x && is_among (used q x.1) i) (holds_in q runs x.0 i)
            (and_both (x.0 == x.0) (is_among (used q x.1) i) (grind (arith, nat_tests)) y),
      ))
      (λ (y : is_among rest i ≡ true).
      let later = used_by_run runs i y in
      (later.0, held_is (x ∷ runs) later.0 i ∙ or_right (is_run later.0 x && is_among (used q x.1) i) (holds_in q runs later.0 i) (sym (held_is runs later.0 i) ∙ later.1)))
      (or_cases (is_among (used q x.1) i) (is_among rest i) (sym (list_any-append (λ (m : ℕ). m == i) (used q x.1) rest) ∙ among))

  -- and the other way round
  pub used_by_any : (runs : List Started) (r i : ℕ) → is_among (used q (pairs_of runs r)) i ≡ true → is_among (flat_map (used q) (map (λ (run : Started). run.1) runs)) i ≡ true
  used_by_any runs r i among = held_any runs (sym (held_is runs r i) ∙ among)
    where
      held_any : (runs : List Started) → holds_in q runs r i ≡ true → is_among (flat_map (used q) (map (λ (run : Started). run.1) runs)) i ≡ true
      held_any [] held = absurd (cc)
      held_any (x ∷ runs) held =
          let rest = flat_map (used q) (map (λ (run : Started). run.1) runs) in
          list_any-append (λ (m : ℕ). m == i) (used q x.1) rest
          ∙ ⊎_elim
          (λ (y : (is_run r x && is_among (used q x.1) i) ≡ true). or_left (is_among (used q x.1) i) (is_among rest i) (and_right (is_run r x) (is_among (used q x.1) i) y))
          (λ (y : holds_in q runs r i ≡ true). or_right (is_among (used q x.1) i) (is_among rest i) (held_any runs y))
          (or_cases (is_run r x && is_among (used q x.1) i) (holds_in q runs r i) held)
