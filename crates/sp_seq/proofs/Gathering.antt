-- What holds while the events of a window are gone through.
use Rattle.std.proofs.Common.{◌≡◌, ℕ, ◌+◌, ◌-◌, ◌<◌, ◌≤◌, Bool, true, false, not, List, [], ◌∷◌, ◌++◌, length, get_or, take, drop, map, refl, sym, ◌∙◌, ap, subst, arith, append_assoc, length-append}
use Rattle.std.specs.Prelude.{filter, slice_range}
use Rattle.std.specs.List.{All, enumerate_from}
use Rattle.std.proofs.lemmas.List.{take_more, get_or-drop, length-drop, append-nil, length-map}
use Rattle.std.proofs.lemmas.List.Elements.{filter-append, All-weaker, All-nil}
use Rattle.std.proofs.lemmas.List.Sums.{fold_push}
use Rattle.std.proofs.lemmas.List.FromFn.{length-enumerate_from, get_or-enumerate_from}
use Rattle.sp_base.specs.Numbers.{is_among}
use Rattle.sp_plan.specs.declared.event.Event.{Event}
use Rattle.sp_plan.specs.declared.plan.Plan.{Plan}
use Rattle.sp_plan.specs.declared.found.Match.{Match}
use Rattle.sp_plan.specs.Windows.{Numbered, numbered}
use Rattle.sp_plan.specs.Runs.{Pair, Started, State, handle, state, fresh}
use Rattle.sp_plan.specs.Moves.{Told, told, moves}
use Rattle.sp_plan.specs.Sequential.{match_of}
use Rattle.sp_match.specs.public.Laws.{RunsAreSound, CompletionsAreMatches, Below, completion, is_completion}
use Rattle.sp_match.specs.public.Matching.{Matching, Stands, runs_of}
use Rattle.sp_seq.specs.Marked.{IsMarked}
use Rattle.sp_seq.specs.Unconsumed.{unconsumed}
use Rattle.sp_seq.specs.Completed.{match_told, matches_told, with_matches}

-- the matches of runs that matched are those that their completions tell of
matches_are_told : (q : Plan) (window first : ℕ) (runs : List Started) → map (match_of q window) (enumerate_from first (map (λ (run : Started). run.1) runs)) ≡ matches_told window first (map (completion q) runs)
matches_are_told q window first [] = refl
matches_are_told q window first (run ∷ runs) = ap (λ l. match_of q window (first, run.1) ∷ l) (matches_are_told q window (first + 1) runs)

-- completions one after another
pub told_append : (window first : ℕ) (xs ys : List Told) → matches_told window first (xs ++ ys) ≡ matches_told window first xs ++ matches_told window (first + length xs) ys
told_append window first [] ys = let at : first ≡ first + 0 = omega arith in ap (λ (n : ℕ). matches_told window n ys) at
told_append window first (x ∷ xs) ys =
    let at : first + 1 + length xs ≡ first + length (x ∷ xs) = omega arith in
    ap (λ l. match_told window first x ∷ l) (told_append window (first + 1) xs ys ∙ ap (λ (n : ℕ). matches_told window (first + 1) xs ++ matches_told window n ys) at)

module _ (completions : CompletionsAreMatches) (sound : RunsAreSound) (q : Plan) where
  -- one event more adds the matches that its completions tell of
  more_matches : (window : ℕ) (old ms ms' : List Match) (visible : List Numbered) (x : Numbered) → ms ≡ with_matches q window old (state q visible)
      → ms' ≡ ms ++ matches_told window (length ms + 1) (filter is_completion (told q (state q visible) (moves q (state q visible) x))) → ms' ≡ with_matches q window old (handle q (state q visible) x)
  more_matches window old ms ms' visible x is added =
      let s = state q visible in
      let first = length old + 1 in
      let done = map (completion q) s.matched in
      let new = filter is_completion (told q s (moves q s x)) in
      let now : ms ≡ old ++ matches_told window first done = is ∙ ap (λ (l : List Match). old ++ l) (matches_are_told q window first s.matched) in
      let count : length ms + 1 ≡ first + length done =
      omega (arith, ap length now, length-append old (matches_told window first done), length-map (enumerate_from first done) (λ pair. match_told window pair.0 pair.1), length-enumerate_from first done) in
      let both : map (completion q) (handle q s x).matched ≡ done ++ new = completions q s x (sound.visible q visible).ordered in
      added ∙ ap (λ (n : ℕ). ms ++ matches_told window n new) count ∙ ap (λ (l : List Match). l ++ matches_told window (first + length done) new) now
      ∙ append_assoc old (matches_told window first done) (matches_told window (first + length done) new)
      ∙ ap (λ (l : List Match). old ++ l) (sym (told_append window first done new) ∙ ap (matches_told window first) (sym both) ∙ sym (matches_are_told q window first (handle q s x).matched))

-- an event that is not consumed
abbrev pub is_left : List ℕ → Numbered → Bool
is_left consumed x = not (is_among consumed x.0)

-- the events of a part that is one place longer
range_more : (events : List Event) (first i : ℕ) (d : Event) → first ≤ i → i < length events → slice_range (numbered events) first (i + 1) ≡ slice_range (numbered events) first i ++ (i + 1, get_or events i d) ∷ []
range_more events first i d from within =
    let x : Numbered = (0, d) in
    let one : i + 1 - first ≡ i - first + 1 = omega arith in
    let at : first + (i - first) ≡ i = omega arith in
    let size : length (drop first (numbered events)) ≡ length events - first = length-drop first (numbered events) ∙ ap (λ (n : ℕ). n - first) (length-enumerate_from 1 events) in
    let number : 1 + i ≡ i + 1 = omega arith in
    ap (λ (n : ℕ). take n (drop first (numbered events))) one
    ∙ take_more (drop first (numbered events)) (i - first) x (omega (arith, size))
    ∙ ap (λ (y : Numbered). slice_range (numbered events) first i ++ y ∷ [])
    (get_or-drop first (numbered events) (i - first) x ∙ ap (λ (n : ℕ). get_or (numbered events) n x) at ∙ get_or-enumerate_from 1 events i x within ∙ ap (λ (n : ℕ). (n, get_or events i d)) number)

-- What holds before the event at place i of a window, for all numbers that the flags may mark: the matcher stands for the events
-- gone through, and the matches are those of their runs.
pub record Gathered (q : Plan) (window : ℕ) (events : List Event) (first : ℕ) (old : List Match) (flags : List Bool) (i : ℕ) (m : Matching) (ms : List Match) : Type 0 where
  pub stands : (before : List ℕ) → IsMarked before flags → Stands m (state q (unconsumed before events first i))
  pub matches_are : (before : List ℕ) → IsMarked before flags → ms ≡ with_matches q window old (state q (unconsumed before events first i))

-- at first nothing was gone through
pub gathered_none : (q : Plan) (window : ℕ) (events : List Event) (first : ℕ) (old : List Match) (flags : List Bool) (m : Matching) → m.open_runs ≡ [] → m.started ≡ 0 → Gathered q window events first old flags first m old
gathered_none q window events first old flags m none zero = record {
  stands = λ before marked. rw (nothing before) (record { open_is = none; started_is = zero });
  matches_are = λ before marked. rw (nothing before) (sym (append-nil old));
}
  where
    nothing : (consumed : List ℕ) → state q (unconsumed consumed events first first) ≡ fresh
    nothing consumed = let none : first - first ≡ 0 = omega arith in rw none

module _ {q : Plan} {window : ℕ} {events : List Event} {first : ℕ} {old : List Match} {flags : List Bool} {i : ℕ} {m : Matching} {ms : List Match}
    (gathered : Gathered q window events first old flags i m ms) (from : first ≤ i) (within : i < length events) (same : length flags ≡ length events) (d event : Event) (is : event ≡ get_or events i d) where
  -- the events seen, one place on
  seen_more : (consumed : List ℕ) → unconsumed consumed events first (i + 1) ≡ unconsumed consumed events first i ++ filter (is_left consumed) ((i + 1, event) ∷ [])
  seen_more consumed =
      ap (filter (is_left consumed)) (range_more events first i d from within)
      ∙ filter-append (is_left consumed) (slice_range (numbered events) first i) ((i + 1, get_or events i d) ∷ [])
      ∙ ap (λ (e : Event). unconsumed consumed events first i ++ filter (is_left consumed) ((i + 1, e) ∷ [])) (sym is)

  -- a consumed event changes nothing
  same_state : (consumed : List ℕ) → is_among consumed (i + 1) ≡ true → state q (unconsumed consumed events first (i + 1)) ≡ state q (unconsumed consumed events first i)
  same_state consumed gone =
      let seen : unconsumed consumed events first (i + 1) ≡ unconsumed consumed events first i ++ [] = rw gone at (seen_more consumed) in
      ap (state q) (seen ∙ append-nil (unconsumed consumed events first i))

  -- any other is handled
  next_state : (consumed : List ℕ) → is_among consumed (i + 1) ≡ false → state q (unconsumed consumed events first (i + 1)) ≡ handle q (state q (unconsumed consumed events first i)) (i + 1, event)
  next_state consumed there =
      let seen : unconsumed consumed events first (i + 1) ≡ unconsumed consumed events first i ++ (i + 1, event) ∷ [] = rw there at (seen_more consumed) in
      ap (state q) seen ∙ fold_push (handle q) fresh (unconsumed consumed events first i) (i + 1, event)

  flag_is : (before : List ℕ) → IsMarked before flags → get_or flags i false ≡ is_among before (i + 1)
  flag_is before marked = marked i (omega arith)

  -- the event is consumed
  pub gathered_skip : get_or flags i false ≡ true → Gathered q window events first old flags (i + 1) m ms
  gathered_skip gone = record {
    stands = λ before marked. subst (Stands m) (sym (same_state before (sym (flag_is before marked) ∙ gone))) (gathered.stands before marked);
    matches_are = λ before marked. gathered.matches_are before marked ∙ ap (with_matches q window old) (sym (same_state before (sym (flag_is before marked) ∙ gone)));
  }

  -- the event is offered to the matcher
  pub gathered_offer : CompletionsAreMatches → RunsAreSound → get_or flags i false ≡ false → (m' : Matching) (list : List Told) (ms' : List Match)
      → ((s : State) → Stands m s → Stands m' (handle q s (i + 1, event))) → ((s : State) → Stands m s → list ≡ told q s (moves q s (i + 1, event)))
      → ms' ≡ ms ++ matches_told window (length ms + 1) (filter is_completion list) → Gathered q window events first old flags (i + 1) m' ms'
  gathered_offer completions sound there m' list ms' handled telling added = record {
    stands = λ before marked. subst (Stands m') (sym (next_state before (sym (flag_is before marked) ∙ there))) (handled _ (gathered.stands before marked));
    matches_are = λ before marked.
        let visible = unconsumed before events first i in
        let list_is = telling (state q visible) (gathered.stands before marked) in
        more_matches completions sound q window old ms ms' visible (i + 1, event) (gathered.matches_are before marked)
        (added ∙ ap (λ l. ms ++ matches_told window (length ms + 1) (filter is_completion l)) list_is)
        ∙ ap (with_matches q window old) (sym (next_state before (sym (flag_is before marked) ∙ there)));
  }

-- All that holds there: beside this the matcher has the plan, nothing that it holds is past the event to come, and no match is lost.
pub record Gathering (q : Plan) (window : ℕ) (events : List Event) (first : ℕ) (old : List Match) (flags : List Bool) (i : ℕ) (m : Matching) (ms : List Match) : Type 0 where
  pub gathered : Gathered q window events first old flags i m ms
  pub plan_is : m.plan ≡ q
  pub below : Below (i + 1) (runs_of m)
  pub more : length old ≤ length ms

-- what is below a number is below the next
pub below_more : (n : ℕ) (s : State) → Below n s → Below (n + 1) s
below_more n s below = record {
  events = All-weaker (λ (run : Started). All (λ pair. pair.number < n) run.1) (λ (run : Started). All (λ pair. pair.number < n + 1) run.1)
      (λ run all. All-weaker (λ (pair : Pair). pair.number < n) (λ (pair : Pair). pair.number < n + 1) (λ pair less. omega (arith, less)) run.1 all) s.open_runs below.events;
  started = omega (arith, below.started);
}

-- a matcher without runs
pub below_none : (i : ℕ) (m : Matching) → m.open_runs ≡ [] → m.started ≡ 0 → Below (i + 1) (runs_of m)
below_none i m none zero = record {
  events = subst (All (λ (run : Started). All (λ pair. pair.number < i + 1) run.1)) (sym none) (All-nil (λ (run : Started). All (λ pair. pair.number < i + 1) run.1));
  started = omega (arith, zero);
}

-- the same facts of equal values
pub gathering_as : {q : Plan} {window : ℕ} {events : List Event} {first : ℕ} {old : List Match} {flags : List Bool} {i : ℕ} {m m' : Matching} {ms ms' : List Match}
    → Gathering q window events first old flags i m ms → m' ≡ m → ms' ≡ ms → Gathering q window events first old flags i m' ms'
gathering_as gathering same also = rw (same, also) gathering
