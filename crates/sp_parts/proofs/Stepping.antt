-- The engine over the windows of a part: what it comes to behind earlier windows is what it comes to over the part by itself, moved on.
use Rattle.std.proofs.Common.{◌≡◌, ℕ, zero, suc, ◌+◌, ◌<◌, ◌≤◌, Bool, false, not, ◌&&◌, ◌||◌, List, [], ◌∷◌, ◌++◌, length, map, Option, Some, None, refl, sym, ap, ◌∙◌, arith, length-append, append_assoc}
use Rattle.std.specs.Prelude.{filter, slice_get, nat_le, ◌==◌}
use Rattle.std.specs.List.{All, enumerate_from, flat_map}
use Rattle.std.proofs.lemmas.Bool.Decides.{nat_tests}
use Rattle.std.proofs.lemmas.List.{append-nil, map-append, length-map}
use Rattle.std.proofs.lemmas.List.Folds.{list_any-append, list_any_none}
use Rattle.std.proofs.lemmas.List.Elements.{All-nil, All-append, All-weaker, All-filter, filter-append, filter_agree, All-cons, All-head, All-tail, All-map}
use Rattle.sp_base.specs.Numbers.{is_among}
use Rattle.sp_plan.specs.declared.event.Event.{Event}
use Rattle.sp_plan.specs.declared.found.Match.{Match}
use Rattle.sp_plan.specs.declared.plan.Plan.{Plan}
use Rattle.sp_plan.specs.Windows.{Numbered, numbered, Window, windows, events_of}
use Rattle.sp_plan.specs.Runs.{Run, State, numbers_under, bound_names, used, state, matched_runs}
use Rattle.sp_plan.specs.Sequential.{Progress, match_of, visible, after_window, seq}
use Rattle.sp_window.proofs.Lists.{filter_same, filter_none}
use Rattle.sp_parts.proofs.Lists.{map_map, filter_map_is}
use Rattle.sp_parts.proofs.Moved.{up, among_up, numbered_up, run_up, used_up, state_moved, matched_moved, bindings_up, all_used_up}
use Rattle.sp_parts.proofs.Bounded.{Binds, matched_bind, matched_use, run_uses, under_name}
use Rattle.sp_parts.proofs.Places.{enumerate_append, enumerate_up, numbers_between}
use Rattle.sp_parts.proofs.Cutting.{window_up}

-- a match moved on, behind so many windows and so many matches
abbrev pub match_up : ℕ → ℕ → ℕ → Match → Match
match_up a n before found = record {
  window = found.window + n;
  number = found.number + before;
  bound = map (λ pair. (pair.0, up a pair.1)) found.bound;
  used = up a found.used;
}

-- what a part comes to, behind what the windows before it came to
abbrev pub progress_up : ℕ → ℕ → Progress → Progress → Progress
progress_up a n before own = record {
  matches = before.matches ++ map (match_up a n (length before.matches)) own.matches;
  consumed = before.consumed ++ up a own.consumed;
}

-- a number of a part is among those consumed exactly where it is by itself among those consumed in the part
among_moved : (a : ℕ) (before own : List ℕ) (n : ℕ) → All (λ c. c ≤ a) before → 1 ≤ n → is_among (before ++ up a own) (n + a) ≡ is_among own n
among_moved a before own n low some =
    let none : is_among before (n + a) ≡ false = list_any_none (λ m. m == n + a) before (All-weaker (λ c. c ≤ a) (λ m. (m == n + a) ≡ false) (λ m le. other m le) before low) in
    list_any-append (λ m. m == n + a) before (up a own) ∙ (λ i. none i || among_up a own n i)
  where
    other : (m : ℕ) → m ≤ a → (m == n + a) ≡ false
    other m le = grind (arith, nat_tests)

-- the numbers of the events of a window
events_numbers : (events : List Event) (w : Window) → All (λ x. (1 ≤ x.0) × (x.0 < 1 + length events)) (events_of events w)
events_numbers events w = All-filter (λ x. nat_le w.first x.0 && nat_le x.0 w.last) (λ x. (1 ≤ x.0) × (x.0 < 1 + length events)) (numbered events) (numbers_between 1 events)

module _ (front own behind : List Event) where
  -- the events of a window of a part, between others
  events_moved : (w : Window) → 1 ≤ w.first → w.last ≤ length own → events_of (front ++ (own ++ behind)) (window_up (length front) w) ≡ map (numbered_up (length front)) (events_of own w)
  events_moved w low high =
      let a = length front in
      let test : Numbered → Bool = λ x. nat_le (w.first + a) x.0 && nat_le x.0 (w.last + a) in
      let m = 1 + a + length own in
      let split : numbered (front ++ (own ++ behind)) ≡ numbered front ++ (map (numbered_up a) (numbered own) ++ enumerate_from m behind) =
      enumerate_append 1 front (own ++ behind) ∙ ap (λ (l : List Numbered). numbered front ++ l) (enumerate_append (1 + a) own behind ∙ ap (λ (l : List Numbered). l ++ enumerate_from m behind) (enumerate_up a 1 own)) in
      let before : filter test (numbered front) ≡ [] =
      filter_none test (numbered front) (All-weaker (λ (x : Numbered). (1 ≤ x.0) × (x.0 < 1 + a)) (λ x. test x ≡ false) (λ x its. early w.first w.last x.0 low its.1) (numbered front) (numbers_between 1 front)) in
      let after : filter test (enumerate_from m behind) ≡ [] =
      filter_none test (enumerate_from m behind) (All-weaker (λ (x : Numbered). (m ≤ x.0) × (x.0 < m + length behind)) (λ x. test x ≡ false) (λ x its. late w.first w.last x.0 high its.0) (enumerate_from m behind) (numbers_between m behind)) in
      let between : filter test (map (numbered_up a) (numbered own)) ≡ map (numbered_up a) (events_of own w) =
      filter_map_is (numbered_up a) test (numbered own)
      ∙ ap (map (numbered_up a)) (filter_agree (λ x. test (numbered_up a x)) (λ x. nat_le w.first x.0 && nat_le x.0 w.last) (λ x. same w.first w.last x.0) (numbered own)) in
      ap (filter test) split ∙ filter-append test (numbered front) (map (numbered_up a) (numbered own) ++ enumerate_from m behind)
      ∙ (λ i. before i ++ (filter-append test (map (numbered_up a) (numbered own)) (enumerate_from m behind) ∙ (λ j. between j ++ after j) ∙ append-nil (map (numbered_up a) (events_of own w))) i)
    where
      early : (f l n : ℕ) → 1 ≤ f → n < 1 + length front → (nat_le (f + length front) n && nat_le n (l + length front)) ≡ false
      early f l n low high = grind (arith, nat_tests)

      late : (f l n : ℕ) → l ≤ length own → 1 + length front + length own ≤ n → (nat_le (f + length front) n && nat_le n (l + length front)) ≡ false
      late f l n high low = grind (arith, nat_tests)

      same : (f l n : ℕ) → (nat_le (f + length front) (n + length front) && nat_le (n + length front) (l + length front)) ≡ (nat_le f n && nat_le n l)
      same f l n = grind (arith, nat_tests)

  -- what is visible of such a window
  pub visible_moved : (w : Window) → 1 ≤ w.first → w.last ≤ length own → (before consumed : List ℕ) → All (λ c. c ≤ length front) before
      → visible (front ++ (own ++ behind)) (before ++ up (length front) consumed) (Some (window_up (length front) w)) ≡ map (numbered_up (length front)) (visible own consumed (Some w))
  visible_moved w low high before consumed bound =
      let a = length front in
      let test : Numbered → Bool = λ x. not (is_among (before ++ up a consumed) x.0) in
      ap (filter test) (events_moved w low high) ∙ filter_map_is (numbered_up a) test (events_of own w)
      ∙ ap (map (numbered_up a))
      (filter_same (λ x. test (numbered_up a x)) (λ x. not (is_among consumed x.0)) (events_of own w)
      (All-weaker (λ x. (1 ≤ x.0) × (x.0 < 1 + length own)) (λ x. test (numbered_up a x) ≡ not (is_among consumed x.0)) (λ x its. ap not (among_moved a before consumed x.0 bound its.0)) (events_of own w) (events_numbers own w)))

-- the numbers of visible events
visible_low : (own : List Event) (consumed : List ℕ) (o : Option Window) → All (λ x. x.0 ≤ length own) (visible own consumed o)
visible_low own consumed None = All-nil (λ (x : Numbered). x.0 ≤ length own)
visible_low own consumed (Some w) =
    All-filter (λ x. not (is_among consumed x.0)) (λ x. x.0 ≤ length own) (events_of own w)
    (All-weaker (λ x. (1 ≤ x.0) × (x.0 < 1 + length own)) (λ x. x.0 ≤ length own) (λ x its. let high = its.1 in omega arith) (events_of own w) (events_numbers own w))

-- what was consumed in some events are numbers of these
pub consumed_low : (q : Plan) (own : List Event) (j : ℕ) → All (λ c. c ≤ length own) (seq q own j).consumed
consumed_low q own zero = All-nil (λ c. c ≤ length own)
consumed_low q own (suc j) =
    let before = seq q own j in
    let seen = visible own before.consumed (slice_get (windows q own false) j) in
    All-append (λ c. c ≤ length own) before.consumed (flat_map (used q) (matched_runs (state q seen))) (consumed_low q own j)
    (matched_use (λ c. c ≤ length own) q seen (visible_low own before.consumed (slice_get (windows q own false) j)))

-- a match is of one of so many windows and of so many events
pub record MatchLow (events windows : ℕ) (found : Match) : Type 0 where
  pub window : found.window ≤ windows
  pub used : All (λ n. n ≤ events) found.used
  pub bound : All (λ pair. All (λ n. n ≤ events) pair.1) found.bound

-- the matches of so many windows are of these
pub matches_low : (q : Plan) (own : List Event) (j : ℕ) → All (MatchLow (length own) j) (seq q own j).matches
matches_low q own zero = All-nil (MatchLow (length own) 0)
matches_low q own (suc j) =
    let before = seq q own j in
    let seen = visible own before.consumed (slice_get (windows q own false) j) in
    let runs = matched_runs (state q seen) in
    let n = length own in
    let Low : ℕ → Type 0 = λ m. m ≤ n in
    All-append (MatchLow n (suc j)) before.matches (map (match_of q (suc j)) (enumerate_from (length before.matches + 1) runs))
    (All-weaker (MatchLow n j) (MatchLow n (suc j)) (λ m its. record { window = let le = its.window in omega arith; used = its.used; bound = its.bound }) before.matches (matches_low q own j))
    (All-map (MatchLow n (suc j)) (match_of q (suc j)) (enumerate_from (length before.matches + 1) runs)
    (made n (length before.matches + 1) runs (matched_bind Low q seen (visible_low own before.consumed (slice_get (windows q own false) j)))))
  where
    bound : (n : ℕ) (r : Run) → Binds (λ m. m ≤ n) r → (names : List ℕ) → All (λ (pair : ℕ × List ℕ). All (λ m. m ≤ n) pair.1) (map (λ name. (name, numbers_under r name)) names)
    bound n r its [] = All-nil (λ (pair : ℕ × List ℕ). All (λ m. m ≤ n) pair.1)
    bound n r its (name ∷ names) = All-cons (λ (pair : ℕ × List ℕ). All (λ m. m ≤ n) pair.1) (name, numbers_under r name) (map (λ name. (name, numbers_under r name)) names) (under_name (λ m. m ≤ n) q r name its) (bound n r its names)

    made : (n k : ℕ) (runs : List Run) → All (Binds (λ m. m ≤ n)) runs → All (λ y. MatchLow n (suc j) (match_of q (suc j) y)) (enumerate_from k runs)
    made n k [] all = All-nil (λ (y : ℕ × Run). MatchLow n (suc j) (match_of q (suc j) y))
    made n k (r ∷ runs) all =
        let its = All-head (Binds (λ m. m ≤ n)) r runs all in
        All-cons (λ y. MatchLow n (suc j) (match_of q (suc j) y)) (k, r) (enumerate_from (k + 1) runs)
        (record { window = omega arith; used = run_uses (λ m. m ≤ n) q r its; bound = bound n r its (bound_names q) })
        (made n (k + 1) runs (All-tail (Binds (λ m. m ≤ n)) r runs all))

-- items with later numbers, each changed
enumerate_both : {X : Type 0} (f : X → X) (m n : ℕ) (xs : List X) → enumerate_from (n + m) (map f xs) ≡ map (λ y. (y.0 + m, f y.1)) (enumerate_from n xs)
enumerate_both f m n [] = refl
enumerate_both f m n (x ∷ xs) = let at : n + m + 1 ≡ n + 1 + m = omega arith in ap (λ l. (n + m, f x) ∷ l) (ap (λ (k : ℕ). enumerate_from k (map f xs)) at ∙ enumerate_both f m (n + 1) xs)

module _ (q : Plan) (a n : ℕ) where
  -- a run that matched, moved on
  match_moved : (j before number : ℕ) (r : Run) → match_of q (suc (n + j)) (number + before, run_up a r) ≡ match_up a n before (match_of q (suc j) (number, r))
  match_moved j before number r =
      let window : suc (n + j) ≡ suc j + n = omega arith in
      λ i. record { window = window i; number = number + before; bound = bindings_up q a r i; used = used_up q a r i }

  -- one window more
  after_moved : (j : ℕ) (before own : Progress) (runs : List Run) → after_window q (suc (n + j)) (progress_up a n before own) (map (run_up a) runs) ≡ progress_up a n before (after_window q (suc j) own runs)
  after_moved j before own runs =
      let m = length before.matches in
      let k = length own.matches in
      let change : Match → Match = match_up a n m in
      let first = before.matches ++ map change own.matches in
      let size : length first + 1 ≡ k + 1 + m = let all = length-append before.matches (map change own.matches) in let same = length-map own.matches change in omega arith in
      let news : List (ℕ × Run) = enumerate_from (k + 1) runs in
      let made : map (match_of q (suc (n + j))) (enumerate_from (length first + 1) (map (run_up a) runs)) ≡ map change (map (match_of q (suc j)) news) =
      ap (λ (b : ℕ). map (match_of q (suc (n + j))) (enumerate_from b (map (run_up a) runs))) size
      ∙ ap (map (match_of q (suc (n + j)))) (enumerate_both (run_up a) m (k + 1) runs)
      ∙ map_map (λ (y : ℕ × Run). (y.0 + m, run_up a y.1)) (match_of q (suc (n + j))) news
      ∙ (λ i. map (λ (y : ℕ × Run). match_moved j m y.0 y.1 i) news)
      ∙ sym (map_map (match_of q (suc j)) change news) in
      let matches = ap (λ (l : List Match). first ++ l) made ∙ append_assoc before.matches (map change own.matches) (map change (map (match_of q (suc j)) news))
      ∙ ap (λ (l : List Match). before.matches ++ l) (sym (map-append change own.matches (map (match_of q (suc j)) news))) in
      let consumed = ap (λ (l : List ℕ). (before.consumed ++ up a own.consumed) ++ l) (all_used_up q a runs) ∙ append_assoc before.consumed (up a own.consumed) (up a (flat_map (used q) runs))
      ∙ ap (λ (l : List ℕ). before.consumed ++ l) (sym (map-append (λ c. c + a) own.consumed (flat_map (used q) runs))) in
      λ i. record { matches = matches i; consumed = consumed i }

  -- all windows of a part, where what is visible in them is what is so in the part by itself
  pub seq_moved : (events own : List Event) (k : ℕ)
      → ((j : ℕ) → j < k → (before consumed : List ℕ) → All (λ c. c ≤ a) before → visible events (before ++ up a consumed) (slice_get (windows q events false) (n + j)) ≡ map (numbered_up a) (visible own consumed (slice_get (windows q own false) j)))
      → All (λ c. c ≤ a) (seq q events n).consumed → (j : ℕ) → j ≤ k → seq q events (n + j) ≡ progress_up a n (seq q events n) (seq q own j)
  seq_moved events own k seen bound zero low =
      let at : n + 0 ≡ n = omega arith in
      let p = seq q events n in
      ap (seq q events) at ∙ (λ i. record { matches = sym (append-nil p.matches) i; consumed = sym (append-nil p.consumed) i })
  seq_moved events own k seen bound (suc j) low =
      let at : n + suc j ≡ suc (n + j) = omega arith in
      let first = seq q events n in
      let part = seq q own j in
      let now = progress_up a n first part in
      let shown = visible own part.consumed (slice_get (windows q own false) j) in
      ap (seq q events) at
      ∙ ap (λ (p : Progress). after_window q (suc (n + j)) p (matched_runs (state q (visible events p.consumed (slice_get (windows q events false) (n + j)))))) (seq_moved events own k seen bound j (omega arith))
      ∙ ap (λ (xs : List Numbered). after_window q (suc (n + j)) now (matched_runs (state q xs))) (seen j (omega arith) first.consumed part.consumed bound)
      ∙ ap (λ (s : State). after_window q (suc (n + j)) now (matched_runs s)) (state_moved q a shown)
      ∙ ap (after_window q (suc (n + j)) now) (matched_moved q a (state q shown))
      ∙ after_moved j first part (matched_runs (state q shown))
