-- Entries that are right by themselves and behind one another are the proofs of a run.
use Rattle.std.proofs.Common.{◌≡◌, ◌↔◌, ℕ, zero, suc, ◌+◌, ◌-◌, ◌<◌, ◌≤◌, Bool, false, List, [], ◌∷◌, ◌++◌, length, map, take, drop, Some, refl, sym, ap, ◌∙◌, subst, arith}
use Rattle.std.specs.Prelude.{slice_get}
use Rattle.std.specs.List.{All, enumerate_from, range_with_len}
use Rattle.std.proofs.Math.Seq.{drop-append_seam}
use Rattle.std.proofs.lemmas.List.{length-map, length-append, length-take, take-append-le, take_all}
use Rattle.std.proofs.lemmas.Option.{slice_get_within}
use Rattle.std.proofs.lemmas.List.FromFn.{length-enumerate_from, take-map-range_with_len, length-map-range_with_len}
use Rattle.std.proofs.lemmas.List.Elements.{All-nil, All-cons, All-head, All-tail}
use Rattle.sp_plan.specs.declared.event.Event.{Event}
use Rattle.sp_plan.specs.declared.plan.Plan.{Plan}
use Rattle.sp_plan.specs.declared.found.Match.{Match}
use Rattle.sp_plan.specs.Windows.{Window, closed, IsWindowed}
use Rattle.sp_plan.specs.WindowNumbers.{Good, count, first, size, first_of, numbered_window}
use Rattle.sp_plan.specs.Runs.{Run, matched_runs}
use Rattle.sp_plan.specs.Reading.{reading}
use Rattle.sp_plan.specs.Sequential.{seq, match_of}
use Rattle.sp_plan.proofs.Readings.{reading_is_state}
use Rattle.sp_window.specs.Laws.{IsNumber}
use Rattle.sp_window.proofs.Lists.{by_feeding, get_push, get_front}
use Rattle.sp_window.proofs.Numbers.{windows_hold, closed_come_first}
use Rattle.sp_window.proofs.ByReading.{windows_are_read}
use Rattle.sp_scan.specs.Scanning.{found_of, scanned_of}
use Rattle.sp_listing.specs.Listing.{Entry}
use Rattle.sp_cert.specs.Proofs.{last_of, those_within, used_by, own_matches, entry_of, proof_of, first_proofs, proofs, matches_of, used_of}
use Rattle.sp_cert.specs.Checking.{run_of, TellOf, GoOn, StandsAlone, FollowsOn, AreRight}
use Rattle.sp_cert.proofs.Within.{among_within, within_same}
use Rattle.sp_cert.proofs.Telling.{proofs_more, matches_are, used_are}

-- ---- matches and the runs that they tell of

-- matches with the next numbers that tell of runs are the matches of these
told : (q : Plan) (window number : ℕ) (runs : List Run) (ms : List Match) → All (λ (one : Match). one.window ≡ window) ms → map run_of ms ≡ map (found_of q) runs → GoOn number ms
    → ms ≡ map (match_of q window) (enumerate_from (number + 1) runs)
told q window number [] [] windows same numbers = refl
told q window number [] (m ∷ ms) windows same numbers = absurd (cc same)
told q window number (run ∷ runs) [] windows same numbers = absurd (cc same)
told q window number (run ∷ runs) (m ∷ ms) windows same numbers =
    let its : run_of m ≡ found_of q run = cc same in
    let rest : map run_of ms ≡ map (found_of q) runs = cc same in
    let own : m.number ≡ number + 1 = cc numbers in
    let more : GoOn (number + 1) ms = cc numbers in
    let here : m.window ≡ window = All-head (λ (one : Match). one.window ≡ window) m ms windows in
    let first : m ≡ match_of q window (number + 1, run) = λ i. record { window = here i; number = own i; bound = (its i).bound; used = (its i).used } in
    λ i. first i ∷ told q window (number + 1) runs ms (All-tail (λ (one : Match). one.window ≡ window) m ms windows) rest more i

-- and these tell of them
tell : (q : Plan) (window first : ℕ) (runs : List Run) → TellOf window (map (match_of q window) (enumerate_from first runs)) (map (found_of q) runs)
tell q window first [] = record { windows_are = All-nil (λ (one : Match). one.window ≡ window); runs_are = refl }
tell q window first (run ∷ runs) =
    let rest = tell q window (first + 1) runs in
    record {
      windows_are = All-cons (λ (one : Match). one.window ≡ window) (match_of q window (first, run)) (map (match_of q window) (enumerate_from (first + 1) runs)) refl rest.windows_are;
      runs_are = ap (λ l. found_of q run ∷ l) rest.runs_are;
    }

numbers_told : (q : Plan) (window first : ℕ) (runs : List Run) → map (λ (one : Match). one.number) (map (match_of q window) (enumerate_from first runs)) ≡ range_with_len first (length runs)
numbers_told q window first [] = refl
numbers_told q window first (run ∷ runs) = ap (λ l. first ∷ l) (numbers_told q window (first + 1) runs)

go_on : (q : Plan) (window number : ℕ) (runs : List Run) → GoOn number (map (match_of q window) (enumerate_from (number + 1) runs))
go_on q window number runs =
    let size : length (map (match_of q window) (enumerate_from (number + 1) runs)) ≡ length runs = length-map (enumerate_from (number + 1) runs) (match_of q window) ∙ length-enumerate_from (number + 1) runs in
    numbers_told q window (number + 1) runs ∙ ap (range_with_len (number + 1)) (sym size)

-- an entry by its parts
pub entry_is : (entry : Entry) (number from until : ℕ) (consumed : List ℕ) (matches : List Match) → entry.window ≡ number → entry.first ≡ from → entry.last ≡ until
    → entry.skipped ≡ those_within from until consumed → entry.used ≡ those_within from until (used_by matches) → entry.matches ≡ matches → entry ≡ entry_of number from until consumed matches
entry_is entry number from until consumed matches w f l s u m = λ i. record { window = w i; first = f i; last = l i; skipped = s i; used = u i; matches = m i }

-- what stands at a place of a list made of numbers
get_range : {X : Type 0} (f : ℕ → X) (a n k : ℕ) → k < n → slice_get (map f (range_with_len a n)) k ≡ Some (f (a + k))
get_range f a zero k low = absurd (omega arith)
get_range f a (suc n) zero low = let at : a ≡ a + zero = omega arith in ap (λ m. Some (f m)) at
get_range f a (suc n) (suc k) low = let at : a + 1 + k ≡ a + suc k = omega arith in get_range f (a + 1) n k (omega arith) ∙ ap (λ m. Some (f m)) at

module _ (q : Plan) (limits : IsWindowed q) (events : List Event) (good : Good q events) where
  -- the window behind the first n, where there is one
  pub record Next (n : ℕ) : Type 0 where
    pub w : Window
    pub is : numbered_window q events false (suc n) ≡ Some w
    pub low : 1 ≤ first q events (suc n)
    pub some : 1 ≤ size q events (suc n)
    pub last_is : last_of (numbered_window q events false (suc n)) + 1 ≡ first q events (suc n) + size q events (suc n)

  pub next : (n : ℕ) → n < count q events → Next n
  next n low =
      let number : IsNumber q events (suc n) = record { good = good; low = omega arith; high = omega arith } in
      let hold = windows_hold q limits in
      let there = hold.there events (suc n) number false in
      record { w = there.0; is = there.1; low = hold.low events (suc n) number; some = hold.some events (suc n) number; last_is = ap (λ o. last_of o + 1) there.1 ∙ there.3 }

  -- what its proof says that it skips
  abbrev pub skips : ℕ → List ℕ
  skips n = (proof_of q events (suc n)).skipped

  -- that is what the proofs before it used
  pub skips_are : (n from until : ℕ) → those_within from until (used_of (first_proofs q events n)) ≡ those_within from until (seq q events n).consumed
  skips_are n from until = within_same from until (used_of (first_proofs q events n)) (seq q events n).consumed (λ k low high. used_are q events n k)

  -- the runs that match over the rest of its events
  abbrev pub runs_of : ℕ → List Run
  runs_of n = matched_runs (reading q events (seq q events n).consumed (first q events (suc n)) (size q events (suc n)))

  scanned_are : (n : ℕ) → n < count q events
      → (let o = numbered_window q events false (suc n) in scanned_of q events (first_of o) (last_of o) (those_within (first_of o) (last_of o) (seq q events n).consumed)) ≡ map (found_of q) (runs_of n)
  scanned_are n low =
      let its = next n low in
      let o = numbered_window q events false (suc n) in
      let consumed = (seq q events n).consumed in
      let skipped = those_within (first_of o) (last_of o) consumed in
      let last = its.last_is in
      let many : last_of o + 1 - first_of o ≡ size q events (suc n) = omega arith in
      let same : reading q events skipped (first_of o) (size q events (suc n)) ≡ reading q events consumed (first_of o) (size q events (suc n)) =
      reading_is_state.skipped_within q events skipped consumed (first_of o) (size q events (suc n)) (λ k above below. among_within (first_of o) (last_of o) k consumed above (omega arith)) in
      ap (λ (m : ℕ). map (found_of q) (matched_runs (reading q events skipped (first_of o) m))) many ∙ ap (λ s. map (found_of q) (matched_runs s)) same

  -- the matches that it adds are those of these runs
  own_are : (n : ℕ) → n < count q events → own_matches q events (suc n) ≡ map (match_of q (suc n)) (enumerate_from (length (seq q events n).matches + 1) (runs_of n))
  own_are n low =
      let at : suc n - 1 ≡ n = omega arith in
      let before = (seq q events n).matches in
      ap (λ (k : ℕ). drop (length (seq q events k).matches) (seq q events (suc n)).matches) at
      ∙ ap (λ p. drop (length before) p.matches) ((windows_are_read q limits).progress events n good low)
      ∙ drop-append_seam before (map (match_of q (suc n)) (enumerate_from (length before + 1) (runs_of n)))

  -- the number of the last match before it
  before_are : (n : ℕ) → length (matches_of (first_proofs q events n)) ≡ length (seq q events n).matches
  before_are n = ap length (matches_are q events n)

  length_proofs : (n : ℕ) → length (first_proofs q events n) ≡ n
  length_proofs n = length-map-range_with_len (proof_of q events) 1 n

  module _ (ended : Bool) where
    pub closed_few : closed q events ended ≤ count q events
    closed_few = (closed_come_first q limits).within events ended good

    -- an entry that is right by itself and behind the first n proofs is the next one
    pub right_one : (n : ℕ) (entry : Entry) → StandsAlone q events ended entry → FollowsOn (first_proofs q events n) entry → (n < closed q events ended) × (entry ≡ proof_of q events (suc n))
    right_one n entry alone follows =
        let size = length_proofs n in
        let at = follows.window_is in
        let number : entry.window ≡ suc n = omega arith in
        let high = alone.closed_is in
        let few = closed_few in
        let its = next n (omega arith) in
        let o = numbered_window q events false (suc n) in
        let from : entry.first ≡ first_of o = alone.first_is ∙ ap (first q events) number in
        let last_is = its.last_is in
        let until : entry.last ≡ last_of o = let own : entry.last + 1 ≡ first q events (suc n) + size_at (suc n) = alone.last_is ∙ ap (λ k. first q events k + size_at k) number in omega arith in
        let skipped : entry.skipped ≡ those_within (first_of o) (last_of o) (seq q events n).consumed = follows.skipped_is ∙ skips_are n entry.first entry.last ∙ (λ i. those_within (from i) (until i) (seq q events n).consumed) in
        let runs : map run_of entry.matches ≡ map (found_of q) (runs_of n) = alone.tell.runs_are ∙ (λ i. scanned_of q events (from i) (until i) (skipped i)) ∙ scanned_are n (omega arith) in
        let windows : All (λ (one : Match). one.window ≡ suc n) entry.matches = subst (λ k. All (λ (one : Match). one.window ≡ k) entry.matches) number alone.tell.windows_are in
        let numbers : GoOn (length (seq q events n).matches) entry.matches = subst (λ k. GoOn k entry.matches) (before_are n) follows.numbers_are in
        let matches : entry.matches ≡ own_matches q events (suc n) = told q (suc n) (length (seq q events n).matches) (runs_of n) entry.matches windows runs numbers ∙ sym (own_are n (omega arith)) in
        let used : entry.used ≡ those_within (first_of o) (last_of o) (used_by (own_matches q events (suc n))) = alone.used_is ∙ (λ i. those_within (from i) (until i) (used_by (matches i))) in
        let back : suc n - 1 ≡ n = omega arith in (
          omega arith,
          entry_is entry (suc n) (first_of o) (last_of o) (seq q events (suc n - 1)).consumed (own_matches q events (suc n)) number from until
              (skipped ∙ ap (λ k. those_within (first_of o) (last_of o) (seq q events k).consumed) (sym back)) used matches,
        )
      where
        size_at : ℕ → ℕ
        size_at k = size q events k

    -- and the next proof is right by itself and behind the first n
    pub one_right : (n : ℕ) → n < closed q events ended → StandsAlone q events ended (proof_of q events (suc n)) × FollowsOn (first_proofs q events n) (proof_of q events (suc n))
    one_right n low =
        let few = closed_few in
        let below : n < count q events = omega arith in
        let its = next n below in
        let o = numbered_window q events false (suc n) in
        let before = (seq q events n).matches in
        let back : suc n - 1 ≡ n = omega arith in
        let size = length_proofs n in
        let own = own_are n below in
        let skipped : skips n ≡ those_within (first_of o) (last_of o) (seq q events n).consumed = ap (λ k. those_within (first_of o) (last_of o) (seq q events k).consumed) back in
        let scanned : scanned_of q events (first_of o) (last_of o) (skips n) ≡ map (found_of q) (runs_of n) = ap (scanned_of q events (first_of o) (last_of o)) skipped ∙ scanned_are n below in
        let tells : TellOf (suc n) (own_matches q events (suc n)) (scanned_of q events (first_of o) (last_of o) (skips n)) =
        subst (λ l. TellOf (suc n) (own_matches q events (suc n)) l) (sym scanned) (subst (λ l. TellOf (suc n) l (map (found_of q) (runs_of n))) (sym own) (tell q (suc n) (length before + 1) (runs_of n))) in
        let numbers : GoOn (length (matches_of (first_proofs q events n))) (own_matches q events (suc n)) =
        subst (λ k. GoOn k (own_matches q events (suc n))) (sym (before_are n)) (subst (GoOn (length before)) (sym own) (go_on q (suc n) (length before) (runs_of n))) in (
          record { low = omega arith; closed_is = omega arith; first_is = refl; last_is = its.last_is; tell = tells; used_is = refl },
          record { window_is = omega arith; skipped_is = skipped ∙ sym (skips_are n (first_of o) (last_of o)); numbers_are = numbers },
        )

    -- the first proofs of all
    pub front_is : (n : ℕ) → n ≤ closed q events ended → take n (proofs q events ended) ≡ first_proofs q events n
    front_is n low = take-map-range_with_len (proof_of q events) 1 (closed q events ended) n low

    -- entries that are right are so many first proofs
    record Fronts (entries : List Entry) : Type 0 where
      low : length entries ≤ closed q events ended
      are : entries ≡ first_proofs q events (length entries)

    right_fronts : (entries : List Entry) → AreRight q events ended entries → Fronts entries
    right_fronts = by_feeding (λ es. AreRight q events ended es → Fronts es) (λ right. record { low = omega arith; are = refl }) more
      where
        more : (es : List Entry) (e : Entry) → (AreRight q events ended es → Fronts es) → AreRight q events ended (es ++ e ∷ []) → Fronts (es ++ e ∷ [])
        more es e before right =
            let front : AreRight q events ended es = λ n entry is.
            (let low = slice_get_within es n entry is in
            let own = right n entry (get_front es (e ∷ []) n low ∙ is) in
            (own.0, subst (λ l. FollowsOn l entry) (take-append-le n es (e ∷ []) (omega arith)) own.1)) in
            let known = before front in
            let own = right (length es) e (get_push es e) in
            let all : take (length es) (es ++ e ∷ []) ≡ first_proofs q events (length es) = take-append-le (length es) es (e ∷ []) (omega arith) ∙ take_all (length es) es (omega arith) ∙ known.are in
            let one = right_one (length es) e own.0 (subst (λ l. FollowsOn l e) all own.1) in
            let size : length (es ++ e ∷ []) ≡ suc (length es) = length-append es (e ∷ []) ∙ omega arith in
            let low = one.0 in
            record {
              low = omega arith;
              are = (λ i. known.are i ++ one.1 i ∷ []) ∙ sym (proofs_more q events (length es)) ∙ ap (first_proofs q events) (sym size);
            }

    -- the proof of a number
    pub get_proof : (m n : ℕ) → n < m → slice_get (first_proofs q events m) n ≡ Some (proof_of q events (suc n))
    get_proof m n low = let at : 1 + n ≡ suc n = omega arith in get_range (proof_of q events) 1 m n low ∙ ap (λ k. Some (proof_of q events k)) at

    fronts_right : (entries : List Entry) → Fronts entries → AreRight q events ended entries
    fronts_right entries known n entry is =
        let low = slice_get_within entries n entry is in
        let here : Some entry ≡ Some (proof_of q events (suc n)) = sym is ∙ ap (λ l. slice_get l n) known.are ∙ get_proof (length entries) n low in
        let same : entry ≡ proof_of q events (suc n) = cc here in
        let front : take n entries ≡ first_proofs q events n = ap (take n) known.are ∙ take-map-range_with_len (proof_of q events) 1 (length entries) n (omega arith) in
        let high = known.low in
        let own = one_right n (omega arith) in
        (subst (StandsAlone q events ended) (sym same) own.0, (subst (λ e. FollowsOn (take n entries) e) (sym same) (subst (λ l. FollowsOn l (proof_of q events (suc n))) (sym front) own.1)))

    pub right_are_proofs : (entries : List Entry) → AreRight q events ended entries ↔ (entries ≡ take (length entries) (proofs q events ended))
    right_are_proofs entries = (
      λ right. let known = right_fronts entries right in known.are ∙ sym (front_is (length entries) known.low),
      λ same.
          let all = length-take (length entries) (proofs q events ended) in
          let size : length (proofs q events ended) ≡ closed q events ended = length_proofs (closed q events ended) in
          let own = ap length same in
          let low : length entries ≤ closed q events ended = omega arith in
          fronts_right entries (record { low = low; are = same ∙ front_is (length entries) low }),
    )
