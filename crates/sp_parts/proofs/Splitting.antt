-- The windows of a part among those of all events: they are those of the part by itself, moved on.
use Rattle.std.proofs.Common.{◌≡◌, ℕ, ◌+◌, ◌<◌, ◌≤◌, Bool, true, false, not, List, [], ◌∷◌, ◌++◌, length, map, Option, Some, None, refl, sym, ap, ◌∙◌, subst, arith, length-append, append_assoc}
use Rattle.std.specs.Prelude.{filter, slice_get, nat_le}
use Rattle.std.specs.List.{All}
use Rattle.std.specs.Option.{option_map}
use Rattle.std.proofs.lemmas.Bool.Decides.{nat_tests}
use Rattle.std.proofs.lemmas.List.{append-nil, length-map}
use Rattle.std.proofs.lemmas.List.Elements.{All-nil, All-append, All-weaker, All-map, filter-append}
use Rattle.std.proofs.lemmas.Option.{slice_get-map}
use Rattle.sp_plan.specs.declared.event.Event.{Event}
use Rattle.sp_plan.specs.declared.plan.Plan.{Plan}
use Rattle.sp_plan.specs.Windows.{Window, windows, IsWindowed}
use Rattle.sp_plan.specs.WindowNumbers.{Good}
use Rattle.sp_plan.specs.Sequential.{visible}
use Rattle.sp_window.specs.declared.record.Record.{Record}
use Rattle.sp_window.specs.Openings.{opened}
use Rattle.sp_window.proofs.Lists.{filter_all, filter_none, get_front, get_there, all_at}
use Rattle.sp_window.proofs.WindowsAre.{window_of}
use Rattle.sp_window.proofs.SpansAre.{windows_are}
use Rattle.sp_parts.proofs.Moved.{up, numbered_up}
use Rattle.sp_parts.proofs.Places.{get_behind, good_front, good_back}
use Rattle.sp_parts.proofs.Opening.{MayCut}
use Rattle.sp_parts.proofs.Cutting.{window_up, NoneCrosses, cut_front, cut_both}
use Rattle.sp_parts.proofs.Order.{Own, all_own}
use Rattle.sp_parts.proofs.Stepping.{visible_moved}

-- windows that begin up to an event, and such that begin behind it
abbrev pub BeginBy : ℕ → List Window → Type 0
BeginBy t ws = All (λ w. w.first ≤ t) ws

abbrev pub EndBy : ℕ → List Window → Type 0
EndBy t ws = All (λ w. w.last ≤ t) ws

abbrev pub BeginBehind : ℕ → List Window → Type 0
BeginBehind t ws = All (λ w. t < w.first) ws

-- windows part in one way only into those that begin up to an event and those that begin behind it
split_at : (t : ℕ) (xs ys us vs : List Window) → xs ++ ys ≡ us ++ vs → BeginBy t xs → BeginBehind t ys → BeginBy t us → BeginBehind t vs → (xs ≡ us) × (ys ≡ vs)
split_at t xs ys us vs is x-low y-high u-low v-high = (
  sym (first_part xs ys x-low y-high) ∙ ap (filter early) is ∙ first_part us vs u-low v-high,
  sym (second_part xs ys x-low y-high) ∙ ap (filter (λ w. not (early w))) is ∙ second_part us vs u-low v-high,
)
  where
    early : Window → Bool
    early = λ w. nat_le w.first t

    passes : (w : Window) → w.first ≤ t → nat_le w.first t ≡ true
    passes w le = grind (arith, nat_tests)

    fails : (w : Window) → t < w.first → nat_le w.first t ≡ false
    fails w lt = grind (arith, nat_tests)

    first_part : (xs ys : List Window) → BeginBy t xs → BeginBehind t ys → filter (λ w. nat_le w.first t) (xs ++ ys) ≡ xs
    first_part xs ys low high =
        let p : Window → Bool = λ w. nat_le w.first t in
        let some = filter_all p xs (All-weaker (λ w. w.first ≤ t) (λ w. p w ≡ true) passes xs low) in
        let none = filter_none p ys (All-weaker (λ w. t < w.first) (λ w. p w ≡ false) fails ys high) in
        filter-append p xs ys ∙ (λ i. some i ++ none i) ∙ append-nil xs

    second_part : (xs ys : List Window) → BeginBy t xs → BeginBehind t ys → filter (λ w. not (nat_le w.first t)) (xs ++ ys) ≡ ys
    second_part xs ys low high =
        let p : Window → Bool = λ w. not (nat_le w.first t) in
        let none = filter_none p xs (All-weaker (λ w. w.first ≤ t) (λ w. p w ≡ false) (λ w le. ap not (passes w le)) xs low) in
        let some = filter_all p ys (All-weaker (λ w. t < w.first) (λ w. p w ≡ true) (λ w lt. ap not (fails w lt)) ys high) in
        filter-append p xs ys ∙ (λ i. none i ++ some i)

-- windows in two parts, the first of which end by an event and the others begin behind it: none crosses it
none_crosses : (t : ℕ) (xs ys : List Window) → EndBy t xs → BeginBehind t ys → NoneCrosses t (xs ++ ys)
none_crosses t xs ys low high =
    All-append (λ w. w.first ≤ t → w.last ≤ t) xs ys (All-weaker (λ w. w.last ≤ t) (λ w. w.first ≤ t → w.last ≤ t) (λ w le _. le) xs low)
    (All-weaker (λ w. t < w.first) (λ w. w.first ≤ t → w.last ≤ t) (λ w lt le. absurd (omega arith)) ys high)

module _ (q : Plan) (limits : IsWindowed q) where
  -- the windows of events begin by the last one
  begin_by : (events : List Event) (ended : Bool) → Good q events → BeginBy (length events) (windows q events ended)
  begin_by events ended good =
      All-weaker (Own (length events)) (λ w. w.first ≤ length events) (λ w own. let some = own.some in let high = own.high in omega arith) (windows q events ended) (all_own q limits events ended good)

  -- the windows of the events in front are those that end there, where the others begin behind these events
  pub front_is : (front behind : List Event) → Good q (front ++ behind) → (ended : Bool) (own later : List Window) → windows q (front ++ behind) ended ≡ own ++ later
      → BeginBy (length front) own → EndBy (length front) own → BeginBehind (length front) later → ended ≡ true → windows q front true ≡ own
  front_is front [] good ended own later is begins ends past end =
      let t = length front in
      let same : front ++ [] ≡ front = append-nil front in
      let all : windows q front true ≡ own ++ later = (λ i. windows q (sym same i) (sym end i)) ∙ is in
      (split_at t (windows q front true) [] own later (append-nil (windows q front true) ∙ all) (begin_by front true (good_front q front [] good)) (All-nil (λ w. t < w.first)) begins past).0
  front_is front (x ∷ ys) good ended own later is begins ends past end =
      let t = length front in
      let none : NoneCrosses t (windows q (front ++ x ∷ ys) ended) = subst (NoneCrosses t) (sym is) (none_crosses t own later ends past) in
      by (cut_front q limits front x ys good ended none)
    where
      by : (rest : List Window) × (windows q (front ++ x ∷ ys) ended ≡ windows q front true ++ rest) × All (λ w. length front < w.first) rest → windows q front true ≡ own
      by (rest, cut, high) =
          (split_at (length front) (windows q front true) rest own later (sym cut ∙ is) (begin_by front true (good_front q front (x ∷ ys) good)) high begins past).0

  -- the windows that begin behind the events in front are those of the events behind, moved on
  pub behind_is : (front : List Event) (x : Event) (ys : List Event) → Good q (front ++ x ∷ ys) → (ended : Bool) (before own : List Window) → windows q (front ++ x ∷ ys) ended ≡ before ++ own
      → MayCut q.opening (length front) → BeginBy (length front) before → EndBy (length front) before → BeginBehind (length front) own → own ≡ map (window_up (length front)) (windows q (x ∷ ys) ended)
  behind_is front x ys good ended before own is cut begins ends past =
      let t = length front in
      let none : NoneCrosses t (windows q (front ++ x ∷ ys) ended) = subst (NoneCrosses t) (sym is) (none_crosses t before own ends past) in
      let moved = All-map (λ w. t < w.first) (window_up t) (windows q (x ∷ ys) ended)
      (All-weaker (Own (length (x ∷ ys))) (λ w. t < (window_up t w).first) (λ w its. let low = its.low in omega arith) (windows q (x ∷ ys) ended) (all_own q limits (x ∷ ys) ended (good_back q front (x ∷ ys) good))) in
      (split_at t before own (windows q front true) (map (window_up t) (windows q (x ∷ ys) ended)) (sym is ∙ cut_both q limits front x ys good ended cut none) begins past (begin_by front true (good_front q front (x ∷ ys) good)) moved).1

  -- what is visible of a window does not depend on the end of input
  seen_ended : (events : List Event) → Good q events → (ended : Bool) (consumed : List ℕ) (k : ℕ) → visible events consumed (slice_get (windows q events ended) k) ≡ visible events consumed (slice_get (windows q events true) k)
  seen_ended events good ended consumed k =
      ap (λ (l : List Window). visible events consumed (slice_get l k)) (windows_are q limits events ended good)
      ∙ ap (visible events consumed) (slice_get-map (window_of events ended) (opened q events) k)
      ∙ either (slice_get (opened q events) k)
      ∙ sym (ap (λ (l : List Window). visible events consumed (slice_get l k)) (windows_are q limits events true good) ∙ ap (visible events consumed) (slice_get-map (window_of events true) (opened q events) k))
    where
      either : (o : Option Record) → visible events consumed (option_map (window_of events ended) o) ≡ visible events consumed (option_map (window_of events true) o)
      either None = refl
      either (Some r) = refl

-- what is visible in so many windows behind others is what is visible in those of a part by itself, moved on
abbrev pub Seen : Plan → List Event → List Event → ℕ → ℕ → ℕ → Type 0
Seen q events own a n k =
    (j : ℕ) → j < k → (before consumed : List ℕ) → All (λ c. c ≤ a) before
    → visible events (before ++ up a consumed) (slice_get (windows q events false) (n + j)) ≡ map (numbered_up a) (visible own consumed (slice_get (windows q own false) j))

-- windows in three parts: in front of an event, from there up to another, and behind that
pub record InThree (a b : ℕ) (before own later : List Window) : Type 0 where
  pub begins : BeginBy a before
  pub ends : EndBy a before
  pub behind : BeginBehind a own
  pub own_begins : BeginBy b own
  pub own_ends : EndBy b own
  pub past : BeginBehind b later

-- a part between other events
pub record IsPart (q : Plan) (events own : List Event) (a n k : ℕ) (ws : List Window) : Type 0 where
  pub seen : Seen q events own a n k
  pub windows_are : ws ≡ map (window_up a) (windows q own true)

module _ (q : Plan) (limits : IsWindowed q) (front own behind : List Event) (good : Good q (front ++ (own ++ behind))) where
  -- the windows between two events are those of the events between, moved on
  pub is_part : (before ws later : List Window) → windows q (front ++ (own ++ behind)) true ≡ before ++ (ws ++ later) → InThree (length front) (length front + length own) before ws later
      → MayCut q.opening (length front) → 0 < length own → IsPart q (front ++ (own ++ behind)) own (length front) (length before) (length ws) ws
  is_part before ws later is three cut some = by own refl
    where
      both : (front ++ own) ++ behind ≡ front ++ (own ++ behind)
      both = append_assoc front own behind

      good' : Good q ((front ++ own) ++ behind)
      good' = subst (Good q) (sym both) good

      size : length (front ++ own) ≡ length front + length own
      size = length-append front own

      in_front : windows q (front ++ own) true ≡ before ++ ws
      in_front =
          front_is q limits (front ++ own) behind good' true (before ++ ws) later (ap (λ (l : List Event). windows q l true) both ∙ is ∙ sym (append_assoc before ws later))
          (All-append (λ w. w.first ≤ length (front ++ own)) before ws (All-weaker (λ w. w.first ≤ length front) (λ w. w.first ≤ length (front ++ own)) (λ w le. omega (arith, size)) before three.begins) (All-weaker (λ w. w.first ≤ length front + length own) (λ w. w.first ≤ length (front ++ own)) (λ w le. omega (arith, size)) ws three.own_begins))
          (All-append (λ w. w.last ≤ length (front ++ own)) before ws (All-weaker (λ w. w.last ≤ length front) (λ w. w.last ≤ length (front ++ own)) (λ w le. omega (arith, size)) before three.ends) (All-weaker (λ w. w.last ≤ length front + length own) (λ w. w.last ≤ length (front ++ own)) (λ w le. omega (arith, size)) ws three.own_ends))
          (All-weaker (λ w. length front + length own < w.first) (λ w. length (front ++ own) < w.first) (λ w lt. omega (arith, size)) later three.past) refl

      good_own : Good q own
      good_own = good_back q front own (good_front q (front ++ own) behind good')

      by : (l : List Event) → l ≡ own → IsPart q (front ++ (own ++ behind)) own (length front) (length before) (length ws) ws
      by [] same = absurd (let none = ap length same in omega arith)
      by (x ∷ ys) same =
          let is_own : ws ≡ map (window_up (length front)) (windows q own true) =
          subst (λ (l : List Event). Good q (front ++ l) → windows q (front ++ l) true ≡ before ++ ws → ws ≡ map (window_up (length front)) (windows q l true)) same
          (λ g w. behind_is q limits front x ys g true before ws w cut three.begins three.ends three.behind) (good_front q (front ++ own) behind good') in_front in
          record { seen = λ j low earlier consumed bound. one is_own j low earlier consumed bound; windows_are = is_own }
        where
          one : ws ≡ map (window_up (length front)) (windows q own true) → Seen q (front ++ (own ++ behind)) own (length front) (length before) (length ws)
          one is_own j low earlier consumed bound =
              let a = length front in
              let count : length ws ≡ length (windows q own true) = ap length is_own ∙ length-map (windows q own true) (window_up a) in
              found is_own j low earlier consumed bound (get_there (windows q own true) j (omega arith))
            where
              found : ws ≡ map (window_up (length front)) (windows q own true) → (j : ℕ) → j < length ws → (earlier consumed : List ℕ) → All (λ c. c ≤ length front) earlier → (w : Window) × (slice_get (windows q own true) j ≡ Some w)
                  → visible (front ++ (own ++ behind)) (earlier ++ up (length front) consumed) (slice_get (windows q (front ++ (own ++ behind)) false) (length before + j)) ≡ map (numbered_up (length front)) (visible own consumed (slice_get (windows q own false) j))
              found is_own j low earlier consumed bound (w, there) =
                  let a = length front in
                  let all = front ++ (own ++ behind) in
                  let keeps = all_at (Own (length own)) (windows q own true) j w (all_own q limits own true good_own) there in
                  let at : slice_get (windows q all true) (length before + j) ≡ Some (window_up a w) =
                  ap (λ (l : List Window). slice_get l (length before + j)) is ∙ get_behind before (ws ++ later) j ∙ get_front ws later j low ∙ ap (λ (l : List Window). slice_get l j) is_own
                  ∙ slice_get-map (window_up a) (windows q own true) j ∙ ap (option_map (window_up a)) there in
                  let low' = keeps.low in
                  let high' = keeps.high in
                  seen_ended q limits all good false (earlier ++ up a consumed) (length before + j)
                  ∙ ap (visible all (earlier ++ up a consumed)) at
                  ∙ visible_moved front own behind w keeps.low keeps.high earlier consumed bound
                  ∙ ap (λ (o : Option Window). map (numbered_up a) (visible own consumed o)) (sym there)
                  ∙ ap (map (numbered_up a)) (sym (seen_ended q limits own good_own false consumed j))
