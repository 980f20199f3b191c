-- The matches of an input are those of its parts, each moved on; and parts lie within the input: part by part.
use Rattle.std.proofs.Common.{◌≡◌, ◌⊎◌, inl, inr, ℕ, suc, ◌+◌, ◌-◌, ◌<◌, ◌≤◌, Bool, true, false, List, [], ◌∷◌, ◌++◌, length, map, take, drop, refl, sym, ap, ◌∙◌, subst, arith, length-append, append_assoc, length-drop}
use Rattle.std.specs.Prelude.{filter}
use Rattle.std.specs.List.{All}
use Rattle.std.proofs.lemmas.Bool.{cases_Bool, or_left}
use Rattle.std.proofs.lemmas.List.{append-nil, length-map, map-append, take-append-drop, length-take-le, nil_from_length}
use Rattle.std.proofs.lemmas.List.Elements.{All-nil, All-cons, All-head, All-tail, All-append, All-weaker, All-map, filter-append}
use Rattle.sp_plan.specs.declared.event.Event.{Event}
use Rattle.sp_plan.specs.declared.found.Match.{Match}
use Rattle.sp_plan.specs.declared.plan.Plan.{Plan}
use Rattle.sp_plan.specs.Windows.{Window, windows, closed, IsWindowed}
use Rattle.sp_plan.specs.WindowNumbers.{Good, count}
use Rattle.sp_plan.specs.Sequential.{Progress, seq}
use Rattle.sp_window.specs.Openings.{opened}
use Rattle.sp_window.proofs.Lists.{filter_all, filter_fewer, all_front, all_both, count_map}
use Rattle.sp_window.proofs.Numbers.{closed_come_first}
use Rattle.sp_window.proofs.WindowsAre.{window_of}
use Rattle.sp_window.proofs.SpansAre.{windows_are}
use Rattle.sp_parts.specs.Parts.{Part, grouped, is_closed, part_of, parts_from}
use Rattle.sp_parts.specs.Shifted.{shifted, own_matches, shifted_from}
use Rattle.sp_parts.specs.Laws.{PartsFallApart, PartsLieWithin, AreParts, LiesWithin, MovesWithin}
use Rattle.sp_parts.proofs.Lists.{map_map}
use Rattle.sp_parts.proofs.Moved.{up}
use Rattle.sp_parts.proofs.Places.{all_back, good_front, good_back}
use Rattle.sp_parts.proofs.Opening.{MayCut}
use Rattle.sp_parts.proofs.Cutting.{window_up}
use Rattle.sp_parts.proofs.Order.{InTurn, Own, in_turn, all_own, may_cut, in_turn_back, in_turn_front, last_from, ends_low, closed_low, begins_high}
use Rattle.sp_parts.proofs.Groups.{joined, InFront, AreGroups, grouped_joined, grouped_groups, part_between, last_is, in_front_earlier, begin_past}
use Rattle.sp_parts.proofs.Stepping.{match_up, progress_up, consumed_low, MatchLow, matches_low, seq_moved}
use Rattle.sp_parts.proofs.Splitting.{Seen, InThree, IsPart, is_part, behind_is}

-- a window once input has ended
abbrev shut : Window → Window
shut w = record { first = w.first; last = w.last; closed = true }

-- how many windows there are, whether or not input has ended
count_ended : (q : Plan) → IsWindowed q → (events : List Event) (ended : Bool) → Good q events → count q events ≡ length (windows q events ended)
count_ended q limits events ended good =
    ap length (windows_are q limits events false good) ∙ length-map (opened q events) (window_of events false)
    ∙ sym (ap length (windows_are q limits events ended good) ∙ length-map (opened q events) (window_of events ended))

-- how many windows are closed
abbrev closed_in : List Window → ℕ
closed_in ws = length (filter (λ w. w.closed) ws)

-- the windows once input has ended
all_shut : (q : Plan) → IsWindowed q → (events : List Event) (ended : Bool) → Good q events → windows q events true ≡ map shut (windows q events ended)
all_shut q limits events ended good =
    windows_are q limits events true good ∙ sym (map_map (window_of events ended) shut (opened q events)) ∙ ap (map shut) (sym (windows_are q limits events ended good))

-- where input has ended each window is closed
ended_closed : (q : Plan) → IsWindowed q → (events : List Event) (ended : Bool) → Good q events → ended ≡ true → All (λ w. w.closed ≡ true) (windows q events ended)
ended_closed q limits events ended good end =
    subst (All (λ w. w.closed ≡ true)) (sym (windows_are q limits events ended good))
    (All-map (λ w. w.closed ≡ true) (window_of events ended) (opened q events) (λ k d low. or_left ended _ end))

-- how many of the windows are closed where all are
all_closed_in : (ws : List Window) → All (λ w. w.closed ≡ true) ws → closed_in ws ≡ length ws
all_closed_in ws all = ap length (filter_all (λ w. w.closed) ws all)

-- and in two parts
closed_in_both : (xs ys : List Window) → closed_in (xs ++ ys) ≡ closed_in xs + closed_in ys
closed_in_both xs ys = ap length (filter-append (λ w. w.closed) xs ys) ∙ length-append (filter (λ w. w.closed) xs) (filter (λ w. w.closed) ys)

-- what all windows keep, the last one does
at_last : (P : Window → Type 0) (w : Window) (ws : List Window) → All P (w ∷ ws) → P (last_from w ws)
at_last P w [] all = All-head P w [] all
at_last P w (v ∷ ws) all = at_last P v ws (All-tail P w (v ∷ ws) all)

-- how far the parts were gone through: the windows of those done, and the groups to come
record Reached (q : Plan) (events : List Event) (ended : Bool) (done : List Window) (groups : List (List Window)) : Type 0 where
  is : windows q events ended ≡ done ++ joined groups
  are : AreGroups groups
  before : All (λ w. InFront groups w.last) done
  used : All (InFront groups) (seq q events (length done)).consumed

-- what is to be shown of the groups to come
abbrev Comes : Plan → List Event → ℕ → ℕ → List (List Window) → Type 0
Comes q events n more groups =
    (seq q events (n + more)).matches ≡ (seq q events n).matches ++ shifted_from q (length (seq q events n).matches) (parts_from events n groups)

module _ (q : Plan) (limits : IsWindowed q) (events : List Event) (ended : Bool) (good : Good q events) where
  -- the part of one group
  module _ (done : List Window) (v : Window) (g : List Window) (groups : List (List Window)) (r : Reached q events ended done ((v ∷ g) ∷ groups)) where
    abbrev ws : List Window
    ws = v ∷ g

    abbrev last : ℕ
    last = (last_from v g).last

    abbrev a : ℕ
    a = v.first - 1

    abbrev size : ℕ
    size = last + 1 - v.first

    abbrev front : List Event
    front = take a events

    abbrev own : List Event
    own = take size (drop a events)

    abbrev behind : List Event
    behind = drop size (drop a events)

    turn_all : InTurn (done ++ (ws ++ joined groups))
    turn_all = subst InTurn r.is (in_turn q limits events ended good)

    turn : InTurn ws
    turn = in_turn_front ws (joined groups) (in_turn_back done (ws ++ joined groups) turn_all)

    turn_later : InTurn (joined groups)
    turn_later = in_turn_back ws (joined groups) (in_turn_back done (ws ++ joined groups) turn_all)

    own_all : All (Own (length events)) (done ++ (ws ++ joined groups))
    own_all = subst (All (Own (length events))) r.is (all_own q limits events ended good)

    own_ws : All (Own (length events)) ws
    own_ws = all_front (Own (length events)) ws (joined groups) (all_back (Own (length events)) done (ws ++ joined groups) own_all)

    own_later : All (Own (length events)) (joined groups)
    own_later = all_back (Own (length events)) ws (joined groups) (all_back (Own (length events)) done (ws ++ joined groups) own_all)

    own_done : All (Own (length events)) done
    own_done = all_front (Own (length events)) done (ws ++ joined groups) own_all

    own_first : Own (length events) v
    own_first = All-head (Own (length events)) v g own_ws

    own_last : Own (length events) (last_from v g)
    own_last = at_last (Own (length events)) v g own_ws

    up_to : v.first ≤ last
    up_to =
        let some = own_first.some in
        let low = All-head (λ w. w.last ≤ last) v g (ends_low v g turn) in
        omega arith

    front_size : length front ≡ a
    front_size = let low = own_first.low in let high = own_last.high in let some = up_to in length-take-le a events (omega arith)

    own_size : length own ≡ size
    own_size = let low = own_first.low in let high = own_last.high in let some = up_to in let rest = length-drop a events in length-take-le size (drop a events) (omega arith)

    reach : length front + length own ≡ last
    reach = let low = own_first.low in let some = up_to in let f = front_size in let o = own_size in omega arith

    in_parts : front ++ (own ++ behind) ≡ events
    in_parts = ap (λ (l : List Event). front ++ l) (take-append-drop size (drop a events)) ∙ take-append-drop a events

    cut : MayCut q.opening (length front)
    cut =
        let all = subst (All (λ w. MayCut q.opening (w.first - 1))) r.is (may_cut q events ended) in
        subst (MayCut q.opening) (sym front_size) (All-head (λ w. MayCut q.opening (w.first - 1)) v (g ++ joined groups) (all_back (λ w. MayCut q.opening (w.first - 1)) done (ws ++ joined groups) all))

    done_ends : All (λ w. (w.first ≤ length front) × (w.last ≤ length front)) done
    done_ends =
        All-weaker (λ w. Own (length events) w × (w.last < v.first)) (λ w. (w.first ≤ length front) × (w.last ≤ length front))
        (λ w its. let some = its.0.some in let lt = its.1 in let f = front_size in (omega arith, omega arith)) done
        (all_both (Own (length events)) (λ w. w.last < v.first) done own_done r.before)

    -- the windows of the part stand between those done and those to come
    in_three : InThree (length front) (length front + length own) done ws (joined groups)
    in_three = record {
      begins = All-weaker (λ w. (w.first ≤ length front) × (w.last ≤ length front)) (λ w. w.first ≤ length front) (λ w its. its.0) done done_ends;
      ends = All-weaker (λ w. (w.first ≤ length front) × (w.last ≤ length front)) (λ w. w.last ≤ length front) (λ w its. its.1) done done_ends;
      behind = All-weaker (λ w. v.first ≤ w.first) (λ w. length front < w.first) (λ w le. let f = front_size in let low = own_first.low in omega arith) ws (begins_high v g turn);
      own_begins = All-weaker (λ w. Own (length events) w × (w.last ≤ last)) (λ w. w.first ≤ length front + length own) (λ w its. let some = its.0.some in let le = its.1 in let f = reach in omega arith) ws (all_both (Own (length events)) (λ w. w.last ≤ last) ws own_ws (ends_low v g turn));
      own_ends = All-weaker (λ w. w.last ≤ last) (λ w. w.last ≤ length front + length own) (λ w le. let f = reach in omega arith) ws (ends_low v g turn);
      past = All-weaker (λ w. last < w.first) (λ w. length front + length own < w.first) (λ w lt. let f = reach in omega arith) (joined groups) (begin_past groups last turn_later r.are.1);
    }

    -- the same of the windows once input has ended
    shut_three : InThree (length front) (length front + length own) (map shut done) (map shut ws) (map shut (joined groups))
    shut_three = record {
      begins = All-map (λ w. w.first ≤ length front) shut done in_three.begins;
      ends = All-map (λ w. w.last ≤ length front) shut done in_three.ends;
      behind = All-map (λ w. length front < w.first) shut ws in_three.behind;
      own_begins = All-map (λ w. w.first ≤ length front + length own) shut ws in_three.own_begins;
      own_ends = All-map (λ w. w.last ≤ length front + length own) shut ws in_three.own_ends;
      past = All-map (λ w. length front + length own < w.first) shut (joined groups) in_three.past;
    }

    windows_shut : windows q events true ≡ map shut done ++ (map shut ws ++ map shut (joined groups))
    windows_shut = all_shut q limits events ended good ∙ ap (map shut) r.is ∙ map-append shut done (ws ++ joined groups) ∙ ap (λ (l : List Window). map shut done ++ l) (map-append shut ws (joined groups))

    some_own : 0 < length own
    some_own = let o = own_size in let some = up_to in omega arith

    part : IsPart q events own (length front) (length (map shut done)) (length (map shut ws)) (map shut ws)
    part =
        subst (λ (l : List Event). Good q l → windows q l true ≡ map shut done ++ (map shut ws ++ map shut (joined groups)) → IsPart q l own (length front) (length (map shut done)) (length (map shut ws)) (map shut ws)) in_parts
        (λ fine is. is_part q limits front own behind fine (map shut done) (map shut ws) (map shut (joined groups)) is shut_three cut some_own) good windows_shut

    seen : Seen q events own a (length done) (length ws)
    seen =
        subst (λ (n : ℕ). Seen q events own n (length done) (length ws)) front_size
        (subst (λ (n : ℕ). Seen q events own (length front) n (length ws)) (length-map done shut)
        (subst (λ (n : ℕ). Seen q events own (length front) (length (map shut done)) n) (length-map ws shut) part.seen))

    used_low : All (λ c. c ≤ a) (seq q events (length done)).consumed
    used_low = All-weaker (λ c. c < v.first) (λ c. c ≤ a) (λ c lt. omega arith) (seq q events (length done)).consumed r.used

    -- what so many windows of the part come to
    part_moved : (j : ℕ) → j ≤ length ws → seq q events (length done + j) ≡ progress_up a (length done) (seq q events (length done)) (seq q own j)
    part_moved j le = seq_moved q a (length done) events own (length ws) seen used_low j le

    -- the part, by its events
    abbrev made : Bool → Part
    made b = record { first = v.first; windows = length done; closed = b; events = own }

    part_is : (b : Bool) → (last_from v g).closed ≡ b → part_of events (length done) ws ≡ made b
    part_is b is = part_between events (length done) v g r.are.0 turn own_first.low up_to ∙ (λ i. record { first = v.first; windows = length done; closed = is i; events = own })

    -- by itself it has as many windows
    own_count : closed q own true ≡ length ws
    own_count =
        sym (count_map (window_up (length front)) (λ w. w.closed) (windows q own true)) ∙ ap closed_in (sym part.windows_are)
        ∙ all_closed_in (map shut ws) (All-map (λ w. w.closed ≡ true) shut ws (λ k d low. refl)) ∙ length-map ws shut

    -- the matches of the part and the later ones, as they are shifted
    shifted_comes : (b : Bool) (j : ℕ) → (last_from v g).closed ≡ b → closed q own b ≡ j → (before : ℕ)
        → shifted_from q before (parts_from events (length done) (ws ∷ groups))
        ≡ map (match_up a (length done) before) (seq q own j).matches ++ shifted_from q (before + length (seq q own j).matches) (parts_from events (length done + length ws) groups)
    shifted_comes b j is count before =
        ap (λ (p : Part). map (shifted p before) (own_matches q p) ++ shifted_from q (before + length (own_matches q p)) (parts_from events (length done + length ws) groups)) (part_is b is)
        ∙ ap (λ (n : ℕ). map (match_up a (length done) before) (seq q own n).matches ++ shifted_from q (before + length (seq q own n).matches) (parts_from events (length done + length ws) groups)) count

    -- where the last window of the part is closed its windows are done
    next : (last_from v g).closed ≡ true → Reached q events ended (done ++ ws) groups
    next is = record {
      is = r.is ∙ sym (append_assoc done ws (joined groups));
      are = r.are.2;
      before = All-append (λ w. InFront groups w.last) done ws
          (All-weaker (λ w. w.last < v.first) (λ w. InFront groups w.last) (λ w lt. let some = up_to in in_front_earlier groups w.last last (omega arith) r.are.1) done r.before)
          (All-weaker (λ w. w.last ≤ last) (λ w. InFront groups w.last) (λ w le. in_front_earlier groups w.last last le r.are.1) ws (ends_low v g turn));
      used = subst (λ (n : ℕ). All (InFront groups) (seq q events n).consumed) (sym (length-append done ws))
          (subst (λ (p : Progress). All (InFront groups) p.consumed) (sym (part_moved (length ws) (omega arith)))
          (All-append (InFront groups) (seq q events (length done)).consumed (up a (seq q own (length ws)).consumed)
          (All-weaker (λ c. c < v.first) (InFront groups) (λ c lt. let some = up_to in in_front_earlier groups c last (omega arith) r.are.1) (seq q events (length done)).consumed r.used)
          (All-map (InFront groups) (λ c. c + a) (seq q own (length ws)).consumed
          (All-weaker (λ c. c ≤ length own) (λ c. InFront groups (c + a)) (λ c le. let o = own_size in let low = own_first.low in let some = up_to in in_front_earlier groups (c + a) last (omega arith) r.are.1) (seq q own (length ws)).consumed (consumed_low q own (length ws))))));
    }

    -- its windows and then the later ones
    closed_comes : (last_from v g).closed ≡ true → Comes q events (length (done ++ ws)) (closed_in (joined groups)) groups → Comes q events (length done) (closed_in (ws ++ joined groups)) (ws ∷ groups)
    closed_comes is rest =
        let n = length done in
        let k = length ws in
        let c = closed_in (joined groups) in
        let M = (seq q events n).matches in
        let change : Match → Match = match_up a n (length M) in
        let O = (seq q own k).matches in
        let moved : (seq q events (n + k)).matches ≡ M ++ map change O = ap (λ (p : Progress). p.matches) (part_moved k (omega arith)) in
        let all : closed_in (ws ++ joined groups) ≡ k + c = closed_in_both ws (joined groups) ∙ ap (λ (m : ℕ). m + c) (all_closed_in ws (closed_low v g turn is)) in
        let at : n + closed_in (ws ++ joined groups) ≡ n + k + c = omega arith in
        let here : Comes q events (n + k) c groups = subst (λ (m : ℕ). Comes q events m c groups) (length-append done ws) rest in
        let later = parts_from events (n + k) groups in
        let size : length (M ++ map change O) ≡ length M + length O = length-append M (map change O) ∙ ap (λ (m : ℕ). length M + m) (length-map O change) in
        ap (λ (m : ℕ). (seq q events m).matches) at ∙ here
        ∙ ap (λ (l : List Match). l ++ shifted_from q (length l) later) moved
        ∙ ap (λ (m : ℕ). (M ++ map change O) ++ shifted_from q m later) size
        ∙ append_assoc M (map change O) (shifted_from q (length M + length O) later)
        ∙ ap (λ (l : List Match). M ++ l) (sym (shifted_comes true k is own_count (length M)))

    -- its events
    good_own : Good q own
    good_own = good_back q front own (good_front q (front ++ own) behind (subst (Good q) (sym (append_assoc front own behind ∙ in_parts)) good))

    -- it lies within the input
    lies_within : LiesWithin q events (part_of events (length done) ws)
    lies_within =
        let b = (last_from v g).closed in
        let n = length done in
        let low = own_first.low in
        let high = own_last.high in
        let f = front_size in
        let reaches = reach in
        let own_windows : count q own ≡ length ws = count_ended q limits own true good_own ∙ sym (length-map (windows q own true) (window_up (length front))) ∙ ap length (sym part.windows_are) ∙ length-map ws shut in
        let all_windows : count q events ≡ n + (length ws + length (joined groups)) = count_ended q limits events ended good ∙ ap length r.is ∙ length-append done (ws ++ joined groups) ∙ ap (λ (m : ℕ). n + m) (length-append ws (joined groups)) in
        let few = (closed_come_first q limits).within own b good_own in
        let up_to : (m : ℕ) → m ≤ length own → m + (v.first - 1) ≤ length events = λ m le. omega arith in
        subst (LiesWithin q events) (sym (part_is b refl)) (record {
          first = own_first.low;
          some = some_own;
          within = omega arith;
          good = good_own;
          moves = All-weaker (MatchLow (length own) (closed q own b)) (MovesWithin q events (made b))
              (λ m its. record {
                window = let le = its.window in omega arith;
                used = All-weaker (λ k. k ≤ length own) (λ k. k + (v.first - 1) ≤ length events) up_to m.used its.used;
                bound = All-weaker (λ pair. All (λ k. k ≤ length own) pair.1) (λ pair. All (λ k. k + (v.first - 1) ≤ length events) pair.1) (λ pair own'. All-weaker (λ k. k ≤ length own) (λ k. k + (v.first - 1) ≤ length events) up_to pair.1 own') m.bound its.bound;
              }) (seq q own (closed q own b)).matches (matches_low q own (closed q own b));
        })

    -- whether it is closed
    part_closed : (last_from v g).closed ≡ true → (part_of events (length done) ws).closed ≡ true
    part_closed is = ap is_closed (last_is v g) ∙ is

    -- where input has ended it is
    closed_at_end : ended ≡ true → (last_from v g).closed ≡ true
    closed_at_end end =
        let all = subst (All (λ w. w.closed ≡ true)) r.is (ended_closed q limits events ended good end) in
        at_last (λ w. w.closed ≡ true) v g (all_front (λ w. w.closed ≡ true) ws (joined groups) (all_back (λ w. w.closed ≡ true) done (ws ++ joined groups) all))

  -- an open window is in the last part
  open_last : (done : List Window) (v : Window) (g : List Window) (groups : List (List Window)) → Reached q events ended done ((v ∷ g) ∷ groups) → (last_from v g).closed ≡ false → groups ≡ []
  open_last done v g [] r free = refl
  open_last done v g ([] ∷ groups) r free = absurd r.are.2
  open_last done v g ((u ∷ h) ∷ groups) r free =
      let at = (own_last done v g ((u ∷ h) ∷ groups) r).open' free in
      let later = All-head (Own (length events)) u (h ++ joined groups) (own_later done v g ((u ∷ h) ∷ groups) r) in
      let lt = r.are.1 in
      let some = later.some in
      let high = later.high in
      absurd (omega arith)

  -- the last part, where its last window is open
  open_comes : (done : List Window) (v : Window) (g : List Window) → (r : Reached q events ended done ((v ∷ g) ∷ [])) → (last_from v g).closed ≡ false → Comes q events (length done) (closed_in ((v ∷ g) ++ [])) ((v ∷ g) ∷ [])
  open_comes done v g r free =
      let n = length done in
      let ws = v ∷ g in
      let j = closed_in ws in
      let M = (seq q events n).matches in
      let change : Match → Match = match_up (v.first - 1) n (length M) in
      let O = (seq q (own done v g [] r) j).matches in
      let all : closed_in (ws ++ []) ≡ j = ap closed_in (append-nil ws) in
      let few : j ≤ length ws = filter_fewer (λ w. w.closed) ws in
      let moved : (seq q events (n + j)).matches ≡ M ++ map change O = ap (λ (p : Progress). p.matches) (part_moved done v g [] r j few) in
      ap (λ (m : ℕ). (seq q events (n + m)).matches) all ∙ moved
      ∙ ap (λ (l : List Match). M ++ l) (sym (append-nil (map change O)) ∙ sym (shifted_comes done v g [] r false j free (count (cases_Bool ended)) (length M)))
    where
      count : (ended ≡ true) ⊎ (ended ≡ false) → closed q (own done v g [] r) false ≡ closed_in (v ∷ g)
      count (inl end) = let its = closed_at_end done v g [] r end in absurd (cc (its, free))
      count (inr open') =
          sym (count_map (window_up (length (front done v g [] r))) (λ w. w.closed) (windows q (own done v g [] r) false)) ∙ ap closed_in (sym (by (own done v g [] r) refl))
        where
          nothing : behind done v g [] r ≡ []
          nothing =
              let at = (own_last done v g [] r).open' free in
              let f = reach done v g [] r in
              let whole' = ap length (in_parts done v g [] r) in
              let first = length-append (front done v g [] r) (own done v g [] r ++ behind done v g [] r) in
              let second = length-append (own done v g [] r) (behind done v g [] r) in
              nil_from_length (behind done v g [] r) (omega arith)

          in_two : front done v g [] r ++ own done v g [] r ≡ events
          in_two = ap (λ (l : List Event). front done v g [] r ++ l) (sym (append-nil (own done v g [] r)) ∙ ap (λ (l : List Event). own done v g [] r ++ l) (sym nothing)) ∙ in_parts done v g [] r

          split : windows q events false ≡ done ++ (v ∷ g)
          split = ap (λ (b : Bool). windows q events b) (sym open') ∙ r.is ∙ ap (λ (l : List Window). done ++ l) (append-nil (v ∷ g))

          by : (l : List Event) → l ≡ own done v g [] r → v ∷ g ≡ map (window_up (length (front done v g [] r))) (windows q (own done v g [] r) false)
          by [] same = absurd (let some = some_own done v g [] r in let none = ap length same in omega arith)
          by (x ∷ ys) same =
              let both : front done v g [] r ++ x ∷ ys ≡ events = ap (λ (l : List Event). front done v g [] r ++ l) same ∙ in_two in
              let three = in_three done v g [] r in
              subst (λ (l : List Event). v ∷ g ≡ map (window_up (length (front done v g [] r))) (windows q l false)) same
              (behind_is q limits (front done v g [] r) x ys (subst (Good q) (sym both) good) false done (v ∷ g) (ap (λ (l : List Event). windows q l false) both ∙ split) (cut done v g [] r) three.begins three.ends three.behind)

  -- the groups one after another
  all_come : (groups : List (List Window)) (done : List Window) → Reached q events ended done groups → Comes q events (length done) (closed_in (joined groups)) groups
  all_come [] done r =
      let at : length done + 0 ≡ length done = omega arith in
      ap (λ (m : ℕ). (seq q events m).matches) at ∙ sym (append-nil (seq q events (length done)).matches)
  all_come ([] ∷ groups) done r = absurd r.are
  all_come ((v ∷ g) ∷ groups) done r = elim (cases_Bool (last_from v g).closed) [
    | inl is ↦ closed_comes done v g groups r is (all_come groups (done ++ (v ∷ g)) (next done v g groups r is))
    | inr free ↦
        let none = open_last done v g groups r free in
        subst (λ (l : List (List Window)). Reached q events ended done ((v ∷ g) ∷ l) → Comes q events (length done) (closed_in ((v ∷ g) ++ joined l)) ((v ∷ g) ∷ l)) (sym none) (λ r. open_comes done v g r free) r
  ]

  -- the parts of the groups
  all_parts : (groups : List (List Window)) (done : List Window) → Reached q events ended done groups → AreParts q events ended (parts_from events (length done) groups)
  all_parts [] done r = record { within = All-nil (LiesWithin q events); closed_before = All-nil (λ (part : Part). part.closed ≡ true); closed_at_end = λ end. All-nil (λ (part : Part). part.closed ≡ true) }
  all_parts ([] ∷ groups) done r = absurd r.are
  all_parts ((v ∷ g) ∷ groups) done r = elim (cases_Bool (last_from v g).closed) [
    | inl is ↦
        let rest = subst (λ (n : ℕ). AreParts q events ended (parts_from events n groups)) (length-append done (v ∷ g)) (all_parts groups (done ++ (v ∷ g)) (next done v g groups r is)) in
        parts_more (part_of events (length done) (v ∷ g)) (parts_from events (length done + length (v ∷ g)) groups) (lies_within done v g groups r) (part_closed done v g groups r is) rest
    | inr free ↦
        let none = open_last done v g groups r free in
        subst (λ (l : List (List Window)). Reached q events ended done ((v ∷ g) ∷ l) → AreParts q events ended (parts_from events (length done) ((v ∷ g) ∷ l))) (sym none) (λ r. one_part (part_of events (length done) (v ∷ g)) (lies_within done v g [] r) (λ end. part_closed done v g [] r (closed_at_end done v g [] r end))) r
  ]
    where
      one_part : (p : Part) → LiesWithin q events p → (ended ≡ true → p.closed ≡ true) → AreParts q events ended (p ∷ [])
      one_part p lies at_end = record {
        within = All-cons (LiesWithin q events) p [] lies (All-nil (LiesWithin q events));
        closed_before = All-nil (λ (part : Part). part.closed ≡ true);
        closed_at_end = λ end. All-cons (λ (part : Part). part.closed ≡ true) p [] (at_end end) (All-nil (λ (part : Part). part.closed ≡ true));
      }

      front_closed : (p : Part) (rest : List Part) → p.closed ≡ true → All (λ (part : Part). part.closed ≡ true) (take (length rest - 1) rest) → All (λ (part : Part). part.closed ≡ true) (take (length (p ∷ rest) - 1) (p ∷ rest))
      front_closed p [] is all = All-nil (λ (part : Part). part.closed ≡ true)
      front_closed p (u ∷ rest) is all =
          let size : length (p ∷ u ∷ rest) - 1 ≡ suc (length (u ∷ rest) - 1) = omega arith in
          subst (λ (n : ℕ). All (λ (part : Part). part.closed ≡ true) (take n (p ∷ u ∷ rest))) (sym size) (All-cons (λ (part : Part). part.closed ≡ true) p (take (length (u ∷ rest) - 1) (u ∷ rest)) is all)

      parts_more : (p : Part) (rest : List Part) → LiesWithin q events p → p.closed ≡ true → AreParts q events ended rest → AreParts q events ended (p ∷ rest)
      parts_more p rest lies is are = record {
        within = All-cons (LiesWithin q events) p rest lies are.within;
        closed_before = front_closed p rest is are.closed_before;
        closed_at_end = λ end. All-cons (λ (part : Part). part.closed ≡ true) p rest is (are.closed_at_end end);
      }

-- before the first part
start : (q : Plan) (events : List Event) (ended : Bool) → Reached q events ended [] (grouped (windows q events ended))
start q events ended =
    let ws = windows q events ended in
    record {
      is = sym (grouped_joined ws);
      are = grouped_groups ws;
      before = All-nil (λ w. InFront (grouped ws) w.last);
      used = All-nil (InFront (grouped ws));
    }

-- the law of parts
pub parts_fall_apart : PartsFallApart
parts_fall_apart q events ended limits fit order =
    let groups = grouped (windows q events ended) in
    let at : closed q events ended ≡ 0 + closed_in (joined groups) = let all = ap closed_in (grouped_joined (windows q events ended)) in omega arith in
    ap (λ (m : ℕ). (seq q events m).matches) at ∙ all_come q limits events ended (fit, order) groups [] (start q events ended)

-- the law of what parts are within an input
pub parts_lie_within : PartsLieWithin
parts_lie_within q events ended limits fit order = all_parts q limits events ended (fit, order) (grouped (windows q events ended)) [] (start q events ended)
