-- What a ticket lends, read on from the version's runs.
use Rattle.std.proofs.Common.{◌≡◌, ℕ, zero, suc, ◌+◌, ◌-◌, ◌<◌, ◌≤◌, Bool, true, cond, ◌||◌, nat_lt, List, [], ◌∷◌, take, drop, filter, Option, ⊎_elim, refl, sym, ap, ◌∙◌, arith}
use Rattle.std.specs.Prelude.{slice_get}
use Rattle.sp_base.proofs.RisingLists.{mem_left, mem_right, mem_cases}
use Rattle.sp_base.specs.Numbers.{is_among, with_numbers}
use Rattle.sp_plan.specs.declared.event.Event.{Event}
use Rattle.sp_plan.specs.declared.plan.Plan.{Plan}
use Rattle.sp_plan.specs.Runs.{State, after_closing}
use Rattle.sp_plan.specs.Reading.{event_of, after_event, reading}
use Rattle.sp_plan.specs.WindowNumbers.{first}
use Rattle.sp_group.specs.Machine.{Version, Ticket, Machine, inner, is_suppressed}
use Rattle.sp_rules.specs.Kept.{Lent}
use Rattle.sp_rules.specs.Lawful.{Lawful}
use Rattle.sp_rules.specs.ComingHome.{IsComingHome, FollowLent, come_home, events_lent}
use Rattle.sp_rules.proofs.Lists.{same_bool, lt_is, mem_filter, filter_mem}
use Rattle.sp_rules.proofs.Tree.{at_id}

get_behind : {X : Type 0} (j : ℕ) (xs : List X) (i : ℕ) → slice_get (drop j xs) i ≡ slice_get xs (j + i)
get_behind zero xs i = let at : i ≡ 0 + i = omega arith in ap (slice_get xs) at
get_behind (suc j) [] i = refl
get_behind (suc j) (x ∷ xs) i = let at : suc (j + i) ≡ suc j + i = omega arith in get_behind j xs i ∙ ap (slice_get (x ∷ xs)) at

get_in_front : {X : Type 0} (n : ℕ) (xs : List X) (i : ℕ) → i < n → slice_get (take n xs) i ≡ slice_get xs i
get_in_front zero xs i less = absurd (omega arith)
get_in_front (suc n) [] i less = refl
get_in_front (suc n) (x ∷ xs) zero less = refl
get_in_front (suc n) (x ∷ xs) (suc i) less = get_in_front n xs i (omega arith)

module _ (q : Plan) (law : Lawful q) (m : Machine) (n : ℕ) (t : Ticket) (v : Version) (k : ℕ) (closed : Bool) (comes : IsComingHome q m n t v k closed) where
  -- what is known of the ticket
  pub lent_is : Lent q m.events m.ended (is_suppressed q m t.version) v t
  lent_is = (comes.kept.sane.each t.version v comes.live).lent n t comes.out (sym (at_id m.versions t.version v comes.live))

  -- the numbers that the version skips once it has come home
  abbrev skipped : List ℕ
  skipped = with_numbers v.skipped (filter (λ i. nat_lt i (t.first + k)) t.snapshot)

  -- the runs of the version once it has read so many of the events
  abbrev home_reading : ℕ → State
  home_reading j = reading q m.events skipped (first q m.events v.window) (v.position + j)

  -- of the numbers read before, nothing more is skipped
  skips_before : (i : ℕ) → first q m.events v.window ≤ i → i < first q m.events v.window + v.position → is_among v.skipped i ≡ is_among skipped i
  skips_before i low high = same_bool (is_among v.skipped i) (is_among skipped i) (λ h. mem_left i v.skipped passed h)
      (λ h. ⊎_elim (λ (y : is_among v.skipped i ≡ true). y)
      (λ (y : is_among passed i ≡ true). let a = mem_filter i (λ i. nat_lt i (t.first + k)) t.snapshot y in let b = (lent_is.snapshot i a.0).1 in let c = lent_is.begins in absurd (omega arith))
      (mem_cases i v.skipped passed h))
    where
      passed : List ℕ
      passed = filter (λ i. nat_lt i (t.first + k)) t.snapshot

  -- of the numbers lent, those of the snapshot are skipped
  skips_lent : (j : ℕ) → j < k → is_among t.snapshot (t.first + j) ≡ is_among skipped (t.first + j)
  skips_lent j less = same_bool (is_among t.snapshot i) (is_among skipped i)
      (λ h. mem_right i v.skipped passed (filter_mem i (λ i. nat_lt i (t.first + k)) t.snapshot h (lt_is i (t.first + k) (omega arith))))
      (λ h. ⊎_elim
      (λ (y : is_among v.skipped i ≡ true). let a = (comes.kept.sane.each t.version v comes.live).read_them i y in let b = lent_is.begins in absurd (omega arith))
      (λ (y : is_among passed i ≡ true). (mem_filter i (λ i. nat_lt i (t.first + k)) t.snapshot y).0)
      (mem_cases i v.skipped passed h))
    where
      i : ℕ
      i = t.first + j

      passed : List ℕ
      passed = filter (λ i. nat_lt i (t.first + k)) t.snapshot

  -- a lent event is the one of its number
  lent_event : (j : ℕ) → j < k → slice_get (events_lent m.events t) j ≡ event_of m.events (t.first + j)
  lent_event j less =
      let here = comes.kept.sane.each t.version v comes.live in
      let low = law.windows.hold_events.low m.events v.window (record { good = comes.kept.sane.good; low = here.there.0; high = here.there.1 }) in
      let begins = lent_is.begins in
      let most = comes.so_far.within in
      let at : t.first - 1 + j ≡ t.first + j - 1 = omega arith in
      get_in_front t.count (drop (t.first - 1) m.events) j (omega arith) ∙ get_behind (t.first - 1) m.events j ∙ ap (slice_get m.events) at

  module _ (after : ℕ → State) (follows : FollowLent q (events_lent m.events t) t.first t.snapshot (inner q m.events v) after) where
    reads_lent : (j : ℕ) → j ≤ k → after j ≡ home_reading j
    reads_lent zero less =
        let at : v.position ≡ v.position + 0 = omega arith in
        follows.begins
        ∙ ap (λ (b : Bool). cond b (after_closing (reading q m.events v.skipped (first q m.events v.window) v.position)) (reading q m.events v.skipped (first q m.events v.window) v.position)) lent_is.undone
        ∙ law.runs.events_by_number.skipped_within q m.events v.skipped skipped (first q m.events v.window) v.position skips_before
        ∙ ap (reading q m.events skipped (first q m.events v.window)) at
    reads_lent (suc j) less =
        let begins = lent_is.begins in
        let number : t.first + j ≡ first q m.events v.window + (v.position + j) = omega arith in
        let at : suc (v.position + j) ≡ v.position + suc j = omega arith in
        follows.next j
        ∙ ap (λ (b : Bool). cond b (after j) (after_event q (after j) (t.first + j) (slice_get (events_lent m.events t) j))) (skips_lent j (omega arith))
        ∙ ap (λ (o : Option Event). cond (is_among skipped (t.first + j)) (after j) (after_event q (after j) (t.first + j) o)) (lent_event j (omega arith))
        ∙ ap (λ (s : State). cond (is_among skipped (t.first + j)) s (after_event q s (t.first + j) (event_of m.events (t.first + j)))) (reads_lent j (omega arith))
        ∙ ap (λ (i : ℕ). cond (is_among skipped i) (home_reading j) (after_event q (home_reading j) i (event_of m.events i))) number
        ∙ ap (reading q m.events skipped (first q m.events v.window)) at

    pub piece_comes_home : cond closed (after_closing (after k)) (after k) ≡ inner q m.events (come_home v t k closed)
    piece_comes_home =
        ap (λ (s : State). cond closed (after_closing s) s) (reads_lent k (omega arith))
        ∙ sym (ap (λ (b : Bool). cond (b || closed) (after_closing (home_reading k)) (home_reading k)) lent_is.undone)
