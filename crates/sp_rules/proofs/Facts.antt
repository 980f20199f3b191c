-- What the laws of the matcher and of the windows come to, in the words of the machine.
use Rattle.std.proofs.Common.{◌≡◌, ℕ, suc, ◌+◌, ◌<◌, ◌≤◌, Bool, true, false, List, [], ◌∷◌, ◌++◌, length, arith}
use Rattle.sp_base.specs.Numbers.{is_among}
use Rattle.sp_plan.specs.declared.event.Event.{Event}
use Rattle.sp_plan.specs.declared.plan.Plan.{Plan}
use Rattle.sp_plan.specs.Runs.{State, after_closing, matched_runs}
use Rattle.sp_plan.specs.Reading.{reading}
use Rattle.sp_plan.specs.Sequential.{seq, after_window}
use Rattle.sp_plan.specs.Windows.{closed}
use Rattle.sp_plan.specs.WindowNumbers.{Good, count, first, size}
use Rattle.sp_match.specs.public.Laws.{Sound, Leads}
use Rattle.sp_plan.specs.Groups.{group, used_by_all, is_open, is_matched}
use Rattle.sp_group.specs.Machine.{is_group, is_spent}
use Rattle.sp_rules.specs.Lawful.{Lawful}
use Rattle.sp_rules.proofs.Lists.{filled_mem}

-- What reading on from runs s to runs t keeps: what was used stays used, groups only grow while they are groups, and a run that matched
-- has used the group that it had; no run of s has both a group and a match that used an event.
pub record ReadsOn (q : Plan) (s t : State) : Type 0 where
  pub more : (i : ℕ) → is_among (used_by_all q s) i ≡ true → is_among (used_by_all q t) i ≡ true
  pub grows : (r i : ℕ) → is_group q t r ≡ true → is_among (group q s r) i ≡ true → is_among (group q t r) i ≡ true
  pub spends : (r i : ℕ) → is_spent q t r ≡ true → is_among (group q s r) i ≡ true → is_among (used_by_all q t) i ≡ true
  pub apart : (r : ℕ) → is_group q s r ≡ true → is_spent q s r ≡ true → ⊥

-- What the machine's theorem asks of a plan's runs and windows.
pub record Facts (q : Plan) : Type 0 where
  pub reads_on : (events : List Event) (skipped : List ℕ) (first n k : ℕ) → ReadsOn q (reading q events skipped first n) (reading q events skipped first (n + k))
  pub reads_closing : (events : List Event) (skipped : List ℕ) (first n k : ℕ) → ReadsOn q (reading q events skipped first n) (after_closing (reading q events skipped first (n + k)))
  pub reading_agrees : (events : List Event) (skipped others : List ℕ) (first n : ℕ) → ((i : ℕ) → first ≤ i → i < first + n → is_among skipped i ≡ is_among others i)
      → reading q events skipped first n ≡ reading q events others first n
  pub reading_fed : (events : List Event) (e : Event) (skipped : List ℕ) (w n : ℕ) → Good q events → 1 ≤ w → w ≤ count q events → n ≤ size q events w
      → reading q (events ++ e ∷ []) skipped (first q events w) n ≡ reading q events skipped (first q events w) n
  pub good_none : Good q []
  pub good_less : (events : List Event) (e : Event) → Good q (events ++ e ∷ []) → Good q events
  pub within : (events : List Event) (w : ℕ) → Good q events → 1 ≤ w → w ≤ count q events → first q events w + size q events w ≤ length events + 1
  pub some : (events : List Event) (w : ℕ) → Good q events → 1 ≤ w → w ≤ count q events → 1 ≤ size q events w
  pub closed_within : (events : List Event) (ended : Bool) → Good q events → closed q events ended ≤ count q events
  pub closed_over : (events : List Event) → Good q events → closed q events true ≡ count q events
  pub closed_end : (events : List Event) → Good q events → closed q events false ≤ closed q events true
  pub closed_fed : (events : List Event) (e : Event) → Good q (events ++ e ∷ []) → closed q events false ≤ closed q (events ++ e ∷ []) false
  pub closed_size : (events : List Event) (e : Event) (w : ℕ) → Good q (events ++ e ∷ []) → 1 ≤ w → w ≤ closed q events false → size q (events ++ e ∷ []) w ≡ size q events w
  pub count_fed : (events : List Event) (e : Event) → Good q (events ++ e ∷ []) → count q events ≤ count q (events ++ e ∷ [])
  pub first_fed : (events : List Event) (e : Event) (w : ℕ) → Good q (events ++ e ∷ []) → 1 ≤ w → w ≤ count q events → first q (events ++ e ∷ []) w ≡ first q events w
  pub size_fed : (events : List Event) (e : Event) (w : ℕ) → Good q (events ++ e ∷ []) → 1 ≤ w → w ≤ count q events → size q events w ≤ size q (events ++ e ∷ []) w
  pub seq_fed : (events : List Event) (e : Event) (n : ℕ) → Good q (events ++ e ∷ []) → n ≤ closed q events false → seq q (events ++ e ∷ []) n ≡ seq q events n
  pub seq_next : (events : List Event) (n : ℕ) → Good q events → n < count q events
      → seq q events (suc n) ≡ after_window q (suc n) (seq q events n) (matched_runs (reading q events (seq q events n).consumed (first q events (suc n)) (size q events (suc n))))

module _ (q : Plan) (law : Lawful q) where
  -- a run whose match used an event has a match
  pub spent_matched : (s : State) (r : ℕ) → is_spent q s r ≡ true → is_matched s r ≡ true
  spent_matched s r spent =
      let one = filled_mem (group q (record { open_runs = s.matched; matched = []; started = 0 }) r) spent in
      law.runs.numbers.group_open (record { open_runs = s.matched; matched = []; started = 0 }) r one.0 one.1

  -- a run with a group is open
  pub group_open : (s : State) (r : ℕ) → is_group q s r ≡ true → is_open s r ≡ true
  group_open s r grouped =
      let one = filled_mem (group q s r) grouped in
      law.runs.numbers.group_open s r one.0 one.1

  reads_on : (s t : State) → Sound s → Leads q s t → ReadsOn q s t
  reads_on s t sound leads = record {
    more = λ i used. law.runs.numbers.used_stays s t i leads used;
    grows = λ r i grouped among. leads.group_grows r i (group_open t r grouped) among;
    spends = λ r i spent among. law.runs.numbers.group_used s t r i leads (spent_matched t r spent) among;
    apart = λ r grouped spent. let is = spent_matched s r spent in let isnt = law.runs.open_unmatched s r sound (group_open s r grouped) in absurd (cc);
  }

  pub facts : Facts q
  facts = record {
    reads_on = λ events skipped first n k. reads_on (reading q events skipped first n) (reading q events skipped first (n + k))
        (law.runs.readings.sound events skipped first n) (law.runs.readings.leads events skipped first n k);
    reads_closing = λ events skipped first n k. reads_on (reading q events skipped first n) (after_closing (reading q events skipped first (n + k)))
        (law.runs.readings.sound events skipped first n) (law.runs.readings.leads_to_closing events skipped first n k);
    reading_agrees = λ events skipped others first n same. law.runs.events_by_number.skipped_within q events skipped others first n same;
    reading_fed = λ events e skipped w n good low high few.
        let at = law.windows.hold_events.within events w (record { good = good; low = low; high = high }) in
        law.runs.events_by_number.more_behind q events (e ∷ []) skipped (first q events w) n (law.windows.hold_events.low events w (record { good = good; low = low; high = high })) (omega arith);
    good_none = law.windows.good_events.none;
    good_less = law.windows.good_events.less;
    within = λ events w good low high. law.windows.hold_events.within events w (record { good = good; low = low; high = high });
    some = λ events w good low high. law.windows.hold_events.some events w (record { good = good; low = low; high = high });
    closed_within = law.windows.closed_first.within;
    closed_over = law.windows.closed_first.over;
    closed_end = law.windows.closed_first.closed_end;
    closed_fed = law.windows.closed_first.closed_fed;
    closed_size = law.windows.closed_first.closed_size;
    count_fed = law.windows.kept_by_feeding.count_fed;
    first_fed = law.windows.kept_by_feeding.first_fed;
    size_fed = law.windows.kept_by_feeding.size_fed;
    seq_fed = λ events e n good few. law.windows.finished_stay.progress events (e ∷ []) n good few;
    seq_next = law.windows.read_whole.progress;
  }
