-- What the runs of a window keep, whatever moves are made.
use Rattle.std.specs.Prelude.{◌≡◌, ◌↔◌, ◌⊎◌, ℕ, ◌+◌, ◌<◌, ◌≤◌, ◌==◌, Bool, true, false, List, [], ◌∷◌, ◌++◌, length, filter, map}
use Rattle.std.specs.List.{All, list_any, fold}
use Rattle.std.specs.List.Sorted.{IsStrictlyIncreasing}
use Rattle.sp_base.specs.Numbers.{is_among}
use Rattle.sp_plan.specs.declared.plan.Plan.{Plan}
pub use Rattle.sp_plan.specs.Groups.{is_open, is_matched, group, used_by, used_by_all}
use Rattle.sp_plan.specs.Windows.{Numbered}
use Rattle.sp_plan.specs.Runs.{Started, State, bindings, fresh, handle, state, used, after_closing}
use Rattle.sp_plan.specs.Moves.{Told, OpenedTold, GrownTold, CompletedTold, AbandonedTold, told, Move, is_run, apply, apply_all, moves, closing}

-- the open runs stand in the order of their start, and have numbers that were given
pub record Ordered (s : State) : Type 0 where
  pub rising : IsStrictlyIncreasing (map (λ run. run.0) s.open_runs)
  pub given : All (λ run. (1 ≤ run.0) × (run.0 ≤ s.started)) s.open_runs

-- a run number is used once: by an open run, or by a match
pub record Sound (s : State) : Type 0 where
  pub ordered : Ordered s
  pub given : All (λ run. (1 ≤ run.0) × (run.0 ≤ s.started)) s.matched
  pub once : (r : ℕ) → length (filter (is_run r) (s.open_runs ++ s.matched)) ≤ 1

-- what stays of the runs s where moves lead on from them to t
pub record Leads (q : Plan) (s t : State) : Type 0 where
  pub matched_stays : (later : List Started) × (t.matched ≡ s.matched ++ later)
  pub group_grows : (r i : ℕ) → is_open t r ≡ true → is_among (group q s r) i ≡ true → is_among (group q t r) i ≡ true
  pub match_contains : (r i : ℕ) → is_matched t r ≡ true → is_among (group q s r) i ≡ true → is_among (used_by q t r) i ≡ true
  pub started_grows : s.started ≤ t.started
  pub open_before : (r : ℕ) → is_open t r ≡ true → (is_open s r ≡ true) ⊎ (s.started < r)
  pub matched_before : (r : ℕ) → is_matched t r ≡ true → (is_matched s r ≡ true) ⊎ (is_open s r ≡ true) ⊎ (s.started < r)

-- all numbers of open runs and of their events, and the count of runs, are below n
pub record Below (n : ℕ) (s : State) : Type 0 where
  pub events : All (λ run. All (λ pair. pair.number < n) run.1) s.open_runs
  pub started : s.started < n

-- At first no run number is used, and each move uses each number once.
pub record RunsAreSound : Type 0 where
  pub at_first : Sound fresh
  pub moved : (s : State) (m : Move) → Sound s → Sound (apply s m)
  pub visible : (q : Plan) (events : List Numbered) → Sound (state q events)

-- Any moves lead on: what is matched stays matched, groups only grow until their runs end, and a match has used the group that its run had.
abbrev pub MovesLeadOn : Type 0
MovesLeadOn = (q : Plan) (s : State) (ms : List Move) → Sound s → Leads q s (apply_all s ms)

-- The moves of an event lead to what the event does to the runs.
abbrev pub MovesAreHandling : Type 0
MovesAreHandling = (q : Plan) (s : State) (x : Numbered) → Ordered s → apply_all s (moves q s x) ≡ handle q s x

-- After the closing's moves no run is open, and the matches are the same.
abbrev pub ClosingEndsRuns : Type 0
ClosingEndsRuns = (s : State) → apply_all s (closing s) ≡ after_closing s

-- What comes after one more event depends on what was before and on that event alone.
abbrev pub OneEventMore : Type 0
OneEventMore = (q : Plan) (events : List Numbered) (x : Numbered) → state q (events ++ x ∷ []) ≡ handle q (state q events) x

-- An event starts at most one run, and no run holds a number past the event's.
abbrev pub NumbersStayBelow : Type 0
NumbersStayBelow = (q : Plan) (s : State) (x : Numbered) → Below x.0 s → Below (x.0 + 1) (handle q s x)

-- The handling of an event and the closing use each run number once, and lead on.
pub record HandlingIsLawful : Type 0 where
  pub handled_sound : (q : Plan) (s : State) (x : Numbered) → Sound s → Sound (handle q s x)
  pub handled_leads : (q : Plan) (s : State) (x : Numbered) → Sound s → Leads q s (handle q s x)
  pub closed_sound : (s : State) → Sound s → Sound (after_closing s)
  pub closed_leads : (q : Plan) (s : State) → Sound s → Leads q s (after_closing s)

-- the numbers of these events rise, none of them below the first bound and all of them below the second
abbrev pub RisesWithin : ℕ → List Numbered → ℕ → Type 0
RisesWithin low [] high = low ≤ high
RisesWithin low (x ∷ events) high = (low ≤ x.0) × RisesWithin (x.0 + 1) events high

-- The handling of several events, one after another, keeps what that of one keeps; their numbers may leave gaps.
pub record SeveralAreLawful : Type 0 where
  pub sound : (q : Plan) (s : State) (events : List Numbered) → Sound s → Sound (fold (handle q) s events)
  pub leads : (q : Plan) (s : State) (events : List Numbered) → Sound s → Leads q s (fold (handle q) s events)
  pub below : (q : Plan) (s : State) (events : List Numbered) (low high : ℕ) → Below low s → RisesWithin low events high → Below high (fold (handle q) s events)

-- An open run has no match.
abbrev pub OpenHasNoMatch : Type 0
OpenHasNoMatch = (s : State) (r : ℕ) → Sound s → is_open s r ≡ true → is_matched s r ≡ false

-- a run that matched, as the move is told that completes it
abbrev pub completion : Plan → Started → Told
completion q run = CompletedTold run.0 (bindings q run.1) (used q run.1)

-- whether a run completes by the move told
abbrev pub is_completion : Told → Bool
is_completion (OpenedTold run) = false
is_completion (GrownTold run number) = false
is_completion (CompletedTold run bound used) = true
is_completion (AbandonedTold run) = false

-- The completions told of an event are the matches that it adds, in their order.
abbrev pub CompletionsAreMatches : Type 0
CompletionsAreMatches = (q : Plan) (s : State) (x : Numbered) → Ordered s → map (completion q) (handle q s x).matched ≡ map (completion q) s.matched ++ filter is_completion (told q s (moves q s x))

-- whether the run of that number is abandoned by the move told
abbrev pub is_abandonment : ℕ → Told → Bool
is_abandonment r (OpenedTold run) = false
is_abandonment r (GrownTold run number) = false
is_abandonment r (CompletedTold run bound used) = false
is_abandonment r (AbandonedTold run) = run == r

-- A run that was open in s, or started on the way from s to t, is no longer open in t, and has no match there.
pub record IsGone (s t : State) (r : ℕ) : Type 0 where
  pub was : (is_open s r ≡ true) ⊎ ((s.started < r) × (r ≤ t.started))
  pub not_open : is_open t r ≡ false
  pub not_matched : is_matched t r ≡ false

-- The abandonments told of an event are those of the runs that are gone after it, and the abandonments told of the closing are those of the open runs.
pub record AbandonmentsAreTold : Type 0 where
  pub handled : (q : Plan) (s : State) (x : Numbered) (r : ℕ) → Sound s → (list_any (is_abandonment r) (told q s (moves q s x)) ≡ true) ↔ IsGone s (handle q s x) r
  pub closed : (q : Plan) (s : State) (r : ℕ) → list_any (is_abandonment r) (told q s (closing s)) ≡ is_open s r
