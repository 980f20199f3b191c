-- What a layer over matcher and windows may rely on, for every compiled plan.
use Rattle.std.specs.Prelude.{◌≡◌, ℕ, ◌+◌, ◌≤◌, true, List, []}
use Rattle.sp_base.specs.Numbers.{is_among}
use Rattle.sp_plan.specs.declared.event.Event.{Event}
use Rattle.sp_plan.specs.declared.plan.Plan.{Plan}
use Rattle.sp_plan.specs.Laws.{ReadingIsState}
use Rattle.sp_plan.specs.Runs.{State, after_closing}
use Rattle.sp_plan.specs.Reading.{reading}
use Rattle.sp_match.specs.public.Laws.{is_open, is_matched, group, used_by_all, Sound, Leads, Below, RunsAreSound, HandlingIsLawful, SeveralAreLawful, MovesAreHandling, MovesLeadOn, ClosingEndsRuns, OpenHasNoMatch, CompletionsAreMatches, AbandonmentsAreTold}
use Rattle.sp_window.specs.Laws.{GoodEvents, Holds, KeptByFeeding, ClosedFirst, FinishedStay, WindowsAreRead}

-- Reading a window on, by the numbers of its events, keeps what the handling of one event keeps: run numbers are used once, what was
-- read leads on to what is read later, the window's closing included, and all numbers are below the first one that was not read.
pub record ReadingsAreLawful (q : Plan) : Type 0 where
  pub sound : (events : List Event) (skipped : List ℕ) (first n : ℕ) → Sound (reading q events skipped first n)
  pub leads : (events : List Event) (skipped : List ℕ) (first n k : ℕ) → Leads q (reading q events skipped first n) (reading q events skipped first (n + k))
  pub leads_to_closing : (events : List Event) (skipped : List ℕ) (first n k : ℕ) → Leads q (reading q events skipped first n) (after_closing (reading q events skipped first (n + k)))
  pub below : (events : List Event) (skipped : List ℕ) (first n : ℕ) → 1 ≤ first → Below (first + n) (reading q events skipped first n)

-- What Sound and Leads say of run numbers and of numbers of events: runs that are there have numbers that were given, a run with a group
-- is open, matches and what they used stay, and a match used the group that its run had.
pub record NumbersAreLawful (q : Plan) : Type 0 where
  pub open_given : (s : State) (r : ℕ) → Sound s → is_open s r ≡ true → (1 ≤ r) × (r ≤ s.started)
  pub matched_given : (s : State) (r : ℕ) → Sound s → is_matched s r ≡ true → (1 ≤ r) × (r ≤ s.started)
  pub group_open : (s : State) (r i : ℕ) → is_among (group q s r) i ≡ true → is_open s r ≡ true
  pub match_stays : (s t : State) (r : ℕ) → Leads q s t → is_matched s r ≡ true → is_matched t r ≡ true
  pub used_stays : (s t : State) (i : ℕ) → Leads q s t → is_among (used_by_all q s) i ≡ true → is_among (used_by_all q t) i ≡ true
  pub group_used : (s t : State) (r i : ℕ) → Leads q s t → is_matched t r ≡ true → is_among (group q s r) i ≡ true → is_among (used_by_all q t) i ≡ true

-- The closing makes its moves, leaves no open run, and leaves the matches and the count of runs as they were.
pub record ClosingIsLawful : Type 0 where
  pub by_moves : ClosingEndsRuns
  pub none_open : (s : State) → (after_closing s).open_runs ≡ []
  pub same_matches : (s : State) → (after_closing s).matched ≡ s.matched
  pub same_count : (s : State) → (after_closing s).started ≡ s.started

-- The matcher's half: the runs of a window.
pub record RunsAreLawful (q : Plan) : Type 0 where
  pub any_moves_sound : RunsAreSound
  pub any_moves_lead : MovesLeadOn
  pub one_event : HandlingIsLawful
  pub several_events : SeveralAreLawful
  pub events_by_number : ReadingIsState
  pub readings : ReadingsAreLawful q
  pub closing_event : ClosingIsLawful
  pub open_unmatched : OpenHasNoMatch
  pub numbers : NumbersAreLawful q
  pub event_by_moves : MovesAreHandling
  pub completions_told : CompletionsAreMatches
  pub abandonments_told : AbandonmentsAreTold

-- The windows' half: windows while events are fed and input ends.
pub record WindowsAreLawful (q : Plan) : Type 0 where
  pub good_events : GoodEvents q
  pub hold_events : Holds q
  pub kept_by_feeding : KeptByFeeding q
  pub closed_first : ClosedFirst q
  pub finished_stay : FinishedStay q
  pub read_whole : WindowsAreRead q

-- both halves
pub record Lawful (q : Plan) : Type 0 where
  pub runs : RunsAreLawful q
  pub windows : WindowsAreLawful q
