-- The windows processed one after another: what is matched, and what is consumed.
use Rattle.std.specs.Prelude.{ℕ, zero, suc, ◌+◌, Bool, false, not, List, [], ◌++◌, length, Option, Some, None, slice_get, ◌≡◌, filter, map}
use Rattle.std.specs.List.{enumerate_from, flat_map}
use Rattle.sp_base.specs.Numbers.{is_among}
use Rattle.sp_plan.specs.declared.event.Event.{Event}
use Rattle.sp_plan.specs.declared.plan.Plan.{Plan}
use Rattle.sp_plan.specs.declared.found.Match.{Match}
use Rattle.sp_plan.specs.Windows.{Numbered, Window, IsWindowed, windows, closed, events_of}
use Rattle.sp_plan.specs.Events.{AllFit, NeverGoesBack}
use Rattle.sp_plan.specs.Runs.{Run, used, bindings, state, matched_runs}

-- the matches so far, and the numbers consumed
pub record Progress : Type 0 where
  pub matches : List Match
  pub consumed : List ℕ

-- a run that matched, as a match of a window; the run comes with the match's number
abbrev pub match_of : Plan → ℕ → ℕ × Run → Match
match_of q window run = record {
  window = window;
  number = run.0;
  bound = bindings q run.1;
  used = used q run.1;
}

-- the events of a window that are not consumed yet
abbrev pub visible : List Event → List ℕ → Option Window → List Numbered
visible events consumed None = []
visible events consumed (Some w) = filter (λ x. not (is_among consumed x.0)) (events_of events w)

-- the progress after a window's matched runs
abbrev pub after_window : Plan → ℕ → Progress → List Run → Progress
after_window q window before runs = record {
  matches = before.matches ++ map (match_of q window) (enumerate_from (length before.matches + 1) runs);
  consumed = before.consumed ++ flat_map (used q) runs;
}

-- the first n windows, one after another
abbrev pub seq : Plan → List Event → ℕ → Progress
seq q events zero = record { matches = []; consumed = [] }
seq q events (suc n) =
    let before = seq q events n in
    after_window q (suc n) before (matched_runs (state q (visible events before.consumed (slice_get (windows q events false) n))))

-- all windows that are closed
abbrev pub whole : Plan → List Event → Bool → Progress
whole q events ended = seq q events (closed q events ended)

-- The law of growth: while the input has not ended, the matches so far begin the matches of any longer input.
abbrev pub Grows : Type 0
Grows =
    (q : Plan) (events more : List Event) (ended : Bool) → IsWindowed q → AllFit q (events ++ more) → NeverGoesBack (events ++ more)
    → (later : List Match) × ((whole q (events ++ more) ended).matches ≡ (whole q events false).matches ++ later)
