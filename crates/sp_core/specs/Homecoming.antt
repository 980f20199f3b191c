-- What a piece brings home, and what becomes of its version.
use Rattle.std.specs.Prelude.{◌≡◌, ℕ, ◌+◌, ◌≤◌, Bool, ◌&&◌, ◌||◌, not, nat_lt, ◌==◌, List, [], ◌∷◌, ◌++◌, length, map, filter, Some, None, if◌then◌else◌}
use Rattle.std.specs.List.{All, list_any, flat_map}
use Rattle.std.specs.List.Sorted.{IsStrictlyIncreasing}
use Rattle.sp_base.specs.Numbers.{is_among, with_numbers}
use Rattle.sp_plan.specs.declared.found.Match.{Match}
use Rattle.sp_plan.specs.Runs.{used}
use Rattle.sp_plan.specs.Moves.{Told, OpenedTold, GrownTold, CompletedTold, AbandonedTold}
use Rattle.sp_match.specs.declared.moves.Move.{Move}
use Rattle.sp_match.specs.declared.moves.Moves.{Moves}
use Rattle.sp_match.specs.declared.run.Run.{Run}
use Rattle.sp_match.specs.public.Laws.{is_completion}
use Rattle.sp_match.specs.public.Matching.{Matching}
use Rattle.sp_match.specs.public.Seen.{seen}
use Rattle.sp_piece.specs.Pieced.{Pieced, LedTo}
use Rattle.sp_group.specs.declared.outcome.Outcome.{Outcome}
use Rattle.sp_group.specs.declared.outcome.Outcome.TheVariants.{Completed, Abandoned}
use Rattle.sp_group.specs.Family.{entry_at}
use Rattle.sp_group.specs.Rising.{has_number}
use Rattle.sp_tree.specs.Decided.{rule_of}
use Rattle.sp_tree.specs.Grown.{Grown, Entry, AreGrown, kin, pruned}
use Rattle.sp_version.specs.declared.version.Version.{Version}
use Rattle.sp_core.specs.declared.homecoming.Brought.{Brought}
use Rattle.sp_core.specs.Rooms.{room}

-- the completions that the moves of one event tell of
abbrev pub completions_in : List Move → List Told
completions_in ms = filter is_completion (map seen ms)

-- the completions that moves tell of, in their order
abbrev pub completions : List Moves → List Told
completions moves = filter is_completion (flat_map (λ m. map seen m.list.items) moves)

-- the match of a window that a completion tells of, which is not numbered yet
abbrev pub unnumbered_told : ℕ → Told → Match
unnumbered_told window (CompletedTold run bound used) = record { window = window; number = 0; bound = bound; used = used }
unnumbered_told window (OpenedTold run) = record { window = window; number = 0; bound = []; used = [] }
unnumbered_told window (GrownTold run event) = record { window = window; number = 0; bound = []; used = [] }
unnumbered_told window (AbandonedTold run) = record { window = window; number = 0; bound = []; used = [] }

-- the run, where its completion used an event
abbrev pub spent_run : Told → List ℕ
spent_run (CompletedTold run bound used) = if has_number used then run ∷ [] else []
spent_run (OpenedTold run) = []
spent_run (GrownTold run event) = []
spent_run (AbandonedTold run) = []

-- what a completion used
abbrev pub used_told : Told → List ℕ
used_told (CompletedTold run bound used) = used
used_told (OpenedTold run) = []
used_told (GrownTold run event) = []
used_told (AbandonedTold run) = []

-- whether a matcher has an open run of that number which holds an event for consumption
abbrev pub is_grouped : Matching → ℕ → Bool
is_grouped m r = list_any (λ run. run.0 == r && has_number (used m.plan run.1)) m.open_runs

-- whether one of these runs has that number and holds an event for consumption
abbrev pub has_group : List Run → ℕ → Bool
has_group runs r = list_any (λ run. run.number == r && has_number run.used.list) runs

-- each open run has a number from 1 on
abbrev pub AreNumbered : Matching → Type 0
AreNumbered m = All (λ run. 1 ≤ run.0) m.open_runs

-- the groups are those before and this run
abbrev pub IsWith : List ℕ → ℕ → List ℕ → Type 0
IsWith old run new = (r : ℕ) → is_among new r ≡ (is_among old r || r == run)

-- the groups are those before and these runs
abbrev pub HasRuns : List ℕ → List ℕ → List ℕ → Type 0
HasRuns old runs new = (r : ℕ) → is_among new r ≡ (is_among old r || is_among runs r)

-- the groups are those before, and those of the runs that hold an event for consumption
abbrev pub HasOpenRuns : List ℕ → List Run → List ℕ → Type 0
HasOpenRuns old runs new = (r : ℕ) → is_among new r ≡ (is_among old r || has_group runs r)

-- the groups are those before, those of a matcher, and these runs
abbrev pub HasAll : List ℕ → Matching → List ℕ → List ℕ → Type 0
HasAll old m runs new = (r : ℕ) → is_among new r ≡ (is_among old r || is_grouped m r || is_among runs r)

-- What is made of the moves before anything is changed: the matches twice, the runs that completed and used an event, what they used, and
-- the groups that were open, are open after them, or completed.
pub record IsBrought (window : ℕ) (groups : List ℕ) (after : Matching) (moves : List Moves) (b : Brought) : Type 0 where
  pub matches : b.matches.items ≡ map (unnumbered_told window) (completions moves)
  pub copies : b.copies.items ≡ map (unnumbered_told window) (completions moves)
  pub completed : b.completed.items ≡ flat_map spent_run (completions moves)
  pub used : b.used.list ≡ with_numbers [] (flat_map used_told (completions moves))
  pub groups_are : HasAll groups after b.completed.items b.groups

-- what is left of it once the matches are taken
pub record AreLeft (old new : Brought) : Type 0 where
  pub completed : new.completed ≡ old.completed
  pub groups : new.groups ≡ old.groups

-- there is room in a version for numbers that are skipped, and for what is brought
pub record HasRoomFor (held : Version) (passed : List ℕ) (b : Brought) : Type 0 where
  pub skipped : length passed ≤ held.skipped.spare
  pub used : length b.used.list ≤ held.used.spare
  pub matches : length b.matches.items ≤ room held.matches
  pub copies : length b.copies.items ≤ room held.copies

-- there is room in a version for what is brought, and for the numbers of the job that are below what was read, which are these
pub record IsReady (held : Version) (p : Pieced) (passed : List ℕ) (b : Brought) : Type 0 where
  pub passed_is : passed ≡ filter (λ i. nat_lt i (p.job.first + p.read)) p.job.snapshot.list
  pub room_for : HasRoomFor held passed b

-- The version has taken up what was read and brought, and no ticket is out for it.
pub record IsTakenUp (old : Version) (p : Pieced) (b : Brought) (new : Version) : Type 0 where
  pub window : new.window ≡ old.window
  pub first : new.first ≡ old.first
  pub position : new.position ≡ old.position + p.read
  pub skipped : new.skipped.list ≡ with_numbers old.skipped.list (filter (λ i. nat_lt i (p.job.first + p.read)) p.job.snapshot.list)
  pub matcher : LedTo p new.matcher
  pub matches : new.matches.items ≡ old.matches.items ++ b.matches.items
  pub copies : new.copies.items ≡ old.copies.items ++ b.copies.items
  pub used : new.used.list ≡ with_numbers old.used.list b.used.list
  pub done : new.done ≡ (old.done || p.closed)
  pub out : new.out ≡ None

-- The version is the same but for its rooms.
pub record IsSameButRooms (old new : Version) : Type 0 where
  pub window : new.window ≡ old.window
  pub first : new.first ≡ old.first
  pub position : new.position ≡ old.position
  pub skipped : new.skipped.list ≡ old.skipped.list
  pub matcher : new.matcher ≡ old.matcher
  pub matches : new.matches.items ≡ old.matches.items
  pub copies : new.copies.items ≡ old.copies.items
  pub used : new.used.list ≡ old.used.list
  pub done : new.done ≡ old.done
  pub out : new.out ≡ old.out

-- what became of a group that is open no more
abbrev pub outcome_of : List ℕ → ℕ → Outcome
outcome_of completed run = if is_among completed run then Completed else Abandoned

-- the groups of a version that are open no more in its matcher
abbrev pub ended_in : Matching → List ℕ → List ℕ
ended_in m groups = filter (λ run. not (is_grouped m run)) groups

-- the entry of an owner whose groups can be decided: it is live, and they rise
pub record CanDecide (t : Grown Version) (owner : ℕ) : Type 0 where
  pub entry : Entry Version
  pub live : entry_at kin t.entries owner ≡ Some entry
  pub rising : IsStrictlyIncreasing entry.version.groups
  pub grown : AreGrown t

-- the groups of an owner that its matcher has no more are decided: completed where they are among these runs, and else abandoned
abbrev pub IsDecided : Grown Version → ℕ → List ℕ → Grown Version → Type 0
IsDecided old owner completed new =
    (e : Entry Version) → entry_at kin old.entries owner ≡ Some e
    → new ≡ pruned (rule_of owner (outcome_of completed) (ended_in e.value.matcher e.version.groups)) old
