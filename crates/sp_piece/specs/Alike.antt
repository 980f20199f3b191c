-- What a reading comes to does not hang on where the parts of its plan lie in memory; and the completions that it tells of are the
-- matches that it adds.
use Rattle.std.specs.Prelude.{◌≡◌, ℕ, Bool, List, ◌++◌, map, filter}
use Rattle.std.specs.List.{flat_map}
use Rattle.sp_plan.specs.declared.event.Event.{Event}
use Rattle.sp_plan.specs.declared.plan.Plan.{Plan}
use Rattle.sp_plan.specs.Same.{SamePlan}
use Rattle.sp_plan.specs.Windows.{Numbered}
use Rattle.sp_plan.specs.Runs.{Run, State, bindings, guarded, handle, takes, used}
use Rattle.sp_plan.specs.Moves.{Told}
use Rattle.sp_match.specs.public.Laws.{Sound, completion, is_completion}
use Rattle.sp_piece.specs.Reading.{Loan, Account, read_to, accounts_to}

-- what is lent, to be read by another plan
abbrev pub by_plan : Plan → Loan → Loan
by_plan q l = record l { plan = q }

-- Plans that are one but for addresses use and bind the same numbers of a run, which takes the same events under both and is guarded by the
-- same; they lead an event to the same runs, and so do readings, which tell the same.
pub record ReadAlike (p q : Plan) : Type 0 where
  pub used : (run : Run) → used p run ≡ used q run
  pub bound : (run : Run) → bindings p run ≡ bindings q run
  pub taken : (run : Run) (e : Event) → takes p run e ≡ takes q run e
  pub guarded_by : (run : Run) (e : Event) → guarded p run e ≡ guarded q run e
  pub handled : (s : State) (x : Numbered) → handle p s x ≡ handle q s x
  pub read : (l : Loan) (s : State) (n : ℕ) (closed : Bool) → read_to (by_plan p l) s n closed ≡ read_to (by_plan q l) s n closed
  pub told : (l : Loan) (s : State) (n : ℕ) (closed : Bool) → accounts_to (by_plan p l) s n closed ≡ accounts_to (by_plan q l) s n closed

abbrev pub SamePlansReadAlike : Type 0
SamePlansReadAlike = (p q : Plan) → SamePlan p q → ReadAlike p q

-- all that is told, one after another
abbrev pub all_told : List Account → List Told
all_told accounts = flat_map (λ a. a.told) accounts

-- The completions that a reading tells of, the closing's among them, are the matches that it adds, in their order.
abbrev pub ReadingsTellMatches : Type 0
ReadingsTellMatches = (l : Loan) (s : State) (n : ℕ) (closed : Bool) → Sound s
    → map (completion l.plan) (read_to l s n closed).matched ≡ map (completion l.plan) s.matched ++ filter is_completion (all_told (accounts_to l s n closed))
