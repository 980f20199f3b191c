-- How far the handling of an event has come among the runs that were open when it came.
use Rattle.std.specs.Prelude.{◌≡◌, ℕ, Bool, false, not, Option, None, if◌then◌else◌, List, [], ◌++◌, length, map, take, drop, is_none}
use Rattle.std.specs.List.{All, fold, list_all}
use Rattle.sp_base.specs.Numbers.{is_among}
use Rattle.sp_plan.specs.declared.plan.Plan.{Plan}
use Rattle.sp_plan.specs.Windows.{Numbered}
use Rattle.sp_plan.specs.Runs.{Started, State, may_start, takes}
use Rattle.sp_plan.specs.Moves.{Acting, Told, act_run, handling_of}
use Rattle.sp_match.specs.declared.turns.Reception.{Reception}
use Rattle.sp_match.specs.declared.run.Fate.TheVariants.{Stays}
use Rattle.sp_match.specs.public.Laws.{Ordered}
use Rattle.sp_match.specs.inside.Kept.{Kept, started}
use Rattle.sp_match.specs.inside.Good.{Good, NumbersBelow}
use Rattle.sp_match.specs.inside.Effects.{is_taken, is_used, run_after_use}
use Rattle.sp_match.specs.inside.Shows.{Shows}
use Rattle.sp_match.specs.inside.Tally.{Tally}

-- the runs that stand there, as a state in which none has matched
abbrev pub standing : ℕ → List Kept → State
standing count ks = record { open_runs = map started ks; matched = []; started = count }

-- The run stays open.
abbrev pub IsIdle : Kept → Type 0
IsIdle k = k.fate ≡ Stays

-- The runs are as they are between two events, of which the next one has the number n.
pub record IsReady (q : Plan) (n count : ℕ) (ks : List Kept) : Type 0 where
  pub good : All (Good q) ks
  pub idle : All IsIdle ks
  pub below : All (NumbersBelow n) ks
  pub ordered : Ordered (standing count ks)

-- so for some count of runs that have started
abbrev pub IsSet : Plan → ℕ → List Kept → Type 0
IsSet q n ks = (count : ℕ) × IsReady q n count ks

-- the handling by the definitions, when these runs have had their turn
abbrev pub acted_by : Plan → Numbered → State → List Started → Acting
acted_by q x s runs = fold (act_run q x) (record { moves = []; now = s; taken = [] }) runs

-- whether none of these runs takes the event
abbrev pub none_takes : Plan → Numbered → List Started → Bool
none_takes q x runs = list_all (λ run. is_none (takes q run.1 x.1)) runs

-- The first i of the runs have had their turn, and what the event met with; those ahead are marked where they hold a used number.
pub record Going (q : Plan) (x : Numbered) (s : State) (old : List Kept) (i : ℕ) (ks : List Kept) (ts : List Told) (r : Reception) : Type 0 where
  pub shows : Shows q s (acted_by q x s (take i (map started old))) ks ts
  pub front : (fs : List Kept) × (length fs ≡ i) × (ks ≡ fs ++ map (run_after_use (acted_by q x s (take i (map started old))).taken) (drop i old))
  pub tally : All (Tally x.0 (acted_by q x s (take i (map started old))).moves) ks
  pub used : is_used r ≡ is_among (acted_by q x s (take i (map started old))).taken x.0
  pub taken : is_taken r ≡ not (none_takes q x (take i (map started old)))
  pub unused : is_taken r ≡ false → (acted_by q x s (take i (map started old))).taken ≡ []

-- All runs have had their turn.
abbrev pub AllHadTurns : Plan → Numbered → List Kept → List Kept → List Told → Reception → Type 0
AllHadTurns q x old ks ts r = (s : State) → s.open_runs ≡ map started old → Going q x s old (length old) ks ts r

-- whether the policy lets the event start a run then
abbrev pub lets_start : Plan → Numbered → State → Bool
lets_start q x s = may_start q.select q s (handling_of (acted_by q x s s.open_runs)) x

-- the name under which the event starts a run, if it starts one
abbrev pub starting : Plan → Numbered → State → Option ℕ
starting q x s = if lets_start q x s then takes q [] x.1 else None
