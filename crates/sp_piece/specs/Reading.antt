-- Where the reading of lent events leads, and what is told of it.
use Rattle.std.specs.Prelude.{ℕ, zero, suc, ◌+◌, Bool, List, [], ◌∷◌, ◌++◌, Option, Some, None, map, filter, slice_get, if◌then◌else◌}
use Rattle.std.specs.List.{flat_map, list_any}
use Rattle.sp_base.specs.Numbers.{is_among}
use Rattle.sp_plan.specs.declared.event.Event.{Event}
use Rattle.sp_plan.specs.declared.plan.Plan.{Plan}
use Rattle.sp_plan.specs.Windows.{Numbered}
use Rattle.sp_plan.specs.Runs.{State, after_closing}
use Rattle.sp_plan.specs.Reading.{after_event}
use Rattle.sp_plan.specs.Moves.{Told, told, moves, closing, still_wanted}
use Rattle.sp_match.specs.public.Laws.{is_completion}
use Rattle.sp_match.specs.public.Seen.{seen}
use Rattle.sp_match.specs.declared.moves.Moves.{Moves}

-- what is lent to be read by a plan: events that follow one another, the number of the first one, and which numbers are to be skipped
pub record Loan : Type 0 where
  pub plan : Plan
  pub events : List Event
  pub first : ℕ
  pub snapshot : List ℕ

-- whether the lent event at this place, from 0, is to be skipped
abbrev pub skips : Loan → ℕ → Bool
skips l place = is_among l.snapshot (l.first + place)

-- the runs after the lent event at this place was read, which is passed over where it is to be skipped
abbrev pub read_at : Loan → State → ℕ → State
read_at l s place = if skips l place then s else after_event l.plan s (l.first + place) (slice_get l.events place)

-- the runs after the first n of the lent events were read on from these runs
abbrev pub read_on : Loan → State → ℕ → State
read_on l s zero = s
read_on l s (suc n) = read_at l (read_on l s n) n

-- the same, after the closing where it was read too
abbrev pub read_to : Loan → State → ℕ → Bool → State
read_to l s n closed = if closed then after_closing (read_on l s n) else read_on l s n

-- what is told of one event or of the closing: the moves, and what the runs wanted before and after it
pub record Account : Type 0 where
  pub told : List Told
  pub wanted : List (ℕ × ℕ)

-- what the handling of an event tells
abbrev pub account : Plan → State → Numbered → Account
account q s x = record { told = told q s (moves q s x); wanted = still_wanted q s (moves q s x) }

-- what the closing tells: no run goes on
abbrev pub closing_account : Plan → State → Account
closing_account q s = record { told = told q s (closing s); wanted = [] }

-- what is told of an event, where there is one
abbrev pub event_accounts : Plan → State → ℕ → Option Event → List Account
event_accounts q s number None = []
event_accounts q s number (Some e) = account q s (number, e) ∷ []

-- what is told of the lent event at this place: nothing where it is to be skipped
abbrev pub accounts_at : Loan → State → ℕ → List Account
accounts_at l s place = if skips l place then [] else event_accounts l.plan s (l.first + place) (slice_get l.events place)

-- what is told of the first n of the lent events, read on from these runs: one account for each that was not skipped
abbrev pub accounts_on : Loan → State → ℕ → List Account
accounts_on l s zero = []
accounts_on l s (suc n) = accounts_on l s n ++ accounts_at l (read_on l s n) n

-- the same, and one account of the closing behind them where it was read too
abbrev pub accounts_to : Loan → State → ℕ → Bool → List Account
accounts_to l s n closed =
    if closed then accounts_on l s n ++ closing_account l.plan (read_on l s n) ∷ [] else accounts_on l s n

-- what several accounts tell, one after another
abbrev pub joined : List Account → Account
joined accounts = record { told = flat_map (λ a. a.told) accounts; wanted = flat_map (λ a. a.wanted) accounts }

-- whether a match can consume an event
abbrev pub consumes : Plan → Bool
consumes q = list_any (λ name. name.consumed) q.names

-- the completions that an account tells of, in their order, and what the runs wanted only where that is so
abbrev pub completing : Bool → Account → Account
completing so a = record { told = filter is_completion a.told; wanted = if so then a.wanted else [] }

-- what is gathered of an account: the completions, and what the runs wanted only where a match can consume an event, since no run has a
-- group where none can
abbrev pub gathered : Plan → Account → Account
gathered q a = completing (consumes q) a

-- moves as an account
abbrev pub seen_moves : Moves → Account
seen_moves m = record { told = map seen m.list.items; wanted = m.wanted }
