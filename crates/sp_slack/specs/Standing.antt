-- What callers see of a slack, and when it stands for the events that it kept.
use Rattle.std.specs.Prelude.{◌≡◌, ◌≤◌, ℕ, ℤ, Bool, true, false, List, length, take, drop, Option}
use Rattle.std.specs.List.{All}
use Rattle.sp_plan.specs.declared.event.Event.{Event}
use Rattle.sp_slack.specs.declared.slack.Slack.{Slack}
use Rattle.sp_slack.specs.Waiting.{held_in}
use Rattle.sp_slack.specs.HeldBack.{sorted, greatest, least, slacked, is_up_to}

-- What a slack keeps: how much it is, the events that it holds back, the greatest time that it kept, how many events were offered, how many of
-- these were late, and whether no more come.
pub record Kept : Type 0 where
  pub slack : ℤ
  pub held : List Event
  pub greatest : Option ℤ
  pub offered : ℕ
  pub late : ℕ
  pub ended : Bool

abbrev pub kept_of : Slack → Kept
kept_of s = record { slack = s.slack; held = held_in s.waiting; greatest = s.waiting.greatest; offered = s.offered; late = s.late; ended = s.ended }

-- It kept these events, in this order, and has given so many: it holds the others, by time.
pub record Stands (k : Kept) (events : List Event) (given : ℕ) : Type 0 where
  pub latest : k.greatest ≡ greatest events
  pub held : k.held ≡ drop given (sorted events)
  pub some : given ≤ length events
  -- while more may come, no event was given that is past the least time that may still come
  pub passed : k.ended ≡ false → All (λ e. is_up_to (least k.slack events) e ≡ true) (take given (sorted events))

-- what is to be given of these events
abbrev pub all_given : Kept → List Event → List Event
all_given k events = slacked k.slack events k.ended
