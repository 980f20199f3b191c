-- The events that wait.
use Rattle.std.specs.Prelude.{List}
use Rattle.std.specs.List.{fold}
use Rattle.std.specs.BTreeMap.{values}
use Rattle.sp_plan.specs.declared.event.Event.{Event}
use Rattle.sp_slack.specs.declared.waiting.Waiting.{Waiting}
use Rattle.sp_slack.specs.HeldBack.{put}

-- by time, those of one time as they came
abbrev pub held_in : Waiting → List Event
held_in w = fold put w.line.items (values w.behind)
