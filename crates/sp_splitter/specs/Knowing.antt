-- What is known of every core.
use Rattle.std.specs.Prelude.{◌≡◌}
use Rattle.sp_plan.specs.Compiled.{IsCompiled}
use Rattle.sp_group.specs.Steps.{replay}
use Rattle.sp_rules.specs.Schedules.{Reached}
use Rattle.sp_core.specs.Running.{Running}
use Rattle.sp_spread.specs.Laws.{JournalsStaySpread, TurnIsLawful}

-- Its plan is compiled; steps lead to its machine, and turns are lawful there; its journal leads to the machine; and journals stay spread.
pub record Known (c : Running) : Type 0 where
  pub compiled : IsCompiled c.plan
  pub reached : Reached c.plan c.bound c.machine
  pub lawful : TurnIsLawful c.plan c.bound c.machine
  pub replays : replay c.plan c.bound c.journal ≡ c.machine
  pub stays : JournalsStaySpread
