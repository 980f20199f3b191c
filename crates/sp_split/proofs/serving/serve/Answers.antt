use Rattle.std.proofs.Common.{Some}
use Rattle.sp_core.specs.Running.{Running}
use Rattle.sp_split.specs.declared.ended.Why.{Why}
use Rattle.sp_split.specs.Relieving.{AreDue}
use Rattle.sp_split.specs.Stopping.{IsThrough}
use Rattle.sp_split.proofs.Serves.{if_went, on_went, serves_by}
use Rattle.sp_split.proofs.serving.serve.Goals as goal

pub returns-clause-served : goal.returns-clause-served
returns-clause-served g c = λ from first old same is. (
  rw (c.leave.ensures.end, c.leave.ensures.got) (serves_by _ _ _ _ _ _ _ _ _ _ _ _ _ (c.in-Some.ensures.stretched.ends from first old same is) c.serve_on.ensures.came),
  c.serve_on.ensures.stretched.prompt from first old is,
)

pub returns-clause-relieved : goal.returns-clause-relieved
returns-clause-relieved g c = rw (c.leave.ensures.end, c.leave.ensures.team) (on_went _ c.serve_on.new.serving.desk.splitter.core c.in-Some.end c.in-Some.ensures.relieved_end)

pub returns-clause-due : goal.returns-clause-due
returns-clause-due g c =
    rw (c.leave.ensures.end, c.leave.ensures.team)
    (if_went (λ (why : Why) (core : Running). IsThrough (Some why) → AreDue c.serve_on.new.serving.relay core.machine.finished) c.serve_on.new.serving.desk.splitter.core c.in-Some.end c.in-Some.ensures.due)
