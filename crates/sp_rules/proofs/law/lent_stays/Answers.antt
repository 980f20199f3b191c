use Rattle.sp_rules.proofs.Lasting.{step_lasts}
use Rattle.sp_rules.proofs.TicketsStay.{step_reads_on}
use Rattle.sp_rules.proofs.law.lent_stays.Goals as goal

pub returns : goal.returns
returns c = λ q bound m x number t u compiled kept fits out still. (
  step_reads_on q bound m x number t u kept out still,
  λ after live. step_lasts q (c.compiled_plans_are_lawful.ensures q compiled) bound m x number t u kept fits out still after live,
)
