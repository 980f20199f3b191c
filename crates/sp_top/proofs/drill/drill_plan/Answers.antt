use Rattle.std.proofs.Common.{ℕ, List, subst}
use Rattle.std.specs.Prelude.{IfErr}
use Rattle.sp_load.specs.Queries.{RefusesText}
use Rattle.sp_top.proofs.Drilling.{memory_alone}
use Rattle.sp_top.proofs.drill.drill_plan.Goals as goal

pub returns-clause-memory : goal.returns-clause-memory
returns-clause-memory c =
    memory_alone c.one_reading.ensures c.drill_query_has_plan.ensures c.plan_of_text.result
    (subst (λ (t : List ℕ). IfErr c.plan_of_text.result (RefusesText t)) c.query.ensures c.plan_of_text.ensures.refused)
