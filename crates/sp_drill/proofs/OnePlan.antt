-- Every plan of the drill's query has the columns of the generated rows.
use Rattle.std.proofs.Common.{◌≤◌, length, sym, ◌∙◌, lit≤}
use Rattle.sp_base.specs.Limits.{query_limit}
use Rattle.sp_plan.specs.declared.plan.Plan.{Plan}
use Rattle.sp_load.specs.Queries.{IsPlanFor}
use Rattle.sp_load.specs.Laws.{OneReading}
use Rattle.sp_drill.specs.Drill.{IsDrillSchema}
use Rattle.sp_drill.specs.Query.{drill_query, DrillQueryHasPlan}
use Rattle.sp_drill.proofs.Planned.{plan, is_plan}

-- a plan of the query stands for what the plan that is known stands for
has_schema : OneReading → (q : Plan) → IsPlanFor drill_query q → IsDrillSchema q
has_schema law q of_query =
    let one = law.plans drill_query plan q is_plan of_query in
    record {
      columns = one.2.stands.columns ∙ sym one.1.stands.columns;
      time = one.2.stands.time ∙ sym one.1.stands.time;
    }

short : length drill_query ≤ query_limit
unfolding drill_query
short = lit≤ tt

pub has_plan : OneReading → DrillQueryHasPlan
has_plan law = record { plan = plan; is = is_plan; short = short; reads = has_schema law }
