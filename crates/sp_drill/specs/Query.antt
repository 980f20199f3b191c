-- The drill's query: its text, and that it has a plan.
use Rattle.std.specs.Prelude.{ℕ, ◌≤◌, List, length, codes}
use Rattle.sp_base.specs.Limits.{query_limit}
use Rattle.sp_plan.specs.declared.plan.Plan.{Plan}
use Rattle.sp_load.specs.Queries.{IsPlanFor}
use Rattle.sp_drill.specs.Drill.{IsDrillSchema}

-- the text of the drill's query
unfoldable pub drill_query : List ℕ
drill_query = codes "EVENT (at INT, sym TEXT, price DEC 2) TIME at PATTERN (A B+ C) DEFINE A AS sym = 'AA', B AS price < A.price, C AS price > A.price WITHIN 40 EVENTS FROM EVERY 10 EVENTS SELECT FIRST CONSUME ALL"

-- The text is no longer than a query may be and has a plan, and every plan of it reads the rows that are generated: its columns are theirs, and the first one is the time.
pub record DrillQueryHasPlan : Type 0 where
  pub plan : Plan
  pub is : IsPlanFor drill_query plan
  pub short : length drill_query ≤ query_limit
  pub reads : (q : Plan) → IsPlanFor drill_query q → IsDrillSchema q
