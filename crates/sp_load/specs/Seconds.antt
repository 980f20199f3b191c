-- What is made of the text of a second query, whose events are those that matches of a first one give: as of any query's text, but that it has no clause
-- TIME, since its events have none.
use Rattle.std.specs.Prelude.{◌≡◌, ℕ, List, Some, None}
use Rattle.std.specs.Str.{IsUtf8}
use Rattle.sp_plan.specs.declared.plan.Plan.{Plan}
use Rattle.sp_query.specs.declared.query.Query.{Query as QueryTree}
use Rattle.sp_query.specs.declared.query.Ident.{Ident}
use Rattle.sp_query.specs.Queries.{IsQuery}
use Rattle.sp_compile.specs.Told.{IsPlanOf}
use Rattle.sp_load.specs.declared.refusal.Refusal.{Refusal}
use Rattle.sp_load.specs.declared.refusal.Refusal.TheVariants.{Memory, Read, Limited, Query}
use Rattle.sp_load.specs.Queries.{IsPlanFor, IsFaulty}

-- The plan stands for the second query that the text is.
pub record IsSecondFor (text : List ℕ) (q : Plan) : Type 0 where
  pub plan : IsPlanFor text q
  pub timeless : plan.query.time ≡ None

-- The text of a second query has a fault with this code, which stands there.
pub data IsFaultySecond (text : List ℕ) : ℕ → ℕ → Type 0 where
  as_query : (code at : ℕ) → IsFaulty text code at → IsFaultySecond text code at
  -- nothing else is wrong, and it has a clause TIME with this name: a column of the wrong kind
  timed : (q : Plan) (query : QueryTree) (name : Ident) → IsUtf8 text → IsQuery text query → IsPlanOf q query → query.time ≡ Some name
      → IsFaultySecond text 23 name.span.from

-- the text is refused by its fault alone
abbrev pub RefusesSecond : List ℕ → Refusal → Type 0
RefusesSecond text Memory = Unit {0}
RefusesSecond text (Query code place) = IsFaultySecond text code place
RefusesSecond text Read = ⊥
RefusesSecond text (Limited limit) = ⊥
