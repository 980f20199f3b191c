-- A text has one plan's query or one fault, and what stands at a place where files are told is one text.
use Rattle.std.specs.Prelude.{◌≡◌, ℕ, List, Some}
use Rattle.sp_base.specs.Limits.{query_limit}
use Rattle.sp_plan.specs.declared.plan.Plan.{Plan}
use Rattle.sp_query.specs.declared.query.Query.{Query as QueryTree}
use Rattle.sp_compile.specs.Told.{IsPlanOf}
use Rattle.sp_load.specs.Places.{Place, HasText, IsLonger}
use Rattle.sp_load.specs.Queries.{IsPlanFor, IsFaulty}
use Rattle.sp_load.specs.Seconds.{IsSecondFor, IsFaultySecond}

-- The plans of a text stand for one query, its faults are one, and it has never both.
pub record OneReading : Type 0 where
  pub plans : (text : List ℕ) (x y : Plan) → IsPlanFor text x → IsPlanFor text y
      → (query : QueryTree) × IsPlanOf x query × IsPlanOf y query
  pub faults : (text : List ℕ) (code at code' at' : ℕ) → IsFaulty text code at → IsFaulty text code' at'
      → (code ≡ code') × (at ≡ at')
  pub apart : (text : List ℕ) (q : Plan) (code at : ℕ) → IsPlanFor text q → IsFaulty text code at → ⊥

-- Where files are told, one text stands at a place, or it is longer than the limit, and never both.
pub record OneText : Type 0 where
  pub texts : (files : List (List ℕ × List ℕ)) (place : Place) (one other : List ℕ)
      → HasText (Some files) place one → HasText (Some files) place other → one ≡ other
  pub apart : (files : List (List ℕ × List ℕ)) (place : Place) (text : List ℕ)
      → HasText (Some files) place text → IsLonger (Some files) query_limit place → ⊥

-- The plans of a second query's text stand for one query, its faults are one, and it has never both.
pub record OneSecond : Type 0 where
  pub plans : (text : List ℕ) (x y : Plan) → IsSecondFor text x → IsSecondFor text y
      → (query : QueryTree) × IsPlanOf x query × IsPlanOf y query
  pub faults : (text : List ℕ) (code at code' at' : ℕ) → IsFaultySecond text code at → IsFaultySecond text code' at'
      → (code ≡ code') × (at ≡ at')
  pub apart : (text : List ℕ) (q : Plan) (code at : ℕ) → IsSecondFor text q → IsFaultySecond text code at → ⊥
