-- What is made of a query's text: a plan, or a code and a place that refuse it.
use Rattle.std.specs.Prelude.{◌≢◌, ℕ, List}
use Rattle.std.specs.Str.{IsUtf8}
use Rattle.std.specs.Str.Lossy.{utf8_valid_len}
use Rattle.sp_base.specs.Limits.{query_limit}
use Rattle.sp_io.specs.Outside.{ToldFiles}
use Rattle.sp_plan.specs.declared.plan.Plan.{Plan}
use Rattle.sp_query.specs.declared.query.Query.{Query as QueryTree}
use Rattle.sp_query.specs.Queries.{IsQuery}
use Rattle.sp_parse.specs.declared.fault.ParseFault.{ParseFault}
use Rattle.sp_parse.specs.declared.fault.ParseFault.TheVariants as parse_fault
use Rattle.sp_parse.specs.Parses as parses
use Rattle.sp_parse.specs.Codes as parse_codes
use Rattle.sp_compile.specs.declared.fault.CompileFault.{CompileFault}
use Rattle.sp_compile.specs.declared.fault.CompileFault.TheVariants as compile_fault
use Rattle.sp_compile.specs.Told as told
use Rattle.sp_compile.specs.Told.{IsPlanOf}
use Rattle.sp_compile.specs.Codes as compile_codes
use Rattle.sp_load.specs.declared.refusal.Refusal.{Refusal}
use Rattle.sp_load.specs.declared.refusal.Refusal.TheVariants.{Memory, Read, Limited, Query}
use Rattle.sp_load.specs.Places.{Place, HasText}
use Rattle.sp_load.specs.Loads.{RefusesLoad}

-- The plan stands for the query that the text is.
pub record IsPlanFor (text : List ℕ) (q : Plan) : Type 0 where
  pub utf8 : IsUtf8 text
  pub query : QueryTree
  pub is_query : IsQuery text query
  pub is_plan : IsPlanOf q query

-- The text has a fault with this code, which stands there.
pub data IsFaulty (text : List ℕ) : ℕ → ℕ → Type 0 where
  -- bytes that are no UTF-8, from the first such byte on
  no_text : (IsUtf8 text → ⊥) → IsFaulty text 1 (utf8_valid_len text)
  no_query : (fault : ParseFault) → IsUtf8 text → parses.Refuses text fault → fault ≢ parse_fault.Memory
      → IsFaulty text (parse_codes.code_of fault) (parse_codes.place_of fault)
  no_plan : (query : QueryTree) (fault : CompileFault) → IsUtf8 text → IsQuery text query
      → told.Refuses query fault → fault ≢ compile_fault.Memory
      → IsFaulty text (compile_codes.code_of fault) (compile_codes.place_of fault)

-- the text is refused by its fault alone
abbrev pub RefusesText : List ℕ → Refusal → Type 0
RefusesText text Memory = Unit {0}
RefusesText text (Query code place) = IsFaulty text code place
RefusesText text Read = ⊥
RefusesText text (Limited limit) = ⊥

-- each text that is the query is refused
abbrev pub RefusesQuery : QueryTree → Refusal → Type 0
RefusesQuery query refusal = (text : List ℕ) → IsUtf8 text → IsQuery text query → RefusesText text refusal

-- the query that stands there has this plan
abbrev pub IsPlanAt : ToldFiles → Place → Plan → Type 0
IsPlanAt held place q = (text : List ℕ) × HasText held place text × IsPlanFor text q

-- the query that stands there has a fault with this code at this place of its text
abbrev pub IsFaultyAt : ToldFiles → Place → ℕ → ℕ → Type 0
IsFaultyAt held place code at = (text : List ℕ) × HasText held place text × IsFaulty text code at

-- the query that stands there is refused, by its length or by a fault of its text
abbrev pub RefusesPlace : ToldFiles → Place → Refusal → Type 0
RefusesPlace held place (Query code at) = IsFaultyAt held place code at
RefusesPlace held place refusal = RefusesLoad held query_limit place refusal
