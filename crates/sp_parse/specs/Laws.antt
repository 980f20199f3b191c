-- What is true of every text.
use Rattle.std.specs.Prelude.{◌≡◌, ◌≢◌, ℕ, List}
use Rattle.sp_query.specs.declared.query.Query.{Query}
use Rattle.sp_query.specs.Queries.{IsQuery}
use Rattle.sp_parse.specs.declared.fault.ParseFault.{ParseFault}
use Rattle.sp_parse.specs.declared.fault.ParseFault.TheVariants as f
use Rattle.sp_parse.specs.Parses.{Refuses}

-- A text has at most one fault, but for want of memory, and none where it is a query.
pub record QueryOrOneFault : Type 0 where
  pub fault : (text : List ℕ) (one other : ParseFault) → one ≢ f.Memory → other ≢ f.Memory → Refuses text one → Refuses text other → one ≡ other
  pub apart : (text : List ℕ) (query : Query) (fault : ParseFault) → fault ≢ f.Memory → IsQuery text query → Refuses text fault → ⊥
