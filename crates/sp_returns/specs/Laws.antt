-- What is true of every text of items.
use Rattle.std.specs.Prelude.{◌≡◌, ◌≢◌, ℕ, List}
use Rattle.sp_plan.specs.declared.plan.Expr.{Expr}
use Rattle.sp_plan.specs.declared.plan.Plan.{Plan}
use Rattle.sp_plan.specs.Values.{BoundEvents}
use Rattle.sp_query.specs.declared.query.Query.{Query}
use Rattle.sp_compile.specs.Told.{IsPlanOf}
use Rattle.sp_parse.specs.declared.fault.ParseFault.{ParseFault}
use Rattle.sp_parse.specs.declared.fault.ParseFault.TheVariants as f
use Rattle.sp_graph.specs.Derived.{given}
use Rattle.sp_returns.specs.declared.item.Return.{Return}
use Rattle.sp_returns.specs.Grammar.{IsReturnList}
use Rattle.sp_returns.specs.Parses.{Refuses}
use Rattle.sp_returns.specs.Told.{IsReturnsFor, IsFaultyReturns}

-- A text is at most one list of items; it has at most one fault, but for want of memory, and none where it is such a list.
pub record ItemsOrOneFault : Type 0 where
  pub items : (text : List ℕ) (one other : List Return) → IsReturnList text one → IsReturnList text other → one ≡ other
  pub fault : (text : List ℕ) (one other : ParseFault) → one ≢ f.Memory → other ≢ f.Memory → Refuses text one → Refuses text other → one ≡ other
  pub apart : (text : List ℕ) (items : List Return) (fault : ParseFault) → fault ≢ f.Memory → IsReturnList text items → Refuses text fault → ⊥

-- For two plans a text has one fault at most, and none where expressions stand for it.
pub record ReturnsOrOneFault : Type 0 where
  pub faults : (text : List ℕ) (from into : Plan) (code at code' at' : ℕ) → IsFaultyReturns text from into code at → IsFaultyReturns text from into code' at' → (code ≡ code') × (at ≡ at')
  pub apart : (text : List ℕ) (from into : Plan) (returns : List Expr) (code at : ℕ) → IsReturnsFor text from into returns → IsFaultyReturns text from into code at → ⊥

-- Over plans of the same two queries, expressions that stand for one text give the same values, whatever events are bound; and a text
-- that is refused over some of these plans is over the others.
pub record ReturnsAreAlike (first second : Query) : Type 0 where
  pub values : (text : List ℕ) (from into from' into' : Plan) (x y : List Expr) → IsPlanOf from first → IsPlanOf from' first → IsPlanOf into second → IsPlanOf into' second
      → IsReturnsFor text from into x → IsReturnsFor text from' into' y → (bound : BoundEvents) → given into.schema.columns x bound ≡ given into'.schema.columns y bound
  pub faults : (text : List ℕ) (from into from' into' : Plan) (code at : ℕ) → IsPlanOf from first → IsPlanOf from' first → IsPlanOf into second → IsPlanOf into' second
      → IsFaultyReturns text from into code at → IsFaultyReturns text from' into' code at
