-- What is made of a text of items: expressions, or a code and a place that refuse it.
use Rattle.std.specs.Prelude.{◌≢◌, ℕ, List}
use Rattle.sp_plan.specs.declared.plan.Expr.{Expr}
use Rattle.sp_plan.specs.declared.plan.Plan.{Plan}
use Rattle.sp_parse.specs.declared.fault.ParseFault.{ParseFault}
use Rattle.sp_parse.specs.declared.fault.ParseFault.TheVariants as parse_fault
use Rattle.sp_parse.specs.Codes as parse_codes
use Rattle.sp_compile.specs.declared.fault.CompileFault.{CompileFault}
use Rattle.sp_compile.specs.declared.fault.CompileFault.TheVariants as compile_fault
use Rattle.sp_compile.specs.Codes as compile_codes
use Rattle.sp_graph.specs.Returns.{AreReturns}
use Rattle.sp_returns.specs.declared.item.Return.{Return}
use Rattle.sp_returns.specs.declared.refusal.ReturnsRefusal.{ReturnsRefusal}
use Rattle.sp_returns.specs.declared.refusal.ReturnsRefusal.TheVariants.{Memory, Fault}
use Rattle.sp_returns.specs.Grammar.{IsReturnList}
use Rattle.sp_returns.specs.Parses as parses
use Rattle.sp_returns.specs.Stands.{IsReturnsOf, RefusesReturns}

-- The expressions stand for the items that the text is, from events of the first plan to events of the second.
pub record IsReturnsFor (text : List ℕ) (from into : Plan) (returns : List Expr) : Type 0 where
  pub items : List Return
  pub are_items : IsReturnList text items
  pub are_returns : IsReturnsOf items from into.schema returns
  pub suit : AreReturns from into returns

-- The text has a fault with this code, which stands there.
pub data IsFaultyReturns (text : List ℕ) (from into : Plan) : ℕ → ℕ → Type 0 where
  no_items : (fault : ParseFault) → parses.Refuses text fault → fault ≢ parse_fault.Memory
      → IsFaultyReturns text from into (parse_codes.code_of fault) (parse_codes.place_of fault)
  no_returns : (items : List Return) (fault : CompileFault) → IsReturnList text items → RefusesReturns items from into.schema fault → fault ≢ compile_fault.Memory
      → IsFaultyReturns text from into (compile_codes.code_of fault) (compile_codes.place_of fault)

-- the text is refused by its fault alone
abbrev pub RefusesReturned : List ℕ → Plan → Plan → ReturnsRefusal → Type 0
RefusesReturned text from into Memory = Unit {0}
RefusesReturned text from into (Fault code place) = IsFaultyReturns text from into code place
