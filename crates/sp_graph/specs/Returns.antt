-- Expressions by which matches of one query become events of a second.
use Rattle.std.specs.Prelude.{◌≡◌, List, length}
use Rattle.std.specs.List.{All, zip}
use Rattle.sp_plan.specs.declared.plan.Kind.{Kind}
use Rattle.sp_plan.specs.declared.plan.Kind.TheVariants.{Int, Dec, Text}
use Rattle.sp_plan.specs.declared.plan.Expr.{Expr, Literal, Word, Column as At, Earlier, Raise', Minus', Add', Sub', Mul'}
use Rattle.sp_plan.specs.declared.plan.Plan.{Plan}
use Rattle.sp_plan.specs.Bounds.{StaysWithin}
use Rattle.sp_plan.specs.Comparable.{Readable, IsText, HasScale}
use Rattle.sp_plan.specs.Compiled.{readable}

-- No column of an event at hand is read.
abbrev pub ReadsBound : Expr → Type 0
ReadsBound (Literal n) = Unit {0}
ReadsBound (Word s) = Unit {0}
ReadsBound (At c) = ⊥
ReadsBound (Earlier name c) = Unit {0}
ReadsBound (Raise' by p inner) = ReadsBound inner
ReadsBound (Minus' p inner) = ReadsBound inner
ReadsBound (Add' p left q right) = ReadsBound left × ReadsBound right
ReadsBound (Sub' p left q right) = ReadsBound left × ReadsBound right
ReadsBound (Mul' p left q right) = ReadsBound left × ReadsBound right

-- The expression is of a column's kind: a text, or a number with as many decimals.
abbrev pub IsOfKind : Readable → Kind → Expr → Type 0
IsOfKind r Int expr = HasScale r expr 0
IsOfKind r (Dec digits) expr = HasScale r expr digits
IsOfKind r Text expr = IsText r expr

-- There is one expression for each column of the second query, of its kind. Each reads bound names of the first query alone, has texts
-- of that query, and stays within 10^36.
pub record AreReturns (first second : Plan) (returns : List Expr) : Type 0 where
  pub count : length returns ≡ length second.schema.columns
  pub kinds : All (λ pair. IsOfKind (readable first (length first.names)) pair.0.kind pair.1) (zip second.schema.columns returns)
  pub bound : All ReadsBound returns
  pub within : All StaysWithin returns
