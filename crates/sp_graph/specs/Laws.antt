-- What is true of the values that matches give.
use Rattle.std.specs.Prelude.{◌≡◌, ℕ, ◌<◌, ◌≤◌, true, List, length, IsSome}
use Rattle.std.specs.List.{All}
use Rattle.sp_base.specs.Numbers.{is_among}
use Rattle.sp_plan.specs.declared.event.Event.{Event}
use Rattle.sp_plan.specs.declared.event.Value.{Value}
use Rattle.sp_plan.specs.declared.event.Value.TheVariants.{Number, Symbol}
use Rattle.sp_plan.specs.declared.plan.Expr.{Expr}
use Rattle.sp_plan.specs.declared.plan.Plan.{Plan}
use Rattle.sp_plan.specs.declared.found.Match.{Match}
use Rattle.sp_plan.specs.Events.{AllFit}
use Rattle.sp_plan.specs.Runs.{bound_names}
use Rattle.sp_plan.specs.Values.{last_bound}
use Rattle.sp_graph.specs.Derived.{bound_of, given}
use Rattle.sp_graph.specs.Returns.{AreReturns}

-- a text has a number below this
abbrev pub IsSymbolBelow : ℕ → Value → Type 0
IsSymbolBelow count (Number n) = Unit {0}
IsSymbolBelow count (Symbol s) = s < count

-- so have those of an event
abbrev pub AreSymbolsBelow : ℕ → Event → Type 0
AreSymbolsBelow count e = All (IsSymbolBelow count) e.values

-- The match binds an event of these to each name of the plan that isn't negated.
abbrev pub BindsEach : Plan → List Event → Match → Type 0
BindsEach q events m = (name : ℕ) → is_among (bound_names q) name ≡ true → IsSome (last_bound name (bound_of events m))

-- What a compiler hands in gives no text but those of the first input, where its events fit the first query and a match binds its names.
abbrev pub ReturnedTextsAreThere : Type 0
ReturnedTextsAreThere =
    (first second : Plan) (returns : List Expr) (events : List Event) (count : ℕ) (m : Match) → AreReturns first second returns → AllFit first events
    → All (AreSymbolsBelow count) events → length first.texts ≤ count → BindsEach first events m
    → All (IsSymbolBelow count) (given second.schema.columns returns (bound_of events m))
