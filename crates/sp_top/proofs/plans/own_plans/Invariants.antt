use Rattle.std.proofs.Common.{◌≡◌, vec_len}
use Rattle.std.specs.Arc.{arc_value}
use Rattle.std.specs.List.{All}
use Rattle.sp_load.specs.Places.{text_of}
use Rattle.sp_load.specs.Queries.{IsPlanFor}
use Rattle.sp_top.proofs.plans.own_plans.Given as goal

abbrev pub invariant-loop : goal.invariant-loop
invariant-loop l = All (λ plan. IsPlanFor (text_of l.text) (arc_value plan)) l.own.items × (vec_len l.own ≡ l.counter)
