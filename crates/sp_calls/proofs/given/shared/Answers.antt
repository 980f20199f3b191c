-- The plan in the shared one is the compiled one, so it keeps the limits of queries.
use Rattle.std.proofs.Common.{◌≡◌, IfOk, IfSome, Result, Ok, Err, Global, subst, sym}
use Rattle.std.specs.declared.sync.Arc.{Arc}
use Rattle.std.specs.Result.{result_ok}
use Rattle.std.specs.Arc.{arc_value}
use Rattle.sp_plan.specs.declared.plan.Plan.{Plan}
use Rattle.sp_plan.specs.Compiled.{IsCompiled}
use Rattle.sp_calls.proofs.given.shared.Goals as goal

shared_keeps : {E : Type 0} (shared : Result (Arc Plan Global) E) (q : Plan) →
    IfOk shared (λ arc. arc_value arc ≡ q) → IsCompiled q → IfSome (result_ok shared) (λ arc. IsCompiled (arc_value arc))
shared_keeps (Ok arc) q is kept = subst IsCompiled (sym is) kept
shared_keeps (Err e) q is kept = tt

pub returns-in-Ok : goal.returns-in-Ok
returns-in-Ok c = rw c.ok.ensures.value (shared_keeps c.new.result c.in-Ok.plan c.new.ensures.ok c.in-Ok.ensures.plan.compiled)
