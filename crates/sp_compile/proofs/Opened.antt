-- A step between windows that has no fault.
use Rattle.std.proofs.Common.{◌≡◌, ℕ, Bool, true, List, Some, None, Result, Ok, Err, refl, sym, ap, subst}
use Rattle.std.specs.Prelude.{IfOk, if◌then◌else◌}
use Rattle.sp_lex.specs.declared.token.Span.{Span}
use Rattle.sp_lex.specs.declared.token.Word.{Word}
use Rattle.sp_lex.specs.declared.token.Word.TheVariants as w
use Rattle.sp_plan.specs.declared.plan.Opening.{Opening}
use Rattle.sp_plan.specs.Comparable.{Readable}
use Rattle.sp_plan.specs.Compiled.{OpeningWithin, OpeningReads}
use Rattle.sp_query.specs.declared.query.Query.{Query}
use Rattle.sp_query.specs.declared.query.QueryOpening.TheVariants as o
use Rattle.sp_compile.specs.declared.fault.CompileFault.{CompileFault}
use Rattle.sp_compile.specs.declared.fault.CompileFault.TheVariants as f
use Rattle.sp_compile.specs.Answers.{scope_in, readable_in}
use Rattle.sp_compile.specs.Checks.{step_is_fine, OpeningFault}
use Rattle.sp_compile.specs.Stages.{OpeningPasses}
use Rattle.sp_compile.specs.Stands.{plan_step, StandsForOpening}
use Rattle.sp_compile.proofs.WindowLimits.{step_keeps}

-- a step has no predicate
step_within : (step : ℕ) (unit : Word) → OpeningWithin (plan_step step unit)
step_within step w.Time = tt
step_within step _ = tt

step_reads : (r : Readable) (step : ℕ) (unit : Word) → OpeningReads r (plan_step step unit)
step_reads r step w.Time = tt
step_reads r step _ = tt

module _ (query : Query) (texts : List (List ℕ)) (step : ℕ) (unit : Word) (span : Span) (every : query.opening ≡ o.Every step unit span) where
  -- the opening of a step without a fault
  step_passes : step_is_fine query.length.0 query.length.1 step unit ≡ true → OpeningPasses query texts (plan_step step unit)
  step_passes fine = record {
    checks = subst (λ opening. OpeningFault query opening None) (sym every) (ap (λ (b : Bool). if b then None else Some (f.BadWindow span)) (sym fine));
    stands = subst (λ opening. StandsForOpening query texts opening (plan_step step unit)) (sym every) refl;
    within = step_within step unit;
    reads = step_reads (readable_in (scope_in query None) texts) step unit;
    opens = step_keeps query.length.0 query.length.1 step unit fine;
  }

  pub stepped_passes : (result : Result Opening CompileFault) → IfOk result (λ _. step_is_fine query.length.0 query.length.1 step unit ≡ true) → IfOk result (λ opening. opening ≡ plan_step step unit) → IfOk result (λ opening. OpeningPasses query texts opening)
  stepped_passes (Ok opening) fine is = subst (λ made. OpeningPasses query texts made) (sym is) (step_passes fine)
  stepped_passes (Err fault) fine is = tt
