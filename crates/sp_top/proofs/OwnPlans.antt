-- The plans of one text run in place of one another.
use Rattle.std.proofs.Common.{ℕ, List, ap}
use Rattle.std.specs.List.{All}
use Rattle.std.proofs.lemmas.List.Elements.{All-weaker}
use Rattle.sp_plan.specs.declared.plan.Plan.{Plan}
use Rattle.sp_plan.specs.declared.plan.Schema.{Schema}
use Rattle.sp_plan.specs.Sequential.{Progress}
use Rattle.sp_load.specs.Laws.{OneReading}
use Rattle.sp_load.specs.Queries.{IsPlanFor}
use Rattle.sp_forest.specs.Alike.{RunsAs}
use Rattle.sp_commands.specs.Alike.{PlansMatchAlike}

module _ (reading : OneReading) (alike : PlansMatchAlike) (text : List ℕ) (q : Plan) (plan : IsPlanFor text q) where
  pub runs_as : (own : Plan) → IsPlanFor text own → RunsAs q own
  runs_as own other =
      let one = reading.plans text own q other plan in
      let same = alike one.0 own q one.1 one.2 in
      record {
        compiled = other.is_plan.compiled;
        columns = ap (λ (s : Schema). s.columns) same.0;
        matches = λ events ended good. ap (λ (p : Progress). p.matches) (same.1 events ended);
      }

  -- so do several of them, however they are kept
  pub all_run_as : {X : Type 0} (value : X → Plan) (xs : List X) → All (λ x. IsPlanFor text (value x)) xs → All (λ x. RunsAs q (value x)) xs
  all_run_as value xs plans = All-weaker (λ x. IsPlanFor text (value x)) (λ x. RunsAs q (value x)) (λ x other. runs_as (value x) other) xs plans
