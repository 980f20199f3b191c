-- A second query's text has one plan's query or one fault.
use Rattle.std.proofs.Common.{◌≡◌, ℕ, List, Some, None, refl, sym, ap, ◌∙◌}
use Rattle.std.specs.Str.{IsUtf8}
use Rattle.sp_plan.specs.declared.plan.Plan.{Plan}
use Rattle.sp_query.specs.declared.query.Query.{Query as QueryTree}
use Rattle.sp_query.specs.declared.query.Ident.{Ident}
use Rattle.sp_query.specs.Queries.{IsQuery}
use Rattle.sp_compile.specs.Told.{IsPlanOf}
use Rattle.sp_load.specs.declared.refusal.Refusal.{Refusal}
use Rattle.sp_load.specs.declared.refusal.Refusal.TheVariants as r
use Rattle.sp_load.specs.Queries.{IsPlanFor, RefusesText}
use Rattle.sp_load.specs.Seconds.{IsSecondFor, IsFaultySecond, as_query, timed, RefusesSecond}
use Rattle.sp_load.specs.Laws.{OneSecond}
use Rattle.sp_load.proofs.OneTextLaws.{TextLaws, one_reading}

-- what refuses any query's text refuses a second one's
pub as_second : (text : List ℕ) (refusal : Refusal) → RefusesText text refusal → RefusesSecond text refusal
as_second text r.Memory refuses = tt
as_second text (r.Query code place) refuses = as_query code place refuses
as_second text r.Read refuses = absurd refuses
as_second text (r.Limited limit) refuses = absurd refuses

module _ (laws : TextLaws) (text : List ℕ) where
  -- one name stands in the clause TIME
  one_name : (query other : QueryTree) (name name' : Ident) → IsQuery text query → IsQuery text other → query.time ≡ Some name → other.time ≡ Some name' → name ≡ name'
  one_name query other name name' is is' has has' =
      let same : query.time ≡ other.time = ap (λ (q : QueryTree). q.time) (laws.query text query other is is') in
      let both : Some name ≡ Some name' = sym has ∙ (same ∙ has') in
      cc both

  plan_for : (q : Plan) (query : QueryTree) → IsUtf8 text → IsQuery text query → IsPlanOf q query → IsPlanFor text q
  plan_for q query utf8 is plan = record { utf8 = utf8; query = query; is_query = is; is_plan = plan }

  apart : (q : Plan) (code at : ℕ) → IsSecondFor text q → IsFaultySecond text code at → ⊥
  apart q _ _ second (as_query code at faulty) = (one_reading laws).apart text q code at second.plan faulty
  apart q _ _ second (timed p query name utf8 is plan has) =
      let same : second.plan.query.time ≡ query.time = ap (λ (t : QueryTree). t.time) (laws.query text second.plan.query query second.plan.is_query is) in
      let none : None ≡ Some name = sym second.timeless ∙ (same ∙ has) in
      absurd (cc none)

  faults : (code at code' at' : ℕ) → IsFaultySecond text code at → IsFaultySecond text code' at' → (code ≡ code') × (at ≡ at')
  faults _ _ _ _ (as_query code at faulty) (as_query code' at' faulty') = (one_reading laws).faults text code at code' at' faulty faulty'
  faults _ _ _ _ (as_query code at faulty) (timed q query name utf8 is plan has) = absurd ((one_reading laws).apart text q code at (plan_for q query utf8 is plan) faulty)
  faults _ _ _ _ (timed q query name utf8 is plan has) (as_query code at faulty) = absurd ((one_reading laws).apart text q code at (plan_for q query utf8 is plan) faulty)
  faults _ _ _ _ (timed q query name utf8 is plan has) (timed p other name' utf8' is' plan' has') =
      (refl, ap (λ (n : Ident). n.span.from) (one_name query other name name' is is' has has'))

pub one_second : TextLaws → OneSecond
one_second laws = record {
  plans = λ text x y one other. (one_reading laws).plans text x y one.plan other.plan;
  faults = faults laws;
  apart = apart laws;
}
