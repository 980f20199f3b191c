-- Plans that come to the same whatever the input has: they differ at most in how their predicates are written.
use Rattle.std.specs.Prelude.{◌≡◌, ℕ, Bool, List, length, Option, Some, None, slice_get}
use Rattle.sp_plan.specs.declared.event.Event.{Event}
use Rattle.sp_plan.specs.declared.plan.Plan.{Plan}
use Rattle.sp_plan.specs.declared.plan.Name.{Name}
use Rattle.sp_plan.specs.declared.plan.Pred.{Pred}
use Rattle.sp_plan.specs.declared.plan.Opening.{Opening}
use Rattle.sp_plan.specs.declared.plan.Opening.TheVariants.{When}
use Rattle.sp_plan.specs.Sequential.{whole}
use Rattle.sp_plan.specs.Values.{BoundEvents, holds}
use Rattle.sp_query.specs.declared.query.Query.{Query}
use Rattle.sp_compile.specs.Told.{IsPlanOf}
use Rattle.sp_intake.specs.Loose.{Lateness}
use Rattle.sp_commands.specs.Run.{text_by, told_outcome}

-- the predicates hold alike
abbrev pub HoldAlike : Pred → Pred → Type 0
HoldAlike p r = (e : Event) (b : BoundEvents) → holds p e b ≡ holds r e b

abbrev pub NamesAlike : Option Name → Option Name → Type 0
NamesAlike None None = Unit {0}
NamesAlike (Some x) (Some y) = (x.text ≡ y.text) × (x.consumed ≡ y.consumed) × HoldAlike x.pred y.pred
NamesAlike None (Some y) = ⊥
NamesAlike (Some x) None = ⊥

abbrev pub OpeningsAlike : Opening → Opening → Type 0
OpeningsAlike (When p) (When r) = HoldAlike p r
OpeningsAlike x y = x ≡ y

-- Two plans are alike.
pub record Alike (x y : Plan) : Type 0 where
  pub schema : x.schema ≡ y.schema
  pub texts : x.texts ≡ y.texts
  pub count : length x.names ≡ length y.names
  pub names : (i : ℕ) → NamesAlike (slice_get x.names i) (slice_get y.names i)
  pub elements : x.elements ≡ y.elements
  pub select : x.select ≡ y.select
  pub length_is : x.length ≡ y.length
  pub opening : OpeningsAlike x.opening y.opening

-- Plans that stand for one query have one outcome over all bytes, by however much events may be late, whether lines are told or proofs.
abbrev pub PlansRunAlike : Type 0
PlansRunAlike = (query : Query) (x y : Plan) → IsPlanOf x query → IsPlanOf y query → (proof : Bool) (l : Lateness) (bytes : List ℕ) (ended : Bool)
    → told_outcome (text_by proof) x l bytes ended ≡ told_outcome (text_by proof) y l bytes ended

-- Plans that stand for one query have the same schema, and find the same matches in all events.
abbrev pub PlansMatchAlike : Type 0
PlansMatchAlike = (query : Query) (x y : Plan) → IsPlanOf x query → IsPlanOf y query
    → (x.schema ≡ y.schema) × ((events : List Event) (ended : Bool) → whole x events ended ≡ whole y events ended)
