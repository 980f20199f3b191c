-- The steps of a schedule can stand.
use Rattle.std.proofs.Common.{ℕ, List}
use Rattle.std.specs.List.{All}
use Rattle.std.proofs.lemmas.List.Elements.{All-nil, All-cons}
use Rattle.sp_sched.specs.declared.step.TraceStep.{TraceStep}
use Rattle.sp_sched.specs.Schedules.{AreSteps, CanStand}
use Rattle.sp_sched.specs.Schedules.AreSteps.{none, blank, step}

pub all_stand : (ls : List (List ℕ)) (xs : List TraceStep) → AreSteps ls xs → All CanStand xs
all_stand _ _ none = All-nil CanStand
all_stand _ _ (blank ls xs a) = all_stand ls xs a
all_stand _ _ (step x ls xs can a) = All-cons CanStand x xs can (all_stand ls xs a)
