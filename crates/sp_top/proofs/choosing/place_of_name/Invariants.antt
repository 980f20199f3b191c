use Rattle.std.proofs.Common.{◌≡◌, ◌++◌, take, drop}
use Rattle.std.specs.Str.{bytes_eq}
use Rattle.sp_top.specs.Predictors.{first_of, others_of}
use Rattle.sp_top.proofs.choosing.place_of_name.Given as goal

abbrev pub invariant-loop-i : goal.invariant-loop-i
invariant-loop-i g l = record {
  first : first_of (λ one. bytes_eq ((goal.Predictor-dyn g (one.vtable, one.value)).named one.value) l.name) l.predictors
      ≡ first_of (λ one. bytes_eq ((goal.Predictor-dyn g (one.vtable, one.value)).named one.value) l.name) (drop l.i l.predictors);
  others : others_of (λ one. bytes_eq ((goal.Predictor-dyn g (one.vtable, one.value)).named one.value) l.name) l.predictors
      ≡ take l.i l.predictors ++ others_of (λ one. bytes_eq ((goal.Predictor-dyn g (one.vtable, one.value)).named one.value) l.name) (drop l.i l.predictors);
}
