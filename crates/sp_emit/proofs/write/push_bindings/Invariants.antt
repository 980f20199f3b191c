use Rattle.std.proofs.Common.{◌≡◌, ◌++◌, ◌<◌, ◌^◌, take}
use Rattle.std.specs.Prelude.{string_bytes}
use Rattle.std.specs.List.{All, flat_map}
use Rattle.sp_plan.specs.Lines.{binding_text}
use Rattle.sp_emit.specs.Matches.{ArePlaces}
use Rattle.sp_emit.proofs.write.push_bindings.Given as goal

abbrev pub invariant-loop-name : goal.invariant-loop-name
invariant-loop-name l = record {
  text : string_bytes l.out ≡ string_bytes l.initial.out ++ flat_map (binding_text l.plan) (take l.name-index l.bound);
  names : All (λ pair. pair.0 < 2 ^ 8) (take l.name-index l.bound);
  are : All (λ pair. ArePlaces pair.1) (take l.name-index l.bound);
}
