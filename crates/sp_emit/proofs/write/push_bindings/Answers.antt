use Rattle.std.proofs.Common.{◌<◌, ◌^◌, ℕ, List, length, subst, arith}
use Rattle.std.proofs.lemmas.List.{take_all}
use Rattle.std.proofs.lemmas.List.Elements.{All-more}
use Rattle.std.specs.List.{All}
use Rattle.sp_emit.specs.Matches.{ArePlaces}
use Rattle.sp_emit.proofs.Written.{one_more}
use Rattle.sp_emit.proofs.write.push_bindings.Goals as goal

pub loop-name-preserved : goal.loop-name-preserved
loop-name-preserved c =
    let inside : c.loop-name.name-index < length c.args.bound.now = omega arith in
    record {
      text = one_more c.args.plan.now _ _ _ c.args.bound.now c.loop-name.name-index c.loop-name-item.result inside c.loop-name-item.is c.loop-name.invariant.text c.in_ok-push_binding.ensures.text;
      names = All-more (λ pair. pair.0 < 2 ^ 8) c.args.bound.now c.loop-name.name-index c.loop-name-item.result inside c.loop-name.invariant.names
          (subst (λ (pair : ℕ × List ℕ). pair.0 < 2 ^ 8) c.loop-name-item.is c.in_ok-push_binding.ensures.byte);
      are = All-more (λ pair. ArePlaces pair.1) c.args.bound.now c.loop-name.name-index c.loop-name-item.result inside c.loop-name.invariant.are
          (subst (λ (pair : ℕ × List ℕ). ArePlaces pair.1) c.loop-name-item.is c.in_ok-push_binding.ensures.are);
    }

pub returns-clause-are : goal.returns-clause-are
returns-clause-are c = subst (λ (l : List (ℕ × List ℕ)). All (λ pair. ArePlaces pair.1) l) (take_all c.loop-name.name-index c.args.bound.now (omega arith)) c.loop-name.invariant.are
