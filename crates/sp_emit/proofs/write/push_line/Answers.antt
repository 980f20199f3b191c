use Rattle.std.proofs.Common.{◌<◌, ◌^◌, ℕ, List, subst, arith}
use Rattle.std.proofs.lemmas.Grind.{common_steps}
use Rattle.std.specs.List.{All}
use Rattle.sp_emit.specs.Matches.{ArePlaces}
use Rattle.sp_emit.proofs.write.push_line.Goals as goal

pub returns-clause-held : goal.returns-clause-held
returns-clause-held c = record {
  window = c.in_ok-push_head.ensures.window;
  number = c.in_ok-push_head.ensures.number;
  names = subst (λ (b : List (ℕ × List ℕ)). All (λ pair. pair.0 < 2 ^ 8) b) c.as_slice.ensures c.in_ok-push_bindings.ensures.names;
  bound = subst (λ (b : List (ℕ × List ℕ)). All (λ pair. ArePlaces pair.1) b) c.as_slice.ensures c.in_ok-push_bindings.ensures.are;
  used = c.in_ok-push_used.ensures.are;
}

pub returns-clause-line : goal.returns-clause-line
returns-clause-line c = grind (arith, common_steps)
