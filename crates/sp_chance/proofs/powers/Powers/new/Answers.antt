use Rattle.std.proofs.Common.{arith, rules}
use Rattle.sp_chance.proofs.powers.Powers.new.Goals as goal

pub invariant_of-result : goal.invariant_of-result
invariant_of-result c = record {
  kept = λ n i below row. absurd (omega arith);
  most = omega arith;
  size = search rules;
  first_size = search rules;
  current_size = search rules;
  next_size = search rules;
}
