use Rattle.std.proofs.Common.{rules}
use Rattle.sp_chance.specs.Recent.{ring_of}
use Rattle.sp_chance.proofs.recent.Recent.new.Goals as goal

pub returns : goal.returns
unfolding ring_of
returns c = search rules
