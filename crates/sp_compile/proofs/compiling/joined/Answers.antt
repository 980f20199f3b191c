use Rattle.sp_compile.proofs.WindowLimits.{length_keeps, fine_length}
use Rattle.sp_compile.proofs.compiling.joined.Goals as goal

pub plan_length-requires : goal.plan_length-requires
plan_length-requires c = length_keeps c.args.query.now.time c.args.query.now.length.0 c.args.query.now.length.1 (fine_length c.args.query.now c.requires.length)
