use Rattle.sp_splitter.proofs.ToRoll.{rolled_one, rolled_quiet, rolled_loses}
use Rattle.sp_splitter.proofs.rolling.roll_one.Goals as goal

pub returns-clause-quiet : goal.returns-clause-quiet
returns-clause-quiet g c = rolled_quiet c.args.id c.args.core.now c.roll.new.self c.roll.result c.known.ensures c.roll.ensures.done c.roll.ensures.err

pub returns-clause-loses : goal.returns-clause-loses
returns-clause-loses g c =
    rolled_loses c.args.id c.args.core.now c.roll.new.self c.roll.result c.known.ensures c.roll.ensures.done c.roll.ensures.err c.roll.ensures.fault

pub returns-clause-one : goal.returns-clause-one
returns-clause-one g c = rolled_one c.args.id c.args.core.now c.roll.new.self c.roll.result c.roll.ensures.done c.roll.ensures.err
