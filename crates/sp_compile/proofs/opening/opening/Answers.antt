use Rattle.sp_compile.proofs.Opened.{stepped_passes}
use Rattle.sp_compile.proofs.opening.opening.Goals as goal

pub returns-in-Every-clause-opening : goal.returns-in-Every-clause-opening
returns-in-Every-clause-opening c = stepped_passes c.args.query.now c.args.texts.now c.in-Every.step c.in-Every.unit c.in-Every.span c.in-Every.is c.stepped.result c.stepped.ensures.fine c.stepped.ensures.opening
