use Rattle.sp_splitter.proofs.Finish.{finished_one}
use Rattle.sp_splitter.proofs.finishing.finish_root.Goals as goal

pub returns : goal.returns
returns g c = finished_one c.args.core.now c.finish.new.self c.in-Ok.emitted c.known.ensures c.in-Ok.ensures.done c.in-Ok.ensures.emitted c.requires.calm
