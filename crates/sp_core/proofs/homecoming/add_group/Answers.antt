use Rattle.std.proofs.lemmas.Result.{on_ok_weaker}
use Rattle.sp_base.proofs.RisingLists.{taken_in}
use Rattle.sp_core.proofs.homecoming.add_group.Goals as goal

pub returns : goal.returns
returns c = on_ok_weaker c.insert.result (taken_in c.args.groups.now c.insert.new.self c.args.run) c.insert.ensures.with
