use Rattle.sp_calls.proofs.Live.{live}
use Rattle.sp_calls.proofs.stepping.conflict_of.Goals as goal

pub conflict-requires : goal.conflict-requires
conflict-requires c =
    let tree = c.tree.result.now in
    record {
      live = live tree.entries c.args.core.now.machine.versions c.args.version c.in-Some.field-0.now c.tree.ensures.versions c.in-Some.ensures;
    }
