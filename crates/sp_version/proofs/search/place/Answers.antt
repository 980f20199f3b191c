use Rattle.sp_base.proofs.Placed.{place_found, place_missed}
use Rattle.sp_version.proofs.search.place.Goals as goal

pub returns-in-Ok : goal.returns-in-Ok
returns-in-Ok c = place_found c.args.list.now c.args.n c.in-Ok.at c.requires c.in-Ok.ensures.position c.in-Ok.ensures.bound

pub returns-in-Err : goal.returns-in-Err
returns-in-Err c = place_missed c.args.list.now c.args.n c.in-Err.at c.requires c.in-Err.ensures.position
