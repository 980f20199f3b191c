use Rattle.std.proofs.Common.{rules, map}
use Rattle.std.specs.Arc.{arc_value}
use Rattle.sp_parts.specs.Seen.{seen}
use Rattle.sp_parts.specs.Shifted.{shifted_all}
use Rattle.sp_top.proofs.ByParts.{ran_whole, ran_short}
use Rattle.sp_top.proofs.trees.write_parts.Goals as goal

pub returns-in-Ok : goal.returns-in-Ok
returns-in-Ok g c =
    let q = arc_value c.args.trees.plan in
    let outlet = c.drive_parts-forest.new.outlet in
    let drove = c.in-Ok.ensures in
    ran_whole q (shifted_all q (map seen c.args.parts.items)) (g.K.Sink.state c.args.out.now) (g.K.Sink.state outlet.out.now) 0 outlet.taken
    _ (search rules) c.in-Ok.forest.why c.written_by.result c.written_by.ensures
    drove.took drove.no_fault (λ refused. (drove.refused refused).0) drove.rose

pub returns-in-Err : goal.returns-in-Err
returns-in-Err g c =
    let q = arc_value c.args.trees.plan in
    let outlet = c.drive_parts-forest.new.outlet in
    let drove = c.in-Err.ensures in
    ran_short q (shifted_all q (map seen c.args.parts.items)) (g.K.Sink.state c.args.out.now) (g.K.Sink.state outlet.out.now) 0 outlet.taken
    _ (search rules) c.in-Err.memory drove.short drove.short_no_fault
