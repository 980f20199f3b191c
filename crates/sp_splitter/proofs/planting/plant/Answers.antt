use Rattle.std.proofs.Common.{None, sym, subst}
use Rattle.sp_group.specs.Rising.{IsLabel}
use Rattle.sp_rules.proofs.Spawning.{empty_label}
use Rattle.sp_splitter.proofs.Planted.{plants_planted, plants_unplanted, settled_planted, settled_unplanted}
use Rattle.sp_splitter.proofs.Stepping.{goes_spawn, went_spawn}
use Rattle.sp_splitter.proofs.planting.plant.Goals as goal

pub returns-in-Ok-clause-went : goal.returns-in-Ok-clause-went
returns-in-Ok-clause-went g c n batch = went_spawn n batch None c.empty.result c.args.core.now c.spawn.new.self c.known.ensures (subst IsLabel (sym c.empty.ensures) empty_label) c.in-Ok.ensures.done

pub returns-in-Ok-clause-goes : goal.returns-in-Ok-clause-goes
returns-in-Ok-clause-goes g c n = goes_spawn n None c.empty.result c.args.core.now c.spawn.new.self c.known.ensures c.in-Ok.ensures.done

pub returns-in-Ok-clause-settled : goal.returns-in-Ok-clause-settled
returns-in-Ok-clause-settled g c = settled_planted c.args.core.now c.spawn.new.self c.empty.result c.empty.ensures c.known.ensures c.in-Ok.ensures.done c.requires.calm

pub returns-in-Ok-clause-plants : goal.returns-in-Ok-clause-plants
returns-in-Ok-clause-plants g c = plants_planted c.args.core.now c.spawn.new.self c.empty.result c.empty.ensures c.in-Ok.ensures.done

pub returns-in-Err-Refused-clause-settled : goal.returns-in-Err-Refused-clause-settled
returns-in-Err-Refused-clause-settled g c =
    let fault = rw c.in-Err-Refused.field-0-is at c.in-Err-Refused.ensures.fault in
    settled_unplanted c.args.core.now c.spawn.new.self c.empty.result c.in-Err-Refused.field-0-0 c.empty.ensures c.in-Err-Refused.ensures.err fault c.requires.calm c.requires.undone

pub returns-in-Err-Refused-clause-plants : goal.returns-in-Err-Refused-clause-plants
returns-in-Err-Refused-clause-plants g c =
    let fault = rw c.in-Err-Refused.field-0-is at c.in-Err-Refused.ensures.fault in
    plants_unplanted c.args.core.now c.spawn.new.self c.empty.result c.in-Err-Refused.field-0-0 c.empty.ensures c.in-Err-Refused.ensures.err fault
