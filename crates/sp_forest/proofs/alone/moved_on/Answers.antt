use Rattle.std.proofs.Common.{◌<◌, ◌^◌, sym, subst, arith}
use Rattle.std.proofs.lemmas.List.Elements.{All-get_or}
use Rattle.sp_forest.specs.Drivable.{CanMove}
use Rattle.sp_parts.specs.Seen.{seen}
use Rattle.sp_forest.proofs.alone.moved_on.Goals as goal

pub shifted-requires-clause-number : goal.shifted-requires-clause-number
shifted-requires-clause-number c =
    let can : CanMove (seen c.args.part.now) c.one-item.result =
    subst (CanMove (seen c.args.part.now)) (sym c.one-item.is)
    (All-get_or (CanMove (seen c.args.part.now)) c.args.own.now c.loop-one.one-index c.one-item.result (omega arith) c.requires.moves) in
    let number : c.one-item.result.number < 2 ^ 64 = can.number in
    omega arith
