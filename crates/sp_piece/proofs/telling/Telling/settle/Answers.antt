use Rattle.std.proofs.Common.{◌≡◌, length, refl, arith}
use Rattle.sp_piece.proofs.Joining.{settled}
use Rattle.sp_piece.proofs.telling.Telling.settle.Goals as goal

pub returns-then-join-clause-settled : goal.returns-then-join-clause-settled
returns-then-join-clause-settled c =
    let none = c.if-join.ensures.all refl in
    let front : length c.split_at_mut-told.result.0.now ≡ 1 = omega arith in
    let back : length c.split_at_mut-told.result.1.now ≡ 1 = omega arith in
    settled c.split_at_mut-told.result.0.now c.split_at_mut-told.result.1.now front back c.join.new.entry c.join.new.more none.0 none.1
