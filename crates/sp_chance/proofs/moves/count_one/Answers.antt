use Rattle.std.proofs.Common.{◌+◌, ◌*◌, get_or, arith}
use Rattle.std.proofs.lemmas.List.{get_or-set_other}
use Rattle.sp_chance.proofs.Counting.{counted-apart, counted-same}
use Rattle.sp_chance.proofs.moves.count_one.Goals as goal

pub overflow_add-counts-2 : goal.overflow_add-counts-2
overflow_add-counts-2 c = omega (arith, c.requires.room c.args.from c.args.from c.requires.from c.requires.from)

pub overflow_add-counts-then-from-to-2 : goal.overflow_add-counts-then-from-to-2
overflow_add-counts-then-from-to-2 c =
    let apart = c.if-from-to.true in
    omega (arith, c.requires.room c.args.from c.args.to c.requires.from c.requires.to, get_or-set_other c.args.counts.now (c.args.from * 33 + c.args.from) (c.args.from * 33 + c.args.to) (get_or c.args.counts.now (c.args.from * 33 + c.args.from) 0 + 1) 0 (omega arith))

pub returns-then-from-to : goal.returns-then-from-to
returns-then-from-to c i j row column =
    omega (arith, counted-apart c.args.counts.now c.args.from c.args.to i j c.requires.size c.if-from-to.true c.requires.from c.requires.to row column)

pub returns-else-from-to : goal.returns-else-from-to
returns-else-from-to c i j row column =
    omega (arith, counted-same c.args.counts.now c.args.from c.args.to i j c.requires.size c.if-from-to.false c.requires.from c.requires.to row column)
