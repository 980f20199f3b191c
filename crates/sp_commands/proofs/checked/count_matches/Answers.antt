use Rattle.std.proofs.Common.{◌∙◌, ap, arith}
use Rattle.std.proofs.lemmas.List.{take_all}
use Rattle.sp_commands.proofs.Checking.{count_of, count_more, count_within}
use Rattle.sp_commands.proofs.checked.count_matches.Goals as goal

pub overflow_add-count : goal.overflow_add-count
overflow_add-count c =
    omega (arith, c.loop-entry.invariant, c.requires, c.len-count.ensures, count_within c.args.entries.now c.loop-entry.entry-index c.entry-item.result (omega arith) c.entry-item.is)

pub loop-entry-preserved : goal.loop-entry-preserved
loop-entry-preserved c = omega (arith, c.loop-entry.invariant, c.len-count.ensures, count_more c.args.entries.now c.loop-entry.entry-index c.entry-item.result (omega arith) c.entry-item.is)

pub returns : goal.returns
returns c = c.loop-entry.invariant ∙ ap count_of (take_all c.loop-entry.entry-index c.args.entries.now (omega arith))
