use Rattle.std.proofs.Common.{Bool, sym, subst}
use Rattle.sp_cut.specs.Ends.{IsMark}
use Rattle.sp_cut.proofs.Marks.{next_quote, next_of_two}
use Rattle.sp_cut.proofs.ends.next_mark.Goals as goal

pub returns-then-quoted : goal.returns-then-quoted
returns-then-quoted c =
    subst (λ (quoted : Bool). IsMark quoted c.args.bytes.now c.memchr.result) (sym c.if-quoted.true) (next_quote c.args.bytes.now c.memchr.result c.memchr.ensures)

pub returns-else-quoted : goal.returns-else-quoted
returns-else-quoted c =
    subst (λ (quoted : Bool). IsMark quoted c.args.bytes.now c.memchr2.result) (sym c.if-quoted.false) (next_of_two c.args.bytes.now c.memchr2.result c.memchr2.ensures)
