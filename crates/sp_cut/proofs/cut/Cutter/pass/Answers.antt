use Rattle.std.proofs.Common.{sym, subst}
use Rattle.sp_cut.specs.Answer.{GivesRow}
use Rattle.sp_cut.specs.Left.{Left}
use Rattle.sp_cut.specs.Span.{bytes_at}
use Rattle.sp_cut.proofs.cut.Cutter.pass.Goals as goal

pub returns : goal.returns
returns c = subst (λ (new : Left). GivesRow c.args.self.now (bytes_at c.args.self.now c.args.span) new) (sym c.advance.ensures) c.requires.next.gives
