use Rattle.std.proofs.Common.{◌+◌, sym, ◌∙◌, ap}
use Rattle.sp_cut.specs.Left.{Left}
use Rattle.sp_cut.proofs.Answering.{lies_ended, long_ended}
use Rattle.sp_cut.proofs.cut.Cutter.find_row.Goals as goal

pub returns-then-is_too_long-clause-fault : goal.returns-then-is_too_long-clause-fault
returns-then-is_too_long-clause-fault c =
    let long = sym c.is_too_long.ensures ∙ c.if-is_too_long.true in (
      long_ended c.args.self.now c.find_end.new.self c.in-End.size c.in-End.ensures.found c.in-End.ensures.unchanged long,
      ap (λ (left : Left). left.given + 1) (c.self.view_is ∙ c.in-End.ensures.unchanged),
    )

pub returns-else-is_too_long-clause-found : goal.returns-else-is_too_long-clause-found
returns-else-is_too_long-clause-found c =
    let short = sym c.is_too_long.ensures ∙ c.if-is_too_long.false in
    lies_ended c.args.self.now c.find_end.new.self c.in-End.size c.in-End.ensures.found c.in-End.ensures.unchanged short
