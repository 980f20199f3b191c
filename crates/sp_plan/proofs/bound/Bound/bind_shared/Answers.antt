use Rattle.std.proofs.Common.{[], sym, subst}
use Rattle.sp_plan.specs.declared.pairs.Pair.{Pair}
use Rattle.sp_plan.specs.Blocks.{Blocked}
use Rattle.sp_plan.proofs.Blocks.{blocked_push}
use Rattle.sp_plan.proofs.bound.Bound.bind_shared.Goals as goal

pub invariant_of-self-2 : goal.invariant_of-self-2
invariant_of-self-2 c =
    let pairs = c.self.inside.pairs in
    let pair : Pair = record { name = c.args.name; block = c.block_behind-block.result; event = c.args.event } in
    subst (Blocked []) (sym c.in_ok-push.ensures.pushed) (blocked_push [] pairs pair c.self.invariant c.block_behind-block.ensures)
