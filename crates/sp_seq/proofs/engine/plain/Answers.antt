use Rattle.std.proofs.Common.{◌∙◌, sym, subst}
use Rattle.sp_plan.specs.declared.plan.Plan.{Plan}
use Rattle.sp_seq.specs.Learned.{AllKnown}
use Rattle.sp_seq.proofs.engine.plain.Goals as goal

pub match_windows-requires-clause-known : goal.match_windows-requires-clause-known
match_windows-requires-clause-known c =
    let here = c.in_ok-clone-2.ensures.cases ∙ sym c.deref.ensures in
    subst (λ (p : Plan). AllKnown p c.args.events.now c.in_ok-sweep.sweep.known.items) here c.in_ok-sweep.ensures.known
