use Rattle.std.proofs.Common.{◌++◌, ◌∷◌, [], List, ap, ◌∙◌}
use Rattle.sp_piece.specs.declared.job.Job.{Job}
use Rattle.sp_splitter.proofs.Leasing.{leased_ticket}
use Rattle.sp_splitter.proofs.lending.lend_one.Goals as goal

pub returns-in-Ok-clause-kept : goal.returns-in-Ok-clause-kept
returns-in-Ok-clause-kept g c = (
  c.in-Ok.job,
  leased_ticket c.args.core.now c.args.id c.args.batch c.in-Ok.job c.in-Ok.ensures.job,
  c.push_back_reserved.ensures.items ∙ ap (λ (jobs : List Job). jobs ++ c.in-Ok.job ∷ []) c.in_ok-reserve.ensures.items,
)
