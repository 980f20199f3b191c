use Rattle.sp_emit.proofs.Answering.{answers_map}
use Rattle.sp_emit.proofs.Numbers.{labelled, unlabelled}
use Rattle.sp_emit.proofs.number.labelled_at.Goals as goal

pub returns : goal.returns
returns c = answers_map _ _ _ (λ n r a. labelled _ _ _ _ n r c.in_ok-behind.ensures a) (λ n r a. unlabelled _ _ _ _ n r c.in_ok-behind.ensures a) _ c.number_at.ensures
