use Rattle.std.proofs.Common.{ap, ◌∙◌, rules}
use Rattle.std.proofs.lemmas.Fn.{filter_same}
use Rattle.sp_match.specs.declared.moves.Move.{Move}
use Rattle.sp_match.specs.public.Laws.{is_completion}
use Rattle.sp_match.specs.public.Seen.{all_seen, seen}
use Rattle.sp_piece.proofs.Joining.{completions_seen}
use Rattle.sp_piece.proofs.telling.keep_completions.Goals as goal

pub returns : goal.returns
returns c = ap all_seen (filter_same _ (λ (m : Move). is_completion (seen m)) _ (λ x b f' k. search rules) _ _ c.retain.ensures.filtered) ∙ completions_seen c.args.moves.now.items
