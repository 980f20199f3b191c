use Rattle.sp_graph.proofs.TextsThere.{returned_texts}
use Rattle.sp_graph.proofs.law.returned_texts_are_there.Goals as goal

pub returns : goal.returns
returns c = returned_texts
