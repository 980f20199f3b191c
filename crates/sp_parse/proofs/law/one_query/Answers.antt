use Rattle.sp_parse.proofs.UniqueClauses.{one_query}
use Rattle.sp_parse.proofs.law.one_query.Goals as goal

pub returns : goal.returns
returns c = one_query
