use Rattle.sp_load.proofs.Refusals.{parse_refused}
use Rattle.sp_load.proofs.query.query_of.Goals as goal

pub returns-in-Err-clause-refused : goal.returns-in-Err-clause-refused
returns-in-Err-clause-refused c = parse_refused c.args.text.now c.utf8.text c.in-Err.fault c.no_query.result c.in-Err.ensures.refused c.no_query.ensures.memory c.no_query.ensures.other
