use Rattle.sp_load.proofs.OneSecondLaws.{one_second}
use Rattle.sp_load.proofs.law.one_second.Goals as goal

pub returns : goal.returns
returns c = one_second (record {
  query = c.one_query.ensures;
  fault = c.one_fault.ensures.fault;
  apart = c.one_fault.ensures.apart;
  verdict = c.one_verdict.ensures.only;
})
