use Rattle.sp_load.proofs.OneTextLaws.{one_reading}
use Rattle.sp_load.proofs.law.one_reading.Goals as goal

pub returns : goal.returns
returns c = one_reading (record {
  query = c.one_query.ensures;
  fault = c.one_fault.ensures.fault;
  apart = c.one_fault.ensures.apart;
  verdict = c.one_verdict.ensures.only;
})
