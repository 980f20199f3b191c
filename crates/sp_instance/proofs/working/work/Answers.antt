use denote.Param.Send.{sendable}
use Rattle.std.proofs.Common.{List, refl, ap, ◌∙◌}
use Rattle.sp_hub.specs.State.{Sitting}
use Rattle.sp_piece.specs.declared.job.Job.{Job}
use Rattle.sp_piece.specs.Pieced.{Pieced}
use Rattle.sp_hub.specs.declared.taken.Taken.TheVariants as taken
use Rattle.sp_lend.proofs.Crossing.{loan_sent, reading_sent}
use Rattle.sp_instance.specs.Seats.{counts_none}
use Rattle.sp_instance.proofs.Served.{none_yet, one_more, as_it_was, counts_given, counts_put}
use Rattle.sp_instance.proofs.working.work.Goals as goal

pub take-requires-send-P : goal.take-requires-send-P
take-requires-send-P g c κs within = search (reading_sent, sendable) depth 20

pub take-requires-send-J : goal.take-requires-send-J
take-requires-send-J g c κs within = search (loan_sent, sendable) depth 20

pub number-requires-send-P : goal.number-requires-send-P
number-requires-send-P g c κs within = search (reading_sent, sendable) depth 20

pub put-requires-send-P : goal.put-requires-send-P
put-requires-send-P g c κs within = search (reading_sent, sendable) depth 20

pub put-requires-send-J : goal.put-requires-send-J
put-requires-send-J g c κs within = search (loan_sent, sendable) depth 20

pub wait_job-requires-send-P : goal.wait_job-requires-send-P
wait_job-requires-send-P g c κs within = search (reading_sent, sendable) depth 20

pub wait_job-requires-send-J : goal.wait_job-requires-send-J
wait_job-requires-send-J g c κs within = search (loan_sent, sendable) depth 20

pub loop-init : goal.loop-init
loop-init g c = (tt, tt, c.requires, none_yet _ (counts_none c.args.seat.now))

pub loop-preserved-in-Job : goal.loop-preserved-in-Job
loop-preserved-in-Job g c = (
  tt,
  tt,
  ap (λ (s : Sitting). s.holding) c.put.ensures,
  one_more _ _ c.in-Job.job c.do_job_at-piece.result
      (λ (jobs : List Job) (pieces : List Pieced) did.
      counts_put _ _ _ _ _ _ (counts_given _ _ _ _ _ (taken.Job c.in-Job.job) did c.in-Job.ensures) c.put.ensures)
      c.do_job_at-piece.ensures.job c.do_job_at-piece.ensures.done c.loop.invariant.3,
)

pub loop-preserved : goal.loop-preserved
loop-preserved g c = (
  tt,
  tt,
  ap (λ (s : Sitting). s.holding) c.in-Empty.ensures ∙ c.loop.invariant.2,
  as_it_was _ _ _ refl (λ (jobs : List Job) (pieces : List Pieced) did. counts_given _ _ _ _ _ taken.Empty did c.in-Empty.ensures) c.loop.invariant.3,
)
