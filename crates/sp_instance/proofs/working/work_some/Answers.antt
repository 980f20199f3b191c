use denote.Param.Send.{sendable}
use Rattle.std.proofs.Common.{◌≡◌, ◌+◌, ℕ, List, ◌∙◌, ap, subst, arith}
use Rattle.sp_hub.specs.State.{Sitting}
use Rattle.sp_hub.specs.declared.taken.Taken.TheVariants as taken
use Rattle.sp_piece.specs.declared.job.Job.{Job}
use Rattle.sp_piece.specs.Pieced.{Pieced}
use Rattle.sp_lend.proofs.Crossing.{loan_sent, reading_sent}
use Rattle.sp_instance.specs.Doing.{WorkedSome}
use Rattle.sp_instance.specs.Seats.{Counts, counts_none}
use Rattle.sp_instance.proofs.Served.{some_as_it_was, none_some, none_taken, one_some, counts_given, counts_put, put_all}
use Rattle.sp_instance.proofs.working.work_some.Goals as goal

pub take_spare-requires-send-P : goal.take_spare-requires-send-P
take_spare-requires-send-P g c κs within = search (reading_sent, sendable) depth 20

pub take_spare-requires-send-J : goal.take_spare-requires-send-J
take_spare-requires-send-J g c κs within = search (loan_sent, sendable) depth 20

pub number-requires-send-P : goal.number-requires-send-P
number-requires-send-P g c κs within = search (reading_sent, sendable) depth 20

pub put-requires-send-P : goal.put-requires-send-P
put-requires-send-P g c κs within = search (reading_sent, sendable) depth 20

pub put-requires-send-J : goal.put-requires-send-J
put-requires-send-J g c κs within = search (loan_sent, sendable) depth 20

pub loop-done-init : goal.loop-done-init
loop-done-init g c = record { free = c.requires; done = none_some _ (counts_none c.args.seat.now) }

pub loop-done-preserved : goal.loop-done-preserved
loop-done-preserved g c = record {
  free = ap (λ (s : Sitting). s.holding) c.put.ensures;
  done = one_some _ _ c.in-Job.job c.do_job_at-piece.result
      (λ (jobs : List Job) (pieces : List Pieced) did.
      counts_put _ _ _ _ _ _ (counts_given _ _ _ _ _ (taken.Job c.in-Job.job) did c.in-Job.ensures) c.put.ensures)
      c.do_job_at-piece.ensures.job c.do_job_at-piece.ensures.done _ c.loop-done.invariant.done;
}

pub returns-in_default : goal.returns-in_default
returns-in_default g c =
    let none = none_taken c.loop-done.seat c.take_spare.new.seat c.take_spare.result c.in_default.not-Job c.take_spare.ensures c.loop-done.invariant.free in
    let below = c.loop-done-test.true in
    let done : WorkedSome (λ jobs pieces. Counts c.args.seat.now jobs pieces c.take_spare.new.seat) c.loop-done.done = some_as_it_was _ _ _ _ none.0 (λ (jobs : List Job) (pieces : List Pieced) did. counts_given _ _ _ _ _ c.take_spare.result did c.take_spare.ensures)
    c.loop-done.invariant.done in
    let calls = done.worked.were.calls in
    record { free = none.1; done = done; all = put_all _ _ done.worked; count = calls ∙ ap (λ (k : ℕ). c.args.seat.now.calls + k) done.counted; few = omega (arith, below) }

pub returns-clause-done : goal.returns-clause-done
returns-clause-done g c =
    let low = c.loop-done-test.false in
    let high = c.loop-done.auto.done-end in
    let same : c.loop-done.done ≡ c.args.most = omega (arith, low, high) in
    subst (λ (k : ℕ). WorkedSome (λ jobs pieces. Counts c.args.seat.now jobs pieces c.loop-done.seat) k) same c.loop-done.invariant.done
