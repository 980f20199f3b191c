use Rattle.std.proofs.Common.{◌≡◌, ◌+◌, nat_lt, ◌∙◌}
use Rattle.std.specs.Prelude.{filter}
use Rattle.sp_core.proofs.Cuts.{cut_from_zero}
use Rattle.sp_core.proofs.homecoming.make_ready.Goals as goal

pub returns-clause-ready : goal.returns-clause-ready
returns-clause-ready c =
    let job : c.job-job.result.now ≡ c.args.piece.now.job = c.job-job.ensures in
    record {
      passed_is =
          c.in_ok-passed.ensures
          ∙ cut_from_zero (c.job-job.result.now.first + c.read.result) c.job-job.result.now.snapshot.list
          ∙ (λ j. filter (λ i. nat_lt i ((job j).first + c.read.ensures.read j)) (job j).snapshot.list);
      room_for = c.in_ok-make_rooms.ensures.ok;
    }
