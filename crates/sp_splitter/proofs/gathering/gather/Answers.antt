use denote.Param.Send.{sendable}
use Rattle.std.proofs.Common.{refl, subst, ◌∙◌}
use Rattle.sp_core.specs.Running.{Running}
use Rattle.sp_piece.specs.Pieced.{Pieced}
use Rattle.sp_splitter.specs.Gathering.{IsLearned}
use Rattle.sp_lend.proofs.Crossing.{loan_sent, reading_sent}
use Rattle.sp_splitter.proofs.Gathered.{Brings, brings_all_none, brings_all_then, gathered_none, gathered_then}
use Rattle.sp_splitter.proofs.gathering.gather.Goals as goal

pub waiting-end-requires-send-P : goal.waiting-end-requires-send-P
waiting-end-requires-send-P g c κs within = search (reading_sent, sendable) depth 20

pub collect-requires-send-J : goal.collect-requires-send-J
collect-requires-send-J g c κs within = search (loan_sent, sendable) depth 20

pub collect-requires-send-P : goal.collect-requires-send-P
collect-requires-send-P g c κs within = search (reading_sent, sendable) depth 20

pub loop-init : goal.loop-init
loop-init g c = record {
  brings = brings_all_none c.args.core.now c.args.by.now;
  gathered = gathered_none ((goal.Predictor-dyn g c.args.predictor.now).taught c.args.predictor.now.1) c.args.core.now c.args.by.now;
  name = refl;
}

pub returns-in_err-give_back-clause-went : goal.returns-in_err-give_back-clause-went
returns-in_err-give_back-clause-went g c =
    let brings : Brings c.loop.core c.give_back.new.core = record {
      went = c.give_back.ensures.went;
      goes = c.give_back.ensures.goes;
      emitted = c.give_back.ensures.emitted;
      read = c.give_back.ensures.read;
    } in
    (brings_all_then c.args.core.now c.loop.core c.give_back.new.core c.args.by.now c.loop.by c.collect.new.by c.in-Some.ensures.0 _ c.loop.invariant.brings brings c.in-Some.ensures.1).went

pub returns-in_err-give_back-clause-read : goal.returns-in_err-give_back-clause-read
returns-in_err-give_back-clause-read g c =
    let brings : Brings c.loop.core c.give_back.new.core = record {
      went = c.give_back.ensures.went;
      goes = c.give_back.ensures.goes;
      emitted = c.give_back.ensures.emitted;
      read = c.give_back.ensures.read;
    } in
    (brings_all_then c.args.core.now c.loop.core c.give_back.new.core c.args.by.now c.loop.by c.collect.new.by c.in-Some.ensures.0 _ c.loop.invariant.brings brings c.in-Some.ensures.1).read

pub loop-preserved : goal.loop-preserved
loop-preserved g c =
    let brings : Brings c.loop.core c.give_back.new.core = record {
      went = c.give_back.ensures.went;
      goes = c.give_back.ensures.goes;
      emitted = c.give_back.ensures.emitted;
      read = c.give_back.ensures.read;
    } in
    let of = goal.Predictor-dyn g in
    let given = c.in_ok-give_back.ensures.given in
    let before = (of c.loop.predictor.now).taught c.loop.predictor.now.1 in
    let taught = (of (c.loop.predictor.now.0, c.learn_from.new.predictor)).taught c.learn_from.new.predictor in
    let learned = subst (λ (r : Running). IsLearned before taught r c.in-Some.piece) c.core-in-loop.ensures
    (subst (λ (p : Pieced). IsLearned before taught c.core-in-loop.result.now p) c.piece-in-loop-2.ensures c.learn_from.ensures.learned) in
    record {
      brings = brings_all_then c.args.core.now c.loop.core c.give_back.new.core c.args.by.now c.loop.by c.collect.new.by c.in-Some.ensures.0 _ c.loop.invariant.brings brings c.in-Some.ensures.1;
      gathered =
          gathered_then ((of c.args.predictor.now).taught c.args.predictor.now.1) before taught c.args.core.now c.loop.core c.give_back.new.core c.args.by.now c.loop.by c.collect.new.by
          c.in-Some.ensures.0 _ c.in-Some.piece given.0 c.loop.invariant.gathered learned given.1 c.in-Some.ensures.1;
      name = c.learn_from.ensures.name ∙ c.loop.invariant.name;
    }
