use Rattle.std.proofs.Common.{ap, subst, sym}
use Rattle.sp_split.specs.Relieving.{AreDue}
use Rattle.sp_split.proofs.Advanced.{serving_filled}
use Rattle.sp_split.proofs.serving.ServingDriver.feed.Goals as goal

pub returns-clause-ready : goal.returns-clause-ready
returns-clause-ready g c =
    let desk = c.args.self.now.desk in
    let old = desk.splitter in
    let new = c.fill.new.splitter in
    let rest = c.fill.ensures.rest in (
      serving_filled new.instances old.instances new.batch old.batch new.kept.items old.kept.items old.core new.core desk.by desk.seat (ap (λ s. s.instances) rest) (ap (λ s. s.batch) rest) (ap (λ s. s.kept.items) rest)
          c.fill.ensures.filled c.requires.ready.0,
      subst (AreDue c.args.self.now.relay) (sym c.fill.ensures.filled.on.finished) c.requires.ready.1,
    )
