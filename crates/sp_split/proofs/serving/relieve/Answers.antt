use Rattle.std.proofs.Common.{rules, ap}
use Rattle.sp_split.specs.declared.relay.Team.{Team}
use Rattle.sp_split.proofs.Relieved.{relieved_next, relieved_then}
use Rattle.sp_split.proofs.serving.relieve.Goals as goal

pub loop-next-preserved : goal.loop-next-preserved
loop-next-preserved g c =
    let old : Team _ _ = record { first = c.loop-next.splitter.predictor; relay = c.loop-next.relay } in
    let new : Team _ _ = record { first = c.exchange.new.self.predictor; relay = c.next.new.self } in record {
      within = search rules;
      relieved = relieved_then (λ one. (goal.Predictor-dyn g (one.vtable, one.value)).named one.value) _ old new c.loop-next.invariant.relieved
          (relieved_next _ old new c.in-Some.next (ap (λ s. s.predictor) c.exchange.ensures.rest) c.in-Some.ensures.next c.in-Some.ensures.gone c.in-Some.ensures.every);
      rest = search rules;
    }
