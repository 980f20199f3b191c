use Rattle.std.proofs.Common.{rules, refl}
use Rattle.sp_split.specs.declared.relay.Team.{Team}
use Rattle.sp_split.proofs.Relieved.{relieved_next, relieved_then}
use Rattle.sp_split.proofs.relay.Team.relieve.Goals as goal

pub loop-next-preserved : goal.loop-next-preserved
loop-next-preserved g c =
    let old = c.loop-next.self in
    let new : Team _ _ = record { first = c.in-Some.next; relay = c.next.new.self } in record {
      within = search rules;
      relieved = relieved_then (λ one. (goal.Predictor-dyn g (one.vtable, one.value)).named one.value) c.args.self.now old new c.loop-next.invariant.relieved
          (relieved_next _ old new c.in-Some.next refl c.in-Some.ensures.next c.in-Some.ensures.gone c.in-Some.ensures.every);
    }
