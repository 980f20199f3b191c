use Rattle.std.proofs.Common.{arith}
use Rattle.sp_store.proofs.Searched.{rises, sinks, lacks_here, lacks_past}
use Rattle.sp_store.proofs.place.search.Goals as goal
use Rattle.sp_store.proofs.place.search.Goals.{else-low-places-via-then-low-places+else-places-low, else-low-places-via-else-low-places}

pub loop-low-preserved-then-id-places : goal.loop-low-preserved-then-id-places
loop-low-preserved-then-id-places c =
    let t = c.loop-low-test.true in
    rises c.requires.0 c.args.places.now c.args.id c.loop-low.low c.loop-low.high _ c.requires.1 c.loop-low.invariant (omega arith) _ c.if-id-places.true

pub loop-low-preserved : goal.loop-low-preserved
loop-low-preserved c =
    let t = c.loop-low-test.true in let f = c.if-id-places.false in
    sinks c.requires.0 c.args.places.now c.args.id c.loop-low.low c.loop-low.high _ c.requires.1 c.loop-low.invariant (omega arith) (omega arith) _ f

pub returns-else-low-places-clause-none : goal.returns-else-low-places-clause-none
returns-else-low-places-clause-none c = λ e. elim c.else-low-places.branch [
  | else-low-places-via-then-low-places+else-places-low w ↦ lacks_here c.requires.0 c.args.places.now c.args.id c.loop-low.low c.loop-low.high c.requires.1 c.loop-low.invariant c.loop-low-test.false w.if-low-places.true _ w.if-places-low.false
  | else-low-places-via-else-low-places w ↦ lacks_past c.args.places.now c.args.id c.loop-low.low c.loop-low.high c.loop-low.invariant w.if-low-places.false
]
