use Rattle.sp_query.proofs.Pairs.{lengths_differ, differ_here, alike_here, alike_whole}
use Rattle.sp_query.proofs.same.same_list.Goals as goal

pub returns-then-xs-ys : goal.returns-then-xs-ys
returns-then-xs-ys g c = lengths_differ g.P.Part.alike c.args.xs.now c.args.ys.now c.if-xs-ys.true

pub returns-then-not-same : goal.returns-then-not-same
returns-then-not-same g c = differ_here g.P.Part.alike c.args.xs.now c.args.ys.now c.loop-x.yielded c.into_iter-x-iterator.result c.loop-x.x-iterator c.next.new.self c.next.result (cc) (cc) c.loop-x.yielded_by (c.in-Some.x, c.in-Some.y) c.in-Some.is c.next.ensures.steps _ c.if-not-same.true c.same.ensures

pub loop-x-preserved : goal.loop-x-preserved
loop-x-preserved g c = alike_here g.P.Part.alike c.args.xs.now c.args.ys.now c.loop-x.yielded c.into_iter-x-iterator.result c.loop-x.x-iterator c.next.new.self c.next.result (cc) (cc) c.loop-x.yielded_by (c.in-Some.x, c.in-Some.y) c.in-Some.is c.next.ensures.steps _ c.if-not-same.false c.same.ensures c.loop-x.invariant

pub returns : goal.returns
returns g c = alike_whole g.P.Part.alike c.args.xs.now c.args.ys.now c.loop-x.yielded c.into_iter-x-iterator.result c.loop-x.x-iterator c.next.new.self c.next.result (cc) (cc) c.loop-x.yielded_by c.in-None.is c.next.ensures.steps c.loop-x.invariant
