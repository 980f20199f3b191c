use Rattle.std.proofs.Common.{◌≡◌, Some, None, sym, ◌∙◌, ap}
use Rattle.sp_graph.specs.Tables.{last_event}
use Rattle.sp_graph.proofs.LastBound.{one_bound, none_bound}
use Rattle.sp_graph.proofs.bind.bind_last.Goals as goal
use Rattle.sp_graph.proofs.bind.bind_last.Goals.{in-Some+in_ok-bind, in_default}

pub loop-name-preserved : goal.loop-name-preserved
loop-name-preserved c =
    let events = c.args.events.now in
    let items = c.as_slice-name-items.result.now in
    let pair = c.loop-name-item.result in
    elim c.match-last_event.branch [
      | in-Some+in_ok-bind w ↦
          let is : last_event events pair.1 ≡ Some w.in-Some.event.now = ap (last_event events) (sym c.list.ensures.list) ∙ sym w.in-Some.ensures in
          let bound = w.bound-is ∙ w.in_ok-bind.ensures.bound in
          one_bound events items c.loop-name.name-index pair c.loop-name.bound c.match-last_event.bound c.loop-name-test.true c.loop-name-item.is c.loop-name.invariant w.in-Some.event.now is bound
      | in_default w ↦
          let is : last_event events pair.1 ≡ None = ap (last_event events) (sym c.list.ensures.list) ∙ sym w.in_default.ensures in
          none_bound events items c.loop-name.name-index pair c.loop-name.bound c.match-last_event.bound c.loop-name-test.true c.loop-name-item.is c.loop-name.invariant is w.bound-is
    ]
