use Rattle.sp_chance.specs.Shares.{share_of}
use Rattle.sp_pick.specs.Picking.{is_likely, is_turned}
use Rattle.sp_pick.proofs.Freed.{not_zero, some_open, turned_at, back_at, best_free, turned_free, best_taken, more_taken, all_taken}
use Rattle.sp_pick.proofs.labelling.next_label.Goals as goal

pub returns-then-is_free-clause-next : goal.returns-then-is_free-clause-next
returns-then-is_free-clause-next g c =
    best_free c.args.tree.now.entries c.args.parent (share_of c.args.chances.now c.args.parent) c.groups-groups.result.now _ c.in_ok-label.label c.groups-groups.ensures.groups c.in_ok-label.ensures c.if-is_free.ensures

pub returns-then-is_free-clause-open : goal.returns-then-is_free-clause-open
returns-then-is_free-clause-open g c =
    some_open _ c.groups-groups.result.now c.in_ok-label.label (is_likely (share_of c.args.chances.now c.args.parent)) c.groups-groups.ensures.groups c.in_ok-label.ensures

pub loop-run-init : goal.loop-run-init
loop-run-init g c = (
  c.in_ok-label.ensures,
  best_taken c.args.tree.now.entries c.args.parent (share_of c.args.chances.now c.args.parent) c.groups-groups.result.now c.in_ok-label.label c.in_ok-label.ensures c.if-is_free.ensures,
)

pub turn-requires : goal.turn-requires
turn-requires g c = not_zero c.groups-groups.result.now c.loop-run.run-index c.groups-groups.ensures.label c.loop-run-test.true

pub returns-then-is_free-2-clause-next : goal.returns-then-is_free-2-clause-next
returns-then-is_free-2-clause-next g c =
    turned_free c.args.tree.now.entries c.args.parent (share_of c.args.chances.now c.args.parent) c.groups-groups.result.now _ c.loop-run.run-index c.turn.new.label c.groups-groups.ensures.groups c.loop-run-test.true
    (turned_at (share_of c.args.chances.now c.args.parent) c.groups-groups.result.now c.loop-run.label c.loop-run.run-index c.turn.new.label c.groups-groups.ensures.label c.loop-run-test.true c.loop-run.invariant.0 c.in_ok-turn.ensures)
    c.loop-run.invariant.1 c.if-is_free-2.ensures

pub returns-then-is_free-2-clause-open : goal.returns-then-is_free-2-clause-open
returns-then-is_free-2-clause-open g c =
    some_open _ c.groups-groups.result.now c.turn.new.label (is_turned (share_of c.args.chances.now c.args.parent) _) c.groups-groups.ensures.groups
    (turned_at (share_of c.args.chances.now c.args.parent) c.groups-groups.result.now c.loop-run.label c.loop-run.run-index c.turn.new.label c.groups-groups.ensures.label c.loop-run-test.true c.loop-run.invariant.0 c.in_ok-turn.ensures)

pub turn-requires-in-loop-run : goal.turn-requires-in-loop-run
turn-requires-in-loop-run g c = not_zero c.groups-groups.result.now c.loop-run.run-index c.groups-groups.ensures.label c.loop-run-test.true

pub loop-run-preserved : goal.loop-run-preserved
loop-run-preserved g c =
    let turned_is = turned_at (share_of c.args.chances.now c.args.parent) c.groups-groups.result.now c.loop-run.label c.loop-run.run-index c.turn.new.label c.groups-groups.ensures.label c.loop-run-test.true c.loop-run.invariant.0 c.in_ok-turn.ensures in (
      back_at (share_of c.args.chances.now c.args.parent) c.groups-groups.result.now c.turn.new.label c.loop-run.run-index c.turn-in-loop-run.new.label c.groups-groups.ensures.label c.loop-run-test.true turned_is c.in_ok-turn-2.ensures,
      more_taken c.args.tree.now.entries c.args.parent (share_of c.args.chances.now c.args.parent) c.groups-groups.result.now c.loop-run.run-index c.turn.new.label c.loop-run-test.true turned_is c.if-is_free-2.ensures c.loop-run.invariant.1,
    )

pub returns-clause-next : goal.returns-clause-next
returns-clause-next g c =
    all_taken c.args.tree.now.entries c.args.parent (share_of c.args.chances.now c.args.parent) c.groups-groups.result.now _ c.loop-run.run-index c.groups-groups.ensures.groups c.loop-run-test.false c.loop-run.invariant.1
