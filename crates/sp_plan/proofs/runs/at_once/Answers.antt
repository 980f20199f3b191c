use Rattle.std.proofs.Common.{◌≡◌, [], List, length, map, sym, ap, ◌∙◌, arith}
use Rattle.std.proofs.lemmas.List.{length-map}
use Rattle.std.proofs.lemmas.Option.{IfSome_then}
use Rattle.sp_plan.specs.declared.plan.Compare.{Compare}
use Rattle.sp_plan.specs.Values.{BoundEvents, compares, value}
use Rattle.sp_plan.proofs.Holdings.{left_for_all, near_for_all, right_for_all}
use Rattle.sp_plan.proofs.MaskBits.{has-all, has-none}
use Rattle.sp_plan.proofs.runs.at_once.Goals as goal

pub returns-then-is : goal.returns-then-is
returns-then-is g c = λ run within.
    let bounds : List BoundEvents = map g.R.Binds.binds c.args.asking.now.runs.now in
    has-all run (omega arith) ∙ sym c.if-is.true
    ∙ near_for_all c.args.by c.args.left.now c.args.right.now c.args.asking.now.event.now bounds c.args.asking.now.none.now run _ (sym c.requires.sides ∙ c.in-Near.is) c.sides_compare-is.ensures

pub returns-else-is : goal.returns-else-is
returns-else-is g c = λ run within.
    let bounds : List BoundEvents = map g.R.Binds.binds c.args.asking.now.runs.now in
    has-none run ∙ sym c.if-is.false
    ∙ near_for_all c.args.by c.args.left.now c.args.right.now c.args.asking.now.event.now bounds c.args.asking.now.none.now run _ (sym c.requires.sides ∙ c.in-Near.is) c.sides_compare-is.ensures

pub returns-in-LeftHeld : goal.returns-in-LeftHeld
returns-in-LeftHeld g c =
    let bounds : List BoundEvents = map g.R.Binds.binds c.args.asking.now.runs.now in
    let count : length bounds ≡ length c.args.asking.now.runs.now = length-map c.args.asking.now.runs.now g.R.Binds.binds in
    IfSome_then c.parted.result c.parted.ensures (λ mask tells run within.
    left_for_all c.args.by c.args.left.now c.args.right.now c.args.asking.now.event.now bounds c.args.asking.now.columns.now c.args.next c.index-asking-next.result (omega (arith, count, c.requires.few)) mask
    c.args.sides c.requires.sides c.requires.held c.in-LeftHeld.is
    (λ r n short long is. tells r n short long is ∙ ap (λ (by : Compare). compares by (value c.args.right.now c.args.asking.now.event.now []) n) c.turned.ensures) run (omega (arith, count, within)))

pub returns-in-RightHeld : goal.returns-in-RightHeld
returns-in-RightHeld g c =
    let bounds : List BoundEvents = map g.R.Binds.binds c.args.asking.now.runs.now in
    let count : length bounds ≡ length c.args.asking.now.runs.now = length-map c.args.asking.now.runs.now g.R.Binds.binds in
    IfSome_then c.parted-in-RightHeld.result c.parted-in-RightHeld.ensures (λ mask tells run within.
    right_for_all c.args.by c.args.left.now c.args.right.now c.args.asking.now.event.now bounds c.args.asking.now.columns.now c.args.next c.index-asking-next-in-RightHeld.result (omega (arith, count, c.requires.few)) mask
    c.args.sides c.requires.sides c.requires.held c.in-RightHeld.is tells run (omega (arith, count, within)))
