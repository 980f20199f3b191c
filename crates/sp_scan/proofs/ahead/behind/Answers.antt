use Rattle.sp_plan.specs.declared.plan.Element.TheVariants.{One}
use Rattle.sp_scan.proofs.NamedElements.{named_at}
use Rattle.sp_scan.proofs.ahead.behind.Goals as goal

pub names-requires : goal.names-requires
names-requires c = named_at c.args.plan.now c.as_slice-elements.result.now c.loop-place.place (One 0) c.requires c.as_slice-elements.ensures c.loop-place-test.true

pub is_filled-requires : goal.is_filled-requires
is_filled-requires c = named_at c.args.plan.now c.as_slice-elements.result.now c.loop-place.place (One 0) c.requires c.as_slice-elements.ensures c.loop-place-test.true
