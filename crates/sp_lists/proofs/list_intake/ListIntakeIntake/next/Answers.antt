use Rattle.sp_lists.specs.Listing.{listing}
use Rattle.sp_lists.proofs.Told.{never_falls}
use Rattle.sp_lists.proofs.list_intake.ListIntakeIntake.next.Goals as goal

pub returns-clause-never_falls : goal.returns-clause-never_falls
returns-clause-never_falls c = never_falls (listing c.args.self.now) (listing c.give.new.self) c.give.ensures.after
