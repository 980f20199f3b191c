-- A turn of the splitter brings no version in conflict.
use Rattle.std.proofs.Common.{ℕ}
use Rattle.sp_plan.specs.declared.plan.Plan.{Plan}
use Rattle.sp_group.specs.Machine.{Machine}
use Rattle.sp_rules.specs.Schedules.{Reached}
use Rattle.sp_spread.specs.Laws.{CalmStays}
use Rattle.sp_spread.proofs.CalmRoll.{roll_loses}
use Rattle.sp_spread.proofs.CalmSteps.{spawn_is_calm, lease_is_calm, stale_is_calm}
use Rattle.sp_spread.proofs.CalmFinish.{finish_is_calm}

pub calm_stays : (q : Plan) (bound : ℕ) (m : Machine) → Reached q bound m → CalmStays q bound m
calm_stays q bound m reached = record {
  by_roll = roll_loses q bound m reached.kept.sane;
  by_finish = finish_is_calm q bound m reached.kept.sane;
  by_spawn = spawn_is_calm q bound m reached.kept.sane;
  by_lease = lease_is_calm q bound m;
  by_stale = stale_is_calm q m;
}
