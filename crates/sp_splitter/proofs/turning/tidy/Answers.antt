use Rattle.sp_splitter.proofs.Stepping.{went_then}
use Rattle.sp_splitter.proofs.turning.tidy.Goals as goal

pub returns-in_err-finished-clause-went : goal.returns-in_err-finished-clause-went
returns-in_err-finished-clause-went g c = λ n batch.
    went_then n batch c.args.core.now c.roll_all.new.core c.finish_all.new.core (c.in_ok-roll_all.ensures.goes n) (c.roll_all.ensures.went n batch) (c.finish_all.ensures.went n batch)

pub returns-in_err-plant-clause-went : goal.returns-in_err-plant-clause-went
returns-in_err-plant-clause-went g c = λ n batch.
    went_then n batch c.args.core.now c.roll_all.new.core c.plant.new.core (c.in_ok-roll_all.ensures.goes n) (c.roll_all.ensures.went n batch)
    (went_then n batch c.roll_all.new.core c.finish_all.new.core c.plant.new.core (c.in_ok-finished.ensures.goes n) (c.finish_all.ensures.went n batch) (c.plant.ensures.went n batch))

pub returns-clause-went : goal.returns-clause-went
returns-clause-went g c = λ n batch.
    went_then n batch c.args.core.now c.roll_all.new.core c.plant.new.core (c.in_ok-roll_all.ensures.goes n) (c.roll_all.ensures.went n batch)
    (went_then n batch c.roll_all.new.core c.finish_all.new.core c.plant.new.core (c.in_ok-finished.ensures.goes n) (c.finish_all.ensures.went n batch) (c.plant.ensures.went n batch))

pub returns-clause-tidied : goal.returns-clause-tidied
returns-clause-tidied g c = record {
  rolled = c.roll_all.new.core;
  rolls = c.in_ok-roll_all.ensures.rolls;
  calm = c.in_ok-roll_all.ensures.calm;
  done = c.finish_all.new.core;
  finishes = c.in_ok-finished.ensures.finishes;
  undone = c.in_ok-finished.ensures.undone;
  plants = c.in_ok-plant.ensures.plants;
}
