use Rattle.sp_spread.proofs.BusyCounted.{busy_is_counted}
use Rattle.sp_spread.proofs.CalmStays.{calm_stays}
use Rattle.sp_spread.proofs.GuessesStay.{guesses_stay}
use Rattle.sp_spread.proofs.OutCounted.{out_is_counted}
use Rattle.sp_spread.proofs.turns_are_lawful.Goals as goal

pub returns : goal.returns
returns c = λ q bound m compiled reached.
    let law = c.compiled_plans_are_lawful.ensures q compiled in
    record {
      calm = calm_stays q bound m reached;
      out = out_is_counted q bound m law compiled reached;
      busy = busy_is_counted q bound m law compiled reached;
      guesses = guesses_stay q bound m;
    }
