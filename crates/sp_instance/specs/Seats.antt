-- What a seat shows of the jobs that were taken at it and the pieces that were put.
use Rattle.std.specs.Prelude.{◌≡◌, ℕ, ◌+◌, List, [], ◌++◌, length, map}
use Rattle.std.proofs.Common.{arith, refl, sym}
use Rattle.std.proofs.lemmas.List.{append-nil}
use Rattle.sp_hub.specs.State.{Sitting}
use Rattle.sp_piece.specs.declared.job.Job.{Job}
use Rattle.sp_piece.specs.Pieced.{Pieced}

-- it counts one call for each job, it put the tickets of the pieces in their order, and its number stays
pub record Counts (old : Sitting) (jobs : List Job) (pieces : List Pieced) (new : Sitting) : Type 0 where
  pub number : new.number ≡ old.number
  pub calls : new.calls ≡ old.calls + length jobs
  pub put : new.put ≡ old.put ++ map (λ piece. piece.job.ticket) pieces

pub counts_none : (seat : Sitting) → Counts seat [] [] seat
counts_none seat = record { number = refl; calls = omega arith; put = sym (append-nil seat.put) }

-- as many tickets were put as jobs were taken, and its number stays
pub record PutAll (old new : Sitting) : Type 0 where
  pub tickets : List ℕ
  pub number : new.number ≡ old.number
  pub calls : new.calls ≡ old.calls + length tickets
  pub put : new.put ≡ old.put ++ tickets
