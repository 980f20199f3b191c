-- What is done to the run of a number that stands among runs of other numbers.
use Rattle.std.proofs.Common.{◌≡◌, List, [], ◌∷◌, ◌++◌, map}
use Rattle.std.specs.List.{filter}
use Rattle.sp_plan.specs.Runs.{Pair, Started}
use Rattle.sp_plan.specs.Moves.{is_run, without_run, with_pair}
use Rattle.sp_match.proofs.RunNumbersRise.{Absent, without_absent, with_pair_absent, runs_absent, itself}

pub without_middle : (xs : List Started) (x : Started) (ys : List Started) → Absent x.0 xs → Absent x.0 ys → without_run x.0 (xs ++ x ∷ ys) ≡ xs ++ ys
without_middle [] x ys front back = rw (itself x, without_absent x.0 ys back)
without_middle (z ∷ xs) x ys front back = rw (front.0, without_middle xs x ys front.1 back)

pub with_pair_middle : (pair : Pair) (xs : List Started) (x : Started) (ys : List Started) → Absent x.0 xs → Absent x.0 ys → map (with_pair x.0 pair) (xs ++ x ∷ ys) ≡ xs ++ (x.0, x.1 ++ pair ∷ []) ∷ ys
with_pair_middle pair [] x ys front back = rw (itself x, with_pair_absent x.0 pair ys back)
with_pair_middle pair (z ∷ xs) x ys front back = rw (front.0, with_pair_middle pair xs x ys front.1 back)

pub run_middle : (xs : List Started) (x : Started) (ys : List Started) → Absent x.0 xs → Absent x.0 ys → filter (is_run x.0) (xs ++ x ∷ ys) ≡ x ∷ []
run_middle [] x ys front back = rw (itself x, runs_absent x.0 ys back)
run_middle (z ∷ xs) x ys front back = rw (front.0, run_middle xs x ys front.1 back)
