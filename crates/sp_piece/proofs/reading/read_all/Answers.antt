use Rattle.std.proofs.Common.{◌≡◌, ◌<◌, ℕ, List, ap, length, get_or, subst, arith}
use Rattle.std.specs.List.Sorted.{IsStrictlyIncreasing}
use Rattle.sp_piece.specs.Keeping.{IsPast}
use Rattle.sp_piece.proofs.Passing.{none_before, none_left}
use Rattle.sp_piece.proofs.reading.read_all.Goals as goal

pub pass_over-requires-clause-shown : goal.pass_over-requires-clause-shown
pass_over-requires-clause-shown c =
    let job = c.args.job.now in
    let read = c.loop-number.read in
    let at = c.loop-number.number-index in
    let is : c.list-snapshot.result.now ≡ job.snapshot.list = c.list-snapshot.ensures.list in
    none_before job read at (get_or c.list-snapshot.result.now at 0) (subst IsStrictlyIncreasing is c.list-snapshot.ensures.rising)
    (subst (λ (ns : List ℕ). at < length ns) is c.loop-number-test.true) (ap (λ (ns : List ℕ). get_or ns at 0) is)
    (subst (λ (ns : List ℕ). (j : ℕ) → j < at → IsPast job read (get_or ns j 0)) is c.loop-number.invariant.2)

pub read_to-requires-clause-shown : goal.read_to-requires-clause-shown
read_to-requires-clause-shown c =
    let job = c.args.job.now in
    let read = c.loop-number.read in
    let is : c.list-snapshot.result.now ≡ job.snapshot.list = c.list-snapshot.ensures.list in
    let long : length c.as_slice.result.now ≡ length job.events = ap length c.as_slice.ensures in
    let done = c.loop-number-test.false in
    λ i from less. none_left job read
    (subst (λ (ns : List ℕ). (j : ℕ) → j < length ns → IsPast job read (get_or ns j 0)) is (λ j within. c.loop-number.invariant.2 j (omega (arith, within, done))))
    i from (omega (arith, long, less))
