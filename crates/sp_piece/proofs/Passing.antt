-- Which of the lent events are passed over.
use Rattle.std.proofs.Common.{◌≡◌, ℕ, suc, ◌+◌, ◌-◌, ◌<◌, ◌≤◌, ⊎_elim, inl, inr, Bool, true, false, List, [], ◌∷◌, get_or, length, Option, refl, sym, ◌∙◌, ap, arith}
use Rattle.std.specs.Prelude.{nat_lt, ◌||◌, ◌==◌}
use Rattle.std.specs.List.Sorted.{IsStrictlyIncreasing}
use Rattle.std.proofs.lemmas.Bool.Decides.{nat_tests}
use Rattle.sp_base.specs.Numbers.{is_among}
use Rattle.sp_base.proofs.Placed.{earlier}
use Rattle.sp_match.specs.public.Matching.{Matching}
use Rattle.sp_match.specs.declared.moves.Moves.{Moves}
use Rattle.sp_piece.specs.declared.job.Job.{Job}
use Rattle.sp_piece.specs.Reading.{skips}
use Rattle.sp_piece.specs.Pieced.{loan}
use Rattle.sp_piece.specs.Keeping.{IsKept, IsPast, NoneSkipped, going}
use Rattle.sp_piece.proofs.Kept.{kept_skipped}

-- a number is not among those that are all others
not_among : (ns : List ℕ) (n : ℕ) → ((j : ℕ) → j < length ns → get_or ns j 0 ≡ n → ⊥) → is_among ns n ≡ false
not_among [] n none = refl
not_among (m ∷ ns) n none = one (m == n) refl (not_among ns n (λ j within. none (suc j) (omega (arith, within))))
  where
    one : (b : Bool) → (m == n) ≡ b → is_among ns n ≡ false → (b || is_among ns n) ≡ false
    one true same rest = absurd (none 0 (omega arith) (grind (arith, nat_tests)))
    one false other rest = rest

-- more events read
pub past_still : (job : Job) (read later number : ℕ) → read ≤ later → IsPast job read number → IsPast job later number
past_still job read later number on past = ⊎_elim (λ (low : number < job.first + read). inl (omega arith)) (λ (high : job.first + length job.events ≤ number). inr high) past

module _ (job : Job) (read : ℕ) where
  past_other : (number i : ℕ) → IsPast job read number → read ≤ i → i < length job.events → number ≡ job.first + i → ⊥
  past_other number i past from within same = ⊎_elim (λ (low : number < job.first + read). omega arith) (λ (high : job.first + length job.events ≤ number). omega arith) past

  -- where each number of the snapshot is past, no event that is left is to be skipped
  pub none_left : ((j : ℕ) → j < length job.snapshot.list → IsPast job read (get_or job.snapshot.list j 0)) → NoneSkipped job read (length job.events)
  none_left past i from within =
      not_among job.snapshot.list (job.first + i) (λ j there same. past_other (get_or job.snapshot.list j 0) i (past j there) from within same)

  -- where those in front of one number are past, none in front of it is
  pub none_before : (at number : ℕ) → IsStrictlyIncreasing job.snapshot.list → at < length job.snapshot.list → number ≡ get_or job.snapshot.list at 0
      → ((j : ℕ) → j < at → IsPast job read (get_or job.snapshot.list j 0))
      → (i : ℕ) → read ≤ i → i < length job.events → job.first + i < number → skips (loan job) i ≡ false
  none_before at number rising here is past i from within front = not_among job.snapshot.list (job.first + i) (λ j there same. one j there same (nat_lt j at) (nat_lt at j) refl refl)
    where
      one : (j : ℕ) → j < length job.snapshot.list → get_or job.snapshot.list j 0 ≡ job.first + i → (b c : Bool) → nat_lt j at ≡ b → nat_lt at j ≡ c → ⊥
      one j there same true c less more = past_other (get_or job.snapshot.list j 0) i (past j (grind (arith, nat_tests))) from within same
      one j there same false true less more =
          let up : get_or job.snapshot.list at 0 < get_or job.snapshot.list j 0 = earlier job.snapshot.list rising at j (grind (arith, nat_tests)) there in
          omega arith
      one j there same false false less more =
          let equal : j ≡ at = grind (arith, nat_tests) in
          let value : get_or job.snapshot.list j 0 ≡ number = ap (λ (k : ℕ). get_or job.snapshot.list k 0) equal ∙ sym is in
          omega arith

-- the event of a number is passed over
pub kept_passed : (job : Job) (read number : ℕ) (now : Option Matching) (list : List Moves) → IsKept (going job read) now list → is_among job.snapshot.list number ≡ true
    → job.first ≤ number → read ≡ number - job.first → read < length job.events → IsKept (going job (read + 1)) now list
kept_passed job read number now list kept skipped high is within =
    let same : number ≡ job.first + read = omega arith in
    kept_skipped job read false false now list kept within (ap (is_among job.snapshot.list) (sym same) ∙ skipped)
