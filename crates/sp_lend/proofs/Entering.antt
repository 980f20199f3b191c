-- The exchange that enters a job keeps the rule of the register.
use Rattle.std.proofs.Common.{◌≡◌, ℕ, ◌+◌, ◌<◌, ◌≤◌, ◌==◌, Bool, true, false, List, [], ◌∷◌, ◌++◌, length, refl, ap, sym, ◌∙◌, subst, arith, inl, length-append, None}
use Rattle.std.proofs.lemmas.List.{append-nil}
use Rattle.std.proofs.lemmas.Bool.Decides.{nat_tests}
use mathlib.Core.List.{IsPrefix}
use prog.Atomic.{either}
use Rattle.logbook.specs.Pages.{Cell, cell, keeps, no_nib, step, Moves, Goes}
use Rattle.sp_piece.specs.declared.job.Job.{Job}
use Rattle.sp_lend.specs.Registered.{Entered, IsCounted}

-- nobody looks at what is entered, and nothing is traded for it
abbrev pub shown : List Job → List Job
shown log = []

abbrev pub moved : List Job → List Job → ℕ → Type 0
moved xs ys n = Unit {0}

-- nothing stands behind a beginning that is as long as the whole
whole : (seen rest : List Job) → length (seen ++ rest) ≤ length seen → seen ++ rest ≡ seen
whole seen [] few = append-nil seen
whole seen (job ∷ rest) few = absurd (omega (arith, length-append seen (job ∷ rest)))

module _ (seen : List Job) (job : Job) (old : ℕ) (count : length seen ≡ old) where
  module _ (log : List Job) (begins : IsPrefix seen log) where
    goes : (b : Bool) → (length log == old) ≡ b
        → Goes IsCounted shown moved 0 (seen, (no_nib, None)) (λ n. either (n == old) (old + 1) n) (Entered (step 0 old (old + 1) job) (seen, (no_nib, None))) ((length log, true) ∷ (0, true) ∷ []) log
    goes true is =
        let as_many : length log ≡ old = grind (arith, nat_tests) in
        let all : seen ++ begins.0 ≡ seen = whole seen begins.0 (omega (arith, ap length begins.1)) in
        let same : log ≡ seen = sym begins.1 ∙ all in
        let more : either (length log == old) (old + 1) (length log) ≡ length (log ++ job ∷ []) = rw is (omega (arith, length-append log (job ∷ []))) in (
          keeps,
          job ∷ [],
          None,
          tt,
          ap (λ (k : ℕ). (k, true) ∷ (0, true) ∷ []) more,
          inl (refl, refl),
          rw is (ap (λ (w : List Job). w ++ job ∷ []) same),
        )
    goes false is =
        let nothing : log ++ [] ≡ log = append-nil log in
        let same : either (length log == old) (old + 1) (length log) ≡ length (log ++ []) = rw is (ap length (sym nothing)) in (
          keeps,
          [],
          None,
          tt,
          ap (λ (k : ℕ). (k, true) ∷ (0, true) ∷ []) same,
          inl (refl, refl),
          rw is (ap length nothing),
        )

  -- whatever is entered, the exchange enters the job behind all that was seen, or finds that more was entered
  pub enters_moves : Moves IsCounted shown moved 0 (seen, (no_nib, None)) (λ n. either (n == old) (old + 1) n) (Entered (step 0 old (old + 1) job) (seen, (no_nib, None)))
  enters_moves cells log counted begins away =
      let P : List Cell → Type 0 = λ c. (0 < length c) × ((cell c 0).1 ≡ true) × Goes IsCounted shown moved 0 (seen, (no_nib, None)) (λ n. either (n == old) (old + 1) n) (Entered (step 0 old (old + 1) job) (seen, (no_nib, None))) c log in
      subst P (sym counted) (omega arith, refl, goes log begins (length log == old) refl)
