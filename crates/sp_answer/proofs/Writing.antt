-- Texts that are written piece by piece.
use Rattle.std.proofs.Common.{◌≡◌, ◌≢◌, ℕ, List, [], ◌∷◌, ◌++◌, Ok, Err, refl, sym, subst, ◌∙◌}
use Rattle.std.specs.Prelude.{Result, IsErr}
use Rattle.std.specs.declared.alloc.AllocError.{AllocError}
use Rattle.sp_io.specs.Outside.{SinkState, Grew, GrewWithin, Rose}
use Rattle.sp_answer.specs.Written.{WritesText}
use Rattle.sp_answer.specs.declared.written.Written.{Written}
use Rattle.sp_answer.specs.declared.written.Written.TheVariants.{All, Failed}
use Rattle.sp_io.proofs.Grew.{grew_more, grew_whole, within_all, within_more}

-- memory ran out between two lines
pub out_of_memory : (text : List ℕ) (old new : SinkState) (result : Result Written AllocError) → IsErr result → GrewWithin old.held text new.held → new.faults ≡ old.faults → WritesText text old new result
out_of_memory text old new (Ok written) failed within quiet = absurd (cc failed)
out_of_memory text old new (Err e) failed within quiet = record { all = λ e. cc; within = within; failed = λ e. cc; not_failed = λ other. quiet }

not_nil : (xs ys zs : List ℕ) → ys ≢ [] → xs ++ (ys ++ zs) ≢ []
not_nil [] [] zs some none = some refl
not_nil [] (y ∷ ys) zs some none = cc
not_nil (x ∷ xs) ys zs some none = cc

-- memory ran out, and the output did not fail
err_not_failed : (result : Result Written AllocError) → IsErr result → result ≢ Ok Failed
err_not_failed (Ok written) failed is = absurd (cc failed)
err_not_failed (Err e) failed is = cc

-- a piece of a text was written behind what had been written of it
module _ (text front piece rest : List ℕ) (are : text ≡ front ++ (piece ++ rest)) (old mid new : SinkState) (grew : Grew old.held front mid.held) (quiet : mid.faults ≡ old.faults) where
  pub cut_within : WritesText piece mid new (Ok Failed) → WritesText text old new (Ok Failed)
  cut_within writes =
      let failed = writes.failed refl in
      record {
        all = λ e. cc;
        within = subst (λ (l : List ℕ). GrewWithin old.held l new.held) (sym are) (within_more old.held mid.held new.held front piece rest grew writes.within);
        failed = λ e. (subst (λ (n : ℕ). Rose n new.faults) quiet failed.0, subst (λ (l : List ℕ). l ≢ []) (sym are) (not_nil front piece rest failed.1));
        not_failed = λ other. absurd (other refl);
      }

  -- before a piece, what was written begins the text
  pub begins_text : (result : Result Written AllocError) → IsErr result → WritesText text old mid result
  begins_text result failed =
      out_of_memory text old mid result failed (subst (λ (l : List ℕ). GrewWithin old.held l mid.held) (sym are) (within_all old.held mid.held front (piece ++ rest) grew)) quiet

  -- memory ran out within a piece
  pub piece_short : (own end : Result Written AllocError) → IsErr own → IsErr end → WritesText piece mid new own → WritesText text old new end
  piece_short own end own_failed failed writes =
      out_of_memory text old new end failed
      (subst (λ (l : List ℕ). GrewWithin old.held l new.held) (sym are) (within_more old.held mid.held new.held front piece rest grew writes.within))
      (writes.not_failed (err_not_failed own own_failed) ∙ quiet)

  pub piece_grew : WritesText piece mid new (Ok All) → Grew old.held (front ++ piece) new.held
  piece_grew writes = grew_more old.held mid.held new.held front piece grew (writes.all refl)

  pub piece_quiet : WritesText piece mid new (Ok All) → new.faults ≡ old.faults
  piece_quiet writes = writes.not_failed (λ e. cc) ∙ quiet

-- a text was written whole
pub whole_text : (text : List ℕ) (old new : SinkState) → Grew old.held text new.held → new.faults ≡ old.faults → WritesText text old new (Ok All)
whole_text text old new grew quiet = record { all = λ e. grew; within = grew_whole old.held new.held text grew; failed = λ e. cc; not_failed = λ other. quiet }

-- a text was cut by the output
pub cut_text : (text : List ℕ) (old new : SinkState) → GrewWithin old.held text new.held → Rose old.faults new.faults → text ≢ [] → WritesText text old new (Ok Failed)
cut_text text old new within rose some = record { all = λ e. cc; within = within; failed = λ e. (rose, some); not_failed = λ other. absurd (other refl) }
