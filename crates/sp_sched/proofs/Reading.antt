-- Texts read line by line.
use Rattle.std.proofs.Common.{◌≡◌, ◌≢◌, ℕ, ◌+◌, ◌≤◌, List, [], ◌∷◌, ◌++◌, length, refl, sym, ◌∙◌, ap, subst, arith, append_assoc, append-nil, length-append, length-take, ◌-◌, Bool, true, false, take}
use Rattle.std.specs.Prelude.{slice_get, if◌then◌else◌}
use Rattle.sp_sched.specs.declared.step.TraceStep.{TraceStep}
use Rattle.sp_sched.specs.Schedules as s
use Rattle.sp_sched.specs.Schedules.{AreSteps, none, blank, step, CanStand, IsFault, IsSchedule, lines, lines_of_parts, step_text}
use Rattle.sp_sched.specs.Reading.{Adds, nothing, one_step, IsCut, IsFirstLine, parts}
use Rattle.sp_sched.proofs.Parts.{parts_some}

-- a carriage return less makes no text longer
less : (part : List ℕ) → length (s.without_cr part) ≤ length part
less part = by (s.is_cr (slice_get part (length part - 1)))
  where
    by : (b : Bool) → length (if b then take (length part - 1) part else part) ≤ length part
    by true = simp length-take (omega arith)
    by false = omega arith

-- the first part of a text is its first line, less a carriage return at its end
pub first_line : (text part rest line : List ℕ) → IsCut 10 text part rest → line ≡ s.without_cr part → IsFirstLine text line rest
first_line text part rest line c e = record {
  lines = ap lines_of_parts c.cut ∙ by (parts 10 rest) (parts_some 10 rest) ∙ ap (λ (l : List ℕ). l ∷ lines rest) (sym e);
  shorter = let w = c.shorter in omega (arith, ap length e, less part);
}
  where
    by : (more : List (List ℕ)) → more ≢ [] → lines_of_parts (part ∷ more) ≡ s.without_cr part ∷ lines_of_parts more
    by [] some = absurd (some refl)
    by (next ∷ more) some = refl

-- lines and one more
more_lines : {front : List (List ℕ)} {steps : List TraceStep} → AreSteps front steps → (line : List ℕ) (new : List TraceStep) → AreSteps (line ∷ []) new → AreSteps (front ++ line ∷ []) (steps ++ new)
more_lines none line new h = h
more_lines (blank rest steps g) line new h = blank (rest ++ line ∷ []) (steps ++ new) (more_lines g line new h)
more_lines (step x rest steps can g) line new h = step x (rest ++ line ∷ []) (steps ++ new) can (more_lines g line new h)

added : (front : List (List ℕ)) (line : List ℕ) (old new : List TraceStep) → AreSteps front old → Adds line old new → AreSteps (front ++ line ∷ []) new
added front line old new g (nothing e same) =
    subst (λ (l : List ℕ). AreSteps (front ++ l ∷ []) new) (sym e) (subst (λ (xs : List TraceStep). AreSteps (front ++ [] ∷ []) xs) (append-nil old ∙ sym same) (more_lines g [] [] (blank [] [] none)))
added front line old new g (one_step x h same) =
    subst (λ (l : List ℕ). AreSteps (front ++ l ∷ []) new) h.is (subst (λ (xs : List TraceStep). AreSteps (front ++ step_text x ∷ []) xs) (sym same) (more_lines g (step_text x) (x ∷ []) (step x [] [] h.stands none)))

-- The lines read so far are these steps.
pub record Going (text rest : List ℕ) (steps : List TraceStep) (before : ℕ) : Type 0 where
  pub front : List (List ℕ)
  pub are : lines text ≡ front ++ lines rest
  pub good : AreSteps front steps
  pub count : length front ≡ before
  pub within : before + length rest ≤ length text

pub sets_out : (text : List ℕ) (steps : List TraceStep) → steps ≡ [] → Going text text steps 0
sets_out text steps e = subst (λ (xs : List TraceStep). Going text text xs 0) (sym e) (record { front = []; are = refl; good = none; count = refl; within = omega arith })

module _ (text rest : List ℕ) (old : List TraceStep) (before : ℕ) (g : Going text rest old before) where
  pub goes : (line behind : List ℕ) → IsFirstLine rest line behind → (new : List TraceStep) → Adds line old new → Going text behind new (before + 1)
  goes line behind l new a = record {
    front = g.front ++ line ∷ [];
    are = g.are ∙ ap (λ (m : List (List ℕ)). g.front ++ m) l.lines ∙ sym (append_assoc g.front (line ∷ []) (lines behind));
    good = added g.front line old new g.good a;
    count = length-append g.front (line ∷ []) ∙ (let k = g.count in omega arith);
    within = let v = g.within in let w = l.shorter in omega arith;
  }

  pub arrives : lines rest ≡ rest ∷ [] → (new : List TraceStep) → Adds rest old new → IsSchedule text new
  arrives last new a = subst (λ (l : List (List ℕ)). AreSteps l new) (sym (g.are ∙ ap (λ (m : List (List ℕ)). g.front ++ m) last)) (added g.front rest old new g.good a)
