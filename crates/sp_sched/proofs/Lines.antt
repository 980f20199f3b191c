-- Steps, each on a line of its own, are a schedule.
use Rattle.std.proofs.Common.{◌≡◌, ℕ, ◌-◌, ◌<◌, false, List, [], ◌∷◌, ◌++◌, ◌==◌, length, take, get_or, refl, sym, ◌∙◌, ap, subst, arith, append_assoc}
use Rattle.std.specs.Prelude.{codes, Option, Some, None, slice_get, if◌then◌else◌}
use Rattle.std.specs.List.{All, slice_split}
use Rattle.std.proofs.lemmas.Bool.Decides.{nat_tests}
use Rattle.std.proofs.lemmas.List.Elements.{All-head, All-tail, All-weaker, All-get_or}
use Rattle.std.proofs.lemmas.List.Splits.{slice_split_at, length-slice_split}
use Rattle.std.proofs.lemmas.Option.{slice_get_within, get_or_from_slice_get}
use Rattle.sp_sched.specs.declared.step.TraceStep.{TraceStep}
use Rattle.sp_sched.specs.Schedules.{CanStand, IsSchedule, AreSteps, is_cr, without_cr, lines, lines_of_parts, schedule_text, step_text}
use Rattle.sp_sched.specs.Schedules.AreSteps.{none, blank, step}
use Rattle.sp_sched.proofs.Bytes.{IsPrinted, step_printed}

-- the last byte of a line is no carriage return
no_cr : (line : List ℕ) → All IsPrinted line → (last : Option ℕ) → slice_get line (length line - 1) ≡ last → is_cr last ≡ false
no_cr line h None e = refl
no_cr line h (Some b) e =
    let there : length line - 1 < length line = slice_get_within line (length line - 1) b e in
    let at : IsPrinted (get_or line (length line - 1) 0) = All-get_or IsPrinted line (length line - 1) 0 there h in
    let is : get_or line (length line - 1) 0 ≡ b = get_or_from_slice_get line (length line - 1) b 0 e in
    grind (arith, nat_tests)

kept : (line : List ℕ) → All IsPrinted line → without_cr line ≡ line
kept line h = ap (λ b. if b then take (length line - 1) line else line) (no_cr line h (slice_get line (length line - 1)) refl)

no_feed : (line : List ℕ) → All IsPrinted line → All (λ b. (b == 10) ≡ false) line
no_feed line h = All-weaker IsPrinted (λ b. (b == 10) ≡ false) (λ b p. grind (arith, nat_tests)) line h

-- a part with more behind it
more_parts : (part : List ℕ) (parts : List (List ℕ)) → 0 < length parts → lines_of_parts (part ∷ parts) ≡ without_cr part ∷ lines_of_parts parts
more_parts part [] h = absurd (omega arith)
more_parts part (next ∷ parts) h = refl

-- a line and its line feed before a text
first_line : (line text : List ℕ) → All IsPrinted line → lines ((line ++ codes "\n") ++ text) ≡ line ∷ lines text
first_line line text h =
    ap lines (append_assoc line (codes "\n") text)
    ∙ ap lines_of_parts (slice_split_at (λ b. b == 10) line 10 text (no_feed line h) refl)
    ∙ more_parts line (slice_split (λ b. b == 10) text) (omega (arith, length-slice_split (λ b. b == 10) text))
    ∙ ap (λ l. l ∷ lines text) (kept line h)

pub printed_is_schedule : (steps : List TraceStep) → All CanStand steps → IsSchedule (schedule_text steps) steps
printed_is_schedule [] h = blank [] [] none
printed_is_schedule (x ∷ xs) h =
    let can : CanStand x = All-head CanStand x xs h in
    subst (λ (l : List (List ℕ)). AreSteps l (x ∷ xs)) (sym (first_line (step_text x) (schedule_text xs) (step_printed x can)))
    (step x (lines (schedule_text xs)) xs can (printed_is_schedule xs (All-tail CanStand x xs h)))
