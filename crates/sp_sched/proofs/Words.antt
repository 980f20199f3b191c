-- A step that can stand is known by its text: the words between blanks say what it is.
use Rattle.std.proofs.Common.{◌≡◌, ℕ, ◌<◌, ◌≤◌, ◌^◌, Bool, false, List, [], ◌∷◌, ◌++◌, ◌==◌, get_or, length, map, refl, sym, ◌∙◌, ap, arith, append-nil, append_assoc}
use Rattle.std.specs.Prelude.{codes, Some, None, if◌then◌else◌}
use Rattle.std.specs.List.{All, slice_split}
use Rattle.std.specs.Fmt.{decimal}
use Rattle.std.specs.Str.Parse.{digits_value}
use Rattle.std.proofs.lemmas.Bool.Decides.{nat_tests}
use Rattle.std.proofs.lemmas.Fmt.{decimal_is_IsNumeral, decimal_nonempty}
use Rattle.std.proofs.lemmas.List.Elements.{All-head, All-tail, All-weaker}
use Rattle.std.proofs.lemmas.List.Splits.{slice_split_at, slice_split_none}
use Rattle.sp_base.specs.Commas.{more, list_text}
use Rattle.sp_base.specs.Limits.{batch_limit}
use Rattle.sp_sched.specs.declared.step.TraceStep.{TraceStep}
use Rattle.sp_sched.specs.declared.step.TraceStep.TheVariants as t
use Rattle.sp_sched.specs.Schedules.{CanStand, IsNumber, step_text}
use Rattle.sp_sched.proofs.Bytes.{IsLetter, IsDigit, IsShort, decimal_digits, number_bounds, number_letters, count_letters, label_letters}

-- ---- what words say

abbrev is_blank : ℕ → Bool
is_blank b = b == 32

abbrev is_comma : ℕ → Bool
is_comma b = b == 44

abbrev words : List ℕ → List (List ℕ)
words text = slice_split is_blank text

-- the numbers that stand between commas
abbrev numbers_of : List ℕ → List ℕ
numbers_of word = map (λ w. digits_value 10 w) (slice_split is_comma word)

-- the runs of a label: a dash stands for none
abbrev runs_of : List ℕ → List ℕ
runs_of word = if get_or word 0 0 == 45 then [] else numbers_of word

-- a word alone, by its second letter: e of feed, n of end, i of finish
abbrev alone : ℕ → TraceStep
alone letter = if letter == 101 then t.Feed else if letter == 110 then t.End else if letter == 105 then t.Finish else t.State

-- a word with one more: v of event, e of return, o of roll, and the root
abbrev with_one : ℕ → ℕ → TraceStep
with_one letter n =
    if letter == 118 then t.Event n else if letter == 101 then t.Return n else if letter == 111 then t.Roll n else t.Spawn None []

-- a word with two more: e of lease, and a version below another
abbrev with_two : ℕ → ℕ → List ℕ → TraceStep
with_two letter n word = if letter == 101 then t.Lease n (digits_value 10 word) else t.Spawn (Some n) (runs_of word)

-- the step of these words
abbrev step_of : List (List ℕ) → TraceStep
step_of [] = t.State
step_of (first ∷ []) = alone (get_or first 1 0)
step_of (first ∷ second ∷ []) = with_one (get_or first 1 0) (digits_value 10 second)
step_of (first ∷ second ∷ third ∷ more) = with_two (get_or first 1 0) (digits_value 10 second) third

-- ---- what the words of a step say

no_blank : (word : List ℕ) → All IsLetter word → All (λ b. is_blank b ≡ false) word
no_blank word h = All-weaker IsLetter (λ b. is_blank b ≡ false) (λ b l. grind (arith, nat_tests)) word h

no_comma : (n : ℕ) → n < 2 ^ 64 → All (λ b. is_comma b ≡ false) (decimal n)
no_comma n h = All-weaker IsDigit (λ b. is_comma b ≡ false) (λ b d. grind (arith, nat_tests)) (decimal n) (decimal_digits n h)

one_word : (word : List ℕ) → All IsLetter word → words word ≡ word ∷ []
one_word word h = slice_split_none is_blank word (no_blank word h)

two_words : (word other : List ℕ) → All IsLetter word → All IsLetter other → words (word ++ codes " " ++ other) ≡ word ∷ other ∷ []
two_words word other h k =
    ap words (append_assoc word (codes " ") other) ∙ slice_split_at is_blank word 32 other (no_blank word h) refl
    ∙ ap (λ l. word ∷ l) (one_word other k)

valued : (n : ℕ) → n < 2 ^ 64 → digits_value 10 (decimal n) ≡ n
valued n h = (decimal_is_IsNumeral n h).1

-- numbers joined by commas, cut at the commas
numbers_cut : (n : ℕ) (ns : List ℕ) → n < 2 ^ 32 → All IsShort ns → numbers_of (decimal n ++ more ns) ≡ n ∷ ns
numbers_cut n [] h k =
    ap numbers_of (append-nil (decimal n))
    ∙ ap (λ l. map (λ w. digits_value 10 w) l) (slice_split_none is_comma (decimal n) (no_comma n (omega arith)))
    ∙ ap (λ v. v ∷ []) (valued n (omega arith))
numbers_cut n (m ∷ ms) h k =
    let rest : List ℕ = decimal m ++ more ms in
    ap (λ l. map (λ w. digits_value 10 w) l) (slice_split_at is_comma (decimal n) 44 rest (no_comma n (omega arith)) refl)
    ∙ ap (λ v. v ∷ numbers_of rest) (valued n (omega arith))
    ∙ ap (λ l. n ∷ l) (numbers_cut m ms (All-head IsShort m ms k) (All-tail IsShort m ms k))

-- a number doesn't begin with a dash
no_dash : (ds rest : List ℕ) → 0 < length ds → All IsDigit ds → (get_or (ds ++ rest) 0 0 == 45) ≡ false
no_dash [] rest some h = absurd (omega arith)
no_dash (d ∷ ds) rest some h = let digit : IsDigit d = All-head IsDigit d ds h in grind (arith, nat_tests)

label_read : (ns : List ℕ) → All IsShort ns → runs_of (list_text ns) ≡ ns
label_read [] h = refl
label_read (n ∷ ns) h =
    let small : n < 2 ^ 32 = All-head IsShort n ns h in
    ap (λ b. if b then [] else numbers_of (decimal n ++ more ns))
    (no_dash (decimal n) (more ns) (decimal_nonempty n (omega arith)) (decimal_digits n (omega arith)))
    ∙ numbers_cut n ns small (All-tail IsShort n ns h)

-- a word and a number
number_read : (word : List ℕ) (n : ℕ) → IsNumber n → step_of (word ∷ words (decimal n)) ≡ with_one (get_or word 1 0) n
number_read word n h =
    ap (λ l. step_of (word ∷ l)) (one_word (decimal n) (number_letters n h)) ∙ ap (with_one (get_or word 1 0)) (valued n (number_bounds n h))

-- the words of a step say what it is
step_read : (x : TraceStep) → CanStand x → step_of (words (step_text x)) ≡ x
step_read t.Feed h = refl
step_read t.End h = refl
step_read (t.Spawn None label) h = ap (λ l. t.Spawn None l) (sym h)
step_read (t.Spawn (Some parent) label) h =
    ap (λ l. step_of (codes "spawn" ∷ l)) (two_words (decimal parent) (list_text label) (number_letters parent h.0) (label_letters label h.1.1))
    ∙ (λ i. t.Spawn (Some (valued parent (number_bounds parent h.0) i)) (label_read label h.1.1 i))
step_read (t.Lease version count) h =
    ap (λ l. step_of (codes "lease" ∷ l)) (two_words (decimal version) (decimal count) (number_letters version h.0) (count_letters count h.2))
    ∙ (λ i. t.Lease (valued version (number_bounds version h.0) i) (valued count (let most : count ≤ batch_limit = h.2 in omega arith) i))
step_read (t.Event ticket) h = number_read (codes "event") ticket h
step_read (t.Return ticket) h = number_read (codes "return") ticket h
step_read (t.Roll version) h = number_read (codes "roll") version h
step_read t.Finish h = refl
step_read t.State h = refl

-- two steps of one text are one
pub one_step : (x y : TraceStep) → CanStand x → CanStand y → step_text x ≡ step_text y → x ≡ y
one_step x y a b e = sym (step_read x a) ∙ ap (λ l. step_of (words l)) e ∙ step_read y b
