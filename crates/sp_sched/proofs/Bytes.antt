-- Which bytes the texts of steps have.
use Rattle.std.proofs.Common.{◌≡◌, ℕ, ◌+◌, ◌<◌, ◌≤◌, ◌^◌, ◌%◌, Bool, List, [], ◌∷◌, ◌++◌, arith, refl, true, ◌≢◌}
use Rattle.std.specs.Prelude.{codes, Some, None, nat_le}
use Rattle.std.specs.List.{All, list_all}
use Rattle.std.specs.Fmt.{decimal}
use Rattle.std.proofs.lemmas.Fmt.{decimal_by_steps}
use Rattle.std.proofs.lemmas.List.Sums.{AllPass-from_list_all}
use borrow.Author.Tests.{leb-true}
use Rattle.std.proofs.lemmas.List.Elements.{All-nil, All-cons, All-head, All-tail, All-append, All-push, All-weaker}
use Rattle.sp_base.specs.Commas.{more, list_text}
use Rattle.sp_base.specs.Limits.{batch_limit}
use Rattle.sp_sched.specs.declared.step.TraceStep.{TraceStep}
use Rattle.sp_sched.specs.declared.step.TraceStep.TheVariants as t
use Rattle.sp_sched.specs.Schedules.{CanStand, IsNumber, step_text}

-- a byte that can stand in a word
abbrev pub IsLetter : ℕ → Type 0
IsLetter b = 32 < b

abbrev pub IsDigit : ℕ → Type 0
IsDigit b = (48 ≤ b) × (b ≤ 57)

-- a byte that can stand in a line
abbrev pub IsPrinted : ℕ → Type 0
IsPrinted b = 32 ≤ b

abbrev pub IsShort : ℕ → Type 0
IsShort n = n < 2 ^ 32

pub decimal_digits : (n : ℕ) → n < 2 ^ 64 → All IsDigit (decimal n)
decimal_digits n h = decimal_by_steps (λ n ds. All IsDigit ds) one next n h
  where
    one : (n : ℕ) → n < 10 → All IsDigit ((48 + n) ∷ [])
    one n h = All-cons IsDigit (48 + n) [] (omega arith, omega arith) (All-nil IsDigit)

    next : (n : ℕ) (ds : List ℕ) → 10 ≤ n → All IsDigit ds → All IsDigit (ds ++ ((48 + n % 10) ∷ []))
    next n ds h ih = All-push IsDigit ds (48 + n % 10) ih (omega arith, omega arith)

pub number_bounds : (n : ℕ) → IsNumber n → n < 2 ^ 64
number_bounds n h = omega arith

letters : (n : ℕ) → n < 2 ^ 64 → All IsLetter (decimal n)
letters n h = All-weaker IsDigit IsLetter (λ b d. omega arith) (decimal n) (decimal_digits n h)

more_letters : (ns : List ℕ) → All IsShort ns → All IsLetter (more ns)
more_letters [] h = All-nil IsLetter
more_letters (n ∷ ns) h =
    let small : n < 2 ^ 32 = All-head IsShort n ns h in
    All-append IsLetter (codes "," ++ decimal n) (more ns)
    (All-cons IsLetter 44 (decimal n) (omega arith) (letters n (omega arith))) (more_letters ns (All-tail IsShort n ns h))

pub number_letters : (n : ℕ) → IsNumber n → All IsLetter (decimal n)
number_letters n h = letters n (number_bounds n h)

pub count_letters : (n : ℕ) → n ≤ batch_limit → All IsLetter (decimal n)
count_letters n h = letters n (omega arith)

pub label_letters : (ns : List ℕ) → All IsShort ns → All IsLetter (list_text ns)
label_letters [] h = All-cons IsLetter 45 [] (omega arith) (All-nil IsLetter)
label_letters (n ∷ ns) h =
    let small : n < 2 ^ 32 = All-head IsShort n ns h in
    All-append IsLetter (decimal n) (more ns) (letters n (omega arith)) (more_letters ns (All-tail IsShort n ns h))

printed : (bs : List ℕ) → All IsLetter bs → All IsPrinted bs
printed bs h = All-weaker IsLetter IsPrinted (λ b l. omega arith) bs h

-- whether each byte of a fixed text can stand in a line
abbrev all_printed : List ℕ → Bool
all_printed bs = list_all (λ b. nat_le 32 b) bs

fixed : (bs : List ℕ) → all_printed bs ≡ true → All IsPrinted bs
fixed bs h = All-weaker (λ b. nat_le 32 b ≡ true) IsPrinted (λ b t. omega (arith, leb-true)) bs (AllPass-from_list_all (λ b. nat_le 32 b) bs h)

-- a number behind a fixed text
number : (front : List ℕ) (n : ℕ) → all_printed front ≡ true → IsNumber n → All IsPrinted (front ++ decimal n)
number front n h is = All-append IsPrinted front (decimal n) (fixed front h) (printed (decimal n) (number_letters n is))

-- a blank and a word behind another text
then_word : (front word : List ℕ) → All IsPrinted front → All IsLetter word → All IsPrinted (front ++ codes " " ++ word)
then_word front word h l = All-append IsPrinted (front ++ codes " ") word (All-append IsPrinted front (codes " ") h (fixed (codes " ") refl)) (printed word l)

-- the text of a step that can stand has no control byte
pub step_printed : (x : TraceStep) → CanStand x → All IsPrinted (step_text x)
step_printed t.Feed h = fixed (codes "feed") refl
step_printed t.End h = fixed (codes "end") refl
step_printed (t.Spawn None label) h = fixed (codes "spawn root") refl
step_printed (t.Spawn (Some parent) label) h =
    then_word (codes "spawn " ++ decimal parent) (list_text label) (number (codes "spawn ") parent refl h.0) (label_letters label h.1.1)
step_printed (t.Lease version count) h =
    then_word (codes "lease " ++ decimal version) (decimal count) (number (codes "lease ") version refl h.0) (count_letters count h.2)
step_printed (t.Event ticket) h = number (codes "event ") ticket refl h
step_printed (t.Return ticket) h = number (codes "return ") ticket refl h
step_printed (t.Roll version) h = number (codes "roll ") version refl h
step_printed t.Finish h = fixed (codes "finish") refl
step_printed t.State h = fixed (codes "state") refl

-- each step has a text
pub some_text : (x : TraceStep) → step_text x ≢ []
some_text t.Feed e = cc
some_text t.End e = cc
some_text (t.Spawn None label) e = cc
some_text (t.Spawn (Some parent) label) e = cc
some_text (t.Lease version count) e = cc
some_text (t.Event ticket) e = cc
some_text (t.Return ticket) e = cc
some_text (t.Roll version) e = cc
some_text t.Finish e = cc
some_text t.State e = cc
