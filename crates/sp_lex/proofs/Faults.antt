-- A text has tokens or one fault, and not two.
use Rattle.std.proofs.Common.{◌≡◌, ◌≢◌, ℕ, ◌+◌, ◌⊎◌, inl, inr, Bool, true, false, List, [], ◌∷◌, ◌++◌, length, refl, sym, ◌∙◌, ap, subst}
use Rattle.std.proofs.lemmas.List.{append_cancel_left}
use Rattle.sp_lex.specs.declared.token.Kernel.{Kernel}
use Rattle.sp_lex.specs.declared.token.Kernel.TheVariants as k
use Rattle.sp_lex.specs.declared.token.Token.{Token}
use Rattle.sp_lex.specs.declared.token.LexFault.{LexFault}
use Rattle.sp_lex.specs.declared.token.LexFault.TheVariants as fault
use Rattle.sp_lex.specs.Spelling.{is_digit, is_quote, is_blank, heads, number_of, pointed, Spells, as_whole, IsLong, HasNone, Next, Reaches, Tokens, Gets, Refuses}
use Rattle.sp_lex.specs.Reading.{IsRun}
use Rattle.sp_lex.proofs.Longest.{clash, same_run, number_begins, heads_append}
use Rattle.sp_lex.proofs.Lexing.{next_same, split, no_next, no_start, digit_no_blank, quote_no_blank}

-- no token comes next, wherever the text stands
IsStuck : List ℕ → Type 0
IsStuck rest = (at : ℕ) (t : Token) (r : List ℕ) → Next at rest t r → ⊥

-- two ways to where nothing comes next are one
meet : (at : ℕ) (s : List ℕ) (ts us : List Token) (e d : ℕ) (m n : List ℕ) → Reaches at s ts e m → Reaches at s us d n → IsStuck m → IsStuck n → (e ≡ d) × (m ≡ n)
unfolding IsStuck
meet at s [] [] e d m n x y a b = (sym x.0 ∙ y.0, sym x.1 ∙ y.1)
meet at s [] (u ∷ us) e d m n x y a b = absurd (a at u y.0 (subst (λ l. Next at l u y.0) x.1 y.1))
meet at s (t ∷ ts) [] e d m n x y a b = absurd (b at t x.0 (subst (λ l. Next at l t x.0) y.1 x.1))
meet at s (t ∷ ts) (u ∷ us) e d m n x y a b =
    let p = next_same at s t u x.0 y.0 x.1 y.1 in
    meet t.span.to x.0 ts us e d m n x.2 (subst (λ (w : Token × List ℕ). Reaches w.0.span.to w.1 us d n) (λ i. (sym p.0 i, sym p.1 i)) y.2) a b

-- such a way, and a list of tokens of the whole text
no_whole : (at : ℕ) (s : List ℕ) (ts us : List Token) (e : ℕ) (m : List ℕ) → Reaches at s ts e m → Tokens at s us → ((place : ℕ) (more : List Token) → Tokens place m more → ⊥) → ⊥
no_whole at s [] us e m x y none = none at us (subst (λ l. Tokens at l us) x.1 y)
no_whole at s (t ∷ ts) us e m x y none =
    let p = split at s t x.0 x.1 us y in
    no_whole t.span.to x.0 ts p.0 e m x.2 p.2 none

-- Up to a place the text is tokens and blanks, and there no token comes.
record Halt (text : List ℕ) (at : ℕ) (rest : List ℕ) : Type 0 where
  gets : Gets text at rest
  starts : heads is_blank rest ≡ false
  some : rest ≢ []
  none : (kernel : Kernel) (f r : List ℕ) → rest ≡ f ++ r → Spells kernel f r → (IsLong rest → ⊥) → ⊥

run_of : (text : List ℕ) (at : ℕ) (rest : List ℕ) (h : Halt text at rest) → IsRun is_blank h.gets.blanks rest
run_of text at rest h = record { all = h.gets.blank; stops = h.starts }

stuck : (text : List ℕ) (at : ℕ) (rest : List ℕ) (h : Halt text at rest) → IsStuck (h.gets.blanks ++ rest)
unfolding IsStuck
stuck text at rest h place t r x = no_next place (h.gets.blanks ++ rest) h.gets.blanks rest refl (run_of text at rest h) h.none t r x

same_halt : (text : List ℕ) (at to : ℕ) (rest other : List ℕ) → Halt text at rest → Halt text to other → (at ≡ to) × (rest ≡ other)
same_halt text at to rest other h g =
    let p = meet 0 text h.gets.tokens g.gets.tokens h.gets.place g.gets.place (h.gets.blanks ++ rest) (g.gets.blanks ++ other) h.gets.reaches g.gets.reaches (stuck text at rest h) (stuck text to other g) in
    let b : h.gets.blanks ≡ g.gets.blanks = same_run is_blank h.gets.blanks rest g.gets.blanks other h.gets.blank g.gets.blank h.starts g.starts p.1 in
    (h.gets.at_is ∙ (λ i. p.0 i + length (b i)) ∙ sym g.gets.at_is, append_cancel_left h.gets.blanks _ _ (p.1 ∙ ap (λ l. l ++ other) (sym b)))

length_none : (rest : List ℕ) → length rest ≡ 0 → rest ≡ []
length_none [] h = refl
length_none (b ∷ rest) h = cc

no_tokens : (text : List ℕ) (at : ℕ) (rest : List ℕ) → Halt text at rest → (ts : List Token) → Tokens 0 text ts → ⊥
no_tokens text at rest h ts q = no_whole 0 text h.gets.tokens ts h.gets.place (h.gets.blanks ++ rest) h.gets.reaches q
    (λ place more t. no_start place (h.gets.blanks ++ rest) h.gets.blanks rest refl (run_of text at rest h) (λ n. h.some (length_none rest n)) h.none more t)

begins_some : (p : ℕ → Bool) (rest : List ℕ) → heads p rest ≡ true → rest ≢ []
begins_some p [] h e = cc
begins_some p (b ∷ rest) h e = cc

begins_apart : (p : ℕ → Bool) (rest : List ℕ) → ((b : ℕ) → p b ≡ true → is_blank b ≡ false) → heads p rest ≡ true → heads is_blank rest ≡ false
begins_apart p [] n h = refl
begins_apart p (b ∷ rest) n h = n b h

long_begins : (rest : List ℕ) → IsLong rest → heads is_digit rest ≡ true
long_begins rest l = ap (heads is_digit) l.cut ∙ heads_append is_digit l.whole (pointed l.part ++ l.rest) (number_begins l.whole l.is_whole)

long_has : (rest : List ℕ) → IsLong rest → HasNone rest → ⊥
long_has rest l n = n (k.Whole (number_of l.whole)) l.whole (pointed l.part ++ l.rest) l.cut (as_whole refl l.is_whole)

halt_bad : (text : List ℕ) (at : ℕ) (x : Refuses text (fault.BadCharacter at)) → Halt text at x.0
halt_bad text at x = record { gets = x.2; starts = x.3; some = x.1; none = λ kernel f r e s short. x.5 kernel f r e s }

halt_open : (text : List ℕ) (at : ℕ) (x : Refuses text (fault.OpenText at)) → Halt text at x.0
halt_open text at x = record { gets = x.1; starts = begins_apart is_quote x.0 quote_no_blank x.2; some = begins_some is_quote x.0 x.2; none = λ kernel f r e s short. x.3 kernel f r e s }

halt_long : (text : List ℕ) (at : ℕ) (x : Refuses text (fault.LongNumber at)) → Halt text at x.0
halt_long text at x = record { gets = x.1; starts = begins_apart is_digit x.0 digit_no_blank (long_begins x.0 x.2); some = begins_some is_digit x.0 (long_begins x.0 x.2); none = λ kernel f r e s short. short x.2 }

-- a text with a fault has no tokens
pub fault_no_tokens : (e : LexFault) (text : List ℕ) (ts : List Token) → e ≢ fault.Memory → Refuses text e → Tokens 0 text ts → ⊥
fault_no_tokens fault.Memory text ts m x q = m refl
fault_no_tokens (fault.BadCharacter at) text ts m x q = no_tokens text at x.0 (halt_bad text at x) ts q
fault_no_tokens (fault.OpenText at) text ts m x q = no_tokens text at x.0 (halt_open text at x) ts q
fault_no_tokens (fault.LongNumber at) text ts m x q = no_tokens text at x.0 (halt_long text at x) ts q

bad_open : (text : List ℕ) (at to : ℕ) → Refuses text (fault.BadCharacter at) → Refuses text (fault.OpenText to) → ⊥
bad_open text at to x y =
    let p = same_halt text at to x.0 y.0 (halt_bad text at x) (halt_open text to y) in
    clash (heads is_quote y.0) y.2 (sym (ap (heads is_quote) p.1) ∙ x.4)

bad_long : (text : List ℕ) (at to : ℕ) → Refuses text (fault.BadCharacter at) → Refuses text (fault.LongNumber to) → ⊥
bad_long text at to x y =
    let p = same_halt text at to x.0 y.0 (halt_bad text at x) (halt_long text to y) in
    long_has y.0 y.2 (subst HasNone p.1 x.5)

open_long : (text : List ℕ) (at to : ℕ) → Refuses text (fault.OpenText at) → Refuses text (fault.LongNumber to) → ⊥
open_long text at to x y =
    let p = same_halt text at to x.0 y.0 (halt_open text at x) (halt_long text to y) in
    long_has y.0 y.2 (subst HasNone p.1 x.3)

-- a text has no second fault
pub one_fault : (e d : LexFault) (text : List ℕ) → e ≢ fault.Memory → Refuses text e → Refuses text d → (d ≡ e) ⊎ (d ≡ fault.Memory)
one_fault e fault.Memory text m x y = inr refl
one_fault fault.Memory (fault.BadCharacter to) text m x y = absurd (m refl)
one_fault fault.Memory (fault.OpenText to) text m x y = absurd (m refl)
one_fault fault.Memory (fault.LongNumber to) text m x y = absurd (m refl)
one_fault (fault.BadCharacter at) (fault.BadCharacter to) text m x y = inl (ap fault.BadCharacter (sym (same_halt text at to x.0 y.0 (halt_bad text at x) (halt_bad text to y)).0))
one_fault (fault.BadCharacter at) (fault.OpenText to) text m x y = absurd (bad_open text at to x y)
one_fault (fault.BadCharacter at) (fault.LongNumber to) text m x y = absurd (bad_long text at to x y)
one_fault (fault.OpenText at) (fault.BadCharacter to) text m x y = absurd (bad_open text to at y x)
one_fault (fault.OpenText at) (fault.OpenText to) text m x y = inl (ap fault.OpenText (sym (same_halt text at to x.0 y.0 (halt_open text at x) (halt_open text to y)).0))
one_fault (fault.OpenText at) (fault.LongNumber to) text m x y = absurd (open_long text at to x y)
one_fault (fault.LongNumber at) (fault.BadCharacter to) text m x y = absurd (bad_long text to at y x)
one_fault (fault.LongNumber at) (fault.OpenText to) text m x y = absurd (open_long text to at y x)
one_fault (fault.LongNumber at) (fault.LongNumber to) text m x y = inl (ap fault.LongNumber (sym (same_halt text at to x.0 y.0 (halt_long text at x) (halt_long text to y)).0))
