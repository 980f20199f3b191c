-- How each token is written, and that a text that is written token by token has these tokens.
use Rattle.std.proofs.Common.{◌≡◌, ◌≢◌, ℕ, ◌+◌, ◌≤◌, ◌<◌, ◌⊎◌, inl, inr, true, false, not, ◌==◌, Some, List, [], ◌∷◌, ◌++◌, length, get_or, refl, sym, ◌∙◌, ap, subst, arith, append_assoc, append-nil}
use Rattle.std.specs.List.{list_all}
use Rattle.sp_base.specs.Limits.{number_limit}
use Rattle.sp_lex.specs.declared.token.Word.{Word}
use Rattle.sp_lex.specs.declared.token.Token.{Token}
use Rattle.sp_lex.specs.declared.token.Kernel.{Kernel}
use Rattle.sp_lex.specs.declared.token.Kernel.TheVariants as k
use Rattle.sp_lex.specs.Spelling.{is_letter, is_digit, is_quote, is_name_byte, heads, spelling, mark, doubled, number_of, pointed, IsNumber, IsLong, Spells, as_word, as_name, as_whole, as_decimal, as_literal, as_mark, IsToken, Tokens}
use Rattle.sp_lex.specs.Reading.{IsRun, is_mark_byte, capped, with_more}
use Rattle.sp_lex.proofs.Tables.{none_some, word_begins, word_all, mark_passes, mark_begins, mark_short}
use Rattle.sp_lex.proofs.Longest.{flip, number_begins, heads_append, digit_no_letter, quote_no_digit, mark_no_digit, name_longest, whole_longest, decimal_longest, mark_longest, literal_longest, IsPart}
use Rattle.sp_lex.proofs.Front.{in_two, number_grows, other_short, whole_short, decimal_short}
use Rattle.sp_syntax.specs.Written.{IsSpelled, Written, none, some, kernels}
use Rattle.sp_syntax.specs.Printing.{IsPlain, ArePlain, IsDecimalOf}

-- ---- words, names and marks

letters_spelled : (kernel : Kernel) (f : List ℕ) → heads is_letter f ≡ true → list_all is_name_byte f ≡ true → ((rest : List ℕ) → Spells kernel f rest) → IsSpelled kernel f
letters_spelled kernel f h all s rest =
    let i : heads is_letter (f ++ 32 ∷ rest) ≡ true = heads_append is_letter f (32 ∷ rest) h in
    (record { spells = s (32 ∷ rest); longest = name_longest f (32 ∷ rest) i (record { all = all; stops = refl }) }, other_short is_letter (f ++ 32 ∷ rest) digit_no_letter i)

pub word_spelled : (word : Word) → IsSpelled (k.Word word) (spelling word)
word_spelled word = letters_spelled (k.Word word) (spelling word) (word_begins word) (word_all word) (λ rest. as_word word refl refl)

pub name_spelled : (text : List ℕ) → IsPlain (k.Name text) → IsSpelled (k.Name text) text
name_spelled text p = letters_spelled (k.Name text) text p.0.begins p.0.all (λ rest. as_name refl p.0 p.1)

-- no mark has a blank behind its first byte
no_blank : (kernel : Kernel) (b : ℕ) → mark kernel ≡ Some (b ∷ 32 ∷ []) → ⊥
no_blank kernel b e = let h : false ≡ true = mark_passes (λ f. not (get_or f 1 0 == 32)) refl kernel (b ∷ 32 ∷ []) e in cc

-- no longer mark stands where one is in front of a blank
no_longer : (f g r rest : List ℕ) (other : Kernel) → heads is_mark_byte f ≡ true → f ++ 32 ∷ rest ≡ g ++ r → mark other ≡ Some g → length g ≤ length f
no_longer [] g r rest other h e m = cc
no_longer (b ∷ c ∷ f) g r rest other h e m = let i : length g ≤ 2 = mark_short other g m in omega arith
no_longer (b ∷ []) [] r rest other h e m = omega arith
no_longer (b ∷ []) (x ∷ []) r rest other h e m = omega arith
no_longer (b ∷ []) (x ∷ y ∷ []) r rest other h e m =
    let d : 32 ≡ y = cc in
    absurd (no_blank other x (m ∙ ap (λ z. Some (x ∷ z ∷ [])) (sym d)))
no_longer (b ∷ []) (x ∷ y ∷ z ∷ g) r rest other h e m = absurd (let i : length (x ∷ y ∷ z ∷ g) ≤ 2 = mark_short other (x ∷ y ∷ z ∷ g) m in omega arith)

pub mark_spelled : (kernel : Kernel) (f : List ℕ) → mark kernel ≡ Some f → IsSpelled kernel f
mark_spelled kernel f m rest =
    let h : heads is_mark_byte f ≡ true = mark_begins kernel f m in
    let i : heads is_mark_byte (f ++ 32 ∷ rest) ≡ true = heads_append is_mark_byte f (32 ∷ rest) h in (
      record { spells = as_mark m; longest = mark_longest f (32 ∷ rest) (f ++ 32 ∷ rest) refl i (λ other g r e n. no_longer f g r rest other h e n) },
      other_short is_mark_byte (f ++ 32 ∷ rest) (flip is_mark_byte is_digit mark_no_digit) i,
    )

-- ---- literals

pub literal_spelled : (value : List ℕ) → IsSpelled (k.Literal value) (39 ∷ (doubled value ++ 39 ∷ []))
literal_spelled value rest =
    let f = 39 ∷ (doubled value ++ 39 ∷ []) in (
      record { spells = as_literal value refl refl refl; longest = literal_longest ((doubled value ++ 39 ∷ []) ++ 32 ∷ rest) f (32 ∷ rest) value refl refl refl },
      other_short is_quote (f ++ 32 ∷ rest) (flip is_quote is_digit quote_no_digit) refl,
    )

-- ---- numbers

no_part : (rest : List ℕ) → IsPart (32 ∷ rest)
no_part rest part r e n = cc

small_capped : (n : ℕ) → n ≤ number_limit → n ≡ capped n
small_capped n h = omega arith

pub whole_spelled : (f : List ℕ) (x : ℕ) → IsNumber f → number_of f ≡ x → x ≤ number_limit → IsSpelled (k.Whole x) f
whole_spelled f x n e small rest =
    let run : IsRun is_digit f (32 ∷ rest) = record { all = n.all; stops = refl } in (
      record { spells = as_whole (ap k.Whole (sym e)) n; longest = whole_longest f (32 ∷ rest) (heads_append is_digit f (32 ∷ rest) (number_begins f n)) run (no_part rest) },
      whole_short (f ++ 32 ∷ rest) f (32 ∷ rest) x refl run (small_capped x small ∙ ap capped (sym e)) small (no_part rest),
    )

some_digits : (part : List ℕ) → 1 ≤ length part → part ≢ []
some_digits part h e = let i : length part ≡ 0 = ap length e in omega arith

decimal_token : (whole part rest : List ℕ) (units scale : ℕ) → IsNumber whole → list_all is_digit part ≡ true → length part ≡ scale → number_of (whole ++ part) ≡ units → units ≤ number_limit → 1 ≤ scale → scale ≤ 6
    → IsToken (k.Decimal units scale) (whole ++ 46 ∷ part) (32 ∷ rest) × (IsLong ((whole ++ 46 ∷ part) ++ 32 ∷ rest) → ⊥)
decimal_token whole part rest units scale n digits longer value small some_ few =
    let after = 32 ∷ rest in
    let is_part : IsNumber part = record { some = some_digits part (subst (λ z. 1 ≤ z) (sym longer) some_); all = digits } in
    let cut : (whole ++ 46 ∷ part) ++ after ≡ whole ++ (46 ∷ (part ++ after)) = append_assoc whole (46 ∷ part) after in
    let run : IsRun is_digit whole (46 ∷ (part ++ after)) = record { all = n.all; stops = refl } in
    let below : IsRun is_digit part after = record { all = digits; stops = refl } in
    let head : heads is_digit (whole ++ (46 ∷ (part ++ after))) ≡ true = heads_append is_digit whole (46 ∷ (part ++ after)) (number_begins whole n) in
    let grown : number_of whole ≤ number_of (whole ++ part) = number_grows whole part in
    let first : capped (number_of whole) ≤ number_limit = omega arith in
    let both : with_more (with_more 0 whole) part ≡ capped (number_of (whole ++ part)) = in_two whole part in
    let last : capped (number_of (whole ++ part)) ≤ number_limit = omega arith in (
      record { spells = as_decimal whole part (λ i. k.Decimal (sym value i) (sym longer i)) refl n is_part (subst (λ z. z ≤ 6) (sym longer) few); longest = decimal_longest whole part after head run below },
      decimal_short ((whole ++ 46 ∷ part) ++ after) whole (46 ∷ (part ++ after)) (part ++ after) part after (with_more 0 whole) (with_more (with_more 0 whole) part)
          (ap (heads is_digit) cut ∙ head) cut run refl refl below (λ e. let l : length part ≡ scale = longer in omega arith) refl refl first (subst (λ z. z ≤ 6) (sym longer) few) (subst (λ z. z ≤ number_limit) (sym both) last),
    )

pub decimal_spelled : (text : List ℕ) (units scale : ℕ) → IsDecimalOf units scale text → units ≤ number_limit → 1 ≤ scale → scale ≤ 6 → IsSpelled (k.Decimal units scale) text
decimal_spelled text units scale d small some_ few = subst (IsSpelled (k.Decimal units scale)) (sym d.cut) (λ rest. decimal_token d.whole d.part rest units scale d.is_whole d.digits d.scale_is d.units_is small some_ few)

-- ---- what a text's own tokens are

plain_mark : (kernel : Kernel) (f : List ℕ) → mark kernel ≡ Some f → IsPlain kernel
plain_mark (k.Name t) f e = absurd (none_some f e)
plain_mark (k.Whole n) f e = absurd (none_some f e)
plain_mark (k.Decimal u s) f e = absurd (none_some f e)
plain_mark _ f e = tt

at_most_or_more : (n m : ℕ) → (n ≤ m) ⊎ (m < n)
at_most_or_more n m = grind arith

not_more : (n m : ℕ) → (m < n → ⊥) → n ≤ m
not_more n m h = elim (at_most_or_more n m) [ inl l ↦ l | inr l ↦ absurd (h l) ]

pointed_is : (part rest : List ℕ) → part ≢ [] → pointed part ++ rest ≡ 46 ∷ (part ++ rest)
pointed_is [] rest n = absurd (n refl)
pointed_is (b ∷ part) rest n = refl

positive : (part : List ℕ) → part ≢ [] → 1 ≤ length part
positive [] n = absurd (n refl)
positive (b ∷ part) n = omega arith

plain_kernel : (kernel : Kernel) (f rest : List ℕ) → Spells kernel f rest → (IsLong (f ++ rest) → ⊥) → IsPlain kernel
plain_kernel kernel f rest (as_word w e d) short = subst IsPlain (sym e) tt
plain_kernel kernel f rest (as_name e n o) short = subst IsPlain (sym e) (n, o)
plain_kernel kernel f rest (as_whole e n) short = subst IsPlain (sym e) (not_more (number_of f) number_limit (λ h.
    short (record { whole = f; part = []; rest = rest; cut = refl; is_whole = n; is_part = refl; long = inr (subst (λ l. number_limit < number_of l) (sym (append-nil f)) h) })))
plain_kernel kernel f rest (as_decimal w p e d n m s) short = subst IsPlain (sym e) (
  not_more (number_of (w ++ p)) number_limit (λ h. short (record {
    whole = w;
    part = p;
    rest = rest;
    cut = ap (λ l. l ++ rest) d ∙ append_assoc w (46 ∷ p) rest ∙ ap (λ l. w ++ l) (sym (pointed_is p rest m.some));
    is_whole = n;
    is_part = m.all;
    long = inr h;
  })),
  positive p m.some,
  s,
)
plain_kernel kernel f rest (as_literal v e d c) short = subst IsPlain (sym e) tt
plain_kernel kernel f rest (as_mark e) short = plain_mark kernel f e

-- The tokens of a text can be written.
pub plain_tokens : (ts : List Token) (at : ℕ) (text : List ℕ) → Tokens at text ts → ArePlain ts
plain_tokens [] at text d = tt
plain_tokens (t ∷ ts) at text d = (plain_kernel t.kernel d.1.front d.0 d.1.token.spells d.1.short, plain_tokens ts t.span.to d.0 d.2)

-- ---- whole texts

-- The text's tokens are of these kernels.
pub record Lexed (at : ℕ) (text : List ℕ) (ks : List Kernel) : Type 0 where
  pub tokens : List Token
  pub are : Tokens at text tokens
  pub is : kernels tokens ≡ ks

abbrev placed : Kernel → ℕ → ℕ → Token
placed kernel from to = record { kernel = kernel; span = record { from = from; to = to } }

behind_blank : (ks : List Kernel) (x : List ℕ) → Written ks x → (at : ℕ) → Lexed at (32 ∷ x) ks
behind_blank ks x none at = record { tokens = []; are = refl; is = refl }
behind_blank ks x (some kernel front more text s w) at =
    let to = (at + 1) + length front in
    let l = behind_blank more text w to in
    let one = s text in
    record {
      tokens = placed kernel (at + 1) to ∷ l.tokens;
      are = (32 ∷ text, record { blanks = 32 ∷ []; front = front; cut = refl; blank = refl; token = one.0; short = one.1; from = refl; to = refl }, l.are);
      is = (λ i. kernel ∷ l.is i);
    }

-- A text that is written of kernels has such tokens.
pub lexed : (ks : List Kernel) (x : List ℕ) → Written ks x → Lexed 0 x ks
lexed ks x none = record { tokens = []; are = refl; is = refl }
lexed ks x (some kernel front more text s w) =
    let to = length front in
    let l = behind_blank more text w (0 + length front) in
    let one = s text in
    record {
      tokens = placed kernel 0 (0 + length front) ∷ l.tokens;
      are = (32 ∷ text, record { blanks = []; front = front; cut = refl; blank = refl; token = one.0; short = one.1; from = omega arith; to = refl }, l.are);
      is = (λ i. kernel ∷ l.is i);
    }
