-- Texts that are written piece by piece, and that they have a token for each piece.
use Rattle.std.proofs.Common.{◌≡◌, ◌≢◌, ℕ, ◌+◌, ◌≤◌, Bool, true, false, ◌&&◌, ◌||◌, not, ◌==◌, nat_le, Some, List, [], ◌∷◌, ◌++◌, length, get_or, refl, ◌∙◌, ap, arith}
use Rattle.std.specs.List.{list_all, All}
use Rattle.std.specs.Str.{bytes_eq}
use Rattle.std.proofs.lemmas.Bool.{leb-true}
use Rattle.std.proofs.lemmas.List.Sums.{AllPass-from_list_all}
use Rattle.std.proofs.lemmas.Slice.Eq.{bytes_eq-Decides}
use Rattle.sp_base.specs.Limits.{number_limit}
use Rattle.sp_lex.specs.declared.token.Word.{Word}
use Rattle.sp_lex.specs.declared.token.Token.{Token}
use Rattle.sp_lex.specs.declared.token.Kernel.{Kernel}
use Rattle.sp_lex.specs.declared.token.Kernel.TheVariants as k
use Rattle.sp_lex.specs.Spelling.{is_blank, is_letter, is_digit, is_quote, is_name_byte, heads, spelling, mark, doubled, number_of, IsNumber, IsLong, Spells, as_word, as_name, as_whole, as_literal, as_mark, IsToken, Tokens}
use Rattle.sp_lex.specs.Reading.{IsRun, is_mark_byte, is_point, capped}
use Rattle.sp_lex.proofs.Tables.{words, all_words, word_begins, word_all, mark_passes, mark_begins, mark_short}
use Rattle.sp_lex.proofs.Longest.{and_left, and_right, clash, flip, heads_append, digit_no_letter, quote_no_digit, mark_no_digit, name_longest, whole_longest, mark_longest, literal_longest}
use Rattle.sp_lex.proofs.Front.{other_short, whole_short, no_point}

-- A word, a name, a whole number by its digits, a literal by its value, or a mark of one byte.
pub data Piece : Type 0 where
  word : (of : Word) → Piece
  name : (text : List ℕ) → Piece
  whole : (digits : List ℕ) → Piece
  literal : (value : List ℕ) → Piece
  sign : (kernel : Kernel) (byte : ℕ) → mark kernel ≡ Some (byte ∷ []) → Piece

abbrev pub kernel_of : Piece → Kernel
kernel_of (word of) = k.Word of
kernel_of (name text) = k.Name text
kernel_of (whole digits) = k.Whole (number_of digits)
kernel_of (literal value) = k.Literal value
kernel_of (sign kernel byte is) = kernel

abbrev pub bytes_of : Piece → List ℕ
bytes_of (word of) = spelling of
bytes_of (name text) = text
bytes_of (whole digits) = digits
bytes_of (literal value) = 39 ∷ (doubled value ++ 39 ∷ [])
bytes_of (sign kernel byte is) = byte ∷ []

-- whether a byte is the second one of a mark
abbrev pub is_second : ℕ → Bool
is_second b = b == 61 || b == 62

-- whether a text is none of the words
abbrev pub is_no_word : List ℕ → Bool
is_no_word text = list_all (λ w. not (bytes_eq text (spelling w))) words

-- whether a piece is a token in front of this rest, and no long number
abbrev pub fits : Piece → List ℕ → Bool
fits (word of) rest = not (heads is_name_byte rest)
fits (name text) rest = heads is_letter text && (list_all is_name_byte text && (is_no_word text && not (heads is_name_byte rest)))
fits (whole digits) rest = heads is_digit digits && (list_all is_digit digits && (nat_le (number_of digits) number_limit && (not (heads is_digit rest) && not (heads is_point rest))))
fits (literal value) rest = not (heads is_quote rest)
fits (sign kernel byte is) rest = not (heads is_second rest)

-- ---- a piece that fits

-- The piece is a token in front of this rest, and no long number.
record IsFit (piece : Piece) (rest : List ℕ) : Type 0 where
  token : IsToken (kernel_of piece) (bytes_of piece) rest
  short : IsLong (bytes_of piece ++ rest) → ⊥

is_not : (b : Bool) → not b ≡ true → b ≡ false
is_not true h = cc
is_not false h = refl

is_so : (b : Bool) → not b ≡ true → b ≡ true → ⊥
is_so true h so = cc
is_so false h so = cc

letters_fit : (piece : Piece) (rest : List ℕ) → Spells (kernel_of piece) (bytes_of piece) rest → heads is_letter (bytes_of piece) ≡ true → IsRun is_name_byte (bytes_of piece) rest → IsFit piece rest
letters_fit piece rest spells begins run =
    let here : heads is_letter (bytes_of piece ++ rest) ≡ true = heads_append is_letter (bytes_of piece) rest begins in
    record { token = record { spells = spells; longest = name_longest (bytes_of piece) rest here run }; short = other_short is_letter (bytes_of piece ++ rest) digit_no_letter here }

no_word : (text : List ℕ) → is_no_word text ≡ true → (w : Word) → text ≢ spelling w
no_word text all w same =
    let each : All (λ v. not (bytes_eq text (spelling v)) ≡ true) words = AllPass-from_list_all (λ v. not (bytes_eq text (spelling v))) words all in
    let differs : not (bytes_eq text (spelling w)) ≡ true = all_words (λ v. not (bytes_eq text (spelling v)) ≡ true) 24 (omega arith) each w in
    is_so (bytes_eq text (spelling w)) differs ((bytes_eq-Decides text (spelling w)).1 same)

small_capped : (n : ℕ) → n ≤ number_limit → n ≡ capped n
small_capped n small = omega arith

whole_fit : (digits rest : List ℕ) → heads is_digit digits ≡ true → list_all is_digit digits ≡ true → number_of digits ≤ number_limit → heads is_digit rest ≡ false → heads is_point rest ≡ false → IsFit (whole digits) rest
whole_fit digits rest begins all small stops no_part =
    let number : IsNumber digits = record { some = λ none. clash (heads is_digit digits) begins (ap (heads is_digit) none); all = all } in
    let here : heads is_digit (digits ++ rest) ≡ true = heads_append is_digit digits rest begins in
    let run : IsRun is_digit digits rest = record { all = all; stops = stops } in
    record {
      token = record { spells = as_whole refl number; longest = whole_longest digits rest here run (no_point rest no_part) };
      short = whole_short (digits ++ rest) digits rest (number_of digits) refl run (small_capped (number_of digits) small) small (no_point rest no_part);
    }

literal_fit : (value rest : List ℕ) → heads is_quote rest ≡ false → IsFit (literal value) rest
literal_fit value rest closed =
    let front = 39 ∷ (doubled value ++ 39 ∷ []) in
    record {
      token = record { spells = as_literal value refl refl closed; longest = literal_longest ((doubled value ++ 39 ∷ []) ++ rest) front rest value refl refl closed };
      short = other_short is_quote (front ++ rest) (flip is_quote is_digit quote_no_digit) refl;
    }

-- a mark of more bytes goes on with a second one
longer_mark : (byte : ℕ) (rest : List ℕ) → heads is_second rest ≡ false → (kernel : Kernel) (front behind : List ℕ) → byte ∷ rest ≡ front ++ behind → mark kernel ≡ Some front → length front ≤ 1
longer_mark byte rest stops kernel [] behind cut is = omega arith
longer_mark byte rest stops kernel (b ∷ []) behind cut is = omega arith
longer_mark byte rest stops kernel (b ∷ c ∷ []) behind cut is =
    let second : is_second c ≡ true = mark_passes (λ f. nat_le (length f) 1 || is_second (get_or f 1 0)) refl kernel (b ∷ c ∷ []) is in
    let goes_on : rest ≡ c ∷ behind = cc in
    absurd (clash (heads is_second rest) (ap (heads is_second) goes_on ∙ second) stops)
longer_mark byte rest stops kernel (b ∷ c ∷ d ∷ front) behind cut is = absurd (let short : length (b ∷ c ∷ d ∷ front) ≤ 2 = mark_short kernel (b ∷ c ∷ d ∷ front) is in omega arith)

sign_fit : (kernel : Kernel) (byte : ℕ) (is : mark kernel ≡ Some (byte ∷ [])) (rest : List ℕ) → heads is_second rest ≡ false → IsFit (sign kernel byte is) rest
sign_fit kernel byte is rest stops =
    let here : heads is_mark_byte (byte ∷ rest) ≡ true = mark_begins kernel (byte ∷ []) is in
    record {
      token = record { spells = as_mark is; longest = mark_longest (byte ∷ []) rest (byte ∷ rest) refl here (longer_mark byte rest stops) };
      short = other_short is_mark_byte (byte ∷ rest) (flip is_mark_byte is_digit mark_no_digit) here;
    }

fit : (piece : Piece) (rest : List ℕ) → fits piece rest ≡ true → IsFit piece rest
fit (word of) rest h = letters_fit (word of) rest (as_word of refl refl) (word_begins of) (record { all = word_all of; stops = is_not (heads is_name_byte rest) h })
fit (name text) rest h =
    let begins : heads is_letter text ≡ true = and_left _ _ h in
    let more : (list_all is_name_byte text && (is_no_word text && not (heads is_name_byte rest))) ≡ true = and_right _ _ h in
    let all : list_all is_name_byte text ≡ true = and_left _ _ more in
    let last : (is_no_word text && not (heads is_name_byte rest)) ≡ true = and_right _ _ more in
    letters_fit (name text) rest (as_name refl (record { begins = begins; all = all }) (no_word text (and_left _ _ last))) begins (record { all = all; stops = is_not (heads is_name_byte rest) (and_right _ _ last) })
fit (whole digits) rest h =
    let more : (list_all is_digit digits && (nat_le (number_of digits) number_limit && (not (heads is_digit rest) && not (heads is_point rest)))) ≡ true = and_right _ _ h in
    let last : (nat_le (number_of digits) number_limit && (not (heads is_digit rest) && not (heads is_point rest))) ≡ true = and_right _ _ more in
    let stops : (not (heads is_digit rest) && not (heads is_point rest)) ≡ true = and_right _ _ last in
    whole_fit digits rest (and_left _ _ h) (and_left _ _ more) (leb-true (number_of digits) number_limit (and_left _ _ last)) (is_not (heads is_digit rest) (and_left _ _ stops)) (is_not (heads is_point rest) (and_right _ _ stops))
fit (literal value) rest h = literal_fit value rest (is_not (heads is_quote rest) h)
fit (sign kernel byte is) rest h = sign_fit kernel byte is rest (is_not (heads is_second rest) h)

-- ---- texts

-- pieces, each behind its blanks
abbrev pub text_of : List (List ℕ × Piece) → List ℕ
text_of [] = []
text_of (p ∷ ps) = p.0 ++ (bytes_of p.1 ++ text_of ps)

-- the tokens that they are where the first one's blanks begin at this place
abbrev pub tokens_at : ℕ → List (List ℕ × Piece) → List Token
tokens_at at [] = []
tokens_at at (p ∷ ps) =
    let from = at + length p.0 in
    let to = from + length (bytes_of p.1) in
    record { kernel = kernel_of p.1; span = record { from = from; to = to } } ∷ tokens_at to ps

-- whether each piece fits in front of those behind it
abbrev pub all_fit : List (List ℕ × Piece) → Bool
all_fit [] = true
all_fit (p ∷ ps) = list_all is_blank p.0 && (fits p.1 (text_of ps) && all_fit ps)

-- Then the text has these tokens.
pub tokens_of : (at : ℕ) (pieces : List (List ℕ × Piece)) → all_fit pieces ≡ true → Tokens at (text_of pieces) (tokens_at at pieces)
tokens_of at [] h = refl
tokens_of at (p ∷ ps) h =
    let more : (fits p.1 (text_of ps) && all_fit ps) ≡ true = and_right _ _ h in
    let one = fit p.1 (text_of ps) (and_left _ _ more) in (
      text_of ps,
      record { blanks = p.0; front = bytes_of p.1; cut = refl; blank = and_left _ _ h; token = one.token; short = one.short; from = refl; to = refl },
      tokens_of ((at + length p.0) + length (bytes_of p.1)) ps (and_right _ _ more),
    )
