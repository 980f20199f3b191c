-- How tokens are spelled, and which tokens a text has.
use Rattle.std.specs.Prelude.{◌≡◌, ◌≢◌, ℕ, ◌+◌, ◌-◌, ◌*◌, ◌≤◌, ◌<◌, ◌⊎◌, Bool, true, false, ◌&&◌, ◌||◌, ◌==◌, nat_le, Option, Some, None, List, [], ◌∷◌, ◌++◌, length, codes, if◌then◌else◌}
use Rattle.std.specs.List.{list_all, fold}
use Rattle.sp_base.specs.Limits.{number_limit}
use Rattle.sp_lex.specs.declared.token.Word.{Word}
use Rattle.sp_lex.specs.declared.token.Word.TheVariants as w
use Rattle.sp_lex.specs.declared.token.Kernel.{Kernel}
use Rattle.sp_lex.specs.declared.token.Kernel.TheVariants as k
use Rattle.sp_lex.specs.declared.token.Token.{Token}
use Rattle.sp_lex.specs.declared.token.LexFault.{LexFault}
use Rattle.sp_lex.specs.declared.token.LexFault.TheVariants as fault

-- ---- bytes

-- whether a byte is a blank, a tab, a CR or a LF
abbrev pub is_blank : ℕ → Bool
is_blank b = b == 32 || (b == 9 || (b == 13 || b == 10))

-- whether a byte is an ASCII letter or `_`
abbrev pub is_letter : ℕ → Bool
is_letter b = b == 95 || (nat_le 65 b && nat_le b 90) || (nat_le 97 b && nat_le b 122)

-- whether a byte is a digit
abbrev pub is_digit : ℕ → Bool
is_digit b = nat_le 48 b && nat_le b 57

-- whether a byte may stand in a name behind its first one
abbrev pub is_name_byte : ℕ → Bool
is_name_byte b = is_letter b || is_digit b

-- whether a byte is a quote
abbrev pub is_quote : ℕ → Bool
is_quote b = b == 39

-- whether there is a first byte and it is such
abbrev pub heads : (ℕ → Bool) → List ℕ → Bool
heads p [] = false
heads p (b ∷ bs) = p b

-- ---- spellings

-- how each word is written
abbrev pub spelling : Word → List ℕ
spelling w.Event = codes "EVENT"
spelling w.Time = codes "TIME"
spelling w.Pattern = codes "PATTERN"
spelling w.Define = codes "DEFINE"
spelling w.As = codes "AS"
spelling w.Within = codes "WITHIN"
spelling w.Events = codes "EVENTS"
spelling w.From = codes "FROM"
spelling w.Every = codes "EVERY"
spelling w.When = codes "WHEN"
spelling w.Select = codes "SELECT"
spelling w.First = codes "FIRST"
spelling w.Last = codes "LAST"
spelling w.Each = codes "EACH"
spelling w.Consume = codes "CONSUME"
spelling w.All = codes "ALL"
spelling w.None = codes "NONE"
spelling w.Set = codes "SET"
spelling w.Int = codes "INT"
spelling w.Dec = codes "DEC"
spelling w.Text = codes "TEXT"
spelling w.And = codes "AND"
spelling w.Or = codes "OR"
spelling w.Not = codes "NOT"

-- how each mark is written
abbrev pub mark : Kernel → Option (List ℕ)
mark k.LeftRound = Some (codes "(")
mark k.RightRound = Some (codes ")")
mark k.LeftSquare = Some (codes "[")
mark k.RightSquare = Some (codes "]")
mark k.Comma = Some (codes ",")
mark k.Dot = Some (codes ".")
mark k.Plus = Some (codes "+")
mark k.Minus = Some (codes "-")
mark k.Star = Some (codes "*")
mark k.Bang = Some (codes "!")
mark k.Equal = Some (codes "=")
mark k.Unequal = Some (codes "<>")
mark k.Less = Some (codes "<")
mark k.AtMost = Some (codes "<=")
mark k.Greater = Some (codes ">")
mark k.AtLeast = Some (codes ">=")
mark _ = None

-- A name is a letter and then letters and digits.
pub record IsName (bytes : List ℕ) : Type 0 where
  pub begins : heads is_letter bytes ≡ true
  pub all : list_all is_name_byte bytes ≡ true

-- A number is one or more digits.
pub record IsNumber (digits : List ℕ) : Type 0 where
  pub some : digits ≢ []
  pub all : list_all is_digit digits ≡ true

-- the number that digits write
abbrev pub number_of : List ℕ → ℕ
number_of digits = fold (λ n b. n * 10 + (b - 48)) 0 digits

-- a text with each quote written twice
abbrev pub doubled : List ℕ → List ℕ
doubled [] = []
doubled (b ∷ bs) = if is_quote b then 39 ∷ 39 ∷ doubled bs else b ∷ doubled bs

-- A kernel is spelled by a front of a text; what follows matters only to a literal, which no quote follows.
pub data Spells (kernel : Kernel) (front rest : List ℕ) : Type 0 where
  as_word : (word : Word) → kernel ≡ k.Word word → front ≡ spelling word → Spells kernel front rest
  as_name : kernel ≡ k.Name front → IsName front → ((word : Word) → front ≢ spelling word) → Spells kernel front rest
  as_whole : kernel ≡ k.Whole (number_of front) → IsNumber front → Spells kernel front rest
  as_decimal : (whole part : List ℕ) → kernel ≡ k.Decimal (number_of (whole ++ part)) (length part) → front ≡ whole ++ 46 ∷ part → IsNumber whole → IsNumber part → length part ≤ 6 → Spells kernel front rest
  as_literal : (value : List ℕ) → kernel ≡ k.Literal value → front ≡ 39 ∷ (doubled value ++ 39 ∷ []) → heads is_quote rest ≡ false → Spells kernel front rest
  as_mark : mark kernel ≡ Some front → Spells kernel front rest

-- No longer front is a token's spelling.
abbrev pub IsLongest : List ℕ → List ℕ → Type 0
IsLongest front rest = (kernel : Kernel) (f r : List ℕ) → front ++ rest ≡ f ++ r → Spells kernel f r → length f ≤ length front

-- The front of a text is spelled as this token, and no longer front is a token.
pub record IsToken (kernel : Kernel) (front rest : List ℕ) : Type 0 where
  pub spells : Spells kernel front rest
  pub longest : IsLongest front rest

-- No token is in front.
abbrev pub HasNone : List ℕ → Type 0
HasNone text = (kernel : Kernel) (f r : List ℕ) → text ≡ f ++ r → Spells kernel f r → ⊥

-- the decimals of a number, with their point where there are some
abbrev pub pointed : List ℕ → List ℕ
pointed [] = []
pointed (d ∷ ds) = 46 ∷ d ∷ ds

-- A number is in front that has more than six decimals, or that passes 10^15 when its digits are read without the point.
pub record IsLong (text : List ℕ) : Type 0 where
  pub whole : List ℕ
  pub part : List ℕ
  pub rest : List ℕ
  pub cut : text ≡ whole ++ (pointed part ++ rest)
  pub is_whole : IsNumber whole
  pub is_part : list_all is_digit part ≡ true
  pub long : (6 < length part) ⊎ (number_limit < number_of (whole ++ part))

-- ---- texts

-- Blanks, and then this token at its place, in front of the rest.
pub record Next (at : ℕ) (text : List ℕ) (t : Token) (rest : List ℕ) : Type 0 where
  pub blanks : List ℕ
  pub front : List ℕ
  pub cut : text ≡ blanks ++ (front ++ rest)
  pub blank : list_all is_blank blanks ≡ true
  pub token : IsToken t.kernel front rest
  pub short : IsLong (front ++ rest) → ⊥
  pub from : t.span.from ≡ at + length blanks
  pub to : t.span.to ≡ t.span.from + length front

-- The text is these tokens, parted by blanks, and no number of it is long.
abbrev pub Tokens : ℕ → List ℕ → List Token → Type 0
Tokens at text [] = list_all is_blank text ≡ true
Tokens at text (t ∷ ts) = (m : List ℕ) × Next at text t m × Tokens t.span.to m ts

-- These tokens lead from a place and a text to a place and the rest of the text.
abbrev pub Reaches : ℕ → List ℕ → List Token → ℕ → List ℕ → Type 0
Reaches at text [] end rest = (at ≡ end) × (text ≡ rest)
Reaches at text (t ∷ ts) end rest = (m : List ℕ) × Next at text t m × Reaches t.span.to m ts end rest

-- Up to a place the text is tokens and blanks, and then this is left.
pub record Gets (text : List ℕ) (at : ℕ) (rest : List ℕ) : Type 0 where
  pub tokens : List Token
  pub place : ℕ
  pub blanks : List ℕ
  pub reaches : Reaches 0 text tokens place (blanks ++ rest)
  pub blank : list_all is_blank blanks ≡ true
  pub at_is : at ≡ place + length blanks

-- What a fault says of a text, up to which all is tokens and blanks.
abbrev pub Refuses : List ℕ → LexFault → Type 0
Refuses text fault.Memory = Unit {0}
Refuses text (fault.BadCharacter at) = (rest : List ℕ) × (rest ≢ []) × Gets text at rest × (heads is_blank rest ≡ false) × (heads is_quote rest ≡ false) × HasNone rest
Refuses text (fault.OpenText at) = (rest : List ℕ) × Gets text at rest × (heads is_quote rest ≡ true) × HasNone rest
Refuses text (fault.LongNumber at) = (rest : List ℕ) × Gets text at rest × IsLong rest
