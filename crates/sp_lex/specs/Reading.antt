-- What the functions that read one token promise.
use Rattle.std.specs.Prelude.{◌≡◌, ℕ, ◌+◌, ◌-◌, ◌*◌, min, Bool, true, false, ◌||◌, ◌==◌, List, ◌∷◌, ◌++◌}
use Rattle.std.specs.List.{list_all, fold}
use Rattle.sp_base.specs.Limits.{past_number_limit}
use Rattle.sp_lex.specs.declared.token.Kernel.{Kernel}
use Rattle.sp_lex.specs.declared.fault.Fault.{Fault}
use Rattle.sp_lex.specs.declared.fault.Fault.TheVariants as f
use Rattle.sp_lex.specs.Spelling.{heads, is_quote, doubled, IsToken, IsLong, HasNone}

-- The front is all such bytes, and the rest doesn't begin with one.
pub record IsRun (p : ℕ → Bool) (front rest : List ℕ) : Type 0 where
  pub all : list_all p front ≡ true
  pub stops : heads p rest ≡ false

-- The text is a token and then the rest.
pub record Reads (text : List ℕ) (kernel : Kernel) (rest : List ℕ) : Type 0 where
  pub front : List ℕ
  pub cut : text ≡ front ++ rest
  pub token : IsToken kernel front rest

-- Behind its first quote the text is a literal of this value and then the rest.
pub record Inside (text : List ℕ) (value rest : List ℕ) : Type 0 where
  pub cut : text ≡ doubled value ++ 39 ∷ rest
  pub closed : heads is_quote rest ≡ false

-- What a fault says of the text that it is in front of.
abbrev pub Stops : List ℕ → Fault → Type 0
Stops text f.Memory = Unit {0}
Stops text f.BadCharacter = (heads is_quote text ≡ false) × HasNone text
Stops text f.OpenText = (heads is_quote text ≡ true) × HasNone text
Stops text f.LongNumber = IsLong text

-- whether a byte is a point
abbrev pub is_point : ℕ → Bool
is_point b = b == 46

-- whether a byte is a mark's first one
abbrev pub is_mark_byte : ℕ → Bool
is_mark_byte b = b == 40 || (b == 41 || (b == 91 || (b == 93 || (b == 44 || (b == 46 || (b == 43 || (b == 45 || (b == 42 || (b == 33 || (b == 61 || (b == 60 || b == 62)))))))))))

-- the number with one more digit
abbrev pub with_digit : ℕ → ℕ → ℕ
with_digit n b = n * 10 + (b - 48)

-- a number, or the first past 10^15 where it is past it
abbrev pub capped : ℕ → ℕ
capped n = min n past_number_limit

-- the number with more digits, or the first past 10^15
abbrev pub with_more : ℕ → List ℕ → ℕ
with_more n digits = capped (fold with_digit n digits)
