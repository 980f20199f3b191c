-- What stands in front of a text, where a line is read from its start on.
use Rattle.std.specs.Prelude.{◌≡◌, ◌≢◌, ℕ, ◌+◌, ◌-◌, ◌*◌, ◌<◌, ◌≤◌, ◌^◌, Bool, false, true, ◌&&◌, ◌||◌, not, List, [], ◌∷◌, ◌++◌, Option, Some, None, ◌==◌, nat_le, codes}
use Rattle.std.specs.List.{All, fold, list_all, flat_map}
use Rattle.std.specs.Fmt.{decimal}
use Rattle.sp_base.specs.Commas.{commas, list_text}
use Rattle.sp_plan.specs.declared.plan.Plan.{Plan}
use Rattle.sp_plan.specs.Lines.{binding_text}
use Rattle.sp_emit.specs.Matches.{ArePlaces, BindsNames}

-- whether the first byte of a text is one of these
abbrev pub heads : (ℕ → Bool) → List ℕ → Bool
heads p [] = false
heads p (b ∷ bs) = p b

abbrev pub is_digit : ℕ → Bool
is_digit b = nat_le 48 b && nat_le b 57

-- whether a byte goes on with a list of numbers: a digit or a comma
abbrev pub goes_on : ℕ → Bool
goes_on b = is_digit b || b == 44

-- the number with one digit more
abbrev pub with_digit : ℕ → ℕ → ℕ
with_digit n b = n * 10 + (b - 48)

-- the number that digits write
abbrev pub digits_value : List ℕ → ℕ
digits_value digits = fold with_digit 0 digits

-- whether digits are written as a number is: at least one, and no zero before another
abbrev pub is_plain : List ℕ → Bool
is_plain [] = false
is_plain (b ∷ []) = true
is_plain (b ∷ c ∷ bs) = not (b == 48)

-- The text begins with all its digits up to the first byte that is none.
pub record DigitsAt (text front rest : List ℕ) : Type 0 where
  pub cut : text ≡ front ++ rest
  pub all : list_all is_digit front ≡ true
  pub ends : heads is_digit rest ≡ false

-- The text begins with a number that is at most this.
pub record NumberAt (most : ℕ) (text : List ℕ) (n : ℕ) (rest : List ℕ) : Type 0 where
  pub within : n ≤ most
  pub cut : text ≡ decimal n ++ rest
  pub ends : heads is_digit rest ≡ false

-- The text begins with a label and such a number.
pub record LabelledAt (label : List ℕ) (most : ℕ) (text : List ℕ) (n : ℕ) (rest : List ℕ) : Type 0 where
  pub within : n ≤ most
  pub cut : text ≡ label ++ (decimal n ++ rest)
  pub ends : heads is_digit rest ≡ false

-- The text begins with numbers joined by commas, one or more, each below 2^32.
pub record NumbersAt (text ns rest : List ℕ) : Type 0 where
  pub some : ns ≢ []
  pub small : All (λ n. n < 2 ^ 32) ns
  pub cut : text ≡ commas ns ++ rest
  pub ends : heads goes_on rest ≡ false

-- The text begins with numbers of events joined by commas, one or more.
pub record PlacesAt (text ns rest : List ℕ) : Type 0 where
  pub some : ns ≢ []
  pub are : ArePlaces ns
  pub cut : text ≡ commas ns ++ rest
  pub ends : heads goes_on rest ≡ false

-- The text begins with a blank, this name and its events.
pub record BindingAt (name text ns rest : List ℕ) : Type 0 where
  pub some : ns ≢ []
  pub are : ArePlaces ns
  pub cut : text ≡ codes " " ++ (name ++ (codes "=" ++ (commas ns ++ rest)))
  pub ends : heads goes_on rest ≡ false

-- The text begins with each name of the plan that isn't negated and its events; behind them the consumed numbers are announced.
pub record BindingsAt (q : Plan) (text : List ℕ) (bound : List (ℕ × List ℕ)) (rest : List ℕ) : Type 0 where
  pub binds : BindsNames q bound
  pub names : All (λ pair. pair.0 < 2 ^ 8) bound
  pub are : All (λ pair. ArePlaces pair.1) bound
  pub cut : text ≡ flat_map (binding_text q) bound ++ (codes " used=" ++ rest)

-- The text is the consumed numbers and a line feed.
pub record UsedIs (text ns : List ℕ) : Type 0 where
  pub are : ArePlaces ns
  pub is : text ≡ list_text ns ++ codes "\n"

-- what a function answers that reads something from the front of a text: it and the rest, None exactly where nothing such is there
abbrev pub Answers : {Y A : Type 0} → (A → List ℕ → Type 0) → (Y → A × List ℕ) → Option Y → Type 0
Answers L view None = (a : _) (rest : List ℕ) → L a rest → ⊥
Answers L view (Some y) = L (view y).0 (view y).1
