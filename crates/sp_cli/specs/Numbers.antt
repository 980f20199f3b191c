-- Which texts are numbers of a word, and which numbers options say.
use Rattle.std.specs.Prelude.{ℕ, Bool, List, [], ◌∷◌, Option, Some, None, ◌&&◌, length, nat_lt, nat_le, if◌then◌else◌, codes}
use Rattle.std.specs.Str.{all_ascii_digits}
use Rattle.std.specs.Str.Parse.{digits_value}
use Rattle.sp_base.specs.Limits.{live_limit, batch_limit, rotate_limit, number_limit}

-- one to so many digits, and nothing else
abbrev pub is_numeral : ℕ → List ℕ → Bool
is_numeral digits text = nat_lt 0 (length text) && (nat_le (length text) digits && all_ascii_digits text)

abbrev pub is_between : ℕ → ℕ → ℕ → Bool
is_between least greatest n = nat_le least n && nat_le n greatest

-- the number of one to so many digits, from the least to the greatest, that the text writes
abbrev pub number : ℕ → ℕ → ℕ → List ℕ → Option ℕ
number digits least greatest text =
    if is_numeral digits text && is_between least greatest (digits_value 10 text) then Some (digits_value 10 text) else None

-- A number that an option says: the option's name, how many digits it may have, the least and the greatest that it may be, and what it is where
-- the option is left out.
pub record NumberOption : Type 0 where
  pub name : List ℕ
  pub digits : ℕ
  pub least : ℕ
  pub greatest : ℕ
  pub left_out : ℕ

-- how many versions may be live
abbrev pub live_number : NumberOption
live_number = record { name = codes "live"; digits = 10; least = 1; greatest = live_limit; left_out = 64 }

-- the numbers that say how a run works
abbrev pub speed_numbers : List NumberOption
speed_numbers =
    record { name = codes "instances"; digits = 10; least = 0; greatest = 16; left_out = 2 }
    ∷ live_number
    ∷ record { name = codes "batch"; digits = 10; least = 1; greatest = batch_limit; left_out = 64 }
    ∷ record { name = codes "rotate"; digits = 10; least = 0; greatest = rotate_limit; left_out = 0 }
    ∷ []

-- how far behind the greatest time before it an event may come
abbrev pub slack_number : NumberOption
slack_number = record { name = codes "slack"; digits = 16; least = 0; greatest = number_limit; left_out = 0 }

-- how many trees a run has
abbrev pub trees_number : NumberOption
trees_number = record { name = codes "trees"; digits = 10; least = 1; greatest = 16; left_out = 1 }

-- the number that the text of such an option says
abbrev pub number_said : NumberOption → Option (List ℕ) → Option ℕ
number_said one None = Some one.left_out
number_said one (Some text) = number one.digits one.least one.greatest text

abbrev pub put_number : Option ℕ → Option (List ℕ) → Option (List ℕ)
put_number (Some n) (Some numbers) = Some (n ∷ numbers)
put_number _ _ = None

-- the numbers that such options say, by the text that stands for each name, or none where one of them says none
abbrev pub numbers_said : (List ℕ → Option (List ℕ)) → List NumberOption → Option (List ℕ)
numbers_said text_of [] = Some []
numbers_said text_of (one ∷ others) = put_number (number_said one (text_of one.name)) (numbers_said text_of others)
