-- The generated rows: the numbers that they are made of, and how each is written.
use Rattle.std.specs.Prelude.{ℕ, zero, suc, ◌+◌, ◌*◌, ◌/◌, ◌%◌, ◌^◌, List, ◌∷◌, ◌++◌, map, codes, ◌==◌, if◌then◌else◌}
use Rattle.std.specs.List.{flat_map, range_with_len}
use Rattle.std.specs.Fmt.{decimal}

-- the number that is drawn behind this one
abbrev pub next : ℕ → ℕ
next x = (1664525 * x + 1013904223) % 2 ^ 32

-- the number that is drawn for an event; the seed stands in front of the first one's
abbrev pub drawn : ℕ → ℕ → ℕ
drawn seed zero = seed
drawn seed (suc event) = next (drawn seed event)

-- the upper 16 bits of a number
abbrev pub upper : ℕ → ℕ
upper x = x / 65536

-- the symbol of a quarter of the numbers of 16 bits
abbrev pub symbol : ℕ → List ℕ
symbol quarter =
    if quarter == 0 then codes "AA"
    else if quarter == 1 then codes "BB"
    else if quarter == 2 then codes "CC"
    else codes "DD"

-- a price of so many hundredths, with two decimals, and two zeros more
abbrev pub price_text : ℕ → List ℕ
price_text hundredths =
    decimal (hundredths / 100) ++ codes "." ++ decimal (hundredths / 10 % 10) ++ decimal (hundredths % 10) ++ codes "00"

-- the row of an event: its number, its symbol, its price from 100 to 140.95, and 100, with commas between them
abbrev pub row_text : ℕ → ℕ → List ℕ
row_text event x =
    decimal event ++ codes "," ++ symbol (upper x / 16384) ++ codes "," ++ price_text (10000 + upper x % 4096) ++ codes ",100"

-- the lines of so many events: the header, and a row for each event from 1 on
abbrev pub lines : ℕ → ℕ → List (List ℕ)
lines events seed = codes "at,sym,price,size" ∷ map (λ event. row_text event (drawn seed event)) (range_with_len 1 events)

-- the text of so many events drawn from a seed: its lines, each with a line feed
abbrev pub generated : ℕ → ℕ → List ℕ
generated events seed = flat_map (λ line. line ++ codes "\n") (lines events seed)
