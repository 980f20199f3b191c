-- The rows of a table, and what each gives under a drill's plan.
use Rattle.std.proofs.Common.{◌≡◌, ◌<◌, ◌≤◌, ◌+◌, ◌/◌, ◌%◌, ◌^◌, ◌==◌, ℕ, pos, true, false, Bool, List, [], ◌∷◌, ◌++◌, length, map, Some, None, refl, sym, ◌∙◌, ap, arith, append_assoc}
use Rattle.std.specs.Prelude.{codes, if◌then◌else◌, slice_get, int_lt, is_none, find}
use Rattle.std.specs.List.{enumerate_from, zip, filter_map, cons_option}
use Rattle.std.specs.Fmt.{decimal}
use Rattle.std.specs.Str.{is_utf8, chars}
use Rattle.std.proofs.lemmas.Bool.Decides.{nat_tests}
use Rattle.std.proofs.lemmas.Fmt.{decimal_nonempty}
use Rattle.std.proofs.lemmas.Int.{ints}
use Rattle.std.proofs.lemmas.List.Elements.{All-nil, All-cons, All-weaker}
use Rattle.csv.specs.Machine.{next_record}
use Rattle.csv.specs.Reading.{strip_bom}
use Rattle.sp_base.specs.Limits.{number_limit}
use Rattle.sp_plan.specs.declared.event.Event.{Event}
use Rattle.sp_plan.specs.declared.plan.Column.{Column}
use Rattle.sp_plan.specs.declared.plan.Kind.TheVariants.{Int, Dec, Text}
use Rattle.sp_plan.specs.declared.plan.Plan.{Plan}
use Rattle.sp_rows.specs.declared.fault.RowKind.TheVariants.{BackInTime}
use Rattle.sp_rows.specs.Cells.{one, row_cells}
use Rattle.sp_rows.specs.Rows.{RowsRead, RowResult, nothing, event, number, text, or_bad, not_negative, cell_of, ColumnAt, is_place, columns_at, fault_in, first_fault, number_in, time_of, time_place, values_of, refused_at, event_or_fault, place_of, header_or_fault, row_of_cells, by_cells, row_result, start}
use Rattle.sp_gen.specs.Generated.{upper, symbol, price_text, row_text}
use Rattle.sp_drill.specs.Drill.{IsDrillSchema}
use Rattle.sp_drill.proofs.Fields.{IsOfWord, IsWord, AreWords, four_cells}
use Rattle.sp_drill.proofs.Numbers.{IsDigit, IsOfNumber, digit_of_number, digits_of, whole_number, price_bytes, price_number}

-- ---- the cells of a row

-- the cells of an event's row
abbrev cells_of : ℕ → ℕ → List (List ℕ)
cells_of n x = decimal n ∷ symbol (upper x / 16384) ∷ price_text (10000 + upper x % 4096) ∷ codes "100" ∷ []

grouped : (a b c d e f : List ℕ) → a ++ b ++ c ++ d ++ e ++ f ≡ a ++ (b ++ (c ++ (d ++ (e ++ f))))
grouped a b c d e f =
    append_assoc (a ++ b ++ c ++ d) e f
    ∙ append_assoc (a ++ b ++ c) d (e ++ f)
    ∙ append_assoc (a ++ b) c (d ++ (e ++ f))
    ∙ append_assoc a b (c ++ (d ++ (e ++ f)))

word_of_number : (b : ℕ) → IsOfNumber b → IsOfWord b
word_of_number b (low, high) = (omega arith, omega arith)

-- a symbol is a word and a text
record IsSymbol (bytes : List ℕ) : Type 0 where
  word : IsWord bytes
  some : 0 < length bytes
  encoded : is_utf8 bytes ≡ true

two_letters : (a b : ℕ) → IsOfWord a → IsOfWord b → is_utf8 (a ∷ b ∷ []) ≡ true → IsSymbol (a ∷ b ∷ [])
two_letters a b first second encoded = record {
  word = All-cons IsOfWord a (b ∷ []) first (All-cons IsOfWord b [] second (All-nil IsOfWord));
  some = omega arith;
  encoded = encoded;
}

symbol_is : (quarter : ℕ) → IsSymbol (symbol quarter)
unfolding is_utf8 chars lib.Utf8.encode
symbol_is quarter = by (quarter == 0) (quarter == 1) (quarter == 2)
  where
    by : (first second third : Bool) → IsSymbol (if first then codes "AA" else (if second then codes "BB" else (if third then codes "CC" else codes "DD")))
    by true second third = two_letters 65 65 (omega arith, omega arith) (omega arith, omega arith) refl
    by false true third = two_letters 66 66 (omega arith, omega arith) (omega arith, omega arith) refl
    by false false true = two_letters 67 67 (omega arith, omega arith) (omega arith, omega arith) refl
    by false false false = two_letters 68 68 (omega arith, omega arith) (omega arith, omega arith) refl

size_word : IsWord (codes "100")
size_word =
    let digit : IsOfWord 48 = (omega arith, omega arith) in
    All-cons IsOfWord 49 (48 ∷ 48 ∷ []) (omega arith, omega arith) (All-cons IsOfWord 48 (48 ∷ []) digit (All-cons IsOfWord 48 [] digit (All-nil IsOfWord)))

row_words : (n x : ℕ) → n < 2 ^ 64 → AreWords (decimal n) (symbol (upper x / 16384)) (price_text (10000 + upper x % 4096)) (codes "100")
row_words n x fits =
    let named = symbol_is (upper x / 16384) in
    let price = price_bytes (10000 + upper x % 4096) (omega arith) in
    let digits = All-weaker IsDigit IsOfNumber digit_of_number (decimal n) (digits_of n fits) in
    record {
      words = (All-weaker IsOfNumber IsOfWord word_of_number (decimal n) digits, named.word, All-weaker IsOfNumber IsOfWord word_of_number (price_text (10000 + upper x % 4096)) price.0, size_word);
      some = (decimal_nonempty n fits, named.some, price.1, omega arith);
    }

-- a row of a table has these cells
row_has : (n x : ℕ) → n < 2 ^ 64 → row_cells (row_text n x) ≡ one (cells_of n x)
row_has n x fits =
    let s = symbol (upper x / 16384) in
    let p = price_text (10000 + upper x % 4096) in
    ap row_cells (grouped (decimal n) (codes ",") s (codes ",") p (codes ",100"))
    ∙ four_cells (decimal n) s p (codes "100") (row_words n x fits)

-- ---- what they give

-- the columns of a drill's plan, at the places of a table's cells
abbrev drill_at : List ColumnAt
drill_at =
    record { is_time = true; kind = Int; place = 0 } ∷ record { is_time = false; kind = Text; place = 1 } ∷ record { is_time = false; kind = Dec 2; place = 2 } ∷ []

columns_there : (q : Plan) → IsDrillSchema q → columns_at q (0 ∷ 1 ∷ 2 ∷ []) ≡ drill_at
columns_there q has = λ i.
    map (λ (x : ℕ × (Column × ℕ)). record { is_time = is_place (has.time i) x.0; kind = x.1.0.kind; place = x.1.1 }) (enumerate_from 0 (zip (has.columns i) (0 ∷ 1 ∷ 2 ∷ [])))

-- cells that give a time, a text and a number
record AreGood (n h : ℕ) (at sym price : List ℕ) : Type 0 where
  time : cell_of true Int at ≡ number (pos n)
  named : cell_of false Text sym ≡ text sym
  priced : cell_of false (Dec 2) price ≡ number (pos h)

cells_good : (n x : ℕ) → n ≤ number_limit → AreGood n (10000 + upper x % 4096) (decimal n) (symbol (upper x / 16384)) (price_text (10000 + upper x % 4096))
cells_good n x small =
    let from_zero : int_lt (pos n) (pos 0) ≡ false = grind (arith, nat_tests, ints) in
    let named = symbol_is (upper x / 16384) in
    record {
      time = ap not_negative (whole_number n small) ∙ rw from_zero refl;
      named = rw named.encoded refl;
      priced = ap or_bad (price_number (10000 + upper x % 4096) (omega arith));
    }

-- no fault is among such cells
no_fault : (n h : ℕ) (at sym price size : List ℕ) → AreGood n h at sym price → first_fault (at ∷ sym ∷ price ∷ size ∷ []) drill_at ≡ None
no_fault n h at sym price size good = λ i.
    slice_get (cons_option (fault_in 0 (good.time i)) (cons_option (fault_in 1 (good.named i)) (cons_option (fault_in 2 (good.priced i)) []))) 0

-- what a row with these cells leaves, and its event
abbrev event_of : RowsRead → List (List ℕ) → Event
event_of r cells = record { time = time_of cells drill_at; values = (values_of r.texts cells drill_at).0 }

abbrev behind : RowsRead → List (List ℕ) → RowsRead
behind r cells = record r { read = r.read + 1; last = time_of cells drill_at; texts = (values_of r.texts cells drill_at).1 }

-- what a row gives behind a header
pub record GivesEvent (n : ℕ) (r : RowsRead) (result : RowResult) : Type 0 where
  pub event_given : Event
  pub new : RowsRead
  pub is : result ≡ event event_given new
  pub time : event_given.time ≡ pos n
  pub last : new.last ≡ pos n
  pub read : new.read ≡ r.read + 1
  pub places : new.places ≡ r.places

pub row_gives : (q : Plan) (r : RowsRead) (n m x : ℕ) → IsDrillSchema q → r.places ≡ Some (0 ∷ 1 ∷ 2 ∷ []) → r.last ≡ pos m → m ≤ n → n ≤ number_limit → GivesEvent n r (row_result q r (row_text n x))
row_gives q r n m x has places last rises small =
    let good = cells_good n x small in
    let time : time_of (cells_of n x) drill_at ≡ pos n = ap number_in good.time in
    let in_time : int_lt (pos n) (pos m) ≡ false = grind (arith, nat_tests, ints, rises) in
    let on_time : int_lt (time_of (cells_of n x) drill_at) r.last ≡ false = (λ i. int_lt (time i) (last i)) ∙ in_time in
    record {
      event_given = event_of r (cells_of n x);
      new = behind r (cells_of n x);
      is =
          ap (by_cells q r) (row_has n x (omega arith))
          ∙ ap (row_of_cells q r (cells_of n x)) places
          ∙ ap (λ (columns : List ColumnAt). event_or_fault r (cells_of n x) columns (first_fault (cells_of n x) columns)) (columns_there q has)
          ∙ ap (event_or_fault r (cells_of n x) drill_at) (no_fault n (10000 + upper x % 4096) (decimal n) (symbol (upper x / 16384)) (price_text (10000 + upper x % 4096)) (codes "100") good)
          ∙ ap (λ (late : Bool). if late then refused_at r (BackInTime r.last (time_of (cells_of n x) drill_at)) (time_place drill_at) else event (event_of r (cells_of n x)) (behind r (cells_of n x))) on_time;
      time = time;
      last = time;
      read = refl;
      places = refl;
    }

-- ---- the header

abbrev header_cells : List (List ℕ)
header_cells = codes "at" ∷ codes "sym" ∷ codes "price" ∷ codes "size" ∷ []

header_has : row_cells (codes "at,sym,price,size") ≡ one header_cells
unfolding next_record strip_bom
header_has = refl

-- the header tells where the columns stand
pub header_gives : (q : Plan) → IsDrillSchema q → row_result q (start q) (codes "at,sym,price,size") ≡ nothing (record (start q) { places = Some (0 ∷ 1 ∷ 2 ∷ []); read = 1 })
header_gives q has =
    let none : find (λ column. is_none (place_of header_cells column)) q.schema.columns ≡ None = ap (find (λ (column : Column). is_none (place_of header_cells column))) has.columns in
    ap (by_cells q (start q)) header_has
    ∙ ap (header_or_fault q (start q) header_cells) none
    ∙ ap (λ (columns : List Column). nothing (record (start q) { places = Some (filter_map (place_of header_cells) columns); read = 1 })) has.columns
