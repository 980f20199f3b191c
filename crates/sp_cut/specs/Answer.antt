-- What a cutter answers when it is asked for the next row.
use Rattle.std.specs.Prelude.{ℕ, ◌≡◌, ◌+◌, Bool, true, false, List, [], ◌∷◌, ◌++◌, Option, Some, None}
use Rattle.std.specs.Global.{Vec}
use Rattle.sp_cut.specs.declared.fault.CutFault.{CutFault}
use Rattle.sp_cut.specs.declared.fault.CutFault.TheVariants.{LongRow, OpenQuote, Memory}
use Rattle.sp_cut.specs.CutRows.{CutRow, row, long_row, open_quote}
use Rattle.sp_cut.specs.Left.{Left, rows_left}

-- what is left where these bytes come behind those that are, and the input then ends or not
abbrev pub with_more : Left → List ℕ → Bool → Left
with_more left more ended = record { bytes = left.bytes ++ more; given = left.given; ended = ended }

-- the row is the first of those that were left, also with all bytes that may still come, and its bytes with what ends it are gone
pub record GivesRow (old : Left) (bytes : List ℕ) (new : Left) : Type 0 where
  pub first : rows_left old ≡ row bytes ∷ rows_left new
  pub coming : old.ended ≡ false → (more : List ℕ) (ended : Bool) → rows_left (with_more old more ended) ≡ row bytes ∷ rows_left (with_more new more ended)
  pub given : new.given ≡ old.given + 1
  pub ended : new.ended ≡ old.ended
  pub bytes_left : (taken : List ℕ) × (old.bytes ≡ taken ++ new.bytes)

-- no row is left
pub record GivesNone (old new : Left) : Type 0 where
  pub none : rows_left old ≡ []
  pub same : new ≡ old

-- the row, if one was found
abbrev pub given_in : Bool → Vec ℕ → Option (Vec ℕ)
given_in true row_found = Some row_found
given_in false row_found = None

-- a row was given, or none is left
abbrev pub Gives : Left → Option (Vec ℕ) → Left → Type 0
Gives old None new = GivesNone old new
Gives old (Some bytes) new = GivesRow old bytes.items new

-- what is left begins with this
abbrev pub Begins : Left → CutRow → Type 0
Begins left cut = (more : List CutRow) × (rows_left left ≡ cut ∷ more)

-- the fault is that of the next row, with its number, or memory ran out
abbrev pub IsFault : Left → CutFault → Type 0
IsFault left (LongRow n) = Begins left long_row × (n ≡ left.given + 1)
IsFault left (OpenQuote n) = Begins left open_quote × (n ≡ left.given + 1)
IsFault left Memory = Unit {0}
