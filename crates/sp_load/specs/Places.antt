-- Where a query stands, and the text that it is there.
use Rattle.std.specs.Prelude.{ℕ, ◌<◌, ◌≤◌, List, length}
use Rattle.sp_base.specs.Marks.{without_mark}
use Rattle.sp_base.specs.Limits.{query_limit}
use Rattle.sp_io.specs.Outside.{ToldFiles, HoldsFile, HoldsLonger}
use Rattle.sp_load.specs.declared.place.Place.{Place as FoundPlace}
use Rattle.sp_load.specs.declared.place.Place.TheVariants.{Word, File}
use Rattle.sp_load.specs.declared.place.QueryText.{QueryText}
use Rattle.sp_load.specs.declared.place.QueryText.TheVariants as t

-- a query stands in a word of the command, or in the file of a name
pub data Place : Type 0 where
  word : (text : List ℕ) → Place
  file : (name : List ℕ) → Place

-- the place that was found
abbrev pub place_of : FoundPlace → Place
place_of (Word text) = word text.now
place_of (File name) = file name.now

-- The query that stands there has this text, within its limit.
pub data HasText (held : ToldFiles) : Place → List ℕ → Type 0 where
  in_word : (text : List ℕ) → length text ≤ query_limit → HasText held (word text) text
  in_file : (name content : List ℕ) → HoldsFile held name content → length content ≤ query_limit
      → HasText held (file name) (without_mark content)

-- What stands there has more bytes than the limit.
pub data IsLonger (held : ToldFiles) (limit : ℕ) : Place → Type 0 where
  long_word : (text : List ℕ) → limit < length text → IsLonger held limit (word text)
  long_file : (name : List ℕ) → HoldsLonger held name limit → IsLonger held limit (file name)

-- the text of a query that was found
abbrev pub text_of : QueryText → List ℕ
text_of (t.Word text) = text.now
text_of (t.File content) = without_mark content.items
