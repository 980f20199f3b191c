-- What the parts of a listing's text are read as.
use Rattle.std.specs.Prelude.{◌≡◌, ◌≢◌, ℕ, ◌+◌, ◌≤◌, false, List, [], ◌∷◌, ◌++◌, length}
use Rattle.sp_base.specs.Commas.{list_text}
use Rattle.sp_plan.specs.declared.plan.Plan.{Plan}
use Rattle.sp_plan.specs.declared.found.Match.{Match}
use Rattle.sp_emit.specs.Matches.{ArePlaces, IsLine}
use Rattle.sp_emit.specs.Reading.{heads, goes_on}
use Rattle.sp_listing.specs.declared.fault.ListFault.{ListFault}
use Rattle.sp_listing.specs.declared.fault.ListFault.TheVariants as f
use Rattle.sp_listing.specs.Lines.{lines}
use Rattle.sp_listing.specs.Listing.{Entry, Begins, IsBad}

-- The first line of a text, and what stands behind it.
pub record IsFirstLine (text line rest : List ℕ) : Type 0 where
  pub lines : lines text ≡ line ∷ lines rest
  pub shorter : 1 + length rest ≤ length text

-- The text begins with a label and a list of numbers of events, or a dash where there are none.
pub record ListAt (label text numbers rest : List ℕ) : Type 0 where
  pub are : ArePlaces numbers
  pub cut : text ≡ label ++ (list_text numbers ++ rest)
  pub ends : numbers ≢ [] → heads goes_on rest ≡ false

-- the entry with one match more
abbrev pub with_match : Entry → Match → Entry
with_match e m = record e { matches = e.matches ++ m ∷ [] }

-- A line goes on with entries: it begins another, or it is the line of a match of the last one.
pub data Adds (q : Plan) (line : List ℕ) (old new : List Entry) : Type 0 where
  window : (e : Entry) → Begins line e → new ≡ old ++ e ∷ [] → Adds q line old new
  found : (front : List Entry) (e : Entry) (m : Match) → IsLine q m line → old ≡ front ++ e ∷ [] → new ≡ front ++ with_match e m ∷ [] → Adds q line old new

-- why a line of this number adds nothing to the entries before it
abbrev pub IsLineFault : Plan → List Entry → List ℕ → ℕ → ListFault → Type 0
IsLineFault q before line number (f.BadLine other) = IsBad q before line × (other ≡ number)
IsLineFault q before line number f.Memory = Unit {0}
