-- Listings: of each window what it was read without, what its matches used, and these matches, as a text.
use Rattle.std.specs.Prelude.{◌≡◌, ℕ, ◌+◌, ◌<◌, ◌^◌, List, [], ◌∷◌, ◌++◌, length, map, codes}
use Rattle.std.specs.List.{All, flat_map}
use Rattle.std.specs.Fmt.{decimal}
use Rattle.sp_base.specs.Commas.{list_text}
use Rattle.sp_plan.specs.declared.plan.Plan.{Plan}
use Rattle.sp_plan.specs.declared.found.Match.{Match}
use Rattle.sp_plan.specs.Lines.{line, text}
use Rattle.sp_emit.specs.Matches.{ArePlaces, Binds, IsHeld, IsLine}
use Rattle.sp_listing.specs.declared.proof.WindowProof.{WindowProof}
use Rattle.sp_listing.specs.declared.fault.ListFault.{ListFault}
use Rattle.sp_listing.specs.declared.fault.ListFault.TheVariants as f
use Rattle.sp_listing.specs.Lines.{lines}

-- A window's number, its first and its last event, those that it was read without, those that its matches used, and its matches.
pub record Entry : Type 0 where
  pub window : ℕ
  pub first : ℕ
  pub last : ℕ
  pub skipped : List ℕ
  pub used : List ℕ
  pub matches : List Match

-- the entry that the program holds
abbrev pub seen : WindowProof → Entry
seen p = record { window = p.window; first = p.first; last = p.last; skipped = p.skipped.list; used = p.used.list; matches = p.matches.items }

-- the line of a window, which begins its entry
abbrev pub head_line : Entry → List ℕ
head_line e =
    codes "p w=" ++ decimal e.window ++ codes " from=" ++ decimal e.first ++ codes " to=" ++ decimal e.last ++ codes " skip=" ++ list_text e.skipped
    ++ codes " used=" ++ list_text e.used ++ codes "\n"

-- the lines of an entry: the one of its window, and those of its matches
abbrev pub entry_lines : Plan → Entry → List (List ℕ)
entry_lines q e = head_line e ∷ map (line q) e.matches

-- the text of an entry
abbrev pub entry_text : Plan → Entry → List ℕ
entry_text q e = head_line e ++ text q e.matches

-- the lines of entries, one entry after another
abbrev pub listing_lines : Plan → List Entry → List (List ℕ)
listing_lines q entries = flat_map (entry_lines q) entries

-- the texts of entries, one after another
abbrev pub listing_text : Plan → List Entry → List ℕ
listing_text q entries = flat_map (entry_text q) entries

-- The numbers of a window are those that the program's types hold: within 32 bits, and rising strictly in its lists.
pub record HoldsNumbers (e : Entry) : Type 0 where
  pub window : e.window < 2 ^ 32
  pub first : e.first < 2 ^ 32
  pub last : e.last < 2 ^ 32
  pub skipped : ArePlaces e.skipped
  pub used : ArePlaces e.used

-- a match that the program's types hold, and that the plan can have
abbrev pub IsMatch : Plan → Match → Type 0
IsMatch q m = IsHeld m × Binds q m

-- An entry that a listing of the plan can have.
pub record IsEntry (q : Plan) (e : Entry) : Type 0 where
  pub numbers : HoldsNumbers e
  pub matches : All (IsMatch q) e.matches

-- The line is that of a window: it begins this entry, which has no match so far.
pub record Begins (line : List ℕ) (e : Entry) : Type 0 where
  pub numbers : HoldsNumbers e
  pub none : e.matches ≡ []
  pub is : line ≡ head_line e

-- The text is the listing of these entries: its lines are theirs.
pub record IsListing (q : Plan) (text : List ℕ) (entries : List Entry) : Type 0 where
  pub held : All (IsEntry q) entries
  pub are : lines text ≡ listing_lines q entries

-- The line can't stand behind these entries: it is that of no window, and that of a match only where no entry is before it.
pub record IsBad (q : Plan) (before : List Entry) (line : List ℕ) : Type 0 where
  pub window : (e : Entry) → Begins line e → ⊥
  pub found : (m : Match) → IsLine q m line → before ≡ []

-- The first bad line of a text, by its number from 1: those before it are the lines of entries.
pub record IsBadLine (q : Plan) (text : List ℕ) (number : ℕ) : Type 0 where
  pub before : List Entry
  pub line : List ℕ
  pub rest : List (List ℕ)
  pub held : All (IsEntry q) before
  pub are : lines text ≡ listing_lines q before ++ line ∷ rest
  pub bad : IsBad q before line
  pub at : number ≡ length (listing_lines q before) + 1

-- why a text is no listing; want of memory may come at any time
abbrev pub IsFault : Plan → List ℕ → ListFault → Type 0
IsFault q text (f.BadLine number) = IsBadLine q text number
IsFault q text f.Memory = Unit {0}

-- A text is the listing of one list of entries at most, has one first bad line at most, and never both.
pub record OneListing : Type 0 where
  pub entries : (q : Plan) (text : List ℕ) (one other : List Entry) → IsListing q text one → IsListing q text other → one ≡ other
  pub bad : (q : Plan) (text : List ℕ) (one other : ℕ) → IsBadLine q text one → IsBadLine q text other → one ≡ other
  pub apart : (q : Plan) (text : List ℕ) (entries : List Entry) (number : ℕ) → IsListing q text entries → IsBadLine q text number → ⊥
