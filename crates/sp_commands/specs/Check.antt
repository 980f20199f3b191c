-- What a check comes to: a listing held against the query over the input, window by window.
use Rattle.std.specs.Prelude.{◌≡◌, ◌⊎◌, ◌≤◌, ℕ, Bool, true, false, List, ◌++◌, length, codes}
use Rattle.std.specs.Fmt.{decimal}
use Rattle.sp_base.specs.Limits.{query_limit}
use Rattle.sp_io.specs.Outside.{ToldFiles, HoldsFile, HoldsLonger}
use Rattle.sp_plan.specs.declared.plan.Plan.{Plan}
use Rattle.sp_listing.specs.Limits.{listing_limit}
use Rattle.sp_listing.specs.Listing.{Entry, IsListing, IsBadLine}
use Rattle.sp_cert.specs.Proofs.{matches_of, proofs}
use Rattle.sp_cert.specs.Verdicts.{DiffersFirst}
use Rattle.sp_ports.specs.Stopping.{is_end}
use Rattle.sp_load.specs.Places.{Place, HasText, IsLonger}
use Rattle.sp_load.specs.Queries.{IsPlanFor, IsFaulty}
use Rattle.sp_answer.specs.Outcome.{Outcome, outcome, nothing_for}
use Rattle.sp_answer.specs.declared.status.Status.{Status}
use Rattle.sp_answer.specs.declared.status.Status.TheVariants.{Memory, Query, Limited, ListingLine, ListingWindow}
use Rattle.sp_commands.specs.Ends.{Came, came}

-- the line of a listing that is right: how many windows and matches it has
abbrev pub yes_line : List Entry → List ℕ
yes_line entries =
    codes "yes windows=" ++ (decimal (length entries) ++ (codes " matches=" ++ (decimal (length (matches_of entries)) ++ codes "\n")))

-- The outcome of these entries against a plan over what came of the input: they are held against the run only where the input was read to its end,
-- and then they are those of the run, or the first window at which they differ is told.
pub data ListingOutcome (q : Plan) (entries : List Entry) (c : Came) : Outcome → Type 0 where
  stopped : is_end c.stop ≡ false → ListingOutcome q entries c (nothing_for c.status)
  right : is_end c.stop ≡ true → entries ≡ proofs q c.events true → ListingOutcome q entries c (outcome c.status (yes_line entries))
  wrong : (window : ℕ) → is_end c.stop ≡ true → DiffersFirst entries (proofs q c.events true) window
      → ListingOutcome q entries c (nothing_for (ListingWindow window))

-- the same over bytes
abbrev pub IsPlanCheck : Plan → List Entry → List ℕ → Bool → Outcome → Type 0
IsPlanCheck q entries bytes ended = ListingOutcome q entries (came q bytes ended)

-- The outcome of a query's text and a listing's: the query's first fault, else the first bad line of the listing, else its check.
pub data TextsOutcome (query listing : List ℕ) (bytes : List ℕ) (ended : Bool) : Outcome → Type 0 where
  faulty : (code at : ℕ) → IsFaulty query code at → TextsOutcome query listing bytes ended (nothing_for (Query code at))
  bad_line : (q : Plan) (line : ℕ) → IsPlanFor query q → IsBadLine q listing line
      → TextsOutcome query listing bytes ended (nothing_for (ListingLine line))
  checks : (q : Plan) (entries : List Entry) (o : Outcome) → IsPlanFor query q → IsListing q listing entries
      → IsPlanCheck q entries bytes ended o → TextsOutcome query listing bytes ended o

-- the file of this name holds this, within the limit of a listing
abbrev pub HasListing : ToldFiles → List ℕ → List ℕ → Type 0
HasListing held name content = HoldsFile held name content × (length content ≤ listing_limit)

-- The outcome of the check of the listing in the file of this name by the query that stands there: the length of the query counts first, then that
-- of the listing, and then their texts.
pub data CheckOutcome (place : Place) (name : List ℕ) (held : ToldFiles) (bytes : List ℕ) (ended : Bool) : Outcome → Type 0 where
  long_query : IsLonger held query_limit place → CheckOutcome place name held bytes ended (nothing_for (Limited query_limit))
  long_listing : (text : List ℕ) → HasText held place text → HoldsLonger held name listing_limit
      → CheckOutcome place name held bytes ended (nothing_for (Limited listing_limit))
  of_texts : (text content : List ℕ) (o : Outcome) → HasText held place text → HasListing held name content
      → TextsOutcome text content bytes ended o → CheckOutcome place name held bytes ended o

-- ---- its parts

-- the texts are refused, whatever the input is, or memory ran out
abbrev pub RefusesCheck : List ℕ → List ℕ → Status → Type 0
RefusesCheck query listing status = (status ≡ Memory) ⊎ ((bytes : List ℕ) (ended : Bool) → TextsOutcome query listing bytes ended (nothing_for status))
