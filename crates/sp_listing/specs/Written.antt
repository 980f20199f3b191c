-- What is written is read back.
use Rattle.std.specs.Prelude.{◌≢◌, List}
use Rattle.std.specs.List.{All}
use Rattle.sp_plan.specs.declared.plan.Plan.{Plan}
use Rattle.sp_listing.specs.Listing.{Entry, IsEntry, IsListing, listing_text}

-- no name of the plan has a line feed
abbrev pub HasPlainNames : Plan → Type 0
HasPlainNames q = All (λ name. All (λ b. b ≢ 10) name.text) q.names

-- The texts of entries, one after another, are the listing of these entries, where no name of the plan has a line feed.
abbrev pub WrittenIsListing : Type 0
WrittenIsListing = (q : Plan) (entries : List Entry) → HasPlainNames q → All (IsEntry q) entries → IsListing q (listing_text q entries) entries
