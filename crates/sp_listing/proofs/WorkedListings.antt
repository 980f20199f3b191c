-- Worked lines and entries, computed.
use Rattle.std.proofs.Common.{◌≡◌, [], ◌∷◌, refl}
use Rattle.std.specs.Prelude.{codes}
use Rattle.std.specs.Fmt.{digits}
use Rattle.sp_listing.specs.Lines.{lines}
use Rattle.sp_listing.specs.Listing.{Entry, head_line}

-- an empty line is a line, and so is what stands behind the last line feed
three_lines : lines (codes "p\n\nw") ≡ codes "p\n" ∷ codes "\n" ∷ codes "w" ∷ []
three_lines = refl

-- behind a line feed at the very end there is no line more
whole_lines : lines (codes "p\nw\n") ≡ codes "p\n" ∷ codes "w\n" ∷ []
whole_lines = refl

no_line : lines [] ≡ []
no_line = refl

-- a window whose events were all consumed before it was read
consumed : Entry
consumed = record { window = 2; first = 3; last = 4; skipped = 3 ∷ 4 ∷ []; used = []; matches = [] }

consumed_line : head_line consumed ≡ codes "p w=2 from=3 to=4 skip=3,4 used=-\n"
unfolding digits consumed
consumed_line = refl
