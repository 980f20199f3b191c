use Rattle.std.proofs.Common.{◌≡◌, length, map, take}
use Rattle.sp_listing.specs.Listing.{seen}
use Rattle.sp_cert.specs.Proofs.{matches_of}
use Rattle.sp_commands.proofs.checked.count_matches.Given as goal

abbrev pub invariant-loop-entry : goal.invariant-loop-entry
invariant-loop-entry l = l.count ≡ length (matches_of (map seen (take l.entry-index l.entries)))
