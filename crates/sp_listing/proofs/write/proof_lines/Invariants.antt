use Rattle.std.proofs.Common.{◌≡◌, ◌∷◌, map, take}
use Rattle.std.specs.Prelude.{string_bytes}
use Rattle.sp_plan.specs.Lines.{line}
use Rattle.sp_listing.specs.Listing.{head_line, seen}
use Rattle.sp_listing.proofs.write.proof_lines.Given as goal

abbrev pub invariant-loop-found : goal.invariant-loop-found
invariant-loop-found l = map string_bytes l.lines.items ≡ head_line (seen l.proof) ∷ map (line l.plan) (take l.found-index l.found-items)
