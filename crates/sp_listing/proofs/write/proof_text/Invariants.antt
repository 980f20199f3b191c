use Rattle.std.proofs.Common.{◌≡◌, ◌++◌, take}
use Rattle.std.specs.Prelude.{string_bytes}
use Rattle.std.specs.List.{All}
use Rattle.sp_plan.specs.Lines.{text}
use Rattle.sp_emit.specs.Matches.{Binds}
use Rattle.sp_listing.specs.Listing.{HoldsNumbers, IsMatch, head_line, seen}
use Rattle.sp_listing.proofs.write.proof_text.Given as goal

abbrev pub invariant-loop-found : goal.invariant-loop-found
invariant-loop-found l = record {
  text : string_bytes l.out ≡ head_line (seen l.proof) ++ text l.plan (take l.found-index l.found-items);
  numbers : HoldsNumbers (seen l.proof);
  matches : All (Binds l.plan) l.found-items → All (IsMatch l.plan) (take l.found-index l.found-items);
}
