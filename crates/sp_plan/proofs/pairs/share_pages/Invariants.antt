use Rattle.std.proofs.Common.{◌≡◌, ◌≤◌, length, take}
use Rattle.std.specs.Vec.{vec_capacity}
use Rattle.sp_plan.proofs.pairs.share_pages.Given as goal

abbrev pub invariant-loop-page : goal.invariant-loop-page
invariant-loop-page l = record {
  items : l.shared.items ≡ take l.page-index l.pages;
  room : length l.pages ≤ vec_capacity l.shared;
}
