use Rattle.std.proofs.Common.{◌≡◌, ℕ}
use Rattle.sp_core.specs.News.{is_from}
use Rattle.sp_core.proofs.Newly.{is_new_of}
use Rattle.sp_core.proofs.news.first_new.Given as goal

abbrev pub invariant-loop-heard : goal.invariant-loop-heard
invariant-loop-heard l = (i : ℕ) → is_new_of l.news l.heard-index l.window i ≡ is_from l.first i
