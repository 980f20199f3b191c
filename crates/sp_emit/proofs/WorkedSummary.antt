-- The summary of a worked run, by computation.
use Rattle.std.proofs.Common.{◌≡◌, refl}
use Rattle.std.specs.Prelude.{codes}
use Rattle.std.specs.Fmt.{digits}
use Rattle.sp_emit.specs.Summary.{summary}

two_matches : summary 9 1 2 8 ≡ codes "events=9 windows=1 matches=2 consumed=8\n"
unfolding digits
two_matches = refl
