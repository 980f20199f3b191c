use Rattle.std.proofs.Common.{◌≡◌, ◌<◌, true, map, length, nat_lt, sym, ◌∙◌, arith}
use Rattle.std.proofs.lemmas.Bool.Decides.{nat_tests}
use Rattle.std.proofs.lemmas.List.{length-map}
use Rattle.sp_match.specs.inside.Kept.{kept}
use Rattle.sp_match.specs.inside.Effects.{open_runs}
use Rattle.sp_match.proofs.OpenRuns.{open_few}
use Rattle.sp_match.proofs.starting.has_room.Goals as goal

pub returns-then-runs-lt64 : goal.returns-then-runs-lt64
returns-then-runs-lt64 c =
    let ks = map kept c.args.runs.now in
    let few = open_few ks in
    let same = length-map c.args.runs.now kept in
    let less : length c.args.runs.now < 64 = c.if-runs-lt64.true in
    let below : length (open_runs ks) < 64 = omega (arith, few, same, less) in
    let here : nat_lt (length c.args.runs.now) 64 ≡ true = grind (arith, nat_tests) in
    let there : nat_lt (length (open_runs ks)) 64 ≡ true = grind (arith, nat_tests) in
    here ∙ sym there
