use Rattle.std.proofs.Common.{◌≢◌, arith}
use Rattle.std.specs.Prelude.{codes}
use Rattle.std.proofs.lemmas.Grind.{common_steps}
use Rattle.sp_sched.proofs.Steps.{no_word}
use Rattle.sp_sched.proofs.line.bare_step.Goals as goal

pub returns-in_default : goal.returns-in_default
returns-in_default c =
    let feed : c.args.word.now ≢ codes "feed" = grind (arith, common_steps) in
    let end : c.args.word.now ≢ codes "end" = grind (arith, common_steps) in
    let finish : c.args.word.now ≢ codes "finish" = grind (arith, common_steps) in
    let state : c.args.word.now ≢ codes "state" = grind (arith, common_steps) in
    no_word _ c.requires feed end finish state
