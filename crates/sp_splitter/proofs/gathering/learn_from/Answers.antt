use Rattle.std.proofs.Common.{[], ap, is_some, sym, ◌∙◌}
use Rattle.std.specs.Prelude.{option_copied}
use Rattle.sp_chance.proofs.Teaching.{taught_none}
use Rattle.sp_group.specs.Machine.{version_at}
use Rattle.sp_piece.specs.declared.job.Job.{Job}
use Rattle.sp_splitter.specs.Gathering.{wanted_of}
use Rattle.sp_splitter.proofs.Gathered.{lesson_gone, lesson_live, told_of}
use Rattle.sp_splitter.proofs.ToRoll.{live_held}
use Rattle.sp_splitter.proofs.gathering.learn_from.Goals as goal

pub returns-in_default-clause-learned : goal.returns-in_default-clause-learned
returns-in_default-clause-learned g c =
    let core = c.args.core.now in
    let p = c.args.piece.now in
    let gone =
    ap (λ (j : Job). is_some (version_at core.machine.versions j.version)) (sym c.job.ensures)
    ∙ live_held core c.tree.result.now c.job.result.now.version (option_copied c.get.result) c.tree.ensures c.get.ensures
    ∙ ap (λ o. is_some (option_copied o)) c.in_default.is in
    record {
      lesson = [];
      is = lesson_gone (version_at core.machine.versions p.job.version) p gone;
      taught_on = taught_none ((goal.Predictor-dyn g c.args.predictor.now).taught c.args.predictor.now.1);
    }

pub returns-clause-learned : goal.returns-clause-learned
returns-clause-learned g c =
    let core = c.args.core.now in
    let p = c.args.piece.now in
    let moves = c.moves.result.now in
    let live =
    ap (λ (j : Job). is_some (version_at core.machine.versions j.version)) (sym c.job.ensures)
    ∙ live_held core c.tree.result.now c.job.result.now.version (option_copied c.get.result) c.tree.ensures c.get.ensures
    ∙ ap (λ o. is_some (option_copied o)) c.in-Some.is in
    record {
      lesson = wanted_of moves;
      is = lesson_live (version_at core.machine.versions p.job.version) p (wanted_of moves) live (told_of p moves c.moves.ensures);
      taught_on = c.learn.ensures.taught;
    }
