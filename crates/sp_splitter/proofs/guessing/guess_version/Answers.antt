use Rattle.std.proofs.Common.{subst, sym}
use Rattle.std.proofs.lemmas.Result.{on_ok_weaker}
use Rattle.sp_plan.specs.Compiled.{IsCompiled}
use Rattle.sp_match.specs.public.Matching.{Matching}
use Rattle.sp_chance.specs.Shares.{share_of}
use Rattle.sp_splitter.specs.Asking.{AreAsked, AreNumbered}
use Rattle.sp_splitter.proofs.Guessed.{gone_guessed, held_begun, held_numbered, held_guessed}
use Rattle.sp_splitter.proofs.guessing.guess_version.Goals as goal

pub returns-in_default-clause-guessed : goal.returns-in_default-clause-guessed
returns-in_default-clause-guessed g c v r at group = absurd (gone_guessed c.args.core.now c.tree.result.now c.tree.ensures c.args.id c.in_default.ensures v at)

pub coming-events-requires : goal.coming-events-requires
coming-events-requires g c = record { begun = held_begun c.args.core.now c.finished.ensures.reached c.tree.result.now c.tree.ensures c.args.id c.in-Some.held.now c.in-Some.ensures }

pub ask_runs-requires : goal.ask_runs-requires
ask_runs-requires g c =
    record {
      numbered = subst (λ (m : Matching). AreNumbered m.open_runs) (sym c.get-matcher.ensures)
          (held_numbered c.args.core.now (subst IsCompiled c.plan.ensures.plan c.plan.ensures.compiled) c.versions_have_groups.ensures c.tree.result.now c.tree.ensures c.args.id c.in-Some.held.now c.in-Some.ensures);
    }

pub returns-clause-guessed : goal.returns-clause-guessed
returns-clause-guessed g c =
    let means = (goal.Predictor-dyn g c.args.predictor.now).means c.args.predictor.now.1 in
    let shares = share_of c.ask_runs.new.chances in
    on_ok_weaker c.ask_runs.result
    (λ asked. held_guessed c.args.core.now (subst IsCompiled c.plan.ensures.plan c.plan.ensures.compiled) c.versions_have_groups.ensures c.tree.result.now c.tree.ensures c.args.id c.in-Some.held.now c.in-Some.ensures
    means c.coming-events.result shares c.coming-events.ensures
    (subst (λ (m : Matching). AreAsked m means c.coming-events.result (shares c.args.id)) c.get-matcher.ensures asked))
    c.ask_runs.ensures.asked
