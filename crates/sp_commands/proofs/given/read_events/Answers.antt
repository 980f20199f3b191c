use Rattle.std.proofs.Common.{◌≡◌, sym, ◌∙◌, subst}
use Rattle.std.specs.Arc.{arc_value}
use Rattle.sp_commands.specs.Commands.{lateness}
use Rattle.sp_commands.specs.Ends.{CameFrom, came, came_within}
use Rattle.sp_commands.specs.Given.{Brings}
use Rattle.sp_commands.proofs.Punctual.{came_in_time}
use Rattle.sp_commands.proofs.given.read_events.Goals as goal

pub returns-then-is_punctual : goal.returns-then-is_punctual
returns-then-is_punctual g c =
    let q = arc_value c.args.plan.now in
    let same : came q ≡ came_within q (lateness c.args.late.slack c.args.late.rule) =
    λ i bytes ended. (sym (came_in_time c.loose_is_reading.ensures q c.requires.compiled bytes ended) ∙ (λ j. came_within q (sym (c.is_punctual.ensures c.if-is_punctual.true) j) bytes ended)) i in
    subst (λ (way : CameFrom). Brings q way (g.S.Source.state c.args.input.now) (g.S.Source.state c.in_time.new.input) c.in_time.result) same c.in_time.ensures
