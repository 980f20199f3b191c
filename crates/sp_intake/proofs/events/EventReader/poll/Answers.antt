use Rattle.std.proofs.Common.{◌≡◌, ◌∙◌, ap}
use Rattle.std.specs.Prelude.{None}
use Rattle.std.specs.Option.{option_map}
use Rattle.sp_intake.specs.RowsSeen.{rows_at, held_of}
use Rattle.sp_intake.specs.Standing.{given_in}
use Rattle.sp_intake.proofs.HoldingBack.{gives_rows, gives_as}
use Rattle.sp_intake.proofs.events.EventReader.poll.Goals as goal

pub returns-in-None-clause-gives : goal.returns-in-None-clause-gives
returns-in-None-clause-gives c source =
    let old = rows_at source c.args.self.now.rows in
    let new = rows_at source c.poll.new.self in
    let none : option_map held_of c.args.self.now.held ≡ None = ap (option_map held_of) c.in-None.is in
    let events = given_in c.poll.result c.poll.new.event in
    gives_as source (option_map held_of c.args.self.now.held) (option_map held_of c.args.self.now.held) old new events none none
    (gives_rows old new events (c.poll.ensures.reads source) (c.poll.ensures.lateness ∙ c.args.self.now.on_time c.in-None.is))
