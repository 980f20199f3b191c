use Rattle.std.proofs.Common.{◌≡◌, ◌⊎◌, List, [], length}
use Rattle.sp_base.specs.Limits.{piece_limit}
use Rattle.sp_plan.specs.declared.event.Event.{Event}
use Rattle.sp_intake.specs.Asked.{standing, state_in}
use Rattle.sp_intake.specs.Pieces.{Asked}
use Rattle.sp_intake.specs.Standing.{Standing, Gives, stop_in, is_whole}
use Rattle.sp_intake.proofs.giving.InputIntake.next.Given as goal

abbrev pub invariant-loop : goal.invariant-loop
invariant-loop g l =
    let old = standing (g.S.Source.state l.initial.self.source.now) l.initial.self.events in
    let here = standing (g.S.Source.state l.self.source.now) l.self.events in
    record {
      gives : Gives old [] here;
      asked : (from : Standing) (before events : List Event) → Asked from before events old → Asked from before events here ⊎ Asked from events events here;
      ended : is_whole (stop_in (state_in l.self.events)) ≡ is_whole (stop_in (state_in l.initial.self.events));
      stops : l.self.events.stops ≡ l.initial.self.events.stops;
      token : l.self.source.ghost_name ≡ l.initial.self.source.ghost_name;
      size : length l.self.piece ≡ piece_limit;
    }
