use Rattle.std.proofs.Common.{◌≡◌, [], false, ◌∙◌, subst}
use Rattle.std.specs.Prelude.{Option}
use Rattle.std.specs.Option.{option_map, ForSome}
use Rattle.sp_intake.specs.declared.held.Held as declared
use Rattle.sp_intake.specs.declared.reader.State.{State}
use Rattle.sp_intake.specs.declared.reader.State.TheVariants.{Going}
use Rattle.sp_intake.specs.Laws.{between_none, holds_by, sound_at}
use Rattle.sp_intake.specs.Reader.{Reader}
use Rattle.sp_intake.specs.RowsSeen.{reader_of, rows_at, held_of}
use Rattle.sp_intake.specs.Standing.{Holds, IsIdle, is_whole, stop_in}
use Rattle.sp_intake.proofs.HoldingBack.{holds_fed, whole_seen}
use Rattle.sp_intake.proofs.events.EventReader.take.Goals as goal

-- what is held back is held back still
fed_by : (reader new : Reader) (state next : State) (held : Option declared.Held) → new ≡ record reader { cutter = new.cutter } → ForSome held (λ own. Holds reader state (held_of own)) → state ≡ Going → is_whole (stop_in next) ≡ false
    → IsIdle (option_map held_of held) → ForSome held (λ own. Holds new next (held_of own))
fed_by reader new state next held fed holds going more idle own is =
    holds_fed reader new state next (held_of own) fed (holds own is) going more (subst (λ (h : Option declared.Held). IsIdle (option_map held_of h)) is idle)

pub invariant_of-self : goal.invariant_of-self
invariant_of-self c =
    let self = c.args.self.now in
    record {
      on_time = λ is. c.take.ensures.lateness ∙ self.on_time is;
      holds = fed_by (reader_of self.rows) (reader_of c.take.new.self) self.rows.state c.take.new.self.state self.held c.take.ensures.reader self.holds c.requires.asks.rows.going c.take.ensures.more c.requires.asks.idle;
    }

pub returns-clause-takes : goal.returns-clause-takes
returns-clause-takes c before next was =
    let self = c.args.self.now in
    let took = c.take.ensures.takes before next was in
    let holds = fed_by (reader_of self.rows) (reader_of c.take.new.self) self.rows.state c.take.new.self.state self.held c.take.ensures.reader self.holds c.requires.asks.rows.going c.take.ensures.more c.requires.asks.idle in
    let held = option_map held_of self.held in
    record {
      piece = took.piece;
      short = took.short;
      gives = record {
        more = [];
        reads = took.reads;
        between = between_none held;
        sound = sound_at (rows_at next c.take.new.self) held (holds_by (reader_of c.take.new.self) c.take.new.self.state self.held (λ is. c.take.ensures.lateness ∙ self.on_time is) holds);
      };
    }

pub returns-clause-more : goal.returns-clause-more
returns-clause-more c = whole_seen (option_map held_of c.args.self.now.held) c.take.new.self.state c.take.ensures.more
