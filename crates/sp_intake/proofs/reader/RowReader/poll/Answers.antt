use Rattle.std.proofs.Common.{◌≡◌, ◌≢◌, false, [], refl, ◌∙◌}
use Rattle.sp_ports.specs.declared.stop.Stop.{Stop}
use Rattle.sp_intake.specs.declared.reader.State.{State}
use Rattle.sp_intake.specs.declared.reader.State.TheVariants.{Going, Stopped, Broken}
use Rattle.sp_intake.specs.RowsSeen.{rows_at, reader_of}
use Rattle.sp_intake.specs.Reader.{event_in}
use Rattle.sp_intake.specs.Standing.{Reads, going, goes_on}
use Rattle.sp_intake.proofs.Asking.{reads_step}
use Rattle.sp_intake.proofs.Since.{reads_broken}
use Rattle.sp_intake.proofs.reader.RowReader.poll.Goals as goal

-- what neither goes on nor stopped is broken
broken : (state : State) → goes_on state ≡ false → ((stop : Stop) → state ≢ Stopped stop) → state ≡ Broken
broken Going over not = absurd (cc over)
broken (Stopped stop) over not = absurd (not stop refl)
broken Broken over not = refl

pub returns-in-Event-clause-reads : goal.returns-in-Event-clause-reads
returns-in-Event-clause-reads c source =
    let old = reader_of c.loop.self in
    let new = rows_at source c.next_row.new.self in
    let told : Reads (going source old) [] (event_in c.next_row.new.event) new = rw c.in-Event.is at c.next_row.ensures.reads source in
    reads_step source c.loop.self.state new.state old new.reader (rows_at source c.args.self.now) (event_in c.next_row.new.event) c.loop.invariant.going (c.loop.invariant.reads source) told

pub returns-in-Ask-clause-reads : goal.returns-in-Ask-clause-reads
returns-in-Ask-clause-reads c source =
    let old = reader_of c.loop.self in
    let new = rows_at source c.next_row.new.self in
    let told : Reads (going source old) [] [] new = rw c.in-Ask.is at c.next_row.ensures.reads source in
    reads_step source c.loop.self.state new.state old new.reader (rows_at source c.args.self.now) [] c.loop.invariant.going (c.loop.invariant.reads source) told

pub returns-in-Stopped-state-clause-reads : goal.returns-in-Stopped-state-clause-reads
returns-in-Stopped-state-clause-reads c source =
    let old = reader_of c.loop.self in
    let new = rows_at source c.next_row.new.self in
    let told : Reads (going source old) [] [] new = rw c.in-Over.is at c.next_row.ensures.reads source in
    reads_step source c.loop.self.state new.state old new.reader (rows_at source c.args.self.now) [] c.loop.invariant.going (c.loop.invariant.reads source) told

pub returns-in_default-clause-reads : goal.returns-in_default-clause-reads
returns-in_default-clause-reads c source =
    let old = reader_of c.loop.self in
    let new = rows_at source c.next_row.new.self in
    let told : Reads (going source old) [] [] new = rw c.in-Over.is at c.next_row.ensures.reads source in
    reads_step source c.loop.self.state new.state old new.reader (rows_at source c.args.self.now) [] c.loop.invariant.going (c.loop.invariant.reads source) told

pub returns-in_default-clause-breaks : goal.returns-in_default-clause-breaks
returns-in_default-clause-breaks c = broken c.next_row.new.self.state (c.next_row.ensures.over c.in-Over.is) c.in_default.not-Stopped

pub loop-preserved : goal.loop-preserved
loop-preserved c = record {
  reads = λ source.
      let old = reader_of c.loop.self in
      let new = rows_at source c.next_row.new.self in
      let told : Reads (going source old) [] [] new = rw c.in-Nothing.is at c.next_row.ensures.reads source in
      reads_step source c.loop.self.state new.state old new.reader (rows_at source c.args.self.now) [] c.loop.invariant.going (c.loop.invariant.reads source) told;
  going = c.next_row.ensures.going (rw c.in-Nothing.is refl);
  lateness = c.next_row.ensures.lateness ∙ c.loop.invariant.lateness;
}

pub returns-clause-reads : goal.returns-clause-reads
returns-clause-reads c source =
    let here = reader_of c.loop.self in
    reads_step source c.loop.self.state Broken here here (rows_at source c.args.self.now) [] c.loop.invariant.going (c.loop.invariant.reads source)
    (reads_broken source here here refl refl refl refl)
