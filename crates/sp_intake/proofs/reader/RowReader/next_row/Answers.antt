use Rattle.std.proofs.Common.{◌≡◌, List, [], sym, subst}
use Rattle.sp_plan.specs.declared.event.Event.{Event}
use Rattle.sp_io.specs.Outside.{SourceState}
use Rattle.sp_intake.specs.declared.reader.State.{State}
use Rattle.sp_intake.specs.declared.reader.State.TheVariants.{Going, Stopped}
use Rattle.sp_intake.specs.Reader.{Reader, event_in}
use Rattle.sp_intake.specs.RowsSeen.{reader_of}
use Rattle.sp_intake.specs.Standing.{Reads, going}
use Rattle.sp_intake.proofs.reader.RowReader.next_row.Goals as goal

-- rows that go on stand so
on : (source : SourceState) (old new : Reader) (events : List Event) (state : State) → state ≡ Going → Reads (going source old) [] events (going source new)
    → Reads (going source old) [] events (record { source = source; state = state; reader = new })
on source old new events state is reads = subst (λ (s : State). Reads (going source old) [] events (record { source = source; state = s; reader = new })) (sym is) reads

pub returns-in-Ok-Some-Event-clause-reads : goal.returns-in-Ok-Some-Event-clause-reads
returns-in-Ok-Some-Event-clause-reads c source =
    let old = reader_of c.args.self.now in
    let new = reader_of c.take_row.new.self in
    let told : Reads (going source old) [] (event_in c.take_row.new.event) (going source new) =
    rw (c.in-Ok-Some-Event.field-0-is, c.in-Ok-Some-Event.field-0-0-is) at c.in-Ok-Some-Event.ensures.reads source in
    on source old new (event_in c.take_row.new.event) c.take_row.new.self.state c.take_row.ensures.going told

pub returns-in-Ok-Some-Ask-clause-reads : goal.returns-in-Ok-Some-Ask-clause-reads
returns-in-Ok-Some-Ask-clause-reads c source =
    let old = reader_of c.args.self.now in
    let new = reader_of c.take_row.new.self in
    let told : Reads (going source old) [] [] (going source new) = rw (c.in-Ok-Some-Ask.field-0-is, c.in-Ok-Some-Ask.field-0-0-is) at c.in-Ok-Some-Ask.ensures.reads source in
    on source old new [] c.take_row.new.self.state c.take_row.ensures.going told

pub returns-in-Ok-Some-Stop-clause-reads : goal.returns-in-Ok-Some-Stop-clause-reads
returns-in-Ok-Some-Stop-clause-reads c source =
    let told : Reads (going source (reader_of c.args.self.now)) [] [] (record { source = source; state = Stopped c.in-Ok-Some-Stop.stop; reader = reader_of c.take_row.new.self }) =
    rw (c.in-Ok-Some-Stop.field-0-is, c.in-Ok-Some-Stop.field-0-0-is) at c.in-Ok-Some-Stop.ensures.reads source in
    told

pub returns-in-Ok-None-clause-reads : goal.returns-in-Ok-None-clause-reads
returns-in-Ok-None-clause-reads c source =
    let old = reader_of c.args.self.now in
    let new = reader_of c.take_row.new.self in
    let told : Reads (going source old) [] [] (going source new) = rw c.in-Ok-None.field-0-is at c.in-Ok-None.ensures.reads source in
    on source old new [] c.take_row.new.self.state c.take_row.ensures.going told

pub returns-in-Err-clause-reads : goal.returns-in-Err-clause-reads
returns-in-Err-clause-reads c source = c.in-Err.ensures.reads source
