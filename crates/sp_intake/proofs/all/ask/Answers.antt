use Rattle.std.proofs.Common.{arith}
use Rattle.sp_intake.specs.Standing.{WasRead}
use Rattle.sp_intake.proofs.all.ask.Goals as goal

pub returns : goal.returns
returns g c =
    let before = g.S.Source.state c.args.input.now in
    let next = g.S.Source.state c.read-read.new.self in
    let read = c.read-read.ensures in
    let was : WasRead before c.read-read.new.into c.read-read.result next = record {
      size = omega (arith, read.size);
      bytes = read.bytes;
      untaken = read.untaken;
      ended = read.ended;
      goes_on = read.goes_on;
      failed_before_end = read.failed_before_end;
      no_fault = read.no_fault;
      fault = read.fault;
      never_falls = read.never_falls;
    } in
    record { takes = c.take.ensures.takes before next was }
