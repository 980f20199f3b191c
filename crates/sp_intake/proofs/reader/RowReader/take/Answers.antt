use Rattle.std.proofs.Common.{◌≡◌, ◌≢◌, ℕ, ◌<◌, [], take, false, sym, subst, arith, rules}
use Rattle.std.specs.Prelude.{⊤, Result, Ok, Err, OnOk, is_err}
use Rattle.std.specs.declared.alloc.AllocError.{AllocError}
use Rattle.sp_io.specs.Outside.{Gave}
use Rattle.sp_intake.specs.declared.reader.State.TheVariants.{Stopped, Broken}
use Rattle.sp_ports.specs.declared.stop.Stop.TheVariants.{Open}
use Rattle.sp_intake.specs.RowsSeen.{reader_of}
use Rattle.sp_intake.proofs.Since.{few_taken, reads_open, reads_piece, reads_lost, reads_end, reads_going, reads_on}
use Rattle.sp_intake.proofs.reader.RowReader.take.Goals as goal

-- what holds where a call succeeds
where_ok : {P : Type 0} (r : Result ⊤ AllocError) → is_err r ≡ false → OnOk r P → P
where_ok (Ok x) done p = p
where_ok (Err e) done p = absurd (cc done)

pub returns-in-Ok-eq0-clause-takes : goal.returns-in-Ok-eq0-clause-takes
returns-in-Ok-eq0-clause-takes c before next was =
    let at = c.requires.asks in
    let reader = reader_of c.args.self.now in
    let is = c.in-Ok-eq0.is in
    let none : c.in-Ok-eq0.field-0 ≡ 0 = search rules in
    let bytes : Gave before.left (take c.in-Ok-eq0.field-0 c.args.buffer.now) next.left = rw is at was.bytes in
    let gave = subst (λ (n : ℕ). Gave before.left (take n c.args.buffer.now) next.left) none bytes in
    let ended = rw is at was.ended in
    let quiet = rw is at was.no_fault in
    record {
      piece = [];
      short = omega arith;
      reads = reads_on c.args.self.now.state at.going before next reader (record reader { cutter = c.end.new.self }) [] []
          (reads_end before next reader at.hungry.settled at.hungry.open_ c.end.new.self c.end.ensures gave (ended none) quiet);
    }

pub returns-then-is_err-clause-takes : goal.returns-then-is_err-clause-takes
returns-then-is_err-clause-takes c before next was =
    let at = c.requires.asks in
    let reader = reader_of c.args.self.now in
    let is = c.in-Ok.is in
    let bytes : Gave before.left (take c.in-Ok.count c.args.buffer.now) next.left = rw is at was.bytes in
    let goes_on = rw is at was.goes_on in
    let quiet = rw is at was.no_fault in
    let more : c.in-Ok.count ≢ 0 = rw is at c.in-Ok.count-test.1 in
    let some : 0 < c.in-Ok.count = omega (arith, more) in
    let piece = take c.in-Ok.count c.args.buffer.now in
    let short = few_taken c.in-Ok.count c.args.buffer.now was.size in
    record {
      piece = piece;
      short = short;
      reads = reads_going c.args.self.now.state at.going before reader piece [] (record { source = next; state = Broken; reader = record reader { cutter = c.feed.new.self } })
          (reads_lost before next reader at.hungry.settled at.hungry.open_ piece short bytes (goes_on some) quiet c.feed.new.self);
    }

pub returns-else-is_err-clause-takes : goal.returns-else-is_err-clause-takes
returns-else-is_err-clause-takes c before next was =
    let at = c.requires.asks in
    let reader = reader_of c.args.self.now in
    let is = c.in-Ok.is in
    let bytes : Gave before.left (take c.in-Ok.count c.args.buffer.now) next.left = rw is at was.bytes in
    let goes_on = rw is at was.goes_on in
    let quiet = rw is at was.no_fault in
    let more : c.in-Ok.count ≢ 0 = rw is at c.in-Ok.count-test.1 in
    let some : 0 < c.in-Ok.count = omega (arith, more) in
    let done = sym c.if-is_err.ensures.value in
    let piece = take c.in-Ok.count c.args.buffer.now in
    let short = few_taken c.in-Ok.count c.args.buffer.now was.size in
    record {
      piece = piece;
      short = short;
      reads = reads_on c.args.self.now.state at.going before next reader (record reader { cutter = c.feed.new.self }) piece []
          (reads_piece before next reader at.hungry.settled at.hungry.open_ piece short bytes (goes_on some) quiet c.feed.new.self (where_ok c.feed.result done c.feed.ensures.fed));
    }

pub returns-in-Err-clause-takes : goal.returns-in-Err-clause-takes
returns-in-Err-clause-takes c before next was =
    let at = c.requires.asks in
    let reader = reader_of c.args.self.now in
    let is = c.in-Err.is in
    let untaken = rw is at was.untaken in
    let failed = rw is at was.failed_before_end in
    let fault = rw is at was.fault in
    record {
      piece = [];
      short = omega arith;
      reads = reads_going c.args.self.now.state at.going before reader [] [] (record { source = next; state = Stopped Open; reader = reader })
          (reads_open before next reader at.hungry.settled at.hungry.open_ untaken failed fault was.never_falls);
    }
