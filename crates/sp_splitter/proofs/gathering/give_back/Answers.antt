use Rattle.std.proofs.Common.{rules}
use Rattle.sp_splitter.proofs.Gathered.{brings_given}
use Rattle.sp_splitter.proofs.gathering.give_back.Goals as goal

pub returns-then-short : goal.returns-then-short
returns-then-short g c =
    let brings = brings_given c.args.core.now c.give_back.new.self c.args.piece c.in_ok-give_back.field-0 c.known.ensures c.in_ok-give_back.ensures.given in
    record { went = brings.went; goes = brings.goes; emitted = brings.emitted; read = brings.read; short = search rules; given = tt }

pub returns-else-short : goal.returns-else-short
returns-else-short g c =
    let brings = brings_given c.args.core.now c.give_back.new.self c.args.piece c.in_ok-give_back.field-0 c.known.ensures c.in_ok-give_back.ensures.given in
    record {
      went = brings.went;
      goes = brings.goes;
      emitted = brings.emitted;
      read = brings.read;
      short = search rules;
      given = (c.in_ok-give_back.field-0, c.in_ok-give_back.ensures.given);
    }
