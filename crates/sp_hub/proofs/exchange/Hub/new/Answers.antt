use Rattle.std.proofs.Common.{zero-add, rules}
use Rattle.std.proofs.lemmas.List.FromFn.{map-range_with_len_more}
use Rattle.sp_hub.specs.Calls.{fresh_seat}
use Rattle.sp_hub.proofs.exchange.Hub.new.Goals as goal

pub loop-number-preserved : goal.loop-number-preserved
loop-number-preserved g c =
    let more = map-range_with_len_more fresh_seat 0 c.loop-number.number c.loop-number.number (zero-add _) in
    record {
      parts = search rules;
      amount = search rules;
      pass = search rules;
      knows = search rules;
      made = cc (more, c.push_reserved.ensures.items, c.loop-number.invariant.made, c.new.ensures);
      len = search rules;
      room = search rules;
    }
