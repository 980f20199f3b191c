use Rattle.std.proofs.Common.{◌≡◌, length, rules}
use Rattle.sp_rows.proofs.Holds.{cell_held, rise_held}
use Rattle.sp_rows.proofs.quoted.Record.end_cell.Goals as goal

pub invariant_of-self-2 : goal.invariant_of-self-2
invariant_of-self-2 c =
    let old = c.self.inside in
    let behind = c.len-behind.result in
    let end : behind ≡ length c.push.new.self.items = search rules in
    record {
      rise = rise_held old.bytes.items c.push.new.self.items old.nexts.items c.push-2.new.self.items old.start behind 44 c.self.invariant.rise c.self.invariant.within c.in_ok-push.ensures.items end c.in_ok-push-2.ensures.items;
      within = search rules;
    }

pub returns : goal.returns
returns c =
    let old = c.self.inside in
    let behind = c.len-behind.result in
    let end : behind ≡ length c.push.new.self.items = search rules in
    cell_held old.bytes.items c.push.new.self.items old.nexts.items c.push-2.new.self.items old.start behind 44 c.args.self.now c.self.invariant.rise c.self.invariant.within c.in_ok-push.ensures.items end c.in_ok-push-2.ensures.items c.self.view_is
