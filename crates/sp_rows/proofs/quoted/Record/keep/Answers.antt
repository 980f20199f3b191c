use Rattle.sp_rows.proofs.Holds.{byte_held}
use Rattle.sp_rows.proofs.quoted.Record.keep.Goals as goal

pub returns : goal.returns
returns c =
    let old = c.self.inside in
    byte_held old.bytes.items c.push.new.self.items old.nexts.items old.start c.args.byte c.args.self.now c.self.invariant.rise c.self.invariant.within c.in_ok-push.ensures.items c.self.view_is
