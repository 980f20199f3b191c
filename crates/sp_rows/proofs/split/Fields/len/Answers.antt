use Rattle.std.proofs.Common.{sym}
use Rattle.sp_rows.proofs.Pieces.{pieces_count}
use Rattle.sp_rows.proofs.split.Fields.len.Goals as goal

pub returns : goal.returns
returns c = sym (pieces_count c.args.self.now.row.now 0 c.args.self.now.nexts.now)
