use Rattle.std.proofs.Common.{◌≡◌, sym, subst, rules}
use Rattle.std.specs.Str.Lossy.{utf8_valid_len}
use Rattle.sp_load.specs.Queries.{IsFaulty, no_text}
use Rattle.sp_load.proofs.place.plan_of_bytes.Goals as goal

pub returns-in-Err-clause-refused : goal.returns-in-Err-clause-refused
returns-in-Err-clause-refused c =
    let same : c.valid_up_to.result ≡ utf8_valid_len c.args.bytes.now = search rules in
    subst (IsFaulty c.args.bytes.now 1) (sym same) (no_text c.in-Err.ensures.cases.0)
