use Rattle.std.proofs.Common.{rules, sym}
use Rattle.sp_split.proofs.Both.{both_parts}
use Rattle.sp_split.proofs.driving.drive_shared.Goals as goal

pub returns-clause-ends : goal.returns-clause-ends
returns-clause-ends g c =
    let names = both_parts _ _ _ _ c.with_register-ended.ensures.same.1 in
    let outs = both_parts _ _ _ _ c.with_register-ended.ensures.same_out.1 in
    rw (c.intake-1.given.1 (sym names.0), c.outlet-1.given.1 (sym outs.0)) c.with_register-ended.ensures.ends

pub returns-clause-same : goal.returns-clause-same
returns-clause-same g c = let names = both_parts _ _ _ _ c.with_register-ended.ensures.same.1 in search rules

pub returns-clause-same_out : goal.returns-clause-same_out
returns-clause-same_out g c = let names = both_parts _ _ _ _ c.with_register-ended.ensures.same_out.1 in search rules

pub returns-clause-prompt : goal.returns-clause-prompt
returns-clause-prompt g c =
    let names = both_parts _ _ _ _ c.with_register-ended.ensures.same.1 in
    let outs = both_parts _ _ _ _ c.with_register-ended.ensures.same_out.1 in
    search rules
