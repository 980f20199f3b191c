use Rattle.std.proofs.Common.{◌≡◌, None, Some, sym, ◌∙◌}
use Rattle.sp_compile.specs.Checks.{length_fault}
use Rattle.sp_compile.specs.Stages.{Misends}
use Rattle.sp_compile.proofs.Staged.{exit, err_says, names_known, length_ends, opening_ends, consume_ends}
use Rattle.sp_compile.proofs.compiling.opened.Goals as goal

pub returns-in_err-pass-clause-refused : goal.returns-in_err-pass-clause-refused
returns-in_err-pass-clause-refused c = exit (Misends c.args.query.now) _ _ c.from_residual.ensures.1 (length_ends c.args.query.now _ (sym c.length_fault.ensures ∙ c.in_err-pass.ensures.refused))

pub opening-requires-clause-named : goal.opening-requires-clause-named
opening-requires-clause-named c = names_known c.args.query.now c.args.names.now c.requires

pub returns-in_err-opening-clause-refused : goal.returns-in_err-opening-clause-refused
returns-in_err-opening-clause-refused c =
    let fits : length_fault c.args.query.now ≡ None = sym c.length_fault.ensures ∙ c.in_ok-pass.ensures.passes in
    exit (Misends c.args.query.now) _ _ c.from_residual-in_err-opening.ensures.1 (opening_ends c.args.query.now fits _ c.in_err-opening.ensures.refused)

pub returns-clause-refused : goal.returns-clause-refused
returns-clause-refused c =
    let fits : length_fault c.args.query.now ≡ None = sym c.length_fault.ensures ∙ c.in_ok-pass.ensures.passes in
    err_says (λ fault. c.consume_fault.result ≡ Some fault) (Misends c.args.query.now) c.checked.result (λ fault e. consume_ends c.args.query.now fits c.in_ok-opening.ensures.opening.checks fault (sym c.consume_fault.ensures ∙ e)) c.checked.ensures.refused
