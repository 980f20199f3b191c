use Rattle.std.proofs.Common.{sym, subst}
use Rattle.sp_returns.specs.Grammar.{IsReturnList}
use Rattle.sp_returns.proofs.Refusing.{parse_refused, compile_refused}
use Rattle.sp_returns.proofs.loading.returns_of_text.Goals as goal

pub returns-in-Err-clause-refused : goal.returns-in-Err-clause-refused
returns-in-Err-clause-refused c = parse_refused c.args.text.now c.args.from.now c.args.into.now c.no_items.result c.in-Err.fault c.in-Err.ensures.refused c.no_items.ensures.memory c.no_items.ensures.other

pub returns-clause-refused : goal.returns-clause-refused
returns-clause-refused c =
    compile_refused c.args.text.now c.args.from.now c.args.into.now c.no_returns.result c.deref.result.now (subst (IsReturnList c.args.text.now) (sym c.deref.ensures.value) c.in-Ok.ensures.found)
    c.in-Err-compile_returns.fault c.in-Err-compile_returns.ensures.refused c.no_returns.ensures.memory c.no_returns.ensures.other
