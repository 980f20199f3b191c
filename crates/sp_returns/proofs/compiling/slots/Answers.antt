use Rattle.std.proofs.Common.{ℕ, ◌+◌, List, Option, arith, rules, subst, sym, take}
use Rattle.std.proofs.lemmas.Slice.Zip.{AllZip-long}
use Rattle.sp_plan.specs.declared.plan.Column.{Column}
use Rattle.sp_plan.specs.declared.plan.Expr.{Expr}
use Rattle.sp_compile.specs.Scopes.{Scope}
use Rattle.sp_returns.specs.Answers.{Fitted, Misfits, Misreturns, SlotFor}
use Rattle.sp_returns.specs.Scopes.{item_scope}
use Rattle.sp_returns.proofs.Slots.{Through, misnamed_here, unfit_here, fitted_here}
use Rattle.sp_returns.proofs.compiling.slots.Goals as goal

pub returns-in_err-place-clause-refused : goal.returns-in_err-place-clause-refused
returns-in_err-place-clause-refused c =
    let from = c.args.from.now in
    let known : Misreturns from c.args.returns.now c.args.columns.now c.in_err-place.field-0.0 =
    misnamed_here from c.args.returns.now c.args.columns.now c.loop-at.at c.loop-at.slots.items c.index-returns-at.result c.loop-at-test.true c.index-returns-at.is c.loop-at.invariant c.in_err-place.field-0.0
    (c.in_err-place.ensures (item_scope from)) in
    search rules

pub returns-in_err-expr-clause-refused : goal.returns-in_err-expr-clause-refused
returns-in_err-expr-clause-refused c =
    let from = c.args.from.now in
    let item = c.index-returns-at.result in
    let column = c.index-columns-place.result in
    let wrong : Misfits c.args.scope.now column.kind item.tree c.in_err-expr.field-0.0 = subst (λ (one : Column). Misfits c.args.scope.now one.kind item.tree c.in_err-expr.field-0.0) (sym c.index-columns-place.is) c.in_err-expr.ensures in
    let known : Misreturns from c.args.returns.now c.args.columns.now c.in_err-expr.field-0.0 =
    unfit_here from c.args.returns.now c.args.columns.now c.loop-at.at c.loop-at.slots.items item c.loop-at-test.true c.index-returns-at.is c.loop-at.invariant c.in_ok-place.place column c.index-columns-place.is c.in_ok-place.ensures
    c.in_err-expr.field-0.0 (subst (λ (s : Scope). Misfits s column.kind item.tree c.in_err-expr.field-0.0) c.requires.scope wrong) in
    search rules

pub fill-requires : goal.fill-requires
fill-requires c =
    let many = AllZip-long (SlotFor c.args.from.now (take c.loop-at.at c.args.returns.now)) c.args.columns.now c.loop-at.slots.items c.loop-at.invariant.slots_are in
    omega (arith, many, c.in_ok-place.ensures.0)

pub loop-at-preserved : goal.loop-at-preserved
loop-at-preserved c =
    let from = c.args.from.now in
    let item = c.index-returns-at.result in
    let column = c.index-columns-place.result in
    let expr = c.in_ok-expr.expr in
    let made : Fitted c.args.scope.now c.as_slice-texts.result.now column.kind item.tree expr =
    subst (λ (one : Column). Fitted c.args.scope.now c.as_slice-texts.result.now one.kind item.tree expr) (sym c.index-columns-place.is) c.in_ok-expr.ensures in
    let over : Fitted (item_scope from) c.as_slice-texts.result.now column.kind item.tree expr = subst (λ (s : Scope). Fitted s c.as_slice-texts.result.now column.kind item.tree expr) c.requires.scope made in
    let fit : Fitted (item_scope from) from.texts column.kind item.tree expr = subst (λ (t : List (List ℕ)). Fitted (item_scope from) t column.kind item.tree expr) c.as_slice-texts.ensures over in
    subst (λ (l : List (Option Expr)). Through from c.args.returns.now c.args.columns.now (c.loop-at.at + 1) l) (sym c.fill.ensures)
    (fitted_here from c.args.returns.now c.args.columns.now c.loop-at.at c.loop-at.slots.items item c.loop-at-test.true c.index-returns-at.is c.loop-at.invariant c.in_ok-place.place column c.index-columns-place.is c.in_ok-place.ensures
    expr c.requires.apart fit)
