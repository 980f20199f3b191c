use Rattle.std.proofs.Common.{◌≡◌, List, IfErr, map, rules, sym, ◌∙◌, ap, subst}
use Rattle.sp_lex.specs.declared.token.Span.{Span}
use Rattle.sp_plan.specs.declared.plan.Column.{Column}
use Rattle.sp_query.specs.declared.query.QueryColumn.{QueryColumn}
use Rattle.sp_compile.specs.Answers.{AreNamed}
use Rattle.sp_compile.specs.Scopes.{PatternName}
use Rattle.sp_returns.specs.Answers.{EmptyAnswer, Gone, Misreturns}
use Rattle.sp_returns.specs.Scopes.{idents_of, named_from, query_column}
use Rattle.sp_returns.specs.Stands.{RefusesReturns}
use Rattle.sp_returns.proofs.Readables.{item_named}
use Rattle.sp_returns.proofs.Returned.{answered, misreturned}
use Rattle.sp_returns.proofs.compiling.compiled.Goals as goal

pub slots-requires-clause-named : goal.slots-requires-clause-named
slots-requires-clause-named c =
    let from = c.args.from.now in
    let columns : c.deref-2.result.now ≡ map query_column from.schema.columns = c.deref-2.ensures.value ∙ c.in_ok-columns.ensures ∙ ap (map query_column) c.as_slice.ensures in
    let idents : c.deref.result.now ≡ idents_of from.names = c.deref.ensures.value ∙ c.in_ok-idents.ensures ∙ ap idents_of c.as_slice-2.ensures in
    let names : c.deref-3.result.now ≡ named_from from.elements 0 (idents_of from.names) = c.deref-3.ensures.value ∙ c.in_ok-names.ensures ∙ (λ i. named_from (c.as_slice-3.ensures i) 0 (idents i)) in
    subst (λ (l : List QueryColumn). AreNamed l c.deref-3.result.now) (sym columns) (subst (λ (l : List PatternName). AreNamed (map query_column from.schema.columns) l) (sym names) (item_named from c.requires.from))

pub returns-in_err-slots : goal.returns-in_err-slots
returns-in_err-slots c =
    let from = c.args.from.now in
    let known : RefusesReturns c.args.returns.now from c.args.into.now c.in_err-slots.field-0.0 = misreturned c.args.returns.now from c.args.into.now c.in_err-slots.field-0.0
    (subst (λ (l : List Column). Misreturns from c.args.returns.now l c.in_err-slots.field-0.0) c.as_slice-5.ensures c.in_err-slots.ensures.refused) in
    search rules

pub returns : goal.returns
returns c =
    let gone = subst (λ (l : List Column). Gone c.args.from.now c.args.returns.now l c.in_ok-slots.slots.items) c.as_slice-5.ensures c.in_ok-slots.ensures.gone in
    answered c.args.from.now c.args.returns.now c.args.into.now c.in_ok-slots.slots.items gone c.requires.from c.filled.result c.filled.ensures.all
    (subst (λ (b : Span). IfErr c.filled.result (λ fault. EmptyAnswer b c.in_ok-slots.slots.items fault)) c.behind.ensures c.filled.ensures.empty)
