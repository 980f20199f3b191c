use Rattle.std.proofs.Common.{◌-◌, length, sym, subst, ◌∙◌, arith}
use Rattle.sp_lex.specs.Spelling.{Refuses}
use Rattle.sp_lex.proofs.Lexing as l
use Rattle.sp_lex.proofs.Lexing.{Underway}
use Rattle.sp_lex.proofs.Faults.{fault_no_tokens, one_fault}
use Rattle.sp_lex.proofs.lexer.lex.Goals as goal

pub each-init : goal.each-init
each-init c =
    let text = c.args.text.now in
    subst (λ y. Underway text (length text - length y) y c.new-tokens.result.items) (sym c.as_bytes-rest.ensures.value)
    (subst (λ y. Underway text (length text - length text) text y) (sym c.new-tokens.ensures.items) (l.starts _ _ (omega arith)))

pub token_at-requires : goal.token_at-requires
token_at-requires c = l.place_here _ _ _ _ _ _ c.each.invariant c.skip-here.ensures.1

pub each-preserved : goal.each-preserved
each-preserved c =
    let text = c.args.text.now in
    let x = c.in-Ok.ensures.token in
    let s = c.skip-here.ensures in
    subst (λ y. Underway text (length text - length c.in-Ok.after.now) c.in-Ok.after.now y) (sym c.in_ok-push-in-Ok.ensures.items)
    (l.takes _ _ _ _ _ _ c.each.invariant (l.next_here _ _ _ _ _ _ _ (l.within _ _ _ _ c.each.invariant) s.1 s.2 x.cut x.token c.in-Ok.ensures.short))

pub each-smaller : goal.each-smaller
each-smaller c =
    let x = c.in-Ok.ensures.token in
    l.shorter _ _ _ _ _ _ c.skip-here.ensures.1 x.cut x.token.spells

pub returns-then-is_empty-clause-found : goal.returns-then-is_empty-clause-found
returns-then-is_empty-clause-found c = l.ends _ _ _ _ c.each.invariant (l.blank_rest _ _ _ c.skip-here.ensures.1 c.skip-here.ensures.2 (l.zero_of _ _ c.is_empty-in-each.ensures c.if-is_empty.true))

pub returns-then-is_empty-clause-only : goal.returns-then-is_empty-clause-only
returns-then-is_empty-clause-only c ts q = l.ends_only _ _ _ _ c.each.invariant (l.blank_rest _ _ _ c.skip-here.ensures.1 c.skip-here.ensures.2 (l.zero_of _ _ c.is_empty-in-each.ensures c.if-is_empty.true)) ts q

pub returns-in-Err-clause-only : goal.returns-in-Err-clause-only
returns-in-Err-clause-only c ts q =
    c.at.ensures ∙ l.refused _ _ _ _ _ _ _ _ c.each.invariant c.skip-here.ensures.1 c.skip-here.ensures.2 (l.positive_of _ _ c.is_empty-in-each.ensures c.if-is_empty.false) c.in-Err.ensures.stops ts q

pub returns-in-Err-clause-refused : goal.returns-in-Err-clause-refused
returns-in-Err-clause-refused c =
    let s = c.skip-here.ensures in
    subst (Refuses c.args.text.now) (sym c.at.ensures)
    (l.refuses _ _ _ _ _ _ _ _ c.each.invariant s.1 s.2 (l.positive_of _ _ c.is_empty-in-each.ensures c.if-is_empty.false) (l.from_here _ _ _ _ (l.within _ _ _ _ c.each.invariant) s.1) c.in-Err.ensures.stops)

pub returns-clause-found : goal.returns-clause-found
returns-clause-found c = l.ends _ _ _ _ c.each.invariant (l.empty_rest _ (l.zero_of _ _ c.is_empty.ensures c.each-test.false))

pub returns-clause-only : goal.returns-clause-only
returns-clause-only c ts q = l.ends_only _ _ _ _ c.each.invariant (l.empty_rest _ (l.zero_of _ _ c.is_empty.ensures c.each-test.false)) ts q

pub returns-then-is_empty-clause-faults : goal.returns-then-is_empty-clause-faults
returns-then-is_empty-clause-faults c fault x m = fault_no_tokens fault _ _ m x (returns-then-is_empty-clause-found c)

pub returns-clause-faults : goal.returns-clause-faults
returns-clause-faults c fault x m = fault_no_tokens fault _ _ m x (returns-clause-found c)

pub returns-in-Err-clause-faults : goal.returns-in-Err-clause-faults
returns-in-Err-clause-faults c fault x m = one_fault fault c.at.result _ m x (returns-in-Err-clause-refused c)
