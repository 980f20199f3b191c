use Rattle.std.proofs.Common.{◌∙◌, sym}
use Rattle.sp_lex.specs.Spelling.{is_letter, is_digit, is_quote}
use Rattle.sp_lex.proofs.Front as l
use Rattle.sp_lex.proofs.Longest.{no_token, digit_no_letter}
use Rattle.sp_lex.proofs.lexer.token_at.Goals as goal

pub returns-then-is_letter-clause-short : goal.returns-then-is_letter-clause-short
returns-then-is_letter-clause-short c =
    let x = c.in-Some.ensures.item in
    l.other_short is_letter _ digit_no_letter (l.heads_first is_letter _ _ _ x.3.0 (x.3.1 0) (sym c.is_letter.ensures ∙ c.if-is_letter.true))

pub returns-in-Some-mark_at-clause-short : goal.returns-in-Some-mark_at-clause-short
returns-in-Some-mark_at-clause-short c =
    let x = c.in-Some.ensures.item in
    l.not_long _ (l.heads_first is_digit _ _ _ x.3.0 (x.3.1 0) (sym c.is_digit.ensures ∙ c.if-is_digit.false))

pub returns-in-None-mark_at-clause-stops : goal.returns-in-None-mark_at-clause-stops
returns-in-None-mark_at-clause-stops c =
    let x = c.in-Some.ensures.item in
    let letter = l.heads_first is_letter _ _ _ x.3.0 (x.3.1 0) (sym c.is_letter.ensures ∙ c.if-is_letter.false) in
    let digit = l.heads_first is_digit _ _ _ x.3.0 (x.3.1 0) (sym c.is_digit.ensures ∙ c.if-is_digit.false) in
    let quote = l.heads_first is_quote _ _ _ x.3.0 (x.3.1 0) (l.no_quote _ c.if-first-eq39.false) in
    (quote, no_token _ letter digit quote c.in-None-mark_at.ensures)
