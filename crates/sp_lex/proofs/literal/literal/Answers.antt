use Rattle.std.proofs.Common.{◌≡◌, ◌++◌, ◌∷◌, [], Some, None, string_bytes, sym, subst, rules, arith}
use Rattle.std.proofs.lemmas.Str.Pattern.{split_parts, strip_prefix_char}
use Rattle.sp_lex.specs.Reading.{Inside}
use Rattle.sp_lex.proofs.Literals.{Within, piece_on, piece_closes, never_closes}
use Rattle.sp_lex.proofs.literal.literal.Goals as goal

pub each-preserved : goal.each-preserved
each-preserved c =
    let parts = split_parts 39 c.each.rest.now (Some (c.in-Some.piece, c.in-Some.behind)) c.in-Some.ensures.cases (omega arith) in
    let next = strip_prefix_char 39 c.in-Some.behind.now (Some c.in-Some-strip_prefix.more) c.in-Some-strip_prefix.ensures.cases (omega arith) in
    let e : string_bytes c.push.new.self ≡ (string_bytes c.each.value ++ c.in-Some.piece.now) ++ 39 ∷ [] = search rules in
    record { utf8 = search rules; reads = subst (λ v. Within c.args.text.now v c.in-Some-strip_prefix.more.now) (sym e) (piece_on _ _ _ _ _ _ c.each.invariant.reads parts.0 parts.1 next) }

pub returns-in-None-clause-found : goal.returns-in-None-clause-found
returns-in-None-clause-found c =
    let parts = split_parts 39 c.each.rest.now (Some (c.in-Some.piece, c.in-Some.behind)) c.in-Some.ensures.cases (omega arith) in
    let next = strip_prefix_char 39 c.in-Some.behind.now None c.in-None.ensures.cases (omega arith) in
    let e : c.of.result ≡ string_bytes c.each.value ++ c.in-Some.piece.now = search rules in
    subst (λ v. Inside c.args.text.now v c.in-Some.behind.now) (sym e) (piece_closes _ _ _ _ _ c.each.invariant.reads parts.0 parts.1 next)

pub returns-clause-none : goal.returns-clause-none
returns-clause-none c = never_closes _ _ _ c.each.invariant.reads (split_parts 39 c.each.rest.now None c.in_default.ensures.cases (omega arith))
