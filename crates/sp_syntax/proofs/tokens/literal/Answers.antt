use Rattle.std.proofs.Common.{Some, None, rules, arith}
use Rattle.std.proofs.lemmas.Str.Pattern.{split_parts}
use Rattle.sp_syntax.proofs.Adding.{piece_doubled, last_doubled}
use Rattle.sp_syntax.proofs.tokens.literal.Goals as goal

pub each-preserved : goal.each-preserved
each-preserved c =
    let parts = split_parts 39 c.each.rest.now (Some (c.in-Some.piece, c.in-Some.behind)) c.in-Some.ensures.cases (omega arith) in
    record { utf8 = search rules; writes = piece_doubled _ _ _ _ _ _ _ c.each.invariant.writes parts.0 parts.1 c.in_ok-push_str-2.ensures.bytes c.in_ok-push_str-3.ensures.bytes }

pub returns : goal.returns
returns c = last_doubled _ _ _ c.args.text.now _ _ c.each.invariant.writes (split_parts 39 c.each.rest.now None c.in_default.ensures.cases (omega arith)) c.in_ok-push_str-4.ensures.bytes c.in_ok-push_str-5.ensures.bytes
