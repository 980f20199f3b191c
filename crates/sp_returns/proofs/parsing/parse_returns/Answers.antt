use Rattle.std.proofs.Common.{◌≡◌, ◌∙◌, sym, subst}
use Rattle.sp_parse.specs.declared.stop.Stop.TheVariants as stop
use Rattle.sp_returns.specs.Parses.{Halts}
use Rattle.sp_returns.proofs.Places as f
use Rattle.sp_returns.proofs.parsing.parse_returns.Goals as goal

pub returns-in-Ok-parse_tokens-clause-only : goal.returns-in-Ok-parse_tokens-clause-only
returns-in-Ok-parse_tokens-clause-only c returns q = c.in-Ok-parse_tokens.ensures.all returns (f.derives_too _ _ _ c.deref.ensures.value c.in-Ok.ensures.only returns q)

pub returns-in-Ok-parse_tokens-clause-faults : goal.returns-in-Ok-parse_tokens-clause-faults
returns-in-Ok-parse_tokens-clause-faults c = f.faultless _ _ _ c.deref.ensures.value c.in-Ok.ensures.only c.in-Ok.ensures.faults _ c.in-Ok-parse_tokens.ensures.found

pub returns-in-Err-Unexpected-clause-only : goal.returns-in-Err-Unexpected-clause-only
returns-in-Err-Unexpected-clause-only c returns q =
    let e : stop.Unexpected c.in-Err-Unexpected.left ≡ stop.Memory = sym c.in-Err-Unexpected.field-0-is ∙ c.in-Err-Unexpected.ensures.all returns (f.derives_too _ _ _ c.deref.ensures.value c.in-Ok.ensures.only returns q) in
    absurd cc

pub returns-in-Err-Unexpected-clause-faults : goal.returns-in-Err-Unexpected-clause-faults
returns-in-Err-Unexpected-clause-faults c = f.unexpected_only _ _ _ c.deref.ensures.value c.in-Ok.ensures.only c.in-Ok.ensures.faults c.in-Err-Unexpected.left c.place_of.result
    (λ front rest e h. c.place_of.ensures front rest (c.deref-in-Err-Unexpected.ensures.value ∙ sym c.deref.ensures.value ∙ e) h)
    (subst (λ x. Halts c.deref.result.now x) c.in-Err-Unexpected.field-0-is c.in-Err-Unexpected.ensures.halts)

pub returns-clause-only : goal.returns-clause-only
returns-clause-only c returns q =
    let e : stop.TooDeep c.in-Err-TooDeep.left ≡ stop.Memory = sym c.in-Err-TooDeep.field-0-is ∙ c.in-Err-TooDeep.ensures.all returns (f.derives_too _ _ _ c.deref.ensures.value c.in-Ok.ensures.only returns q) in
    absurd cc

pub returns-clause-faults : goal.returns-clause-faults
returns-clause-faults c = f.deep_only _ _ _ c.deref.ensures.value c.in-Ok.ensures.only c.in-Ok.ensures.faults c.in-Err-TooDeep.left c.place_of-in-Err-TooDeep.result
    (λ front rest e h. c.place_of-in-Err-TooDeep.ensures front rest (c.deref-in-Err-TooDeep.ensures.value ∙ sym c.deref.ensures.value ∙ e) h)
    (subst (λ x. Halts c.deref.result.now x) c.in-Err-TooDeep.field-0-is c.in-Err-TooDeep.ensures.halts)
