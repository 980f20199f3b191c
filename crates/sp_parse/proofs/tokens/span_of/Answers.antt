use Rattle.sp_parse.proofs.Spans.{spans}
use Rattle.sp_parse.proofs.tokens.span_of.Goals as goal

pub returns : goal.returns
returns c front e = spans front c.args.rest.now c.args.tokens.now _ _ e c.requires
