use Rattle.std.proofs.Common.{sym, ap, ◌∙◌}
use Rattle.sp_base.specs.Numbers.{is_among}
use Rattle.sp_match.proofs.taking.names.Goals as goal

pub returns : goal.returns
returns c = c.is_within.ensures ∙ sym (ap (λ ns. is_among ns c.args.name) c.span-first.ensures.names)
