use Rattle.std.proofs.Common.{sym, ◌∙◌}
use Rattle.sp_parse.proofs.Defines as d
use Rattle.sp_parse.proofs.definitions.every_or_when.Goals as goal

pub returns-then-begins : goal.returns-then-begins
returns-then-begins c = d.every_chosen c.args.room _ _ _ (sym c.begins.ensures ∙ c.if-begins.true) (c.every.ensures c.args.room)

pub returns : goal.returns
returns c = d.when_chosen c.args.room _ _ _ (sym c.begins.ensures ∙ c.if-begins.false) c.when.ensures
