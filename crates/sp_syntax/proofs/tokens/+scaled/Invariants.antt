use Rattle.sp_syntax.proofs.tokens.+scaled.Given as goal

abbrev pub decreases-scaled : goal.decreases-scaled
decreases-scaled l = l.scale
