-- Which tokens may go on with items.
use Rattle.std.specs.Prelude.{Bool}
use Rattle.sp_lex.specs.declared.token.Token.{Token}
use Rattle.sp_query.specs.declared.mark.Mark.TheVariants as m
use Rattle.sp_query.specs.Grammar.{kernel, mark}
use Rattle.sp_parse.specs.Reads.{never, reads_as, among}

-- a comma
abbrev pub after_items : Token → Bool
after_items = among never (reads_as (kernel (mark m.Comma)))
