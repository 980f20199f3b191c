-- Which tokens may go on with a phrase that could end before them.
use Rattle.std.specs.Prelude.{Bool}
use Rattle.sp_lex.specs.declared.token.Token.{Token}
use Rattle.sp_query.specs.declared.mark.Mark.TheVariants as m
use Rattle.sp_query.specs.Grammar.{kernel, mark, name, times, plus, both_hold, one_holds}
use Rattle.sp_parse.specs.Reads.{reads_as, among}

-- a name, SET or the mark of a negated name, behind an element
abbrev pub element_head : Token → Bool
element_head = among (reads_as (kernel name)) (among (reads_as (kernel (mark m.Set))) (reads_as (kernel (mark m.Bang))))

-- a point, behind a name
abbrev pub after_factor : Token → Bool
after_factor = reads_as (kernel (mark m.Dot))

abbrev pub after_term : Token → Bool
after_term = among after_factor (reads_as (kernel times))

abbrev pub after_sum : Token → Bool
after_sum = among after_term (reads_as (kernel plus))

abbrev pub after_conj : Token → Bool
after_conj = among after_sum (reads_as (kernel both_hold))

abbrev pub after_pred : Token → Bool
after_pred = among after_conj (reads_as (kernel one_holds))

-- behind definitions also a comma
abbrev pub after_definitions : Token → Bool
after_definitions = among after_pred (reads_as (kernel (mark m.Comma)))
