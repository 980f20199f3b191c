use Rattle.std.proofs.Common.{sym, arith}
use Rattle.sp_sched.proofs.Numbers.{none_unless_led, none_unless_text, none_unless_parsed, none_past, number_there}
use Rattle.sp_sched.proofs.number.number.Goals as goal

pub returns-then-not-leads : goal.returns-then-not-leads
returns-then-not-leads c = none_unless_led _ _ (omega arith) (sym c.if-not-leads.ensures)

pub returns-in_default : goal.returns-in_default
returns-in_default c = none_unless_text _ _ (omega arith) c.in_default.ensures.cases.0

pub returns-in_default-parse : goal.returns-in_default-parse
returns-in_default-parse c = none_unless_parsed _ _ (omega arith) _ c.in-Ok.ensures.cases.0 _ _ c.parse.ensures.value.0 c.in_default-parse.is

pub returns-then-number-most : goal.returns-then-number-most
returns-then-number-most c = none_past _ _ (omega arith) _ c.in-Ok.ensures.cases.0 _ _ c.parse.ensures.value.0 c.in-Ok-parse.is (omega arith)

pub returns : goal.returns
returns c = number_there _ _ (omega arith) _ c.in-Ok.ensures.cases.0 _ _ (sym c.if-not-leads.ensures) c.parse.ensures.value.0 c.in-Ok-parse.is (omega arith)
