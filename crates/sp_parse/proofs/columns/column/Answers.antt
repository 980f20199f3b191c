use Rattle.sp_parse.proofs.Reading.{exit}
use Rattle.sp_parse.proofs.EventClause as l
use Rattle.sp_parse.proofs.columns.column.Goals as goal

pub returns-in_err-name : goal.returns-in_err-name
returns-in_err-name c room = exit _ _ room _ _ _ _ c.from_residual.ensures.1 (l.column_name_stops room _ _ (c.in_err-name.ensures room))

pub returns-in_err-kind : goal.returns-in_err-kind
returns-in_err-kind c room = exit _ _ room _ _ _ _ c.from_residual-in_err-kind.ensures.1 (l.column_kind_stops room _ _ _ _ (c.in_ok-name.ensures room) (c.in_err-kind.ensures room))

pub span_of-span-requires : goal.span_of-span-requires
span_of-span-requires c = l.column_shorter 0 _ _ _ _ _ (c.in_ok-name.ensures 0) (c.in_ok-kind.ensures 0)

pub returns : goal.returns
returns c room = l.column_found room _ _ _ _ _ _ (c.in_ok-name.ensures room) (c.in_ok-kind.ensures room) c.span_of-span.ensures
