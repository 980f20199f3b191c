-- A matcher that several hold may go from one thread to another: shown part by part, since a search for the whole at once gives up.
use denote.Param.Send.{IsSend, IsSync, sendable}
use Rattle.std.proofs.Crossing.{crosses}
use Rattle.sp_plan.proofs.plan.Expr.TheLaws.TheKnot as expr_knot
use Rattle.sp_plan.proofs.plan.Pred.TheLaws.TheKnot as pred_knot
use Rattle.sp_plan.proofs.plan.Compare.TheSendSync as compare
use Rattle.sp_plan.proofs.Listed.TheSendSync as listed
use Rattle.sp_plan.proofs.Text.TheSendSync as text
use Rattle.sp_plan.proofs.plan.Schema.TheSendSync as schema
use Rattle.sp_plan.proofs.plan.Element.TheSendSync as element
use Rattle.sp_plan.proofs.plan.Select.TheSendSync as select
use Rattle.sp_plan.proofs.plan.Length.TheSendSync as lengths
use Rattle.sp_plan.specs.contracts.plan.Expr as expr
use Rattle.sp_plan.specs.contracts.plan.Pred as pred
use Rattle.sp_plan.specs.contracts.plan.Plan as plan
use Rattle.sp_match.proofs.run.Run.TheSendSync as run
use Rattle.sp_match.proofs.stock.Stock.TheSendSync as stock
use Rattle.sp_match.specs.contracts.matcher.Matcher as matcher
use Rattle.sp_share.specs.contracts.shared.Shared as shared

expr_sent : IsSend expr.the_field.row
expr_sent = search (expr_knot.send-Expr, sendable, crosses) depth 30

expr_common : IsSync expr.the_field.row
expr_common = search (expr_knot.sync-Expr, sendable, crosses) depth 30

pred_sent : IsSend pred.the_field.row
pred_sent = pred_knot.send-Pred compare.the_field_send expr_sent (search (sendable, crosses) depth 30)

pred_common : IsSync pred.the_field.row
pred_common = pred_knot.sync-Pred compare.the_field_sync expr_common (search (sendable, crosses) depth 30)

plan_sent : IsSend plan.the_row
plan_sent = search (pred_sent, listed.the_send, text.the_send, schema.the_field_send, element.the_send, select.the_field_send, lengths.the_field_send, sendable, crosses) depth 30

plan_common : IsSync plan.the_row
plan_common = search (pred_common, listed.the_sync, text.the_sync, schema.the_field_sync, element.the_sync, select.the_field_sync, lengths.the_field_sync, sendable, crosses) depth 30

pub matcher_sent : IsSend matcher.the_row
matcher_sent = search (plan_sent, plan_common, run.the_send, stock.the_send, sendable, crosses) depth 30

pub matcher_common : IsSync matcher.the_row
matcher_common = search (plan_sent, plan_common, run.the_sync, stock.the_sync, sendable, crosses) depth 30

pub shared_sent : IsSend shared.the_row
shared_sent = search (matcher_sent, matcher_common, sendable, crosses) depth 30
