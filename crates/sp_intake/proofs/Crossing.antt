-- An input may go from one thread to another where its source may: shown part by part, since a search for the whole at once gives up.
use denote.Param.Send.{IsSend, IsSync, recorded_send, struct_send, mut_send, sendable}
use denote.Struct.Declared.{shape}
use denote.Ref.{NamedLft}
use denote.RattleType.{RattleType}
use Rattle.std.proofs.Crossing.{crosses}
use Rattle.std.proofs.MapsCrossing.{BTreeMap-send}
use Rattle.sp_plan.proofs.plan.Expr.TheLaws.TheKnot as expr_knot
use Rattle.sp_plan.proofs.plan.Pred.TheLaws.TheKnot as pred_knot
use Rattle.sp_plan.proofs.plan.Compare.TheSendSync as compare
use Rattle.sp_plan.proofs.Listed.TheSendSync as listed
use Rattle.sp_plan.proofs.Text.TheSendSync as text
use Rattle.sp_plan.proofs.plan.Schema.TheSendSync as schema
use Rattle.sp_plan.proofs.plan.Element.TheSendSync as element
use Rattle.sp_plan.proofs.plan.Select.TheSendSync as select
use Rattle.sp_plan.proofs.plan.Length.TheSendSync as lengths
use Rattle.sp_plan.specs.contracts.plan.Expr as expr
use Rattle.sp_plan.specs.contracts.plan.Pred as pred
use Rattle.sp_plan.specs.contracts.plan.Plan as plan
use Rattle.sp_rows.specs.contracts.rows.Rows as rows
use Rattle.sp_intake.specs.contracts.reader.RowReader as reader
use Rattle.sp_slack.specs.contracts.slack.Slack as slack
use Rattle.sp_slack.specs.contracts.waiting.Waiting as waiting
use Rattle.sp_intake.specs.contracts.held.Held as held
use Rattle.sp_intake.specs.contracts.events.EventReader as events
use Rattle.sp_intake.specs.contracts.giving.Input as input

expr_sent : IsSend expr.the_field.row
expr_sent = search (expr_knot.send-Expr, sendable, crosses) depth 30

expr_common : IsSync expr.the_field.row
expr_common = search (expr_knot.sync-Expr, sendable, crosses) depth 30

pred_sent : IsSend pred.the_field.row
pred_sent = pred_knot.send-Pred compare.the_field_send expr_sent (search (sendable, crosses) depth 30)

pred_common : IsSync pred.the_field.row
pred_common = pred_knot.sync-Pred compare.the_field_sync expr_common (search (sendable, crosses) depth 30)

plan_sent : IsSend plan.the_row
plan_sent = search (pred_sent, listed.the_send, text.the_send, schema.the_field_send, element.the_send, select.the_field_send, lengths.the_field_send, sendable, crosses) depth 30

plan_common : IsSync plan.the_row
plan_common = search (pred_common, listed.the_sync, text.the_sync, schema.the_field_sync, element.the_sync, select.the_field_sync, lengths.the_field_sync, sendable, crosses) depth 30

rows_sent : IsSend rows.the_field.row
rows_sent =
    struct_send (shape rows.the_type)
    (search (plan_sent, plan_common, sendable, crosses) depth 30, (search (sendable, crosses) depth 30, (search (sendable, crosses) depth 30, (search (sendable, crosses) depth 30, (search (sendable, crosses) depth 30, (search (sendable, crosses) depth 30, (search (sendable, crosses) depth 30, tt)))))))

reader_sent : IsSend reader.the_field.row
reader_sent =
    struct_send (shape reader.the_type)
    (search (sendable, crosses) depth 30, (rows_sent, (search (sendable, crosses) depth 30, (search (sendable, crosses) depth 30, (search (sendable, crosses) depth 30, (search (sendable, crosses) depth 30, (search (sendable, crosses) depth 30, (search (sendable, crosses) depth 30, tt))))))))

waiting_sent : IsSend waiting.the_field.row
waiting_sent =
    struct_send (shape waiting.the_type)
    (search (sendable, crosses) depth 30, (search (BTreeMap-send, sendable, crosses) depth 30, (search (sendable, crosses) depth 30, (search (sendable, crosses) depth 30, tt))))

slack_sent : IsSend slack.the_field.row
slack_sent =
    struct_send (shape slack.the_type)
    (search (sendable, crosses) depth 30, (waiting_sent, (search (sendable, crosses) depth 30, (search (sendable, crosses) depth 30, (search (sendable, crosses) depth 30, tt)))))

held_sent : IsSend held.the_field.row
held_sent = struct_send (shape held.the_type) (slack_sent, (search (sendable, crosses) depth 30, tt))

events_sent : IsSend events.the_field.row
events_sent = struct_send (shape events.the_type) (reader_sent, (search (held_sent, sendable, crosses) depth 30, (search (sendable, crosses) depth 30, tt)))

pub input_sent : (l : NamedLft) (S : RattleType) → IsSend S → IsSend (input.the_row l S)
input_sent l S sent =
    recorded_send _ _ _ (input.the_type l S).to_one (struct_send (shape (input.the_type l S)) (mut_send _ _ _ sent, (events_sent, (search (sendable, crosses) depth 30, tt))))
