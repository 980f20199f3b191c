use Rattle.sp_query.specs.Grammar.{Definition}
use Rattle.sp_parse.specs.Follow.{after_pred}
use Rattle.sp_parse.proofs.Reading.{exit, read_found, read_stops}
use Rattle.sp_parse.proofs.Forms as f
use Rattle.sp_parse.proofs.Defines.{comma_apart}
use Rattle.sp_parse.proofs.definitions.definition_list.Goals as goal

pub returns-in_err-list : goal.returns-in_err-list
returns-in_err-list c = exit _ _ _ _ _ _ _ c.from_residual.ensures.1 (f.list_first_stops Definition after_pred comma_apart c.args.room _ _ (read_stops Definition after_pred c.args.room _ _ _ c.definition.ensures c.in_err-list.ensures))

pub each-init : goal.each-init
each-init c = f.list_sets_out Definition after_pred comma_apart c.args.room _ _ _ _ _ c.new.ensures c.in_ok-list.ensures.2 (read_found Definition after_pred c.args.room _ _ _ _ c.definition.ensures c.in_ok-list.ensures.1)

pub returns-in_err-list-2 : goal.returns-in_err-list-2
returns-in_err-list-2 c = exit _ _ _ _ _ _ _ c.from_residual-in_err-list-2.ensures.1 (f.list_next_stops Definition after_pred comma_apart c.args.room _ _ _ _ _ c.in-Some.ensures c.each.invariant (read_stops Definition after_pred c.args.room _ _ _ c.definition-in-Some.ensures c.in_err-list-2.ensures))

pub each-preserved : goal.each-preserved
each-preserved c = f.list_goes_on Definition after_pred comma_apart c.args.room _ _ _ _ _ _ _ c.in_ok-list-2.ensures.2 c.in-Some.ensures c.each.invariant (read_found Definition after_pred c.args.room _ _ _ _ c.definition-in-Some.ensures c.in_ok-list-2.ensures.1)

pub returns : goal.returns
returns c = f.list_arrives Definition after_pred comma_apart c.args.room _ _ _ c.in_default.ensures c.each.invariant
