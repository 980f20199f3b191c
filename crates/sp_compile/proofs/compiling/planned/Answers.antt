use Rattle.std.proofs.Common.{subst}
use Rattle.sp_compile.specs.Naming.{AreNames}
use Rattle.sp_compile.specs.Stages.{EndPasses}
use Rattle.sp_compile.specs.Told.{Refuses}
use Rattle.sp_compile.proofs.Staged.{exit, names_known, defines_refuse, ending_refuses, is_plan}
use Rattle.sp_compile.proofs.compiling.planned.Goals as goal

pub definitions-requires-clause-named : goal.definitions-requires-clause-named
definitions-requires-clause-named c = names_known c.args.query.now c.args.names.now c.requires

pub returns-in_err-planned-clause-refused : goal.returns-in_err-planned-clause-refused
returns-in_err-planned-clause-refused c =
    exit (Refuses c.args.query.now) _ _ c.from_residual-in_err-planned.ensures.1 (defines_refuse c.args.query.now c.args.names.now c.requires c.in_err-planned.field-0.0 c.in_err-planned.ensures.refused)

pub returns-in_err-opening-clause-refused : goal.returns-in_err-opening-clause-refused
returns-in_err-opening-clause-refused c =
    exit (Refuses c.args.query.now) _ _ c.from_residual-in_err-opening.ensures.1
    (ending_refuses c.args.query.now c.args.names.now c.requires c.in_ok-planned.ensures.names.checks c.in_err-opening.field-0.0 c.in_err-opening.ensures.refused)

pub shape-requires : goal.shape-requires
shape-requires c = names_known c.args.query.now c.args.names.now c.requires

pub joined-requires-clause-length : goal.joined-requires-clause-length
joined-requires-clause-length c = c.in_ok-opening.ensures.passes.fits

pub returns-clause-plan : goal.returns-clause-plan
returns-clause-plan c =
    let query = c.args.query.now in
    let texts = c.in_ok-texts.texts.items in
    let names = c.in_ok-planned.planned in
    let opening = c.in_ok-opening.opening in
    let named : AreNames query texts names = subst (λ l. AreNames query l names) c.deref.ensures.value c.in_ok-planned.ensures.names in
    let ends : EndPasses query texts opening = subst (λ l. EndPasses query l opening) c.deref-2.ensures.value c.in_ok-opening.ensures.passes in
    is_plan query c.args.names.now texts names opening c.requires named ends c.joined.result c.in_ok-texts.ensures c.joined.ensures
