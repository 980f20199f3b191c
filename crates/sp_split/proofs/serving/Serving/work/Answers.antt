use Rattle.std.proofs.Common.{ap, refl, subst, sym, ◌∙◌}
use Rattle.std.specs.Prelude.{OnOk}
use Rattle.sp_splitter.specs.Stages.{matches_of}
use Rattle.sp_split.specs.declared.relay.Team.{Team}
use Rattle.sp_split.specs.Serving.{CameServing, IsServing}
use Rattle.sp_split.specs.Stages.{Advanced}
use Rattle.sp_split.proofs.Advanced.{advanced_by, if_ok_on, ready_behind, serving_came_on}
use Rattle.sp_split.proofs.Due.{due_later}
use Rattle.sp_split.proofs.Relieved.{relieved_learned, relieved_then}
use Rattle.sp_split.proofs.Turns.{err_any}
use Rattle.sp_split.proofs.serving.Serving.work.Goals as goal

pub relieve-requires : goal.relieve-requires
relieve-requires g c = due_later c.args.self.now.relay c.args.self.now.desk.splitter.core.machine.finished c.turn.new.self.core.machine.finished c.turn.ensures.went.finished c.requires.due

pub returns-in_err-finished-clause-relieved : goal.returns-in_err-finished-clause-relieved
returns-in_err-finished-clause-relieved g c =
    let it = c.args.self.now in
    relieved_learned (λ one. (goal.Predictor-dyn g (one.vtable, one.value)).named one.value) (record { first = it.desk.splitter.predictor; relay = it.relay }) (record { first = c.turn.new.self.predictor; relay = it.relay }) c.turn.ensures.name refl

pub returns-in_err-finished-clause-short : goal.returns-in_err-finished-clause-short
returns-in_err-finished-clause-short g c =
    let old = c.args.self.now.desk.splitter in
    let went = c.turn.ensures.went in
    err_any _ c.from_residual.result (went.more, advanced_by old.instances _ old.core c.turn.new.self.core went.more went went.emitted)

pub returns-in_err-finished-clause-came : goal.returns-in_err-finished-clause-came
returns-in_err-finished-clause-came g c =
    let desk = c.args.self.now.desk in
    let old = desk.splitter in
    let new = c.turn.new.self in
    serving_came_on new.instances old.instances new.batch old.batch old.kept.items old.core new.core desk.by c.turn.new.by desk.seat c.turn.ensures.rest.0 c.turn.ensures.rest.1 c.turn.ensures.went c.turn.ensures.read
    c.turn.ensures.open c.requires.ready

pub returns-clause-relieved : goal.returns-clause-relieved
returns-clause-relieved g c =
    let it = c.args.self.now in
    let old : Team _ _ = record { first = it.desk.splitter.predictor; relay = it.relay } in
    let learned : Team _ _ = record { first = c.turn.new.self.predictor; relay = it.relay } in
    let new : Team _ _ = record { first = c.relieve.new.splitter.predictor; relay = c.relieve.new.relay } in
    relieved_then (λ one. (goal.Predictor-dyn g (one.vtable, one.value)).named one.value) old learned new (relieved_learned _ old learned c.turn.ensures.name refl) c.relieve.ensures.relieved

pub returns-clause-done : goal.returns-clause-done
returns-clause-done g c =
    let old = c.args.self.now.desk.splitter in
    let new = c.turn.new.self in
    subst (λ z. Advanced old.core z.core (matches_of c.in_ok-finished.finished.items)) (sym c.relieve.ensures.rest)
    (advanced_by old.instances _ old.core new.core _ c.turn.ensures.went c.in_ok-finished.ensures.turned.emitted)

pub returns-clause-ready : goal.returns-clause-ready
returns-clause-ready g c =
    let desk = c.args.self.now.desk in
    let old = desk.splitter in
    let new = c.turn.new.self in
    let ready = ready_behind new.instances old.instances new.batch old.batch old.kept.items new.kept.items old.core new.core desk.by c.turn.new.by desk.seat c.turn.result c.turn.ensures.rest.0 c.turn.ensures.rest.1
    c.turn.ensures.went (if_ok_on _ _ c.turn.result (λ x t. t.goes) c.turn.ensures.turned) c.turn.ensures.read c.turn.ensures.room c.turn.ensures.open c.turn.ensures.last c.requires.ready in (
      subst (λ z. IsServing z.instances z.batch z.kept.items z.core c.turn.new.by desk.seat) (sym c.relieve.ensures.rest)
          (subst (λ r. OnOk r (IsServing new.instances new.batch new.kept.items new.core c.turn.new.by desk.seat)) c.in_ok-finished.was ready),
      c.relieve.ensures.due,
    )

pub returns-clause-came : goal.returns-clause-came
returns-clause-came g c =
    let desk = c.args.self.now.desk in
    let old = desk.splitter in
    let new = c.turn.new.self in
    subst (λ z. CameServing z.instances z.batch z.core c.turn.new.by) (sym c.relieve.ensures.rest)
    (serving_came_on new.instances old.instances new.batch old.batch old.kept.items old.core new.core desk.by c.turn.new.by desk.seat c.turn.ensures.rest.0 c.turn.ensures.rest.1 c.turn.ensures.went c.turn.ensures.read
    c.turn.ensures.open c.requires.ready)

pub returns-clause-terms : goal.returns-clause-terms
returns-clause-terms g c = (ap (λ z. z.instances) c.relieve.ensures.rest ∙ c.turn.ensures.rest.0, ap (λ z. z.batch) c.relieve.ensures.rest ∙ c.turn.ensures.rest.1)
