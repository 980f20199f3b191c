use Rattle.std.proofs.Common.{[], ◌∷◌, ◌++◌, Ok, refl, sym, ◌∙◌, ap, subst}
use Rattle.std.specs.Prelude.{Option}
use Rattle.sp_plan.specs.declared.event.Event.{Event}
use Rattle.sp_intake.specs.declared.reader.Step.{Step}
use Rattle.sp_intake.specs.RowsSeen.{rows_at}
use Rattle.sp_intake.specs.Reader.{event_in}
use Rattle.sp_intake.specs.Standing.{RowsGive, Reads}
use Rattle.sp_intake.proofs.AllGiven.{short_all}
use Rattle.sp_intake.proofs.Since.{rows_more, rows_still}
use Rattle.sp_intake.proofs.all.read_all.Goals as goal
use Rattle.sp_intake.proofs.all.read_all.Goals.{in-Event+in-Some+in_ok-push-in-Event, in-Event+in_default, in-Ask}

pub returns-in_err-poll : goal.returns-in_err-poll
returns-in_err-poll g c =
    let source = g.S.Source.state c.loop.input in
    let old = rows_at (g.S.Source.state c.args.input.now) c.args.rows.now in
    let here = rows_at source c.loop.rows in
    let new = rows_at source c.poll.new.self in
    record { all = short_all old new c.loop.events.items c.from_residual.result c.from_residual.ensures.0 (rows_still old here new c.loop.events.items c.loop.invariant.gives ([], c.in_err-poll.ensures.reads source)) }

pub returns-in_err-push-in-Event : goal.returns-in_err-push-in-Event
returns-in_err-push-in-Event g c =
    let source = g.S.Source.state c.loop.input in
    let old = rows_at (g.S.Source.state c.args.input.now) c.args.rows.now in
    let here = rows_at source c.loop.rows in
    let new = rows_at source c.poll.new.self in
    let polled : Reads here [] (event_in c.poll.new.event) new = rw c.in-Event.is at c.in_ok-poll.ensures.reads source in
    let given : RowsGive here (c.in-Some.event ∷ []) new = subst (λ (put : Option Event). RowsGive here (event_in put) new) (sym c.take.ensures.value ∙ c.in-Some.is) ([], polled) in
    record { all = short_all old new (c.loop.events.items ++ c.in-Some.event ∷ []) c.from_residual-in_err-push-in-Event.result c.from_residual-in_err-push-in-Event.ensures.0 (rows_more old here new c.loop.events.items (c.in-Some.event ∷ []) c.poll.new.self.few c.loop.invariant.gives given) }

pub returns-in-Stop : goal.returns-in-Stop
returns-in-Stop g c =
    let source = g.S.Source.state c.loop.input in
    let old = rows_at (g.S.Source.state c.args.input.now) c.args.rows.now in
    let here = rows_at source c.loop.rows in
    let new = rows_at source c.poll.new.self in
    let polled : Reads here [] [] new = rw c.in-Stop.is at c.in_ok-poll.ensures.reads source in
    record {
      all = record {
        events = c.loop.events.items;
        gives = rows_still old here new c.loop.events.items c.loop.invariant.gives ([], polled);
        given = refl;
        stop = c.in_ok-poll.ensures.stop c.in-Stop.stop (ap (λ (told : Step). Ok told) c.in-Stop.is);
      };
    }

pub loop-preserved : goal.loop-preserved
loop-preserved g c =
    let source = g.S.Source.state c.loop.input in
    let old = rows_at (g.S.Source.state c.args.input.now) c.args.rows.now in
    let here = rows_at source c.loop.rows in
    let new = rows_at source c.poll.new.self in
    let now = rows_at (g.S.Source.state c.match-branch-2.input) c.match-branch-2.rows in
    let gives : RowsGive old c.match-branch-2.events.items now = elim c.match-branch-2.branch [
      | in-Event+in-Some+in_ok-push-in-Event w ↦
          let polled : Reads here [] (event_in c.poll.new.event) new = rw w.in-Event.is at c.in_ok-poll.ensures.reads source in
          let given : RowsGive here (w.in-Some.event ∷ []) new = subst (λ (put : Option Event). RowsGive here (event_in put) new) (sym w.take.ensures.value ∙ w.in-Some.is) ([], polled) in
          rw (w.rows-is, w.input-is, w.events-is, w.in_ok-push-in-Event.ensures.items) (rows_more old here new c.loop.events.items (w.in-Some.event ∷ []) c.poll.new.self.few c.loop.invariant.gives given)
      | in-Event+in_default w ↦
          let polled : Reads here [] (event_in c.poll.new.event) new = rw w.in-Event.is at c.in_ok-poll.ensures.reads source in
          let none : RowsGive here [] new = subst (λ (put : Option Event). RowsGive here (event_in put) new) (sym w.take.ensures.value ∙ w.in_default.is) ([], polled) in
          rw (w.rows-is, w.input-is, w.events-is) (rows_still old here new c.loop.events.items c.loop.invariant.gives none)
      | in-Ask w ↦
          let next = rows_at (g.S.Source.state w.ask.new.input) w.ask.new.rows in
          let polled : Reads here [] [] new = rw w.in-Ask.is at c.in_ok-poll.ensures.reads source in
          rw (w.rows-is, w.input-is, w.events-is) (rows_still old new next c.loop.events.items (rows_still old here new c.loop.events.items c.loop.invariant.gives ([], polled)) (w.ask.ensures.takes.piece, w.ask.ensures.takes.reads))
    ] in
    record { gives = gives }
