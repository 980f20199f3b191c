use Rattle.std.proofs.Common.{◌≡◌, Some, [], Bool, true, false, ap, refl}
use Rattle.sp_ports.specs.declared.stop.Stop.TheVariants.{End}
use Rattle.sp_intake.specs.declared.reader.State.{State}
use Rattle.sp_intake.specs.declared.reader.State.TheVariants.{Stopped}
use Rattle.sp_intake.specs.Laws.{reads_none}
use Rattle.sp_intake.specs.RowsSeen.{reader_of, rows_at, held_of}
use Rattle.sp_intake.specs.Standing.{Held, IsIdle, is_stopped, seen_by}
use Rattle.sp_intake.proofs.HoldingBack.{GivesNext, not_idle, holds_next, gives_next, holds_still, gives_quiet, passes_still, not_stopped, no_source}
use Rattle.sp_intake.proofs.held.Held.drain.Goals as goal

-- behind the end the input goes on only where that was not told
untold : (drained : Bool) (state : State) → state ≡ Stopped End → is_stopped (seen_by drained state) ≡ false → drained ≡ false
untold false state is going = refl
untold true state is going = absurd (let stopped : is_stopped state ≡ true = ap is_stopped is in cc (stopped, going))

pub returns-in-Some-clause-gives : goal.returns-in-Some-clause-gives
returns-in-Some-clause-gives c source =
    let rows = rows_at source c.args.rows.now in
    let old = held_of c.args.self.now in
    let new : Held = record { kept = (held_of (record c.args.self.now { slack = c.next.new.self })).kept; drained = old.drained } in
    let step : GivesNext old.kept new.kept c.in-Some.ready = λ events given stands. c.in-Some.ensures.event events given stands c.in-Some.ready refl in
    let going = not_idle rows.reader rows.state old c.in-Some.ready c.requires.holds new.kept step in
    gives_next rows old new c.in-Some.ready (holds_next rows.reader rows.state old new c.in-Some.ready c.requires.holds refl c.next.ensures.rest going step) c.next.ensures.rest step

pub returns-in-Some-clause-holds : goal.returns-in-Some-clause-holds
returns-in-Some-clause-holds c =
    let reader = reader_of c.args.rows.now in
    let state = c.args.rows.now.state in
    let old = held_of c.args.self.now in
    let new : Held = record { kept = (held_of (record c.args.self.now { slack = c.next.new.self })).kept; drained = old.drained } in
    let step : GivesNext old.kept new.kept c.in-Some.ready = λ events given stands. c.in-Some.ensures.event events given stands c.in-Some.ready refl in
    let going = not_idle reader state old c.in-Some.ready c.requires.holds new.kept step in
    holds_next reader state old new c.in-Some.ready c.requires.holds refl c.next.ensures.rest going step

pub returns-in-Some-clause-event : goal.returns-in-Some-clause-event
returns-in-Some-clause-event c is =
    let old = held_of c.args.self.now in
    let new : Held = record { kept = (held_of (record c.args.self.now { slack = c.next.new.self })).kept; drained = old.drained } in
    let state = c.args.rows.now.state in
    let step : GivesNext old.kept new.kept c.in-Some.ready = λ events given stands. c.in-Some.ensures.event events given stands c.in-Some.ready refl in
    let going = not_idle (reader_of c.args.rows.now) state old c.in-Some.ready c.requires.holds new.kept step in
    let none = untold old.drained state c.requires.ended going in
    (none, none)

pub returns-in-None-clause-holds : goal.returns-in-None-clause-holds
returns-in-None-clause-holds c =
    let rows = rows_at no_source c.args.rows.now in
    let old = held_of c.args.self.now in
    let new : Held = record { kept = (held_of (record c.args.self.now { slack = c.next.new.self })).kept; drained = true } in
    let none : IsIdle (Some old) = λ events given stands. c.next.ensures.none events given stands c.in-None.is in
    holds_still rows rows old new (reads_none rows) c.requires.holds (c.next.ensures.still c.in-None.is) c.requires.holds.ended (not_stopped rows.state End c.requires.ended) none

pub returns-in-None-clause-gives : goal.returns-in-None-clause-gives
returns-in-None-clause-gives c source =
    let rows = rows_at source c.args.rows.now in
    let old = held_of c.args.self.now in
    let new : Held = record { kept = (held_of (record c.args.self.now { slack = c.next.new.self })).kept; drained = true } in
    gives_quiet rows rows old new [] (reads_none rows) (passes_still old.kept new.kept (c.next.ensures.still c.in-None.is)) (returns-in-None-clause-holds c)
