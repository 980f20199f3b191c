use Rattle.std.proofs.Common.{◌≡◌, Bool, true, false, List, [], ◌∷◌, Some, Ok, refl, sym, ◌∙◌, ap, subst, arith}
use Rattle.std.proofs.lemmas.List.Elements.{All-head}
use Rattle.sp_io.specs.Outside.{SourceState}
use Rattle.sp_plan.specs.Events.{fits}
use Rattle.sp_plan.specs.declared.event.Event.{Event}
use Rattle.sp_rows.specs.Progress.{plan_of}
use Rattle.sp_ports.specs.Stopping.{is_end}
use Rattle.sp_slack.specs.Standing.{Kept, kept_of}
use Rattle.sp_intake.specs.declared.reader.Step.{Step}
use Rattle.sp_intake.specs.declared.reader.State.{State}
use Rattle.sp_intake.specs.declared.reader.State.TheVariants.{Going, Stopped}
use Rattle.sp_intake.specs.Laws.{reads_none, gives_none, gives_more, sound_at}
use Rattle.sp_intake.specs.Reader.{Reader, event_in}
use Rattle.sp_intake.specs.Latest.{latest_of}
use Rattle.sp_intake.specs.declared.latest.Latest.{Latest}
use Rattle.sp_intake.specs.RowsSeen.{reader_of, rows_at, held_of}
use Rattle.sp_intake.specs.Standing.{Held, Holds, Reads, Passes, GivesBy, IsIdle, given_by, is_stopped, is_whole, stop_in, seen_by, with_held}
use Rattle.sp_intake.proofs.HoldingBack.{GivesNext, WasOffered, not_idle, holds_next, gives_next, gives_quiet, holds_rows, holds_still, holds_ended, passes_ended, passes_still, offered_holds, reads_lost_rows, only_end, broken_seen, not_broken, not_stopped, none_given, no_source, one_less, put_given, put_none, on_err, stopped_for}
use Rattle.sp_intake.proofs.Suiting.{time_between}
use Rattle.sp_intake.proofs.held.Held.go_on.Goals as goal
use Rattle.sp_intake.proofs.held.Held.go_on.Goals.{in-Some-take+else-is_err, in_default-take}

abbrev whole_in : State → Bool
whole_in state = is_whole (stop_in state)

pub returns-in-Some-clause-holds : goal.returns-in-Some-clause-holds
returns-in-Some-clause-holds c =
    let reader = reader_of c.loop.rows in
    let state = c.loop.rows.state in
    let old = held_of c.loop.self in
    let new : Held = record { kept = kept_of c.next.new.self; drained = old.drained } in
    let step : GivesNext old.kept new.kept c.in-Some.ready = λ events given stands. c.in-Some.ensures.event events given stands c.in-Some.ready refl in
    holds_next reader state old new c.in-Some.ready c.loop.invariant.holds refl c.next.ensures.rest (not_idle reader state old c.in-Some.ready c.loop.invariant.holds new.kept step) step

pub returns-in-Some-clause-gives : goal.returns-in-Some-clause-gives
returns-in-Some-clause-gives c source =
    let rows = rows_at source c.loop.rows in
    let old = held_of c.loop.self in
    let new : Held = record { kept = kept_of c.next.new.self; drained = old.drained } in
    let step : GivesNext old.kept new.kept c.in-Some.ready = λ events given stands. c.in-Some.ensures.event events given stands c.in-Some.ready refl in
    gives_more (with_held (rows_at source c.args.rows.now) (Some (held_of c.args.self.now))) (with_held rows (Some old)) (with_held rows (Some new)) [] [] [] (c.in-Some.ready ∷ []) c.loop.rows.few (c.loop.invariant.gives source)
    (gives_next rows old new c.in-Some.ready (returns-in-Some-clause-holds c) c.next.ensures.rest step)

-- ---- where nothing was ready, and the rows gave no event

pub returns-in_err-poll-clause-holds : goal.returns-in_err-poll-clause-holds
returns-in_err-poll-clause-holds c =
    let old = held_of c.loop.self in
    let idle : Held = record { kept = kept_of c.next.new.self; drained = old.drained } in
    let same : idle.kept ≡ old.kept = c.next.ensures.still c.in_default.is in
    let none : IsIdle (Some old) = λ events given stands. c.next.ensures.none events given stands c.in_default.is in
    let open_ : old.kept.ended ≡ false = c.loop.invariant.holds.ended ∙ ap whole_in c.loop.invariant.going in
    let broken = c.in_err-poll.ensures.breaks in
    holds_still (rows_at no_source c.loop.rows) (rows_at no_source c.poll.new.self) old idle (c.in_err-poll.ensures.reads no_source) c.loop.invariant.holds same (open_ ∙ sym (ap whole_in broken)) (not_broken c.poll.new.self.state broken) none

pub returns-in_err-poll-clause-gives : goal.returns-in_err-poll-clause-gives
returns-in_err-poll-clause-gives c source =
    let first = with_held (rows_at source c.args.rows.now) (Some (held_of c.args.self.now)) in
    let here = rows_at source c.loop.rows in
    let new = rows_at source c.poll.new.self in
    let old = held_of c.loop.self in
    let idle : Held = record { kept = kept_of c.next.new.self; drained = old.drained } in
    let gives : GivesBy first [] [] (with_held new (Some idle)) =
    gives_more first (with_held here (Some old)) (with_held new (Some idle)) [] [] [] [] c.poll.new.self.few (c.loop.invariant.gives source)
    (gives_quiet here new old idle [] (c.in_err-poll.ensures.reads source) (passes_still old.kept idle.kept (c.next.ensures.still c.in_default.is)) (returns-in_err-poll-clause-holds c)) in
    subst (λ (events : List Event). GivesBy first [] events (with_held new (Some idle))) (sym (none_given c.from_residual.result c.poll.new.event c.from_residual.ensures.0)) gives

pub returns-in-Ask-clause-holds : goal.returns-in-Ask-clause-holds
returns-in-Ask-clause-holds c =
    let old = held_of c.loop.self in
    let idle : Held = record { kept = kept_of c.next.new.self; drained = old.drained } in
    let same : idle.kept ≡ old.kept = c.next.ensures.still c.in_default.is in
    let none : IsIdle (Some old) = λ events given stands. c.next.ensures.none events given stands c.in_default.is in
    let open_ : old.kept.ended ≡ false = c.loop.invariant.holds.ended ∙ ap whole_in c.loop.invariant.going in
    let state = c.in_ok-poll.ensures.still (ap (λ (told : Step). Ok told) c.in-Ask.is) in
    let reads : Reads (rows_at no_source c.loop.rows) [] [] (rows_at no_source c.poll.new.self) = rw c.in-Ask.is at c.in_ok-poll.ensures.reads no_source in
    holds_still (rows_at no_source c.loop.rows) (rows_at no_source c.poll.new.self) old idle reads c.loop.invariant.holds same (open_ ∙ sym (ap whole_in (state ∙ c.loop.invariant.going))) (λ goes. c.loop.invariant.holds.untold c.loop.invariant.going) none

pub returns-in-Ask-clause-gives : goal.returns-in-Ask-clause-gives
returns-in-Ask-clause-gives c source =
    let here = rows_at source c.loop.rows in
    let new = rows_at source c.poll.new.self in
    let old = held_of c.loop.self in
    let idle : Held = record { kept = kept_of c.next.new.self; drained = old.drained } in
    let reads : Reads here [] [] new = rw c.in-Ask.is at c.in_ok-poll.ensures.reads source in
    gives_more (with_held (rows_at source c.args.rows.now) (Some (held_of c.args.self.now))) (with_held here (Some old)) (with_held new (Some idle)) [] [] [] [] c.poll.new.self.few (c.loop.invariant.gives source)
    (gives_quiet here new old idle [] reads (passes_still old.kept idle.kept (c.next.ensures.still c.in_default.is)) (returns-in-Ask-clause-holds c))

-- ---- an event came

pub offer-requires-clause-low : goal.offer-requires-clause-low
offer-requires-clause-low c =
    let here = rows_at no_source c.loop.rows in
    let polled : Reads here [] (event_in c.poll.new.event) (rows_at no_source c.poll.new.self) = rw c.in-Event.is at c.in_ok-poll.ensures.reads no_source in
    let reads = put_given here (rows_at no_source c.poll.new.self) c.poll.new.event c.take.result c.in-Some-take.came c.take.ensures.value c.in-Some-take.is polled in
    (time_between (plan_of here.reader.rows) c.in-Some-take.came (All-head (λ x. fits (plan_of here.reader.rows) x ≡ true) c.in-Some-take.came [] reads.fit)).0

pub offer-requires-clause-high : goal.offer-requires-clause-high
offer-requires-clause-high c =
    let here = rows_at no_source c.loop.rows in
    let polled : Reads here [] (event_in c.poll.new.event) (rows_at no_source c.poll.new.self) = rw c.in-Event.is at c.in_ok-poll.ensures.reads no_source in
    let reads = put_given here (rows_at no_source c.poll.new.self) c.poll.new.event c.take.result c.in-Some-take.came c.take.ensures.value c.in-Some-take.is polled in
    (time_between (plan_of here.reader.rows) c.in-Some-take.came (All-head (λ x. fits (plan_of here.reader.rows) x ≡ true) c.in-Some-take.came [] reads.fit)).1

pub lose-requires : goal.lose-requires
lose-requires c =
    let here = rows_at no_source c.loop.rows in
    let polled : Reads here [] (event_in c.poll.new.event) (rows_at no_source c.poll.new.self) = rw c.in-Event.is at c.in_ok-poll.ensures.reads no_source in
    let reads = put_given here (rows_at no_source c.poll.new.self) c.poll.new.event c.take.result c.in-Some-take.came c.take.ensures.value c.in-Some-take.is polled in
    record { some = omega (arith, reads.count) }

-- ---- there was no memory for it

pub returns-then-is_err-clause-holds : goal.returns-then-is_err-clause-holds
returns-then-is_err-clause-holds c =
    let old = held_of c.loop.self in
    let idle : Held = record { kept = kept_of c.next.new.self; drained = old.drained } in
    let same : idle.kept ≡ old.kept = c.next.ensures.still c.in_default.is in
    let none : IsIdle (Some old) = λ events given stands. c.next.ensures.none events given stands c.in_default.is in
    let open_ : old.kept.ended ≡ false = c.loop.invariant.holds.ended ∙ ap whole_in c.loop.invariant.going in
    let here = rows_at no_source c.loop.rows in
    let mid = rows_at no_source c.poll.new.self in
    let lost : Held = record { kept = kept_of c.offer.new.self; drained = old.drained } in
    let polled : Reads here [] (event_in c.poll.new.event) mid = rw c.in-Event.is at c.in_ok-poll.ensures.reads no_source in
    let reads = put_given here mid c.poll.new.event c.take.result c.in-Some-take.came c.take.ensures.value c.in-Some-take.is polled in
    let at = c.lose.ensures.reader in
    let kept : lost.kept ≡ old.kept = on_err c.offer.result (sym c.is_err.ensures.value ∙ c.if-is_err.true) c.offer.ensures.err ∙ same in
    let broken = c.lose.ensures.state in
    let step = reads_lost_rows no_source c.loop.rows.state c.lose.new.self.state here.reader (reader_of c.lose.new.self) c.loop.invariant.going broken (ap (λ (r : Reader). plan_of r.rows) at ∙ reads.plan) (ap (λ (r : Reader). r.lateness) at ∙ reads.lateness)
    (one_less here.reader.given mid.reader.given (reader_of c.lose.new.self).given reads.count (ap (λ (r : Reader). r.given) at)) (ap (λ (r : Reader). r.greatest) at ∙ ap (λ (l : Latest). latest_of l.time) c.latest-latest.ensures) in
    holds_still here (rows_at no_source c.lose.new.self) old lost step c.loop.invariant.holds kept (open_ ∙ sym (ap whole_in broken)) (not_broken c.lose.new.self.state broken) none

pub returns-then-is_err-clause-gives : goal.returns-then-is_err-clause-gives
returns-then-is_err-clause-gives c source =
    let old = held_of c.loop.self in
    let same : kept_of c.next.new.self ≡ old.kept = c.next.ensures.still c.in_default.is in
    let here = rows_at source c.loop.rows in
    let mid = rows_at source c.poll.new.self in
    let new = rows_at source c.lose.new.self in
    let lost : Held = record { kept = kept_of c.offer.new.self; drained = old.drained } in
    let polled : Reads here [] (event_in c.poll.new.event) mid = rw c.in-Event.is at c.in_ok-poll.ensures.reads source in
    let reads = put_given here mid c.poll.new.event c.take.result c.in-Some-take.came c.take.ensures.value c.in-Some-take.is polled in
    let at = c.lose.ensures.reader in
    let kept : lost.kept ≡ old.kept = on_err c.offer.result (sym c.is_err.ensures.value ∙ c.if-is_err.true) c.offer.ensures.err ∙ same in
    let step = reads_lost_rows source c.loop.rows.state c.lose.new.self.state here.reader (reader_of c.lose.new.self) c.loop.invariant.going c.lose.ensures.state (ap (λ (r : Reader). plan_of r.rows) at ∙ reads.plan) (ap (λ (r : Reader). r.lateness) at ∙ reads.lateness)
    (one_less here.reader.given mid.reader.given (reader_of c.lose.new.self).given reads.count (ap (λ (r : Reader). r.given) at)) (ap (λ (r : Reader). r.greatest) at ∙ ap (λ (l : Latest). latest_of l.time) c.latest-latest.ensures) in
    gives_more (with_held (rows_at source c.args.rows.now) (Some (held_of c.args.self.now))) (with_held here (Some old)) (with_held new (Some lost)) [] [] [] [] c.lose.new.self.few (c.loop.invariant.gives source)
    (gives_quiet here new old lost [] step (passes_still old.kept lost.kept kept) (returns-then-is_err-clause-holds c))

-- ---- the rows went on for too long

pub returns-clause-holds : goal.returns-clause-holds
returns-clause-holds c =
    let old = held_of c.loop.self in
    let holds = c.loop.invariant.holds in
    let here = rows_at no_source c.loop.rows in
    let at = c.break_off.ensures.reader in
    let broken = c.break_off.ensures.state in
    let step = reads_lost_rows no_source c.loop.rows.state c.break_off.new.self.state here.reader (reader_of c.break_off.new.self) c.loop.invariant.going broken (ap (λ (r : Reader). plan_of r.rows) at) (ap (λ (r : Reader). r.lateness) at)
    (ap (λ (r : Reader). r.given) at) (ap (λ (r : Reader). r.greatest) at) in
    holds_rows here (rows_at no_source c.break_off.new.self) old old step holds (λ events given stands. stands) refl refl (holds.ended ∙ ap whole_in c.loop.invariant.going ∙ sym (ap whole_in broken)) (not_broken c.break_off.new.self.state broken)
    (λ over. absurd (let own : is_stopped (seen_by old.drained c.break_off.new.self.state) ≡ false = ap (λ (s : State). is_stopped (seen_by old.drained s)) broken ∙ broken_seen old.drained in cc (own, over)))

pub returns-clause-gives : goal.returns-clause-gives
returns-clause-gives c source =
    let old = held_of c.loop.self in
    let here = rows_at source c.loop.rows in
    let new = rows_at source c.break_off.new.self in
    let at = c.break_off.ensures.reader in
    let step = reads_lost_rows source c.loop.rows.state c.break_off.new.self.state here.reader (reader_of c.break_off.new.self) c.loop.invariant.going c.break_off.ensures.state (ap (λ (r : Reader). plan_of r.rows) at) (ap (λ (r : Reader). r.lateness) at)
    (ap (λ (r : Reader). r.given) at) (ap (λ (r : Reader). r.greatest) at) in
    gives_more (with_held (rows_at source c.args.rows.now) (Some (held_of c.args.self.now))) (with_held here (Some old)) (with_held new (Some old)) [] [] [] [] c.break_off.new.self.few (c.loop.invariant.gives source)
    (gives_quiet here new old old [] step (passes_still old.kept old.kept refl) (returns-clause-holds c))

-- ---- the rows stopped

pub returns-then-not-is_end-clause-holds : goal.returns-then-not-is_end-clause-holds
returns-then-not-is_end-clause-holds c =
    let old = held_of c.loop.self in
    let idle : Held = record { kept = kept_of c.next.new.self; drained = old.drained } in
    let same : idle.kept ≡ old.kept = c.next.ensures.still c.in_default.is in
    let none : IsIdle (Some old) = λ events given stands. c.next.ensures.none events given stands c.in_default.is in
    let open_ : old.kept.ended ≡ false = c.loop.invariant.holds.ended ∙ ap whole_in c.loop.invariant.going in
    let state = stopped_for c.poll.new.self.state c.in-Stop.stop (c.in_ok-poll.ensures.stop c.in-Stop.stop (ap (λ (told : Step). Ok told) c.in-Stop.is)) in
    let other : is_end c.in-Stop.stop ≡ false = sym c.is_end.ensures ∙ c.if-not-is_end.true in
    let reads : Reads (rows_at no_source c.loop.rows) [] [] (rows_at no_source c.poll.new.self) = rw c.in-Stop.is at c.in_ok-poll.ensures.reads no_source in
    holds_still (rows_at no_source c.loop.rows) (rows_at no_source c.poll.new.self) old idle reads c.loop.invariant.holds same (open_ ∙ sym (ap whole_in state ∙ other)) (not_stopped c.poll.new.self.state c.in-Stop.stop state) none

pub returns-then-not-is_end-clause-gives : goal.returns-then-not-is_end-clause-gives
returns-then-not-is_end-clause-gives c source =
    let here = rows_at source c.loop.rows in
    let new = rows_at source c.poll.new.self in
    let old = held_of c.loop.self in
    let idle : Held = record { kept = kept_of c.next.new.self; drained = old.drained } in
    let reads : Reads here [] [] new = rw c.in-Stop.is at c.in_ok-poll.ensures.reads source in
    gives_more (with_held (rows_at source c.args.rows.now) (Some (held_of c.args.self.now))) (with_held here (Some old)) (with_held new (Some idle)) [] [] [] [] c.poll.new.self.few (c.loop.invariant.gives source)
    (gives_quiet here new old idle [] reads (passes_still old.kept idle.kept (c.next.ensures.still c.in_default.is)) (returns-then-not-is_end-clause-holds c))

-- ---- at their end no more come

pub drain-requires-clause-holds : goal.drain-requires-clause-holds
drain-requires-clause-holds c =
    let here = rows_at no_source c.loop.rows in
    let new = rows_at no_source c.poll.new.self in
    let old = held_of c.loop.self in
    let mid = kept_of c.next.new.self in
    let over : Held = record { kept = kept_of c.end.new.self; drained = old.drained } in
    let end = only_end c.in-Stop.stop (sym c.is_end.ensures ∙ c.if-not-is_end.false) in
    let state = stopped_for c.poll.new.self.state c.in-Stop.stop (c.in_ok-poll.ensures.stop c.in-Stop.stop (ap (λ (told : Step). Ok told) c.in-Stop.is)) ∙ ap Stopped end in
    let reads : Reads here [] [] new = rw c.in-Stop.is at c.in_ok-poll.ensures.reads no_source in
    holds_ended here new old over mid c.loop.invariant.holds c.loop.invariant.going state (c.next.ensures.still c.in_default.is) c.end.ensures.ended c.end.ensures.stands refl reads

pub returns-in-Stop-clause-gives : goal.returns-in-Stop-clause-gives
returns-in-Stop-clause-gives c source =
    let first = with_held (rows_at source c.args.rows.now) (Some (held_of c.args.self.now)) in
    let here = rows_at source c.loop.rows in
    let new = rows_at source c.poll.new.self in
    let old = held_of c.loop.self in
    let mid = kept_of c.next.new.self in
    let over : Held = record { kept = kept_of c.end.new.self; drained = old.drained } in
    let last = held_of c.drain.new.self in
    let same : mid ≡ old.kept = c.next.ensures.still c.in_default.is in
    let end = only_end c.in-Stop.stop (sym c.is_end.ensures ∙ c.if-not-is_end.false) in
    let state = stopped_for c.poll.new.self.state c.in-Stop.stop (c.in_ok-poll.ensures.stop c.in-Stop.stop (ap (λ (told : Step). Ok told) c.in-Stop.is)) ∙ ap Stopped end in
    let reads : Reads here [] [] new = rw c.in-Stop.is at c.in_ok-poll.ensures.reads source in
    let holds = holds_ended here new old over mid c.loop.invariant.holds c.loop.invariant.going state same c.end.ensures.ended c.end.ensures.stands refl reads in
    let passes = passes_ended here new old over mid c.loop.invariant.holds c.loop.invariant.going state same c.end.ensures.ended c.end.ensures.stands refl in
    let far : GivesBy first [] [] (with_held new (Some over)) =
    gives_more first (with_held here (Some old)) (with_held new (Some over)) [] [] [] [] c.poll.new.self.few (c.loop.invariant.gives source) (gives_quiet here new old over [] reads passes holds) in
    gives_more first (with_held new (Some over)) (with_held new (Some last)) [] [] [] (given_by c.drain.result c.drain.new.event) c.poll.new.self.few far (c.drain.ensures.gives source)

pub loop-preserved : goal.loop-preserved
loop-preserved c =
    let old = held_of c.loop.self in
    let holds = c.loop.invariant.holds in
    let idle : Held = record { kept = kept_of c.next.new.self; drained = old.drained } in
    let same : idle.kept ≡ old.kept = c.next.ensures.still c.in_default.is in
    let none : IsIdle (Some old) = λ events given stands. c.next.ensures.none events given stands c.in_default.is in
    let state : c.poll.new.self.state ≡ Going = c.in_ok-poll.ensures.event (ap (λ (told : Step). Ok told) c.in-Event.is) ∙ c.loop.invariant.going in
    let untold : old.drained ≡ false = holds.untold c.loop.invariant.going in
    let polled : (source : SourceState) → Reads (rows_at source c.loop.rows) [] (event_in c.poll.new.event) (rows_at source c.poll.new.self) = λ source. rw c.in-Event.is at c.in_ok-poll.ensures.reads source in
    let still = holds_still (rows_at no_source c.loop.rows) (rows_at no_source c.loop.rows) old idle (reads_none (rows_at no_source c.loop.rows)) holds same holds.ended holds.untold none in
    let holds_now : Holds (reader_of c.poll.new.self) c.poll.new.self.state (held_of c.match-take.self) = elim c.match-take.branch [
      | in-Some-take+else-is_err w ↦
          let now : Held = record { kept = kept_of w.offer.new.self; drained = old.drained } in
          let e = w.in-Some-take.came in
          let reads = put_given (rows_at no_source c.loop.rows) (rows_at no_source c.poll.new.self) c.poll.new.event c.take.result e c.take.ensures.value w.in-Some-take.is (polled no_source) in
          let was : WasOffered idle.kept now.kept e w.offer.result = record { kept = w.offer.ensures.kept; late = w.offer.ensures.late; count = w.offer.ensures.offered; slack = w.offer.ensures.slack; going = w.offer.ensures.goes_on } in
          let open_ : idle.kept.ended ≡ false = still.ended ∙ ap whole_in c.loop.invariant.going in
          rw w.self-is (offered_holds (rows_at no_source c.loop.rows) (rows_at no_source c.poll.new.self) idle now e reads still state open_ untold w.offer.result (sym w.is_err.ensures.value ∙ w.if-is_err.false) was).0
      | in_default-take w ↦
          let reads = put_none (rows_at no_source c.loop.rows) (rows_at no_source c.poll.new.self) c.poll.new.event c.take.result c.take.ensures.value w.in_default-take.is (polled no_source) in
          rw w.self-is (holds_still (rows_at no_source c.loop.rows) (rows_at no_source c.poll.new.self) old idle reads holds same (holds.ended ∙ ap whole_in (c.loop.invariant.going ∙ sym state)) (λ goes. untold) none)
    ] in
    record {
      gives = λ source.
          let first = with_held (rows_at source c.args.rows.now) (Some (held_of c.args.self.now)) in
          let here = rows_at source c.loop.rows in
          let new = rows_at source c.poll.new.self in
          let last = held_of c.match-take.self in
          let step : GivesBy (with_held here (Some old)) [] [] (with_held new (Some last)) = elim c.match-take.branch [
            | in-Some-take+else-is_err w ↦
                let now : Held = record { kept = kept_of w.offer.new.self; drained = old.drained } in
                let e = w.in-Some-take.came in
                let reads = put_given here new c.poll.new.event c.take.result e c.take.ensures.value w.in-Some-take.is (polled source) in
                let was : WasOffered idle.kept now.kept e w.offer.result = record { kept = w.offer.ensures.kept; late = w.offer.ensures.late; count = w.offer.ensures.offered; slack = w.offer.ensures.slack; going = w.offer.ensures.goes_on } in
                let open_ : idle.kept.ended ≡ false = still.ended ∙ ap whole_in c.loop.invariant.going in
                let passes = (offered_holds here new idle now e reads still state open_ untold w.offer.result (sym w.is_err.ensures.value ∙ w.if-is_err.false) was).1 in
                let kept : (held_of c.match-take.self).kept ≡ now.kept = rw w.self-is refl in
                gives_quiet here new old last (e ∷ []) reads (subst (λ (k : Kept). Passes old.kept k (e ∷ []) []) (sym kept) (subst (λ (k : Kept). Passes k now.kept (e ∷ []) []) same passes)) holds_now
            | in_default-take w ↦
                let reads = put_none here new c.poll.new.event c.take.result c.take.ensures.value w.in_default-take.is (polled source) in
                let kept : (held_of c.match-take.self).kept ≡ idle.kept = rw w.self-is refl in
                gives_quiet here new old last [] reads (passes_still old.kept last.kept (kept ∙ same)) holds_now
          ] in
          gives_more first (with_held here (Some old)) (with_held new (Some last)) [] [] [] [] c.poll.new.self.few (c.loop.invariant.gives source) step;
      holds = holds_now;
      going = state;
      lateness = c.in_ok-poll.ensures.lateness ∙ c.loop.invariant.lateness;
    }

pub loop-init : goal.loop-init
loop-init c = record {
  gives = λ source. gives_none (with_held (rows_at source c.args.rows.now) (Some (held_of c.args.self.now))) (sound_at (rows_at source c.args.rows.now) (Some (held_of c.args.self.now)) c.requires.holds);
  holds = c.requires.holds;
  going = c.requires.going;
  lateness = refl;
}
