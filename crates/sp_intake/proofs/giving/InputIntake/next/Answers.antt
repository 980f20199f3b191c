use Rattle.std.proofs.Common.{◌≡◌, inl, inr, refl, ℕ, [], Bool, sym, ◌∙◌, ap, subst, arith}
use Rattle.std.specs.Prelude.{Option, Some, None}
use Rattle.sp_io.specs.Outside.{Rose}
use Rattle.sp_ports.specs.Giving.{given_by, given_at}
use Rattle.sp_ports.specs.declared.intake.Next.{Next}
use Rattle.sp_intake.specs.declared.reader.State.{State}
use Rattle.sp_intake.specs.Asked.{standing}
use Rattle.sp_intake.specs.Laws.{gives_none, sound_in}
use Rattle.sp_intake.specs.Standing.{GivesBy, Gives, WasRead, stop_in, is_whole}
use Rattle.sp_intake.proofs.Asking.{asked_piece, either_gives, either_still, gives_on, gives_still}
use Rattle.sp_intake.proofs.HoldingBack.{seen_going}
use Rattle.sp_intake.proofs.giving.InputIntake.next.Goals as goal

-- whether the input was read to its end, where it stands so
abbrev is_whole_in : State → Bool
is_whole_in state = is_whole (stop_in state)

pub returns-in-Some-clause-plan : goal.returns-in-Some-clause-plan
returns-in-Some-clause-plan g c = (c.in-Some.ensures.gives (g.S.Source.state c.loop.self.source.now)).reads.plan ∙ c.loop.invariant.gives.1.reads.plan

pub returns-in-Some-clause-given : goal.returns-in-Some-clause-given
returns-in-Some-clause-given g c from events before =
    let source = g.S.Source.state c.loop.self.source.now in
    let old = standing (g.S.Source.state c.args.self.now.source.now) c.args.self.now.events in
    let here = standing source c.loop.self.events in
    let new = standing source c.at_hand.new.self in
    let few = c.at_hand.new.self.rows.few in
    let given = given_by c.in-Some.next in
    gives_on (standing (g.S.Source.state from.source.now) from.events) old new events given few before
    (gives_on old here new [] given few c.loop.invariant.gives ([], c.in-Some.ensures.gives source))

pub returns-in-Some-clause-asked : goal.returns-in-Some-clause-asked
returns-in-Some-clause-asked g c from before events asked =
    let source = g.S.Source.state c.loop.self.source.now in
    let first = standing (g.S.Source.state from.source.now) from.events in
    let here = standing source c.loop.self.events in
    let new = standing source c.at_hand.new.self in
    either_still first here new before events (given_by c.in-Some.next) c.at_hand.new.self.rows.few (c.in-Some.ensures.gives source) (c.loop.invariant.asked first before events asked)

pub returns-in-Some-clause-event : goal.returns-in-Some-clause-event
returns-in-Some-clause-event g c given is =
    let at = c.in-Some.ensures.event given (ap (λ (answer : Next). Some answer) is) in
    (ap is_whole_in at.0 ∙ c.loop.invariant.ended, at.1 ∙ c.loop.invariant.stops)

pub returns-in-Some-clause-stop : goal.returns-in-Some-clause-stop
returns-in-Some-clause-stop g c why is =
    let at = c.in-Some.ensures.stop why (ap (λ (answer : Next). Some answer) is) in
    (subst (λ (n : ℕ). Rose n c.at_hand.new.self.stops) c.loop.invariant.stops at.0, at.1)

pub returns-clause-given : goal.returns-clause-given
returns-clause-given g c from events before =
    let old = standing (g.S.Source.state c.args.self.now.source.now) c.args.self.now.events in
    let here = standing (g.S.Source.state c.loop.self.source.now) c.loop.self.events in
    gives_on (standing (g.S.Source.state from.source.now) from.events) old here events [] c.loop.self.events.rows.few before c.loop.invariant.gives

pub returns-clause-asked : goal.returns-clause-asked
returns-clause-asked g c from before events asked =
    let source = g.S.Source.state c.loop.self.source.now in
    let first = standing (g.S.Source.state from.source.now) from.events in
    let here = standing source c.loop.self.events in
    either_still first here here before events [] c.loop.self.events.rows.few (gives_none here (sound_in source c.loop.self.events)) (c.loop.invariant.asked first before events asked)

pub loop-preserved : goal.loop-preserved
loop-preserved g c =
    let before = g.S.Source.state c.loop.self.source.now in
    let next = g.S.Source.state c.read-read.new.self in
    let old = standing (g.S.Source.state c.args.self.now.source.now) c.args.self.now.events in
    let here = standing before c.loop.self.events in
    let between = standing before c.at_hand.new.self in
    let new = standing next c.take.new.self in
    let none : c.at_hand.result ≡ None = c.in_default.is in
    let polled : GivesBy here [] [] between = subst (λ (answer : Option Next). GivesBy here [] (given_at answer) between) none (c.at_hand.ensures.gives before) in
    let asking = c.at_hand.ensures.asks none in
    let read = c.read-read.ensures in
    let was : WasRead before c.read-read.new.into c.read-read.result next = record {
      size = omega (arith, read.size, c.loop.invariant.size);
      bytes = read.bytes;
      untaken = read.untaken;
      ended = read.ended;
      goes_on = read.goes_on;
      failed_before_end = read.failed_before_end;
      no_fault = read.no_fault;
      fault = read.fault;
      never_falls = read.never_falls;
    } in
    let takes = c.take.ensures.takes before next was in
    record {
      gives = gives_still old between new [] c.take.new.self.rows.few (gives_still old here between [] c.at_hand.new.self.rows.few c.loop.invariant.gives ([], polled)) (takes.piece, takes.gives);
      asked = λ from first events asked.
          let gave : Gives from events here = either_gives from first events here (c.loop.invariant.asked from first events asked) in
          inr (asked_piece from between new events asking.rows.going asking.rows.hungry asking.idle c.take.new.self.rows.few (gives_still from here between events c.at_hand.new.self.rows.few gave ([], polled)) takes);
      ended = c.take.ensures.more ∙ sym (ap is_whole_in (sym (c.at_hand.ensures.still none) ∙ seen_going between.held between.rows.state asking.rows.going)) ∙ c.loop.invariant.ended;
      stops = c.take.ensures.stops ∙ c.at_hand.ensures.unasked none ∙ c.loop.invariant.stops;
      token = c.loop.invariant.token;
      size = read.size ∙ c.loop.invariant.size;
    }

pub loop-init : goal.loop-init
loop-init g c =
    let here = standing (g.S.Source.state c.args.self.now.source.now) c.args.self.now.events in
    record {
      gives = ([], gives_none here (sound_in (g.S.Source.state c.args.self.now.source.now) c.args.self.now.events));
      asked = λ from before events asked. inl asked;
      ended = refl;
      stops = refl;
      token = refl;
      size = omega arith;
    }
