use Rattle.std.proofs.Common.{◌≡◌, ℕ, pos, ◌+◌, List, [], ◌++◌, length, get_or, map, refl, sym, ◌∙◌, ap, subst, arith, length-append}
use Rattle.std.specs.Prelude.{filter}
use Rattle.sp_plan.specs.declared.event.Event.{Event}
use Rattle.sp_plan.specs.declared.plan.Plan.{Plan}
use Rattle.sp_plan.specs.declared.found.Match.{Match}
use Rattle.sp_plan.specs.Runs.{State, handle, state}
use Rattle.sp_plan.specs.Moves as definitions
use Rattle.sp_plan.specs.Moves.{Told}
use Rattle.sp_match.specs.declared.known.Known.TheVariants.{Never}
use Rattle.sp_match.specs.public.Known.{IsKnown}
use Rattle.sp_match.specs.public.Laws.{is_completion}
use Rattle.sp_match.specs.public.Matching.{Stands}
use Rattle.sp_match.specs.public.Seen.{seen}
use Rattle.sp_seq.specs.Completed.{matches_told, with_matches}
use Rattle.sp_seq.specs.Unconsumed.{unconsumed}
use Rattle.sp_seq.proofs.Gathering.{gathered_none, gathered_skip, gathered_offer, below_more, below_none, gathering_as}
use Rattle.std.proofs.lemmas.List.{append-nil}
use Rattle.sp_seq.proofs.window.match_window.Goals as goal
use Rattle.sp_seq.proofs.window.match_window.Goals.{then-not-seats-i+then-not-ignores+in_ok-offer_known+in_ok-add_matches, then-not-seats-i+else-not-ignores, else-not-seats-i}

pub loop-i-init : goal.loop-i-init
loop-i-init c = record {
  gathered = gathered_none c.clear.new.self.plan c.args.window.number c.args.seats.now.events.now c.args.window.first c.args.matches.now.items c.args.seats.now.consumed.now c.clear.new.self c.clear.ensures.none c.clear.ensures.count;
  plan_is = refl;
  below = below_none c.args.window.first c.clear.new.self c.clear.ensures.none c.clear.ensures.count;
  more = omega arith;
}

pub loop-i-preserved : goal.loop-i-preserved
loop-i-preserved c =
    let q = c.clear.new.self.plan in
    let now = c.loop-i in
    let same : length c.args.seats.now.consumed.now ≡ length c.args.seats.now.events.now = c.requires.same in
    elim c.if-not-seats-i.branch [
      | then-not-seats-i+then-not-ignores+in_ok-offer_known+in_ok-add_matches w ↦
          let event = get_or c.args.seats.now.events.now now.i w.index-seats-i.result in
          let m = now.matcher in
          let m' = w.offer_known.new.self in
          let list = map seen w.offer_known.new.moves.list.items in
          let offered = w.in_ok-offer_known.ensures in
          let handled : (s : State) → Stands m s → Stands m' (handle q s (now.i + 1, event)) = subst (λ (p : Plan). (s : State) → Stands m s → Stands m' (handle p s (now.i + 1, event))) now.invariant.plan_is offered.stands in
          let telling : (s : State) → Stands m s → list ≡ definitions.told q s (definitions.moves q s (now.i + 1, event)) =
          subst (λ (p : Plan). (s : State) → Stands m s → list ≡ definitions.told p s (definitions.moves p s (now.i + 1, event))) now.invariant.plan_is offered.told in
          let added : w.add_matches.new.matches.items ≡ now.matches.items ++ matches_told c.args.window.number (length now.matches.items + 1) (filter is_completion list) =
          w.in_ok-add_matches.ensures ∙ ap (λ l. now.matches.items ++ matches_told c.args.window.number (length now.matches.items + 1) (filter is_completion (map seen l))) w.deref_mut.ensures.value in
          let next = gathered_offer now.invariant.gathered (omega arith) (omega arith) same w.index-seats-i.result event refl c.completions_are_matches.ensures c.runs_are_sound.ensures w.if-not-seats-i.true m' list w.add_matches.new.matches.items handled telling added in
          gathering_as (record { gathered = next; plan_is = offered.plan ∙ now.invariant.plan_is; below = offered.below; more = omega (arith, now.invariant.more, ap length added, length-append now.matches.items (matches_told c.args.window.number (length now.matches.items + 1) (filter is_completion list))) }) w.matcher-is (ap (λ v. v.items) w.matches-is)
      | then-not-seats-i+else-not-ignores w ↦
          let none : Event = record { time = pos 0; values = [] } in
          let event = get_or c.args.seats.now.events.now now.i none in
          let m = now.matcher in
          let known : IsKnown m.plan event (get_or c.args.seats.now.known.now now.i Never) =
          subst (λ (p : Plan). IsKnown p event (get_or c.args.seats.now.known.now now.i Never)) (sym (now.invariant.plan_is ∙ c.clear.ensures.plan)) (c.requires.known now.i none Never (omega (arith, c.requires.within)) (omega (arith, c.requires.learned))) in
          let handled : (s : State) → Stands m s → Stands m (handle q s (now.i + 1, event)) = subst (λ (p : Plan). (s : State) → Stands m s → Stands m (handle p s (now.i + 1, event))) now.invariant.plan_is (w.ignores.ensures.stands w.if-not-ignores.false (now.i + 1, event) known) in
          let telling : (s : State) → Stands m s → [] ≡ definitions.told q s (definitions.moves q s (now.i + 1, event)) =
          subst (λ (p : Plan). (s : State) → Stands m s → [] ≡ definitions.told p s (definitions.moves p s (now.i + 1, event))) now.invariant.plan_is (w.ignores.ensures.told w.if-not-ignores.false (now.i + 1, event) known) in
          gathering_as (record {
            gathered = gathered_offer now.invariant.gathered (omega arith) (omega arith) same none event refl c.completions_are_matches.ensures c.runs_are_sound.ensures w.if-not-seats-i.true m [] now.matches.items handled telling (sym (append-nil now.matches.items));
            plan_is = now.invariant.plan_is;
            below = below_more (now.i + 1) _ now.invariant.below;
            more = now.invariant.more;
          }) w.matcher-is (ap (λ v. v.items) w.matches-is)
      | else-not-seats-i w ↦
          let none : Event = record { time = pos 0; values = [] } in
          gathering_as (record {
            gathered = gathered_skip now.invariant.gathered (omega arith) (omega arith) same none (get_or c.args.seats.now.events.now now.i none) refl w.if-not-seats-i.false;
            plan_is = now.invariant.plan_is;
            below = below_more (now.i + 1) _ now.invariant.below;
            more = now.invariant.more;
          }) w.matcher-is (ap (λ v. v.items) w.matches-is)
    ]

pub returns-clause-matches : goal.returns-clause-matches
returns-clause-matches c = λ before marked.
    let last : c.loop-i.i ≡ c.args.window.end = omega (arith, c.requires.ordered) in
    let matches_of : Plan → ℕ → List Match = λ q i. with_matches q c.args.window.number c.args.matches.now.items (state q (unconsumed before c.args.seats.now.events.now c.args.window.first i)) in
    c.loop-i.invariant.gathered.matches_are before marked ∙ (λ j. matches_of (c.clear.ensures.plan j) (last j))

pub offer_known-requires-clause-known : goal.offer_known-requires-clause-known
offer_known-requires-clause-known c =
    let i = c.loop-i.i in
    let none = c.index-seats-i.result in
    let one = get_or c.args.seats.now.known.now i Never in
    subst (λ (p : Plan). IsKnown p (get_or c.args.seats.now.events.now i none) one) (sym (c.loop-i.invariant.plan_is ∙ c.clear.ensures.plan)) (c.requires.known i none Never (omega (arith, c.requires.within, c.loop-i-test.true)) (omega (arith, c.requires.learned, c.loop-i-test.true)))
