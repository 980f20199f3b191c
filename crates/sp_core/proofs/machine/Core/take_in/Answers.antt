use Rattle.std.proofs.Common.{rules, ◌≡◌, ◌∙◌, refl, sym, ap, subst, None, ℕ, pos, ◌≤ℤ◌, ◌++◌, ◌∷◌, [], Bool, true, false, List, map, arith}
use Rattle.std.specs.List.{All, AllZip}
use Rattle.sp_plan.specs.declared.event.Event.{Event}
use Rattle.sp_plan.specs.declared.plan.Plan.{Plan}
use Rattle.sp_plan.specs.Events.{fits}
use Rattle.sp_plan.specs.WindowNumbers.{Good}
use Rattle.sp_match.specs.declared.known.Known.{Known}
use Rattle.sp_match.specs.public.Known.{IsKnown}
use Rattle.sp_window.specs.Standing as window
use Rattle.sp_group.specs.declared.step.Step.TheVariants as s
use Rattle.sp_group.specs.declared.refusal.Refusal.TheVariants as r
use Rattle.sp_rules.proofs.Facts.{facts}
use Rattle.sp_rules.proofs.Feeding.{fed}
use Rattle.sp_spread.proofs.Hits.{by_feed}
use Rattle.sp_core.specs.Holding.{Holding, Holds, holding, machine_of, running}
use Rattle.sp_core.specs.Carrying.{ticket_of}
use Rattle.sp_core.specs.Rooms.{room}
use Rattle.sp_core.specs.Running.{Running, once, refused}
use Rattle.sp_core.proofs.Journal.{replayed_on, reached}
use Rattle.sp_core.proofs.Fed.{fits_last, in_order, all_hold_fed}
use Rattle.sp_core.proofs.KnownEvents.{one_more_known}
use Rattle.sp_core.proofs.Newly.{news_on}
use Rattle.sp_core.proofs.Refused.{passes_if}
use Rattle.sp_core.proofs.Owed.{room_for}
use Rattle.sp_core.proofs.machine.Core.take_in.Goals as goal

pub feed-requires-clause-fits : goal.feed-requires-clause-fits
feed-requires-clause-fits c =
    let h = holding c.self.inside in
    let good : Good h.plan (h.events ++ c.args.event ∷ []) = subst (λ (r : Running). Good r.plan (r.machine.events ++ c.args.event ∷ [])) (sym c.self.view_is) c.requires.good in
    subst (λ (q : Plan). fits q c.args.event ≡ true) (sym c.self.invariant.windows_plan) (fits_last h.plan h.events c.args.event good)

pub feed-requires-clause-in_order : goal.feed-requires-clause-in_order
feed-requires-clause-in_order c =
    let h = holding c.self.inside in
    let good : Good h.plan (h.events ++ c.args.event ∷ []) = subst (λ (r : Running). Good r.plan (r.machine.events ++ c.args.event ∷ [])) (sym c.self.view_is) c.requires.good in
    subst (λ (n : ℕ). pos n ≤ℤ c.args.event.time) (sym c.self.invariant.windows.time_is) (in_order h.plan h.events c.args.event good)

pub invariant_of-self-2 : goal.invariant_of-self-2
invariant_of-self-2 c =
    let inside = c.self.inside in
    let h = holding inside in
    let i = c.self.invariant in
    let e = c.args.event in
    let good : Good h.plan (h.events ++ e ∷ []) = subst (λ (r : Running). Good r.plan (r.machine.events ++ e ∷ [])) (sym c.self.view_is) c.requires.good in
    let passes : refused (running h) (s.Feed e) ≡ None = subst (λ (r : Running). refused r (s.Feed e) ≡ None) (sym c.self.view_is) c.requires.passes in
    let going : h.ended ≡ false = (passes_if h.ended r.AfterEnd _ passes).0 in
    let pushed : c.push_reserved-2.new.self.items ≡ h.events ++ e ∷ [] = c.push_reserved-2.ensures.items ∙ ap (λ (es : List Event). es ++ e ∷ []) c.reserve.ensures.items in
    let kept : c.push_reserved.new.self.items ≡ h.known ++ c.known_of.result ∷ [] =
    c.push_reserved.ensures.items ∙ ap (λ (ks : List Known). ks ++ c.known_of.result ∷ []) c.reserve-2.ensures.items in
    let sure : IsKnown h.plan e c.known_of.result = subst (λ (q : Plan). IsKnown q e c.known_of.result) c.deref.ensures c.known_of.ensures.sure in
    let journal : c.enter.new.journal.items ≡ h.journal ++ once (s.Feed e) ∷ [] = search rules in
    let law = c.compiled_plans_are_lawful.ensures h.plan i.compiled in
    let k : Holding = record h { events = c.push_reserved-2.new.self.items; known = c.push_reserved.new.self.items; windows = c.feed.new.self; journal = c.enter.new.journal.items; journal_room = room c.enter.new.journal } in
    record {
      compiled = i.compiled;
      known_are = subst (λ (events : List Event). AllZip (IsKnown h.plan) events c.push_reserved.new.self.items) (sym pushed)
          (subst (AllZip (IsKnown h.plan) (h.events ++ e ∷ [])) (sym kept) (one_more_known (IsKnown h.plan) h.events h.known e c.known_of.result i.known_are sure));
      some = i.some;
      most = i.most;
      windows_plan = c.feed.ensures.plan ∙ i.windows_plan;
      windows = subst (λ (events : List Event). window.Stands c.feed.new.self events h.ended) (sym pushed)
          (subst (λ (b : Bool). window.Stands c.feed.new.self (h.events ++ e ∷ []) b) (sym going)
          (c.in_ok-feed.ensures.stands h.events (subst (λ (b : Bool). window.Stands h.windows h.events b) going i.windows)));
      grown = i.grown;
      versions = subst (λ (events : List Event). All (Holds h.plan events (map ticket_of h.tickets)) h.tree.entries) (sym pushed)
          (all_hold_fed h e law good i (reached c.every_schedule.ensures h i));
      replayed = replayed_on h k (s.Feed e) i.replayed refl refl journal (λ _. good) passes (ap (λ (events : List Event). record (machine_of h) { events = events }) pushed) (omega arith) (omega arith);
      news_are = news_on h (machine_of k) (fed (machine_of h) e) i.news_are (ap (λ (events : List Event). record (machine_of h) { events = events }) pushed)
          (by_feed h.plan (facts h.plan law) (machine_of h) e good (reached c.every_schedule.ensures h i).kept);
      rooms = record {
        entries = room_for h.ended h.tree.entries c.live.result _ _ (let live = c.live.ensures.live in omega arith) c.in_ok-make_room.ensures.ok c.enter.ensures.kept;
        matches = i.rooms.matches;
        numbers = i.rooms.numbers;
      };
    }
