use Rattle.std.proofs.Common.{◌≡◌, ◌∷◌, [], map, List, refl, sym, ap, ◌∙◌, subst, is_ok, take, arith}
use Rattle.std.proofs.lemmas.List.{map-append, nil_from_length}
use Rattle.std.proofs.lemmas.Grind.{common_steps}
use Rattle.sp_plan.specs.declared.event.Event.{Event}
use Rattle.sp_plan.specs.declared.pairs.Pair.{Pair}
use Rattle.sp_plan.specs.Released.{AreReleased}
use Rattle.sp_plan.specs.Pages.{joined}
use Rattle.sp_plan.proofs.Released.{SoFar, none_gone, one_less, all_gone}
use Rattle.sp_plan.proofs.pairs.Pairs.release.Goals as goal

abbrev event_of : Pair → Event
event_of p = p.event

pub loop-pair-init : goal.loop-pair-init
loop-pair-init c = record {
  pages = cc;
  paged = refl;
  so_far = none_gone (map event_of c.self.inside.tail.items) c.args.handles.now.items;
}

pub loop-pair-preserved-in-Some : goal.loop-pair-preserved-in-Some
loop-pair-preserved-in-Some c = record {
  pages = c.loop-pair.invariant.pages;
  paged = c.loop-pair.invariant.paged;
  so_far = one_less (map event_of c.self.inside.tail.items) (map event_of c.loop-pair.self-inside.tail.items) (map event_of c.pop.new.self.items)
      c.args.handles.now.items c.loop-pair.handles.items c.push.new.self.items c.in-Some.pair.event (is_ok c.push.result) c.loop-pair.invariant.so_far
      (ap (map event_of) c.in-Some.ensures.items ∙ map-append event_of c.pop.new.self.items (c.in-Some.pair ∷ [])) c.push.ensures.items;
}

pub loop-pair-preserved : goal.loop-pair-preserved
loop-pair-preserved c = record {
  pages = c.loop-pair.invariant.pages;
  paged = c.loop-pair.invariant.paged;
  so_far = one_less (map event_of c.self.inside.tail.items) (map event_of c.loop-pair.self-inside.tail.items) (map event_of c.pop.new.self.items)
      c.args.handles.now.items c.loop-pair.handles.items c.push.new.self.items c.in-Some.pair.event (is_ok c.push.result) c.loop-pair.invariant.so_far
      (ap (map event_of) c.in-Some.ensures.items ∙ map-append event_of c.pop.new.self.items (c.in-Some.pair ∷ [])) c.push.ensures.items;
}

pub returns-clause-handles : goal.returns-clause-handles
returns-clause-handles c =
    let none : c.loop-pair.self-inside.tail.items ≡ [] = nil_from_length c.loop-pair.self-inside.tail.items (grind (arith, common_steps, c.in_default.ensures.cases)) in
    let front = take c.self.inside.paged (joined c.self.inside.pages.items) in
    let gone = all_gone (map event_of front) (map event_of c.self.inside.tail.items) c.args.handles.now.items c.loop-pair.handles.items
    (subst (λ (l : List Pair). SoFar (map event_of c.self.inside.tail.items) (map event_of l) c.args.handles.now.items c.loop-pair.handles.items) none c.loop-pair.invariant.so_far) in
    subst (λ (l : List Event). AreReleased l c.args.handles.now.items c.loop-pair.handles.items)
    (sym (map-append event_of front c.self.inside.tail.items) ∙ ap (map event_of) c.self.view_is) gone
