use Rattle.std.proofs.Common.{◌≡◌, List, Option, Some, None, to_z, of_z, w64, sym, ◌∙◌, ap, rules}
use Rattle.std.specs.Prelude.{slice_get}
use Rattle.std.specs.Int.{int_min}
use Rattle.std.proofs.lemmas.Int.{to_z-of_z}
use Rattle.sp_plan.specs.declared.event.Event.{Event}
use Rattle.sp_slack.proofs.Merging.{fronts, line_item, by_fronts}
use Rattle.sp_slack.proofs.waiting.Waiting.first.Goals as goal

pub returns-in-None-Some : goal.returns-in-None-Some
returns-in-None-Some c =
    let s = c.args.self.now in
    let time : to_z w64 (of_z w64 c.in-None-Some.place.now.0) ≡ c.in-None-Some.place.now.0 = search (rules, to_z-of_z) in
    let none : slice_get s.line.items 0 ≡ None = line_item s.line.items None c.in-None-Some.ensures.item in
    rw time (sym (by_fronts s.came s.line.items s.behind.entries s.placed ∙ ap (λ (o : Option Event). fronts o (slice_get s.behind.entries 0)) none ∙ ap (fronts None) c.in-None-Some.ensures'.first))

pub returns-in-Some-Some : goal.returns-in-Some-Some
returns-in-Some-Some c =
    let s = c.args.self.now in
    let x = c.in-Some-Some.event.now in
    let time : to_z w64 (of_z w64 c.in-Some-Some.place.now.0) ≡ c.in-Some-Some.place.now.0 = search (rules, to_z-of_z) in
    let own : to_z w64 (of_z w64 c.in-Some-Some.event.now.time) ≡ c.in-Some-Some.event.now.time = search (rules, to_z-of_z) in
    let some : slice_get s.line.items 0 ≡ Some x = line_item s.line.items (Some c.in-Some-Some.event) c.in-Some-Some.ensures.item in
    let least : to_z w64 (of_z w64 c.min.result) ≡ int_min x.time c.in-Some-Some.place.now.0 = search (rules, to_z-of_z, time, own, c.min.ensures) in
    rw (time, own, least) (sym (by_fronts s.came s.line.items s.behind.entries s.placed ∙ ap (λ (o : Option Event). fronts o (slice_get s.behind.entries 0)) some ∙ ap (fronts (Some x)) c.in-Some-Some.ensures'.first))
