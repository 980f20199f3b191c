use Rattle.std.proofs.Common.{◌≡◌, pos, ◌≤◌, ◌<◌, ◌≤ℤ◌, ◌+◌, ◌++◌, ◌∷◌, [], ◌∙◌, refl, ap, subst, sym, length, drop, true, false, length-append, arith, rules}
use Rattle.std.proofs.lemmas.List.{take_at}
use Rattle.std.specs.List.{prefix_len}
use Rattle.std.specs.Vec.{with_items}
use Rattle.std.specs.Arc.{arc_value}
use Rattle.sp_base.specs.Limits.{event_limit}
use Rattle.sp_plan.specs.Events.{fits}
use Rattle.sp_window.specs.declared.record.Record.{Record}
use Rattle.sp_window.specs.Keeping.{kept_of}
use Rattle.sp_window.specs.Limits.{is_reached, settled}
use Rattle.sp_window.specs.Times.{stamp}
use Rattle.sp_window.specs.Openings.{opening_by}
use Rattle.sp_window.specs.Standing.{Kept, Stands}
use Rattle.sp_window.proofs.Feeding.{fits_small, stamp_from}
use Rattle.sp_window.proofs.Keeps.{Feeds, feeds_from, stands_fed, shut_within}
use Rattle.sp_window.proofs.windows.Windows.feed.Goals as goal

pub open-requires-clause-small : goal.open-requires-clause-small
open-requires-clause-small c = fits_small c.args.self.now.plan c.args.event.now c.requires.fits

pub close_reached-self-inside-requires-clause-within : goal.close_reached-self-inside-requires-clause-within
close_reached-self-inside-requires-clause-within c =
    let kept = c.self.invariant in
    let within = shut_within (kept_of c.self.inside) kept.events kept.ended kept.compiled.windowed kept.stands in
    let opened = c.in_ok-self-inside.ensures.opened in
    let count = ap length (c.deref_mut.ensures.value ∙ opened) in
    let size = length-append c.self.inside.records.items (opening_by c.deref.result.now.opening c.deref.result.now.length (c.self.inside.fed + 1) c.self.inside.next c.args.event.now) in
    omega arith

pub invariant_of-self-2 : goal.invariant_of-self-2
invariant_of-self-2 c =
    let inside = c.self.inside in
    let e = c.args.event.now in
    let kept = c.self.invariant in
    let fits_e : fits (arc_value inside.plan) e ≡ true = subst (λ (w : Kept). fits w.plan e ≡ true) (sym c.self.view_is) c.requires.fits in
    let new = c.close_reached-self-inside.new.records in
    let opened = c.deref_mut.ensures.value ∙ c.in_ok-self-inside.ensures.opened in
    let size : length new ≡ c.open.new.records.len = search rules in
    let whole = take_at new (drop (length new) c.open.new.records.items) c.open.new.records.len size in
    let rise : inside.time ≤ stamp e = stamp_from inside.time e (subst (λ (w : Kept). pos w.time ≤ℤ e.time) (sym c.self.view_is) c.requires.in_order) in
    let few : inside.fed < event_limit = subst (λ (w : Kept). w.fed < event_limit) (sym c.self.view_is) c.requires.few in
    let more : inside.ended ≡ false = subst (λ (w : Kept). w.ended ≡ false) (sym c.self.view_is) c.requires.more in
    let feeds : Feeds (kept_of inside) (kept_of (record { plan = inside.plan; records = with_items c.open.new.records new; closed = c.close_reached-self-inside.result; next = c.in_ok-self-inside.field-0; fed = inside.fed + 1; time = c.stamp_of-time.result; ended = inside.ended })) e =
    feeds_from (kept_of inside) _ e c.deref.result.now c.deref_mut.result.now c.deref.ensures opened refl
    (whole ∙ c.close_reached-self-inside.ensures.records ∙ ap (λ t. settled inside.closed (inside.fed + 1) t c.deref_mut.result.now) c.stamp_of-time.ensures)
    (c.close_reached-self-inside.ensures.count ∙ ap (λ t. inside.closed + prefix_len (λ (r : Record). is_reached r.limit (inside.fed + 1) t) (drop inside.closed c.deref_mut.result.now)) c.stamp_of-time.ensures)
    c.in_ok-self-inside.ensures.next refl c.stamp_of-time.ensures more in
    let own : Stands (kept_of inside) kept.events false = subst (λ b. Stands (kept_of inside) kept.events b) (sym kept.stands.ended_is ∙ more) kept.stands in
    record {
      compiled = kept.compiled;
      events = kept.events ++ e ∷ [];
      ended = false;
      stands = stands_fed (kept_of inside) _ kept.events e kept.compiled.windowed own fits_e rise few feeds;
    }

pub returns-clause-stands : goal.returns-clause-stands
returns-clause-stands c = λ events stands.
    let inside = c.self.inside in
    let e = c.args.event.now in
    let own : Stands (kept_of inside) events false = subst (λ w. Stands w events false) (sym c.self.view_is) stands in
    let fits_e : fits (arc_value inside.plan) e ≡ true = subst (λ (w : Kept). fits w.plan e ≡ true) (sym c.self.view_is) c.requires.fits in
    let new = c.close_reached-self-inside.new.records in
    let opened = c.deref_mut.ensures.value ∙ c.in_ok-self-inside.ensures.opened in
    let size : length new ≡ c.open.new.records.len = search rules in
    let whole = take_at new (drop (length new) c.open.new.records.items) c.open.new.records.len size in
    let rise : inside.time ≤ stamp e = stamp_from inside.time e (subst (λ (w : Kept). pos w.time ≤ℤ e.time) (sym c.self.view_is) c.requires.in_order) in
    let few : inside.fed < event_limit = subst (λ (w : Kept). w.fed < event_limit) (sym c.self.view_is) c.requires.few in
    let more : inside.ended ≡ false = subst (λ (w : Kept). w.ended ≡ false) (sym c.self.view_is) c.requires.more in
    let feeds : Feeds (kept_of inside) (kept_of (record { plan = inside.plan; records = with_items c.open.new.records new; closed = c.close_reached-self-inside.result; next = c.in_ok-self-inside.field-0; fed = inside.fed + 1; time = c.stamp_of-time.result; ended = inside.ended })) e =
    feeds_from (kept_of inside) _ e c.deref.result.now c.deref_mut.result.now c.deref.ensures opened refl
    (whole ∙ c.close_reached-self-inside.ensures.records ∙ ap (λ t. settled inside.closed (inside.fed + 1) t c.deref_mut.result.now) c.stamp_of-time.ensures)
    (c.close_reached-self-inside.ensures.count ∙ ap (λ t. inside.closed + prefix_len (λ (r : Record). is_reached r.limit (inside.fed + 1) t) (drop inside.closed c.deref_mut.result.now)) c.stamp_of-time.ensures)
    c.in_ok-self-inside.ensures.next refl c.stamp_of-time.ensures more in
    stands_fed (kept_of inside) _ events e c.self.invariant.compiled.windowed own fits_e rise few feeds
