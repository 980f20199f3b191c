use Rattle.std.proofs.Common.{◌≡◌, ◌∙◌, refl, ap, subst, sym, length, drop, true, rules}
use Rattle.std.specs.Vec.{with_items}
use Rattle.std.proofs.lemmas.List.{take_at}
use Rattle.sp_window.specs.Keeping.{kept_of}
use Rattle.sp_window.specs.Limits.{closed_from}
use Rattle.sp_window.specs.Standing.{Stands}
use Rattle.sp_window.proofs.Keeps.{stands_ended, shut_within}
use Rattle.sp_window.proofs.windows.Windows.end.Goals as goal

pub close_all-requires : goal.close_all-requires
close_all-requires c =
    let kept = c.self.invariant in
    let within = shut_within (kept_of c.self.inside) kept.events kept.ended kept.compiled.windowed kept.stands in
    search (rules, within)

pub invariant_of-self : goal.invariant_of-self
invariant_of-self c =
    let kept = c.self.invariant in
    let now = c.close_all.new.records in
    let size : length now ≡ c.self.inside.records.len = search rules in
    let whole : (with_items c.self.inside.records now).items ≡ now = take_at now (drop (length now) c.self.inside.records.items) c.self.inside.records.len size in
    let records : now ≡ closed_from c.self.inside.closed c.self.inside.fed c.self.inside.records.items = c.close_all.ensures ∙ ap (closed_from c.self.inside.closed c.self.inside.fed) c.deref_mut.ensures.value in
    let count : c.len-self-inside.result ≡ length (with_items c.self.inside.records now).items = c.len-self-inside.ensures ∙ sym size ∙ ap length (sym whole) in
    record {
      compiled = kept.compiled;
      events = kept.events;
      ended = true;
      stands = stands_ended (kept_of c.self.inside) _ kept.events kept.ended kept.compiled.windowed kept.stands refl (whole ∙ records) count refl refl refl refl;
    }

pub returns-clause-stands : goal.returns-clause-stands
returns-clause-stands c = λ events ended stands.
    let own : Stands (kept_of c.self.inside) events ended = subst (λ w. Stands w events ended) (sym c.self.view_is) stands in
    let now = c.close_all.new.records in
    let size : length now ≡ c.self.inside.records.len = search rules in
    let whole : (with_items c.self.inside.records now).items ≡ now = take_at now (drop (length now) c.self.inside.records.items) c.self.inside.records.len size in
    let records : now ≡ closed_from c.self.inside.closed c.self.inside.fed c.self.inside.records.items = c.close_all.ensures ∙ ap (closed_from c.self.inside.closed c.self.inside.fed) c.deref_mut.ensures.value in
    let count : c.len-self-inside.result ≡ length (with_items c.self.inside.records now).items = c.len-self-inside.ensures ∙ sym size ∙ ap length (sym whole) in
    stands_ended (kept_of c.self.inside) _ events ended c.self.invariant.compiled.windowed own refl (whole ∙ records) count refl refl refl refl
