use Rattle.std.proofs.Common.{◌≡◌, ◌-◌, Some, None, length, sym, ap, ◌∙◌}
use Rattle.std.specs.Prelude.{option_map, slice_get}
use Rattle.std.specs.List.{last_or}
use Rattle.sp_scan.specs.inside.Joined.{joined}
use Rattle.sp_scan.proofs.JoinedLists.{keys_joined, last_at, last_key}
use Rattle.sp_scan.proofs.pairs.Pairs.last_name.Goals as goal

pub returns-in-Some : goal.returns-in-Some
returns-in-Some c =
    let ps = c.self.inside.pairs.items in
    let es = c.self.inside.events in
    let last : last_or None ps ≡ Some c.in-Some.pair.now = sym (c.in-Some.ensures.value ∙ ap (λ bs. slice_get bs (length bs - 1)) c.deref.ensures.value ∙ last_at ps) in
    ap (option_map (λ k. k.0)) (sym last) ∙ ap (λ l. option_map (λ k. k.0) (last_or None l)) (sym (keys_joined ps es c.self.invariant.same_names))
    ∙ last_key (joined ps es) ∙ ap (λ r. option_map (λ pair. pair.name) (last_or None r)) c.self.view_is
