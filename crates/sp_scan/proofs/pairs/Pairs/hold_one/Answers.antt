use Rattle.std.proofs.Common.{ℕ, sym, ap, ◌∙◌}
use Rattle.std.specs.List.{list_any}
use Rattle.sp_base.specs.Numbers.{is_among}
use Rattle.sp_plan.specs.Runs.{holds_one}
use Rattle.sp_scan.specs.inside.Joined.{joined}
use Rattle.sp_scan.proofs.JoinedLists.{any_key, keys_joined}
use Rattle.sp_scan.proofs.pairs.Pairs.hold_one.Goals as goal

pub returns : goal.returns
returns c =
    let ps = c.self.inside.pairs.items in
    let es = c.self.inside.events in
    let ns = c.args.numbers.now.list in
    let test = λ (p : ℕ × ℕ). is_among ns p.1 in
    c.hold_one.ensures ∙ ap (list_any test) c.deref.ensures.value ∙ ap (list_any test) (sym (keys_joined ps es c.self.invariant.same_names)) ∙ any_key test (joined ps es) ∙ ap (holds_one ns) c.self.view_is
