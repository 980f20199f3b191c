use Rattle.std.proofs.Common.{◌≡◌, ◌==◌, ℕ, sym, ap, ◌∙◌}
use Rattle.std.proofs.lemmas.Result.{IfOk-weaker}
use Rattle.sp_base.specs.Numbers.{NumberList}
use Rattle.sp_plan.specs.Runs.{numbers_under}
use Rattle.sp_scan.specs.inside.Joined.{joined}
use Rattle.sp_scan.proofs.JoinedLists.{keys_joined, numbers_key}
use Rattle.sp_scan.proofs.Picked.{picked}
use Rattle.sp_scan.proofs.pairs.Pairs.numbers_under.Goals as goal

pub returns : goal.returns
returns c =
    let ps = c.self.inside.pairs.items in
    let es = c.self.inside.events in
    let name = c.args.name in
    let test = λ (p : ℕ × ℕ). p.0 == name in
    IfOk-weaker c.under.result (λ (n : NumberList). n.list ≡ picked test c.deref.result.now) (λ (n : NumberList). n.list ≡ numbers_under c.args.self.now name) (λ n is. is
    ∙ ap (picked test) (c.deref.ensures.value ∙ sym (keys_joined ps es c.self.invariant.same_names)) ∙ numbers_key test (joined ps es) ∙ ap (λ r. numbers_under r name) c.self.view_is) c.under.ensures
