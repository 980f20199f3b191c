use Rattle.std.proofs.Common.{◌≡◌, ℕ, sym, ap, ◌∙◌}
use Rattle.std.specs.Prelude.{slice_get}
use Rattle.std.proofs.lemmas.Result.{IfOk-weaker}
use Rattle.sp_base.specs.Numbers.{NumberList}
use Rattle.sp_plan.specs.Runs.{is_consumed, used}
use Rattle.sp_scan.specs.inside.Joined.{joined}
use Rattle.sp_scan.proofs.JoinedLists.{keys_joined, numbers_key}
use Rattle.sp_scan.proofs.Picked.{picked}
use Rattle.sp_scan.proofs.pairs.Pairs.used.Goals as goal

pub returns : goal.returns
returns c =
    let ps = c.self.inside.pairs.items in
    let es = c.self.inside.events in
    let q = c.args.plan.now in
    let test = λ (p : ℕ × ℕ). is_consumed (slice_get q.names p.0) in
    IfOk-weaker c.consumed.result (λ (n : NumberList). n.list ≡ picked test c.deref.result.now) (λ (n : NumberList). n.list ≡ used q c.args.self.now) (λ n is. is
    ∙ ap (picked test) (c.deref.ensures.value ∙ sym (keys_joined ps es c.self.invariant.same_names)) ∙ numbers_key test (joined ps es) ∙ ap (used q) c.self.view_is) c.consumed.ensures
