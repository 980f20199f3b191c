use Rattle.std.proofs.Common.{◌≡◌, ℕ, List, [], ◌∷◌, ◌++◌, Some, length, slice_get, sym, ap, ◌∙◌, subst}
use Rattle.sp_piece.specs.declared.job.Job.{Job}
use Rattle.sp_core.specs.Running.{Running}
use Rattle.sp_lend.specs.Truth.{AreTrue, WasLent}
use Rattle.sp_lend.proofs.TrueAfter.{last_is, true_with}
use Rattle.sp_lend.proofs.lender.Lender.enter.Goals as goal

pub invariant_of-self : goal.invariant_of-self
invariant_of-self g c =
    let core = c.self.inside.core in
    let before = c.self.inside.front in
    let job = c.args.job.now in
    let same : c.again.result ≡ before ++ job ∷ [] =
    c.again.ensures ∙ c.if-not-enter.ensures ∙ ap (λ (jobs : List Job). jobs ++ job ∷ []) c.again-front.ensures in
    let was = subst (λ (r : Running). WasLent r.plan r.machine job) (sym c.self.view_is) c.requires.lent in
    (c.self.invariant.0, subst (AreTrue core) (sym same) (true_with core before job c.self.invariant.1 was))

pub returns-clause-receipt : goal.returns-clause-receipt
returns-clause-receipt g c =
    let before = c.self.inside.front in
    let job = c.args.job.now in
    let same : c.enter.new.self ≡ before ++ job ∷ [] = c.if-not-enter.ensures ∙ ap (λ (jobs : List Job). jobs ++ job ∷ []) c.again-front.ensures in
    subst (λ (n : ℕ). slice_get c.enter.new.self n ≡ Some job) (sym c.count-place.ensures)
    (ap (λ (jobs : List Job). slice_get jobs (length before)) same ∙ last_is before job)
