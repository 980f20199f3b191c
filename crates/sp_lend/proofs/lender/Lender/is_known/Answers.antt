use Rattle.std.proofs.Common.{ℕ, ◌<◌, sym, ap, ◌∙◌, subst}
use Rattle.std.specs.Option.{option_copied}
use Rattle.sp_core.specs.Returning.{IsCarried}
use Rattle.sp_core.specs.Running.{Running}
use Rattle.sp_lend.specs.Truth.{Vouches}
use Rattle.sp_lend.proofs.TrueAfter.{found_same, known}
use Rattle.sp_lend.proofs.lender.Lender.is_known.Goals as goal

pub returns-then-receipt-count : goal.returns-then-receipt-count
returns-then-receipt-count g c = λ true.
    let core = c.self.inside.core in
    let job = c.args.job.now in
    let held = c.in-Some-get.held.now in
    let there = c.agree.ensures c.in-Some.receipt.place job (subst (λ (n : ℕ). c.in-Some.receipt.place < n) c.count.ensures c.if-receipt-count.true) (subst (λ r. Vouches r job) c.in-Some.is c.requires.receipt) in
    subst (λ (r : Running). IsCarried r job) c.self.view_is
    (known core c.tree.result.now c.self.inside.front c.in-Some.receipt.place job held c.tree.ensures c.finished.ensures.reached c.self.invariant.1
    there (sym (ap option_copied c.in-Some-get.is) ∙ c.get.ensures) (found_same held.out job.ticket (sym c.eq.ensures ∙ true)))
