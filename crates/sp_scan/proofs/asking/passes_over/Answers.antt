use Rattle.std.proofs.Common.{◌≡◌, ◌||◌, ◌∙◌, false, inl, inr, ap, bit_and, arith}
use Rattle.std.proofs.lemmas.Bool.Decides.{nat_tests}
use Rattle.sp_plan.specs.Runs.{guarded, leaves}
use Rattle.sp_scan.proofs.MaskedNames.{guarded_by_none, takes_none}
use Rattle.sp_scan.proofs.asking.passes_over.Goals as goal

pub returns-in-First : goal.returns-in-First
returns-in-First c =
    let o = c.args.offer.now in
    let q = o.plan.now in
    let e = o.event.now in
    let run = c.args.run.now in
    let stay : leaves q.select q e ≡ false = elim c.in-First.is as (λ _. leaves q.select q e ≡ false) [ inl is ↦ ap (λ select. leaves select q e) is | inr is ↦ ap (λ select. leaves select q e) is ] in
    record {
      none = λ passes. let none : bit_and o.may run.ahead.names ≡ 0 = grind (arith, nat_tests) in takes_none q e o.may run.ahead.names run.pairs c.requires.offer.may_is none c.requires.ahead.wanted_in;
      stays = λ passes.
          let none : bit_and o.may run.ahead.names ≡ 0 = grind (arith, nat_tests) in
          (λ i. stay i || guarded q run.pairs e) ∙ guarded_by_none q e o.may run.ahead.names run.pairs c.requires.offer.may_is none c.requires.ahead.guards_in;
    }
