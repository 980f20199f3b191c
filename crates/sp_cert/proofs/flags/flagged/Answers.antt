use Rattle.std.proofs.Common.{◌≡◌, ◌+◌, ◌-◌, ◌≤◌, false, sym, ◌∙◌, ap, arith}
use Rattle.std.specs.Prelude.{slice_index_or}
use Rattle.sp_base.specs.Numbers.{is_among}
use Rattle.sp_cert.proofs.Within.{below_next, one_passes, none_passes}
use Rattle.sp_cert.proofs.flags.flagged.Goals as goal
use Rattle.sp_cert.proofs.flags.flagged.Goals.{then-flags-number+in_ok-insert, else-flags-number}

pub loop-number-preserved : goal.loop-number-preserved
loop-number-preserved c = λ members are.
    let first = c.args.first in
    let number = c.loop-number.number in
    let list = c.loop-number.numbers.list in
    let now = c.loop-number.invariant members are in
    let low : first ≤ number = omega (arith, c.requires.some) in
    let at : c.args.base + (number - c.args.base) ≡ number = omega (arith, c.requires.low) in
    let flag : slice_index_or c.args.flags.now (number - c.args.base) false ≡ is_among members number =
    are (number - c.args.base) (omega (arith, c.requires.low, c.requires.within, c.loop-number-test.true)) ∙ ap (is_among members) at in
    elim c.if-flags-number.branch [
      | then-flags-number+in_ok-insert w ↦
          ap (λ n. n.list) w.numbers-is ∙ w.in_ok-insert.ensures.last (below_next (is_among members) first number low list now)
          ∙ one_passes (is_among members) first number low list now (sym flag ∙ w.if-flags-number.true)
      | else-flags-number w ↦ ap (λ n. n.list) w.numbers-is ∙ none_passes (is_among members) first number low list now (sym flag ∙ w.if-flags-number.false)
    ]
