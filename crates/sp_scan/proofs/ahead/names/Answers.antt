use Rattle.std.proofs.Common.{◌≡◌, ◌+◌, ◌-◌, ◌&&◌, true, false, sym, ap, ◌∙◌, arith}
use Rattle.std.specs.Prelude.{nat_le, nat_lt}
use Rattle.std.proofs.lemmas.Bool.Decides.{nat_tests}
use Rattle.sp_base.specs.Numbers.{is_among}
use Rattle.sp_scan.proofs.Searching.{among_range}
use Rattle.sp_scan.proofs.ahead.names.Goals as goal

pub returns-then-first-name : goal.returns-then-first-name
returns-then-first-name c =
    let first = c.span-first.result.0 in
    let past = c.span-first.result.1 in
    let name = c.args.name in
    let end : first + (past - first) ≡ past = omega (arith, c.span-first.ensures.ordered) in
    let from : nat_le first name ≡ true = grind (arith, nat_tests) in
    sym (ap (λ ns. is_among ns name) c.span-first.ensures.names ∙ among_range first (past - first) name ∙ λ i. from i && nat_lt name (end i))

pub returns-else-first-name : goal.returns-else-first-name
returns-else-first-name c =
    let first = c.span-first.result.0 in
    let past = c.span-first.result.1 in
    let name = c.args.name in
    let below : nat_le first name ≡ false = grind (arith, nat_tests) in
    below ∙ sym (ap (λ ns. is_among ns name) c.span-first.ensures.names ∙ among_range first (past - first) name ∙ λ i. below i && nat_lt name (first + (past - first)))
