use Rattle.std.proofs.Common.{◌≡◌, ◌+◌, ◌-◌, ◌<◌, false, sym, ap, ◌∙◌, arith}
use Rattle.std.specs.Prelude.{nat_lt}
use lib.Dec.{leb}
use Rattle.std.proofs.lemmas.Bool.Decides.{nat_tests}
use Rattle.sp_match.proofs.TakersTell.{before_range, within_range}
use Rattle.sp_match.proofs.taking.is_within.Goals as goal

pub returns-then-first-name : goal.returns-then-first-name
returns-then-first-name c =
    let first = c.args.first in
    let past = c.args.past in
    let e : first + (past - first) ≡ past = omega (arith, c.requires) in
    sym (within_range c.args.name first (past - first) c.if-first-name.true ∙ ap (nat_lt c.args.name) e)

pub returns-else-first-name : goal.returns-else-first-name
returns-else-first-name c =
    let first = c.args.first in
    let past = c.args.past in
    let below : c.args.name < first = omega (arith, c.if-first-name.false) in
    let no : leb first c.args.name ≡ false = grind (arith, nat_tests) in
    no ∙ sym (before_range c.args.name first (past - first) below)
