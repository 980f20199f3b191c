use Rattle.std.proofs.Common.{[], ◌∷◌, ap, sym, ◌∙◌, None}
use Rattle.std.specs.Prelude.{if◌then◌else◌}
use Rattle.std.specs.List.{last_or}
use Rattle.sp_scan.proofs.LooksAhead.{again_name}
use Rattle.sp_scan.proofs.ahead.again.Goals as goal

pub returns-then-repeats : goal.returns-then-repeats
returns-then-repeats c =
    let name = c.in_ok-name.name in
    ap (λ b. if b then name ∷ [] else []) (sym c.if-repeats.true ∙ c.repeats.ensures) ∙ sym (again_name c.args.plan.now.elements (last_or None c.args.pairs.now) name (sym c.last_name.ensures ∙ c.in_ok-name.was))

pub returns-else-repeats : goal.returns-else-repeats
returns-else-repeats c =
    let name = c.in_ok-name.name in
    ap (λ b. if b then name ∷ [] else []) (sym c.if-repeats.false ∙ c.repeats.ensures) ∙ sym (again_name c.args.plan.now.elements (last_or None c.args.pairs.now) name (sym c.last_name.ensures ∙ c.in_ok-name.was))
