use Rattle.std.proofs.Common.{◌≡◌, ◌==◌, ℕ, true, ◌∙◌, ap, drop, rules}
use Rattle.std.specs.List.{list_all}
use Rattle.sp_rows.specs.Numbers.{are_digits, decimals_to, within_bound}
use Rattle.sp_rows.specs.Capped.{with_more}
use Rattle.sp_rows.proofs.Digits.{in_two}
use Rattle.sp_rows.proofs.numbers.decimal_units.Goals as goal

pub returns-clause-units : goal.returns-clause-units
returns-clause-units c digits are is =
    let scale = c.args.scale in
    let decimals = c.args.decimals.now in
    let second : are_digits decimals ≡ true = search rules in
    let third : list_all (λ b. b == 48) (drop scale decimals) ≡ true = search rules in
    rw (are, second, third) (c.within_bound.ensures.value ∙ ap within_bound (c.with_decimals.ensures ∙ ap (λ (n : ℕ). with_more n (decimals_to scale decimals)) is) ∙ in_two digits (decimals_to scale decimals))
