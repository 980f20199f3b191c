use Rattle.std.proofs.Common.{◌≡◌, ◌∷◌, ◌++◌, ℕ, suc, ◌+◌, ◌<◌, length, set, take, drop, ap, ◌∙◌, arith, rules, w64, to_z, of_z}
use Rattle.std.proofs.lemmas.List.{set_split}
use Rattle.sp_plan.proofs.column.put_value.Goals as goal

pub returns-then-at-len-clause-put : goal.returns-then-at-len-clause-put
returns-then-at-len-clause-put c =
    let xs = c.args.values.now.items in
    let at = c.args.at in
    let same : to_z w64 (of_z w64 c.args.value) ≡ c.args.value = search rules in
    let next : suc at ≡ at + 1 = omega arith in
    let within : at < length xs = omega (arith, c.if-at-len.true, c.len.ensures, c.args.values.now.ok.0) in
    ap (set xs at) same ∙ set_split xs at c.args.value within ∙ ap (λ (n : ℕ). take at xs ++ c.args.value ∷ drop n xs) next
