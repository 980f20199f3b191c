use Rattle.std.proofs.Common.{◌≡◌, true, Some, rules}
use Rattle.sp_returns.specs.Checks.{column_place, is_returned}
use Rattle.sp_returns.proofs.Slots.{twice_is}
use Rattle.sp_returns.proofs.compiling.target_place.Goals as goal

pub returns-in-Some : goal.returns-in-Some
returns-in-Some c =
    let placed : column_place c.args.columns.now c.args.item.now.name.text ≡ Some c.in-Some.field-0 = search rules in
    let twice : is_returned c.args.before.now c.args.item.now.name.text ≡ true = search rules in
    λ scope. twice_is scope c.args.columns.now c.args.before.now c.args.item.now c.in-Some.field-0 placed twice
