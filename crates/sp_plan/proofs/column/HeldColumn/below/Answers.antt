use Rattle.std.proofs.Common.{◌≡◌, ℕ, ℤ, pos, ◌-◌, ◌<◌, ◌^◌, ◌<ℤ◌, int_lt, List, length, get_or, subst, arith}
use Rattle.std.proofs.lemmas.Int.{ints}
use Rattle.sp_plan.specs.Masks.{has}
use Rattle.sp_plan.proofs.Columns.{all_less}
use Rattle.sp_plan.proofs.column.HeldColumn.below.Goals as goal

pub returns-then-self-than : goal.returns-then-self-than
returns-then-self-than c =
    let above : c.self.inside.greatest <ℤ c.args.than = omega (arith, ints) in
    subst (λ (xs : List ℤ). (run : ℕ) → run < length xs → has (2 ^ 64 - 1) run ≡ int_lt (get_or xs run (pos 0)) c.args.than) c.self.view_is
    (all_less c.self.inside.values.items c.self.inside.least c.self.inside.greatest c.args.than c.self.invariant above)
