-- Two numbers in one, which tells both.
use Rattle.std.specs.Prelude.{ℕ, zero, suc, ◌+◌, ◌*◌}

unfoldable pub both : ℕ → ℕ → ℕ
both zero b = 2 * b
both (suc a) b = 2 * both a b + 1
