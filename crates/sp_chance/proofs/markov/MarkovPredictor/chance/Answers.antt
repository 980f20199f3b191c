use Rattle.std.proofs.Common.{◌≡◌, ℕ, ◌+◌, ◌-◌, ◌/◌, min, ap, sym, ◌∙◌, List, false, ◌==◌, cond, arith}
use Rattle.sp_base.specs.Limits.{whole_share}
use Rattle.sp_chance.specs.Matrices.{at, first, power}
use Rattle.sp_chance.specs.Learned.{chance_of, sixteens}
use Rattle.sp_chance.proofs.Cells.{eqb_not}
use Rattle.sp_chance.proofs.markov.MarkovPredictor.chance.Goals as goal

chosen : (pairs : List (ℕ × ℕ)) (left events x : ℕ) → (left == 0) ≡ false → (events == 0) ≡ false
    → x ≡ at (power (first pairs) (sixteens events - 1)) (min left 32) 0 → x ≡ chance_of pairs left events
chosen pairs left events x some more is =
    is
    ∙ sym (ap (λ b. cond b whole_share (cond (events == 0) 0 (at (power (first pairs) (sixteens events - 1)) (min left 32) 0))) some
    ∙ ap (λ b. cond b 0 (at (power (first pairs) (sixteens events - 1)) (min left 32) 0)) more)

pub returns : goal.returns
returns c =
    let k : ℕ = c.min-power.result - 1 in
    let i : ℕ = c.min-state.result in
    let rounded : c.div_ceil.result ≡ (c.args.events + 15) / 16 = omega (arith, c.div_ceil.ensures) in
    let which : k ≡ sixteens c.args.events - 1 = omega (arith, c.min-power.ensures) in
    chosen c.args.self.now.built c.args.left c.args.events c.number.result (eqb_not _ _ c.if-left-eq0.false) (eqb_not _ _ c.if-events-eq0.false)
    (c.number.ensures
    ∙ ap (λ n. at (power (first c.args.self.now.built) n) i 0) which
    ∙ ap (λ n. at (power (first c.args.self.now.built) (sixteens c.args.events - 1)) n 0) c.min-state.ensures)
