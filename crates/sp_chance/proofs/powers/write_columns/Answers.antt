use Rattle.std.proofs.Common.{List, ℕ, sym, subst, arith}
use Rattle.sp_chance.specs.Matrices.{product}
use Rattle.sp_chance.specs.Counted.{HasRows, SameRows}
use Rattle.sp_chance.proofs.Columns.{first-kept, more-kept}
use Rattle.sp_chance.proofs.powers.write_columns.Goals as goal

pub loop-power-init : goal.loop-power-init
loop-power-init c =
    first-kept c.args.rows c.args.one.now _ _ c.requires.one c.copy_from_slice.ensures.after c.keep_column.ensures.kept

pub loop-power-preserved : goal.loop-power-preserved
loop-power-preserved c =
    let after = sym c.copy_from_slice-in-loop-power.ensures.after in
    more-kept c.args.rows c.args.one.now c.loop-power.current c.loop-power.columns c.copy_from_slice-in-loop-power.new.self _ c.loop-power.power
    c.requires.rows (omega arith) c.loop-power.invariant
    (subst (λ (m : List ℕ). SameRows c.args.rows m (product c.loop-power.current c.args.one.now)) after c.multiply.ensures.value)
    (subst (HasRows c.args.rows) after c.multiply.ensures.matrix)
    c.keep_column-in-loop-power.ensures.kept
    c.keep_column-in-loop-power.ensures.before
