use Rattle.sp_chance.proofs.Columns.{columns-same}
use Rattle.sp_chance.proofs.powers.work_out.Goals as goal

pub returns : goal.returns
returns c =
    columns-same c.args.rows _ _ _ c.requires.rows c.write_first.ensures.matrix c.write_first.ensures.value c.write_columns.ensures
