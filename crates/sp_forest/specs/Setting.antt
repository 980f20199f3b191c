-- The numbers by which trees are driven.
use Rattle.std.specs.Prelude.{◌≤◌}
use Rattle.sp_base.specs.Limits.{batch_limit, live_limit}
use Rattle.sp_forest.specs.declared.setting.Setting.{Setting}

-- the numbers of a setting keep their limits
pub record IsSetting (setting : Setting) : Type 0 where
  pub instances : setting.instances ≤ 16
  pub some_live : 1 ≤ setting.live
  pub most_live : setting.live ≤ live_limit
  pub some : 1 ≤ setting.batch
  pub most : setting.batch ≤ batch_limit
