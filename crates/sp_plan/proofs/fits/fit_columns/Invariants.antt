use Rattle.std.proofs.Common.{◌≡◌, true, take}
use Rattle.std.specs.List.{list_all, zip}
use Rattle.sp_plan.specs.Events.{fits_column}
use Rattle.sp_plan.proofs.fits.fit_columns.Given as goal

abbrev pub invariant-loop-place : goal.invariant-loop-place
invariant-loop-place l = list_all fits_column (take l.place (zip l.columns l.values)) ≡ true
