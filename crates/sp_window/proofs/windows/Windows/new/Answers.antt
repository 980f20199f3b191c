use Rattle.std.proofs.Common.{sym, subst, [], false}
use Rattle.std.specs.Arc.{arc_value}
use Rattle.sp_window.specs.Standing.{Stands}
use Rattle.sp_window.proofs.Keeps.{stands_none, above_steps}
use Rattle.sp_window.proofs.windows.Windows.new.Goals as goal

pub invariant_of-result : goal.invariant_of-result
invariant_of-result c =
    let q = arc_value c.args.plan in
    record {
      compiled = c.requires;
      events = [];
      ended = false;
      stands = subst (λ rs. Stands (record { plan = q; fed = 0; time = 0; ended = false; held = record { records = rs; shut = 0; next = 0 } }) [] false) (sym c.new.ensures.items) (stands_none q (above_steps q c.requires.windowed));
    }
