use Rattle.std.proofs.Common.{arith}
use Rattle.std.specs.Arc.{arc_value}
use Rattle.std.specs.Vec.Iter.{into_iter_items}
use Rattle.sp_lists.specs.Laws.{good_behind}
use Rattle.sp_lists.proofs.list_intake.ListIntake.give.Goals as goal

pub invariant_of-self : goal.invariant_of-self
invariant_of-self c =
    let self = c.args.self.now in
    record {
      good = good_behind (arc_value self.plan) (into_iter_items self.events) (into_iter_items c.next.new.self) c.next.result c.next.ensures.items self.good;
      last = λ some. let all = self.last some in omega (arith, c.next.ensures.len, all);
    }
