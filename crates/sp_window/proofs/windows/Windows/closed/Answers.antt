use Rattle.std.proofs.Common.{rules}
use Rattle.sp_window.specs.Keeping.{kept_of}
use Rattle.sp_window.proofs.Keeps.{few_kept, shut_within}
use Rattle.sp_window.proofs.windows.Windows.closed.Goals as goal

pub overflow_cast-result : goal.overflow_cast-result
overflow_cast-result c =
    let kept = c.self.invariant in
    let few = few_kept (kept_of c.self.inside) kept.events kept.ended kept.compiled.windowed kept.stands in
    let within = shut_within (kept_of c.self.inside) kept.events kept.ended kept.compiled.windowed kept.stands in
    search (rules, few, within)
