use Rattle.std.proofs.Common.{◌≡◌, ◌∙◌, subst, sym, length, rules}
use Rattle.sp_window.specs.Keeping.{kept_of}
use Rattle.sp_window.specs.Standing.{Kept, Stands}
use Rattle.sp_plan.specs.Windows.{windows}
use Rattle.sp_window.proofs.Keeps.{few_kept, count_kept}
use Rattle.sp_window.proofs.windows.Windows.count.Goals as goal

pub overflow_cast-result : goal.overflow_cast-result
overflow_cast-result c =
    let kept = c.self.invariant in
    let few = few_kept (kept_of c.self.inside) kept.events kept.ended kept.compiled.windowed kept.stands in
    search (rules, few)

pub returns : goal.returns
returns c = λ events ended stands.
    let own : Stands (kept_of c.self.inside) events ended = subst (λ w. Stands w events ended) (sym c.self.view_is) stands in
    let count : length c.self.inside.records.items ≡ length (windows c.args.self.now.plan events ended) =
    subst (λ (w : Kept). length c.self.inside.records.items ≡ length (windows w.plan events ended)) c.self.view_is (count_kept (kept_of c.self.inside) events ended c.self.invariant.compiled.windowed own) in
    let size : c.len.result ≡ length c.self.inside.records.items = search rules in
    size ∙ count
