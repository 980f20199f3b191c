use Rattle.std.proofs.Common.{◌≡◌, ◌+◌, [], ◌∷◌, ◌++◌, take, ◌∙◌, ap, arith}
use Rattle.std.specs.Arc.{arc_value}
use Rattle.sp_plan.specs.Pages.{joined}
use Rattle.sp_plan.proofs.Pages.{turned}
use Rattle.sp_plan.proofs.pairs.Pairs.settle.Goals as goal

pub returns-in-Ok : goal.returns-in-Ok
returns-in-Ok c =
    let it = c.self.inside in
    let page : (arc_value c.in-Ok.pairs).items ≡ it.tail.items = λ k. ((c.in-Ok.ensures.ok ∙ c.replace-full.ensures.value) k).items in
    let pages : c.push_reserved.new.self.items ≡ it.pages.items ++ it.tail.items ∷ [] =
    c.push_reserved.ensures.items ∙ (λ k. c.reserve.ensures.items k ++ page k ∷ []) in
    let tail : c.replace-full.new.dest.items ≡ [] = (λ k. (c.replace-full.ensures.after k).items) ∙ c.in_ok-tail.ensures.items in
    ap (λ l. take (it.paged + 32) (joined l) ++ c.replace-full.new.dest.items) pages
    ∙ ap (λ l. take (it.paged + 32) (joined (it.pages.items ++ it.tail.items ∷ [])) ++ l) tail
    ∙ turned it.pages.items it.paged it.tail.items c.self.invariant (omega arith) (omega arith)
    ∙ c.self.view_is
