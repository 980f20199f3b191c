use Rattle.std.proofs.Common.{◌%◌, List, get_or, sym, ◌∙◌, ap, arith}
use Rattle.sp_plan.specs.declared.pairs.Pair.{Pair}
use Rattle.sp_plan.proofs.Pages.{in_tail, in_page}
use Rattle.sp_plan.proofs.pairs.Pairs.at.Goals as goal

pub returns-then-place-self : goal.returns-then-place-self
returns-then-place-self c =
    let it = c.self.inside in
    let pair : Pair = c.index.result.now in
    c.index.ensures
    ∙ sym (in_tail it.pages.items it.paged it.tail.items c.args.place pair c.self.invariant (omega arith))
    ∙ ap (λ l. get_or l c.args.place pair) c.self.view_is

pub returns-else-place-self : goal.returns-else-place-self
returns-else-place-self c =
    let it = c.self.inside in
    let pair : Pair = c.index-pairs-place.result in
    let page : List Pair = c.index-else-place-self.result.now in
    c.index-pairs-place.is
    ∙ ap (λ l. get_or l (c.args.place % 32) pair) (c.pairs.ensures ∙ c.index-else-place-self.ensures)
    ∙ sym (in_page it.pages.items it.paged it.tail.items c.args.place page pair c.self.invariant (omega arith))
    ∙ ap (λ l. get_or l c.args.place pair) c.self.view_is
