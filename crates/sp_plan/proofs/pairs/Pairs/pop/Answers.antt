use Rattle.std.proofs.Common.{◌≡◌, ◌+◌, ◌-◌, length, take, sym, ◌∙◌, ap, arith}
use Rattle.std.specs.Vec.{vec_len}
use Rattle.std.proofs.lemmas.Bool.Decides.{nat_tests}
use Rattle.std.proofs.lemmas.List.{length-take-le, take_all}
use Rattle.sp_plan.proofs.Pages.{length_shown, less_in_page}
use Rattle.sp_plan.proofs.pairs.Pairs.pop.Goals.{in-Some-2, in-None-2}
use Rattle.sp_plan.proofs.pairs.Pairs.pop.Goals as goal

pub returns-then-self-eq0 : goal.returns-then-self-eq0
returns-then-self-eq0 c =
    let it = c.self.inside in
    let pages = it.pages.items in
    let less = vec_len it.pages - 1 in
    let kept = c.pop-then-self-eq0.new.self.items in
    let shown : it.paged + length it.tail.items ≡ length c.args.self.now = sym (length_shown pages it.paged it.tail.items c.self.invariant) ∙ ap length c.self.view_is in
    let none : length it.tail.items ≡ 0 = grind (arith, nat_tests) in
    let rest : kept ≡ take less pages = c.pop-then-self-eq0.ensures.rest in
    let size : length kept ≡ less = ap length rest ∙ length-take-le less pages (omega arith) in
    let step = less_in_page pages kept less it.paged it.tail.items c.self.invariant rest (omega arith) (omega arith) none ∙ ap (λ l. take (length l - 1) l) c.self.view_is in
    elim c.match-pop-2.branch [ in-Some-2 w ↦ w.self-is ∙ step | in-None-2 w ↦ w.self-is ∙ step ]

pub returns-else-self-eq0 : goal.returns-else-self-eq0
returns-else-self-eq0 c =
    let it = c.self.inside in
    let pages = it.pages.items in
    let shown : it.paged + length it.tail.items ≡ length c.args.self.now = sym (length_shown pages it.paged it.tail.items c.self.invariant) ∙ ap length c.self.view_is in
    let none : length it.tail.items ≡ 0 = grind (arith, nat_tests) in
    less_in_page pages pages (length pages) it.paged it.tail.items c.self.invariant (sym (take_all (length pages) pages (omega arith))) (omega arith) (omega arith) none
    ∙ ap (λ l. take (length l - 1) l) c.self.view_is
