use Rattle.std.proofs.Common.{ℕ, List, ◌++◌, take, sym, ◌∙◌, ap, subst, arith}
use Rattle.std.specs.List.{flat_map}
use Rattle.std.proofs.lemmas.List.{take_all}
use Rattle.sp_plan.specs.declared.found.Match.{Match}
use Rattle.sp_seq.specs.Marked.{IsMarked}
use Rattle.sp_seq.proofs.Marks.{used_more}
use Rattle.sp_seq.proofs.window.consume.Goals as goal

pub loop-one-preserved : goal.loop-one-preserved
loop-one-preserved c = λ before marked.
    let i = c.loop-one.one-index in
    let so_far : List ℕ = before ++ flat_map (λ (m : Match). m.used) (take i c.args.matches.now) in
    let more = used_more before c.args.matches.now i _ c.one-item.result (omega arith) c.one-item.is in
    subst (λ (l : List ℕ). IsMarked l c.mark.new.consumed) (ap (λ (l : List ℕ). so_far ++ l) c.list.ensures.list ∙ sym more) (c.mark.ensures so_far (c.loop-one.invariant before marked))

pub returns : goal.returns
returns c = λ before marked.
    subst (λ (l : List Match). IsMarked (before ++ flat_map (λ (m : Match). m.used) l) c.loop-one.consumed) (take_all c.loop-one.one-index c.args.matches.now (omega arith)) (c.loop-one.invariant before marked)
