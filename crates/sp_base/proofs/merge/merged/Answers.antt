use Rattle.std.proofs.Common.{◌≡◌, ◌≤◌, ◌⊎◌, ◌++◌, [], ◌∷◌, length, drop, sym, ap, subst, ◌∙◌, inl, inr, arith}
use Rattle.sp_base.specs.Merged.{IsMerged}
use Rattle.sp_base.proofs.Merging.{Merging, begun, passed, taken, renamed, ended}
use Rattle.sp_base.proofs.merge.merged.Goals as goal
use Rattle.sp_base.proofs.merge.merged.Goals.{then-loop-one-test+else-other-others, else-loop-one-test}

pub loop-one-init : goal.loop-one-init
loop-one-init c =
    subst (λ l. Merging c.args.ones.now c.args.others.now l 0 0) (sym c.in_ok-list.ensures.items)
    (begun c.args.ones.now c.args.others.now c.requires.ones c.requires.others)

pub loop-one-preserved : goal.loop-one-preserved
loop-one-preserved c =
    let n = c.min-n.result in
    renamed c.args.ones.now c.args.others.now (c.loop-one.list.items ++ n ∷ []) c.push.new.self.items
    (passed c.args.ones.now c.loop-one.one n) c.behind-one.result (passed c.args.others.now c.loop-one.other n) c.behind-other.result
    c.in_ok-push.ensures.items c.behind-one.ensures c.behind-other.ensures
    (taken c.args.ones.now c.args.others.now c.loop-one.list.items c.loop-one.one c.loop-one.other n c.loop-one-test.true c.if-other-others.true c.min-n.ensures c.loop-one.invariant)

pub returns : goal.returns
returns c =
    let over : (length c.args.ones.now ≤ c.loop-one.one) ⊎ (length c.args.others.now ≤ c.loop-one.other) =
    elim c.loop-one-test.branch [ then-loop-one-test+else-other-others w ↦ inr (omega arith) | else-loop-one-test w ↦ inl (omega arith) ] in
    let ones_rest = drop c.loop-one.one c.args.ones.now in
    let items : c.extend_from_slice-2.new.self.items ≡ c.loop-one.list.items ++ ones_rest ++ drop c.loop-one.other c.args.others.now =
    c.in_ok-extend_from_slice-2.ensures.items
    ∙ ap (λ l. l ++ c.split_at-2.result.1.now) (c.in_ok-extend_from_slice.ensures.items ∙ ap (λ l. c.loop-one.list.items ++ l) c.split_at.ensures.back)
    ∙ ap (λ l. c.loop-one.list.items ++ ones_rest ++ l) c.split_at-2.ensures.back in
    subst (λ l. IsMerged c.args.ones.now c.args.others.now l) (sym items)
    (ended c.args.ones.now c.args.others.now c.loop-one.list.items c.loop-one.one c.loop-one.other over c.loop-one.invariant)
