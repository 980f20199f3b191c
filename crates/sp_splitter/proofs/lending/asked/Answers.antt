use Rattle.std.proofs.Common.{◌≡◌, ◌+◌, ◌-◌, Bool, true, false, ap, sym, ◌∙◌}
use Rattle.std.specs.Prelude.{min, max}
use Rattle.sp_splitter.proofs.Behind.{asked_between, asked_child, asked_gone, asked_orphan, asked_root, asked_shy, free_between}
use Rattle.sp_splitter.proofs.Guessed.{held_begun}
use Rattle.sp_splitter.proofs.lending.asked.Goals as goal

pub returns-in_default-clause-count : goal.returns-in_default-clause-count
returns-in_default-clause-count c =
    asked_gone c.args.core.now c.tree-tree.result.now c.tree-tree.ensures c.args.shy c.args.most c.args.id c.in_default.ensures

pub returns-in_default-parent-clause-count : goal.returns-in_default-parent-clause-count
returns-in_default-parent-clause-count c =
    asked_root c.args.core.now c.tree-tree.result.now c.tree-tree.ensures c.args.shy c.args.most c.args.id c.in-Some.held.now c.in-Some.ensures c.in_default-parent.ensures

pub returns-in_default-get-clause-count : goal.returns-in_default-get-clause-count
returns-in_default-get-clause-count c =
    asked_orphan c.args.core.now c.tree-tree.result.now c.tree-tree.ensures c.args.shy c.args.most c.args.id c.in-Some-parent.above c.in-Some.held.now c.in-Some.ensures c.in-Some-parent.ensures
    c.in_default-get.ensures

pub is_free-requires : goal.is_free-requires
is_free-requires c = record {
  begun = held_begun c.args.core.now c.finished.ensures.reached c.tree-tree.result.now c.tree-tree.ensures c.in-Some-parent.above c.in-Some-get.parent.now c.in-Some-get.ensures;
}

pub returns-then-is_free-clause-count : goal.returns-then-is_free-clause-count
returns-then-is_free-clause-count c =
    let parent = c.in-Some-get.parent.now in
    let held = c.in-Some.held.now in
    let free : free_between c.args.most c.args.core.now parent held ≡ true = sym c.is_free.ensures ∙ c.if-is_free.true in
    ap (λ (b : Bool). asked_between b c.args.most true (parent.first + parent.position) (held.first + held.position)) (sym c.if-shy.false)
    ∙ ap (λ (b : Bool). asked_between c.args.shy c.args.most b (parent.first + parent.position) (held.first + held.position)) (sym free)
    ∙ asked_child c.args.core.now c.tree-tree.result.now c.tree-tree.ensures c.args.shy c.args.most c.args.id c.in-Some-parent.above held parent c.in-Some.ensures c.in-Some-parent.ensures c.in-Some-get.ensures

pub returns-clause-count : goal.returns-clause-count
returns-clause-count c =
    let parent = c.in-Some-get.parent.now in
    let held = c.in-Some.held.now in
    let bound : free_between c.args.most c.args.core.now parent held ≡ false = sym c.is_free.ensures ∙ c.if-is_free.false in
    let read : c.next_read.result - c.next_read-2.result ≡ (parent.first + parent.position) - (held.first + held.position) =
    (λ i. c.next_read.ensures i - c.next_read-2.ensures i) in
    c.clamp.ensures ∙ (λ i. max (c.min.ensures i) (min ((c.saturating_sub-read.ensures ∙ read) i) c.args.most))
    ∙ ap (λ (b : Bool). asked_between b c.args.most false (parent.first + parent.position) (held.first + held.position)) (sym c.if-shy.false)
    ∙ ap (λ (b : Bool). asked_between c.args.shy c.args.most b (parent.first + parent.position) (held.first + held.position)) (sym bound)
    ∙ asked_child c.args.core.now c.tree-tree.result.now c.tree-tree.ensures c.args.shy c.args.most c.args.id c.in-Some-parent.above held parent c.in-Some.ensures c.in-Some-parent.ensures c.in-Some-get.ensures

pub returns-then-shy-clause-count : goal.returns-then-shy-clause-count
returns-then-shy-clause-count c =
    asked_shy c.args.core.now c.tree-tree.result.now c.tree-tree.ensures c.args.shy c.args.most c.args.id c.in-Some-parent.above c.in-Some.held.now c.in-Some-get.parent.now c.in-Some.ensures
    c.in-Some-parent.ensures c.in-Some-get.ensures c.if-shy.true
