use Rattle.std.proofs.Common.{sym, ◌∙◌, inl, inr}
use Rattle.sp_version.proofs.Searching.{passed_first, found, found_none}
use Rattle.sp_version.proofs.search.least_among.Goals as goal

pub loop-at-init : goal.loop-at-init
loop-at-init c = passed_first c.args.list.now c.args.first c.args.skipped.now.list c.place-at.result c.place-at.ensures

pub returns-then-not-has_next : goal.returns-then-not-has_next
returns-then-not-has_next c =
    sym (found c.args.list.now c.args.first c.args.count c.args.skipped.now.list c.loop-at.at c.requires c.loop-at.invariant c.loop-at-test.true c.if-list-at.true
    (sym c.has_next.ensures ∙ c.if-not-has_next.true))

pub returns-else-list-at : goal.returns-else-list-at
returns-else-list-at c =
    sym (found_none c.args.list.now c.args.first c.args.count c.args.skipped.now.list c.loop-at.at c.requires c.loop-at.invariant (inr (c.loop-at-test.true, c.if-list-at.false)))

pub returns-after-loop-at : goal.returns-after-loop-at
returns-after-loop-at c =
    sym (found_none c.args.list.now c.args.first c.args.count c.args.skipped.now.list c.loop-at.at c.requires c.loop-at.invariant (inl c.loop-at-test.false))
