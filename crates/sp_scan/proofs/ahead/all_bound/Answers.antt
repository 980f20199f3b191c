use Rattle.std.proofs.Common.{◌≡◌, ◌-◌, true, false, sym, ap, ◌∙◌, arith, rules}
use Rattle.std.specs.List.{list_all, range_with_len}
use Rattle.sp_plan.specs.Runs.{is_bound}
use Rattle.sp_scan.proofs.Searching.{range_at, range_push, all_next, all_not}
use Rattle.sp_scan.proofs.ahead.all_bound.Goals as goal

pub returns-then-not-has : goal.returns-then-not-has
returns-then-not-has c =
    let first = c.span-first.result.0 in
    let past = c.span-first.result.1 in
    let name = c.loop-name.name in
    let p = is_bound c.args.pairs.now in
    let fails : p name ≡ false = search rules in
    sym (ap (list_all p) (c.span-first.ensures.names ∙ range_at first name past (omega arith) (omega arith)) ∙ all_not p (range_with_len first (name - first)) _ name c.loop-name.invariant fails)

pub loop-name-preserved : goal.loop-name-preserved
loop-name-preserved c =
    let first = c.span-first.result.0 in
    let name = c.loop-name.name in
    let p = is_bound c.args.pairs.now in
    let holds : p name ≡ true = search rules in
    ap (list_all p) (range_push first name (omega arith)) ∙ all_next p (range_with_len first (name - first)) name c.loop-name.invariant holds
