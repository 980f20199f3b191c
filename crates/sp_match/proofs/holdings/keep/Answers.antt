use Rattle.std.proofs.Common.{ℕ, map, length, arith}
use Rattle.sp_match.specs.declared.holdings.Holding.{Holding}
use Rattle.sp_match.specs.inside.Kept.{kept, pairs}
use Rattle.sp_match.specs.inside.Takers.{is_read, is_wanted, run_in}
use Rattle.sp_match.proofs.RunsAreHeld.{columns_more, masks_more, reads_more}
use Rattle.sp_match.proofs.holdings.keep.Goals as goal

pub loop-name-preserved : goal.loop-name-preserved
loop-name-preserved c =
    let q = c.args.plan.now in
    let rs = map pairs (map kept c.args.runs.now) in
    let old = c.loop-name.kept.items in
    let new = c.push.new.self.items in
    let h : Holding = record { wanting = c.wanting.result; columns = c.in_ok-columns.field-0; is_read = c.is_read.result } in
    let n = c.loop-name.name in
    let names = c.as_slice-names.result.now in
    let f = λ (name at : ℕ). is_wanted q (run_in rs at) name in record {
      size = omega (arith, c.in_ok-push.ensures.len, c.loop-name.invariant.size);
      wanting = masks_more old new h n (length c.args.runs.now) f c.in_ok-push.ensures.items c.loop-name.invariant.size c.loop-name.invariant.wanting c.wanting.ensures;
      columns = columns_more rs names old new h c.index-names-name.result n c.in_ok-push.ensures.items c.loop-name-test.true c.loop-name.invariant.columns c.in_ok-columns.ensures;
      reads = reads_more old new h n (is_read q) c.in_ok-push.ensures.items c.loop-name.invariant.size c.loop-name.invariant.reads c.is_read.ensures;
    }
