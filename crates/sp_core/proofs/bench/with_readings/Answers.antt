use Rattle.std.proofs.Common.{◌+◌, ◌<◌, ◌≤◌, length, map, set, ap, subst, sym, ◌∙◌, arith}
use Rattle.sp_group.specs.Seen.{seen_ticket}
use Rattle.sp_core.proofs.LinesRead.{AreWritten, all_written, none_written, one_written, same_many}
use Rattle.sp_core.proofs.bench.with_readings.Goals as goal

pub loop-i-init : goal.loop-i-init
loop-i-init c = none_written c.into_vec-lines.result.items c.args.pieces.now (ap (map seen_ticket) c.into_vec-lines.ensures ∙ c.requires)

pub loop-i-preserved : goal.loop-i-preserved
loop-i-preserved c =
    let lines = c.loop-i.lines.items in
    let ps = c.args.pieces.now in
    let line = c.index_mut.result.now in
    let first = c.into_vec-lines.result.items in
    let many = same_many 0 first ps (none_written first ps (ap (map seen_ticket) c.into_vec-lines.ensures ∙ c.requires)) in
    let few : c.loop-i.i < length ps = omega (arith, c.loop-i-test.true, c.len-i-end.ensures, c.into_vec-lines.result.ok.0, many) in
    subst (λ n. AreWritten (c.loop-i.i + 1) (set lines c.loop-i.i (record line { read = n })) ps) (sym c.read.ensures.read)
    (one_written lines ps c.loop-i.i line c.index-pieces-place.result c.loop-i.invariant few c.index_mut.ensures.value c.index-pieces-place.is)

pub returns : goal.returns
returns c =
    let lines = c.loop-i.lines.items in
    let ps = c.args.pieces.now in
    let first = c.into_vec-lines.result.items in
    let many = same_many 0 first ps (none_written first ps (ap (map seen_ticket) c.into_vec-lines.ensures ∙ c.requires)) in
    let now = same_many c.loop-i.i lines ps c.loop-i.invariant in
    let most : length lines ≤ c.loop-i.i = omega (arith, c.loop-i-test.false, c.len-i-end.ensures, c.into_vec-lines.result.ok.0, many, now) in
    ap (map seen_ticket) c.of.ensures ∙ all_written lines ps c.loop-i.i most c.loop-i.invariant
