use Rattle.std.proofs.Common.{◌≡◌, map, length, ap, ◌∙◌, arith}
use Rattle.std.proofs.lemmas.List.{length-map}
use Rattle.sp_match.specs.inside.Kept.{kept, pairs}
use Rattle.sp_match.proofs.RunsAreHeld.{all_told, any_more, told_more}
use Rattle.sp_match.proofs.takers.takers_among.Goals as goal

pub loop-name-preserved : goal.loop-name-preserved
loop-name-preserved c =
    let q = c.args.plan.now in
    let e = c.args.event.now in
    let rs = map pairs (map kept c.args.runs.now) in
    let masks = c.loop-name.takers.masks.items in
    let new = c.push_reserved.new.self.items in
    let any = c.loop-name.takers.any in
    let n = c.loop-name.name in
    let mask = c.takers_under-mask.result in
    let old = c.loop-name.invariant in
    let long : length rs ≡ length c.args.runs.now = length-map (map kept c.args.runs.now) pairs ∙ length-map c.args.runs.now kept in
    let is = c.push_reserved.ensures.items in record {
      size = omega (arith, c.push_reserved.ensures.len, old.size);
      room = omega (arith, c.push_reserved.ensures.len, c.push_reserved.ensures.capacity, old.room);
      seen = λ name at below there. told_more q e rs masks new any n mask is old.size (λ i inside. c.takers_under-mask.ensures i (omega (arith, inside, long))) (λ m i b inside. old.seen m i b (omega (arith, inside, long))) name at below (omega (arith, there, long));
      any = λ name at below there. any_more q e rs masks new any n mask is old.size (λ i inside. c.takers_under-mask.ensures i (omega (arith, inside, long))) (λ m i b inside. old.any m i b (omega (arith, inside, long))) name at below (omega (arith, there, long));
    }

pub returns : goal.returns
returns c =
    let q = c.args.plan.now in
    let rs = map pairs (map kept c.args.runs.now) in
    let old = c.loop-name.invariant in
    let long : length rs ≡ length c.args.runs.now = length-map (map kept c.args.runs.now) pairs ∙ length-map c.args.runs.now kept in
    let end : c.loop-name.name ≡ length q.names = omega (arith, c.loop-name-test.false, c.loop-name.auto.name-end, ap length c.as_slice-names.ensures) in
    all_told q c.args.event.now rs c.loop-name.takers c.requires.held.few (λ name at named there. old.seen name at (omega (arith, named, end)) (omega (arith, there, long))) (old.size ∙ end)
    (λ name at named there. old.any name at (omega (arith, named, end)) (omega (arith, there, long)))
