use Rattle.std.proofs.Common.{◌≡◌, ◌<◌, ◌/◌, ◌+◌, ◌-◌, ℕ, refl, subst, arith}
use Rattle.sp_chance.specs.declared.chances.Chance.{Chance}
use Rattle.sp_chance.specs.Shares.{key, chance_at}
use Rattle.sp_chance.proofs.Ordered.{read-at, rises}
use Rattle.sp_chance.proofs.chances.place.Goals as goal

pub loop-low-preserved-then-is_before : goal.loop-low-preserved-then-is_before
loop-low-preserved-then-is_before c =
    let middle : ℕ = c.loop-low.low + (c.loop-low.high - c.loop-low.low) / 2 in
    let inside = c.loop-low.invariant.within in
    let test = c.loop-low-test.true in
    let here : c.index-list-middle.result ≡ chance_at c.args.list.now middle = read-at _ middle _ (omega arith) c.index-list-middle.is in
    let before : key c.index-list-middle.result.version c.index-list-middle.result.run < key c.args.version c.args.run = c.if-is_before.ensures.0 refl in
    rises c.args.list.now c.args.version c.args.run c.loop-low.low c.loop-low.high middle c.requires c.loop-low.invariant (omega arith)
    (subst (λ (x : Chance). key x.version x.run < key c.args.version c.args.run) here before)
