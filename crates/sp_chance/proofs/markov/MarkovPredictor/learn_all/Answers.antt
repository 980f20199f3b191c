use Rattle.std.proofs.Common.{ℕ, List, get_or, ap, ◌∙◌}
use Rattle.sp_wants.specs.declared.stretch.Stretch.{Stretch}
use Rattle.sp_wants.specs.Stretches.{pairs_of}
use Rattle.sp_chance.specs.Learned.{Learned, learned_all}
use Rattle.sp_chance.proofs.Many.{stretch_learned}
use Rattle.sp_chance.proofs.markov.MarkovPredictor.learn_all.Goals as goal

pub loop-stretch-preserved : goal.loop-stretch-preserved
loop-stretch-preserved c =
    let xs : List Stretch = c.stretches-stretch-items.result.now in
    let i : ℕ = c.loop-stretch.stretch-index in
    let d : Stretch = record { before = 0; after = 0; times = 0 } in
    c.note.ensures
    ∙ ap (λ (m : Learned). learned_all m (pairs_of (get_or xs i d))) c.loop-stretch.invariant
    ∙ stretch_learned c.args.self.now xs i d c.loop-stretch-test.true
