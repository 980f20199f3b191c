use Rattle.std.proofs.Common.{◌≡◌, ℕ, List, take, replicate, get_or, sym, subst, ◌∙◌, arith}
use Rattle.sp_wants.specs.declared.stretch.Stretch.{Stretch}
use Rattle.sp_wants.specs.Stretches.{all_pairs, pairs_of}
use Rattle.sp_chance.specs.Taught.{TaughtOn}
use Rattle.sp_chance.proofs.Many.{stretch_more}
use Rattle.sp_chance.proofs.Teaching.{taught_then}
use Rattle.sp_chance.proofs.predictor.Predictor.learn_all.Goals as goal

pub loop-stretch-preserved : goal.loop-stretch-preserved
loop-stretch-preserved g c =
    let xs : List Stretch = c.stretches-stretch-items.result.now in
    let i : ℕ = c.loop-stretch.stretch-index in
    let s : Stretch = get_or xs i (record { before = 0; after = 0; times = 0 }) in
    let end = c.loop.auto.counter-end in
    let past = c.loop-test.false in
    let all : c.loop.counter ≡ s.times = omega (arith, end, past) in
    let taught : TaughtOn (g.Self.Predictor.taught c.loop-stretch.self) (pairs_of s) (g.Self.Predictor.taught c.loop.self)
    = subst (λ (n : ℕ). TaughtOn (g.Self.Predictor.taught c.loop-stretch.self) (replicate n (s.before, s.after)) (g.Self.Predictor.taught c.loop.self)) all c.loop.invariant.taught in
    record {
      name = c.loop.invariant.name ∙ c.loop-stretch.invariant.name;
      taught = subst (λ (l : List (ℕ × ℕ)). TaughtOn (g.Self.Predictor.taught c.args.self.now) l (g.Self.Predictor.taught c.loop.self))
          (sym (stretch_more xs i (record { before = 0; after = 0; times = 0 }) c.loop-stretch-test.true))
          (taught_then (g.Self.Predictor.taught c.args.self.now) (g.Self.Predictor.taught c.loop-stretch.self) (g.Self.Predictor.taught c.loop.self) (all_pairs (take i xs)) (pairs_of s) c.loop-stretch.invariant.taught taught);
    }
