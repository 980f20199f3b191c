use Rattle.std.proofs.Common.{ℕ, replicate, sym, ap, ◌∙◌, arith}
use Rattle.sp_chance.specs.Learned.{Learned, learned_all}
use Rattle.sp_chance.proofs.Many.{more_times, passed_over}
use Rattle.sp_chance.proofs.markov.Markov.note.Goals as goal

pub returns-then-not-is_move : goal.returns-then-not-is_move
returns-then-not-is_move c = sym (passed_over c.args.self.now c.args.from c.args.to c.args.times (sym c.is_move.ensures.value ∙ c.if-not-is_move.true))

pub loop-noted-preserved : goal.loop-noted-preserved
loop-noted-preserved c =
    let some : ℕ = c.min-some.result in
    let is = c.min-some.ensures in
    let less = c.loop-noted-test.true in (
      c.note_some.ensures
          ∙ ap (λ (m : Learned). learned_all m (replicate some (c.args.from, c.args.to))) c.loop-noted.invariant.0
          ∙ more_times c.args.self.now (c.args.from, c.args.to) c.loop-noted.noted some,
      omega (arith, is, less),
    )
