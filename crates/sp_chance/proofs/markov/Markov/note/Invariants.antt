use Rattle.std.proofs.Common.{◌≡◌, ◌-◌, ◌≤◌, replicate}
use Rattle.sp_chance.specs.Learned.{learned_all}
use Rattle.sp_chance.proofs.markov.Markov.note.Given as goal

-- so often it was learned
abbrev pub invariant-loop-noted : goal.invariant-loop-noted
invariant-loop-noted l = (l.self ≡ learned_all l.initial.self (replicate l.noted (l.from, l.to))) × (l.noted ≤ l.times)

abbrev pub decreases-loop-noted : goal.decreases-loop-noted
decreases-loop-noted l = l.times - l.noted
