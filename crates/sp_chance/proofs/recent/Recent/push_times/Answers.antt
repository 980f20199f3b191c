use Rattle.std.proofs.Common.{◌≡◌, ℕ, ◌+◌, ◌-◌, ◌%◌, ◌≤◌, ◌++◌, ◌∙◌, ap, arith, replicate}
use Rattle.circular_buffer.specs.Buffer.{keep_last}
use Rattle.sp_base.specs.Limits.{renewal}
use Rattle.sp_chance.specs.Recent.{Latest}
use Rattle.sp_chance.proofs.Ring.{pairs-pushed, pairs-pushed-turn, part-filled}
use Rattle.sp_chance.proofs.recent.Recent.push_times.Goals as goal

pub returns-then-self-lt-RENEWAL-clause-ring : goal.returns-then-self-lt-RENEWAL-clause-ring
returns-then-self-lt-RENEWAL-clause-ring c =
    let n : ℕ = c.args.times in
    let begun : c.self.inside.since ≡ c.args.self.now.since = ap (λ (l : Latest). l.since) c.self.view_is in
    let at : ℕ = c.self.inside.since % 256 in
    let room : at + n ≤ 256 = omega (arith, begun, c.requires.room) in
    let same : at + n - at ≡ n = omega arith in
    let filled = part-filled c.self.inside.codes c.fill.new.self at n (at + n - at) c.encode.result c.self.told room same c.fill.ensures.len (c.fill.ensures.after (λ y is. is)) in
    pairs-pushed c.self.inside.codes _ c.self.inside.since n c.encode.result c.args.from c.args.to c.self.inside.full filled c.encode.ensures
    ∙ ap (λ (l : Latest). keep_last 256 (l.ring ++ replicate n (c.args.from, c.args.to))) c.self.view_is

pub returns-clause-ring : goal.returns-clause-ring
returns-clause-ring c =
    let n : ℕ = c.args.times in
    let begun : c.self.inside.since ≡ c.args.self.now.since = ap (λ (l : Latest). l.since) c.self.view_is in
    let at : ℕ = c.self.inside.since % 256 in
    let room : at + n ≤ 256 = omega (arith, begun, c.requires.room) in
    let same : at + n - at ≡ n = omega arith in
    let filled = part-filled c.self.inside.codes c.fill.new.self at n (at + n - at) c.encode.result c.self.told room same c.fill.ensures.len (c.fill.ensures.after (λ y is. is)) in
    let below = c.self.invariant in
    let reached = c.if-self-lt-RENEWAL.false in
    let last : c.self.inside.since + n ≡ renewal = omega (arith, below, reached, room) in
    pairs-pushed-turn c.self.inside.codes _ c.self.inside.since n c.encode.result c.args.from c.args.to c.self.inside.full filled c.encode.ensures last below
    ∙ ap (λ (l : Latest). keep_last 256 (l.ring ++ replicate n (c.args.from, c.args.to))) c.self.view_is
