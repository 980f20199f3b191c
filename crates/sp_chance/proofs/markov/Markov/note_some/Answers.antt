use Rattle.std.proofs.Common.{◌≡◌, ℕ, ◌+◌, ◌==◌, ◌++◌, true, false, cond, List, replicate, sym, ap, ◌∙◌}
use Rattle.sp_base.specs.Limits.{renewal}
use Rattle.circular_buffer.specs.Buffer.{keep_last}
use Rattle.sp_chance.specs.Learned.{Learned, learned_all}
use Rattle.sp_chance.proofs.Many.{times_learned}
use Rattle.sp_chance.proofs.markov.Markov.note_some.Goals as goal

-- where they bring a turn
turning : (m : Learned) (pairs ring built : List (ℕ × ℕ)) (n since : ℕ) (turn : (m.since + n == renewal) ≡ true)
    → learned_all m pairs
    ≡ cond (m.since + n == renewal) (record { ring = keep_last 256 (m.ring ++ pairs); since = 0; built = keep_last 256 (m.ring ++ pairs) })
    (record { ring = keep_last 256 (m.ring ++ pairs); since = m.since + n; built = m.built })
    → ring ≡ keep_last 256 (m.ring ++ pairs) → since ≡ cond (m.since + n == renewal) 0 (m.since + n) → built ≡ ring
    → record { ring = ring; since = since; built = built } ≡ learned_all m pairs
turning m pairs ring built n since turn is ring_is since_is built_is =
    let none : since ≡ 0 = since_is ∙ ap (λ b. cond b 0 (m.since + n)) turn in
    let kept : List (ℕ × ℕ) = keep_last 256 (m.ring ++ pairs) in
    (λ i. record { ring = ring_is i; since = none i; built = (built_is ∙ ring_is) i })
    ∙ sym (is ∙ ap (λ b. cond b (record { ring = kept; since = 0; built = kept }) (record { ring = kept; since = m.since + n; built = m.built })) turn)

-- and where they don't
going_on : (m : Learned) (pairs ring : List (ℕ × ℕ)) (n since : ℕ) (turn : (m.since + n == renewal) ≡ false)
    → learned_all m pairs
    ≡ cond (m.since + n == renewal) (record { ring = keep_last 256 (m.ring ++ pairs); since = 0; built = keep_last 256 (m.ring ++ pairs) })
    (record { ring = keep_last 256 (m.ring ++ pairs); since = m.since + n; built = m.built })
    → ring ≡ keep_last 256 (m.ring ++ pairs) → since ≡ cond (m.since + n == renewal) 0 (m.since + n)
    → record { ring = ring; since = since; built = m.built } ≡ learned_all m pairs
going_on m pairs ring n since turn is ring_is since_is =
    let on : since ≡ m.since + n = since_is ∙ ap (λ b. cond b 0 (m.since + n)) turn in
    let kept : List (ℕ × ℕ) = keep_last 256 (m.ring ++ pairs) in
    (λ i. record { ring = ring_is i; since = on i; built = m.built })
    ∙ sym (is ∙ ap (λ b. cond b (record { ring = kept; since = 0; built = kept }) (record { ring = kept; since = m.since + n; built = m.built })) turn)

pub returns-then-push_times : goal.returns-then-push_times
returns-then-push_times c =
    let m : Learned = record { ring = c.self.inside.recent.ring; since = c.self.inside.recent.since; built = c.self.inside.built } in
    let n : ℕ = c.args.times in
    let pairs : List (ℕ × ℕ) = replicate n (c.args.from, c.args.to) in
    turning m pairs c.push_times.new.self.ring c.replace.new.self n c.push_times.new.self.since (sym c.push_times.ensures.turn ∙ c.if-push_times.true)
    (times_learned m (c.args.from, c.args.to) n c.requires.counts c.requires.some c.push_times.ensures.within) c.push_times.ensures.ring c.push_times.ensures.since (c.replace.ensures ∙ c.whole.ensures)
    ∙ ap (λ (l : Learned). learned_all l pairs) c.self.view_is

pub returns-else-push_times : goal.returns-else-push_times
returns-else-push_times c =
    let m : Learned = record { ring = c.self.inside.recent.ring; since = c.self.inside.recent.since; built = c.self.inside.built } in
    let n : ℕ = c.args.times in
    let pairs : List (ℕ × ℕ) = replicate n (c.args.from, c.args.to) in
    going_on m pairs c.push_times.new.self.ring n c.push_times.new.self.since (sym c.push_times.ensures.turn ∙ c.if-push_times.false)
    (times_learned m (c.args.from, c.args.to) n c.requires.counts c.requires.some c.push_times.ensures.within) c.push_times.ensures.ring c.push_times.ensures.since
    ∙ ap (λ (l : Learned). learned_all l pairs) c.self.view_is
