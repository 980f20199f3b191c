use Rattle.std.proofs.Common.{◌≡◌, ℕ, ◌<◌, List, [], ◌∷◌, map, length, get_or, ap, ◌∙◌, sym, subst, arith}
use Rattle.std.proofs.lemmas.List.{length-map}
use Rattle.sp_chance.specs.Counted.{IsMove, tally, decoded}
use Rattle.sp_chance.proofs.Counting.{tally-more, decoded-at}
use Rattle.sp_chance.proofs.moves.count_all.Goals as goal

-- the pair of a number that is read
read-move : (codes : List ℕ) (k : ℕ) (p : ℕ × ℕ) → ((n : ℕ) (d : ℕ × ℕ) → n < length (map decoded codes) → IsMove (get_or (map decoded codes) n d))
    → k < length codes → p ≡ decoded (get_or codes k 0) → IsMove p
read-move codes k p moves below is =
    subst IsMove (decoded-at codes k ∙ sym is) (moves k (0, 0) (omega (arith, length-map codes decoded)))

pub count_one-requires-clause-from : goal.count_one-requires-clause-from
count_one-requires-clause-from c =
    let move = read-move c.args.codes.now c.loop-code.code-index c.decode-from.result c.requires.moves c.loop-code-test.true c.decode-from.ensures in
    omega (arith, move.most)

pub count_one-requires-clause-to : goal.count_one-requires-clause-to
count_one-requires-clause-to c =
    let move = read-move c.args.codes.now c.loop-code.code-index c.decode-from.result c.requires.moves c.loop-code-test.true c.decode-from.ensures in
    omega (arith, move.most, move.falls)

pub loop-code-preserved : goal.loop-code-preserved
loop-code-preserved c i j row column =
    let codes = c.args.codes.now in
    let k = c.loop-code.code-index in
    let is : c.decode-from.result ≡ get_or (map decoded codes) k (0, 0) = c.decode-from.ensures ∙ sym (decoded-at codes k) in
    omega (arith, c.count_one.ensures i j row column, ap (λ p. tally (p ∷ []) i j) is, c.loop-code.invariant i j row column, tally-more (map decoded codes) k i j (omega (arith, length-map codes decoded, c.loop-code-test.true)))
