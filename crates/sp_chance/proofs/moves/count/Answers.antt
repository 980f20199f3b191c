use Rattle.std.proofs.Common.{◌≡◌, ℕ, ◌<◌, List, replicate, ap, ◌∙◌, arith}
use Rattle.sp_chance.specs.Matrices.{at}
use Rattle.sp_chance.specs.Counted.{tally}
use Rattle.sp_chance.proofs.Counting.{at-zeros}
use Rattle.sp_chance.proofs.moves.count.Goals as goal

zeros : (m : List ℕ) (n : ℕ) → m ≡ replicate n 0 → n ≡ 1089 → (i j : ℕ) → i < 33 → j < 33 → at m i j ≡ 0
zeros m n is size i j row column =
    ap (λ l. at l i j) (is ∙ ap (λ k. replicate k 0) size) ∙ at-zeros i j row column

pub returns : goal.returns
returns c i j row column =
    let none : at c.fill.new.self i j ≡ 0 = zeros c.fill.new.self _ (c.fill.ensures.after (λ y is. is)) c.requires.size i j row column in
    omega (arith, none, c.count_all.ensures i j row column, ap (λ ps. tally ps i j) c.codes.ensures)
