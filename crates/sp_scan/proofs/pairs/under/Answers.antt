use Rattle.std.proofs.Common.{◌≡◌, ◌==◌, ◌<◌, ℕ, true, false, ◌∷◌, ◌++◌, [], get_or, sym, ap, subst, ◌∙◌, arith}
use Rattle.std.specs.List.{All}
use Rattle.std.proofs.lemmas.Bool.Decides.{nat_tests}
use Rattle.sp_scan.proofs.Picked.{picked_below, picked_passed, picked_taken}
use Rattle.sp_scan.proofs.pairs.under.Goals as goal
use Rattle.sp_scan.proofs.pairs.under.Goals.{then-pair-name+in_ok-insert, else-pair-name}

pub loop-pair-preserved : goal.loop-pair-preserved
loop-pair-preserved c =
    let bs = c.args.pairs.now in
    let i = c.loop-pair.pair-index in
    let name = c.args.name in
    let d : ℕ × ℕ = (0, 0) in
    let test = λ (p : ℕ × ℕ). p.0 == name in
    let within = c.loop-pair-test.true in
    let now = c.loop-pair.invariant in
    elim c.if-pair-name.branch [
      | then-pair-name+in_ok-insert w ↦
          let passes : ((get_or bs i d).0 == name) ≡ true = grind (arith, nat_tests) in
          let below : All (λ m. m < (get_or bs i d).1) c.loop-pair.numbers.list = subst (All (λ m. m < (get_or bs i d).1)) (sym now) (picked_below test bs i d c.requires within) in
          ap (λ n. n.list) w.numbers-is ∙ w.in_ok-insert.ensures.last below ∙ ap (λ l. l ++ (get_or bs i d).1 ∷ []) now ∙ sym (picked_taken test bs i d within passes)
      | else-pair-name w ↦
          let fails : ((get_or bs i d).0 == name) ≡ false = grind (arith, nat_tests) in
          ap (λ n. n.list) w.numbers-is ∙ now ∙ sym (picked_passed test bs i d within fails)
    ]
