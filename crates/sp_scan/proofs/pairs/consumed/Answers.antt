use Rattle.std.proofs.Common.{◌≡◌, ◌<◌, ℕ, true, false, ◌∷◌, ◌++◌, [], get_or, sym, ap, subst, ◌∙◌}
use Rattle.std.specs.Prelude.{slice_get}
use Rattle.std.specs.List.{All}
use Rattle.sp_plan.specs.Runs.{is_consumed}
use Rattle.sp_scan.proofs.Picked.{picked_below, picked_passed, picked_taken}
use Rattle.sp_scan.proofs.pairs.consumed.Goals as goal
use Rattle.sp_scan.proofs.pairs.consumed.Goals.{then-is_consumed+in_ok-insert, else-is_consumed}

pub loop-pair-preserved : goal.loop-pair-preserved
loop-pair-preserved c =
    let bs = c.args.pairs.now in
    let i = c.loop-pair.pair-index in
    let q = c.args.plan.now in
    let d : ℕ × ℕ = (0, 0) in
    let test = λ (p : ℕ × ℕ). is_consumed (slice_get q.names p.0) in
    let within = c.loop-pair-test.true in
    let now = c.loop-pair.invariant in
    elim c.if-is_consumed.branch [
      | then-is_consumed+in_ok-insert w ↦
          let passes : is_consumed (slice_get q.names (get_or bs i d).0) ≡ true = sym c.is_consumed.ensures ∙ w.if-is_consumed.true in
          let below : All (λ m. m < (get_or bs i d).1) c.loop-pair.numbers.list = subst (All (λ m. m < (get_or bs i d).1)) (sym now) (picked_below test bs i d c.requires within) in
          ap (λ n. n.list) w.numbers-is ∙ w.in_ok-insert.ensures.last below ∙ ap (λ l. l ++ (get_or bs i d).1 ∷ []) now ∙ sym (picked_taken test bs i d within passes)
      | else-is_consumed w ↦
          let fails : is_consumed (slice_get q.names (get_or bs i d).0) ≡ false = sym c.is_consumed.ensures ∙ w.if-is_consumed.false in
          ap (λ n. n.list) w.numbers-is ∙ now ∙ sym (picked_passed test bs i d within fails)
    ]
