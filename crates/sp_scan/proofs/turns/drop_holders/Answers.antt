use Rattle.std.proofs.Common.{◌≡◌, ◌<◌, ◌+◌, ◌++◌, ◌∷◌, not, true, false, List, length, take, drop, get_or, sym, ap, ◌∙◌, arith}
use Rattle.std.specs.Prelude.{filter}
use Rattle.std.proofs.lemmas.List.{drop_more}
use Rattle.sp_plan.specs.Runs.{holds_one}
use Rattle.sp_scan.specs.declared.run.Run as own
use Rattle.sp_scan.proofs.SplitLists.{filter_fails, filter_passes, read_there, removed_there}
use Rattle.sp_scan.proofs.TurnsTaken.{length_more, push_front}
use Rattle.sp_scan.proofs.turns.drop_holders.Goals as goal
use Rattle.sp_scan.proofs.turns.drop_holders.Goals.{then-hold_one, else-hold_one}

pub loop-turn-preserved : goal.loop-turn-preserved
loop-turn-preserved c =
    let old = c.args.runs.now.items in
    let now = c.loop-turn.runs.items in
    let i = c.loop-turn._turn in
    let stays = λ (r : own.Run). not (holds_one c.args.numbers.now.list r.pairs) in
    let run = c.index.result.now in
    let within : i < length old = omega (arith, c.loop-turn-test.true, c.requires) in
    let split : now ≡ filter stays (take i old) ++ get_or old i run ∷ drop (i + 1) old = c.loop-turn.invariant.0 ∙ ap (λ (l : List own.Run). filter stays (take i old) ++ l) (drop_more old i run within) in
    let size : length (filter stays (take i old)) ≡ c.loop-turn.left = sym c.loop-turn.invariant.1 in
    let is_run : run ≡ get_or old i run = c.index.ensures ∙ read_there now (filter stays (take i old)) (drop (i + 1) old) (get_or old i run) c.loop-turn.left split size run in
    elim c.if-hold_one.branch [
      | then-hold_one w ↦
          let fails : stays (get_or old i run) ≡ false = ap stays (sym is_run) ∙ ap not (sym c.hold_one.ensures ∙ w.if-hold_one.true) in
          let same = filter_fails stays old i run within fails in (
            ap (λ v. v.items) w.runs-is ∙ w.remove.ensures.items ∙ removed_there now (filter stays (take i old)) (drop (i + 1) old) (get_or old i run) c.loop-turn.left split size ∙ ap (λ (l : List own.Run). l ++ drop (i + 1) old) (sym same),
            w.left-is ∙ c.loop-turn.invariant.1 ∙ ap length (sym same),
          )
      | else-hold_one w ↦
          let passes : stays (get_or old i run) ≡ true = ap stays (sym is_run) ∙ ap not (sym c.hold_one.ensures ∙ w.if-hold_one.false) in
          let more = filter_passes stays old i run within passes in (
            ap (λ v. v.items) w.runs-is ∙ split ∙ push_front (filter stays (take i old)) (drop (i + 1) old) (get_or old i run) ∙ ap (λ (l : List own.Run). l ++ drop (i + 1) old) (sym more),
            w.left-is ∙ sym (ap length more ∙ length_more (filter stays (take i old)) (get_or old i run) c.loop-turn.left size),
          )
    ]
