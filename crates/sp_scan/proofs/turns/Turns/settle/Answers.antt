use Rattle.std.proofs.Common.{◌≡◌, ◌+◌, ℕ, ◌++◌, ◌∷◌, [], true, false, refl, sym, ap, subst, ◌∙◌}
use Rattle.std.proofs.lemmas.Result.{IfOk-weaker}
use Rattle.sp_plan.specs.Runs.{completed, grown, is_complete, Handling}
use Rattle.sp_scan.specs.declared.run.Run as own
use Rattle.sp_scan.specs.inside.Ahead.{IsAhead}
use Rattle.sp_scan.specs.inside.Shown.{IsTurn, IsTurnOfReady, ShowsTurns}
use Rattle.sp_scan.proofs.SplitLists.{read_there}
use Rattle.sp_scan.proofs.TurnsShow.{grown_part, grown_whole, shows_kept}
use Rattle.sp_scan.proofs.TurnsTaken.{turned_as, turned_stays}
use Rattle.sp_scan.proofs.turns.Turns.settle.Goals as goal

pub returns-then-is_complete : goal.returns-then-is_complete
returns-then-is_complete c =
    let q = c.args.offer.now.plan.now in
    let next = c.args.offer.now.number + 1 in
    let old = c.args.self.now in
    let at = c.args.at in
    IfOk-weaker c.complete.result (λ (left : ℕ). IsTurn q next old c.complete.new.self at left (completed q)) (λ (left : ℕ). IsTurnOfReady q next old c.complete.new.self at left (grown q))
    (λ left turn kept rest run split size ready.
    let is_run : c.index.result.now ≡ run = c.index.ensures ∙ read_there old.runs.items kept rest run at split size c.index.result.now in
    let ahead : IsAhead q c.index.result.now.pairs c.index.result.now.ahead = subst (λ (r : own.Run). IsAhead q r.pairs r.ahead) (sym is_run) ready.ahead_is in
    let whole : is_complete q run.pairs ≡ true = ap (λ (r : own.Run). is_complete q r.pairs) (sym is_run) ∙ sym (c.is_complete.ensures q ahead) ∙ c.if-is_complete.true in
    turned_as q next old c.complete.new.self left kept rest run (completed q) (grown q) (turn kept rest run split size) (λ h m before. sym (grown_whole q h (m, run.pairs) whole))) c.complete.ensures

pub returns : goal.returns
returns c = λ kept rest run split size ready.
    let q = c.args.offer.now.plan.now in
    let next = c.args.offer.now.number + 1 in
    let old = c.args.self.now in
    let is_run : c.index.result.now ≡ run = c.index.ensures ∙ read_there old.runs.items kept rest run c.args.at split size c.index.result.now in
    let ahead : IsAhead q c.index.result.now.pairs c.index.result.now.ahead = subst (λ (r : own.Run). IsAhead q r.pairs r.ahead) (sym is_run) ready.ahead_is in
    let part : is_complete q run.pairs ≡ false = ap (λ (r : own.Run). is_complete q r.pairs) (sym is_run) ∙ sym (c.is_complete.ensures q ahead) ∙ c.if-is_complete.false in
    turned_stays q next old old c.args.at kept rest run (grown q) split size refl
    (λ h m before. subst (λ (h' : Handling). ShowsTurns q next h' (kept ++ run ∷ []) old.found.items old.taken.list) (sym (grown_part q h (m, run.pairs) part)) (shows_kept q next h kept old.found.items old.taken.list run m before ready))
