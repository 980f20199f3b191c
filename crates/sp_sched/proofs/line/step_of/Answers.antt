use Rattle.std.proofs.Common.{◌≡◌, ◌≢◌, arith, rules}
use Rattle.std.specs.Prelude.{codes}
use Rattle.std.proofs.lemmas.Grind.{common_steps}
use Rattle.std.proofs.lemmas.Slice.Eq.{text_from_reads}
use Rattle.std.proofs.lemmas.Result.{IfOk-weaker}
use Rattle.sp_sched.proofs.Steps.{is_line, no_line}
use Rattle.sp_sched.proofs.line.step_of.Goals as goal

pub returns-in-spawn : goal.returns-in-spawn
returns-in-spawn c =
    let e : c.in-Some.word.now ≡ codes "spawn" = text_from_reads c.in-Some.word.now (codes "spawn") (omega arith) (search rules) in
    IfOk-weaker _ _ _ (λ o h. is_line _ _ _ c.in-Some.ensures (codes "spawn") e o h) c.spawn_of.ensures

pub returns-in-lease : goal.returns-in-lease
returns-in-lease c =
    let e : c.in-Some.word.now ≡ codes "lease" = text_from_reads c.in-Some.word.now (codes "lease") (omega arith) (search rules) in
    is_line _ _ _ c.in-Some.ensures (codes "lease") e _ c.lease_of.ensures

pub returns-in-event : goal.returns-in-event
returns-in-event c =
    let e : c.in-Some.word.now ≡ codes "event" = text_from_reads c.in-Some.word.now (codes "event") (omega arith) (search rules) in
    is_line _ _ _ c.in-Some.ensures (codes "event") e _ c.event_of.ensures

pub returns-in-return : goal.returns-in-return
returns-in-return c =
    let e : c.in-Some.word.now ≡ codes "return" = text_from_reads c.in-Some.word.now (codes "return") (omega arith) (search rules) in
    is_line _ _ _ c.in-Some.ensures (codes "return") e _ c.return_of.ensures

pub returns-in-roll : goal.returns-in-roll
returns-in-roll c =
    let e : c.in-Some.word.now ≡ codes "roll" = text_from_reads c.in-Some.word.now (codes "roll") (omega arith) (search rules) in
    is_line _ _ _ c.in-Some.ensures (codes "roll") e _ c.roll_of.ensures

pub returns-in_default-word : goal.returns-in_default-word
returns-in_default-word c =
    let spawn : c.in-Some.word.now ≢ codes "spawn" = grind (arith, common_steps) in
    let lease : c.in-Some.word.now ≢ codes "lease" = grind (arith, common_steps) in
    let event : c.in-Some.word.now ≢ codes "event" = grind (arith, common_steps) in
    let back : c.in-Some.word.now ≢ codes "return" = grind (arith, common_steps) in
    let roll : c.in-Some.word.now ≢ codes "roll" = grind (arith, common_steps) in
    no_line _ _ _ c.in-Some.ensures spawn lease event back roll
