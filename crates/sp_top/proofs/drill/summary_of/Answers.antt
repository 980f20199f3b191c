use Rattle.std.proofs.Common.{◌≡◌, ◌∙◌, ℕ, List, length, subst}
use Rattle.std.specs.Prelude.{string_bytes, IfOk}
use Rattle.sp_emit.specs.Summary.{summary}
use Rattle.sp_commands.specs.Drill.{summary_of}
use Rattle.sp_top.proofs.Drilling.{summary_is}
use Rattle.sp_top.proofs.drill.summary_of.Goals as goal

pub returns : goal.returns
returns c =
    let core = c.args.core.now in
    let emitted = c.emitted.result.now in
    let consumed = c.consumed.result.now.list in
    let is : summary (length c.events.result.now) c.finished-windows.result (length emitted) c.in_ok-consumed.consumed ≡ summary_of core.plan core.machine.events =
    (λ i. summary (length (c.events.ensures i)) (c.finished-windows.ensures.number i) (length emitted) (c.in_ok-consumed.ensures i))
    ∙ summary_is core.plan core.machine.events core.machine.finished emitted consumed c.requires.finished c.emitted.ensures.sequential c.consumed.ensures.sequential in
    subst (λ (text : List ℕ). IfOk c.summary_text.result (λ line. string_bytes line ≡ text)) is c.summary_text.ensures
