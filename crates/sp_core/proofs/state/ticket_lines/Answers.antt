use Rattle.std.proofs.Common.{List, map, ap, ◌∙◌, arith}
use Rattle.std.specs.Prelude.{reverse}
use Rattle.std.proofs.lemmas.List.{take_all}
use Rattle.sp_group.specs.Seen.{seen_ticket, ticket_seen}
use Rattle.sp_core.specs.declared.lent.Lent.{Lent}
use Rattle.sp_core.specs.Carrying.{ticket_of}
use Rattle.sp_core.proofs.Printed.{map_reversed}
use Rattle.sp_core.proofs.state.ticket_lines.Goals as goal

pub returns : goal.returns
returns c =
    ap (map seen_ticket) (c.of.ensures ∙ c.reverse.ensures.items) ∙ map_reversed seen_ticket c.loop-lent.lines.items
    ∙ ap reverse (c.loop-lent.invariant ∙ ap (λ (ts : List Lent). map ticket_seen (map ticket_of ts)) (take_all c.loop-lent.lent-index c.args.tickets.now (omega arith)))
