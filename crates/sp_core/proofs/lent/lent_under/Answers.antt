use Rattle.std.proofs.Common.{rules, tests, ◌==◌, ap, ◌∙◌}
use Rattle.std.specs.Option.{option_map}
use Rattle.std.proofs.lemmas.Iterator.{YieldsList-from_slice}
use Rattle.std.proofs.lemmas.Iterator.Search.{find_from_yields_List}
use Rattle.sp_core.specs.Carrying.{ticket_of}
use Rattle.sp_core.proofs.Tickets.{found_under}
use Rattle.sp_core.proofs.lent.lent_under.Goals as goal

pub returns : goal.returns
returns c =
    let n = c.args.ticket in
    let found =
    find_from_yields_List (λ lent. lent.ticket == n) _ _ c.find.result c.find.ensures.ran (YieldsList-from_slice c.args.tickets.now cc) (λ x b q k. search (rules, tests)) in
    ap (option_map ticket_of) found ∙ found_under c.args.tickets.now n
