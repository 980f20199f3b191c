use Rattle.std.proofs.Common.{◌∙◌, ap, map, string_bytes}
use Rattle.sp_plan.specs.Texts.{symbol_of, with_text}
use Rattle.sp_graph.proofs.Known.{number_put, numbers_hold}
use Rattle.sp_graph.proofs.table.Table.number.Goals as goal

pub returns-in-Some-get_mut-clause-table : goal.returns-in-Some-get_mut-clause-table
returns-in-Some-get_mut-clause-table c =
    let known = c.args.self.now.known in
    number_put (map string_bytes c.args.texts.now) known c.number.new.self c.args.self.now.numbers.items c.args.symbol c.in_ok-number.number c.requires
    (c.in_ok-number.ensures.texts ∙ ap (with_text known) c.text_at.ensures)
    (c.in_ok-number.ensures.number ∙ ap (symbol_of known) c.text_at.ensures)

pub returns-in_default-get_mut-clause-table : goal.returns-in_default-get_mut-clause-table
returns-in_default-get_mut-clause-table c =
    let known = c.args.self.now.known in
    numbers_hold (map string_bytes c.args.texts.now) known c.number.new.self c.args.self.now.numbers.items c.args.symbol c.in_ok-number.number c.requires
    (c.in_ok-number.ensures.texts ∙ ap (with_text known) c.text_at.ensures)
