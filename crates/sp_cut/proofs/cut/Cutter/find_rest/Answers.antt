use Rattle.std.proofs.Common.{[], ◌∷◌, ◌+◌, ap}
use Rattle.sp_cut.specs.CutRows.{row, long_row, open_quote, without_cr}
use Rattle.sp_cut.specs.Left.{Left}
use Rattle.sp_cut.proofs.Answering.{rest_answer, rest_quoted, lies_rest}
use Rattle.sp_cut.proofs.cut.Cutter.find_rest.Goals as goal

pub rest_of-requires : goal.rest_of-requires
rest_of-requires c = rest_quoted c.args.self.now c.len-size.result c.args.quoted c.part.result.now c.requires.rest c.len-size.ensures c.part.ensures

pub returns-in-Long-clause-fault : goal.returns-in-Long-clause-fault
returns-in-Long-clause-fault c =
    let ended = ap (λ (left : Left). left.ended) c.self.view_is in
    let rows = rest_answer c.args.self.now c.len-size.result c.args.quoted c.self.inside.ended c.part.result.now (long_row ∷ []) c.requires.rest c.len-size.ensures c.part.ensures ended c.in-Long.ensures in
    (([], rows), ap (λ (left : Left). left.given + 1) c.self.view_is)

pub returns-in-Nothing-clause-found : goal.returns-in-Nothing-clause-found
returns-in-Nothing-clause-found c =
    let ended = ap (λ (left : Left). left.ended) c.self.view_is in
    rest_answer c.args.self.now c.len-size.result c.args.quoted c.self.inside.ended c.part.result.now [] c.requires.rest c.len-size.ensures c.part.ensures ended c.in-Nothing.ensures

pub returns-in-OpenQuote-clause-fault : goal.returns-in-OpenQuote-clause-fault
returns-in-OpenQuote-clause-fault c =
    let ended = ap (λ (left : Left). left.ended) c.self.view_is in
    let rows = rest_answer c.args.self.now c.len-size.result c.args.quoted c.self.inside.ended c.part.result.now (open_quote ∷ []) c.requires.rest c.len-size.ensures c.part.ensures ended c.in-OpenQuote.ensures in
    (([], rows), ap (λ (left : Left). left.given + 1) c.self.view_is)

pub returns-in-Row-clause-found : goal.returns-in-Row-clause-found
returns-in-Row-clause-found c =
    let ended = ap (λ (left : Left). left.ended) c.self.view_is in
    let rows = rest_answer c.args.self.now c.len-size.result c.args.quoted c.self.inside.ended c.part.result.now (row (without_cr c.part.result.now) ∷ []) c.requires.rest c.len-size.ensures c.part.ensures ended c.in-Row.ensures in
    lies_rest c.args.self.now c.len-size.result c.part.result.now c.self.inside.ended ended c.in-Row.ensures c.len-size.ensures c.part.ensures rows
