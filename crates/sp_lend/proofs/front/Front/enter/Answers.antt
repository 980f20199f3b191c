use Rattle.std.proofs.Common.{sym, ◌∙◌, ap}
use Rattle.sp_lend.proofs.Entering.{enters_moves}
use Rattle.sp_lend.proofs.front.Front.enter.Goals as goal

pub compare_exchange-found-requires : goal.compare_exchange-found-requires
compare_exchange-found-requires g c =
    let head = c.requires.head in
    let offer = c.plain-offer.ensures in
    let pen = c.no_pen-pen.ensures in
    let book = c.self.invariant.1 ∙ sym (ap (λ w. w.book) head) in (
      ap (λ w. w.tracked) head,
      book,
      pen.0 ∙ book,
      offer.0,
      rw (ap (λ w. w.key) head, pen.1, offer.1, offer.3) (enters_moves c.self.inside.seen.log c.args.job.now c.self.inside.count (sym c.self.invariant.0)),
    )
