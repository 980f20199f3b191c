use Rattle.std.proofs.Common.{refl, sym, subst}
use Rattle.sp_core.specs.Returning.{IsPlaceOf}
use Rattle.sp_core.proofs.AtATicket.{either_answer, either_fault, either_on, either_taken, no_event}
use Rattle.sp_core.proofs.PiecesOut.{piece_at}
use Rattle.sp_core.proofs.bench.Bench.read.Goals as goal

pub invariant_of-self : goal.invariant_of-self
invariant_of-self c =
    let on = c.self.invariant in
    let ps = c.self.inside.pieces.items in
    let at = piece_at ps c.args.ticket c.in-Some.place (subst (λ ts. IsPlaceOf ts c.args.ticket c.in-Some.place) (sym on.tickets) c.in-Some.ensures.some) in
    either_on c.bench_laws.ensures c.self.inside.core ps on c.args.ticket c.in-Some.place c.index_mut.result.now at c.index_mut.ensures.value c.read_on.result c.read_on.new.piece
    c.read_on.ensures.done c.read_on.ensures.next c.read_on.ensures.err

pub returns-in-Some-clause-done : goal.returns-in-Some-clause-done
returns-in-Some-clause-done c =
    let on = c.self.invariant in
    let ps = c.self.inside.pieces.items in
    let at = piece_at ps c.args.ticket c.in-Some.place (subst (λ ts. IsPlaceOf ts c.args.ticket c.in-Some.place) (sym on.tickets) c.in-Some.ensures.some) in
    either_taken c.bench_laws.ensures c.self.inside.core ps on c.args.ticket c.in-Some.place c.index_mut.result.now at c.index_mut.ensures.value c.args.self.now c.self.view_is
    c.read_on.result c.read_on.new.piece c.read_on.ensures.done c.read_on.ensures.next

pub returns-in-Some-clause-answer : goal.returns-in-Some-clause-answer
returns-in-Some-clause-answer c =
    let on = c.self.invariant in
    let ps = c.self.inside.pieces.items in
    let at = piece_at ps c.args.ticket c.in-Some.place (subst (λ ts. IsPlaceOf ts c.args.ticket c.in-Some.place) (sym on.tickets) c.in-Some.ensures.some) in
    either_answer c.bench_laws.ensures c.self.inside.core ps on c.args.ticket c.in-Some.place c.index_mut.result.now at c.index_mut.ensures.value c.args.self.now c.self.view_is
    c.read_on.result c.read_on.ensures.answer

pub returns-in-Some-clause-fault : goal.returns-in-Some-clause-fault
returns-in-Some-clause-fault c =
    let on = c.self.invariant in
    let ps = c.self.inside.pieces.items in
    let at = piece_at ps c.args.ticket c.in-Some.place (subst (λ ts. IsPlaceOf ts c.args.ticket c.in-Some.place) (sym on.tickets) c.in-Some.ensures.some) in
    either_fault c.bench_laws.ensures c.self.inside.core ps on c.args.ticket c.in-Some.place c.index_mut.result.now at c.index_mut.ensures.value c.args.self.now c.self.view_is
    c.read_on.result c.read_on.ensures.fault

pub returns-in-None-clause-fault : goal.returns-in-None-clause-fault
returns-in-None-clause-fault c =
    no_event c.self.inside.core c.self.inside.pieces.items c.self.invariant c.args.ticket (c.in-None.ensures.none refl) c.args.self.now c.self.view_is
