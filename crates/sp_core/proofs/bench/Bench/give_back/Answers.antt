use Rattle.std.proofs.Common.{◌≡◌, refl, sym, ap, subst, ◌∙◌, arith}
use Rattle.std.specs.List.{insert}
use Rattle.sp_piece.specs.Pieced.{Pieced}
use Rattle.sp_group.specs.declared.step.Step.TheVariants as s
use Rattle.sp_core.specs.Benched.{IsTaken}
use Rattle.sp_core.specs.OnBench.{IsOnBench, on_bench}
use Rattle.sp_core.specs.Running.{Running}
use Rattle.sp_core.specs.Returning.{IsPlaceOf}
use Rattle.sp_core.proofs.AtATicket.{given_back, no_return, put_again}
use Rattle.sp_core.proofs.PiecesOut.{piece_at}
use Rattle.sp_core.proofs.bench.Bench.give_back.Goals as goal

pub returns-in_default-clause-fault : goal.returns-in_default-clause-fault
returns-in_default-clause-fault c =
    no_return c.self.inside.core c.self.inside.pieces.items c.self.invariant c.args.ticket (c.in_default.ensures.none refl) c.args.self.now c.self.view_is

pub remove-piece-requires : goal.remove-piece-requires
remove-piece-requires c =
    let ps = c.self.inside.pieces.items in
    let at = piece_at ps c.args.ticket c.in-Some.place (subst (λ ts. IsPlaceOf ts c.args.ticket c.in-Some.place) (sym c.self.invariant.tickets) c.in-Some.ensures.some) in
    omega (arith, at.few, c.self.inside.pieces.ok.0)

pub answer_to-requires : goal.answer_to-requires
answer_to-requires c =
    let on = c.self.invariant in
    let ps = c.self.inside.pieces.items in
    let at = piece_at ps c.args.ticket c.in-Some.place (subst (λ ts. IsPlaceOf ts c.args.ticket c.in-Some.place) (sym on.tickets) c.in-Some.ensures.some) in
    (given_back c.bench_laws.ensures c.self.inside.core ps on c.args.ticket c.in-Some.place c.remove-piece.result at c.remove-piece.ensures.value c.give_back.new.self c.args.self.now
    c.in-Ok.given c.self.view_is c.in-Ok.ensures.given).come

pub invariant_of-self : goal.invariant_of-self
invariant_of-self c =
    let on = c.self.invariant in
    let ps = c.self.inside.pieces.items in
    let at = piece_at ps c.args.ticket c.in-Some.place (subst (λ ts. IsPlaceOf ts c.args.ticket c.in-Some.place) (sym on.tickets) c.in-Some.ensures.some) in
    subst (IsOnBench c.give_back.new.self) (sym c.remove-piece.ensures.items)
    (given_back c.bench_laws.ensures c.self.inside.core ps on c.args.ticket c.in-Some.place c.remove-piece.result at c.remove-piece.ensures.value c.give_back.new.self c.args.self.now
    c.in-Ok.given c.self.view_is c.in-Ok.ensures.given).on

pub returns-in-Ok-clause-done : goal.returns-in-Ok-clause-done
returns-in-Ok-clause-done c =
    let on = c.self.invariant in
    let ps = c.self.inside.pieces.items in
    let at = piece_at ps c.args.ticket c.in-Some.place (subst (λ ts. IsPlaceOf ts c.args.ticket c.in-Some.place) (sym on.tickets) c.in-Some.ensures.some) in
    subst (λ xs. IsTaken (s.Return c.args.ticket) c.args.self.now (on_bench c.give_back.new.self xs)) (sym c.remove-piece.ensures.items)
    (given_back c.bench_laws.ensures c.self.inside.core ps on c.args.ticket c.in-Some.place c.remove-piece.result at c.remove-piece.ensures.value c.give_back.new.self c.args.self.now
    c.in-Ok.given c.self.view_is c.in-Ok.ensures.given).taken

pub returns-in-Ok-clause-answer : goal.returns-in-Ok-clause-answer
returns-in-Ok-clause-answer c =
    let on = c.self.invariant in
    let ps = c.self.inside.pieces.items in
    let at = piece_at ps c.args.ticket c.in-Some.place (subst (λ ts. IsPlaceOf ts c.args.ticket c.in-Some.place) (sym on.tickets) c.in-Some.ensures.some) in
    c.answer_to.ensures
    ∙ (given_back c.bench_laws.ensures c.self.inside.core ps on c.args.ticket c.in-Some.place c.remove-piece.result at c.remove-piece.ensures.value c.give_back.new.self c.args.self.now
    c.in-Ok.given c.self.view_is c.in-Ok.ensures.given).answer

pub invariant_of-self-in-Err : goal.invariant_of-self-in-Err
invariant_of-self-in-Err c =
    let on = c.self.invariant in
    let ps = c.self.inside.pieces.items in
    let at = piece_at ps c.args.ticket c.in-Some.place (subst (λ ts. IsPlaceOf ts c.args.ticket c.in-Some.place) (sym on.tickets) c.in-Some.ensures.some) in
    let items : c.put_at.new.pieces.items ≡ ps =
    c.put_at.ensures
    ∙ ap (λ (p : Pieced). insert c.remove-piece.new.self.items c.in-Some.place p) c.in-Err.ensures.back
    ∙ ap (λ xs. insert xs c.in-Some.place c.remove-piece.result) c.remove-piece.ensures.items
    ∙ put_again ps c.args.ticket c.in-Some.place c.remove-piece.result at c.remove-piece.ensures.value in
    subst (λ (r : Running). IsOnBench r c.put_at.new.pieces.items) (sym c.in-Err.ensures.err) (subst (IsOnBench c.self.inside.core) (sym items) on)

pub returns-in-Err-clause-err : goal.returns-in-Err-clause-err
returns-in-Err-clause-err c =
    let on = c.self.invariant in
    let ps = c.self.inside.pieces.items in
    let at = piece_at ps c.args.ticket c.in-Some.place (subst (λ ts. IsPlaceOf ts c.args.ticket c.in-Some.place) (sym on.tickets) c.in-Some.ensures.some) in
    let items : c.put_at.new.pieces.items ≡ ps =
    c.put_at.ensures
    ∙ ap (λ (p : Pieced). insert c.remove-piece.new.self.items c.in-Some.place p) c.in-Err.ensures.back
    ∙ ap (λ xs. insert xs c.in-Some.place c.remove-piece.result) c.remove-piece.ensures.items
    ∙ put_again ps c.args.ticket c.in-Some.place c.remove-piece.result at c.remove-piece.ensures.value in
    ap (λ (r : Running). on_bench r c.put_at.new.pieces.items) c.in-Err.ensures.err ∙ ap (on_bench c.self.inside.core) items ∙ c.self.view_is
