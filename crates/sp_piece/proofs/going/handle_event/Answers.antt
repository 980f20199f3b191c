use Rattle.std.proofs.Common.{◌≡◌, sym, subst}
use Rattle.std.proofs.lemmas.Result.{on_ok_weaker}
use Rattle.sp_plan.specs.Windows.{Numbered}
use Rattle.sp_match.specs.public.Known.{IsKnown}
use Rattle.sp_match.specs.public.Laws.{Below}
use Rattle.sp_match.specs.public.Matching.{Matching, runs_of}
use Rattle.sp_piece.specs.Keeping.{HandledOn, current}
use Rattle.sp_piece.proofs.Kept.{passed_by}
use Rattle.sp_piece.proofs.going.handle_event.Goals as goal

pub returns-then-ignores-clause-ok : goal.returns-then-ignores-clause-ok
returns-then-ignores-clause-ok c =
    let x : Numbered = (c.args.next.now.number, c.args.next.now.event.now) in
    let so_far = c.led-so_far.result.now in
    let list = c.args.telling.now.entries in
    let more = c.add_wanted.new.telling.entries in
    let same : so_far ≡ current c.args.matcher.now c.args.before.now = c.led-so_far.ensures in
    let known : IsKnown so_far.plan x.1 c.args.next.now.known = subst (λ (m : Matching). IsKnown m.plan x.1 c.args.next.now.known) (sym same) c.requires.known in
    let below : Below x.0 (runs_of so_far) = subst (λ (m : Matching). Below x.0 (runs_of m)) (sym same) c.requires.below in
    on_ok_weaker c.add_wanted.result
    (λ on. subst (λ (m : Matching). HandledOn c.args.next.now.wants x m m list more) same
    (passed_by c.args.next.now.wants x so_far list more (c.ignores.ensures.stands c.if-ignores.true x known) (c.ignores.ensures.told c.if-ignores.true x known) (c.ignores.ensures.wanted c.if-ignores.true x known) on below))
    c.add_wanted.ensures.ok
