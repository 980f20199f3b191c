use Rattle.std.proofs.Common.{◌+◌, ◌<◌, ◌≤◌, List, ℕ, take, ap, subst, ◌∙◌, arith}
use Rattle.std.proofs.lemmas.List.Elements.{All-drop, All-from_get_or}
use Rattle.sp_base.specs.Place.{IsPlace}
use Rattle.sp_base.proofs.Cut.{cut_both, cut_front}
use Rattle.sp_base.proofs.place.within.Goals as goal

pub returns-in-Some : goal.returns-in-Some
returns-in-Some c =
    let end = c.args.first + c.args.count in
    let size = c.place-in-Some.result in
    let ending : IsPlace end c.split_at.result.1.now size = subst (λ e. IsPlace e c.split_at.result.1.now size) c.in-Some.ensures.1 c.place-in-Some.ensures in
    c.split_at-in-Some.ensures.front ∙ ap (λ (l : List ℕ). take size l) c.split_at.ensures.back
    ∙ cut_both c.args.first c.args.count c.args.list.now c.place.result size c.place.ensures
    (subst (λ l. IsPlace end l size) c.split_at.ensures.back ending)

pub returns-in-None : goal.returns-in-None
returns-in-None c =
    let end = c.args.first + c.args.count in
    let over : 4294967296 ≤ end = omega (arith, c.in-None.ensures) in
    c.split_at.ensures.back
    ∙ cut_front c.args.first c.args.count c.args.list.now c.place.result c.place.ensures
    (All-drop (λ m. m < end) c.place.result c.args.list.now (All-from_get_or (λ m. m < end) c.args.list.now 0 (λ k h. omega (arith, c.type_inv.list k))))
