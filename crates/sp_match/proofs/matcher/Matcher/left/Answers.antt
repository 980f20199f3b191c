use Rattle.std.proofs.Common.{ℕ, ◌<◌, List, [], map, length, get_or, sym, ap, subst, ◌∙◌, arith}
use Rattle.std.specs.Arc.{arc_value}
use Rattle.std.proofs.lemmas.List.{get_or-map, length-map}
use Rattle.sp_plan.specs.declared.plan.Plan.{Plan}
use Rattle.sp_plan.specs.Runs.{Started}
use Rattle.sp_plan.specs.Moves.{left}
use Rattle.sp_match.specs.declared.run.Run.{Run}
use Rattle.sp_match.specs.public.Matching.{Matching}
use Rattle.sp_match.specs.inside.Kept.{Kept, empty, kept, pairs, started}
use Rattle.sp_match.specs.inside.Good.{Good}
use Rattle.sp_match.proofs.matcher.Matcher.left.Goals as goal

-- the run at a place
abbrev at : List Started → ℕ → Started
at runs place = get_or runs place (0, [])

pub left-requires-clause-good : goal.left-requires-clause-good
left-requires-clause-good c =
    let rs = c.self.inside.runs.items in
    let r = c.index.result.now in
    let place = c.args.place in
    let inside : place < length rs = omega (arith, c.requires, ap (λ (m : Matching). length m.open_runs) c.self.view_is, length-map (map kept rs) started, length-map rs kept) in
    subst (λ (q : Plan). Good q (kept r)) (sym c.deref.ensures)
    (subst (λ (s : Run). Good (arc_value c.self.inside.plan) (kept s)) (sym c.index.ensures)
    (subst (Good (arc_value c.self.inside.plan)) (get_or-map kept rs place r (empty 0) inside) (c.self.invariant.0.good place (empty 0) (omega (arith, inside, length-map rs kept)))))

pub returns : goal.returns
returns c =
    let q = arc_value c.self.inside.plan in
    let rs = c.self.inside.runs.items in
    let r = c.index.result.now in
    let place = c.args.place in
    let inside : place < length rs = omega (arith, c.requires, ap (λ (m : Matching). length m.open_runs) c.self.view_is, length-map (map kept rs) started, length-map rs kept) in
    let deep : place < length (map kept rs) = omega (arith, inside, length-map rs kept) in
    c.left.ensures.left ∙ ap (λ (p : Plan). left p (pairs (kept r))) c.deref.ensures ∙ ap (λ (s : Run). left q (pairs (kept s))) c.index.ensures
    ∙ ap (λ (k : Kept). left q (pairs k)) (sym (get_or-map kept rs place r (empty 0) inside))
    ∙ ap (λ (s : Started). left q s.1) (sym (get_or-map started (map kept rs) place (empty 0) (0, []) deep))
    ∙ ap (λ (m : Matching). left m.plan (at m.open_runs place).1) c.self.view_is
