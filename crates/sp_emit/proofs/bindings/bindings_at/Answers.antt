use Rattle.std.proofs.Common.{◌≡◌, ℕ, ◌<◌, List, get_or, length, ap, ◌∙◌, arith}
use Rattle.std.proofs.lemmas.List.{get_or_default}
use Rattle.sp_plan.specs.declared.plan.Plan.{Plan}
use Rattle.sp_plan.specs.Runs.{bound_names}
use Rattle.sp_emit.proofs.Answering.{at_some, at_none}
use Rattle.sp_emit.proofs.Named as l
use Rattle.sp_emit.proofs.bindings.bindings_at.Goals as goal

-- the name at a place, among those that are read
read_at : (q : Plan) (names : List ℕ) (i : ℕ) → names ≡ bound_names q → i < length (bound_names q) → get_or names i 0 ≡ get_or (bound_names q) i (get_or names i 0)
read_at q names i same inside = ap (λ ns. get_or ns i 0) same ∙ get_or_default (bound_names q) i 0 (get_or names i 0) inside

pub returns-in_default : goal.returns-in_default
returns-in_default c =
    let q = c.args.plan.now in
    let names = c.deref-name-items.result.now in
    let same : names ≡ bound_names q = c.deref-name-items.ensures.value ∙ c.in_ok-names.ensures in
    let inside : c.loop-name.name-index < length (bound_names q) = omega (arith, c.loop-name-test.true, ap length same) in
    l.none_past_bytes _ _ _ _ _ c.loop-name.invariant _ inside (read_at q names c.loop-name.name-index same inside) (omega (arith, c.in_default.ensures))

pub returns-in_default-2 : goal.returns-in_default-2
returns-in_default-2 c =
    let q = c.args.plan.now in
    let names = c.deref-name-items.result.now in
    let same : names ≡ bound_names q = c.deref-name-items.ensures.value ∙ c.in_ok-names.ensures in
    let inside : c.loop-name.name-index < length (bound_names q) = omega (arith, c.loop-name-test.true, ap length same) in
    l.none_next _ _ _ _ _ c.loop-name.invariant _ inside (read_at q names c.loop-name.name-index same inside) _ c.text_of.ensures (at_none _ _ _ c.in_default-2.is c.in_ok-places.ensures)

pub loop-name-preserved : goal.loop-name-preserved
loop-name-preserved c =
    let q = c.args.plan.now in
    let names = c.deref-name-items.result.now in
    let same : names ≡ bound_names q = c.deref-name-items.ensures.value ∙ c.in_ok-names.ensures in
    let inside : c.loop-name.name-index < length (bound_names q) = omega (arith, c.loop-name-test.true, ap length same) in
    l.goes _ _ _ _ _ c.loop-name.invariant _ inside (read_at q names c.loop-name.name-index same inside) _ c.text_of.ensures _ _ _ _ c.in_ok-push.ensures.items
    c.in-Ok.ensures.1 (omega (arith, c.in-Ok.ensures)) (at_some _ _ _ _ c.in-Some.is c.in_ok-places.ensures)

pub returns : goal.returns
returns c =
    let names = c.deref-name-items.result.now in
    let same : names ≡ bound_names c.args.plan.now = c.deref-name-items.ensures.value ∙ c.in_ok-names.ensures in
    l.none_used _ _ _ _ _ c.loop-name.invariant (omega (arith, c.loop-name-test.false, ap length same)) c.in-None.ensures
