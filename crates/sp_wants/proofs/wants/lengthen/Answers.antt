use Rattle.std.proofs.Common.{◌≡◌, ℕ, ◌+◌, ◌-◌, ◌<◌, ◌==◌, false, List, length, replicate, ap, refl, sym, ◌++◌, ◌∙◌, arith}
use Rattle.std.proofs.lemmas.Bool.Decides.{nat_tests}
use Rattle.std.proofs.lemmas.List.{get_or_default}
use Rattle.sp_wants.specs.declared.stretch.Stretch.{Stretch}
use Rattle.sp_wants.specs.Stretches.{all_pairs}
use Rattle.sp_wants.proofs.Stretched.{longer, longer_pairs}
use Rattle.sp_wants.proofs.wants.lengthen.Goals as goal

pub returns-clause-longer : goal.returns-clause-longer
returns-clause-longer c = λ yes.
    let items : List Stretch = c.args.stretches.now.items in
    let x : Stretch = c.index-last.result.now in
    let z : Stretch = c.index_mut.result.now in
    let y : Stretch = record { before = z.before; after = z.after; times = x.times + c.args.times } in
    let many : c.len-at.result ≡ length items = c.len-at.ensures ∙ c.args.stretches.now.ok.0 in
    let some : (length items == 0) ≡ false = ap (λ (n : ℕ). n == 0) (sym c.args.stretches.now.ok.0) ∙ sym c.is_empty.ensures ∙ c.if-is_empty.false in
    let place : c.len-at.result - 1 + 1 ≡ length items = grind (arith, nat_tests) in
    let within : c.len-at.result - 1 < length items = omega (arith, place) in
    let same : x ≡ z = c.index-last.ensures ∙ get_or_default items (c.len-at.result - 1) x z within ∙ sym c.index_mut.ensures.value in
    longer z y (replicate c.args.times (z.before, z.after)) (longer_pairs z y c.args.times refl refl (ap (λ (s : Stretch). s.times + c.args.times) same)) items (c.len-at.result - 1) place c.index_mut.ensures.value
    ∙ λ i. all_pairs items ++ replicate c.args.times ((ap (λ (s : Stretch). s.before) (sym same) ∙ c.if-last-before.false) i, (ap (λ (s : Stretch). s.after) (sym same) ∙ c.if-last-after.false) i)
