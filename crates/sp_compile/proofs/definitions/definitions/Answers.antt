use Rattle.std.proofs.Common.{◌≡◌, ◌<◌, ◌≤◌, ◌+◌, [], map, take, length, get_or, Ok, Err, true, sym, ap, subst, ◌∙◌, arith, rules}
use Rattle.std.proofs.lemmas.Slice.Zip.{AllZip-long}
use Rattle.sp_plan.specs.declared.plan.Name.{Name}
use Rattle.sp_query.specs.declared.query.Ident.{Ident}
use Rattle.sp_query.specs.declared.tree.Tree.{Tree}
use Rattle.sp_compile.specs.Naming.{AreNames, Misdefines, PlaceAnswer}
use Rattle.sp_compile.proofs.Naming.{GoneThrough, misnamed_here, faulty_here, defined_here, all_through}
use Rattle.sp_compile.proofs.definitions.definitions.Goals as goal

pub returns-in_err-place-clause-refused : goal.returns-in_err-place-clause-refused
returns-in_err-place-clause-refused c =
    let query = c.args.query.now in
    let define = c.index-defines-at.result in
    let inside : c.loop-at.at < length query.defines = subst (λ l. c.loop-at.at < length l) c.as_slice-defines.ensures (omega arith) in
    let is : define ≡ get_or query.defines c.loop-at.at define = c.index-defines-at.is ∙ ap (λ l. get_or l c.loop-at.at define) c.as_slice-defines.ensures in
    let answer : PlaceAnswer c.args.names.now (map (λ (other : Ident × Tree). other.0.text) (take c.loop-at.at query.defines)) define.0 (Err c.in_err-place.field-0.0) =
    subst (λ l. PlaceAnswer c.args.names.now (map (λ (other : Ident × Tree). other.0.text) (take c.loop-at.at l)) define.0 (Err c.in_err-place.field-0.0)) c.as_slice-defines.ensures c.in_err-place.ensures in
    let known : Misdefines query c.in_err-place.field-0.0 =
    misnamed_here query c.args.texts.now c.args.names.now c.loop-at.at c.loop-at.planned.items define c.loop-at.invariant inside is c.requires.names c.in_err-place.field-0.0 answer in
    search rules

pub returns-in_err-pred-clause-refused : goal.returns-in_err-pred-clause-refused
returns-in_err-pred-clause-refused c =
    let query = c.args.query.now in
    let define = c.index-defines-at.result in
    let inside : c.loop-at.at < length query.defines = subst (λ l. c.loop-at.at < length l) c.as_slice-defines.ensures (omega arith) in
    let is : define ≡ get_or query.defines c.loop-at.at define = c.index-defines-at.is ∙ ap (λ l. get_or l c.loop-at.at define) c.as_slice-defines.ensures in
    let answer : PlaceAnswer c.args.names.now (map (λ (other : Ident × Tree). other.0.text) (take c.loop-at.at query.defines)) define.0 (Ok c.in_ok-place.place) =
    subst (λ l. PlaceAnswer c.args.names.now (map (λ (other : Ident × Tree). other.0.text) (take c.loop-at.at l)) define.0 (Ok c.in_ok-place.place)) c.as_slice-defines.ensures c.in_ok-place.ensures in
    let known : Misdefines query c.in_err-pred.field-0.0 =
    faulty_here query c.args.texts.now c.args.names.now c.loop-at.at c.loop-at.planned.items define c.loop-at.invariant inside is c.requires.names c.in_ok-place.place c.index-names-place.result c.index-names-place.is answer
    c.in_err-pred.field-0.0 c.in_err-pred.ensures in
    search rules

pub set_pred-requires : goal.set_pred-requires
set_pred-requires c =
    let many = AllZip-long _ c.args.names.now c.loop-at.planned.items c.loop-at.invariant.stand in
    omega (arith, many, c.in_ok-place.ensures.0)

pub loop-at-preserved : goal.loop-at-preserved
loop-at-preserved c =
    let query = c.args.query.now in
    let define = c.index-defines-at.result in
    let inside : c.loop-at.at < length query.defines = subst (λ l. c.loop-at.at < length l) c.as_slice-defines.ensures (omega arith) in
    let is : define ≡ get_or query.defines c.loop-at.at define = c.index-defines-at.is ∙ ap (λ l. get_or l c.loop-at.at define) c.as_slice-defines.ensures in
    let answer : PlaceAnswer c.args.names.now (map (λ (other : Ident × Tree). other.0.text) (take c.loop-at.at query.defines)) define.0 (Ok c.in_ok-place.place) =
    subst (λ l. PlaceAnswer c.args.names.now (map (λ (other : Ident × Tree). other.0.text) (take c.loop-at.at l)) define.0 (Ok c.in_ok-place.place)) c.as_slice-defines.ensures c.in_ok-place.ensures in
    let other : Name = record { text = []; pred = c.in_ok-pred.pred; consumed = true } in
    subst (λ l. GoneThrough query c.args.texts.now c.args.names.now (c.loop-at.at + 1) l) (sym (c.set_pred.ensures other))
    (defined_here query c.args.texts.now c.args.names.now c.loop-at.at c.loop-at.planned.items define c.loop-at.invariant inside is c.requires.names c.in_ok-place.place c.index-names-place.result c.index-names-place.is answer
    c.in_ok-pred.pred other c.requires.fine c.in_ok-pred.ensures)

pub returns-clause-names : goal.returns-clause-names
returns-clause-names c =
    let query = c.args.query.now in
    let end : length query.defines ≤ c.loop-at.at = subst (λ l. length l ≤ c.loop-at.at) c.as_slice-defines.ensures (omega arith) in
    subst (λ l. AreNames query c.args.texts.now l) (sym c.of.ensures) (all_through query c.args.texts.now c.args.names.now c.loop-at.at c.loop-at.planned.items c.loop-at.invariant end c.requires.names)
