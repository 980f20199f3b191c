use Rattle.std.proofs.Common.{ℕ, ◌≡◌, ◌+◌, ◌<◌, true, false, ◌&&◌, List, length, get_or, take, Some, sym, ◌∙◌, ap, arith}
use Rattle.std.specs.Prelude.{slice_get}
use Rattle.std.specs.List.{list_all, zip}
use Rattle.std.proofs.lemmas.List.{take_all}
use Rattle.std.proofs.lemmas.List.Folds.{list_all_at, list_all_more}
use Rattle.std.proofs.lemmas.Option.{get_or_from_slice_get}
use Rattle.std.proofs.lemmas.Slice.Zip.{get_or-zip, length-zip}
use Rattle.sp_plan.specs.declared.event.Value.{Value}
use Rattle.sp_plan.specs.declared.plan.Column.{Column}
use Rattle.sp_plan.specs.Events.{fits_kind, fits_column}
use Rattle.sp_plan.proofs.fits.fit_columns.Goals as goal

module _ (cs : List Column) (vs : List Value) (i : ℕ) (c : Column) (v : Value) (sizes : length cs ≡ length vs) (inside : i < length cs) (is : c ≡ get_or cs i c) (got : slice_get vs i ≡ Some v) where
  paired : i < length (zip cs vs)
  paired = omega (arith, length-zip cs vs, sizes, inside)

  here : fits_column (get_or (zip cs vs) i (c, v)) ≡ fits_kind c.kind v
  here =
      ap fits_column (get_or-zip cs vs i (c, v) inside (omega (arith, sizes, inside))
      ∙ (λ j. (sym is j, get_or_from_slice_get vs i v v got j)))

  misfit : fits_kind c.kind v ≡ false → false ≡ list_all fits_column (zip cs vs)
  misfit h = sym (list_all_at fits_column (zip cs vs) i (c, v) paired (here ∙ h))

  fitting : fits_kind c.kind v ≡ true → list_all fits_column (take i (zip cs vs)) ≡ true → list_all fits_column (take (i + 1) (zip cs vs)) ≡ true
  fitting h before = list_all_more fits_column (zip cs vs) i (c, v) paired ∙ (λ j. before j && (here ∙ h) j)

pub returns-then-not-fits_kind : goal.returns-then-not-fits_kind
returns-then-not-fits_kind c =
    let got = sym c.get.ensures ∙ c.in-Some.is in
    misfit c.args.columns.now c.args.values.now c.loop-place.place c.index-columns-place.result c.in-Some.value c.requires c.loop-place-test.true c.index-columns-place.is got
    (sym c.fits_kind.ensures ∙ c.if-not-fits_kind.true)

pub loop-place-preserved : goal.loop-place-preserved
loop-place-preserved c =
    let got = sym c.get.ensures ∙ c.in-Some.is in
    fitting c.args.columns.now c.args.values.now c.loop-place.place c.index-columns-place.result c.in-Some.value c.requires c.loop-place-test.true c.index-columns-place.is got
    (sym c.fits_kind.ensures ∙ c.if-not-fits_kind.false) c.loop-place.invariant

pub returns : goal.returns
returns c =
    let cs = c.args.columns.now in
    let vs = c.args.values.now in
    let all = take_all c.loop-place.place (zip cs vs) (omega (arith, length-zip cs vs, c.requires, c.loop-place-test.false)) in
    sym c.loop-place.invariant ∙ ap (list_all fits_column) all
