use Rattle.std.proofs.Common.{rules, w64, false, ◌≡◌, ◌<◌, ◌≤◌, ℕ, List, Option, Some, None, Bor, ltb, refl, length, get_or, sym, ◌∙◌, ap, subst, arith}
use Rattle.std.specs.Prelude.{ℤ, pos, slice_get, IfSome}
use Rattle.std.specs.Int.RustNames.{FitsSigned}
use Rattle.std.proofs.lemmas.Int.{to_z-of_z}
use Rattle.std.specs.Option.{is_some, option_copied}
use Rattle.std.proofs.lemmas.Bool.Decides.{nat_tests}
use Rattle.std.proofs.lemmas.Option.{slice_get_past, slice_get_read}
use Rattle.sp_plan.specs.declared.event.Value.{Value}
use Rattle.sp_plan.specs.Kept.{whole_of, IsPart, listed, Counted}
use Rattle.sp_plan.proofs.Parts.{part_at, value_at, past}
use Rattle.sp_plan.proofs.event.Values.get.Goals as goal

copied_get : (found : Option (Bor Value)) (values : List Value) (place : ℕ) → is_some found ≡ ltb place (length values) → IfSome found (λ value. value.now ≡ get_or values place value.now) → option_copied found ≡ slice_get values place
copied_get None values place none h =
    let beyond : length values ≤ place = grind (arith, nat_tests) in
    sym (slice_get_past values place beyond)
copied_get (Some value) values place some h =
    let here : place < length values = grind (arith, nat_tests) in
    sym (slice_get_read values (length values) place value.now refl here h)

pub whole-requires : goal.whole-requires
whole-requires c =
    let f = c.in-Few in
    let n = get_or f.numbers c.args.place (pos 0) in
    let fits : FitsSigned w64 n = search rules in
    let own = part_at f.count f.texts f.numbers (subst Counted f.is c.self.invariant) c.args.place (omega arith) in
    subst (λ (z : ℤ). IsPart (get_or f.texts c.args.place false, z)) (sym (to_z-of_z w64 n fits)) own

pub returns-then-place-count : goal.returns-then-place-count
returns-then-place-count c =
    let f = c.in-Few in
    let n = get_or f.numbers c.args.place (pos 0) in
    let fits : FitsSigned w64 n = search rules in
    let counted = subst Counted f.is c.self.invariant in
    ap Some (c.whole.ensures ∙ ap (λ (z : ℤ). whole_of (get_or f.texts c.args.place false, z)) (to_z-of_z w64 n fits))
    ∙ value_at f.count f.texts f.numbers counted c.args.place (omega arith)
    ∙ ap (λ l. slice_get l c.args.place) (ap listed (sym f.is) ∙ c.self.view_is)

pub returns-else-place-count : goal.returns-else-place-count
returns-else-place-count c =
    let f = c.in-Few in
    let counted = subst Counted f.is c.self.invariant in
    past f.count f.texts f.numbers counted c.args.place (omega arith) ∙ ap (λ l. slice_get l c.args.place) (ap listed (sym f.is) ∙ c.self.view_is)

pub returns-in-Many : goal.returns-in-Many
returns-in-Many c =
    let seen : c.as_slice.result.now ≡ c.args.self.now = c.as_slice.ensures.value ∙ ap listed (sym c.in-Many.is) ∙ c.self.view_is in
    c.copied.ensures ∙ copied_get c.get.result c.as_slice.result.now c.args.place c.get.ensures.lookup.0 c.get.ensures.lookup.1 ∙ ap (λ l. slice_get l c.args.place) seen
