use Rattle.std.proofs.Common.{rules, w64, Bool, List, ◌∙◌, ap, sym, subst, get_or, arith}
use Rattle.std.specs.Prelude.{ℤ, ◌≤◌, pos, unsigned_abs, slice_get}
use Rattle.std.specs.List.{All}
use Rattle.std.specs.Int.RustNames.{FitsSigned}
use Rattle.std.proofs.lemmas.Int.{to_z-of_z}
use Rattle.sp_base.specs.Limits.{number_limit}
use Rattle.sp_plan.specs.declared.event.Value.{Value}
use Rattle.sp_plan.specs.Bounds.{SmallValue}
use Rattle.sp_plan.specs.Kept.{listed, Counted}
use Rattle.sp_plan.specs.Values.{units}
use Rattle.sp_plan.proofs.Parts.{number_in, past_in, small_at, small_got, small_parts}
use Rattle.sp_plan.proofs.event.Values.number.Goals as goal

pub returns-then-place-count : goal.returns-then-place-count
returns-then-place-count c =
    let f = c.in-Few in
    let n = get_or f.numbers c.args.place (pos 0) in
    let fits : FitsSigned w64 n = search rules in
    let counted = subst Counted f.is c.self.invariant in
    let seen = ap listed (sym f.is) ∙ c.self.view_is in
    let alike = to_z-of_z w64 n fits in record {
      value =
          alike ∙ number_in _ f.is c.self.invariant c.args.place (omega arith)
          ∙ ap (λ (l : List Value). units (slice_get l c.args.place)) c.self.view_is;
      small = λ all.
          subst (λ (z : ℤ). unsigned_abs z ≤ number_limit) (sym alike)
          (small_at f.count f.texts f.numbers counted c.args.place (omega arith) (subst (All SmallValue) (sym seen) all));
    }

pub returns-else-place-count-clause-value : goal.returns-else-place-count-clause-value
returns-else-place-count-clause-value c =
    ap units (past_in _ c.in-Few.is c.self.invariant c.args.place (omega arith))
    ∙ ap (λ (l : List Value). units (slice_get l c.args.place)) c.self.view_is

pub returns-in-Some-clause-small : goal.returns-in-Some-clause-small
returns-in-Some-clause-small c = λ all.
    let v = c.in-Some.value in
    let n = c.parts.result.1 in
    let fits : FitsSigned w64 n = search rules in
    let own = small_got c.args.self.now c.args.place v all (sym c.get.ensures ∙ c.in-Some.is) in
    subst (λ (z : ℤ). unsigned_abs z ≤ number_limit) (sym (to_z-of_z w64 n fits))
    (subst (λ (p : Bool × ℤ). unsigned_abs p.1 ≤ number_limit) (sym c.parts.ensures.parts) (small_parts v c.parts.ensures.part own))
