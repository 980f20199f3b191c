-- Expressions for columns: numbers get the column's decimals, texts stay as they are.
use Rattle.std.proofs.Common.{◌≡◌, ℕ, ℤ, ◌-◌, ◌*◌, ◌^◌, ◌<◌, ◌≤◌, Bool, true, false, Option, Some, None, Result, Ok, Err, refl, sym, ◌∙◌, ap, subst, arith}
use Rattle.std.specs.Prelude.{List, nat_le, nat_lt, if◌then◌else◌}
use Rattle.std.proofs.lemmas.Bool.Decides.{nat_tests}
use Rattle.sp_lex.specs.declared.token.Span.{Span}
use Rattle.sp_plan.specs.declared.plan.Expr.{Expr}
use Rattle.sp_plan.specs.declared.plan.Kind.{Kind}
use Rattle.sp_plan.specs.declared.plan.Kind.TheVariants as k
use Rattle.sp_plan.specs.Bounds.{bound, greatest}
use Rattle.sp_plan.specs.Comparable.{HasScale, Readable}
use Rattle.sp_query.specs.declared.tree.Tree.{Tree}
use Rattle.sp_compile.specs.declared.fault.CompileFault.{CompileFault}
use Rattle.sp_compile.specs.declared.fault.CompileFault.TheVariants as f
use Rattle.sp_compile.specs.declared.sort.Sort.{Sort}
use Rattle.sp_compile.specs.declared.sort.Sort.TheVariants as s
use Rattle.sp_compile.specs.Answers.{Compiled, Untyped, readable_in}
use Rattle.sp_compile.specs.Checks.{span_of}
use Rattle.sp_compile.specs.Meaning.{number, raised_units}
use Rattle.sp_compile.specs.Parts.{Found, IsSound, SideAnswer, comes_to}
use Rattle.sp_compile.specs.Scopes.{Scope}
use Rattle.sp_compile.specs.Sorts.{side_fault}
use Rattle.sp_graph.specs.Returns.{IsOfKind}
use Rattle.sp_returns.specs.Answers.{FittedAnswer, Misfits, ScaledAnswer, SuitedAnswer}
use Rattle.sp_returns.specs.Checks.{fits_fault, scaled_fault}
use Rattle.sp_returns.specs.Stands.{in_column}

-- ---- decimals

few_decimals : (span : Span) (decimals scale most : ℕ) → scale ≤ decimals → scaled_fault span decimals scale most ≡ side_fault span scale decimals most
few_decimals span decimals scale most few =
    let less : nat_lt decimals scale ≡ false = grind (arith, nat_tests) in
    ap (λ (b : Bool). if b then Some (f.WrongKind span) else side_fault span scale decimals most) less

fits_in : (n : ℕ) (fault : CompileFault) → n ≤ greatest → (if nat_le n greatest then None else Some fault) ≡ None
fits_in n fault fits = let most : nat_le n greatest ≡ true = grind (arith, nat_tests) in ap (λ (b : Bool). if b then None else Some fault) most

passes : (n : ℕ) (fault : CompileFault) → greatest < n → (if nat_le n greatest then None else Some fault) ≡ Some fault
passes n fault over = let most : nat_le n greatest ≡ false = grind (arith, nat_tests) in ap (λ (b : Bool). if b then None else Some fault) most

pub many_decimals : (span : Span) (decimals scale most : ℕ) → decimals < scale → scaled_fault span decimals scale most ≡ Some (f.WrongKind span)
many_decimals span decimals scale most many =
    let less : nat_lt decimals scale ≡ true = grind (arith, nat_tests) in
    ap (λ (b : Bool). if b then Some (f.WrongKind span) else side_fault span scale decimals most) less

pub scaled_is : (span : Span) (decimals : ℕ) (expr : Expr) (scale : ℕ) (r : Result Expr CompileFault) → scale ≤ decimals → SideAnswer span expr (decimals - scale) r → ScaledAnswer span decimals expr scale r
scaled_is span decimals expr scale (Ok made) few h = (few_decimals span decimals scale (bound expr) few ∙ fits_in (bound expr * 10 ^ (decimals - scale)) (f.TooWide span) h.0, few, h.1)
scaled_is span decimals expr scale (Err f.Memory) few h = tt
scaled_is span decimals expr scale (Err fault) few h =
    few_decimals span decimals scale (bound expr) few ∙ passes (bound expr * 10 ^ (decimals - scale)) (f.TooWide span) h.0 ∙ ap (λ (x : CompileFault). Some x) (sym h.1)

-- ---- kinds

pub text_suited : (span : Span) (expr : Expr) → IsSound (expr, s.Text) → SuitedAnswer span k.Text (expr, s.Text) (Ok expr)
text_suited span expr sound = record { fits = refl; within = sound.within; comes = λ event bound. refl; of_kind = λ r h. h; reads = λ h. h }

-- a kind of numbers with so many decimals
pub record IsOfDecimals (kind : Kind) (decimals : ℕ) : Type 0 where
  pub fits : (span : Span) (scale most : ℕ) → fits_fault span kind (s.Number scale most) ≡ scaled_fault span decimals scale most
  pub put : (units : ℤ) (scale : ℕ) → in_column kind (number units scale) ≡ Some (raised_units units scale decimals)
  pub of_kind : (r : Readable) (expr : Expr) → HasScale r expr decimals → IsOfKind r kind expr

pub whole : IsOfDecimals k.Int 0
whole = record { fits = λ span scale most. refl; put = λ units scale. refl; of_kind = λ r expr h. h }

pub decimal : (digits : ℕ) → IsOfDecimals (k.Dec digits) digits
decimal digits = record { fits = λ span scale most. refl; put = λ units scale. refl; of_kind = λ r expr h. h }

pub number_suited : (kind : Kind) (decimals : ℕ) → IsOfDecimals kind decimals → (span : Span) (expr : Expr) (scale most : ℕ) (r : Result Expr CompileFault) → IsSound (expr, s.Number scale most)
    → ScaledAnswer span decimals expr scale r → SuitedAnswer span kind (expr, s.Number scale most) r
number_suited kind decimals of span expr scale most (Ok made) sound h = record {
  fits = of.fits span scale most ∙ ap (scaled_fault span decimals scale) (sym sound.bounded.0) ∙ h.0;
  within = h.2.within;
  comes = λ event bound_. of.put _ scale ∙ ap (λ (x : ℤ). Some x) (sym (h.2.raises event bound_));
  of_kind = λ r has. of.of_kind r made (subst (λ (n : ℕ). HasScale r made n) (omega (arith, h.1)) (h.2.scaled r scale has));
  reads = h.2.reads;
}
number_suited kind decimals of span expr scale most (Err fault) sound h =
    subst (λ (o : Option CompileFault). Found o fault) (ap (scaled_fault span decimals scale) sound.bounded.0 ∙ sym (of.fits span scale most)) h

-- ---- trees

pub untyped_misfits : (scope : Scope) (kind : Kind) (tree : Tree) (fault : CompileFault) → Untyped scope tree fault → Misfits scope kind tree fault
untyped_misfits scope kind tree f.Memory h = tt
untyped_misfits scope kind tree fault h = (Err fault, h, refl)

found_misfits : (scope : Scope) (texts : List (List ℕ)) (kind : Kind) (tree : Tree) (p : Expr × Sort) (fault : CompileFault) → Compiled scope texts tree p.0 p.1 → Found (fits_fault (span_of tree) kind p.1) fault → Misfits scope kind tree fault
found_misfits scope texts kind tree p f.Memory c h = tt
found_misfits scope texts kind tree p fault c h = (Ok p.1, c.types, sym h)

pub fitted_is : (scope : Scope) (texts : List (List ℕ)) (kind : Kind) (tree : Tree) (p : Expr × Sort) (r : Result Expr CompileFault) → scope.at_hand ≡ false → Compiled scope texts tree p.0 p.1 → SuitedAnswer (span_of tree) kind p r
    → FittedAnswer scope texts kind tree r
fitted_is scope texts kind tree p (Ok expr) none c h = record {
  sort = p.1;
  types = c.types;
  fits = h.fits;
  gives = λ event bound_. (comes_to p event bound_, c.means event bound_, h.comes event bound_);
  within = h.within;
  of_kind = h.of_kind (readable_in scope texts) c.sorted;
  reads = h.reads (c.reads none);
}
fitted_is scope texts kind tree p (Err fault) none c h = found_misfits scope texts kind tree p fault c h

pub sound_of : (scope : Scope) (texts : List (List ℕ)) (tree : Tree) (p : Expr × Sort) → Compiled scope texts tree p.0 p.1 → IsSound p
sound_of scope texts tree p c = record { bounded = c.bounded; within = c.within }
