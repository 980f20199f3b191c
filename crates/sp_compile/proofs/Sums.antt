-- Sums of numbers at one scale.
use Rattle.std.proofs.Common.{◌≡◌, ℕ, ◌+◌, ◌-◌, ◌*◌, ◌^◌, ◌≤◌, max, Bool, true, false, ◌&&◌, Result, Ok, Err, refl, sym, ◌∙◌, ap, subst, arith}
use Rattle.std.specs.Prelude.{nat_le, pos, ◌*ℤ◌, if◌then◌else◌}
use Rattle.std.proofs.lemmas.Bool.Decides.{nat_tests}
use Rattle.sp_lex.specs.declared.token.Span.{Span}
use Rattle.sp_plan.specs.declared.event.Event.{Event}
use Rattle.sp_plan.specs.declared.plan.Expr.{Expr}
use Rattle.sp_plan.specs.Bounds.{bound, greatest}
use Rattle.sp_plan.specs.Comparable.{HasScale}
use Rattle.sp_plan.specs.Values.{BoundEvents, value}
use Rattle.sp_compile.specs.declared.arithmetic.Scaled.{Scaled}
use Rattle.sp_compile.specs.declared.fault.CompileFault.{CompileFault}
use Rattle.sp_compile.specs.declared.fault.CompileFault.TheVariants as f
use Rattle.sp_compile.specs.declared.sort.Sort.{Sort}
use Rattle.sp_compile.specs.declared.sort.Sort.TheVariants as s
use Rattle.sp_compile.specs.Sorts.{limited, product_sort, sum_sort}
use Rattle.sp_compile.specs.Parts.{IsSound, IsScaled, IsNumberOf, IsRaised, RaisedAnswer, raises, Aligned}

-- a number within limits
pub record Within (scale most : ℕ) (sort : Sort) : Type 0 where
  pub scale_is : scale ≤ 36
  pub most_is : most ≤ greatest
  pub is : sort ≡ s.Number scale most

within_tests : (span : Span) (scale most : ℕ) (sort : Sort) (a b : Bool) → nat_le scale 36 ≡ a → nat_le most greatest ≡ b → (if a && b then Ok (s.Number scale most) else Err (f.TooWide span)) ≡ Ok sort → Within scale most sort
within_tests span scale most sort true true x y e = record { scale_is = grind (arith, nat_tests); most_is = grind (arith, nat_tests); is = cc }
within_tests span scale most sort true false x y e = absurd (cc e)
within_tests span scale most sort false b x y e = absurd (cc e)

pub within : (span : Span) (scale most : ℕ) (sort : Sort) → limited span scale most ≡ Ok sort → Within scale most sort
within span scale most sort e = within_tests span scale most sort (nat_le scale 36) (nat_le most greatest) refl refl e

pub scaled : (p : Expr × Sort) → IsSound p → IsScaled p.1
scaled (expr, s.Text) x = tt
scaled (expr, s.Number scale most) x = x.bounded.1

-- what the product and the sum of two numbers are, and how many decimals more they get for the sum
module _ (one two : Scaled) (left right : Sort) (a : IsNumberOf one left) (b : IsNumberOf two right) where
  pub product_of : (span : Span) → product_sort span left right ≡ limited span (one.scale + two.scale) (one.bound * two.bound)
  product_of span = (λ i. product_sort span (a.is i) (b.is i))

  pub sum_of : (span : Span)
      → sum_sort span left right ≡ limited span (max one.scale two.scale) (one.bound * 10 ^ (max one.scale two.scale - one.scale) + two.bound * 10 ^ (max one.scale two.scale - two.scale))
  sum_of span = (λ i. sum_sort span (a.is i) (b.is i))

  pub raises_of : raises left right ≡ (max one.scale two.scale - one.scale, max one.scale two.scale - two.scale)
  raises_of = (λ i. raises (a.is i) (b.is i))

-- what is raised for a sum keeps its limits
pub record Fits (left right : Expr × Sort) (by more : ℕ) : Type 0 where
  pub by_left : by ≤ 36
  pub by_right : more ≤ 36
  pub left_fits : bound left.0 * 10 ^ by ≤ greatest
  pub right_fits : bound right.0 * 10 ^ more ≤ greatest

module _ (span : Span) where
  pub fits : (left right : Expr × Sort) (by more : ℕ) (all : Sort) → IsSound left → IsSound right → sum_sort span left.1 right.1 ≡ Ok all → (by, more) ≡ raises left.1 right.1 → Fits left right by more
  fits (l, s.Number k b) (r, s.Number m d) by more all x y sort is =
      let w = within span (max k m) (b * 10 ^ (max k m - k) + d * 10 ^ (max k m - m)) all sort in
      let p : by ≡ max k m - k = ap (λ q. q.0) is in
      let q : more ≡ max k m - m = ap (λ q. q.1) is in
      let u : bound l * 10 ^ by ≡ b * 10 ^ (max k m - k) = ap (λ n. n * 10 ^ by) x.bounded.0 ∙ ap (λ n. b * 10 ^ n) p in
      let v : bound r * 10 ^ more ≡ d * 10 ^ (max k m - m) = ap (λ n. n * 10 ^ more) y.bounded.0 ∙ ap (λ n. d * 10 ^ n) q in
      let scale_is = w.scale_is in
      let most_is = w.most_is in
      record {
        by_left = omega arith;
        by_right = omega arith;
        left_fits = subst (λ n. n ≤ greatest) (sym u) (omega arith);
        right_fits = subst (λ n. n ≤ greatest) (sym v) (omega arith);
      }
  fits (l, s.Text) right by more all x y sort is = absurd (cc sort)
  fits (l, s.Number k b) (r, s.Text) by more all x y sort is = absurd (cc sort)

  pub aligned : (left right : Expr × Sort) (by more : ℕ) (all : Sort) (one two : Expr) → IsSound left → IsSound right → sum_sort span left.1 right.1 ≡ Ok all → (by, more) ≡ raises left.1 right.1
      → IsRaised left.0 by one → IsRaised right.0 more two → Aligned span left right one two all
  aligned (l, s.Number k b) (r, s.Number m d) by more all one two x y sort is i j =
      let w = within span (max k m) (b * 10 ^ (max k m - k) + d * 10 ^ (max k m - m)) all sort in
      let p : by ≡ max k m - k = ap (λ q. q.0) is in
      let q : more ≡ max k m - m = ap (λ q. q.1) is in
      let u : bound one ≡ b * 10 ^ (max k m - k) = i.bounded ∙ ap (λ n. n * 10 ^ by) x.bounded.0 ∙ ap (λ n. b * 10 ^ n) p in
      let v : bound two ≡ d * 10 ^ (max k m - m) = j.bounded ∙ ap (λ n. n * 10 ^ more) y.bounded.0 ∙ ap (λ n. d * 10 ^ n) q in
      let left_is : (event : Event) (bound_ : BoundEvents) → value one event bound_ ≡ value l event bound_ *ℤ pos (10 ^ (max k m - k)) = λ event bound_. i.raises event bound_ ∙ ap (λ n. value l event bound_ *ℤ pos (10 ^ n)) p in
      let right_is : (event : Event) (bound_ : BoundEvents) → value two event bound_ ≡ value r event bound_ *ℤ pos (10 ^ (max k m - m)) = λ event bound_. j.raises event bound_ ∙ ap (λ n. value r event bound_ *ℤ pos (10 ^ n)) q in
      record {
        sort = sort;
        scale = max k m;
        number = (w.scale_is, w.is ∙ rw (u, v) refl);
        within = rw (u, v) w.most_is;
        within_one = i.within;
        within_other = j.within;
        sums = λ event bound_. rw (w.is, left_is event bound_, right_is event bound_) refl;
        differences = λ event bound_. rw (w.is, left_is event bound_, right_is event bound_) refl;
        sorted = λ r both. (
          subst (λ (n : ℕ). HasScale r one n) (omega (arith, p)) (i.scaled r k both.0),
          subst (λ (n : ℕ). HasScale r two n) (omega (arith, q)) (j.scaled r m both.1),
        );
        reads = λ both. (i.reads both.0, j.reads both.1);
      }
  aligned (l, s.Text) right by more all one two x y sort is i j = absurd (cc sort)
  aligned (l, s.Number k b) (r, s.Text) by more all one two x y sort is i j = absurd (cc sort)

-- a side that was raised, where both were
pub raised_is : (expr : Expr) (by : ℕ) (answer : Result Expr CompileFault) (raised : Expr) → RaisedAnswer expr by answer → answer ≡ Ok raised → IsRaised expr by raised
raised_is expr by answer raised h e = subst (RaisedAnswer expr by) e h
