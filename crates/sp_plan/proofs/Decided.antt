-- What `==` on values, elements, columns and texts decides.
use Rattle.std.proofs.Common.{◌≡◌, Bool, true, false, not, ◌&&◌, ◌==◌, Option, Some, None, refl, ap}
use Rattle.std.specs.Ordering.{int_eq}
use Rattle.std.specs.Bool.{Decides}
use Rattle.std.specs.Option.{option_eq}
use Rattle.std.specs.Str.{bytes_eq}
use Rattle.std.proofs.lemmas.Bool.Decides.{Decides-eqb, Decides-int_eq, Decides-like, Decides-and}
use Rattle.std.proofs.lemmas.Slice.Eq.{bytes_eq-Decides}
use Rattle.sp_plan.specs.declared.event.Value.{Value}
use Rattle.sp_plan.specs.declared.event.Value.TheVariants.{Number, Symbol}
use Rattle.sp_plan.specs.declared.plan.Column.{Column}
use Rattle.sp_plan.specs.declared.plan.Kind.{Kind}
use Rattle.sp_plan.specs.declared.plan.Kind.TheVariants.{Int, Dec, Text}
use Rattle.sp_plan.specs.declared.plan.Element.{Element}
use Rattle.sp_plan.specs.declared.plan.Element.TheVariants.{One, Plus, Set, Never}
use Rattle.sp_plan.specs.contracts.event.ValuePartialEq.TheImpl.{eq-value as value_eq}
use Rattle.sp_plan.specs.contracts.plan.KindPartialEq.TheImpl.{eq-value as kind_eq}
use Rattle.sp_plan.specs.contracts.plan.ElementPartialEq.TheImpl.{eq-value as element_eq}
use Rattle.sp_plan.specs.contracts.plan.ColumnPartialEq.TheImpl.{eq-value as column_eq}

pub value_decides : (a b : Value) → Decides (value_eq.it a b) (a ≡ b)
value_decides (Number n) (Number m) = Decides-like (int_eq n m) (λ e. ap Number e) (λ e. cc) (Decides-int_eq n m)
value_decides (Symbol s) (Symbol t) = Decides-like (s == t) (λ e. ap Symbol e) (λ e. cc) (Decides-eqb s t)
value_decides (Number n) (Symbol t) = (λ h. absurd cc, λ e. absurd cc)
value_decides (Symbol s) (Number m) = (λ h. absurd cc, λ e. absurd cc)

told_same : (a b : Option Value) → option_eq value_eq.it a b ≡ true → a ≡ b
told_same None None h = refl
told_same (Some a) (Some b) h = ap Some ((value_decides a b).0 h)
told_same None (Some b) h = absurd cc
told_same (Some a) None h = absurd cc

not_unlike : (b : Bool) → not b ≡ false → b ≡ true
not_unlike true h = refl
not_unlike false h = absurd cc

pub not_other : (a b : Option Value) → not (option_eq value_eq.it a b) ≡ false → a ≡ b
not_other a b h = told_same a b (not_unlike (option_eq value_eq.it a b) h)

kind_decides : (a b : Kind) → Decides (kind_eq.it a b) (a ≡ b)
kind_decides Int Int = (λ h. cc, λ e. cc)
kind_decides Text Text = (λ h. cc, λ e. cc)
kind_decides (Dec p) (Dec q) = Decides-like (p == q) (λ e. ap Dec e) (λ e. cc) (Decides-eqb p q)
kind_decides Int Text = (λ h. absurd cc, λ e. absurd cc)
kind_decides Int (Dec q) = (λ h. absurd cc, λ e. absurd cc)
kind_decides Text Int = (λ h. absurd cc, λ e. absurd cc)
kind_decides Text (Dec q) = (λ h. absurd cc, λ e. absurd cc)
kind_decides (Dec p) Int = (λ h. absurd cc, λ e. absurd cc)
kind_decides (Dec p) Text = (λ h. absurd cc, λ e. absurd cc)

pub column_decides : (a b : Column) → Decides (column_eq.it a b) (a ≡ b)
column_decides a b =
    Decides-like (bytes_eq a.name b.name && kind_eq.it a.kind b.kind) (λ p. λ i. record { name = p.0 i; kind = p.1 i }) (λ e. (ap (λ (c : Column). c.name) e, ap (λ (c : Column). c.kind) e))
    (Decides-and (bytes_eq a.name b.name) (kind_eq.it a.kind b.kind) (bytes_eq-Decides a.name b.name) (kind_decides a.kind b.kind))

pub element_decides : (a b : Element) → Decides (element_eq.it a b) (a ≡ b)
element_decides (One n) (One m) = Decides-like (n == m) (λ e. ap One e) (λ e. cc) (Decides-eqb n m)
element_decides (Plus n) (Plus m) = Decides-like (n == m) (λ e. ap Plus e) (λ e. cc) (Decides-eqb n m)
element_decides (Set n count) (Set m other) = Decides-like (n == m && count == other) (λ p. λ i. Set (p.0 i) (p.1 i)) (λ e. (cc, cc)) (Decides-and (n == m) (count == other) (Decides-eqb n m) (Decides-eqb count other))
element_decides (One n) (Plus m) = (λ h. absurd cc, λ e. absurd cc)
element_decides (One n) (Set m other) = (λ h. absurd cc, λ e. absurd cc)
element_decides (Plus n) (One m) = (λ h. absurd cc, λ e. absurd cc)
element_decides (Plus n) (Set m other) = (λ h. absurd cc, λ e. absurd cc)
element_decides (Set n count) (One m) = (λ h. absurd cc, λ e. absurd cc)
element_decides (Set n count) (Plus m) = (λ h. absurd cc, λ e. absurd cc)
element_decides (Never n) (Never m) = Decides-like (n == m) (λ e. ap Never e) (λ e. cc) (Decides-eqb n m)
element_decides (Never n) (One m) = (λ h. absurd cc, λ e. absurd cc)
element_decides (Never n) (Plus m) = (λ h. absurd cc, λ e. absurd cc)
element_decides (Never n) (Set m other) = (λ h. absurd cc, λ e. absurd cc)
element_decides (One n) (Never m) = (λ h. absurd cc, λ e. absurd cc)
element_decides (Plus n) (Never m) = (λ h. absurd cc, λ e. absurd cc)
element_decides (Set n count) (Never m) = (λ h. absurd cc, λ e. absurd cc)
