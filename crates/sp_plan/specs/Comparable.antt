-- Which expressions of a plan are texts, which are numbers and of what scale, and which predicates compare like with like.
use Rattle.std.specs.Prelude.{◌≡◌, ◌⊎◌, ℕ, ◌+◌, ◌<◌, ◌≤◌, true, List, Option, Some, None, slice_get}
use Rattle.sp_base.specs.Numbers.{is_among}
use Rattle.sp_plan.specs.declared.plan.Column.{Column}
use Rattle.sp_plan.specs.declared.plan.Kind.{Kind}
use Rattle.sp_plan.specs.declared.plan.Kind.TheVariants as k
use Rattle.sp_plan.specs.declared.plan.Compare.{Compare}
use Rattle.sp_plan.specs.declared.plan.Compare.TheVariants as c
use Rattle.sp_plan.specs.declared.plan.Expr.{Expr}
use Rattle.sp_plan.specs.declared.plan.Expr as e
use Rattle.sp_plan.specs.declared.plan.Pred.{Pred, Always, Test, And', Or', Not'}

-- What a predicate may read: these columns, so many texts of the plan, and the names below a number that bind events.
pub record Readable : Type 0 where
  pub columns : List Column
  pub texts : ℕ
  pub names : ℕ
  pub binding : List ℕ

-- The name is below that number, and binds events.
abbrev pub MayRead : Readable → ℕ → Type 0
MayRead r name = (name < r.names) × (is_among r.binding name ≡ true)

-- a kind of numbers with so many decimals
abbrev pub KindOfScale : ℕ → Kind → Type 0
KindOfScale scale k.Int = scale ≡ 0
KindOfScale scale (k.Dec digits) = scale ≡ digits
KindOfScale scale k.Text = ⊥

-- the column is there, and holds numbers of this scale
abbrev pub ColumnOfScale : ℕ → Option Column → Type 0
ColumnOfScale scale None = ⊥
ColumnOfScale scale (Some column) = KindOfScale scale column.kind

-- the kind of texts
abbrev pub KindOfTexts : Kind → Type 0
KindOfTexts k.Text = Unit {0}
KindOfTexts _ = ⊥

-- the column is there, and holds texts
abbrev pub ColumnOfTexts : Option Column → Type 0
ColumnOfTexts None = ⊥
ColumnOfTexts (Some column) = KindOfTexts column.kind

-- The expression is a text: one of the plan's, or one of an event.
abbrev pub IsText : Readable → Expr → Type 0
IsText r (e.Word s) = s < r.texts
IsText r (e.Column place) = ColumnOfTexts (slice_get r.columns place)
IsText r (e.Earlier name place) = MayRead r name × ColumnOfTexts (slice_get r.columns place)
IsText r _ = ⊥

-- The expression is a number of this scale. Sums have both sides of one scale, products add scales; the plan keeps no scale of a
-- number of the query, which may be of any.
abbrev pub HasScale : Readable → Expr → ℕ → Type 0
HasScale r (e.Literal n) scale = scale ≤ 36
HasScale r (e.Word s) scale = ⊥
HasScale r (e.Column place) scale = ColumnOfScale scale (slice_get r.columns place)
HasScale r (e.Earlier name place) scale = MayRead r name × ColumnOfScale scale (slice_get r.columns place)
HasScale r (e.Raise' by p inner) scale = (from : ℕ) × (from + by ≡ scale) × HasScale r inner from
HasScale r (e.Minus' p inner) scale = HasScale r inner scale
HasScale r (e.Add' p left q right) scale = HasScale r left scale × HasScale r right scale
HasScale r (e.Sub' p left q right) scale = HasScale r left scale × HasScale r right scale
HasScale r (e.Mul' p left q right) scale = (one : ℕ) × (other : ℕ) × (one + other ≡ scale) × HasScale r left one × HasScale r right other

-- texts are equal or not, and in no order
abbrev pub IsEquality : Compare → Type 0
IsEquality c.Equal = Unit {0}
IsEquality c.Unequal = Unit {0}
IsEquality _ = ⊥

-- Two texts, by a comparison that texts have.
pub record AreTexts (r : Readable) (by : Compare) (left right : Expr) : Type 0 where
  pub equality : IsEquality by
  pub left_is : IsText r left
  pub right_is : IsText r right

-- Two numbers of one scale, with at most 36 decimals.
pub record AreNumbers (r : Readable) (left right : Expr) : Type 0 where
  pub scale : ℕ
  pub within : scale ≤ 36
  pub left_is : HasScale r left scale
  pub right_is : HasScale r right scale

-- The sides of each comparison are two texts or two numbers, of what may be read alone.
abbrev pub IsComparable : Readable → Pred → Type 0
IsComparable r Always = Unit {0}
IsComparable r (Test by left right) = AreTexts r by left right ⊎ AreNumbers r left right
IsComparable r (And' p left q right) = IsComparable r left × IsComparable r right
IsComparable r (Or' p left q right) = IsComparable r left × IsComparable r right
IsComparable r (Not' p inner) = IsComparable r inner
