-- Names and texts of a plan that are told apart.
use Rattle.std.proofs.Common.{◌≡◌, ◌≢◌, ℕ, zero, suc, ◌≤◌, Bool, true, false, List, [], ◌∷◌, ◌++◌, map, get_or, fold, None, refl, ap, sym, ◌∙◌, subst, arith}
use Rattle.std.specs.Prelude.{if◌then◌else◌}
use Rattle.std.specs.List.{All, AllPairs, list_any}
use Rattle.std.specs.Str.{bytes_eq}
use Rattle.std.proofs.lemmas.List.Elements.{All-map}
use Rattle.std.proofs.lemmas.List.Folds.{list_any_at}
use Rattle.std.proofs.lemmas.List.Quantifiers.{all_pairs_push}
use Rattle.std.proofs.lemmas.Slice.Eq.{bytes_eq-Decides}
use Rattle.sp_lex.specs.declared.token.Word.{Word}
use Rattle.sp_lex.specs.declared.token.Word.TheVariants as w
use Rattle.sp_plan.specs.declared.plan.Column.{Column}
use Rattle.sp_plan.specs.declared.plan.Name.{Name}
use Rattle.sp_plan.specs.Compiled.{AreApart, IsKind}
use Rattle.sp_plan.specs.Texts.{with_text}
use Rattle.sp_query.specs.declared.query.Query.{Query}
use Rattle.sp_query.specs.declared.query.QueryColumn.{QueryColumn}
use Rattle.sp_compile.specs.Scopes.{PatternName}
use Rattle.sp_compile.specs.Checks.{columns_fault, names_fault}
use Rattle.sp_compile.specs.Stands.{plan_column, kind_of, StandForNames}
use Rattle.sp_compile.proofs.Limits.{text_of, HasDigits, columns_unlike, columns_have_digits, names_unlike}

-- ---- lists

module _ {X Y : Type 0} (f : X → Y) where
  -- what holds of each two items, mapped
  pub pairs_mapped : (R : Y → Y → Type 0) (xs : List X) → AllPairs (λ x y. R (f x) (f y)) xs → AllPairs R (map f xs)
  pairs_mapped R [] h i j d before inside = absurd (omega arith)
  pairs_mapped R (x ∷ xs) h zero zero d before inside = absurd (omega arith)
  pairs_mapped R (x ∷ xs) h zero (suc j) d before inside = All-map (R (f x)) f xs (λ k e within. h zero (suc k) e (omega arith) (omega arith)) j d (omega arith)
  pairs_mapped R (x ∷ xs) h (suc i) zero d before inside = absurd (omega arith)
  pairs_mapped R (x ∷ xs) h (suc i) (suc j) d before inside = pairs_mapped R xs (λ k l e first within. h (suc k) (suc l) e (omega arith) (omega arith)) i j d (omega arith) (omega arith)

-- ---- columns

pub columns_apart : (columns : List QueryColumn) → columns_fault [] columns ≡ None → AreApart (map (λ column. column.name) (map plan_column columns))
columns_apart columns none =
    let unlike = λ (one other : List ℕ). one ≢ other in
    pairs_mapped (λ (column : Column). column.name) unlike (map plan_column columns)
    (pairs_mapped plan_column (λ one other. one.name ≢ other.name) columns (columns_unlike columns none))

-- the kind of a column with these digits
sound_kind : (kind : Word) (digits : ℕ) → (kind ≡ w.Dec → (1 ≤ digits) × (digits ≤ 6)) → IsKind (kind_of kind digits)
sound_kind w.Int digits sound = tt
sound_kind w.Dec digits sound = sound refl
sound_kind _ digits sound = tt

pub columns_sound : (columns : List QueryColumn) → columns_fault [] columns ≡ None → All (λ column. IsKind column.kind) (map plan_column columns)
columns_sound columns none =
    let digits : All HasDigits columns = columns_have_digits columns none in
    All-map (λ (column : Column). IsKind column.kind) plan_column columns (λ i d inside. sound_kind (get_or columns i d).kind (get_or columns i d).digits (digits i d inside))

-- ---- names

-- the texts of the plan's names
same_texts : (query : Query) (texts : List (List ℕ)) (names : List PatternName) (planned : List Name) → StandForNames query texts names planned → map (λ name. name.text) planned ≡ map text_of names
same_texts query texts [] [] s = refl
same_texts query texts [] (p ∷ planned) s = absurd s
same_texts query texts (name ∷ names) [] s = absurd s
same_texts query texts (name ∷ names) (p ∷ planned) s =
    ap (λ (l : List (List ℕ)). p.text ∷ l) (same_texts query texts names planned s.1) ∙ ap (λ (t : List ℕ). t ∷ map text_of names) s.0.text

pub names_apart : (query : Query) (texts : List (List ℕ)) (names : List PatternName) (planned : List Name) → StandForNames query texts names planned → names_fault [] names ≡ None → AreApart (map (λ name. name.text) planned)
names_apart query texts names planned stand none =
    subst AreApart (sym (same_texts query texts names planned stand)) (pairs_mapped text_of (λ one other. one ≢ other) names (names_unlike names none))

-- ---- texts

-- a text more, if it is new
more_apart : (texts : List (List ℕ)) (text : List ℕ) (known : Bool) → list_any (bytes_eq text) texts ≡ known → AreApart texts → AreApart (if known then texts else texts ++ text ∷ [])
more_apart texts text true is apart = apart
more_apart texts text false is apart =
    all_pairs_push (λ one other. one ≢ other) texts text apart
    (λ k d inside same.
    let alike : bytes_eq text (get_or texts k d) ≡ true = (bytes_eq-Decides text (get_or texts k d)).1 (sym same) in
    let found : list_any (bytes_eq text) texts ≡ true = list_any_at (bytes_eq text) texts k d inside alike in
    absurd (cc (found, is)))

-- texts behind others that are told apart, each that is new
pub gathered_apart : (literals texts : List (List ℕ)) → AreApart texts → AreApart (fold with_text texts literals)
gathered_apart [] texts apart = apart
gathered_apart (text ∷ literals) texts apart = gathered_apart literals (with_text texts text) (more_apart texts text (list_any (bytes_eq text) texts) refl apart)

pub none_apart : AreApart []
none_apart i j d before inside = absurd (omega arith)
