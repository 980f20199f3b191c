-- What all slots filled make of items, and that their checks find one thing.
use Rattle.std.proofs.Common.{◌≡◌, ◌≢◌, ◌⊎◌, ◌∷◌, ◌++◌, List, [], length, map, Option, Some, None, Result, Ok, Err, IfOk, IfErr, MatchResult, inl, inr, refl, sym, ◌∙◌, ap, subst}
use Rattle.std.specs.Prelude.{if◌then◌else◌}
use Rattle.std.specs.Global.{Vec}
use Rattle.std.specs.List.{All, AllZip, zip}
use Rattle.std.proofs.lemmas.List.Elements.{All-nil, All-cons}
use Rattle.std.proofs.lemmas.Slice.Zip.{AllZip-long}
use Rattle.sp_plan.specs.declared.plan.Column.{Column}
use Rattle.sp_plan.specs.declared.plan.Expr.{Expr, Literal, Word, Column as At, Earlier, Raise', Minus', Add', Sub', Mul'}
use Rattle.sp_plan.specs.declared.plan.Plan.{Plan}
use Rattle.sp_plan.specs.declared.plan.Schema.{Schema}
use Rattle.sp_plan.specs.Bounds.{StaysWithin}
use Rattle.sp_plan.specs.Compiled.{IsCompiled, readable}
use Rattle.sp_compile.specs.declared.fault.CompileFault.{CompileFault}
use Rattle.sp_compile.specs.declared.fault.CompileFault.TheVariants as f
use Rattle.sp_compile.specs.Answers.{ReadsEarlier}
use Rattle.sp_compile.specs.Checks.{span_of, stops, goes}
use Rattle.sp_compile.specs.Scopes.{Scope}
use Rattle.sp_compile.proofs.OneFault.{IsOne, one_found, one_sort, one_then}
use Rattle.sp_graph.specs.Returns.{AreReturns, IsOfKind, ReadsBound}
use Rattle.sp_returns.specs.declared.item.Return.{Return}
use Rattle.sp_returns.specs.Answers.{AreSlots, EmptyAnswer, FilledBy, Gone, Misreturns, ReturnsAnswer}
use Rattle.sp_returns.specs.Checks.{AllFault, ItemFault, ItemsFault, ReturnsFault, SumFault, behind, column_called, is_returned, missing_fault, verdict_fault}
use Rattle.sp_returns.specs.Scopes.{item_scope}
use Rattle.sp_returns.specs.Stands.{IsReturnsOf, RefusesReturns, StandsForColumn}
use Rattle.sp_returns.proofs.Readables.{item_kind}
use Rattle.sp_returns.proofs.Slots.{all_filled, none_missing, one_missing}

-- ---- one verdict

one_sum : (scope : Scope) (item : Return) (column : Column) → IsOne (SumFault scope item column)
one_sum scope item column a b d e = d.2 ∙ ap (verdict_fault (span_of item.tree) column.kind) (one_sort scope item.tree d.0 e.0 d.1 e.1) ∙ sym e.2

one_item : (scope : Scope) (before : List Return) (item : Return) (column : Option Column) → IsOne (ItemFault scope before item column)
one_item scope before item None = one_found (Some (f.Unknown item.name.span))
one_item scope before item (Some column) = one_then _ _ (one_found (if is_returned before item.name.text then Some (f.Twice item.name.span) else None)) (one_sum scope item column)

one_items : (scope : Scope) (columns : List Column) (before returns : List Return) → IsOne (ItemsFault scope columns before returns)
one_items scope columns before [] = one_found None
one_items scope columns before (item ∷ rest) = one_then _ _ (one_item scope before item (column_called columns item.name.text)) (one_items scope columns (before ++ item ∷ []) rest)

-- The checks of items find one thing, a fault or none.
pub one_verdict : (from : Plan) (into : Schema) (returns : List Return) → IsOne (ReturnsFault from into returns)
one_verdict from into returns = one_then _ _ (one_items (item_scope from) into.columns [] returns) (one_found (missing_fault returns into.columns))

-- ---- what refuses

-- want of memory is told apart from other faults
pub told_apart : (fault : CompileFault) → (fault ≡ f.Memory) ⊎ (fault ≢ f.Memory)
told_apart f.Memory = inl refl
told_apart (f.Unknown span) = inr (λ e. cc)
told_apart (f.Twice span) = inr (λ e. cc)
told_apart (f.WrongKind span) = inr (λ e. cc)
told_apart (f.PlusLast span) = inr (λ e. cc)
told_apart (f.LateReference span) = inr (λ e. cc)
told_apart (f.TooWide span) = inr (λ e. cc)
told_apart (f.BadWindow span) = inr (λ e. cc)
told_apart (f.TooMany span) = inr (λ e. cc)
told_apart (f.NeverEnds span) = inr (λ e. cc)
told_apart (f.NeverBound span) = inr (λ e. cc)

pub refused : (returns : List Return) (from : Plan) (into : Schema) (fault : CompileFault) → ReturnsFault from into returns (Some fault) → RefusesReturns returns from into fault
refused returns from into f.Memory h = tt
refused returns from into fault h = h

pub refuses_is : (returns : List Return) (from : Plan) (into : Schema) (fault : CompileFault) → fault ≢ f.Memory → RefusesReturns returns from into fault → ReturnsFault from into returns (Some fault)
refuses_is returns from into f.Memory some h = absurd (some refl)
refuses_is returns from into fault some h = h

-- items are refused by what they may name, and by the columns
pub refused_too : (returns : List Return) (from from' : Plan) (into into' : Schema) → item_scope from ≡ item_scope from' → into ≡ into' → (fault : CompileFault) → RefusesReturns returns from into fault → RefusesReturns returns from' into' fault
refused_too returns from from' into into' scopes schemas f.Memory h = tt
refused_too returns from from' into into' scopes schemas fault h =
    subst (λ (s : Schema). AllFault (item_scope from') s.columns returns (Some fault)) schemas (subst (λ (s : Scope). AllFault s into.columns returns (Some fault)) scopes h)

pub misreturned : (returns : List Return) (from : Plan) (into : Schema) (fault : CompileFault) → Misreturns from returns into.columns fault → RefusesReturns returns from into fault
misreturned returns from into f.Memory h = tt
misreturned returns from into fault h = stops fault h

-- ---- what was answered is what the checks find

module _ (returns : List Return) (from : Plan) (into : Schema) where
  pub answer_is : (r : Result (Vec Expr) CompileFault) → ReturnsAnswer returns from into r → IfOk r (λ exprs. IsReturnsOf returns from into exprs.items)
  answer_is (Ok exprs) h = h.0
  answer_is (Err fault) h = tt

  pub answer_suits : (second : Plan) → second.schema ≡ into → (r : Result (Vec Expr) CompileFault) → ReturnsAnswer returns from into r → IfOk r (λ exprs. AreReturns from second exprs.items)
  answer_suits second is (Ok exprs) h = h.1 second is
  answer_suits second is (Err fault) h = tt

  pub answer_refuses : (r : Result (Vec Expr) CompileFault) → ReturnsAnswer returns from into r → IfErr r (λ fault. RefusesReturns returns from into fault)
  answer_refuses (Ok exprs) h = tt
  answer_refuses (Err fault) h = h

  pub found_is : (r : Result (Vec Expr) CompileFault) → ReturnsAnswer returns from into r → (found : Option CompileFault) → ReturnsFault from into returns found
      → MatchResult r (λ exprs. found ≡ None) (λ fault. (found ≡ Some fault) ⊎ (fault ≡ f.Memory))
  found_is (Ok exprs) h found d = one_verdict from into returns found None d h.0.checks
  found_is (Err fault) h found d = elim (told_apart fault) as (λ _. (found ≡ Some fault) ⊎ (fault ≡ f.Memory)) [
    | inl none ↦ inr none
    | inr some ↦ inl (one_verdict from into returns found (Some fault) d (refuses_is returns from into fault some h))
  ]

-- ---- all slots were looked at

module _ (from : Plan) (returns : List Return) (into : Schema) (slots : List (Option Expr)) (gone : Gone from returns into.columns slots) where
  -- one of them is empty
  unfilled : (fault : CompileFault) → EmptyAnswer (behind returns) slots fault → RefusesReturns returns from into fault
  unfilled fault answer = elim answer as (λ _. RefusesReturns returns from into fault) [
    | inl none ↦ subst (RefusesReturns returns from into) (sym none) tt
    | inr empty ↦ subst (RefusesReturns returns from into) (sym empty.0) (goes (Some (f.Unknown (behind returns))) gone.checks (sym (one_missing from returns into.columns slots empty.1 gone.slots_are empty.2)))
  ]

  module _ (exprs : List Expr) (full : slots ≡ map (λ expr. Some expr) exprs) where
    filled : AllZip (FilledBy from returns) into.columns exprs
    filled = all_filled from returns into.columns exprs (subst (λ (l : List (Option Expr)). AreSlots from returns into.columns l) full gone.slots_are)

    stand : (columns : List Column) (made : List Expr) → AllZip (FilledBy from returns) columns made → AllZip (StandsForColumn from returns) columns made
    stand [] [] s = tt
    stand [] (expr ∷ made) s = absurd s
    stand (column ∷ columns) [] s = absurd s
    stand (column ∷ columns) (expr ∷ made) s = (record { item = s.0.item; is_for = s.0.is_for; gives = s.0.fitted.gives }, stand columns made s.1)

    returned : IsReturnsOf returns from into exprs
    returned = record {
      checks = goes None gone.checks (sym (none_missing from returns into.columns exprs filled));
      stand = stand into.columns exprs filled;
    }

    -- ---- what they owe to those who evaluate them

    bound : (expr : Expr) → ReadsEarlier expr → ReadsBound expr
    bound (Literal n) h = tt
    bound (Word s) h = tt
    bound (At place) h = absurd h
    bound (Earlier name place) h = tt
    bound (Raise' by p inner) h = bound inner h
    bound (Minus' p inner) h = bound inner h
    bound (Add' p left q right) h = (bound left h.0, bound right h.1)
    bound (Sub' p left q right) h = (bound left h.0, bound right h.1)
    bound (Mul' p left q right) h = (bound left h.0, bound right h.1)

    all_bound : (columns : List Column) (made : List Expr) → AllZip (FilledBy from returns) columns made → All ReadsBound made
    all_bound columns [] s = All-nil ReadsBound
    all_bound [] (expr ∷ made) s = absurd s
    all_bound (column ∷ columns) (expr ∷ made) s = All-cons ReadsBound expr made (bound expr s.0.fitted.reads) (all_bound columns made s.1)

    all_within : (columns : List Column) (made : List Expr) → AllZip (FilledBy from returns) columns made → All StaysWithin made
    all_within columns [] s = All-nil StaysWithin
    all_within [] (expr ∷ made) s = absurd s
    all_within (column ∷ columns) (expr ∷ made) s = All-cons StaysWithin expr made s.0.fitted.within (all_within columns made s.1)

    abbrev Kinds : Column × Expr → Type 0
    Kinds pair = IsOfKind (readable from (length from.names)) pair.0.kind pair.1

    all_kinds : IsCompiled from → (columns : List Column) (made : List Expr) → AllZip (FilledBy from returns) columns made → All Kinds (zip columns made)
    all_kinds compiled [] [] s = All-nil Kinds
    all_kinds compiled [] (expr ∷ made) s = absurd s
    all_kinds compiled (column ∷ columns) [] s = absurd s
    all_kinds compiled (column ∷ columns) (expr ∷ made) s = All-cons Kinds (column, expr) (zip columns made) (item_kind from compiled column.kind expr s.0.fitted.of_kind) (all_kinds compiled columns made s.1)

    suit : IsCompiled from → (second : Plan) → second.schema ≡ into → AreReturns from second exprs
    suit compiled second is = record {
      count = AllZip-long (FilledBy from returns) into.columns exprs filled ∙ ap (λ (s : Schema). length s.columns) (sym is);
      kinds = subst (λ (s : Schema). All Kinds (zip s.columns exprs)) (sym is) (all_kinds compiled into.columns exprs filled);
      bound = all_bound into.columns exprs filled;
      within = all_within into.columns exprs filled;
    }

  pub answered : IsCompiled from → (r : Result (Vec Expr) CompileFault) → IfOk r (λ exprs. slots ≡ map (λ expr. Some expr) exprs.items) → IfErr r (λ fault. EmptyAnswer (behind returns) slots fault) → ReturnsAnswer returns from into r
  answered compiled (Ok exprs) full empty = (returned exprs.items full, suit exprs.items full compiled)
  answered compiled (Err fault) full empty = unfilled fault empty
