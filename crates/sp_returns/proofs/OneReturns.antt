-- A text of items has expressions or one fault, and over plans of the same queries they give the same values.
use Rattle.std.proofs.Common.{◌≡◌, ℕ, ℤ, false, List, [], ◌∷◌, ◌++◌, map, Option, Some, None, refl, sym, ◌∙◌, ap, subst}
use Rattle.std.specs.List.{AllZip, fold}
use Rattle.sp_plan.specs.declared.plan.Column.{Column}
use Rattle.sp_plan.specs.declared.plan.Expr.{Expr}
use Rattle.sp_plan.specs.declared.plan.Name.{Name}
use Rattle.sp_plan.specs.declared.plan.Plan.{Plan}
use Rattle.sp_plan.specs.declared.plan.Schema.{Schema}
use Rattle.sp_plan.specs.Texts.{with_text}
use Rattle.sp_plan.specs.Values.{BoundEvents, value}
use Rattle.sp_query.specs.declared.query.Query.{Query}
use Rattle.sp_query.specs.declared.tree.Tree.{Tree, out-Tree}
use Rattle.sp_parse.specs.Codes as parse_codes
use Rattle.sp_compile.specs.declared.fault.CompileFault.{CompileFault}
use Rattle.sp_compile.specs.Codes as compile_codes
use Rattle.sp_compile.specs.Scopes.{Scope, PatternName, pattern_names}
use Rattle.sp_compile.specs.Stands.{Literals, none, some, literal_of, all_trees, StandForNames}
use Rattle.sp_compile.specs.Told.{IsPlanOf}
use Rattle.sp_compile.proofs.OneTruth.{one_value}
use Rattle.sp_graph.specs.Derived.{given, given_in, nothing, value_of}
use Rattle.sp_returns.specs.declared.item.Return.{Return}
use Rattle.sp_returns.specs.Checks.{ReturnsFault}
use Rattle.sp_returns.specs.Grammar.{IsReturnList}
use Rattle.sp_returns.specs.Laws.{ItemsOrOneFault, ReturnsOrOneFault, ReturnsAreAlike}
use Rattle.sp_returns.specs.Scopes.{ident_of, idents_of, item_scope, named_from, query_column}
use Rattle.sp_returns.specs.Stands.{Gives, in_column, StandsForColumn}
use Rattle.sp_returns.specs.Told.{IsReturnsFor, IsFaultyReturns, no_items, no_returns}
use Rattle.sp_returns.proofs.Alone.{same_fault, not_both}
use Rattle.sp_returns.proofs.Returned.{one_verdict, refused_too, refuses_is}
use Rattle.sp_returns.proofs.Unique as unique

pub one_list : ItemsOrOneFault
one_list = record { items = unique.one_list; fault = same_fault; apart = not_both }

-- ---- one fault

-- what the checks of two lists of one text find is one thing
same_found : (text : List ℕ) (from into : Plan) (items others : List Return) (found given_ : Option CompileFault) → IsReturnList text items → IsReturnList text others
    → ReturnsFault from into.schema items found → ReturnsFault from into.schema others given_ → found ≡ given_
same_found text from into items others found given_ are so finds gives =
    one_verdict from into.schema others found given_ (subst (λ (l : List Return). ReturnsFault from into.schema l found) (unique.one_list text items others are so) finds) gives

faults : (text : List ℕ) (from into : Plan) (code at code' at' : ℕ) → IsFaultyReturns text from into code at → IsFaultyReturns text from into code' at' → (code ≡ code') × (at ≡ at')
faults text from into _ _ _ _ (no_items fault refuses told) (no_items other refuses' told_too) =
    let same = same_fault text fault other told told_too refuses refuses' in
    (ap parse_codes.code_of same, ap parse_codes.place_of same)
faults text from into _ _ _ _ (no_items fault refuses told) (no_returns items other are refuses' told_too) = absurd (not_both text items fault told are refuses)
faults text from into _ _ _ _ (no_returns items fault are refuses told) (no_items other refuses' told_too) = absurd (not_both text items other told_too are refuses')
faults text from into _ _ _ _ (no_returns items fault are refuses told) (no_returns others other so refuses' told_too) =
    let found = same_found text from into items others (Some fault) (Some other) are so (refuses_is items from into.schema fault told refuses) (refuses_is others from into.schema other told_too refuses') in
    let same : fault ≡ other = cc found in
    (ap compile_codes.code_of same, ap compile_codes.place_of same)

apart : (text : List ℕ) (from into : Plan) (returns : List Expr) (code at : ℕ) → IsReturnsFor text from into returns → IsFaultyReturns text from into code at → ⊥
apart text from into returns _ _ stands (no_items fault refuses told) = not_both text stands.items fault told stands.are_items refuses
apart text from into returns _ _ stands (no_returns items fault are refuses told) =
    absurd (cc (same_found text from into items stands.items (Some fault) None are stands.are_items (refuses_is items from into.schema fault told refuses) stands.are_returns.checks))

pub one_return : ReturnsOrOneFault
one_return = record { faults = faults; apart = apart }

-- ---- plans of one query

-- trees have one list of texts
same_literals : (trees : List Tree) (a b : List (List ℕ)) → Literals trees a → Literals trees b → a ≡ b
same_literals _ _ _ none none = refl
same_literals (_ ∷ _) _ _ (some t rest own others texts parts more is) (some _ _ own' others' texts' parts' more' is') =
    is ∙ (λ i. literal_of (out-Tree t).node ++ (same_literals (out-Tree t).parts own own' parts parts' i ++ same_literals rest others others' more more' i)) ∙ sym is'

names_in : (query : Query) (texts : List (List ℕ)) (names : List PatternName) (planned : List Name) → StandForNames query texts names planned → idents_of planned ≡ map (λ name. ident_of name.name.text) names
names_in query texts [] [] s = refl
names_in query texts [] (one ∷ planned) s = absurd s
names_in query texts (name ∷ names) [] s = absurd s
names_in query texts (name ∷ names) (one ∷ planned) s = λ i. ident_of (s.0.text i) ∷ names_in query texts names planned s.1 i

module _ (query : Query) (x y : Plan) (first : IsPlanOf x query) (second : IsPlanOf y query) where
  pub same_schema : x.schema ≡ y.schema
  same_schema = λ i. record { columns = (first.stands.columns ∙ sym second.stands.columns) i; time = (first.stands.time ∙ sym second.stands.time) i }

  pub same_texts : x.texts ≡ y.texts
  same_texts = first.stands.texts ∙ ap (fold with_text []) (same_literals (all_trees query) first.stands.literals second.stands.literals first.stands.of_trees second.stands.of_trees) ∙ sym second.stands.texts

  same_idents : idents_of x.names ≡ idents_of y.names
  same_idents = names_in query x.texts (pattern_names query) x.names first.stands.names ∙ sym (names_in query y.texts (pattern_names query) y.names second.stands.names)

  -- items may name the same in both
  pub same_scope : item_scope x ≡ item_scope y
  same_scope = λ i. record {
    columns = map query_column ((first.stands.columns ∙ sym second.stands.columns) i);
    names = named_from ((first.stands.elements ∙ sym second.stands.elements) i) 0 (same_idents i);
    here = Some 1;
    at_hand = false;
    known = same_texts i;
  }

-- ---- the same values

module _ (scope : Scope) (texts : List (List ℕ)) (bound : BoundEvents) where
  same_put : (x y : ℤ) → Some x ≡ Some y → x ≡ y
  same_put x y e = cc

  same_value : (column : Column) (tree : Tree) (x y : Expr) → Gives scope texts column.kind tree x → Gives scope texts column.kind tree y → value x nothing bound ≡ value y nothing bound
  same_value column tree x y one other =
      let a = one nothing bound in
      let b = other nothing bound in
      same_put (value x nothing bound) (value y nothing bound) (sym a.2 ∙ ap (in_column column.kind) (one_value scope texts nothing bound tree a.0 b.0 a.1 b.1) ∙ b.2)

module _ (from from' : Plan) (scopes : item_scope from ≡ item_scope from') (texts : from.texts ≡ from'.texts) (items : List Return) (bound : BoundEvents) where
  same_column : (column : Column) (x y : Expr) → StandsForColumn from items column x → StandsForColumn from' items column y → given_in bound (column, x) ≡ given_in bound (column, y)
  same_column column x y one other =
      let both : Some one.item ≡ Some other.item = sym one.is_for ∙ other.is_for in
      let same : one.item ≡ other.item = cc both in
      let moved : Gives (item_scope from') from'.texts column.kind one.item.tree x =
      subst (λ (s : Scope). Gives s from'.texts column.kind one.item.tree x) scopes (subst (λ (t : List (List ℕ)). Gives (item_scope from) t column.kind one.item.tree x) texts one.gives) in
      ap (value_of column.kind) (same_value (item_scope from') from'.texts bound column other.item.tree x y (subst (λ (item : Return). Gives (item_scope from') from'.texts column.kind item.tree x) same moved) other.gives)

  same_given : (columns : List Column) (xs ys : List Expr) → AllZip (StandsForColumn from items) columns xs → AllZip (StandsForColumn from' items) columns ys → given columns xs bound ≡ given columns ys bound
  same_given [] [] [] one other = refl
  same_given [] [] (y ∷ ys) one other = absurd other
  same_given [] (x ∷ xs) ys one other = absurd one
  same_given (column ∷ columns) [] ys one other = absurd one
  same_given (column ∷ columns) (x ∷ xs) [] one other = absurd other
  same_given (column ∷ columns) (x ∷ xs) (y ∷ ys) one other = λ i. same_column column x y one.0 other.0 i ∷ same_given columns xs ys one.1 other.1 i

module _ (first second : Query) where
  values : (text : List ℕ) (from into from' into' : Plan) (x y : List Expr) → IsPlanOf from first → IsPlanOf from' first → IsPlanOf into second → IsPlanOf into' second
      → IsReturnsFor text from into x → IsReturnsFor text from' into' y → (bound : BoundEvents) → given into.schema.columns x bound ≡ given into'.schema.columns y bound
  values text from into from' into' x y one other to also given_x given_y bound =
      let schema : into.schema ≡ into'.schema = same_schema second into into' to also in
      let items : given_x.items ≡ given_y.items = unique.one_list text given_x.items given_y.items given_x.are_items given_y.are_items in
      let stands : AllZip (StandsForColumn from given_y.items) into.schema.columns x = subst (λ (l : List Return). AllZip (StandsForColumn from l) into.schema.columns x) items given_x.are_returns.stand in
      let over : AllZip (StandsForColumn from' given_y.items) into.schema.columns y = subst (λ (s : Schema). AllZip (StandsForColumn from' given_y.items) s.columns y) (sym schema) given_y.are_returns.stand in
      same_given from from' (same_scope first from from' one other) (same_texts first from from' one other) given_y.items bound into.schema.columns x y stands over
      ∙ ap (λ (s : Schema). given s.columns y bound) schema

  -- ---- the same faults

  moved : (text : List ℕ) (from into from' into' : Plan) (code at : ℕ) → item_scope from ≡ item_scope from' → into.schema ≡ into'.schema → IsFaultyReturns text from into code at → IsFaultyReturns text from' into' code at
  moved text from into from' into' _ _ scopes schemas (no_items fault refuses told) = no_items fault refuses told
  moved text from into from' into' _ _ scopes schemas (no_returns items fault are refuses told) =
      no_returns items fault are (refused_too items from from' into.schema into'.schema scopes schemas fault refuses) told

  faults_too : (text : List ℕ) (from into from' into' : Plan) (code at : ℕ) → IsPlanOf from first → IsPlanOf from' first → IsPlanOf into second → IsPlanOf into' second
      → IsFaultyReturns text from into code at → IsFaultyReturns text from' into' code at
  faults_too text from into from' into' code at one other to also = moved text from into from' into' code at (same_scope first from from' one other) (same_schema second into into' to also)

pub alike : (first second : Query) → ReturnsAreAlike first second
alike first second = record { values = values first second; faults = faults_too first second }
