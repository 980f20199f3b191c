use Rattle.std.proofs.Common.{◌≡◌, ◌<◌, ◌≤◌, Bool, true, false, length, get_or, Some, rules, sym, ◌∙◌, ap, subst, arith, zero-add}
use Rattle.std.specs.Prelude.{slice_get}
use Rattle.std.specs.Str.{bytes_eq}
use Rattle.std.proofs.lemmas.List.Quantifiers.{position-Some}
use Rattle.std.proofs.lemmas.Option.{slice_get-get_or}
use Rattle.sp_base.specs.Numbers.{is_among}
use Rattle.sp_lex.specs.declared.token.Word.TheVariants as w
use Rattle.sp_plan.specs.declared.plan.Expr.{Earlier}
use Rattle.sp_query.specs.declared.query.QueryColumn.{QueryColumn}
use Rattle.sp_compile.specs.Answers.{bound_names}
use Rattle.sp_compile.specs.Scopes.{Scope, column_place, name_place, binding_from, PatternName}
use Rattle.sp_compile.specs.Sorts.{column_sort, earlier_sort}
use Rattle.sp_compile.specs.Parts.{Anyway, Made, Reads, earlier_datum}
use Rattle.sp_compile.proofs.EarlierNames.{among_first, binding_there}
use Rattle.sp_compile.proofs.Sorted.{earlier_sorted, earlier_verdict, earlier_comes, earlier_sound}
use Rattle.sp_compile.proofs.leaf.earlier.Goals as goal

pub returns : goal.returns
returns c =
    let scope = c.args.scope.now in
    let number = c.in-Some-Some.number in
    let place = c.in-Some-Some.place in
    let name = c.index-scope-number.result in
    let column = c.index-columns-place.result in
    let placed : column_place scope.columns c.args.text.now ≡ Some place = search rules in
    let named : name_place scope.names c.args.name.now ≡ Some number = search rules in
    let column_inside : place < length scope.columns = (position-Some (λ (other : QueryColumn). bytes_eq other.name.text c.args.text.now) scope.columns place column placed).0 in
    let name_inside : number < length scope.names = (position-Some (λ (other : PatternName). bytes_eq other.name.text c.args.name.now) scope.names number name named).0 in
    let column_is : column ≡ get_or scope.columns place column = c.index-columns-place.is ∙ ap (λ (s : Scope). get_or s.columns place column) c.scope.view_is in
    let there : slice_get scope.columns place ≡ Some column = slice_get-get_or scope.columns place column column_inside ∙ ap (λ (l : QueryColumn). Some l) (sym column_is) in
    let name_is : name ≡ get_or scope.names number name = c.index-scope-number.is ∙ ap (λ (s : Scope). get_or s.names number name) c.scope.view_is in
    let here_is : scope.here ≡ Some c.in-Some.here = sym (ap (λ (s : Scope). s.here) c.scope.view_is) ∙ c.in-Some.is in
    let element : name.element < c.in-Some.here = search (rules, c.named.view_is) in
    let less : (get_or scope.names number name).element < c.in-Some.here = subst (λ (n : PatternName). n.element < c.in-Some.here) name_is element in
    let bound : number < bound_names scope.names (Some c.in-Some.here) = among_first c.in-Some.here scope.names number name c.requires.ordered name_inside less in
    let before : number < bound_names scope.names scope.here = subst (λ o. number < bound_names scope.names o) (sym here_is) bound in
    let bare : name.negated ≡ false = search (rules, c.named.view_is) in
    let binds : is_among (binding_from 0 scope.names) number ≡ true =
    ap (is_among (binding_from 0 scope.names)) (sym (zero-add number)) ∙ binding_there scope.names 0 number name name_inside (ap (λ (n : PatternName). n.negated) (sym name_is) ∙ bare) in
    let found : slice_get scope.names number ≡ Some name = slice_get-get_or scope.names number name name_inside ∙ ap (λ (n : PatternName). Some n) (sym name_is) in
    let few : column.kind ≡ w.Dec → column.digits ≤ 6 = subst (λ (l : QueryColumn). l.kind ≡ w.Dec → l.digits ≤ 6) (sym column_is) (c.requires.digits place column column_inside) in
    let known : Made (earlier_sort scope c.args.span c.args.name.now c.args.text.now) (earlier_datum scope c.args.name.now c.args.text.now) (Reads scope) Anyway (Earlier number place, column_sort column) = record {
      sort = earlier_verdict scope c.args.name.now c.args.text.now c.in-Some.here number place name column here_is named placed there c.args.span found bare element;
      sound = earlier_sound number place column few;
      comes = earlier_comes scope c.args.name.now c.args.text.now c.in-Some.here number place name column here_is named placed there;
      sorted = λ r reads. earlier_sorted scope r reads place column there number before binds;
      reads = λ any. tt;
    } in
    subst (λ sort. Made (earlier_sort scope c.args.span c.args.name.now c.args.text.now) (earlier_datum scope c.args.name.now c.args.text.now) (Reads scope) Anyway (Earlier number place, sort)) (sym c.column_sort.ensures) known
