use Rattle.std.proofs.Common.{◌≡◌, Bool, true, false, List, ℕ, map, Some, None, ap, sym, ◌∙◌, rules}
use Rattle.std.specs.Prelude.{Option, if◌then◌else◌}
use Rattle.sp_query.specs.declared.query.Ident.{Ident}
use Rattle.sp_query.specs.declared.query.Query.{Query}
use Rattle.sp_compile.specs.declared.fault.CompileFault.{CompileFault}
use Rattle.sp_compile.specs.declared.fault.CompileFault.TheVariants as f
use Rattle.sp_compile.specs.Checks.{is_among, used_fault, consumed_fault}
use Rattle.sp_compile.specs.Scopes.{PatternName, name_place, pattern_names}
use Rattle.sp_compile.specs.Sorts.{name_there}
use Rattle.sp_compile.proofs.Naming.{found_there}
use Rattle.sp_compile.proofs.Taken.{among_names_first}
use Rattle.sp_compile.proofs.consume.consumed_fault.Goals as goal

-- a name's text
abbrev text_of : Ident → List ℕ
text_of name = name.text

-- the fault of a name that is there and isn't negated
there_fault : (query : Query) (names : List PatternName) (before : List (List ℕ)) (name : Ident) (there : PatternName) (given : Bool) → names ≡ pattern_names query → name_there names (name_place names name.text) ≡ Some there → there.negated ≡ false
    → is_among before name.text ≡ given → consumed_fault query before name ≡ (if given then Some (f.Twice name.span) else None)
there_fault query names before name there given named is bare among =
    let twice : Option CompileFault = if is_among before name.text then Some (f.Twice name.span) else None in
    ap (λ l. used_fault before name (name_there l (name_place l name.text))) (sym named)
    ∙ ap (used_fault before name) is
    ∙ ap (λ (b : Bool). if b then Some (f.NeverBound name.span) else twice) bare
    ∙ ap (λ (b : Bool). if b then Some (f.Twice name.span) else None) among

pub returns-then-is_among : goal.returns-then-is_among
returns-then-is_among c = λ query named.
    let names = c.args.names.now in
    let name = c.args.name.now in
    let one = c.index-names-place.result in
    let placed : name_place names name.text ≡ Some c.in-Some.place = search rules in
    let bare : one.negated ≡ false = ap (λ (n : PatternName). n.negated) (sym c.named.view_is) ∙ c.if-named.false in
    let among : is_among (map text_of c.args.before.now) name.text ≡ true = sym (among_names_first text_of c.args.before.now name.text) ∙ sym c.is_among.ensures ∙ c.if-is_among.true in
    sym (there_fault query names (map text_of c.args.before.now) name one true named (found_there names name.text c.in-Some.place one placed c.index-names-place.is) bare among)

pub returns : goal.returns
returns c = λ query named.
    let names = c.args.names.now in
    let name = c.args.name.now in
    let one = c.index-names-place.result in
    let placed : name_place names name.text ≡ Some c.in-Some.place = search rules in
    let bare : one.negated ≡ false = ap (λ (n : PatternName). n.negated) (sym c.named.view_is) ∙ c.if-named.false in
    let among : is_among (map text_of c.args.before.now) name.text ≡ false = sym (among_names_first text_of c.args.before.now name.text) ∙ sym c.is_among.ensures ∙ c.if-is_among.false in
    sym (there_fault query names (map text_of c.args.before.now) name one false named (found_there names name.text c.in-Some.place one placed c.index-names-place.is) bare among)
