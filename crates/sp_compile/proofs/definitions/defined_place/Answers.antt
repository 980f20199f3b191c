use Rattle.std.proofs.Common.{List, ℕ, map, ◌∙◌}
use Rattle.sp_query.specs.declared.query.Ident.{Ident}
use Rattle.sp_query.specs.declared.tree.Tree.{Tree}
use Rattle.sp_compile.proofs.Taken.{among_names}
use Rattle.sp_compile.proofs.definitions.defined_place.Goals as goal

-- the text of a definition's name
abbrev text_of : Ident × Tree → List ℕ
text_of define = define.0.text

pub returns : goal.returns
returns c =
    let before = c.args.before.now in
    c.given_place.ensures (map text_of before) (c.is_defined.ensures ∙ among_names text_of before c.args.name.now.text)
