use Rattle.std.proofs.Common.{List, ℕ, subst, sym, rules}
use Rattle.std.proofs.lemmas.Str.{IsCharBoundary-end}
use Rattle.sp_lex.specs.Spelling.{HasNone}
use Rattle.sp_lex.specs.Reading.{Inside, Reads}
use Rattle.sp_lex.specs.declared.token.Kernel.TheVariants.{Literal}
use Rattle.sp_lex.proofs.Front as l
use Rattle.sp_lex.proofs.Longest.{open_none}
use Rattle.sp_lex.proofs.lexer.literal_at.Goals as goal

pub unreachable-requires : goal.unreachable-requires
unreachable-requires c =
    let p = c.requires.place in
    c.in_default.ensures.cases (l.behind_end _ _ _ p.1 c.requires.quote) (l.behind_boundary _ _ _ c.utf8.text p.1 c.requires.quote) (IsCharBoundary-end _)

pub returns-in-Some-2-clause-token : goal.returns-in-Some-2-clause-token
returns-in-Some-2-clause-token c =
    let i : Inside c.in-Some.inside.now c.in-Some-2.value c.in-Some-2.behind.now = search rules in
    subst (Reads c.args.here.now (Literal c.in-Some-2.value)) (sym c.as_bytes.ensures.value)
    (l.literal_reads _ _ _ _ (l.here_is _ _ _ _ c.requires.place.1 c.requires.quote c.in-Some.ensures.cases.0) i)

pub returns-in-None-clause-stops : goal.returns-in-None-clause-stops
returns-in-None-clause-stops c =
    let n : (value rest : List ℕ) → Inside c.in-Some.inside.now value rest → ⊥ = search rules in
    (c.requires.quote, subst HasNone (sym (l.here_is _ _ _ _ c.requires.place.1 c.requires.quote c.in-Some.ensures.cases.0)) (open_none c.in-Some.inside.now n))
