use Rattle.std.proofs.Common.{◌∷◌, ◌++◌, [], codes, arith, sym, ap, ◌∙◌, refl, Some}
use Rattle.sp_lex.specs.declared.token.Kernel.TheVariants as k
use Rattle.sp_lex.specs.declared.token.Word.TheVariants as w
use Rattle.sp_syntax.proofs.Adding.{on_ok, adds_map, adds_nothing, adds_behind, adds_between, adds_infix}
use Rattle.sp_syntax.proofs.Spelled.{mark_spelled, word_spelled}
use Rattle.sp_syntax.proofs.Ranks.{PrintsRoot, prints_bare, prints_bracketed, loose_prints, firm_prints, sign_prints, loose_bad, firm_bad, sign_bad}
use Rattle.sp_syntax.proofs.Families.{predicates, test_prints}
use Rattle.sp_syntax.proofs.predicate.+predicates.Goals as goal

pub predicate-returns-then-rank-least : goal.predicate-returns-then-rank-least
predicate-returns-then-rank-least t c =
    on_ok _ _ _ (adds_map _ _ (PrintsRoot predicates c.args.tree.now) _ (λ x f. prints_bare predicates c.args.least c.args.tree.now x c.requires (omega (arith, c.rank.ensures)) f)) c.predicate_root.ensures

pub predicate-returns : goal.predicate-returns
predicate-returns t c =
    on_ok _ _ _ (λ e. adds_between _ _ _ _ (codes "[" ++ 32 ∷ []) (codes "]" ++ 32 ∷ []) (PrintsRoot predicates c.args.tree.now) _ c.in_ok-token.ensures c.in_ok-predicate_root.ensures e
    (λ y f. prints_bracketed predicates c.args.least c.args.tree.now y (codes "[") (codes "]") k.LeftSquare k.RightSquare c.requires (omega (arith, c.rank.ensures)) refl (mark_spelled k.LeftSquare (codes "[") refl) refl (mark_spelled k.RightSquare (codes "]") refl) f)) c.token-2.ensures

pub predicate_root-returns-in_default-two : goal.predicate_root-returns-in_default-two
predicate_root-returns-in_default-two t c = adds_nothing _ (PrintsRoot predicates c.args.tree.now) (loose_bad predicates c.args.tree.now (k.Word w.Or) (ap (λ o. Some o) (sym c.in-Or.is)) (λ a b e. c.in_default-two.ensures a b (c.as_slice.ensures ∙ e)))

pub predicate_root-returns-in_default-two-2 : goal.predicate_root-returns-in_default-two-2
predicate_root-returns-in_default-two-2 t c = adds_nothing _ (PrintsRoot predicates c.args.tree.now) (firm_bad predicates c.args.tree.now (k.Word w.And) (ap (λ o. Some o) (sym c.in-And.is)) (λ a b e. c.in_default-two-2.ensures a b (c.as_slice-in-And.ensures ∙ e)))

pub predicate_root-returns-in_ok-token-in-Or : goal.predicate_root-returns-in_ok-token-in-Or
predicate_root-returns-in_ok-token-in-Or t c =
    on_ok _ _ _ (λ g. adds_infix _ _ _ _ (codes "OR" ++ 32 ∷ []) _ _ (PrintsRoot predicates c.args.tree.now) c.in_ok-predicate-in-Or.ensures c.in_ok-token-in-Or.ensures g
    (λ y z p q. loose_prints predicates c.args.tree.now _ _ (k.Word w.Or) (codes "OR") y z (sym c.as_slice.ensures ∙ c.in-Some.ensures) (word_spelled w.Or) (ap (λ o. Some o) (sym c.in-Or.is)) p q)) c.predicate-in-Or.ensures

pub predicate_root-returns-in_ok-token-in-And : goal.predicate_root-returns-in_ok-token-in-And
predicate_root-returns-in_ok-token-in-And t c =
    on_ok _ _ _ (λ g. adds_infix _ _ _ _ (codes "AND" ++ 32 ∷ []) _ _ (PrintsRoot predicates c.args.tree.now) c.in_ok-predicate-in-And.ensures c.in_ok-token-in-And.ensures g
    (λ y z p q. firm_prints predicates c.args.tree.now _ _ (k.Word w.And) (codes "AND") y z (sym c.as_slice-in-And.ensures ∙ c.in-Some-two.ensures) (word_spelled w.And) (ap (λ o. Some o) (sym c.in-And.is)) p q)) c.predicate-in-And-2.ensures

pub predicate_root-returns-in_default-one : goal.predicate_root-returns-in_default-one
predicate_root-returns-in_default-one t c = adds_nothing _ (PrintsRoot predicates c.args.tree.now) (sign_bad predicates c.args.tree.now c.in-Not.is (λ a e. c.in_default-one.ensures a (c.as_slice-in-Not.ensures ∙ e)))

pub predicate_root-returns-in_ok-token-in-Not : goal.predicate_root-returns-in_ok-token-in-Not
predicate_root-returns-in_ok-token-in-Not t c =
    on_ok _ _ _ (λ g. adds_behind _ _ _ (codes "NOT" ++ 32 ∷ []) _ (PrintsRoot predicates c.args.tree.now) c.in_ok-token-in-Not.ensures g
    (λ y p. sign_prints predicates c.args.tree.now _ (k.Word w.Not) (codes "NOT") y (sym c.as_slice-in-Not.ensures ∙ c.in-Some-one.ensures) (word_spelled w.Not) refl c.in-Not.is p)) c.predicate-in-Not.ensures

pub predicate_root-returns-in_default : goal.predicate_root-returns-in_default
predicate_root-returns-in_default t c = on_ok _ _ _ (adds_map _ _ _ (PrintsRoot predicates c.args.tree.now) (λ x f. test_prints c.args.tree.now x c.in_default.not-And c.in_default.not-Or c.in_default.not-Not f)) c.test.ensures
