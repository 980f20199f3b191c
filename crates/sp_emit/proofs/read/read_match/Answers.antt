use Rattle.std.proofs.Common.{ap, subst, Some, sym, ℕ, List, arith}
use Rattle.std.proofs.lemmas.Grind.{common_steps}
use Rattle.std.proofs.lemmas.Option.{MatchOption-at_none, MatchOption-at_some}
use Rattle.sp_plan.specs.declared.found.Match.{Match}
use Rattle.sp_emit.specs.Reading.{BindingsAt}
use Rattle.sp_emit.proofs.Answering.{at_some, at_none}
use Rattle.sp_emit.proofs.Lines as l
use Rattle.sp_emit.proofs.read.read_match.Goals as goal

pub returns-in_default-labelled_at-clause-line : goal.returns-in_default-labelled_at-clause-line
returns-in_default-labelled_at-clause-line c = λ m is. l.no_number _ _ m is _ _ c.in-Some.ensures c.in_default-labelled_at.ensures

pub returns-in_default-labelled_at-clause-only : goal.returns-in_default-labelled_at-clause-only
returns-in_default-labelled_at-clause-only c = λ m is. absurd (l.no_number _ _ m is _ _ c.in-Some.ensures c.in_default-labelled_at.ensures)

pub returns-in_default-2-clause-line : goal.returns-in_default-2-clause-line
returns-in_default-2-clause-line c = λ m is.
    l.no_bound _ _ m is _ _ c.in-Some.ensures _ _ c.in-Some-labelled_at.ensures (at_none _ _ _ c.in_default-2.is c.in_ok-bound.ensures)

pub returns-in_default-2-clause-only : goal.returns-in_default-2-clause-only
returns-in_default-2-clause-only c = λ m is.
    absurd (l.no_bound _ _ m is _ _ c.in-Some.ensures _ _ c.in-Some-labelled_at.ensures (at_none _ _ _ c.in_default-2.is c.in_ok-bound.ensures))

pub returns-in_default-3-clause-line : goal.returns-in_default-3-clause-line
returns-in_default-3-clause-line c = λ m is.
    l.no_used _ _ m is _ _ c.in-Some.ensures _ _ c.in-Some-labelled_at.ensures _ _ (at_some _ _ _ _ c.in-Some-2.is c.in_ok-bound.ensures)
    (MatchOption-at_none _ _ c.in_default-3.is c.in_ok-used.ensures)

pub returns-in_default-3-clause-only : goal.returns-in_default-3-clause-only
returns-in_default-3-clause-only c = λ m is.
    absurd (l.no_used _ _ m is _ _ c.in-Some.ensures _ _ c.in-Some-labelled_at.ensures _ _ (at_some _ _ _ _ c.in-Some-2.is c.in_ok-bound.ensures)
    (MatchOption-at_none _ _ c.in_default-3.is c.in_ok-used.ensures))

bound : (c : goal.After-of) → BindingsAt c.args.plan.now c.in-Some-labelled_at.rest.now c.of.result c.in-Some-2.rest.now
bound c = subst (λ (b : List (ℕ × List ℕ)). BindingsAt c.args.plan.now c.in-Some-labelled_at.rest.now b c.in-Some-2.rest.now) (sym c.of.ensures) (at_some _ _ _ _ c.in-Some-2.is c.in_ok-bound.ensures)

pub returns-clause-line : goal.returns-clause-line
returns-clause-line c =
    l.line_read _ _ _ _ _ _ c.in-Some.ensures c.in-Some-labelled_at.ensures (bound c) (MatchOption-at_some _ _ _ c.in-Some-3.is c.in_ok-used.ensures)

pub returns-clause-only : goal.returns-clause-only
returns-clause-only c = λ m is.
    ap (λ (n : Match). Some n) (l.same_match _ _ m is _ _ c.in-Some.ensures _ _ c.in-Some-labelled_at.ensures _ _ (bound c)
    _ (MatchOption-at_some _ _ _ c.in-Some-3.is c.in_ok-used.ensures))

pub returns-in_default-clause-line : goal.returns-in_default-clause-line
returns-in_default-clause-line c = grind (arith, common_steps)

pub returns-in_default-clause-only : goal.returns-in_default-clause-only
returns-in_default-clause-only c = grind (arith, common_steps)
