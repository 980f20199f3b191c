use Rattle.std.proofs.Common.{ℕ, ◌∷◌, ◌++◌, [], codes, arith, refl}
use Rattle.sp_lex.specs.declared.token.Kernel.TheVariants as k
use Rattle.sp_query.specs.declared.mark.Mark.TheVariants as m
use Rattle.sp_query.specs.Grammar as g
use Rattle.sp_query.specs.Same.{SameDefinition}
use Rattle.sp_syntax.specs.Printing.{Prints}
use Rattle.sp_syntax.proofs.Adding.{adds_behind}
use Rattle.sp_syntax.proofs.Spelled.{mark_spelled}
use Rattle.sp_syntax.proofs.Speaking.{prints_after}
use Rattle.sp_syntax.proofs.Lists.{deep_begin, deep_on, deep_whole}
use Rattle.sp_syntax.proofs.definitions.more_definitions.Goals as goal

pub loop-one-init : goal.loop-one-init
loop-one-init c = deep_begin (λ room. g.After m.Comma (g.Definition room)) SameDefinition _

pub loop-one-preserved : goal.loop-one-preserved
loop-one-preserved c = deep_on (λ room. g.After m.Comma (g.Definition room)) SameDefinition _ _ _ c.args.definitions.now c.loop-one.one-index c.one-item.result (omega arith) c.one-item.is c.loop-one.invariant
    (adds_behind _ _ _ (codes "," ++ 32 ∷ []) _ (λ x. (room : ℕ) → Prints (g.After m.Comma (g.Definition room)) SameDefinition _ x) c.in_ok-token.ensures c.in_ok-definition.ensures
    (λ y p room. prints_after m.Comma (g.Definition room) SameDefinition _ k.Comma (codes ",") y refl (mark_spelled k.Comma (codes ",") refl) (p room)))

pub returns : goal.returns
returns c = deep_whole (λ room. g.After m.Comma (g.Definition room)) SameDefinition _ _ c.args.definitions.now c.loop-one.one-index (omega arith) c.loop-one.invariant
