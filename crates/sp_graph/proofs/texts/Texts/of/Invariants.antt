use Rattle.std.proofs.Common.{◌≡◌, [], take, fold}
use Rattle.sp_plan.specs.Texts.{with_text}
use Rattle.sp_graph.proofs.texts.Texts.of.Given as goal

abbrev pub invariant-loop-text : goal.invariant-loop-text
invariant-loop-text l = l.own ≡ fold with_text [] (take l.text-index l.texts)
