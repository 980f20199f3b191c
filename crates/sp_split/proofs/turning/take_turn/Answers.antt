use Rattle.std.proofs.Common.{◌≡◌, Some, sym, subst, ◌∙◌}
use Rattle.sp_group.specs.Machine.{Version, root_in}
use Rattle.sp_core.specs.Running.{Running}
use Rattle.sp_split.proofs.Finished.{tree_root, finished}
use Rattle.sp_split.proofs.turning.take_turn.Goals as goal

pub read_on-requires-clause-root : goal.read_on-requires-clause-root
read_on-requires-clause-root g c =
    let old = c.args.core.now in
    subst (λ (r : Running). (x : Version) × (root_in r.machine.versions ≡ Some x) × (x.id ≡ c.in-Some.root)) (sym c.in-Err.ensures.err)
    (tree_root old c.tree.result.now c.in-Some.root c.tree.ensures (sym c.root.ensures.root ∙ c.in-Some.is))

pub returns-in-Ok-clause-turned : goal.returns-in-Ok-clause-turned
returns-in-Ok-clause-turned g c = finished c.args.core.now c.finish.new.self c.in-Ok.emitted c.in-Ok.ensures.done c.in-Ok.ensures.emitted c.requires.none_out
