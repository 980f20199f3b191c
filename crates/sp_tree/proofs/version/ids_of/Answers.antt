use Rattle.std.proofs.Common.{map, reverse, sym, ap, ◌∙◌, arith}
use Rattle.std.proofs.lemmas.List.{take_all}
use Rattle.sp_tree.specs.declared.version.Version.{Version as Branch}
use Rattle.sp_tree.proofs.Renewed.{map_reversed}
use Rattle.sp_tree.proofs.version.ids_of.Goals as goal

pub returns : goal.returns
returns c =
    let vs = c.args.versions.now in
    let all = take_all c.loop-version.version-index vs (omega arith) in
    c.reverse.ensures.items ∙ ap reverse (c.loop-version.invariant.items ∙ ap (map (λ (v : Branch). v.id)) all) ∙ sym (map_reversed vs)
