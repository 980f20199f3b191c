use Rattle.std.proofs.Common.{◌-◌, drop, length, subst, sym}
use Rattle.std.specs.List.{All}
use Rattle.std.proofs.lemmas.List.Elements.{All-drop, All-take}
use Rattle.sp_scan.specs.inside.Ahead.{IsNamed}
use Rattle.sp_scan.proofs.NamedElements.{elements_named}
use Rattle.sp_scan.proofs.ahead.counting.Goals as goal

pub leading-guards-requires : goal.leading-guards-requires
leading-guards-requires c =
    let elements = c.as_slice.result.now in
    let behind = c.args.behind in
    All-take IsNamed (length elements - behind) (drop behind elements) (All-drop IsNamed behind elements (subst (All IsNamed) (sym c.as_slice.ensures) (elements_named c.args.plan.now c.requires.compiled)))
