use Rattle.std.proofs.Common.{◌≡◌, ◌<◌, ◌≤◌, ◌++◌, map, length, take, drop, get_or, set, sym, ap, subst, ◌∙◌, arith}
use Rattle.std.specs.List.{All}
use Rattle.std.proofs.lemmas.List.{append-nil, drop_all, get_or-map, length-map, map-set, take-map, take_all, take_at}
use Rattle.std.proofs.lemmas.List.Edits.{map_over_more}
use Rattle.std.proofs.lemmas.List.Elements.{All-get_or}
use Rattle.sp_match.specs.inside.Kept.{CanUndo, before, kept}
use Rattle.sp_match.proofs.RunsAfterUse.{over_at}
use Rattle.sp_match.proofs.settling.undo.Goals as goal

pub undo-requires : goal.undo-requires
undo-requires c =
    let items = c.loop-run.run-items in
    let i = c.loop-run.run-index in
    let r = c.run-item.result in
    let k = kept (get_or items i r) in
    let rs = c.deref_mut-run-items.result.now in
    let ks = map kept rs in
    let within : i < length rs = c.loop-run-test.true in
    let inside : i < length items = omega (arith, within, c.loop-run.auto.run-items) in
    let deep : i < length ks = omega (arith, within, length-map rs kept) in
    let at : k ≡ get_or (map kept items) i k = sym (get_or-map kept items i r k inside) in
    let was : k ≡ get_or ks i k = over_at (before c.args.number) ks (map kept items) i k deep c.loop-run.invariant at in
    let front : ks ≡ take c.args.count (map kept c.args.runs.now.items) = ap (map kept) (c.deref_mut-run-items.ensures.value ∙ c.truncate.ensures.items) ∙ sym (take-map kept c.args.count c.args.runs.now.items) in
    subst CanUndo (sym was) (All-get_or CanUndo ks i k deep (subst (All CanUndo) (sym front) c.requires))

pub loop-run-preserved : goal.loop-run-preserved
loop-run-preserved c =
    let items = c.loop-run.run-items in
    let i = c.loop-run.run-index in
    let r = c.run-item.result in
    let k = kept (get_or items i r) in
    let rs = c.deref_mut-run-items.result.now in
    let within : i < length rs = c.loop-run-test.true in
    let inside : i < length items = omega (arith, within, c.loop-run.auto.run-items) in
    let at : k ≡ get_or (map kept items) i k = sym (get_or-map kept items i r k inside) in
    map-set kept items i c.undo.new.self ∙ ap (set (map kept items) i) c.undo.ensures
    ∙ map_over_more (before c.args.number) (map kept rs) (map kept items) i k (omega (arith, within, length-map rs kept)) c.loop-run.invariant at

pub returns : goal.returns
returns c =
    let items = c.loop-run.run-items in
    let i = c.loop-run.run-index in
    let rs = c.deref_mut-run-items.result.now in
    let ks = map kept rs in
    let done : length ks ≤ i = omega (arith, c.loop-run-test.false, length-map rs kept) in
    let front : ks ≡ take c.args.count (map kept c.args.runs.now.items) = ap (map kept) (c.deref_mut-run-items.ensures.value ∙ c.truncate.ensures.items) ∙ sym (take-map kept c.args.count c.args.runs.now.items) in
    ap (map kept) (take_at items (drop (length items) c.truncate.new.self.items) c.truncate.new.self.len (c.loop-run.auto.run-items ∙ c.deref_mut-run-items.ensures.len))
    ∙ c.loop-run.invariant ∙ (λ j. map (before c.args.number) (take_all i ks done j) ++ drop_all i ks done j) ∙ append-nil (map (before c.args.number) ks) ∙ ap (map (before c.args.number)) front
