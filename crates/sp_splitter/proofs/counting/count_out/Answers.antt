use Rattle.std.proofs.Common.{◌≡◌, ℕ, List, cond, is_some, length, map, ap, sym, ◌∙◌, arith}
use Rattle.std.specs.List.{sum}
use Rattle.std.proofs.lemmas.List.{take_all, length-map, length-reverse}
use Rattle.sp_group.specs.Family.{entry_at}
use Rattle.sp_tree.specs.Grown.{Entry, kin}
use Rattle.sp_version.specs.declared.version.Version.{Version}
use Rattle.sp_core.proofs.HeldByIds.{by_ids, counted}
use Rattle.sp_splitter.proofs.Leasing.{out_total}
use Rattle.sp_splitter.proofs.counting.count_out.Goals as goal

pub overflow_add-out : goal.overflow_add-out
overflow_add-out c =
    let es = c.tree-tree.result.now.entries in
    let ids : length c.deref-id-items.result.now ≡ c.live.result =
    ap length (c.deref-id-items.ensures.value ∙ c.in_ok-ids.ensures) ∙ length-reverse (map (λ (e : Entry Version). e.version.id) es)
    ∙ length-map es (λ (e : Entry Version). e.version.id) ∙ sym c.live.ensures.live in
    let fits = c.live.type_inv in
    omega arith

pub returns : goal.returns
returns c =
    let count = λ (e : Entry Version). cond (is_some e.value.out) 1 0 in
    let es = c.tree-tree.result.now.entries in
    let ids = take_all c.loop-id.id-index c.deref-id-items.result.now (omega arith) ∙ c.deref-id-items.ensures.value ∙ c.in_ok-ids.ensures in
    c.loop-id.invariant.counts ∙ ap (λ (l : List ℕ). sum (map (λ id. counted count (entry_at kin es id)) l)) ids
    ∙ by_ids count c.tree-tree.result.now.next es c.live.ensures.grown.fall ∙ out_total c.args.core.now c.tree-tree.result.now c.known_of.ensures c.tree-tree.ensures
