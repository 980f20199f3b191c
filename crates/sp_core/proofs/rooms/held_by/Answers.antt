use Rattle.std.proofs.Common.{ℕ, List, length, map, ap, ◌∙◌, arith}
use Rattle.std.specs.List.{sum}
use Rattle.std.proofs.lemmas.List.{take_all}
use Rattle.sp_group.specs.Family.{entry_at}
use Rattle.sp_tree.specs.Grown.{Entry, kin}
use Rattle.sp_version.specs.declared.version.Version.{Version}
use Rattle.sp_core.proofs.HeldByIds.{by_ids, counted}
use Rattle.sp_core.proofs.rooms.held_by.Goals as goal

pub returns-clause-matches : goal.returns-clause-matches
returns-clause-matches c =
    let count = λ (e : Entry Version). length e.value.copies.items in
    let es = c.args.tree.now.entries in
    let ids = take_all c.loop-id.id-index c.deref-id-items.result.now (omega arith) ∙ c.deref-id-items.ensures.value ∙ c.in_ok-ids.ensures in
    c.loop-id.invariant.matches ∙ ap (λ (l : List ℕ). sum (map (λ id. counted count (entry_at kin es id)) l)) ids ∙ by_ids count c.args.tree.now.next es c.live.ensures.grown.fall

pub returns-clause-numbers : goal.returns-clause-numbers
returns-clause-numbers c =
    let count = λ (e : Entry Version). length e.value.used.list in
    let es = c.args.tree.now.entries in
    let ids = take_all c.loop-id.id-index c.deref-id-items.result.now (omega arith) ∙ c.deref-id-items.ensures.value ∙ c.in_ok-ids.ensures in
    c.loop-id.invariant.numbers ∙ ap (λ (l : List ℕ). sum (map (λ id. counted count (entry_at kin es id)) l)) ids ∙ by_ids count c.args.tree.now.next es c.live.ensures.grown.fall
