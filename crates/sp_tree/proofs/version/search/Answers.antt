use Rattle.std.proofs.Common.{◌≢◌, ◌<◌, length, get_or, subst, rules, arith}
use Rattle.std.specs.Prelude.{nat_lt}
use Rattle.std.proofs.lemmas.List.{get_or_default}
use Rattle.std.proofs.lemmas.List.Sorted.{IsPartitionPoint-from_clause}
use Rattle.sp_tree.specs.declared.version.Version.{Version as Branch}
use Rattle.sp_tree.proofs.Searched.{parted, not_there}
use Rattle.sp_tree.proofs.version.search.Goals as goal
use Rattle.sp_tree.proofs.version.search.Goals.{else-index-versions-via-then-index-versions+else-versions-index, else-index-versions-via-else-index-versions}

pub returns-else-index-versions-clause-none : goal.returns-else-index-versions-clause-none
returns-else-index-versions-clause-none c = λ _.
    let vs = c.args.versions.now in
    let id = c.args.id in
    let at = c.partition_point-index.result in
    let point = IsPartitionPoint-from_clause (λ (v : Branch). nat_lt id v.id) _ _ c.partition_point-index.ensures.partitioned (parted vs id c.requires) (λ a r q k. search rules) in
    let apart : at < length vs → (d : Branch) → (get_or vs at d).id ≢ id = elim c.else-index-versions.branch [
      | else-index-versions-via-then-index-versions+else-versions-index w ↦ λ within d.
          subst (λ (z : Branch). z.id ≢ id) (get_or_default vs at _ d within) w.if-versions-index.false
      | else-index-versions-via-else-index-versions w ↦ λ within. absurd (omega arith)
    ] in
    not_there vs id at c.requires point apart
