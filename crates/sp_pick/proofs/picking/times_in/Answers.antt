use Rattle.std.proofs.Common.{rules, ℕ, nat_le, nat_lt}
use Rattle.std.proofs.lemmas.List.Sorted.{IsNonDecreasingBy-from_sort, IsPartitionedBy-leb, IsPartitionedBy-ltb, IsPartitionPoint-from_clause}
use Rattle.sp_pick.proofs.Counting.{between}
use Rattle.sp_pick.proofs.picking.times_in.Goals as goal

pub overflow_sub-result : goal.overflow_sub-result
overflow_sub-result c =
    let order = IsNonDecreasingBy-from_sort (λ (x : ℕ). x) c.args.ids.now c.requires in
    (between c.args.ids.now c.args.id c.partition_point-2.result c.partition_point.result c.partition_point-2.ensures.bound
    c.partition_point.ensures.bound
    (IsPartitionPoint-from_clause (λ x. nat_le x c.args.id) c.args.ids.now c.partition_point.result c.partition_point.ensures.partitioned
    (IsPartitionedBy-leb (λ (x : ℕ). x) c.args.ids.now c.args.id order) (λ a r q h. search rules))
    (IsPartitionPoint-from_clause (λ x. nat_lt x c.args.id) c.args.ids.now c.partition_point-2.result c.partition_point-2.ensures.partitioned
    (IsPartitionedBy-ltb (λ (x : ℕ). x) c.args.ids.now c.args.id order) (λ a r q h. search rules))).below

pub returns : goal.returns
returns c =
    let order = IsNonDecreasingBy-from_sort (λ (x : ℕ). x) c.args.ids.now c.requires in
    (between c.args.ids.now c.args.id c.partition_point-2.result c.partition_point.result c.partition_point-2.ensures.bound
    c.partition_point.ensures.bound
    (IsPartitionPoint-from_clause (λ x. nat_le x c.args.id) c.args.ids.now c.partition_point.result c.partition_point.ensures.partitioned
    (IsPartitionedBy-leb (λ (x : ℕ). x) c.args.ids.now c.args.id order) (λ a r q h. search rules))
    (IsPartitionPoint-from_clause (λ x. nat_lt x c.args.id) c.args.ids.now c.partition_point-2.result c.partition_point-2.ensures.partitioned
    (IsPartitionedBy-ltb (λ (x : ℕ). x) c.args.ids.now c.args.id order) (λ a r q h. search rules))).many
