use Rattle.std.proofs.Common.{◌≡◌, [], map, vec_len}
use Rattle.sp_plan.specs.declared.pairs.Pair.{Pair}
use Rattle.sp_plan.proofs.Released.{SoFar}
use Rattle.sp_plan.proofs.pairs.Pairs.release.Given as goal

abbrev pub invariant-loop-pair : goal.invariant-loop-pair
invariant-loop-pair l = record {
  pages : l.self-inside.pages.items ≡ [];
  paged : l.self-inside.paged ≡ 0;
  so_far : SoFar (map (λ (p : Pair). p.event) l.initial.self-inside.tail.items) (map (λ (p : Pair). p.event) l.self-inside.tail.items) l.initial.handles.items l.handles.items;
}

abbrev pub decreases-loop-pair : goal.decreases-loop-pair
decreases-loop-pair l = vec_len l.self-inside.tail
