use Rattle.std.proofs.Common.{arith, ◌≡◌, ℕ, ◌+◌, ◌<◌, ◌≤◌, List, Option, ap, ◌∙◌, get_or, set, length, length-set, unwrap_or, inl, inr}
use Rattle.std.proofs.lemmas.Bool.{cases_eq}
use Rattle.std.proofs.lemmas.Grind.{common_steps}
use Rattle.sp_pick.specs.Paths.{climbed}
use Rattle.sp_pick.proofs.Climbing.{climb_step}
use Rattle.sp_pick.proofs.surviving.path_up.Goals as goal

written : (items : List ℕ) (i v : ℕ) (f : ℕ → ℕ) → i < length items → ((k : ℕ) → k < i → get_or items k 0 ≡ f k) → v ≡ f i → (k : ℕ) → k < i + 1 → get_or (set items i v) k 0 ≡ f k
written items i v f within before is k low = elim (cases_eq k i) [ inl same ↦ grind (arith, common_steps, is, same) | inr other ↦ let h = before k (omega arith) in grind (arith, common_steps, h) ]

pub loop-place-preserved : goal.loop-place-preserved
loop-place-preserved g c = (
  climb_step c.args.tree.now.entries c.loop-place.at c.loop-place.place c.args.id c.unwrap_or-at.result c.loop-place.invariant.0
      (c.unwrap_or-at.ensures ∙ ap (λ (o : Option ℕ). unwrap_or o c.loop-place.at) c.parent.ensures),
  length-set c.loop-place.path c.loop-place.place _ ∙ c.loop-place.invariant.1,
  written c.loop-place.path c.loop-place.place _ (λ k. climbed c.args.tree.now.entries k c.args.id) (within (length c.loop-place.path) c.loop-place.place c.args.count c.loop-place.invariant.1 c.requires c.loop-place-test.true) c.loop-place.invariant.2 c.loop-place.invariant.0,
)
  where
    within : (long i count : ℕ) → long ≡ 64 → count ≤ 64 → i < count → i < long
    within long i count is most low = omega arith
