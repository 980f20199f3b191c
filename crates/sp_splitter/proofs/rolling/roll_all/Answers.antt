use Rattle.std.proofs.Common.{ℕ, List, subst, sym}
use Rattle.std.specs.Prelude.{IsSorted}
use Rattle.sp_core.specs.Running.{Running}
use Rattle.sp_spread.specs.Calm.{AreCalm}
use Rattle.sp_splitter.specs.Rolling.{AreListed, Rolls, place_cmp}
use Rattle.sp_splitter.specs.Stages.{Goes, NoneEmitted, NoneRead, Went}
use Rattle.sp_splitter.proofs.ToRoll.{listed_permuted}
use Rattle.sp_splitter.proofs.rolling.roll_all.Goals as goal

pub roll_listed-requires-clause-listed : goal.roll_listed-requires-clause-listed
roll_listed-requires-clause-listed g c =
    let core = c.args.core.now in
    subst (λ (l : List (ℕ × ℕ)). AreListed core.plan core.machine l) (sym c.deref.ensures.value)
    (listed_permuted core.plan core.machine c.in_ok-found.found.items c.sort_unstable.new.self.items c.sort_unstable.ensures.permutation
    (subst (λ (z : Running). AreListed z.plan z.machine c.in_ok-found.found.items) c.core.ensures c.in_ok-found.ensures))

pub roll_listed-requires-clause-sorted : goal.roll_listed-requires-clause-sorted
roll_listed-requires-clause-sorted g c = subst (λ (l : List (ℕ × ℕ)). IsSorted place_cmp l) (sym c.deref.ensures.value) c.sort_unstable.ensures.sorted

-- what is noted changes nothing
pub returns-clause-went : goal.returns-clause-went
returns-clause-went g c = λ n batch. subst (λ (x : Running). Went n batch c.args.core.now x) (sym c.note_calm.ensures) (c.roll_listed.ensures.quiet.went n batch)

pub returns-clause-goes : goal.returns-clause-goes
returns-clause-goes g c = λ n. subst (λ (x : Running). Goes n c.args.core.now x) (sym c.note_calm.ensures) (c.roll_listed.ensures.quiet.goes n)

pub returns-clause-emitted : goal.returns-clause-emitted
returns-clause-emitted g c = subst (λ (x : Running). NoneEmitted c.args.core.now x) (sym c.note_calm.ensures) c.roll_listed.ensures.quiet.emitted

pub returns-clause-read : goal.returns-clause-read
returns-clause-read g c = subst (λ (x : Running). NoneRead c.args.core.now x) (sym c.note_calm.ensures) c.roll_listed.ensures.quiet.read

pub returns-clause-calm : goal.returns-clause-calm
returns-clause-calm g c = subst (λ (x : Running). AreCalm x.plan x.machine) (sym c.note_calm.ensures) c.roll_listed.ensures.calm

pub returns-clause-rolls : goal.returns-clause-rolls
returns-clause-rolls g c = subst (λ (x : Running). Rolls c.args.core.now x) (sym c.note_calm.ensures) c.roll_listed.ensures.rolls
