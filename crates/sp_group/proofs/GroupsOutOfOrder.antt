-- A worked run: a later run's group opens before an earlier run's.
use Rattle.std.proofs.Common.{◌≡◌, true, false, List, [], ◌∷◌, ◌++◌, Some, None, refl}
use Rattle.sp_group.specs.declared.step.Step.{Step}
use Rattle.sp_group.specs.declared.step.Step.TheVariants as s
use Rattle.sp_group.specs.Steps.{Done, Fed, Spawned, Read, Home}
use Rattle.sp_group.proofs.Worked.{climb, numbers_fed, root, child, answers, state_after, out}

-- 5 1 3 7, where A is below 10, B above A and C is 100, and B alone is consumed
abbrev schedule : List Step
schedule = numbers_fed (5 ∷ 1 ∷ 3 ∷ 7 ∷ []) ++ root ∷ s.Lease 1 3 ∷ s.Event 1 ∷ s.Event 1 ∷ s.Event 1 ∷ s.Return 1 ∷ child 1 (2 ∷ [])
    ∷ s.Lease 1 1 ∷ s.Event 2 ∷ s.Return 2 ∷ []

opens_in_any_order : answers climb 64 schedule ≡
    Done (Fed 1) ∷ Done (Fed 2) ∷ Done (Fed 3) ∷ Done (Fed 4) ∷ Done (Spawned 1) ∷ out 1 1 1 3 [] false ∷ Done (Read 1 false)
    ∷ Done (Read 2 false) ∷ Done (Read 3 false) ∷ Done Home ∷ Done (Spawned 2) ∷ out 2 1 4 1 [] true ∷ Done (Read 4 false) ∷ Done Home ∷ []
opens_in_any_order = refl

three_groups : state_after climb 64 schedule ≡ record {
  events = 4;
  ended = false;
  windows = 2;
  finished = 0;
  emitted = 0;
  consumed = [];
  versions =
      (record { id = 1; parent = None; window = 1; label = []; position = 4; skipped = []; done = false; out = None; groups = (1, 4 ∷ []) ∷ (2, 3 ∷ []) ∷ (3, 4 ∷ []) ∷ [] })
      ∷ (record { id = 2; parent = (Some 1); window = 2; label = 2 ∷ []; position = 0; skipped = []; done = false; out = None; groups = [] }) ∷ [];
  tickets = [];
}
three_groups = refl
