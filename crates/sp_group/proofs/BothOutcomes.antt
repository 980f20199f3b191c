-- A worked run: two open groups, four children under the four guesses; one group completes and the other is abandoned, and the child of
-- the right guess is left.
use Rattle.std.proofs.Common.{◌≡◌, true, false, List, [], ◌∷◌, ◌++◌, Some, None, refl}
use Rattle.sp_group.specs.declared.step.Step.{Step}
use Rattle.sp_group.specs.declared.step.Step.TheVariants as s
use Rattle.sp_group.specs.Machine.{opening}
use Rattle.sp_group.specs.Steps.{Done, Fed, Spawned, Read, Closed, Home, Finished, steps}
use Rattle.sp_group.proofs.Worked.{abc_each, fed, root, child, replies, answers, state_after, out, found}

-- a a b c, under EACH
abbrev guess : List Step
guess = fed (0 ∷ 0 ∷ 1 ∷ 2 ∷ []) ++ root ∷ s.Lease 1 3 ∷ s.Event 1 ∷ s.Event 1 ∷ s.Event 1 ∷ s.Return 1 ∷ child 1 [] ∷ child 1 (1 ∷ [])
    ∷ child 1 (2 ∷ []) ∷ child 1 (1 ∷ 2 ∷ []) ∷ s.Lease 1 1 ∷ s.Event 2 ∷ s.Event 2 ∷ s.Return 2 ∷ []

guesses : answers abc_each 64 guess ≡
    Done (Fed 1) ∷ Done (Fed 2) ∷ Done (Fed 3) ∷ Done (Fed 4) ∷ Done (Spawned 1) ∷ out 1 1 1 3 [] false ∷ Done (Read 1 false)
    ∷ Done (Read 2 false) ∷ Done (Read 3 false) ∷ Done Home ∷ Done (Spawned 2) ∷ Done (Spawned 3) ∷ Done (Spawned 4) ∷ Done (Spawned 5)
    ∷ out 2 1 4 1 [] true ∷ Done (Read 4 false) ∷ Done Closed ∷ Done Home ∷ []
guesses = refl

one_is_left : state_after abc_each 64 guess ≡ record {
  events = 4;
  ended = false;
  windows = 2;
  finished = 0;
  emitted = 0;
  consumed = [];
  versions =
      (record { id = 1; parent = None; window = 1; label = []; position = 4; skipped = []; done = true; out = None; groups = [] })
      ∷ (record { id = 3; parent = (Some 1); window = 2; label = []; position = 0; skipped = []; done = false; out = None; groups = [] }) ∷ [];
  tickets = [];
}
one_is_left = refl

finishes : replies abc_each 64 (steps abc_each 64 opening guess) (s.Finish ∷ []) ≡
    Done (Finished 1 (found 1 1 ((1 ∷ []) ∷ (3 ∷ []) ∷ (4 ∷ []) ∷ []) (1 ∷ 3 ∷ 4 ∷ []) ∷ []) (Some 3)) ∷ []
finishes = refl
