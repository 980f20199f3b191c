-- A worked run: a version that is out when it becomes the root, and was lent an event that the match took, begins anew, and its reading
-- comes home to no live version.
use Rattle.std.proofs.Common.{◌≡◌, true, false, List, [], ◌∷◌, ◌++◌, Some, None, refl}
use Rattle.sp_group.specs.declared.refusal.Refusal.TheVariants as r
use Rattle.sp_group.specs.declared.step.Step.{Step}
use Rattle.sp_group.specs.declared.step.Step.TheVariants as s
use Rattle.sp_group.specs.Machine.{opening}
use Rattle.sp_group.specs.Steps.{Refused, Done, Fed, Spawned, Read, Closed, Home, Stale, Finished, steps}
use Rattle.sp_group.proofs.Worked.{ab, fed, root, child, replies, answers, state_after, out, found}

-- a x b x
abbrev read_all : List Step
read_all = fed (0 ∷ 3 ∷ 1 ∷ 3 ∷ []) ++ root ∷ s.Lease 1 1 ∷ s.Event 1 ∷ s.Return 1 ∷ child 1 (1 ∷ []) ∷ s.Lease 2 1 ∷ s.Lease 1 3
    ∷ s.Event 3 ∷ s.Event 3 ∷ s.Event 3 ∷ s.Event 3 ∷ s.Event 3 ∷ []

all_read : answers ab 64 read_all ≡
    Done (Fed 1) ∷ Done (Fed 2) ∷ Done (Fed 3) ∷ Done (Fed 4) ∷ Done (Spawned 1) ∷ out 1 1 1 1 [] false ∷ Done (Read 1 false) ∷ Done Home
    ∷ Done (Spawned 2) ∷ out 2 2 3 1 [] false ∷ out 3 1 2 3 [] true ∷ Done (Read 2 false) ∷ Done (Read 3 false) ∷ Done (Read 4 false)
    ∷ Done Closed ∷ Refused (r.NothingToRead 3) ∷ []
all_read = refl

still_out : state_after ab 64 read_all ≡ record {
  events = 4;
  ended = false;
  windows = 2;
  finished = 0;
  emitted = 0;
  consumed = [];
  versions =
      (record { id = 1; parent = None; window = 1; label = []; position = 1; skipped = []; done = false; out = Some 3; groups = (1, 1 ∷ []) ∷ [] })
      ∷ (record { id = 2; parent = (Some 1); window = 2; label = 1 ∷ []; position = 0; skipped = []; done = false; out = Some 2; groups = [] }) ∷ [];
  tickets =
      (record { ticket = 2; version = 2; first = 3; count = 1; read = 0; snapshot = []; closes = false })
      ∷ (record { ticket = 3; version = 1; first = 2; count = 3; read = 3; snapshot = []; closes = true }) ∷ [];
}
still_out = refl

abbrev come_home : List Step
come_home = s.Return 3 ∷ s.Finish ∷ s.Event 2 ∷ s.Return 2 ∷ []

comes_home : replies ab 64 (steps ab 64 opening read_all) come_home ≡
    Done Home ∷ Done (Finished 1 (found 1 1 ((1 ∷ []) ∷ (3 ∷ []) ∷ []) (1 ∷ 3 ∷ []) ∷ []) (Some 3)) ∷ Done (Read 3 false) ∷ Done Stale ∷ []
comes_home = refl
