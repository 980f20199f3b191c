-- A worked run: a group that opens and completes within one reading drops the child that could not know of it.
use Rattle.std.proofs.Common.{◌≡◌, true, false, List, [], ◌∷◌, ◌++◌, None, refl}
use Rattle.sp_group.specs.declared.refusal.Refusal.TheVariants as r
use Rattle.sp_group.specs.declared.step.Step.{Step}
use Rattle.sp_group.specs.declared.step.Step.TheVariants as s
use Rattle.sp_group.specs.Steps.{Refused, Done, Fed, Spawned, Read, Closed, Home, Finished}
use Rattle.sp_group.proofs.Worked.{ab, event, fed, root, child, answers, out, found}

-- a b x, and x later
abbrev schedule : List Step
schedule = fed (0 ∷ 1 ∷ 3 ∷ []) ++ root ∷ child 1 [] ∷ s.Lease 1 2 ∷ s.Event 1 ∷ s.Event 1 ∷ s.Return 1 ∷ s.Lease 2 1
    ∷ s.Feed (event 4 3) ∷ s.Lease 1 2 ∷ s.Event 2 ∷ s.Event 2 ∷ s.Event 2 ∷ s.Return 2 ∷ s.Finish ∷ root ∷ []

child_is_dropped : answers ab 64 schedule ≡
    Done (Fed 1) ∷ Done (Fed 2) ∷ Done (Fed 3) ∷ Done (Spawned 1) ∷ Done (Spawned 2) ∷ out 1 1 1 2 [] false ∷ Done (Read 1 false)
    ∷ Done (Read 2 false) ∷ Done Home ∷ Refused (r.NotLive 2) ∷ Done (Fed 4) ∷ out 2 1 3 2 [] true ∷ Done (Read 3 false)
    ∷ Done (Read 4 false) ∷ Done Closed ∷ Done Home
    ∷ Done (Finished 1 (found 1 1 ((1 ∷ []) ∷ (2 ∷ []) ∷ []) (1 ∷ 2 ∷ []) ∷ []) None) ∷ Done (Spawned 3) ∷ []
child_is_dropped = refl
