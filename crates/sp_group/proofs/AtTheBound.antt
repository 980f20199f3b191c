-- A worked run at a bound of two live versions: a third is refused, an event is not; and other refusals.
use Rattle.std.proofs.Common.{◌≡◌, List, [], ◌∷◌, ◌++◌, refl}
use Rattle.sp_group.specs.declared.refusal.Refusal.TheVariants as r
use Rattle.sp_group.specs.declared.step.Step.{Step}
use Rattle.sp_group.specs.declared.step.Step.TheVariants as s
use Rattle.sp_group.specs.Steps.{Refused, Done, Fed, Spawned}
use Rattle.sp_group.proofs.Worked.{ab, event, fed, root, child, answers}

-- a x a x a, and x later
abbrev schedule : List Step
schedule = fed (0 ∷ 3 ∷ 0 ∷ 3 ∷ 0 ∷ []) ++ root ∷ child 1 [] ∷ child 2 [] ∷ s.Feed (event 6 3) ∷ child 1 [] ∷ child 1 (1 ∷ []) ∷ s.Roll 1
    ∷ s.Finish ∷ s.Event 7 ∷ []

third_is_refused : answers ab 2 schedule ≡
    Done (Fed 1) ∷ Done (Fed 2) ∷ Done (Fed 3) ∷ Done (Fed 4) ∷ Done (Fed 5) ∷ Done (Spawned 1) ∷ Done (Spawned 2) ∷ Refused (r.Full 2 2)
    ∷ Done (Fed 6) ∷ Refused (r.LabelTaken 2) ∷ Refused (r.NotOpen 1) ∷ Refused (r.NoConflict 1) ∷ Refused (r.NotDone 0)
    ∷ Refused (r.NoTicket 7) ∷ []
third_is_refused = refl
