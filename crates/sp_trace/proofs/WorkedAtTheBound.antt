-- A worked run at a bound of two live versions: a third is refused, an event is not; and other refusals.
use Rattle.std.proofs.Common.{◌≡◌, List, [], ◌∷◌, ◌++◌, refl}
use Rattle.std.specs.Prelude.{codes}
use Rattle.std.specs.Fmt.{digits}
use Rattle.sp_sched.specs.declared.step.TraceStep.{TraceStep}
use Rattle.sp_sched.specs.declared.step.TraceStep.TheVariants as t
use Rattle.sp_trace.specs.Traced.{traced}
use Rattle.sp_trace.proofs.Worked.{ab, events, times, root, child}

abbrev schedule : List TraceStep
schedule = times 5 t.Feed ++ root ∷ child 1 [] ∷ child 2 [] ∷ t.Feed ∷ t.Feed ∷ child 1 [] ∷ child 1 (1 ∷ []) ∷ t.Roll 1 ∷ t.Finish
    ∷ t.Event 7 ∷ []

-- a x a x a x
third_is_refused : traced ab 2 (events (0 ∷ 3 ∷ 0 ∷ 3 ∷ 0 ∷ 3 ∷ [])) schedule ≡
    codes "feed 1\nfeed 2\nfeed 3\nfeed 4\nfeed 5\nspawn 1\nspawn 2\nspawn refused 6 2 2\nfeed 6\nfeed none\n"
    ++ codes "spawn refused 4 2\nspawn refused 3 1\nroll refused 9 1\nfinish refused 11 0\nevent refused 13 7\n"
unfolding digits
third_is_refused = refl
