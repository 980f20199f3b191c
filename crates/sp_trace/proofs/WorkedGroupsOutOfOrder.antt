-- A worked run: a later run's group opens before an earlier run's.
use Rattle.std.proofs.Common.{◌≡◌, List, [], ◌∷◌, ◌++◌, refl}
use Rattle.std.specs.Prelude.{codes}
use Rattle.std.specs.Fmt.{digits}
use Rattle.sp_sched.specs.declared.step.TraceStep.{TraceStep}
use Rattle.sp_sched.specs.declared.step.TraceStep.TheVariants as t
use Rattle.sp_trace.specs.Traced.{traced}
use Rattle.sp_trace.proofs.Worked.{climb, numbers, times, root, child}

abbrev schedule : List TraceStep
schedule = times 4 t.Feed ++ root ∷ t.Lease 1 3 ∷ times 3 (t.Event 1) ++ t.Return 1 ∷ child 1 (2 ∷ []) ∷ t.Lease 1 1 ∷ t.Event 2
    ∷ t.Return 2 ∷ t.State ∷ []

-- 5 1 3 7
opens_in_any_order : traced climb 64 (numbers (5 ∷ 1 ∷ 3 ∷ 7 ∷ [])) schedule ≡
    codes "feed 1\nfeed 2\nfeed 3\nfeed 4\nspawn 1\n"
    ++ codes "lease 1 first=1 count=3 skip=- closes=0\nevent 1 1\nevent 1 2\nevent 1 3\nreturn 1 home\n"
    ++ codes "spawn 2\nlease 2 first=4 count=1 skip=- closes=1\nevent 2 4\nreturn 2 home\n"
    ++ codes "state events=4 ended=0 windows=2 finished=0 live=2 consumed=-\n"
    ++ codes "v=1 parent=- window=1 label=- position=4 skipped=- done=0 out=- groups=1:4;2:3;3:4\n"
    ++ codes "v=2 parent=1 window=2 label=2 position=0 skipped=- done=0 out=- groups=-\n"
unfolding digits
opens_in_any_order = refl
