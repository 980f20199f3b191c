-- A worked run: a version that has read an event which its parent's group took afterwards is rolled back, and once more when it becomes
-- the root.
use Rattle.std.proofs.Common.{◌≡◌, List, [], ◌∷◌, ◌++◌, refl}
use Rattle.std.specs.Prelude.{codes}
use Rattle.std.specs.Fmt.{digits}
use Rattle.sp_plan.specs.declared.plan.Select.TheVariants.{First}
use Rattle.sp_sched.specs.declared.step.TraceStep.{TraceStep}
use Rattle.sp_sched.specs.declared.step.TraceStep.TheVariants as t
use Rattle.sp_trace.specs.Traced.{traced}
use Rattle.sp_trace.proofs.Worked.{abc, events, times, root, child}

abbrev schedule : List TraceStep
schedule = times 4 t.Feed ++ root ∷ t.Lease 1 1 ∷ t.Event 1 ∷ t.Return 1 ∷ child 1 (1 ∷ []) ∷ t.Lease 2 1 ∷ t.Event 2 ∷ t.Return 2
    ∷ t.Lease 1 2 ∷ t.Event 3 ∷ t.Event 3 ∷ t.Return 3 ∷ t.Lease 2 1 ∷ t.Roll 2 ∷ t.State ∷ t.Lease 3 2 ∷ t.Event 4 ∷ t.Event 4 ∷ t.Return 4
    ∷ t.Lease 1 1 ∷ t.Event 5 ∷ t.Event 5 ∷ t.Return 5 ∷ t.Finish ∷ t.End ∷ t.Lease 4 9 ∷ t.Event 6 ∷ t.Event 6 ∷ t.Event 6 ∷ t.Return 6
    ∷ t.Finish ∷ []

-- a x b c
rolled_back : traced (abc First) 64 (events (0 ∷ 3 ∷ 1 ∷ 2 ∷ [])) schedule ≡
    codes "feed 1\nfeed 2\nfeed 3\nfeed 4\nspawn 1\n"
    ++ codes "lease 1 first=1 count=1 skip=- closes=0\nevent 1 1\nreturn 1 home\n"
    ++ codes "spawn 2\nlease 2 first=3 count=1 skip=- closes=0\nevent 2 3\nreturn 2 home\n"
    ++ codes "lease 3 first=2 count=2 skip=- closes=0\nevent 3 2\nevent 3 3\nreturn 3 home\n"
    ++ codes "lease refused 8 3\nroll 2 3\n"
    ++ codes "state events=4 ended=0 windows=2 finished=0 live=2 consumed=-\n"
    ++ codes "v=1 parent=- window=1 label=- position=3 skipped=- done=0 out=- groups=1:1,3\n"
    ++ codes "v=3 parent=1 window=2 label=1 position=0 skipped=- done=0 out=- groups=-\n"
    ++ codes "lease 4 first=3 count=2 skip=3 closes=0\nevent 4 3 skip\nevent 4 4\nreturn 4 home\n"
    ++ codes "lease 5 first=4 count=1 skip=- closes=1\nevent 5 4\nevent 5 close\nreturn 5 home\n"
    ++ codes "finish 1 matches=1 root=4\nw=1 m=1 A=1 B=3 C=4 used=1,3,4\nend\n"
    ++ codes "lease 6 first=3 count=2 skip=3,4 closes=1\nevent 6 3 skip\nevent 6 4 skip\nevent 6 close\nreturn 6 home\n"
    ++ codes "finish 2 matches=0 root=-\n"
unfolding digits
rolled_back = refl
