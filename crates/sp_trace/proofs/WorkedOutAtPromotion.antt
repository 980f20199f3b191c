-- A worked run: a version that is out when it becomes the root, and was lent an event that the match took, begins anew, and its reading
-- comes home to no live version.
use Rattle.std.proofs.Common.{◌≡◌, List, [], ◌∷◌, ◌++◌, refl}
use Rattle.std.specs.Prelude.{codes}
use Rattle.std.specs.Fmt.{digits}
use Rattle.sp_sched.specs.declared.step.TraceStep.{TraceStep}
use Rattle.sp_sched.specs.declared.step.TraceStep.TheVariants as t
use Rattle.sp_trace.specs.Traced.{traced}
use Rattle.sp_trace.proofs.Worked.{ab, events, times, root, child}

abbrev schedule : List TraceStep
schedule = times 4 t.Feed ++ root ∷ t.Lease 1 1 ∷ t.Event 1 ∷ t.Return 1 ∷ child 1 (1 ∷ []) ∷ t.Lease 2 1 ∷ t.Lease 1 3
    ∷ times 5 (t.Event 3) ++ t.State ∷ t.Return 3 ∷ t.Finish ∷ t.Event 2 ∷ t.Return 2 ∷ []

-- a x b x
comes_home_stale : traced ab 64 (events (0 ∷ 3 ∷ 1 ∷ 3 ∷ [])) schedule ≡
    codes "feed 1\nfeed 2\nfeed 3\nfeed 4\nspawn 1\n"
    ++ codes "lease 1 first=1 count=1 skip=- closes=0\nevent 1 1\nreturn 1 home\n"
    ++ codes "spawn 2\nlease 2 first=3 count=1 skip=- closes=0\n"
    ++ codes "lease 3 first=2 count=3 skip=- closes=1\nevent 3 2\nevent 3 3\nevent 3 4\nevent 3 close\nevent refused 10 3\n"
    ++ codes "state events=4 ended=0 windows=2 finished=0 live=2 consumed=-\n"
    ++ codes "v=1 parent=- window=1 label=- position=1 skipped=- done=0 out=3 groups=1:1\n"
    ++ codes "v=2 parent=1 window=2 label=1 position=0 skipped=- done=0 out=2 groups=-\n"
    ++ codes "t=2 v=2 first=3 count=1 read=0 snapshot=- closes=0\n"
    ++ codes "t=3 v=1 first=2 count=3 read=3 snapshot=- closes=1\n"
    ++ codes "return 3 home\nfinish 1 matches=1 root=3\nw=1 m=1 A=1 B=3 used=1,3\nevent 2 3\nreturn 2 stale\n"
unfolding digits
comes_home_stale = refl
