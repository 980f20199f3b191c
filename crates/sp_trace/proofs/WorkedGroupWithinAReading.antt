-- A worked run: a group that opens and completes within one reading drops the child that could not know of it.
use Rattle.std.proofs.Common.{◌≡◌, List, [], ◌∷◌, ◌++◌, refl}
use Rattle.std.specs.Prelude.{codes}
use Rattle.std.specs.Fmt.{digits}
use Rattle.sp_sched.specs.declared.step.TraceStep.{TraceStep}
use Rattle.sp_sched.specs.declared.step.TraceStep.TheVariants as t
use Rattle.sp_trace.specs.Traced.{traced}
use Rattle.sp_trace.proofs.Worked.{ab, events, times, root, child}

abbrev schedule : List TraceStep
schedule = times 3 t.Feed ++ root ∷ child 1 [] ∷ t.Lease 1 2 ∷ t.Event 1 ∷ t.Event 1 ∷ t.Return 1 ∷ t.Lease 2 1 ∷ t.Feed ∷ t.Lease 1 2
    ∷ times 3 (t.Event 2) ++ t.Return 2 ∷ t.Finish ∷ root ∷ []

-- a b x x
child_is_dropped : traced ab 64 (events (0 ∷ 1 ∷ 3 ∷ 3 ∷ [])) schedule ≡
    codes "feed 1\nfeed 2\nfeed 3\nspawn 1\nspawn 2\n"
    ++ codes "lease 1 first=1 count=2 skip=- closes=0\nevent 1 1\nevent 1 2\nreturn 1 home\n"
    ++ codes "lease refused 2 2\nfeed 4\n"
    ++ codes "lease 2 first=3 count=2 skip=- closes=1\nevent 2 3\nevent 2 4\nevent 2 close\nreturn 2 home\n"
    ++ codes "finish 1 matches=1 root=-\nw=1 m=1 A=1 B=2 used=1,2\nspawn 3\n"
unfolding digits
child_is_dropped = refl
