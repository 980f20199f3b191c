-- A worked run: two open groups, four children under the four guesses; one group completes and the other is abandoned, and the child of
-- the right guess is left.
use Rattle.std.proofs.Common.{◌≡◌, List, [], ◌∷◌, ◌++◌, refl}
use Rattle.std.specs.Prelude.{codes}
use Rattle.std.specs.Fmt.{digits}
use Rattle.sp_plan.specs.declared.plan.Select.TheVariants.{Each}
use Rattle.sp_sched.specs.declared.step.TraceStep.{TraceStep}
use Rattle.sp_sched.specs.declared.step.TraceStep.TheVariants as t
use Rattle.sp_trace.specs.Traced.{traced}
use Rattle.sp_trace.proofs.Worked.{abc, events, times, root, child}

abbrev schedule : List TraceStep
schedule = times 4 t.Feed ++ root ∷ t.Lease 1 3 ∷ times 3 (t.Event 1) ++ t.Return 1 ∷ child 1 [] ∷ child 1 (1 ∷ []) ∷ child 1 (2 ∷ [])
    ∷ child 1 (1 ∷ 2 ∷ []) ∷ t.Lease 1 1 ∷ t.Event 2 ∷ t.Event 2 ∷ t.Return 2 ∷ t.State ∷ t.Finish ∷ []

-- a a b c, under EACH
one_is_left : traced (abc Each) 64 (events (0 ∷ 0 ∷ 1 ∷ 2 ∷ [])) schedule ≡
    codes "feed 1\nfeed 2\nfeed 3\nfeed 4\nspawn 1\n"
    ++ codes "lease 1 first=1 count=3 skip=- closes=0\nevent 1 1\nevent 1 2\nevent 1 3\nreturn 1 home\n"
    ++ codes "spawn 2\nspawn 3\nspawn 4\nspawn 5\n"
    ++ codes "lease 2 first=4 count=1 skip=- closes=1\nevent 2 4\nevent 2 close\nreturn 2 home\n"
    ++ codes "state events=4 ended=0 windows=2 finished=0 live=2 consumed=-\n"
    ++ codes "v=1 parent=- window=1 label=- position=4 skipped=- done=1 out=- groups=-\n"
    ++ codes "v=3 parent=1 window=2 label=- position=0 skipped=- done=0 out=- groups=-\n"
    ++ codes "finish 1 matches=1 root=3\nw=1 m=1 A=1 B=3 C=4 used=1,3,4\n"
unfolding digits
one_is_left = refl
