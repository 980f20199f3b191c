use Rattle.std.proofs.Common.{◌≡◌, subst, sym}
use Rattle.std.proofs.Props.{props}
use Rattle.sp_match.specs.public.Matching.{Matching}
use Rattle.sp_piece.specs.declared.job.Job.{Job}
use Rattle.sp_piece.specs.Lending.{IsLendable, all_known-prop}
use Rattle.sp_piece.specs.Reading.{consumes}
use Rattle.sp_piece.proofs.job.Job.shed.Goals as goal

-- the job is the same whatever says that it can be read, and that it says what its plan does
pub returns : goal.returns
returns c =
    let job = c.args.self in
    let with : (m : Matching) → IsLendable m job.events job.known job.first → job.wants ≡ consumes m.plan → Job = λ m can wants. record job { before = m; lendable = can; wanting = wants } in
    let can_prop : IsProp (IsLendable job.before job.events job.known job.first) = Prim.hlevel (props, all_known-prop) in
    let wants_prop : IsProp (job.wants ≡ consumes job.before.plan) = Prim.hlevel props in
    let here : (can : IsLendable job.before job.events job.known job.first) (wants : job.wants ≡ consumes job.before.plan) → with job.before can wants ≡ job =
    λ can wants i. with job.before (can_prop can job.lendable i) (wants_prop wants job.wanting i) in
    subst (λ (m : Matching). (can : IsLendable m job.events job.known job.first) (wants : job.wants ≡ consumes m.plan) → with m can wants ≡ job) (sym c.take_worn-worn.ensures) here _ _
