-- A run that listed proofs, as what is reported of it.
use Rattle.std.proofs.Common.{◌≡◌, true, List, Ok, Err, ap, sym, subst, ◌∙◌, arith}
use Rattle.std.specs.Prelude.{Result}
use Rattle.std.specs.declared.alloc.AllocError.{AllocError}
use Rattle.sp_io.specs.Outside.{SourceState}
use Rattle.sp_plan.specs.declared.event.Event.{Event}
use Rattle.sp_plan.specs.declared.plan.Plan.{Plan}
use Rattle.sp_intake.specs.Loose.{Lateness}
use Rattle.sp_ports.specs.Stopping.{is_end}
use Rattle.sp_ports.specs.declared.stop.Stop.TheVariants.{End}
use Rattle.sp_answer.specs.Outcome.{number_of}
use Rattle.sp_answer.specs.declared.status.Status.{Status}
use Rattle.sp_answer.specs.declared.written.Written.{Written}
use Rattle.sp_answer.specs.declared.written.Written.TheVariants.{All, Failed}
use Rattle.sp_split.specs.declared.ended.Ended.{Ended}
use Rattle.sp_cli.specs.Commands.{Speed}
use Rattle.sp_commands.specs.Ends.{Came, came_within, written_status}
use Rattle.sp_commands.specs.Given.{Brings}
use Rattle.sp_commands.specs.declared.given.Given.{Given}
use Rattle.sp_commands.proofs.Came.{within_told}
use Rattle.sp_top.specs.Over.{WentOver}
use Rattle.sp_top.specs.Report.{Reports, ReportsPlan}

-- where all was done, so was the reading
read_done : (status : Status) (written : Result Written AllocError) → number_of (written_status status written) ≡ 0 → number_of status ≡ 0
read_done status (Ok All) done = done
read_done status (Ok Failed) done = absurd (omega (arith, done))
read_done status (Err e) done = absurd (omega (arith, done))

module _ {V : Type 0} {T : V → Type 0} (q : Plan) (l : Lateness) (speed : Speed) (old new : SourceState) (given : Given) (brings : Brings q (came_within q l) old new (Ok given))
    (e : Ended V T) (over : WentOver q speed given.events.items given.stop e) where
  pub reports_listed : (written : Result Written AllocError) (status : Status) → status ≡ written_status given.status written → number_of status ≡ 0 → ReportsPlan q l speed old.left new.left e
  reports_listed written status is done =
      let read : number_of given.status ≡ 0 = read_done given.status written (ap number_of (sym is) ∙ done) in
      let whole = (within_told q l brings.taken new.ended).only_end (ap (λ (c : Came). number_of c.status) (sym brings.is) ∙ read) in
      let stop : given.stop ≡ End = ap (λ (c : Came). c.stop) brings.is ∙ whole.0 in
      let events : given.events.items ≡ (came_within e.core.plan l brings.taken true).events =
      ap (λ (c : Came). c.events) brings.is ∙ (λ i. (came_within (sym over.plan i) l brings.taken (whole.1 i)).events) in
      (over.plan, brings.taken, brings.gave, subst (λ (xs : List Event). Reports speed xs e) events (over.reports (ap is_end stop)))
