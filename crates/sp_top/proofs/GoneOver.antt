-- What a run ended with that was driven over a list of events, into an outlet that never fails.
use Rattle.std.proofs.Common.{◌≡◌, inl, inr, ℕ, true, false, List, refl, ap, sym, ◌∙◌, arith}
use Rattle.sp_io.specs.Outside.{Rose}
use Rattle.sp_plan.specs.declared.event.Event.{Event}
use Rattle.sp_plan.specs.declared.plan.Plan.{Plan}
use Rattle.sp_plan.specs.Sequential.{seq, whole}
use Rattle.sp_plan.specs.Windows.{closed}
use Rattle.sp_group.specs.Machine.{Machine}
use Rattle.sp_group.specs.Steps.{replay}
use Rattle.sp_rules.specs.Schedules.{IsSequential}
use Rattle.sp_core.specs.Running.{Running}
use Rattle.sp_ports.specs.Stopping.{is_end}
use Rattle.sp_ports.specs.Taking.{OutletState}
use Rattle.sp_ports.specs.declared.stop.Stop.{Stop}
use Rattle.sp_lists.specs.declared.list_intake.ListIntake.{ListIntake}
use Rattle.sp_lists.specs.Listing.{Listing, listing, listed, Gives, cause_of, has_ended, stops_of}
use Rattle.sp_lists.proofs.AllGiven.{ended_all, stopped_all}
use Rattle.sp_spread.specs.Limiting.{AsksAtMost}
use Rattle.sp_split.specs.Driving.{Drove, CameAbout, most_asked}
use Rattle.sp_split.specs.declared.ended.Ended.{Ended}
use Rattle.sp_split.specs.declared.ended.Why.{Why}
use Rattle.sp_split.specs.declared.ended.Why.TheVariants as why
use Rattle.sp_cli.specs.Commands.{Speed}
use Rattle.sp_top.specs.Over.{WentOver}
use Rattle.sp_top.specs.Report.{Reports}
use Rattle.sp_top.proofs.Reporting.{all_closed}

-- a count that stands at nothing has not risen
never_rose : (m n : ℕ) → m ≡ 0 → n ≡ 0 → Rose m n → ⊥
never_rose m n none still (inl rose) = omega (arith, none, still, rose)
never_rose m n none still (inr last) = omega (arith, none, still, last)

module _ {V : Type 0} {T : V → Type 0} (c : Running) (old new : ListIntake) (before after : OutletState) (e : Ended V T)
    (drove : Drove (λ events. Gives (listing old) events (listing new)) (has_ended (listing new)) (stops_of (listing old)) (stops_of (listing new)) (cause_of (listing new)) c before after (record { core = e.core; why = e.why }))
    (q p : Plan) (events : List Event) (stop : Stop) (plan : c.plan ≡ q) (came : listing old ≡ listed p events stop) where
  abbrev m : Machine
  m = e.core.machine

  -- all of the events were fed, and they ended as the reading did
  abbrev AllFed : Type 0
  AllFed = (m.events ≡ events) × (m.ended ≡ is_end stop)

  fed_whole : e.why ≡ why.Whole → AllFed
  fed_whole is =
      let told = drove.whole_input is in
      let all = ended_all old new m.events drove.given (drove.ends told) in
      (all.0 ∙ ap (λ (l : Listing). l.left) came, told ∙ sym all.1 ∙ ap (λ (l : Listing). is_end l.stop) came)

  fed_stopped : (cause : Stop) → e.why ≡ why.Stopped cause → AllFed
  fed_stopped cause is =
      let stopped = drove.stop cause is in
      let all = stopped_all old new m.events drove.given cause stopped.0.1.0 in
      (all.0 ∙ ap (λ (l : Listing). l.left) came, stopped.1 ∙ sym stopped.0.1.1 ∙ ap is_end all.1 ∙ ap (λ (l : Listing). is_end l.stop) came)

  module _ (kept : IsSequential e.core.plan m) (replays : replay e.core.plan e.core.bound e.core.journal ≡ m) (speed : Speed) (bound : c.bound ≡ speed.live)
      (about : CameAbout speed.instances e.core e.history) (asked : AsksAtMost (most_asked e.core.plan speed.instances speed.batch) e.core.journal) where
    -- what was found, where each window that the events closed is finished
    found : AllFed → m.finished ≡ closed c.plan m.events m.ended → m.emitted ≡ (whole q events (is_end stop)).matches
    found fed finished =
        kept.emitted
        ∙ ap (λ (r : Plan). (seq r m.events m.finished).matches) drove.plan
        ∙ ap (λ (n : ℕ). (seq c.plan m.events n).matches) finished
        ∙ (λ i. (whole (plan i) (fed.0 i) (fed.1 i)).matches)

    reported : e.why ≡ why.Whole → AllFed → m.finished ≡ closed c.plan m.events m.ended → is_end stop ≡ true → Reports speed events e
    reported is fed finished end =
        let ended : m.ended ≡ true = fed.1 ∙ end in
        record {
          whole = is;
          bound = drove.bound ∙ bound;
          events = fed.0;
          ended = ended;
          finished = finished ∙ (λ i. closed (sym drove.plan i) m.events (ended i)) ∙ all_closed e.core.plan m.events;
          feeds = drove.fed_are;
          replays = replays;
          about = about;
          asked = asked;
        }

    went : (w : Why) → e.why ≡ w → (w ≡ why.Memory → ⊥) → before.faults ≡ 0 → after.faults ≡ 0 → WentOver q speed events stop e
    went why.Whole is through none still =
        let fed = fed_whole is in
        let finished = (drove.finished (inl is)).0 in
        record { plan = drove.plan ∙ plan; given = fed.0; found = found fed finished; reports = reported is fed finished }
    went (why.Stopped cause) is through none still =
        let fed = fed_stopped cause is in
        let finished = (drove.finished (inr (cause, is))).0 in
        let open_ : m.ended ≡ false = (drove.stop cause is).1 in
        record { plan = drove.plan ∙ plan; given = fed.0; found = found fed finished; reports = λ end. let both : false ≡ true = sym open_ ∙ fed.1 ∙ end in absurd (cc both) }
    went why.Refused is through none still = absurd (never_rose before.faults after.faults none still (drove.refused is).0)
    went why.Memory is through none still = absurd (through refl)

    pub went_over : (e.why ≡ why.Memory → ⊥) → before.faults ≡ 0 → after.faults ≡ 0 → WentOver q speed events stop e
    went_over through = went e.why refl through
