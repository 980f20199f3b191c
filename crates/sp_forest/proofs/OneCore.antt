-- What a core has finished that ran over a list.
use Rattle.std.proofs.Common.{◌≡◌, inl, inr, ℕ, zero, suc, Bool, List, ◌∷◌, drop, map, sym, ◌∙◌, ap, arith}
use Rattle.std.specs.Prelude.{Result, IfOk}
use Rattle.std.proofs.lemmas.Result.{IfOk-weaker}
use Rattle.sp_plan.specs.declared.event.Event.{Event}
use Rattle.sp_plan.specs.declared.found.Match.{Match}
use Rattle.sp_plan.specs.declared.plan.Plan.{Plan}
use Rattle.sp_plan.specs.Sequential.{seq, whole}
use Rattle.sp_io.specs.Outside.{Rose}
use Rattle.sp_core.specs.Running.{Running}
use Rattle.sp_ports.specs.Stopping.{is_end}
use Rattle.sp_ports.specs.Taking.{OutletState}
use Rattle.sp_ports.specs.declared.stop.Stop.{Stop}
use Rattle.sp_split.specs.Driving.{Drove}
use Rattle.sp_split.specs.declared.ended.Why.{Why}
use Rattle.sp_lists.specs.declared.list_intake.ListIntake.{ListIntake}
use Rattle.sp_lists.specs.Listing.{Listing, listing, listed, Gives, cause_of, has_ended, stops_of}
use Rattle.sp_lists.proofs.AllGiven.{ended_all, stopped_all}
use Rattle.sp_forest.specs.Drivable.{HasGoneOver, IsThrough, moved_matches}
use Rattle.sp_parts.specs.Parts.{Part}
use Rattle.sp_parts.specs.Shifted.{shifted}

-- a count that stands at nothing has not risen
never_rose : (m n : ℕ) → m ≡ 0 → n ≡ 0 → Rose m n → ⊥
never_rose m n none still (inl rose) = omega arith
never_rose m n none still (inr last) = omega arith

module _ (c core : Running) (old new : ListIntake) (before after : OutletState) (w : Why)
    (drove : Drove (λ events. Gives (listing old) events (listing new)) (has_ended (listing new)) (stops_of (listing old)) (stops_of (listing new)) (cause_of (listing new)) c before after (record { core = core; why = w })) where
  -- by which events were given, and whether the core was told of their end
  finished_for : (events : List Event) (ended : Bool) → core.machine.events ≡ events → core.machine.ended ≡ ended → IsThrough w
      → (seq core.plan core.machine.events core.machine.finished).matches ≡ (whole c.plan events ended).matches
  finished_for events ended are told through =
      ap (λ (q : Plan). (seq q core.machine.events core.machine.finished).matches) drove.plan
      ∙ ap (λ (n : ℕ). (seq c.plan core.machine.events n).matches) (drove.finished through).0
      ∙ ap (λ (e : Bool). (whole c.plan core.machine.events e).matches) told
      ∙ ap (λ (l : List Event). (whole c.plan l ended).matches) are

  finished_all : IsThrough w → (seq core.plan core.machine.events core.machine.finished).matches ≡ (whole c.plan (listing old).left (is_end (listing old).stop)).matches
  finished_all (inl is) =
      let told = drove.whole_input is in
      let all = ended_all old new core.machine.events drove.given (drove.ends told) in
      finished_for (listing old).left (is_end (listing old).stop) all.0 (told ∙ sym all.1) (inl is)
  finished_all (inr stopped) =
      let stop = drove.stop stopped.0 stopped.1 in
      let all = stopped_all old new core.machine.events drove.given stopped.0 stop.0.1.0 in
      finished_for (listing old).left (is_end (listing old).stop) all.0 (stop.1 ∙ sym stop.0.1.1 ∙ ap is_end all.1) (inr stopped)

  -- over a list that had given none of these events, into an outlet that never fails
  pub gone_over : (q p : Plan) (events : List Event) (stop : Stop) → c.plan ≡ q → listing old ≡ listed p events stop → before.faults ≡ 0 → after.faults ≡ 0 → HasGoneOver q events stop core w
  gone_over q p events stop plan came none still = record {
    taken = λ is. never_rose before.faults after.faults none still (drove.refused is).0;
    all = λ through.
        finished_all through ∙ ap (λ (r : Plan). (whole r (listing old).left (is_end (listing old).stop)).matches) plan
        ∙ ap (λ (l : Listing). (whole q l.left (is_end l.stop)).matches) came;
  }

-- the first of some names is that of others of which none is gone
pub first_same : {X : Type 0} (n : ℕ) (x y : X) (xs ys : List X) → n ≡ 0 → x ∷ xs ≡ drop n (y ∷ ys) → x ≡ y
first_same zero x y xs ys none same = cc
first_same (suc n) x y xs ys none same = absurd (cc none)

-- what follows from what holds of a value, where there is one
pub if_ok_weaker : {X Y : Type 0} (r : Result X Y) (P Q : X → Type 0) → IfOk r P → ((x : X) → P x → Q x) → IfOk r Q
if_ok_weaker r P Q held more = IfOk-weaker r P Q more held

-- the matches of a part, moved on, where its core has gone over its events
pub found_moved : (q : Plan) (part : Part) (stop : Stop) (c : Running) (reason : Why) (own : List Match) → HasGoneOver q part.events stop c reason → is_end stop ≡ part.closed → IsThrough reason
    → own ≡ (seq c.plan c.machine.events c.machine.finished).matches → map (shifted part 0) own ≡ moved_matches q part
found_moved q part stop c reason own gone end through is =
    ap (map (shifted part 0)) (is ∙ gone.all through ∙ ap (λ (e : Bool). (whole q part.events e).matches) end)
