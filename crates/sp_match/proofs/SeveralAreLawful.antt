-- Several events, one after another, keep what one keeps; and an open run has no match.
use Rattle.std.proofs.Common.{◌≡◌, ℕ, ◌+◌, ◌<◌, ◌≤◌, Bool, true, false, List, [], ◌∷◌, refl, arith}
use Rattle.std.specs.List.{All, fold}
use Rattle.std.proofs.lemmas.List.Elements.{All-weaker}
use Rattle.sp_plan.specs.declared.plan.Plan.{Plan}
use Rattle.sp_plan.specs.Windows.{Numbered}
use Rattle.sp_plan.specs.Runs.{Pair, Started, State, handle}
use Rattle.sp_match.specs.public.Laws.{Sound, Leads, Below, RisesWithin, SeveralAreLawful, OpenHasNoMatch, is_matched}
use Rattle.sp_match.proofs.NumbersStayBelow.{numbers_stay_below}
use Rattle.sp_match.proofs.RunsAreSound.{sound_handled}
use Rattle.sp_match.proofs.GroupsGrow.{apart}
use Rattle.sp_match.proofs.MovesLeadOn.{leads_same, leads_on, handling_is_lawful}

sound_several : (q : Plan) (s : State) (events : List Numbered) → Sound s → Sound (fold (handle q) s events)
sound_several q s [] sound = sound
sound_several q s (x ∷ events) sound = sound_several q (handle q s x) events (sound_handled q s x sound)

leads_several : (q : Plan) (s : State) (events : List Numbered) → Sound s → Leads q s (fold (handle q) s events)
leads_several q s [] sound = leads_same q s sound
leads_several q s (x ∷ events) sound =
    leads_on q s (handle q s x) (fold (handle q) (handle q s x) events) sound (handling_is_lawful.handled_leads q s x sound)
    (leads_several q (handle q s x) events (sound_handled q s x sound))

-- what is below a bound is below a greater one
below_more : (low high : ℕ) (s : State) → low ≤ high → Below low s → Below high s
below_more low high s le below = record {
  events = All-weaker (λ (run : Started). All (λ (pair : Pair). pair.number < low) run.1) (λ (run : Started). All (λ (pair : Pair). pair.number < high) run.1)
      (λ run all. All-weaker (λ (pair : Pair). pair.number < low) (λ (pair : Pair). pair.number < high) (λ pair less. omega arith) run.1 all) s.open_runs below.events;
  started = let less = below.started in omega arith;
}

below_several : (q : Plan) (s : State) (events : List Numbered) (low high : ℕ) → Below low s → RisesWithin low events high → Below high (fold (handle q) s events)
below_several q s [] low high below le = below_more low high s le below
below_several q s (x ∷ events) low high below rises =
    below_several q (handle q s x) events (x.0 + 1) high (numbers_stay_below q s x (below_more low x.0 s rises.0 below)) rises.1

-- the law of several events
pub several_are_lawful : SeveralAreLawful
several_are_lawful = record { sound = sound_several; leads = leads_several; below = below_several }

-- the law of open runs
pub open_has_no_match : OpenHasNoMatch
open_has_no_match s r sound opened = one (is_matched s r) refl
  where
    one : (b : Bool) → is_matched s r ≡ b → b ≡ false
    one true is = absurd (apart s r sound opened is)
    one false is = refl
