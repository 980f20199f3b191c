-- What whoever lends events to a piece owes.
use Rattle.std.specs.Prelude.{ℕ, ◌+◌, ◌≤◌, false, List, [], ◌∷◌, None, length}
use Rattle.std.specs.Coded.{Coded, Coded-set, Unit-prop, coded_bool, coded_option, coded_ℕ, prop_coded, Π_prop, ×_prop}
use Rattle.std.specs.List.{AllZip}
use Rattle.sp_plan.specs.declared.event.Event.{Event}
use Rattle.sp_plan.specs.declared.plan.Plan.{Plan}
use Rattle.sp_plan.specs.Events.{AllFit}
use Rattle.sp_plan.specs.Runs.{guarded, takes}
use Rattle.sp_match.specs.declared.known.Known.{Known}
use Rattle.sp_match.specs.declared.known.Known.TheVariants.{Never, Onward, Any}
use Rattle.sp_match.specs.public.Known.{IsKnown}
use Rattle.sp_match.specs.public.Laws.{Below}
use Rattle.sp_match.specs.public.Matching.{Matching, runs_of}

-- that what is known of an event is so has one proof at most
pub known-prop : (q : Plan) (e : Event) (k : Known) → IsProp (IsKnown q e k)
known-prop q e Never = Π_prop (λ run. ×_prop (Coded-set (coded_option coded_ℕ) (takes q run e) None) (Coded-set coded_bool (guarded q run e) false))
known-prop q e Onward = Coded-set (coded_option coded_ℕ) (takes q [] e) None
known-prop q e Any = Unit-prop

-- and so has that it is so of several
pub all_known-prop : (q : Plan) (events : List Event) (known : List Known) → IsProp (AllZip (IsKnown q) events known)
all_known-prop q [] [] = Unit-prop
all_known-prop q [] (k ∷ known) = λ a b. absurd a
all_known-prop q (e ∷ events) [] = λ a b. absurd a
all_known-prop q (e ∷ events) (k ∷ known) = ×_prop (known-prop q e k) (all_known-prop q events known)

-- its code
pub coded_all_known : (q : Plan) (events : List Event) (known : List Known) → Coded (AllZip (IsKnown q) events known)
coded_all_known q events known = prop_coded (all_known-prop q events known)

-- The matcher can read these events, the first of which has that number: they fit its plan, and this is known of each of them; the first
-- number is above each number that an open run holds and above the count of runs; and no event's number passes 1,048,576.
pub record IsLendable (before : Matching) (events : List Event) (known : List Known) (first : ℕ) : Type 0 where
  pub fit : AllFit before.plan events
  pub known_are : AllZip (IsKnown before.plan) events known
  pub below : Below first (runs_of before)
  pub few : first + length events ≤ 1048577
