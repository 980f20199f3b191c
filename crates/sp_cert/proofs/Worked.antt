-- The proofs of worked rows, by computation.
use Rattle.std.proofs.Common.{◌≡◌, ℕ, pos, Bool, true, false, List, [], ◌∷◌, refl}
use Rattle.std.specs.Prelude.{codes}
use Rattle.std.specs.Fmt.{digits}
use Rattle.sp_plan.specs.declared.event.Event.{Event}
use Rattle.sp_plan.specs.declared.plan.Plan.{Plan}
use Rattle.sp_plan.specs.declared.plan.Element.TheVariants.{One}
use Rattle.sp_plan.specs.declared.plan.Select.TheVariants.{First, Each}
use Rattle.sp_plan.specs.declared.plan.Length.TheVariants.{Events, Time}
use Rattle.sp_plan.specs.declared.plan.Opening.TheVariants.{EveryEvents, EveryTime}
use Rattle.sp_plan.proofs.Worked.{plan, event, events, is, names_ab, a_then_b}
use Rattle.sp_listing.specs.Listing.{listing_text}
use Rattle.sp_cert.specs.Proofs.{proofs}

-- what is written of the proofs of an input
abbrev listed : Plan → List Event → Bool → List ℕ
listed q es ended = listing_text q (proofs q es ended)

abbrev abab : List Event
abab = events (0 ∷ 1 ∷ 0 ∷ 1 ∷ [])

-- the second window has lost what the first one used
lost : listed (plan (names_ab true true) a_then_b First (Events 4) (EveryEvents 2)) abab true
    ≡ codes "p w=1 from=1 to=4 skip=- used=1,2,3,4\nw=1 m=1 A=1 B=2 used=1,2\nw=1 m=2 A=3 B=4 used=3,4\np w=2 from=3 to=4 skip=3,4 used=-\n"
unfolding digits
lost = refl

-- while input goes on the second window is open, and has no entry
open_window : listed (plan (names_ab true true) a_then_b First (Events 4) (EveryEvents 2)) abab false
    ≡ codes "p w=1 from=1 to=4 skip=- used=1,2,3,4\nw=1 m=1 A=1 B=2 used=1,2\nw=1 m=2 A=3 B=4 used=3,4\n"
unfolding digits
open_window = refl

-- where nothing is consumed nothing is skipped, and the numbers of matches go on from window to window
nothing_consumed : listed (plan (names_ab false false) a_then_b First (Events 4) (EveryEvents 2)) abab true
    ≡ codes "p w=1 from=1 to=4 skip=- used=-\nw=1 m=1 A=1 B=2 used=-\nw=1 m=2 A=3 B=4 used=-\np w=2 from=3 to=4 skip=- used=-\nw=2 m=3 A=3 B=4 used=-\n"
unfolding digits
nothing_consumed = refl

-- two matches use numbers by turns: the entry has them in order
by_turns : listed (plan (names_ab true true) a_then_b Each (Events 4) (EveryEvents 4)) (events (0 ∷ 0 ∷ 1 ∷ 1 ∷ [])) true
    ≡ codes "p w=1 from=1 to=4 skip=- used=1,2,3,4\nw=1 m=1 A=1 B=3 used=1,3\nw=1 m=2 A=2 B=4 used=2,4\n"
unfolding digits
by_turns = refl

-- only what lies in a window is skipped there: the second one has lost event 2, which the third doesn't hold
skipped_within : listed (plan (names_ab false true) a_then_b First (Events 3) (EveryEvents 1)) (events (0 ∷ 1 ∷ 1 ∷ [])) true
    ≡ codes "p w=1 from=1 to=3 skip=- used=2\nw=1 m=1 A=1 B=2 used=2\np w=2 from=2 to=3 skip=2 used=-\np w=3 from=3 to=3 skip=- used=-\n"
unfolding digits
skipped_within = refl

-- two spans of time begin at one event, which the first of them uses
spans : listed (plan (is (codes "A") 0 true ∷ []) (One 0 ∷ []) First (Time (pos 10)) (EveryTime (pos 5))) (event 1 0 ∷ event 100 0 ∷ []) true
    ≡ codes "p w=1 from=1 to=1 skip=- used=1\nw=1 m=1 A=1 used=1\np w=2 from=2 to=2 skip=- used=2\nw=2 m=2 A=2 used=2\np w=3 from=2 to=2 skip=2 used=-\n"
unfolding digits
spans = refl

-- without an event there is no window, and no entry
none : listed (plan (names_ab true true) a_then_b First (Events 4) (EveryEvents 2)) [] true ≡ []
none = refl
