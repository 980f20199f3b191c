-- Checks of worked listings, by computation: a run of two matches, the second of whose windows has lost what the first used.
use Rattle.std.proofs.Common.{◌≡◌, ℕ, true, List, [], ◌∷◌, length, Option, Some, None, refl, ap, subst, arith}
use Rattle.std.specs.Prelude.{codes}
use Rattle.std.specs.Fmt.{digits}
use Rattle.sp_plan.specs.declared.found.Match.{Match}
use Rattle.sp_plan.specs.declared.plan.Plan.{Plan}
use Rattle.sp_plan.specs.declared.plan.Select.TheVariants.{First}
use Rattle.sp_plan.specs.declared.plan.Length.TheVariants.{Events}
use Rattle.sp_plan.specs.declared.plan.Opening.TheVariants.{EveryEvents}
use Rattle.sp_plan.proofs.Worked.{plan, events, names_ab, a_then_b}
use Rattle.sp_listing.specs.Listing.{Entry}
use Rattle.sp_cert.specs.Proofs.{proofs}
use Rattle.sp_cert.specs.Verdicts.{DiffersFirst}
use Rattle.sp_ports.specs.declared.stop.Stop.TheVariants.{End}
use Rattle.sp_answer.specs.Outcome.{outcome, nothing_for}
use Rattle.sp_answer.specs.declared.status.Status.TheVariants.{Done, ListingWindow}
use Rattle.sp_commands.specs.Check.{ListingOutcome, right, wrong}
use Rattle.sp_commands.specs.Ends.{Came}

abbrev query : Plan
query = plan (names_ab true true) a_then_b First (Events 4) (EveryEvents 2)

abbrev read_whole : Came
read_whole = record { events = events (0 ∷ 1 ∷ 0 ∷ 1 ∷ []); stop = End; status = Done }

-- the two matches, and an entry for each window
abbrev one_match : Match
one_match = record { window = 1; number = 1; bound = (0, 1 ∷ []) ∷ (1, 2 ∷ []) ∷ []; used = 1 ∷ 2 ∷ [] }

abbrev other_match : Match
other_match = record { window = 1; number = 2; bound = (0, 3 ∷ []) ∷ (1, 4 ∷ []) ∷ []; used = 3 ∷ 4 ∷ [] }

abbrev first_window : List Match → Entry
first_window matches = record { window = 1; first = 1; last = 4; skipped = []; used = 1 ∷ 2 ∷ 3 ∷ 4 ∷ []; matches = matches }

abbrev second_window : List ℕ → Entry
second_window skipped = record { window = 2; first = 3; last = 4; skipped = skipped; used = []; matches = [] }

abbrev listing : List Entry
listing = first_window (one_match ∷ other_match ∷ []) ∷ second_window (3 ∷ 4 ∷ []) ∷ []

is_listing : listing ≡ proofs query read_whole.events true
is_listing = refl

-- the listing of the run is right
says_yes : ListingOutcome query listing read_whole (outcome Done (codes "yes windows=2 matches=2\n"))
unfolding digits
says_yes = right refl is_listing

-- without the line of its second match it is wrong at the first window
abbrev match_count : Option Entry → ℕ
match_count None = 0
match_count (Some e) = length e.matches

lacks_a_match : ListingOutcome query (first_window (one_match ∷ []) ∷ second_window (3 ∷ 4 ∷ []) ∷ []) read_whole (nothing_for (ListingWindow 1))
lacks_a_match = wrong 1 refl (subst (λ (right : List Entry). DiffersFirst (first_window (one_match ∷ []) ∷ second_window (3 ∷ 4 ∷ []) ∷ []) right 1) is_listing (record {
  low = omega arith;
  before = refl;
  differs = λ e. let count : 1 ≡ 2 = ap match_count e in absurd (omega (arith, count));
}))

-- and with less skipped at the second
abbrev skipped_count : Option Entry → ℕ
skipped_count None = 0
skipped_count (Some e) = length e.skipped

skips_less : ListingOutcome query (first_window (one_match ∷ other_match ∷ []) ∷ second_window (3 ∷ []) ∷ []) read_whole (nothing_for (ListingWindow 2))
skips_less = wrong 2 refl (subst (λ (right : List Entry). DiffersFirst (first_window (one_match ∷ other_match ∷ []) ∷ second_window (3 ∷ []) ∷ []) right 2) is_listing (record {
  low = omega arith;
  before = refl;
  differs = λ e. let count : 1 ≡ 2 = ap skipped_count e in absurd (omega (arith, count));
}))
