-- What is true of the proofs of a run, and of their check.
use Rattle.std.specs.Prelude.{◌≡◌, ◌↔◌, ℕ, Bool, List, length, take}
use Rattle.sp_base.specs.Numbers.{is_among}
use Rattle.sp_plan.specs.declared.event.Event.{Event}
use Rattle.sp_plan.specs.declared.plan.Plan.{Plan}
use Rattle.sp_plan.specs.WindowNumbers.{Good}
use Rattle.sp_plan.specs.Sequential.{seq, whole}
use Rattle.sp_listing.specs.Listing.{Entry}
use Rattle.sp_cert.specs.Proofs.{first_proofs, proofs, matches_of, used_of}
use Rattle.sp_cert.specs.Checking.{AreRight}

-- The proofs of a run tell its matches, in order; and the numbers that those of the first n windows tell as used are those that these consumed.
pub record TellTheRun (q : Plan) : Type 0 where
  pub matches_are : (events : List Event) (ended : Bool) → matches_of (proofs q events ended) ≡ (whole q events ended).matches
  pub used_are : (events : List Event) (n number : ℕ) → is_among (used_of (first_proofs q events n)) number ≡ is_among (seq q events n).consumed number

-- Entries are each right by itself and behind those before it exactly where they are the first proofs.
abbrev pub RightAreProofs : Plan → Type 0
RightAreProofs q = (events : List Event) (ended : Bool) (entries : List Entry) → Good q events
    → AreRight q events ended entries ↔ (entries ≡ take (length entries) (proofs q events ended))
