-- Texts of a query and of a listing have one outcome over bytes, since plans of one query read the same listings and have the same proofs of a run.
use Rattle.std.proofs.Common.{◌≡◌, ℕ, Bool, true, false, List, refl, sym, ◌∙◌, ap, subst}
use Rattle.std.specs.Prelude.{slice_get, ◌-◌}
use Rattle.sp_plan.specs.declared.plan.Plan.{Plan}
use Rattle.sp_listing.specs.Listing.{Entry, IsListing, IsBadLine, OneListing}
use Rattle.sp_cert.specs.Verdicts.{DiffersFirst}
use Rattle.sp_load.specs.Laws.{OneReading}
use Rattle.sp_load.specs.Queries.{IsPlanFor}
use Rattle.sp_answer.specs.Outcome.{Outcome, nothing_for}
use Rattle.sp_answer.specs.declared.status.Status.TheVariants.{Query, ListingLine, ListingWindow}
use Rattle.sp_commands.specs.Alike.{Alike}
use Rattle.sp_commands.specs.Check.{ListingOutcome, stopped, right, wrong, TextsOutcome, faulty, bad_line, checks}
use Rattle.sp_commands.specs.Ends.{Came, came}
use Rattle.sp_commands.proofs.AlikeListings.{proofs_same, listing_same, bad_line_same}
use Rattle.sp_commands.proofs.Differing.{one_difference}
use Rattle.sp_commands.proofs.OneRun.{OneTruth, stand_alike, came_same}

-- entries that are the same differ nowhere
pub same_differ_not : (xs ys : List Entry) (n : ℕ) → xs ≡ ys → DiffersFirst xs ys n → ⊥
same_differ_not xs ys n same differ = differ.differs (ap (λ (zs : List Entry). slice_get zs (n - 1)) same)

pub not_both : (b : Bool) → b ≡ false → b ≡ true → ⊥
not_both b no_end end = let clash : false ≡ true = sym no_end ∙ end in absurd (cc clash)

-- entries have one outcome
pub one_of_entries : (q : Plan) (entries : List Entry) (c : Came) (a b : Outcome) → ListingOutcome q entries c a → ListingOutcome q entries c b → a ≡ b
one_of_entries q entries c _ _ (stopped early) (stopped also) = refl
one_of_entries q entries c _ _ (stopped early) (right end same) = absurd (not_both _ early end)
one_of_entries q entries c _ _ (stopped early) (wrong window end differ) = absurd (not_both _ early end)
one_of_entries q entries c _ _ (right end same) (stopped early) = absurd (not_both _ early end)
one_of_entries q entries c _ _ (right end same) (right also so) = refl
one_of_entries q entries c _ _ (right end same) (wrong window also differ) = absurd (same_differ_not _ _ window same differ)
one_of_entries q entries c _ _ (wrong window end differ) (stopped early) = absurd (not_both _ early end)
one_of_entries q entries c _ _ (wrong window end differ) (right also same) = absurd (same_differ_not _ _ window same differ)
one_of_entries q entries c _ _ (wrong window end differ) (wrong other also more) = ap (λ (n : ℕ). nothing_for (ListingWindow n)) (one_difference _ _ window other differ more)

-- plans that are alike give entries one outcome
module _ (q p : Plan) (alike : Alike q p) (entries : List Entry) where
  outcome_same : (c : Came) (o : Outcome) → ListingOutcome q entries c o → ListingOutcome p entries c o
  outcome_same c _ (stopped early) = stopped early
  outcome_same c _ (right end same) = right end (same ∙ proofs_same q p alike c.events true)
  outcome_same c _ (wrong window end differ) = wrong window end (subst (λ (es : List Entry). DiffersFirst entries es window) (proofs_same q p alike c.events true) differ)

  pub check_same : (bytes : List ℕ) (ended : Bool) (o : Outcome) → ListingOutcome q entries (came q bytes ended) o → ListingOutcome p entries (came p bytes ended) o
  check_same bytes ended o is = subst (λ (c : Came). ListingOutcome p entries c o) (came_same q p alike bytes ended) (outcome_same (came q bytes ended) o is)

module _ (reading : OneReading) (law : OneListing) (truth : OneTruth) (query listing : List ℕ) where
  -- plans of the query's text are alike
  plans_alike : (q p : Plan) → IsPlanFor query q → IsPlanFor query p → Alike q p
  plans_alike q p one other =
      let both = reading.plans query q p one other in
      stand_alike truth both.0 q p both.1.stands both.2.stands

  -- what the listing comes to by one of them, it comes to by another
  pub check_by : (q p : Plan) (entries others : List Entry) → IsPlanFor query q → IsPlanFor query p → IsListing q listing entries → IsListing p listing others → (bytes : List ℕ) (ended : Bool)
      (o : Outcome) → ListingOutcome q entries (came q bytes ended) o → ListingOutcome p others (came p bytes ended) o
  check_by q p entries others one other is so bytes ended o comes =
      let alike = plans_alike q p one other in
      subst (λ (es : List Entry). ListingOutcome p es (came p bytes ended) o) (law.entries p listing entries others (listing_same q p alike listing entries is) so)
      (check_same q p alike entries bytes ended o comes)

  -- a listing by one of them has no bad line by another
  pub not_bad : (q p : Plan) (entries : List Entry) (line : ℕ) → IsPlanFor query q → IsPlanFor query p → IsListing p listing entries → IsBadLine q listing line → ⊥
  not_bad q p entries line one other is bad = law.apart p listing entries line is (bad_line_same q p (plans_alike q p one other) listing line bad)

  module _ (bytes : List ℕ) (ended : Bool) where
    pub one_check : (a b : Outcome) → TextsOutcome query listing bytes ended a → TextsOutcome query listing bytes ended b → a ≡ b
    one_check _ _ (faulty code at fault) (faulty code' at' other) =
        let same = reading.faults query code at code' at' fault other in
        λ i. nothing_for (Query (same.0 i) (same.1 i))
    one_check _ _ (faulty code at fault) (bad_line q line plan bad) = absurd (reading.apart query q code at plan fault)
    one_check _ _ (faulty code at fault) (checks q entries o plan is comes) = absurd (reading.apart query q code at plan fault)
    one_check _ _ (bad_line q line plan bad) (faulty code at fault) = absurd (reading.apart query q code at plan fault)
    one_check _ _ (bad_line q line plan bad) (bad_line p other also worse) =
        ap (λ (n : ℕ). nothing_for (ListingLine n)) (law.bad p listing line other (bad_line_same q p (plans_alike q p plan also) listing line bad) worse)
    one_check _ _ (bad_line q line plan bad) (checks p entries o also is comes) =
        absurd (not_bad q p entries line plan also is bad)
    one_check _ _ (checks q entries o plan is comes) (faulty code at fault) = absurd (reading.apart query q code at plan fault)
    one_check _ _ (checks q entries o plan is comes) (bad_line p line also bad) =
        absurd (not_bad p q entries line also plan is bad)
    one_check _ _ (checks q entries o plan is comes) (checks p others u also so goes) =
        one_of_entries p others (came p bytes ended) o u (check_by q p entries others plan also is so bytes ended o comes) goes
