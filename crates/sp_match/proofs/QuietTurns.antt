-- Where nothing is told of an event, nothing was done to the runs.
use Rattle.std.proofs.Common.{◌≡◌, ℕ, Bool, true, false, List, [], ◌∷◌, ◌++◌, Option, Some, None, refl, sym, ◌∙◌}
use Rattle.std.specs.Prelude.{if◌then◌else◌}
use Rattle.std.proofs.lemmas.List.{append-nil}
use Rattle.sp_plan.specs.declared.plan.Plan.{Plan}
use Rattle.sp_plan.specs.Windows.{Numbered}
use Rattle.sp_plan.specs.Moves.{Told}
use Rattle.sp_match.specs.declared.turns.Reception.{Reception}
use Rattle.sp_match.specs.inside.Kept.{Kept}
use Rattle.sp_match.specs.inside.Effects.{is_skipped, offer_told, reception_after_offer, run_at, runs_after_offer}
use Rattle.sp_match.specs.inside.Turn.{IsTurn, departs_at, taken_at}

-- two lists that have nothing together
pub both_empty : {X : Type 0} (xs ys : List X) → xs ++ ys ≡ [] → (xs ≡ []) × (ys ≡ [])
both_empty [] ys e = (refl, e)
both_empty (x ∷ xs) ys e = absurd (cc e)

-- a list that goes on with something
pub never_empty : {X : Type 0} (xs ys : List X) (x : X) → xs ++ x ∷ ys ≡ [] → ⊥
never_empty [] ys x e = absurd (cc e)
never_empty (y ∷ xs) ys x e = absurd (cc e)

offer_quiet : (q : Plan) (leaves : Bool) (at : ℕ) (x : Numbered) (ks : List Kept) (o : Option ℕ) → offer_told q leaves at x ks o ≡ [] → runs_after_offer q leaves at x ks o ≡ ks
offer_quiet q leaves at x ks (Some name) e = absurd (cc e)
offer_quiet q true at x ks None e = absurd (cc e)
offer_quiet q false at x ks None e = refl

-- a turn of which nothing is told
pub turn_quiet : (q : Plan) (at : ℕ) (x : Numbered) (old new : List Kept) (before after : List Told) (so_far r : Reception) → IsTurn q at x old new before after so_far r
    → after ≡ [] → (before ≡ []) × (new ≡ old)
turn_quiet q at x old new before after so_far r turned none =
    (parts.0, turned.runs ∙ one (is_skipped so_far (run_at old at)) parts.1)
  where
    o : Option ℕ
    o = taken_at q at x old

    parts : (before ≡ []) × ((if is_skipped so_far (run_at old at) then [] else offer_told q (departs_at q at x old) at x old o) ≡ [])
    parts = both_empty before (if is_skipped so_far (run_at old at) then [] else offer_told q (departs_at q at x old) at x old o) (sym turned.told ∙ none)

    one : (b : Bool) → (if b then [] else offer_told q (departs_at q at x old) at x old o) ≡ [] → (if b then old else runs_after_offer q (departs_at q at x old) at x old o) ≡ old
    one true e = refl
    one false e = offer_quiet q (departs_at q at x old) at x old o e

-- the turn of a run that neither takes the event nor leaves for it
pub turn_passed : (q : Plan) (at : ℕ) (x : Numbered) (ks : List Kept) (ts : List Told) (r : Reception) → taken_at q at x ks ≡ None → departs_at q at x ks ≡ false → IsTurn q at x ks ks ts ts r r
turn_passed q at x ks ts r none stays = record { runs = one skipped; told = two skipped; received = three skipped }
  where
    skipped : Bool
    skipped = is_skipped r (run_at ks at)

    one : (b : Bool) → ks ≡ (if b then ks else runs_after_offer q (departs_at q at x ks) at x ks (taken_at q at x ks))
    one true = refl
    one false = λ i. runs_after_offer q (sym stays i) at x ks (sym none i)

    two : (b : Bool) → ts ≡ ts ++ (if b then [] else offer_told q (departs_at q at x ks) at x ks (taken_at q at x ks))
    two true = sym (append-nil ts)
    two false = sym (append-nil ts) ∙ λ i. ts ++ offer_told q (sym stays i) at x ks (sym none i)

    three : (b : Bool) → r ≡ (if b then r else reception_after_offer q x (run_at ks at) r (taken_at q at x ks))
    three true = refl
    three false = λ i. reception_after_offer q x (run_at ks at) r (sym none i)
