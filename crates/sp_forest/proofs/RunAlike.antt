-- What a plan that runs in place of another has of it, and what trees have whose plans do.
use Rattle.std.proofs.Common.{◌≡◌, ℕ, List, [], ◌∷◌, length, map, refl, sym, ◌∙◌, ap, subst}
use Rattle.std.specs.Prelude.{◌==◌, ◌&&◌, true, pos, int_le}
use Rattle.std.specs.List.{All, list_all, zip}
use Rattle.std.proofs.lemmas.List.Elements.{All-nil, All-cons, All-head, All-tail, All-weaker}
use Rattle.sp_base.specs.Limits.{number_limit}
use Rattle.sp_plan.specs.declared.event.Event.{Event}
use Rattle.sp_plan.specs.declared.found.Match.{Match}
use Rattle.sp_plan.specs.declared.plan.Column.{Column}
use Rattle.sp_plan.specs.declared.plan.Plan.{Plan}
use Rattle.sp_plan.specs.Compiled.{IsCompiled}
use Rattle.sp_plan.specs.Events.{fits, fits_column}
use Rattle.sp_ports.specs.Giving.{AreGood}
use Rattle.sp_ports.specs.declared.stop.Stop.{Stop}
use Rattle.sp_parts.specs.declared.part.Part as kept
use Rattle.sp_parts.specs.Parts.{Part}
use Rattle.sp_parts.specs.Seen.{seen}
use Rattle.sp_parts.specs.Shifted.{shifted}
use Rattle.sp_parts.proofs.Places.{all_back, all_unmap}
use Rattle.sp_forest.specs.Alike.{RunsAs}
use Rattle.sp_forest.specs.Dealing.{AreDealt, woven}
use Rattle.sp_forest.specs.Drivable.{AreDrivable, CanBeDriven, CanMove, DroveFirst, moved_matches}
use Rattle.sp_forest.proofs.Passing.{all_alike}
use Rattle.sp_forest.proofs.PutOn.{all_first}
use Rattle.sp_forest.proofs.Weaving.{all_unwoven}

-- plans of the same columns take the same events
same_good : (q p : Plan) → q.schema.columns ≡ p.schema.columns → (events : List Event) → AreGood q events → AreGood p events
same_good q p same events are = record {
  good = (All-weaker (λ e. fits q e ≡ true) (λ e. fits p e ≡ true) fit events are.good.0, are.good.1);
  few = are.few;
}
  where
    fit : (e : Event) → fits q e ≡ true → fits p e ≡ true
    fit e is =
        ap (λ (columns : List Column). length columns == length e.values && list_all fits_column (zip columns e.values) && int_le (pos 0) e.time && int_le e.time (pos number_limit)) (sym same) ∙ is

module _ (q own : Plan) (runs : RunsAs q own) (stop : Stop) where
  -- it drives the parts that the other does
  drives : (part : Part) → CanBeDriven q stop part → CanBeDriven own stop part
  drives part can = record {
    first = can.first;
    good = same_good q own (sym runs.columns) part.events can.good;
    moves = subst (All (CanMove part)) (sym (runs.matches part.events part.closed can.good)) can.moves;
    open_stops = can.open_stops;
  }

  drives_all : (parts : List kept.Part) → AreDrivable q stop parts → AreDrivable own stop parts
  drives_all parts can = All-weaker (λ part. CanBeDriven q stop (seen part)) (λ part. CanBeDriven own stop (seen part)) (λ part. drives (seen part)) parts can

  -- and finds the same in them
  finds_same : (parts : List kept.Part) → AreDrivable own stop parts → map (λ part. moved_matches own (seen part)) parts ≡ map (λ part. moved_matches q (seen part)) parts
  finds_same [] can = refl
  finds_same (part ∷ parts) can =
      let good = same_good own q runs.columns part.events.items (All-head (λ one. CanBeDriven own stop (seen one)) part parts can).good in
      let same : moved_matches own (seen part) ≡ moved_matches q (seen part) = ap (map (shifted (seen part) 0)) (runs.matches part.events.items part.closed good) in
      let others = finds_same parts (All-tail (λ one. CanBeDriven own stop (seen one)) part parts can) in
      λ i. same i ∷ others i

-- trees whose plans run in place of one
module _ {T : Type 0} (plan : T → Plan) (q : Plan) where
  pub trees_compiled : (ts : List T) → All (λ t. RunsAs q (plan t)) ts → All (λ t. IsCompiled (plan t)) ts
  trees_compiled ts alike = All-weaker (λ t. RunsAs q (plan t)) (λ t. IsCompiled (plan t)) (λ t runs. runs.compiled) ts alike

  module _ (stop : Stop) where
    -- each can drive the parts that this one can
    pub trees_drive : (parts : List kept.Part) → AreDrivable q stop parts → (ts : List T) → All (λ t. RunsAs q (plan t)) ts → All (λ t. AreDrivable (plan t) stop parts) ts
    trees_drive parts can ts alike = All-weaker (λ t. RunsAs q (plan t)) (λ t. AreDrivable (plan t) stop parts) (λ t runs. drives_all q (plan t) runs stop parts can) ts alike

    -- and what they find in the parts that they have is what it does
    pub trees_find : (parts : T → List kept.Part) (ts : List T) → All (λ t. RunsAs q (plan t)) ts → All (λ t. AreDrivable (plan t) stop (parts t)) ts
        → map (λ t. map (λ part. moved_matches (plan t) (seen part)) (parts t)) ts ≡ map (λ t. map (λ part. moved_matches q (seen part)) (parts t)) ts
    trees_find parts [] alike can = refl
    trees_find parts (t ∷ ts) alike can =
        let same = finds_same q (plan t) (All-head (λ u. RunsAs q (plan u)) t ts alike) stop (parts t) (All-head (λ u. AreDrivable (plan u) stop (parts u)) t ts can) in
        let others = trees_find parts ts (All-tail (λ u. RunsAs q (plan u)) t ts alike) (All-tail (λ u. AreDrivable (plan u) stop (parts u)) t ts can) in
        λ i. same i ∷ others i

-- what each tree says of all items it says of its own, where what is true of all is true of those of each
pub each_own : {T X : Type 0} (P : T → X → Type 0) (own : T → List X) (xs : List X) (ts : List T) → ((Q : X → Type 0) → All Q xs → All (λ t. All Q (own t)) ts)
    → All (λ t. All (P t) xs) ts → All (λ t. All (P t) (own t)) ts
each_own P own xs [] within held = All-nil (λ t. All (P t) (own t))
each_own P own xs (t ∷ ts) within held =
    All-cons (λ u. All (P u) (own u)) t ts (All-head (λ u. All (P t) (own u)) t ts (within (P t) (All-head (λ u. All (P u) xs) t ts held)))
    (each_own P own xs ts (λ Q all. All-tail (λ u. All Q (own u)) t ts (within Q all)) (All-tail (λ u. All (P u) xs) t ts held))

-- each of the trees to which parts were dealt can drive those that it has, where it could drive all that waited
pub trees_ready : {T A : Type 0} (plan : T → A) (by : A → Plan) (parts : T → List kept.Part) (stop : Stop) (waiting left : List kept.Part) (groups : ℕ) (old ts : List T)
    → map plan ts ≡ map plan old → AreDealt waiting groups (map parts ts) left → All (λ t. AreDrivable (by (plan t)) stop waiting) old → All (λ t. AreDrivable (by (plan t)) stop (parts t)) ts
trees_ready plan by parts stop waiting left groups old ts same dealt can =
    each_own (λ t part. CanBeDriven (by (plan t)) stop (seen part)) parts waiting ts
    (λ P held. all_unmap (All P) parts ts (all_unwoven P groups (map parts ts) dealt.short (all_first P (woven groups (map parts ts)) left (subst (All P) dealt.in_order held))))
    (all_alike (λ p. AreDrivable (by p) stop waiting) plan plan old ts same can)

-- what is left after a round can be driven as all that waited
pub left_drivable : (q : Plan) (stop : Stop) (waiting left : List kept.Part) (found : List (List Match)) → DroveFirst q waiting left found → AreDrivable q stop waiting → AreDrivable q stop left
left_drivable q stop waiting left found drove can = all_back (λ part. CanBeDriven q stop (seen part)) drove.driven left (subst (AreDrivable q stop) drove.are can)
