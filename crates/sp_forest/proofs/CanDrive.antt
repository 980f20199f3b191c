-- The parts of an input can be driven, and their matches numbered.
use Rattle.std.proofs.Common.{◌≡◌, ◌+◌, ◌-◌, ◌<◌, ◌≤◌, ◌^◌, Bool, true, false, List, [], ◌∷◌, length, sym, ◌∙◌, ap, subst, arith}
use Rattle.std.specs.List.{All}
use Rattle.std.proofs.lemmas.List.Elements.{All-nil, All-cons, All-head, All-tail, All-weaker}
use Rattle.sp_plan.specs.declared.event.Event.{Event}
use Rattle.sp_plan.specs.declared.found.Match.{Match}
use Rattle.sp_plan.specs.declared.plan.Plan.{Plan}
use Rattle.sp_plan.specs.Windows.{IsWindowed}
use Rattle.sp_window.specs.Laws.{AreFew, ClosedFirst}
use Rattle.sp_ports.specs.Giving.{AreGood}
use Rattle.sp_ports.specs.Stopping.{is_end}
use Rattle.sp_ports.specs.declared.stop.Stop.{Stop}
use Rattle.sp_forest.specs.Drivable.{CanBeDriven, CanBeNumbered, CanMove}
use Rattle.sp_forest.specs.Driving.{ArePartsOf}
use Rattle.sp_parts.specs.Laws.{AreParts, LiesWithin, MovesWithin, PartsFallApart, PartsLieWithin}
use Rattle.sp_parts.specs.Moving.{MoveOn}
use Rattle.sp_parts.specs.Parts.{Part}
use Rattle.sp_parts.specs.Shifted.{own_matches, shifted_all}
use Rattle.sp_forest.proofs.Few.{matches_few, matches_numbered, most_matches}

-- what two facts of each item lead to
all_both : {X : Type 0} (P Q R : X → Type 0) → ((x : X) → P x → Q x → R x) → (xs : List X) → All P xs → All Q xs → All R xs
all_both P Q R both [] ps qs = All-nil R
all_both P Q R both (x ∷ xs) ps qs =
    All-cons R x xs (both x (All-head P x xs ps) (All-head Q x xs qs)) (all_both P Q R both xs (All-tail P x xs ps) (All-tail Q x xs qs))

-- where the input has ended no part is open
none_open : (ended : Bool) (parts : List Part) → (ended ≡ true → All (λ part. part.closed ≡ true) parts) → All (λ part. part.closed ≡ false → ended ≡ false) parts
none_open true parts closed = All-weaker (λ part. part.closed ≡ true) (λ part. part.closed ≡ false → true ≡ false) (λ part is open_. cc) parts (closed (λ i. true))
none_open false parts closed = every parts
  where
    every : (ps : List Part) → All (λ part. part.closed ≡ false → false ≡ false) ps
    every [] = All-nil (λ part. part.closed ≡ false → false ≡ false)
    every (p ∷ ps) = All-cons (λ part. part.closed ≡ false → false ≡ false) p ps (λ open_ i. false) (every ps)

module _ (q : Plan) (few : (p : Plan) → IsWindowed p → AreFew p) (first : (p : Plan) → IsWindowed p → ClosedFirst p) (windowed : IsWindowed q) (events : List Event) (good : AreGood q events) where
  can_move : (part : Part) (found : Match) → MovesWithin q events part found → found.number ≤ most_matches → CanMove part found
  can_move part found moves number =
      let windows = few q windowed events good.good in
      let limit = good.few in
      let window = moves.window in record {
        number = omega arith;
        window = omega arith;
        used = All-weaker (λ n. n + (part.first - 1) ≤ length events) (λ n. n + (part.first - 1) < 2 ^ 32) (λ n low. omega arith) found.used moves.used;
        bound = All-weaker (λ pair. All (λ n. n + (part.first - 1) ≤ length events) pair.1) (λ pair. MoveOn (part.first - 1) pair.1)
            (λ pair low. All-weaker (λ n. n + (part.first - 1) ≤ length events) (λ n. n + (part.first - 1) < 2 ^ 32) (λ n low. omega arith) pair.1 low) found.bound moves.bound;
      }

  can_be_driven : (stop : Stop) (part : Part) → LiesWithin q events part → (part.closed ≡ false → is_end stop ≡ false) → CanBeDriven q stop part
  can_be_driven stop part lies open_ =
      let limit = good.few in
      let within = lies.within in
      let own : AreGood q part.events = record { good = lies.good; few = omega arith } in record {
        first = lies.first;
        good = own;
        moves = all_both (MovesWithin q events part) (λ found. found.number ≤ most_matches) (CanMove part) (can_move part) (own_matches q part) lies.moves
            (matches_numbered q (few q windowed) (first q windowed) part.events own.good own.few part.closed);
        open_stops = open_;
      }

module _ (few : (p : Plan) → IsWindowed p → AreFew p) (first : (p : Plan) → IsWindowed p → ClosedFirst p) (lie : PartsLieWithin) (fall : PartsFallApart) (q : Plan) (windowed : IsWindowed q) (stop : Stop) (parts : List Part) (are : ArePartsOf q stop parts) where
  abbrev events : List Event
  events = are.events

  pub all_drivable : All (CanBeDriven q stop) parts
  all_drivable =
      let within : AreParts q events (is_end stop) parts = subst (AreParts q events (is_end stop)) (sym are.are) (lie q events (is_end stop) windowed are.good.good.0 are.good.good.1) in
      all_both (LiesWithin q events) (λ part. part.closed ≡ false → is_end stop ≡ false) (CanBeDriven q stop) (can_be_driven q few first windowed events are.good stop) parts within.within
      (none_open (is_end stop) parts within.closed_at_end)

  pub all_numbered : CanBeNumbered q parts
  all_numbered =
      let own = fall q events (is_end stop) windowed are.good.good.0 are.good.good.1 in
      let same = own ∙ ap (shifted_all q) (sym are.are) in
      let many = matches_few q (few q windowed) (first q windowed) events are.good.good are.good.few (is_end stop) in
      let count = ap length same in record {
        numbers = subst (All (λ one. one.number < 2 ^ 64)) same
            (All-weaker (λ one. one.number ≤ most_matches) (λ one. one.number < 2 ^ 64) (λ one low. omega arith) _
            (matches_numbered q (few q windowed) (first q windowed) events are.good.good are.good.few (is_end stop)));
        few = omega arith;
      }
