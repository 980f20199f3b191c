-- The handling goes through the runs that were open when the event came.
use Rattle.std.proofs.Common.{◌≡◌, ℕ, ◌+◌, ◌<◌, ◌≤◌, cond, not, List, [], ◌∷◌, ◌++◌, map, length, take, drop, get_or, Some, refl, sym, ap, subst, ◌∙◌, arith}
use Rattle.std.specs.Prelude.{if◌then◌else◌}
use Rattle.std.specs.List.{All, filter}
use Rattle.std.proofs.lemmas.List.{append-nil, drop_more, get_or-map, get_or_at, length-map, take_more}
use Rattle.std.proofs.lemmas.List.Elements.{All-head, All-tail}
use Rattle.std.proofs.lemmas.List.Sums.{fold_push}
use Rattle.sp_base.specs.Numbers.{is_among}
use Rattle.sp_plan.specs.declared.plan.Plan.{Plan}
use Rattle.sp_plan.specs.Windows.{Numbered}
use Rattle.sp_plan.specs.Runs.{Started, State, departs, takes}
use Rattle.sp_plan.specs.Moves.{Acting, Told, act_run}
use Rattle.sp_match.specs.declared.turns.Reception.{Reception}
use Rattle.sp_match.specs.declared.turns.Reception.TheVariants.{Passed}
use Rattle.sp_match.specs.inside.Kept.{Kept, before, empty, pairs, started, stays}
use Rattle.sp_match.specs.inside.Good.{Good, NumbersBelow, Undoes}
use Rattle.sp_match.specs.inside.Effects.{runs_after_offer, offer_told, is_skipped, run_after_use, open_runs, reception_after_offer, run_at, run_with_event}
use Rattle.sp_match.specs.inside.Shows.{Shows}
use Rattle.sp_match.specs.inside.Tally.{Tally, is_leaving}
use Rattle.sp_match.proofs.GrownRunIsGood.{before_below, before_bound, good_fate}
use Rattle.sp_match.specs.inside.Turn.{IsTurn}
use Rattle.sp_match.specs.inside.Going.{Going, IsIdle, IsReady, acted_by, none_takes, standing}
use Rattle.sp_match.proofs.RunNumbersRise.{Rising}
use Rattle.sp_match.proofs.MovesAreHandling.{ordered_rises}
use Rattle.sp_match.proofs.RunsAfterBinding.{none_after_use}
use Rattle.sp_match.proofs.RunNumbersStay.{rising_same, same_numbers}
use Rattle.sp_match.proofs.TakenIsNamed.{takes_named}
use Rattle.sp_match.proofs.TurnGoesOn.{Gone, turn_goes}

-- one run further
pub going_more : (q : Plan) (x : Numbered) (s : State) (count i : ℕ) (old ks new : List Kept) (ts told : List Told) (r r' : Reception) → length q.names ≤ 32 → IsReady q x.0 count old → i < length old → Undoes q x.0 old ks
    → Going q x s old i ks ts r → IsTurn q i x ks new ts told r r' → Going q x s old (i + 1) new told r'
going_more q x s count i old ks new ts told r r' few ready within undoes going turned =
    record {
      shows = subst (λ (b : Acting). Shows q s b new told) (sym act) gone.shows;
      front = (gone.front.0, gone.front.1 ∙ ap (λ (m : ℕ). m + 1) going.front.1, gone.front.2 ∙ ap (λ (b : Acting). gone.front.0 ++ map (run_after_use b.taken) rest) (sym act));
      tally = subst (λ (b : Acting). All (Tally x.0 b.moves) new) (sym act) gone.tally;
      used = gone.used ∙ ap (λ (b : Acting). is_among b.taken x.0) (sym act);
      taken = gone.taken ∙ ap (λ (l : List Started). not (none_takes q x l)) (sym all);
      unused = λ e. ap (λ (b : Acting). b.taken) act ∙ gone.unused e;
    }
  where
    k0 : Kept
    k0 = get_or old i (empty 0)

    done : List Started
    done = take i (map started old)

    rest : List Kept
    rest = drop (i + 1) old

    a : Acting
    a = acted_by q x s done

    fs : List Kept
    fs = going.front.0

    k : Kept
    k = run_after_use a.taken k0

    row : List Kept
    row = fs ++ k ∷ map (run_after_use a.taken) rest

    long : length (map started old) ≡ length old
    long = length-map old started

    all : take (i + 1) (map started old) ≡ done ++ started k0 ∷ []
    all = take_more (map started old) i (started k0) (let l = long in let w = within in omega arith) ∙ ap (λ (m : Started). done ++ m ∷ []) (get_or-map started old i (empty 0) (started k0) within)

    act : acted_by q x s (take (i + 1) (map started old)) ≡ act_run q x a (started k0)
    act = ap (acted_by q x s) all ∙ fold_push (act_run q x) (record { moves = []; now = s; taken = [] }) done (started k0)

    row_is : ks ≡ row
    row_is = going.front.2 ∙ ap (λ (l : List Kept). fs ++ map (run_after_use a.taken) l) (drop_more old i (empty 0) within)

    at : run_at row (length fs) ≡ k
    at = get_or_at fs k (map (run_after_use a.taken) rest) (empty 0) (length fs) refl

    idle : IsIdle k0
    idle = ready.idle i (empty 0) within

    good : Good q k0
    good = ready.good i (empty 0) within

    back_is : (name : ℕ) → takes q (pairs k0) x.1 ≡ Some name → before x.0 (run_with_event q name x k) ≡ before x.0 k
    back_is name is = before_bound q name x k (good_fate q k.fate k0 good) (let named = takes_named q (pairs k0) x.1 name is in omega (arith, named, few)) (ready.below i (empty 0) within)

    up : Rising 0 count (map started row)
    up = subst (λ (l : List Kept). Rising 0 count (map started l)) row_is (rising_same 0 count old ks (same_numbers q x.0 old ks undoes) (ordered_rises (standing count old) ready.ordered))

    turn_at : IsTurn q (length fs) x row new ts told r r'
    turn_at = subst (λ (l : List Kept). IsTurn q (length fs) x l new ts told r r') row_is (subst (λ (m : ℕ). IsTurn q m x ks new ts told r r') (sym going.front.1) turned)

    goes : Gone q x s (act_run q x a (started k0)) (done ++ started k0 ∷ []) rest (length fs + 1)
        (if is_skipped r k then row else runs_after_offer q (departs q (pairs k0) x.1) (length fs) x row (takes q (pairs k0) x.1))
        (ts ++ (if is_skipped r k then [] else offer_told q (departs q (pairs k0) x.1) (length fs) x row (takes q (pairs k0) x.1))) (if is_skipped r k then r else reception_after_offer q x k r (takes q (pairs k0) x.1))
    goes = turn_goes q x s fs rest k0 count a done ts r idle back_is good.same_names good.used_is up (subst (λ (l : List Kept). Shows q s a l ts) row_is going.shows) (subst (All (Tally x.0 a.moves)) row_is going.tally) going.used going.taken going.unused

    runs_are : new ≡ (if is_skipped r k then row else runs_after_offer q (departs q (pairs k0) x.1) (length fs) x row (takes q (pairs k0) x.1))
    runs_are = turn_at.runs ∙ ap (λ (m : Kept). if is_skipped r m then row else runs_after_offer q (departs q (pairs m) x.1) (length fs) x row (takes q (pairs m) x.1)) at

    told_is : told ≡ ts ++ (if is_skipped r k then [] else offer_told q (departs q (pairs k0) x.1) (length fs) x row (takes q (pairs k0) x.1))
    told_is = turn_at.told ∙ ap (λ (m : Kept). ts ++ (if is_skipped r m then [] else offer_told q (departs q (pairs m) x.1) (length fs) x row (takes q (pairs m) x.1))) at

    received_is : r' ≡ (if is_skipped r k then r else reception_after_offer q x k r (takes q (pairs k0) x.1))
    received_is = turn_at.received ∙ ap (λ (m : Kept). if is_skipped r m then r else reception_after_offer q x m r (takes q (pairs m) x.1)) at

    gone : Gone q x s (act_run q x a (started k0)) (done ++ started k0 ∷ []) rest (length fs + 1) new told r'
    gone =
        subst (λ (l : List Kept). Gone q x s (act_run q x a (started k0)) (done ++ started k0 ∷ []) rest (length fs + 1) l told r') (sym runs_are)
        (subst (λ (l : List Told). Gone q x s (act_run q x a (started k0)) (done ++ started k0 ∷ []) rest (length fs + 1)
        (if is_skipped r k then row else runs_after_offer q (departs q (pairs k0) x.1) (length fs) x row (takes q (pairs k0) x.1)) l r') (sym told_is)
        (subst (λ (p : Reception). Gone q x s (act_run q x a (started k0)) (done ++ started k0 ∷ []) rest (length fs + 1)
        (if is_skipped r k then row else runs_after_offer q (departs q (pairs k0) x.1) (length fs) x row (takes q (pairs k0) x.1))
        (ts ++ (if is_skipped r k then [] else offer_told q (departs q (pairs k0) x.1) (length fs) x row (takes q (pairs k0) x.1))) p) (sym received_is) goes))

-- all runs stay where no event is being handled
pub open_all : (ks : List Kept) → All IsIdle ks → open_runs ks ≡ map started ks
open_all [] idle = refl
open_all (k ∷ ks) idle =
    let here = All-head IsIdle k ks idle in
    (λ i. map started (cond (stays (here i)) (k ∷ filter (λ k. stays k.fate) ks) (filter (λ k. stays k.fate) ks)))
    ∙ ap (λ (l : List Started). started k ∷ l) (open_all ks (All-tail IsIdle k ks idle))

-- a run with which nothing has happened stands so against no moves
idle_tally : (n : ℕ) (k : Kept) → IsIdle k → NumbersBelow n k → Tally n [] k
idle_tally n k idle below = record {
  given = sym (append-nil (pairs k)) ∙ ap (λ (m : Kept). pairs m ++ []) (sym (before_below n k below));
  leaves = λ i. is_leaving (sym idle i);
}

-- no run has had its turn
pub going_start : (q : Plan) (x : Numbered) (s : State) (count : ℕ) (old : List Kept) → IsReady q x.0 count old → s.open_runs ≡ map started old → Going q x s old 0 old [] Passed
going_start q x s count old ready is = record {
  shows = record { now = open_all old ready.idle ∙ sym is; told = refl; led = refl };
  front = ([], refl, sym (none_after_use old));
  tally = λ i k within. idle_tally x.0 (get_or old i k) (ready.idle i k within) (ready.below i k within);
  used = refl;
  taken = refl;
  unused = λ e. refl;
}

-- the run whose turn it is
module _ (q : Plan) (x : Numbered) (n count i : ℕ) (old ks : List Kept) (ts : List Told) (r : Reception) (ready : IsReady q n count old) (within : i < length old) (going : Going q x (standing count old) old i ks ts r) where
  abbrev own : Kept
  own = get_or old i (empty 0)

  at_hand : run_at ks i ≡ run_after_use (acted_by q x (standing count old) (take i (map started old))).taken own
  at_hand =
      let fs = going.front.0 in
      let ns = (acted_by q x (standing count old) (take i (map started old))).taken in
      ap (λ (l : List Kept). run_at l i) (going.front.2 ∙ ap (λ (l : List Kept). fs ++ map (run_after_use ns) l) (drop_more old i (empty 0) within))
      ∙ get_or_at fs (run_after_use ns own) (map (run_after_use ns) (drop (i + 1) old)) (empty 0) i going.front.1

  pub pairs_at_hand : pairs (run_at ks i) ≡ pairs (run_at old i)
  pairs_at_hand = ap pairs at_hand

  pub below_at_hand : NumbersBelow n (run_at ks i)
  below_at_hand = let below : NumbersBelow n own = ready.below i (empty 0) within in subst (NumbersBelow n) (sym at_hand) below
