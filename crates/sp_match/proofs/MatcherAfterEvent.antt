-- What a matcher is before and after an event, against the definitions.
use Rattle.std.proofs.Common.{◌≡◌, ℕ, ◌+◌, ◌<◌, ◌≤◌, Bool, List, [], ◌∷◌, map, take, get_or, refl, sym, ap, subst, ◌∙◌, arith}
use Rattle.std.specs.List.{All, zip}
use Rattle.std.specs.List.Sorted.{IsStrictlyIncreasing}
use Rattle.std.proofs.lemmas.List.{get_or-map, length-map}
use Rattle.std.proofs.lemmas.List.Elements.{All-head, All-map, All-tail, All-weaker}
use Rattle.sp_plan.specs.declared.event.Event.{Event}
use Rattle.sp_plan.specs.declared.plan.Plan.{Plan}
use Rattle.sp_plan.specs.Windows.{Numbered}
use Rattle.sp_plan.specs.Runs.{Pair, Started, State, handle}
use Rattle.sp_plan.specs.Moves.{Told, act}
use Rattle.sp_match.specs.declared.run.Run.{Run}
use Rattle.sp_match.specs.public.Laws.{Below, Ordered}
use Rattle.sp_match.specs.public.Matching.{shown}
use Rattle.sp_match.specs.public.Seen.{seen_run}
use Rattle.sp_match.specs.inside.Kept.{Kept, before, kept, pair_of, pairs, started}
use Rattle.sp_match.specs.inside.Good.{Good, NumbersBelow, Undoes}
use Rattle.sp_match.specs.inside.Effects.{open_runs}
use Rattle.sp_match.specs.inside.Going.{IsIdle, IsReady, standing}
use Rattle.sp_match.specs.inside.Keeping.{IsKept}
use Rattle.sp_match.specs.inside.Handling.{IsHandled, count_after}
use Rattle.sp_match.proofs.RunNumbersRise.{Rising}
use Rattle.sp_match.proofs.MovesAreHandling.{moves_are_handling, ordered_rises, rising_ordered}
use Rattle.sp_match.proofs.NumbersStayBelow.{numbers_stay_below}
use Rattle.sp_match.proofs.GrownRunIsGood.{before_below, good_looked, looked_for}
use Rattle.sp_match.proofs.OpenRuns.{rising_open}
use Rattle.sp_match.proofs.PairsOfRuns.{numbers_of}

-- the numbers of a run, as the definitions and as the run have them
numbers_below : (q : Plan) (n : ℕ) (k : Kept) → Good q k → All (λ pair. pair.number < n) (pairs k) → NumbersBelow n k
numbers_below q n k good below =
    subst (All (λ m. m < n)) (numbers_of k.bound k.events good.same_names) (All-map (λ m. m < n) (λ (pair : Pair). pair.number) (pairs k) below)

all_below : (q : Plan) (n : ℕ) (ks : List Kept) → All (Good q) ks → All (λ run. All (λ pair. pair.number < n) run.1) (map started ks) → All (NumbersBelow n) ks
all_below q n ks good below i k within =
    numbers_below q n (get_or ks i k) (good i k within)
    (subst (λ (run : Started). All (λ pair. pair.number < n) run.1) (get_or-map started ks i k (started k) within) (below i (started k) (omega (arith, within, length-map ks started))))

-- between two events the runs are ready for the next
pub ready : (q : Plan) (n count : ℕ) (ks : List Kept) → IsKept q count ks → Below n (standing count ks) → IsReady q n count ks
ready q n count ks own below = record { good = own.good; idle = own.idle; below = all_below q n ks own.good below.events; ordered = own.ordered }

-- the order is the same for each state with these runs
pub ordered_as : (count : ℕ) (ks : List Kept) (s : State) → Ordered (standing count ks) → s.open_runs ≡ map started ks → s.started ≡ count → Ordered s
ordered_as count ks s ordered is count_is = record {
  rising = subst (λ (l : List Started). IsStrictlyIncreasing (map (λ run. run.0) l)) (sym is) ordered.rising;
  given = subst (λ (n : ℕ). All (λ run. (1 ≤ run.0) × (run.0 ≤ n)) s.open_runs) (sym count_is) (subst (All (λ run. (1 ≤ run.0) × (run.0 ≤ count))) (sym is) ordered.given);
}

module _ (q : Plan) (x : Numbered) (count : ℕ) (old : List Kept) (began : Bool) (new settled : List Kept) (ts : List Told) (own : Ordered (standing count old)) (handled : IsHandled q x count old began new ts)
    (settled_is : map started settled ≡ open_runs new) where
  handled_is : (s : State) → s.open_runs ≡ map started old → s.started ≡ count → (act q s x).now ≡ handle q s x
  handled_is s is count_is = (handled.shows s is count_is).led ∙ moves_are_handling q s x (ordered_as count old s own is count_is)

  -- the runs are those that the handling leads to
  pub runs_after : (s : State) → s.open_runs ≡ map started old → s.started ≡ count → map started settled ≡ (handle q s x).open_runs
  runs_after s is count_is = settled_is ∙ (handled.shows s is count_is).now ∙ ap (λ (t : State). t.open_runs) (handled_is s is count_is)

  pub started_after : (s : State) → s.open_runs ≡ map started old → s.started ≡ count → count_after count began ≡ (handle q s x).started
  started_after s is count_is = sym (handled.started_is s is count_is) ∙ ap (λ (t : State). t.started) (handled_is s is count_is)

  -- their numbers are below the next event's
  pub below_after : (n : ℕ) → n ≡ x.0 → Below n (standing count old) → Below (n + 1) (standing (count_after count began) settled)
  below_after n same below =
      let s = standing count old in
      let next : Below (x.0 + 1) (handle q s x) = numbers_stay_below q s x (subst (λ (m : ℕ). Below m s) same below) in
      subst (λ (m : ℕ). Below (m + 1) (standing (count_after count began) settled)) (sym same)
      (record {
        events = subst (λ (l : List Started). All (λ run. All (λ pair. pair.number < x.0 + 1) run.1) l) (sym (runs_after s refl refl)) next.events;
        started = subst (λ (m : ℕ). m < x.0 + 1) (sym (started_after s refl refl)) next.started;
      })

  -- and they are in order
  pub ordered_after : Ordered (standing (count_after count began) settled)
  ordered_after =
      rising_ordered (standing (count_after count began) settled)
      (subst (Rising 0 (count_after count began)) (sym settled_is) (rising_open 0 (count_after count began) new (ordered_rises (standing (count_after count began) new) handled.ordered)))

pub all_before_below : (n : ℕ) (ks : List Kept) → All (NumbersBelow n) ks → map (before n) ks ≡ map looked_for ks
all_before_below n [] below = refl
all_before_below n (k ∷ ks) below = λ i. before_below n k (All-head (NumbersBelow n) k ks below) i ∷ all_before_below n ks (All-tail (NumbersBelow n) k ks below) i

pub all_started_looked : (ks : List Kept) → map started (map looked_for ks) ≡ map started ks
all_started_looked [] = refl
all_started_looked (k ∷ ks) = ap (λ (l : List Started). started k ∷ l) (all_started_looked ks)

-- runs of which it has to be looked for what they may take next are as a matcher keeps them
pub kept_looked : (q : Plan) (count : ℕ) (ks : List Kept) → IsKept q count ks → IsKept q count (map looked_for ks)
kept_looked q count ks own = record {
  compiled = own.compiled;
  good = All-map (Good q) looked_for ks (All-weaker (Good q) (λ k. Good q (looked_for k)) (good_looked q) ks own.good);
  idle = All-map IsIdle looked_for ks (λ i k within. refl);
  ordered = subst (λ (l : List Started). Ordered (record { open_runs = l; matched = []; started = count })) (sym (all_started_looked ks)) own.ordered;
}

-- after want of memory the runs are as before, but for what they may take next
pub runs_back : (q : Plan) (n count : ℕ) (old new back : List Kept) (size : ℕ) → IsKept q count old → Below n (standing count old) → Undoes q n old (take size new) → back ≡ map (before n) (take size new) → back ≡ map looked_for old
runs_back q n count old new back size own below undoes is = is ∙ undoes.before ∙ all_before_below n old (all_below q n old own.good below.events)

-- a run as it is shown
pub bound_of : (bs : List (ℕ × ℕ)) (es : List (ℕ × Event)) → map (λ p. p.0) bs ≡ map (λ p. p.0) es → bs ≡ map (λ pair. (pair.name, pair.number)) (map pair_of (zip bs es))
bound_of [] [] same = refl
bound_of [] (e ∷ es) same = refl
bound_of (b ∷ bs) [] same = cc
bound_of (b ∷ bs) (e ∷ es) same =
    let tail : map (λ p. p.0) bs ≡ map (λ p. p.0) es = cc in
    ap (λ (l : List (ℕ × ℕ)). b ∷ l) (bound_of bs es tail)

pub all_shown : (q : Plan) (rs : List Run) → All (Good q) (map kept rs) → map seen_run rs ≡ map (shown q) (map started (map kept rs))
all_shown q [] good = refl
all_shown q (r ∷ rs) good =
    let own = All-head (Good q) (kept r) (map kept rs) good in
    λ i. (r.number, bound_of r.bound.items r.events own.same_names i, own.used_is i) ∷ all_shown q rs (All-tail (Good q) (kept r) (map kept rs) good) i
