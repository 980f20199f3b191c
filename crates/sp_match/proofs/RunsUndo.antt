-- Runs that can be made as they were before the event at hand.
use Rattle.std.proofs.Common.{◌≡◌, ℕ, ◌<◌, List, [], ◌∷◌, ◌++◌, map, length, take, get_or, set, refl, sym, ap, subst, ◌∙◌, arith}
use Rattle.std.specs.Prelude.{slice_get, true}
use Rattle.std.specs.List.{All}
use Rattle.std.proofs.lemmas.List.{map-set, set-get_or, length-map, get_or-map, map_push, take-map, take_at}
use Rattle.std.proofs.lemmas.List.Elements.{All-get_or, All-set, All-take}
use Rattle.sp_plan.specs.declared.plan.Plan.{Plan}
use Rattle.sp_base.specs.Numbers.{is_among}
use Rattle.sp_plan.specs.Bounds.{IsSmall}
use Rattle.sp_plan.specs.Compiled.{IsCompiled}
use Rattle.sp_plan.specs.Windows.{Numbered}
use Rattle.sp_plan.specs.Runs.{bound_names, is_consumed}
use Rattle.sp_match.specs.declared.run.Fate.{Fate}
use Rattle.sp_match.specs.declared.run.Run.{Run}
use Rattle.sp_match.specs.inside.Kept.{Kept, before, empty, grown, kept}
use Rattle.sp_match.specs.inside.Good.{Good, NumbersBelow, RunUndoes, Undoes}
use Rattle.sp_match.specs.inside.Effects.{run_at, run_with_event}
use Rattle.sp_match.proofs.GrownRunIsGood.{before_bound, before_fate, good_fate, good_grown, good_looking}

pub run_stays : (q : Plan) (n : ℕ) (k : Kept) → Good q k → RunUndoes q n k k
run_stays q n k good = record { good = good; before = refl }

pub run_fate : (q : Plan) (n : ℕ) (k k' : Kept) (f : Fate) → RunUndoes q n k k' → RunUndoes q n k (record k' { fate = f })
run_fate q n k k' f u = record { good = good_fate q f k' u.good; before = before_fate n f k' ∙ u.before }

pub run_bound : (q : Plan) (name : ℕ) (x : Numbered) (k : Kept) → Good q k → name < length q.names → IsCompiled q → is_among (bound_names q) name ≡ true → IsSmall x.1 → NumbersBelow x.0 k → RunUndoes q x.0 k (run_with_event q name x k)
run_bound q name x k good named compiled among small below = record {
  good = good_looking q (grown name (is_consumed (slice_get q.names name)) x.0 x.1 k) (good_grown q name x.0 x.1 k good named compiled among small below);
  before = before_bound q name x k good (let few = compiled.names in omega (arith, named, few)) below;
}

pub all_stay : (q : Plan) (n : ℕ) (ks : List Kept) → All (Good q) ks → Undoes q n ks ks
all_stay q n ks good = record { good = good; before = refl }

pub undoes_on : (q : Plan) (n : ℕ) (ks ys zs : List Kept) → Undoes q n ks ys → Undoes q n ys zs → Undoes q n ks zs
undoes_on q n ks ys zs u v = record { good = v.good; before = v.before ∙ u.before }

pub undoes_set : (q : Plan) (n : ℕ) (ks ys : List Kept) (i : ℕ) (k k' : Kept) → Undoes q n ks ys → k ≡ get_or ys i k → RunUndoes q n k k' → Undoes q n ks (set ys i k')
undoes_set q n ks ys i k k' u at r = record {
  good = All-set (Good q) ys i k' r.good u.good;
  before = map-set (before n) ys i k' ∙ ap (set (map (before n) ys) i) (r.before ∙ ap (before n) at) ∙ sym (map-set (before n) ys i (get_or ys i k)) ∙ ap (map (before n)) (set-get_or ys i k) ∙ u.before;
}

-- the run at the place
pub here : (rs : List Run) (at : ℕ) (r : Run) → at < length rs → run_at (map kept rs) at ≡ kept (get_or rs at r)
here rs at r within = get_or-map kept rs at r (empty 0) within

-- the runs after the one at the place has turned
pub undone_set : (q : Plan) (n : ℕ) (rs : List Run) (at : ℕ) (r r' : Run) → at < length rs → All (Good q) (map kept rs) → RunUndoes q n (kept (get_or rs at r)) (kept r') → Undoes q n (map kept rs) (map kept (set rs at r'))
undone_set q n rs at r r' within good u =
    subst (Undoes q n (map kept rs)) (sym (map-set kept rs at r'))
    (undoes_set q n (map kept rs) (map kept rs) at (kept (get_or rs at r)) (kept r') (all_stay q n (map kept rs) good) (sym (get_or-map kept rs at r (kept (get_or rs at r)) within)) u)

pub good_here : (q : Plan) (rs : List Run) (at : ℕ) (r : Run) → at < length rs → All (Good q) (map kept rs) → Good q (kept (get_or rs at r))
good_here q rs at r within good =
    subst (Good q) (here rs at r within) (All-get_or (Good q) (map kept rs) at (empty 0) (omega (arith, within, length-map rs kept)) good)

-- of more runs, the first ones
pub undoes_take : (q : Plan) (n : ℕ) (ks new : List Kept) (k : Kept) → Undoes q n (ks ++ k ∷ []) new → Undoes q n ks (take (length ks) new)
undoes_take q n ks new k u = record {
  good = All-take (Good q) (length ks) new u.good;
  before = sym (take-map (before n) (length ks) new) ∙ ap (take (length ks)) (u.before ∙ map_push (before n) ks k) ∙ take_at (map (before n) ks) (before n k ∷ []) (length ks) (length-map ks (before n));
}
