-- A run that binds an event, among the others.
use Rattle.std.proofs.Common.{◌≡◌, ℕ, ◌<◌, Bool, true, false, ◌&&◌, List, [], ◌∷◌, ◌++◌, map, length, set, refl, sym, ap, subst, ◌∙◌, arith}
use Rattle.std.specs.Prelude.{slice_get, if◌then◌else◌}
use Rattle.std.specs.List.{All, filter, flat_map}
use Rattle.std.proofs.lemmas.List.{append-nil, get_or-map, get_or_at, length-map, set_at}
use Rattle.std.proofs.lemmas.List.Elements.{All-map, All-filter}
use Rattle.sp_plan.specs.declared.plan.Plan.{Plan}
use Rattle.sp_plan.specs.Windows.{Numbered}
use Rattle.sp_plan.specs.Runs.{Pair, Run, holds_one, is_consumed}
use Rattle.sp_plan.specs.Moves.{Told}
use Rattle.sp_match.specs.declared.run.Fate.TheVariants.{Leaves}
use Rattle.sp_match.specs.inside.Kept.{Kept, empty, pairs, stays}
use Rattle.sp_match.specs.inside.Good.{Good, NumbersBelow}
use Rattle.sp_match.specs.inside.Effects.{run_with_event, runs_after_binding, runs_binding_told, completes, leaving_told, run_after_use, run_at, use_told, run_after_binding, binding_told, used_by_binding}
use Rattle.sp_match.proofs.PairsOfRuns.{numbers_of}

-- all numbers of the pairs are below n, and those that are used
pub pairs_below : (q : Plan) (n : ℕ) (k : Kept) → Good q k → NumbersBelow n k → All (λ pair. pair.number < n) (pairs k)
pairs_below q n k good below i d inside =
    let numbers = numbers_of k.bound k.events good.same_names in
    let all : All (λ m. m < n) (map (λ pair. pair.number) (pairs k)) = subst (All (λ m. m < n)) (sym numbers) below in
    subst (λ m. m < n) (get_or-map (λ (pair : Pair). pair.number) (pairs k) i d d.number inside)
    (all i d.number (omega (arith, inside, length-map (pairs k) (λ (pair : Pair). pair.number))))

pub used_below : (q : Plan) (n : ℕ) (k : Kept) → Good q k → NumbersBelow n k → All (λ m. m < n) k.used
used_below q n k good below =
    let uses : Pair → Bool = λ pair. is_consumed (slice_get q.names pair.name) in
    subst (All (λ m. m < n)) (sym good.used_is) (All-map (λ m. m < n) (λ pair. pair.number) (filter uses (pairs k)) (All-filter uses (λ pair. pair.number < n) (pairs k) (pairs_below q n k good below)))

-- no run holds one of no numbers
pub holds_none : (r : Run) → holds_one [] r ≡ false
holds_none [] = refl
holds_none (p ∷ r) = holds_none r

pub none_loses : (k : Kept) → (stays k.fate && holds_one [] (pairs k)) ≡ false
none_loses k = one (stays k.fate)
  where
    one : (b : Bool) → (b && holds_one [] (pairs k)) ≡ false
    one true = holds_none (pairs k)
    one false = refl

pub none_after_use : (ks : List Kept) → map (run_after_use []) ks ≡ ks
none_after_use [] = refl
none_after_use (k ∷ ks) = λ i. record k { fate = if none_loses k i then Leaves else k.fate } ∷ none_after_use ks i

pub none_told : (ks : List Kept) → flat_map (use_told []) ks ≡ []
none_told [] = refl
none_told (k ∷ ks) = λ i. (if none_loses k i then leaving_told k ∷ [] else []) ++ none_told ks i

pub no_used : (q : Plan) (name : ℕ) (x : Numbered) (k : Kept) → completes q name x k ≡ false → [] ≡ used_by_binding q name x k
no_used q name x k not = λ i. if sym not i then (run_with_event q name x k).used else []

pub all_used : (q : Plan) (name : ℕ) (x : Numbered) (k : Kept) → completes q name x k ≡ true → (run_with_event q name x k).used ≡ used_by_binding q name x k
all_used q name x k whole = λ i. if sym whole i then (run_with_event q name x k).used else []

-- what the numbers that are used are to the runs, and to what is told
abbrev runs_with : Plan → ℕ → Numbered → ℕ → List Kept → Kept → List ℕ → List Kept
runs_with q name x at ks k ns = map (run_after_use ns) (set ks at (run_after_binding q name x k))

abbrev told_with : Plan → ℕ → Numbered → ℕ → List Kept → Kept → List ℕ → List Told
told_with q name x at ks k ns = binding_told q name x k ++ flat_map (use_told ns) (set ks at (run_after_binding q name x k))

pub open_runs_are : (q : Plan) (name : ℕ) (x : Numbered) (at : ℕ) (ks : List Kept) (k : Kept) → run_at ks at ≡ k → completes q name x k ≡ false → set ks at (run_after_binding q name x k) ≡ runs_after_binding q name x at ks
open_runs_are q name x at ks k same not =
    sym (none_after_use (set ks at (run_after_binding q name x k))) ∙ ap (runs_with q name x at ks k) (no_used q name x k not) ∙ ap (λ k. runs_with q name x at ks k (used_by_binding q name x k)) (sym same)

pub open_told_is : (q : Plan) (name : ℕ) (x : Numbered) (at : ℕ) (ks : List Kept) (k : Kept) → run_at ks at ≡ k → completes q name x k ≡ false → binding_told q name x k ≡ runs_binding_told q name x at ks
open_told_is q name x at ks k same not =
    sym (append-nil (binding_told q name x k)) ∙ ap (λ rest. binding_told q name x k ++ rest) (sym (none_told (set ks at (run_after_binding q name x k)))) ∙ ap (told_with q name x at ks k) (no_used q name x k not)
    ∙ ap (λ k. told_with q name x at ks k (used_by_binding q name x k)) (sym same)

pub whole_runs_are : (q : Plan) (name : ℕ) (x : Numbered) (at : ℕ) (ks : List Kept) (k : Kept) (ns : List ℕ) → run_at ks at ≡ k → completes q name x k ≡ true → ns ≡ (run_after_binding q name x k).used
    → map (run_after_use ns) (set ks at (run_after_binding q name x k)) ≡ runs_after_binding q name x at ks
whole_runs_are q name x at ks k ns same whole used =
    ap (runs_with q name x at ks k) (used ∙ all_used q name x k whole) ∙ ap (λ k. runs_with q name x at ks k (used_by_binding q name x k)) (sym same)

pub whole_told_is : (q : Plan) (name : ℕ) (x : Numbered) (at : ℕ) (ks : List Kept) (k : Kept) (ns : List ℕ) → run_at ks at ≡ k → completes q name x k ≡ true → ns ≡ (run_after_binding q name x k).used
    → binding_told q name x k ++ flat_map (use_told ns) (set ks at (run_after_binding q name x k)) ≡ runs_binding_told q name x at ks
whole_told_is q name x at ks k ns same whole used =
    ap (told_with q name x at ks k) (used ∙ all_used q name x k whole) ∙ ap (λ k. told_with q name x at ks k (used_by_binding q name x k)) (sym same)

-- the runs around the one that binds
pub runs_after_binding_is : (q : Plan) (name : ℕ) (x : Numbered) (fs bs : List Kept) (k : Kept) → runs_after_binding q name x (length fs) (fs ++ k ∷ bs) ≡ map (run_after_use (used_by_binding q name x k)) (fs ++ run_after_binding q name x k ∷ bs)
runs_after_binding_is q name x fs bs k =
    ap (λ (m : Kept). map (run_after_use (used_by_binding q name x m)) (set (fs ++ k ∷ bs) (length fs) (run_after_binding q name x m))) (get_or_at fs k bs (empty 0) (length fs) refl)
    ∙ ap (map (run_after_use (used_by_binding q name x k))) (set_at fs k bs (run_after_binding q name x k) (length fs) refl)

pub runs_binding_told_is : (q : Plan) (name : ℕ) (x : Numbered) (fs bs : List Kept) (k : Kept)
    → runs_binding_told q name x (length fs) (fs ++ k ∷ bs) ≡ binding_told q name x k ++ flat_map (use_told (used_by_binding q name x k)) (fs ++ run_after_binding q name x k ∷ bs)
runs_binding_told_is q name x fs bs k =
    ap (λ (m : Kept). binding_told q name x m ++ flat_map (use_told (used_by_binding q name x m)) (set (fs ++ k ∷ bs) (length fs) (run_after_binding q name x m))) (get_or_at fs k bs (empty 0) (length fs) refl)
    ∙ ap (λ (l : List Kept). binding_told q name x k ++ flat_map (use_told (used_by_binding q name x k)) l) (set_at fs k bs (run_after_binding q name x k) (length fs) refl)
