-- What is told of moves one after another.
use Rattle.std.proofs.Common.{◌≡◌, ℕ, Bool, true, false, cond, List, [], ◌∷◌, ◌++◌, map, refl, ap, ◌∙◌}
use Rattle.std.specs.List.{filter, flat_map}
use Rattle.std.proofs.lemmas.List.{append-nil}
use Rattle.sp_plan.specs.declared.plan.Plan.{Plan}
use Rattle.sp_plan.specs.Runs.{Pair, Started, State, bindings, holds_one, is_complete, used}
use Rattle.sp_plan.specs.Moves.{Move, Told, GrownTold, CompletedTold, AbandonedTold, Completed, Grown, abandoned, apply, apply_all, completing, growing, pairs_of, tell, told, with_pair, without_run}
use Rattle.sp_match.proofs.RunNumbersRise.{Absent}
use Rattle.sp_match.proofs.RunInTheMiddle.{without_middle, with_pair_middle, run_middle}
use Rattle.sp_match.proofs.GrowingMoves.{at}

-- moves and then other moves
pub told_then : (q : Plan) (s : State) (ms ns : List Move) → told q s (ms ++ ns) ≡ told q s ms ++ told q (apply_all s ms) ns
told_then q s [] ns = refl
told_then q s (m ∷ ms) ns = ap (λ (ts : List Told). tell q s m ∷ ts) (told_then q (apply s m) ms ns)

-- a run is told to be abandoned
abbrev pub left_told : Started → Told
left_told run = AbandonedTold run.0

pub told_abandoned : (q : Plan) (s : State) (runs : List Started) → told q s (map abandoned runs) ≡ map left_told runs
told_abandoned q s [] = refl
told_abandoned q s (run ∷ runs) = ap (λ (ts : List Told). left_told run ∷ ts) (told_abandoned q (apply s (abandoned run)) runs)

module _ (q : Plan) (xs ys ms : List Started) (n : ℕ) (run : Started) (pair : Pair) (front : Absent run.0 xs) (back : Absent run.0 ys) where
  abbrev more : Started
  more = (run.0, run.1 ++ pair ∷ [])

  -- what is told of a run that takes a pair among others
  pub growing_told : told q (at (xs ++ run ∷ ys) ms n) (growing q (xs ++ run ∷ ys) run pair)
      ≡ GrownTold run.0 pair.number ∷ cond (is_complete q more.1) (CompletedTold run.0 (bindings q more.1) (used q more.1) ∷ map left_told (filter (λ other. holds_one (used q more.1) other.1) (xs ++ ys))) []
  growing_told = ap (λ (ts : List Told). GrownTold run.0 pair.number ∷ ts) (one (is_complete q more.1))
    where
      pairs : pairs_of (map (with_pair run.0 pair) (xs ++ run ∷ ys)) run.0 ≡ more.1
      pairs = ap (λ (runs : List Started). pairs_of runs run.0) (with_pair_middle pair xs run ys front back) ∙ ap (flat_map (λ (r : Started). r.1)) (run_middle xs more ys front back) ∙ append-nil more.1

      one : (b : Bool) → told q (apply (at (xs ++ run ∷ ys) ms n) (Grown run.0 pair)) (cond b (completing q (xs ++ run ∷ ys) more) [])
          ≡ cond b (CompletedTold run.0 (bindings q more.1) (used q more.1) ∷ map left_told (filter (λ other. holds_one (used q more.1) other.1) (xs ++ ys))) []
      one true =
          (λ i. CompletedTold run.0 (bindings q (pairs i)) (used q (pairs i)) ∷ told_abandoned q (apply (apply (at (xs ++ run ∷ ys) ms n) (Grown run.0 pair)) (Completed run.0)) (filter (λ other. holds_one (used q more.1) other.1) (without_run run.0 (xs ++ run ∷ ys))) i)
          ∙ ap (λ (runs : List Started). CompletedTold run.0 (bindings q more.1) (used q more.1) ∷ map left_told (filter (λ other. holds_one (used q more.1) other.1) runs)) (without_middle xs run ys front back)
      one false = refl
