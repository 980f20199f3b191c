-- The open runs among all runs of a handling.
use Rattle.std.proofs.Common.{◌≡◌, ℕ, ◌<◌, ◌≤◌, Bool, true, false, cond, not, ◌&&◌, List, [], ◌∷◌, ◌++◌, length, map, refl, sym, ap, ◌∙◌, arith}
use Rattle.std.specs.Prelude.{if◌then◌else◌}
use Rattle.std.specs.List.{filter, flat_map}
use Rattle.std.proofs.lemmas.List.{length-map, map-append}
use Rattle.std.proofs.lemmas.List.Filters.{length-filter_both}
use Rattle.std.proofs.lemmas.List.Elements.{filter-append}
use Rattle.sp_plan.specs.Runs.{Started, holds_one}
use Rattle.sp_match.specs.declared.run.Fate.{Fate}
use Rattle.sp_match.specs.declared.run.Fate.TheVariants.{Stays, Completes, Leaves}
use Rattle.sp_match.specs.inside.Kept.{Kept, pairs, started, stays}
use Rattle.sp_match.specs.inside.Effects.{leaving_told, run_after_use, open_runs, use_told}
use Rattle.sp_match.proofs.RunNumbersRise.{Rising, rising_lower}
use Rattle.sp_match.proofs.GrowingMoves.{frees}
use Rattle.sp_match.proofs.MovesAreTold.{left_told}

-- no more runs stay than are there
pub open_few : (ks : List Kept) → length (open_runs ks) ≤ length ks
open_few ks =
    let all = length-filter_both (λ (k : Kept). stays k.fate) (λ (k : Kept). not (stays k.fate)) (λ k. refl) ks in
    let same = length-map (filter (λ k. stays k.fate) ks) started in
    omega (arith, all, same)

pub open_append : (fs bs : List Kept) → open_runs (fs ++ bs) ≡ open_runs fs ++ open_runs bs
open_append fs bs = ap (map started) (filter-append (λ k. stays k.fate) fs bs) ∙ map-append started (filter (λ k. stays k.fate) fs) (filter (λ k. stays k.fate) bs)

-- a run that stays among others, and one that doesn't
pub open_at : (fs bs : List Kept) (k : Kept) → stays k.fate ≡ true → open_runs (fs ++ k ∷ bs) ≡ open_runs fs ++ started k ∷ open_runs bs
open_at fs bs k open_yet = open_append fs (k ∷ bs) ∙ λ i. open_runs fs ++ map started (cond (open_yet i) (k ∷ filter (λ k. stays k.fate) bs) (filter (λ k. stays k.fate) bs))

pub shut_at : (fs bs : List Kept) (k : Kept) → stays k.fate ≡ false → open_runs (fs ++ k ∷ bs) ≡ open_runs fs ++ open_runs bs
shut_at fs bs k gone = open_append fs (k ∷ bs) ∙ λ i. open_runs fs ++ map started (cond (gone i) (k ∷ filter (λ k. stays k.fate) bs) (filter (λ k. stays k.fate) bs))

-- whether a run stays that is marked
pub stays_after_use : (ns : List ℕ) (k : Kept) → stays (run_after_use ns k).fate ≡ (stays k.fate && not (holds_one ns (pairs k)))
stays_after_use ns k = one k.fate (holds_one ns (pairs k))
  where
    one : (f : Fate) (b : Bool) → stays (cond (stays f && b) Leaves f) ≡ (stays f && not b)
    one Stays true = refl
    one Stays false = refl
    one Completes b = refl
    one Leaves b = refl

-- the open runs that are left when those that hold one of these numbers are marked
pub open_after_use : (ns : List ℕ) (ks : List Kept) → open_runs (map (run_after_use ns) ks) ≡ filter (frees ns) (open_runs ks)
open_after_use ns [] = refl
open_after_use ns (k ∷ ks) =
    (λ i. map started (cond (stays_after_use ns k i) (run_after_use ns k ∷ filter (λ k. stays k.fate) (map (run_after_use ns) ks)) (filter (λ k. stays k.fate) (map (run_after_use ns) ks))))
    ∙ one (stays k.fate) (holds_one ns (pairs k)) refl (open_after_use ns ks)
  where
    one : (b c : Bool) → holds_one ns (pairs k) ≡ c → open_runs (map (run_after_use ns) ks) ≡ filter (frees ns) (open_runs ks)
        → map started (cond (b && not c) (run_after_use ns k ∷ filter (λ k. stays k.fate) (map (run_after_use ns) ks)) (filter (λ k. stays k.fate) (map (run_after_use ns) ks)))
        ≡ filter (frees ns) (map started (cond b (k ∷ filter (λ k. stays k.fate) ks) (filter (λ k. stays k.fate) ks)))
    one true true e ih = ih ∙ λ i. cond (not (sym e i)) (started k ∷ filter (frees ns) (open_runs ks)) (filter (frees ns) (open_runs ks))
    one true false e ih = ap (λ (l : List Started). started k ∷ l) ih ∙ λ i. cond (not (sym e i)) (started k ∷ filter (frees ns) (open_runs ks)) (filter (frees ns) (open_runs ks))
    one false c e ih = ih

-- what is told of them
pub open_told : (ns : List ℕ) (ks : List Kept) → flat_map (use_told ns) ks ≡ map left_told (filter (λ other. holds_one ns other.1) (open_runs ks))
open_told ns [] = refl
open_told ns (k ∷ ks) = one (stays k.fate) (holds_one ns (pairs k)) refl (open_told ns ks)
  where
    one : (b c : Bool) → holds_one ns (pairs k) ≡ c → flat_map (use_told ns) ks ≡ map left_told (filter (λ other. holds_one ns other.1) (open_runs ks))
        → (if b && holds_one ns (pairs k) then leaving_told k ∷ [] else []) ++ flat_map (use_told ns) ks
        ≡ map left_told (filter (λ other. holds_one ns other.1) (map started (cond b (k ∷ filter (λ k. stays k.fate) ks) (filter (λ k. stays k.fate) ks))))
    one true true e ih = (λ i. (if e i then leaving_told k ∷ [] else []) ++ ih i) ∙ λ i. map left_told (cond (sym e i) (started k ∷ filter (λ other. holds_one ns other.1) (open_runs ks)) (filter (λ other. holds_one ns other.1) (open_runs ks)))
    one true false e ih = (λ i. (if e i then leaving_told k ∷ [] else []) ++ ih i) ∙ λ i. map left_told (cond (sym e i) (started k ∷ filter (λ other. holds_one ns other.1) (open_runs ks)) (filter (λ other. holds_one ns other.1) (open_runs ks)))
    one false c e ih = ih

-- the numbers of open runs rise
pub rising_open : (low top : ℕ) (ks : List Kept) → Rising low top (map started ks) → Rising low top (open_runs ks)
rising_open low top [] up = up
rising_open low top (k ∷ ks) up = one (stays k.fate) (rising_open k.number top ks up.1)
  where
    one : (b : Bool) → Rising k.number top (open_runs ks) → Rising low top (map started (cond b (k ∷ filter (λ k. stays k.fate) ks) (filter (λ k. stays k.fate) ks)))
    one true rest = (up.0, rest)
    one false rest = rising_lower low k.number top (open_runs ks) (let above = up.0 in omega arith) rest

-- and those on both sides of a run
pub rising_cut : (low top : ℕ) (xs : List Started) (y : Started) (ys : List Started) → Rising low top (xs ++ y ∷ ys) → (mid : ℕ) × Rising low mid xs × (mid < y.0) × Rising y.0 top ys
rising_cut low top [] y ys up = (low, (let same : low ≤ low = omega arith in same), up.0, up.1)
rising_cut low top (x ∷ xs) y ys up = let rest = rising_cut x.0 top xs y ys up.1 in (rest.0, (up.0, rest.1), rest.2, rest.3)
