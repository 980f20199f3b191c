-- The closing's moves, and one event more.
use Rattle.std.proofs.Common.{◌≡◌, ℕ, Bool, true, false, cond, not, ◌&&◌, List, [], ◌∷◌, map, refl, sym, ap, ◌∙◌}
use Rattle.std.specs.List.{filter}
use Rattle.std.proofs.lemmas.List.Sums.{fold_push}
use Rattle.sp_plan.specs.Runs.{Started, fresh, handle}
use Rattle.sp_plan.specs.Moves.{is_run, without_run, apply_all, abandoned}
use Rattle.sp_match.specs.public.Laws.{ClosingEndsRuns, OneEventMore}
use Rattle.sp_match.proofs.RunNumbersRise.{itself}
use Rattle.sp_match.proofs.GrowingMoves.{at}

-- the runs that pass a test, without the one of a number
without_filter : (r : ℕ) (p : Started → Bool) (xs : List Started) → without_run r (filter p xs) ≡ filter (λ run. p run && not (is_run r run)) xs
without_filter r p [] = refl
without_filter r p (x ∷ xs) = one (p x) (is_run r x) refl (without_filter r p xs)
  where
    one : (b c : Bool) → is_run r x ≡ c → without_run r (filter p xs) ≡ filter (λ run. p run && not (is_run r run)) xs
        → without_run r (cond b (x ∷ filter p xs) (filter p xs)) ≡ cond (b && not c) (x ∷ filter (λ run. p run && not (is_run r run)) xs) (filter (λ run. p run && not (is_run r run)) xs)
    one true true is rest = rw is rest
    one true false is rest = rw is (ap (λ (z : List Started). x ∷ z) rest)
    one false c is rest = rest

-- all runs are abandoned, of which only those that pass a test are open
shut : (p : Started → Bool) (xs ms : List Started) (n : ℕ) → apply_all (at (filter p xs) ms n) (map abandoned xs) ≡ at [] ms n
shut p [] ms n = refl
shut p (x ∷ xs) ms n =
    ap (λ (z : List Started). apply_all (at z ms n) (map abandoned xs)) (one (p x) ∙ without_filter x.0 p xs)
    ∙ shut (λ run. p run && not (is_run x.0 run)) xs ms n
  where
    one : (b : Bool) → without_run x.0 (cond b (x ∷ filter p xs) (filter p xs)) ≡ without_run x.0 (filter p xs)
    one true = rw (itself x)
    one false = refl

every : (xs : List Started) → filter (λ run. true) xs ≡ xs
every [] = refl
every (x ∷ xs) = ap (λ (z : List Started). x ∷ z) (every xs)

-- After the closing's moves no run is open, and the matches are the same.
pub closing_ends_runs : ClosingEndsRuns
closing_ends_runs s =
    ap (λ (z : List Started). apply_all (at z s.matched s.started) (map abandoned s.open_runs)) (sym (every s.open_runs))
    ∙ shut (λ run. true) s.open_runs s.matched s.started

-- What comes after one more event depends on what was before and on that event alone.
pub one_event_more : OneEventMore
one_event_more q events x = fold_push (handle q) fresh events x
