-- The groups that a matcher holds, by the runs that it shows.
use Rattle.std.proofs.Common.{◌≡◌, ℕ, ◌<◌, ◌≤◌, Bool, ◌&&◌, ◌||◌, ◌==◌, List, [], ◌∷◌, length, get_or, map, refl, sym, ap, ◌∙◌, subst, arith}
use Rattle.std.specs.List.{All, list_any}
use Rattle.std.proofs.lemmas.List.{get_or-map, length-map}
use Rattle.sp_plan.specs.Runs.{Started}
use Rattle.sp_group.specs.Rising.{has_number}
use Rattle.sp_match.specs.declared.run.Run.{Run}
use Rattle.sp_match.specs.public.Matching.{Matching, Shown, shown}
use Rattle.sp_match.specs.public.Seen.{seen_run}
use Rattle.sp_core.specs.Homecoming.{AreNumbered, has_group, is_grouped}

-- whether a run that is shown has that number and holds an event for consumption
abbrev shows_group : ℕ → Shown → Bool
shows_group r one = one.0 == r && has_number one.2

any_shown : {X : Type 0} (f : X → Shown) (p : Shown → Bool) (xs : List X) → list_any (λ x. p (f x)) xs ≡ list_any p (map f xs)
any_shown f p [] = refl
any_shown f p (x ∷ xs) = ap (λ (b : Bool). p (f x) || b) (any_shown f p xs)

-- the runs that a matcher shows have the groups that it holds
pub group_is_shown : (m : Matching) (runs : List Run) (r : ℕ) → map seen_run runs ≡ map (shown m.plan) m.open_runs → has_group runs r ≡ is_grouped m r
group_is_shown m runs r same =
    any_shown seen_run (shows_group r) runs ∙ ap (list_any (shows_group r)) same ∙ sym (any_shown (shown m.plan) (shows_group r) m.open_runs)

-- the runs that a matcher shows are numbered as its own are
pub numbers_are_shown : (m : Matching) (runs : List Run) → map seen_run runs ≡ map (shown m.plan) m.open_runs → AreNumbered m → All (λ run. 1 ≤ run.number) runs
numbers_are_shown m runs same numbered k d within =
    let e : Started = (0, []) in
    let size : length runs ≡ length m.open_runs = sym (length-map runs seen_run) ∙ ap length same ∙ length-map m.open_runs (shown m.plan) in
    let inside : k < length m.open_runs = omega arith in
    let at : seen_run (get_or runs k d) ≡ shown m.plan (get_or m.open_runs k e) =
    sym (get_or-map seen_run runs k d (seen_run d) within) ∙ ap (λ (l : List Shown). get_or l k (seen_run d)) same ∙ get_or-map (shown m.plan) m.open_runs k e (seen_run d) inside in
    subst (λ n. 1 ≤ n) (sym (ap (λ s. s.0) at)) (numbered k e inside)
