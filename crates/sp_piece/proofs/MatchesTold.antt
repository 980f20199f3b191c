-- The completions that a reading tells of are the matches that it adds.
use Rattle.std.proofs.Common.{◌≡◌, ℕ, zero, suc, ◌+◌, Bool, true, false, cond, List, [], ◌∷◌, ◌++◌, filter, map, Option, Some, None, refl, sym, ap, ◌∙◌}
use Rattle.std.specs.Prelude.{slice_get}
use Rattle.std.proofs.lemmas.List.{append_assoc, append-nil}
use Rattle.std.proofs.lemmas.List.Concat.{flat_map-append}
use Rattle.std.proofs.lemmas.List.Elements.{filter-append}
use Rattle.sp_plan.specs.declared.event.Event.{Event}
use Rattle.sp_plan.specs.declared.plan.Plan.{Plan}
use Rattle.sp_plan.specs.Runs.{Started, State}
use Rattle.sp_plan.specs.Reading.{after_event}
use Rattle.sp_plan.specs.Moves.{Told, abandoned, apply, closing, moves, told}
use Rattle.sp_match.specs.public.Laws.{Sound, HandlingIsLawful, CompletionsAreMatches, completion, is_completion}
use Rattle.sp_piece.specs.Reading.{Loan, Account, accounts_at, accounts_on, accounts_to, event_accounts, read_at, read_on, read_to, skips}
use Rattle.sp_piece.specs.Alike.{all_told}

completions_append : (xs ys : List Account) → filter is_completion (all_told (xs ++ ys)) ≡ filter is_completion (all_told xs) ++ filter is_completion (all_told ys)
completions_append xs ys = ap (filter is_completion) (flat_map-append (λ (a : Account). a.told) xs ys) ∙ filter-append is_completion (all_told xs) (all_told ys)

-- the closing completes no run
pub closing_completes_none : (q : Plan) (s : State) (runs : List Started) → filter is_completion (told q s (map abandoned runs)) ≡ []
closing_completes_none q s [] = refl
closing_completes_none q s (run ∷ runs) = closing_completes_none q (apply s (abandoned run)) runs

module _ (handling : HandlingIsLawful) (completing : CompletionsAreMatches) (l : Loan) where
  event_sound : (s : State) (n : ℕ) (o : Option Event) → Sound s → Sound (after_event l.plan s n o)
  event_sound s n None sound = sound
  event_sound s n (Some e) sound = handling.handled_sound l.plan s (n, e) sound

  read_sound : (s : State) (n : ℕ) → Sound s → Sound (read_on l s n)
  read_sound s zero sound = sound
  read_sound s (suc n) sound = one (skips l n) (read_sound s n sound)
    where
      one : (b : Bool) → Sound (read_on l s n) → Sound (cond b (read_on l s n) (after_event l.plan (read_on l s n) (l.first + n) (slice_get l.events n)))
      one true before = before
      one false before = event_sound (read_on l s n) (l.first + n) (slice_get l.events n) before

  event_adds : (s : State) (n : ℕ) (o : Option Event) → Sound s → map (completion l.plan) (after_event l.plan s n o).matched ≡ map (completion l.plan) s.matched ++ filter is_completion (all_told (event_accounts l.plan s n o))
  event_adds s n None sound = sym (append-nil (map (completion l.plan) s.matched))
  event_adds s n (Some e) sound =
      completing l.plan s (n, e) sound.ordered
      ∙ ap (λ (ts : List Told). map (completion l.plan) s.matched ++ filter is_completion ts) (sym (append-nil (told l.plan s (moves l.plan s (n, e)))))

  place_adds : (s : State) (n : ℕ) → Sound s → map (completion l.plan) (read_at l s n).matched ≡ map (completion l.plan) s.matched ++ filter is_completion (all_told (accounts_at l s n))
  place_adds s n sound = one (skips l n)
    where
      one : (b : Bool) → map (completion l.plan) (cond b s (after_event l.plan s (l.first + n) (slice_get l.events n))).matched
          ≡ map (completion l.plan) s.matched ++ filter is_completion (all_told (cond b [] (event_accounts l.plan s (l.first + n) (slice_get l.events n))))
      one true = sym (append-nil (map (completion l.plan) s.matched))
      one false = event_adds s (l.first + n) (slice_get l.events n) sound

  reading_adds : (s : State) (n : ℕ) → Sound s → map (completion l.plan) (read_on l s n).matched ≡ map (completion l.plan) s.matched ++ filter is_completion (all_told (accounts_on l s n))
  reading_adds s zero sound = sym (append-nil (map (completion l.plan) s.matched))
  reading_adds s (suc n) sound =
      place_adds (read_on l s n) n (read_sound s n sound)
      ∙ ap (λ (z : List Told). z ++ filter is_completion (all_told (accounts_at l (read_on l s n) n))) (reading_adds s n sound)
      ∙ append_assoc (map (completion l.plan) s.matched) (filter is_completion (all_told (accounts_on l s n))) (filter is_completion (all_told (accounts_at l (read_on l s n) n)))
      ∙ ap (λ (z : List Told). map (completion l.plan) s.matched ++ z) (sym (completions_append (accounts_on l s n) (accounts_at l (read_on l s n) n)))

  pub reading_tells : (s : State) (n : ℕ) (closed : Bool) → Sound s → map (completion l.plan) (read_to l s n closed).matched ≡ map (completion l.plan) s.matched ++ filter is_completion (all_told (accounts_to l s n closed))
  reading_tells s n false sound = reading_adds s n sound
  reading_tells s n true sound =
      let last : State = read_on l s n in
      let shut : List Told = told l.plan last (closing last) in
      let none : filter is_completion (shut ++ []) ≡ [] = ap (filter is_completion) (append-nil shut) ∙ closing_completes_none l.plan last last.open_runs in
      reading_adds s n sound
      ∙ ap (λ (z : List Told). map (completion l.plan) s.matched ++ z)
      (sym (completions_append (accounts_on l s n) _ ∙ ap (λ (z : List Told). filter is_completion (all_told (accounts_on l s n)) ++ z) none ∙ append-nil (filter is_completion (all_told (accounts_on l s n)))))
