-- One move more adds its match, where a run completes by it.
use Rattle.std.proofs.Common.{◌≡◌, ℕ, ◌+◌, ◌<◌, true, false, List, [], ◌∷◌, ◌++◌, length, get_or, map, take, refl, sym, ◌∙◌, ap, arith, append_assoc, length-append}
use Rattle.std.specs.Prelude.{filter}
use Rattle.std.specs.List.{enumerate_from}
use Rattle.std.proofs.lemmas.List.{take_more, append-nil, map-append, length-map}
use Rattle.std.proofs.lemmas.List.Elements.{filter-append}
use Rattle.std.proofs.lemmas.List.FromFn.{length-enumerate_from}
use Rattle.sp_plan.specs.declared.found.Match.{Match}
use Rattle.sp_plan.specs.Moves.{Told}
use Rattle.sp_base.specs.Numbers.{NumberList}
use Rattle.sp_match.specs.declared.moves.Move.{Move}
use Rattle.sp_match.specs.declared.moves.Move.TheVariants as m
use Rattle.sp_match.specs.public.Laws.{is_completion}
use Rattle.sp_match.specs.public.Seen.{seen}
use Rattle.sp_seq.specs.Completed.{match_told, matches_told}
use Rattle.sp_seq.proofs.Gathering.{told_append}

module _ (window : ℕ) (old ms : List Match) (list : List Move) (i : ℕ) (d one : Move) (within : i < length list) (is : one ≡ get_or list i d)
    (so_far : ms ≡ old ++ matches_told window (length old + 1) (filter is_completion (map seen (take i list)))) where
  abbrev done : List Told
  done = filter is_completion (map seen (take i list))

  -- the completions, one move on
  next : filter is_completion (map seen (take (i + 1) list)) ≡ done ++ filter is_completion (seen one ∷ [])
  next =
      ap (λ (l : List Move). filter is_completion (map seen l)) (take_more list i d within)
      ∙ ap (filter is_completion) (map-append seen (take i list) (get_or list i d ∷ []))
      ∙ filter-append is_completion (map seen (take i list)) (seen (get_or list i d) ∷ [])
      ∙ ap (λ (m : Move). done ++ filter is_completion (seen m ∷ [])) (sym is)

  -- a move by which no run completes
  pub adds_none : is_completion (seen one) ≡ false → ms ≡ old ++ matches_told window (length old + 1) (filter is_completion (map seen (take (i + 1) list)))
  adds_none not =
      let same : done ++ filter is_completion (seen one ∷ []) ≡ done = rw not (append-nil done) in
      so_far ∙ ap (λ (l : List Told). old ++ matches_told window (length old + 1) l) (sym same ∙ sym next)

  -- a move by which a run completes
  pub adds_one : is_completion (seen one) ≡ true → (ms' : List Match) → ms' ≡ ms ++ match_told window (length ms + 1) (seen one) ∷ [] → ms' ≡ old ++ matches_told window (length old + 1) (filter is_completion (map seen (take (i + 1) list)))
  adds_one it ms' added =
      let first = length old + 1 in
      let one_more : done ++ filter is_completion (seen one ∷ []) ≡ done ++ seen one ∷ [] = rw it refl in
      let count : length ms + 1 ≡ first + length done =
      omega (arith, ap length so_far, length-append old (matches_told window first done), length-map (enumerate_from first done) (λ pair. match_told window pair.0 pair.1), length-enumerate_from first done) in
      added ∙ ap (λ (n : ℕ). ms ++ match_told window n (seen one) ∷ []) count ∙ ap (λ (l : List Match). l ++ match_told window (first + length done) (seen one) ∷ []) so_far
      ∙ append_assoc old (matches_told window first done) (match_told window (first + length done) (seen one) ∷ [])
      ∙ ap (λ (l : List Match). old ++ l) (sym (told_append window first done (seen one ∷ [])) ∙ ap (matches_told window first) (sym one_more ∙ sym next))

-- a move that is no completion tells of none
pub not_completion : (one : Move) → ((run : ℕ) (bound : List (ℕ × NumberList)) (used : NumberList) → one ≡ m.Completed run bound used → ⊥) → is_completion (seen one) ≡ false
not_completion (m.Opened run) not = refl
not_completion (m.Grown run number) not = refl
not_completion (m.Completed run bound used) not = absurd (not run bound used refl)
not_completion (m.Abandoned run) not = refl
