-- The completions of one move more, and the numbers that they used.
use Rattle.std.proofs.Common.{◌≡◌, ℕ, ◌+◌, ◌<◌, List, [], ◌∷◌, ◌++◌, length, get_or, map, take, refl, sym, ap, ◌∙◌}
use Rattle.std.specs.Prelude.{filter}
use Rattle.std.specs.List.{flat_map}
use Rattle.std.proofs.lemmas.Grind.{flat_map-append}
use Rattle.std.proofs.lemmas.List.{take_more, map-append}
use Rattle.std.proofs.lemmas.List.Elements.{filter-append}
use Rattle.std.proofs.lemmas.List.Sums.{fold-append}
use Rattle.sp_base.specs.Numbers.{NumberList, with_number, with_numbers}
use Rattle.sp_match.specs.declared.moves.Move.{Move}
use Rattle.sp_match.specs.declared.moves.Move.TheVariants as m
use Rattle.sp_match.specs.public.Laws.{is_completion}
use Rattle.sp_match.specs.public.Seen.{seen}
use Rattle.sp_core.specs.Homecoming.{completions_in, used_told}

-- the completions of moves in two parts
completions_join : (xs ys : List Move) → completions_in (xs ++ ys) ≡ completions_in xs ++ completions_in ys
completions_join xs ys = ap (filter is_completion) (map-append seen xs ys) ∙ filter-append is_completion (map seen xs) (map seen ys)

-- the completions of one move more
pub one_move_more : (list : List Move) (i : ℕ) (d one : Move) → i < length list → one ≡ get_or list i d
    → completions_in (take (i + 1) list) ≡ completions_in (take i list) ++ completions_in (one ∷ [])
one_move_more list i d one within is =
    ap completions_in (take_more list i d within) ∙ completions_join (take i list) (get_or list i d ∷ [])
    ∙ ap (λ (m : Move). completions_in (take i list) ++ completions_in (m ∷ [])) (sym is)

-- a move that is no completion tells of none
pub no_completion : (one : Move) → ((run : ℕ) (bound : List (ℕ × NumberList)) (used : NumberList) → one ≡ m.Completed run bound used → ⊥) → completions_in (one ∷ []) ≡ []
no_completion (m.Opened run) not = refl
no_completion (m.Grown run number) not = refl
no_completion (m.Completed run bound used) not = absurd (not run bound used refl)
no_completion (m.Abandoned run) not = refl

-- the numbers that completions used, one move on
pub used_more : (ms : List ℕ) (list : List Move) (i : ℕ) (d one : Move) (now next used : List ℕ) → i < length list → one ≡ get_or list i d
    → now ≡ with_numbers ms (flat_map used_told (completions_in (take i list))) → flat_map used_told (completions_in (one ∷ [])) ≡ used → next ≡ with_numbers now used
    → next ≡ with_numbers ms (flat_map used_told (completions_in (take (i + 1) list)))
used_more ms list i d one now next used within is so_far uses added =
    let before = completions_in (take i list) in
    let more : flat_map used_told (completions_in (take (i + 1) list)) ≡ flat_map used_told before ++ used =
    ap (flat_map used_told) (one_move_more list i d one within is) ∙ flat_map-append used_told before (completions_in (one ∷ []))
    ∙ ap (λ (l : List ℕ). flat_map used_told before ++ l) uses in
    added ∙ ap (λ (l : List ℕ). with_numbers l used) so_far ∙ sym (fold-append with_number ms (flat_map used_told before) used) ∙ ap (with_numbers ms) (sym more)
