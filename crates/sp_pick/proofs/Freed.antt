-- The first label of the candidates that is free.
use Rattle.std.proofs.Common.{◌≡◌, ◌≢◌, ℕ, suc, ◌+◌, ◌<◌, ◌≤◌, Bool, true, List, [], ◌∷◌, ◌++◌, map, length, get_or, take, drop, sym, ap, subst, ◌∙◌, All, filter}
use Rattle.std.proofs.lemmas.List.{map_more, take_all}
use Rattle.std.proofs.lemmas.List.Elements.{All-nil, All-cons, All-append, All-filter}
use Rattle.sp_base.specs.Numbers.{is_among}
use Rattle.sp_tree.specs.Grown.{Entry, LacksChild}
use Rattle.sp_group.specs.Rising.{IsLabel}
use Rattle.sp_pick.specs.Picking.{best, turned, is_likely, is_turned, candidates, IsTaken, IsFirstFree}
use Rattle.sp_pick.specs.Turning.{turned_round}
use Rattle.sp_pick.proofs.Searched.{among_at}
use Rattle.sp_pick.proofs.Turned.{label_rises, parts_at, turned_filter, turned_back}

-- the run at an index is none that is 0
pub not_zero : (gs : List ℕ) (i : ℕ) → IsLabel gs → i < length gs → get_or gs i 0 ≢ 0
not_zero gs i label within = label.given i 0 within

-- a label over some of the groups has open ones alone
pub some_open : (all gs label : List ℕ) (p : ℕ → Bool) → gs ≡ all → label ≡ filter p gs → All (λ r. is_among all r ≡ true) label
some_open all gs label p are is =
    subst (λ (l : List ℕ). All (λ r. is_among all r ≡ true) l) (sym (is ∙ ap (filter p) are)) (All-filter p (λ r. is_among all r ≡ true) all (λ k d within. among_at all k d within))

-- the best label with a run turned round, and turned back
pub turned_at : (shares : ℕ → ℕ) (gs label : List ℕ) (i : ℕ) (after : List ℕ) → IsLabel gs → i < length gs → label ≡ best shares gs → after ≡ turned_round label (get_or gs i 0)
    → after ≡ turned shares gs (get_or gs i 0)
turned_at shares gs label i after own within is made =
    made ∙ ap (λ (l : List ℕ). turned_round l (get_or gs i 0)) is ∙ turned_filter (is_likely shares) (get_or gs i 0) 0 gs (label_rises gs own) (among_at gs i 0 within)

pub back_at : (shares : ℕ → ℕ) (gs label : List ℕ) (i : ℕ) (after : List ℕ) → IsLabel gs → i < length gs → label ≡ turned shares gs (get_or gs i 0) → after ≡ turned_round label (get_or gs i 0)
    → after ≡ best shares gs
back_at shares gs label i after own within is made =
    made ∙ ap (λ (l : List ℕ). turned_round l (get_or gs i 0)) is ∙ turned_filter (is_turned shares (get_or gs i 0)) (get_or gs i 0) 0 gs (label_rises gs own) (among_at gs i 0 within)
    ∙ turned_back (is_likely shares) (get_or gs i 0) gs

module _ {V : Type 0} (es : List (Entry V)) (p : ℕ) (shares : ℕ → ℕ) where
  -- the best label is free
  pub best_free : (gs own label : List ℕ) → gs ≡ own → label ≡ best shares gs → LacksChild es p label → IsFirstFree es p (candidates shares own) label
  best_free gs own label are is free = subst (λ (g : List ℕ). IsFirstFree es p (candidates shares g) label) are (record {
    before = [];
    behind = map (turned shares gs) gs;
    parts = ap (λ (l : List ℕ). l ∷ map (turned shares gs) gs) (sym is);
    taken = All-nil (IsTaken es p);
    free = free;
  })

  -- the label at an index is, and those before it are not
  pub turned_free : (gs own : List ℕ) (i : ℕ) (label : List ℕ) → gs ≡ own → i < length gs → label ≡ turned shares gs (get_or gs i 0)
      → All (IsTaken es p) (best shares gs ∷ map (turned shares gs) (take i gs)) → LacksChild es p label → IsFirstFree es p (candidates shares own) label
  turned_free gs own i label are within is taken free = subst (λ (g : List ℕ). IsFirstFree es p (candidates shares g) label) are (record {
    before = best shares gs ∷ map (turned shares gs) (take i gs);
    behind = map (turned shares gs) (drop (suc i) gs);
    parts =
        ap (λ (l : List (List ℕ)). best shares gs ∷ l) (parts_at (turned shares gs) gs i 0 within)
        ∙ ap (λ (l : List ℕ). best shares gs ∷ (map (turned shares gs) (take i gs) ++ l ∷ map (turned shares gs) (drop (suc i) gs))) (sym is);
    taken = taken;
    free = free;
  })

  -- the loop's start and step
  pub best_taken : (gs label : List ℕ) → label ≡ best shares gs → IsTaken es p label → All (IsTaken es p) (best shares gs ∷ [])
  best_taken gs label is taken = All-cons (IsTaken es p) (best shares gs) [] (subst (IsTaken es p) is taken) (All-nil (IsTaken es p))

  pub more_taken : (gs : List ℕ) (i : ℕ) (label : List ℕ) → i < length gs → label ≡ turned shares gs (get_or gs i 0) → IsTaken es p label
      → All (IsTaken es p) (best shares gs ∷ map (turned shares gs) (take i gs)) → All (IsTaken es p) (best shares gs ∷ map (turned shares gs) (take (i + 1) gs))
  more_taken gs i label within is taken before =
      subst (λ (l : List (List ℕ)). All (IsTaken es p) (best shares gs ∷ l)) (sym (map_more (turned shares gs) gs i 0 within))
      (All-append (IsTaken es p) (best shares gs ∷ map (turned shares gs) (take i gs)) (turned shares gs (get_or gs i 0) ∷ []) before
      (All-cons (IsTaken es p) (turned shares gs (get_or gs i 0)) [] (subst (IsTaken es p) is taken) (All-nil (IsTaken es p))))

  -- at the end all are taken
  pub all_taken : (gs own : List ℕ) (i : ℕ) → gs ≡ own → length gs ≤ i → All (IsTaken es p) (best shares gs ∷ map (turned shares gs) (take i gs)) → All (IsTaken es p) (candidates shares own)
  all_taken gs own i are long taken =
      subst (λ (g : List ℕ). All (IsTaken es p) (candidates shares g)) are
      (subst (λ (l : List ℕ). All (IsTaken es p) (best shares gs ∷ map (turned shares gs) l)) (take_all i gs long) taken)
