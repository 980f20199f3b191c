-- Places whose ids fall, by index.
use Rattle.std.proofs.Common.{◌≢◌, ℕ, zero, suc, ◌+◌, ◌<◌, ◌≤◌, List, [], ◌∷◌, length, get_or, sym, subst, arith, inl, inr, ◌⊎◌}
use Rattle.std.proofs.lemmas.Bool.{cases_eq, cases_lt}
use Rattle.std.proofs.lemmas.List.{get_or_default}
use Rattle.sp_store.specs.declared.place.Place.{Place}
use Rattle.sp_store.specs.Places.{Falls, Lacks}

pub all_below : (top : ℕ) (ps : List Place) → Falls top ps → (k : ℕ) (d : Place) → k < length ps → (get_or ps k d).id < top
all_below top [] h k d within = absurd (omega arith)
all_below top (p ∷ ps) h zero d within = h.0
all_below top (p ∷ ps) h (suc k) d within =
    let later : (get_or ps k d).id < p.id = all_below p.id ps h.1 k d (omega arith) in
    let first : p.id < top = h.0 in
    omega arith

pub far_below : (top : ℕ) (ps : List Place) → Falls top ps → (i j : ℕ) (d : Place) → i < j → j < length ps → (get_or ps j d).id < (get_or ps i d).id
far_below top [] h i j d less within = absurd (omega arith)
far_below top (p ∷ ps) h i zero d less within = absurd (omega arith)
far_below top (p ∷ ps) h zero (suc j) d less within = all_below p.id ps h.1 j d (omega arith)
far_below top (p ∷ ps) h (suc i) (suc j) d less within = far_below p.id ps h.1 i j d (omega arith) (omega arith)

pub lacks_from : (ps : List Place) (id : ℕ) → ((k : ℕ) (d : Place) → k < length ps → (get_or ps k d).id ≢ id) → Lacks ps id
lacks_from [] id h = tt
lacks_from (p ∷ ps) id h = (h 0 p (omega arith), lacks_from ps id (λ k d within. h (suc k) d (omega arith)))

-- the search has come so far: ids before `low` are above, those from `high` on are not
pub record IsBetween (ps : List Place) (id low high : ℕ) : Type 0 where
  pub order : low ≤ high
  pub within : high ≤ length ps
  pub before : (k : ℕ) (d : Place) → k < low → id < (get_or ps k d).id
  pub behind : (k : ℕ) (d : Place) → high ≤ k → k < length ps → (get_or ps k d).id ≤ id

pub not_below : (top : ℕ) (ps : List Place) → Falls top ps → (i j : ℕ) (d : Place) → i ≤ j → j < length ps → (get_or ps j d).id ≤ (get_or ps i d).id
not_below top ps h i j d less within =
    elim (cases_eq i j) [
      | inl e ↦ subst (λ k. (get_or ps k d).id ≤ (get_or ps i d).id) e (omega arith)
      | inr e ↦ (let more : (get_or ps j d).id < (get_or ps i d).id = far_below top ps h i j d (omega arith) within in omega arith)
    ]

pub rises : (top : ℕ) (ps : List Place) (id low high middle : ℕ) → Falls top ps → IsBetween ps id low high → middle < high → (e : Place) → id < (get_or ps middle e).id → IsBetween ps id (middle + 1) high
rises top ps id low high middle h b inside e more =
    let in_list = b.within in record {
      order = omega arith;
      within = b.within;
      before = λ k d less. let a : id < (get_or ps middle d).id = subst (λ (z : Place). id < z.id) (get_or_default ps middle e d (omega arith)) more in let n : (get_or ps middle d).id ≤ (get_or ps k d).id = not_below top ps h k middle d (omega arith) (omega arith) in omega arith;
      behind = b.behind;
    }

pub sinks : (top : ℕ) (ps : List Place) (id low high middle : ℕ) → Falls top ps → IsBetween ps id low high → low ≤ middle → middle < high → (e : Place) → (get_or ps middle e).id ≤ id → IsBetween ps id low middle
sinks top ps id low high middle h b from inside e less =
    let in_list = b.within in record {
      order = from;
      within = omega arith;
      before = b.before;
      behind = λ k d at within. let a : (get_or ps middle d).id ≤ id = subst (λ (z : Place). z.id ≤ id) (get_or_default ps middle e d (omega arith)) less in let n : (get_or ps k d).id ≤ (get_or ps middle d).id = not_below top ps h middle k d at within in omega arith;
    }

pub lacks_past : (ps : List Place) (id low high : ℕ) → IsBetween ps id low high → length ps ≤ low → Lacks ps id
lacks_past ps id low high b past = lacks_from ps id (λ k d within. let a : id < (get_or ps k d).id = b.before k d (omega arith) in λ e. omega arith)

cases_of : (k low : ℕ) → k ≢ low → (k < low) ⊎ (low < k)
cases_of k low e = elim (cases_lt k low) [
  | inl less ↦ inl less
  | inr more ↦ inr (omega arith)
]

pub lacks_here : (top : ℕ) (ps : List Place) (id low high : ℕ) → Falls top ps → IsBetween ps id low high → high ≤ low → low < length ps → (e : Place) → (get_or ps low e).id ≢ id → Lacks ps id
lacks_here top ps id low high h b met inside e differs = lacks_from ps id (λ k d within. elim (cases_eq k low) [
  | inl here ↦ subst (λ j. (get_or ps j d).id ≢ id) (sym here) (subst (λ (z : Place). z.id ≢ id) (get_or_default ps low e d inside) differs)
  | inr apart ↦ λ same. elim (cases_of k low apart) [
    | inl less ↦ (let a : id < (get_or ps k d).id = b.before k d less in omega arith)
    | inr more ↦ (let a : (get_or ps k d).id < (get_or ps low d).id = far_below top ps h low k d more within in let n : (get_or ps low d).id ≤ id = b.behind low d met inside in omega arith)
  ]
])
