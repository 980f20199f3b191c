-- What is kept follows runs one by one.
use Rattle.std.proofs.Common.{◌≡◌, ℕ, suc, ℤ, ◌+◌, ◌<◌, ◌≤◌, max, Bool, true, List, [], ◌∷◌, ◌++◌, map, length, take, drop, set, get_or, refl, sym, ap, subst, ◌∙◌, append_assoc, inl, inr, arith}
use Rattle.std.proofs.lemmas.Bool.{cases_eq, cases_lt}
use Rattle.std.proofs.lemmas.List.{drop_at, drop-drop, get_or-drop, get_or-map, get_or-set_other, get_or-set_same, get_or_append_left, get_or_at, length-append, length-drop, length-map, length-take, length-take-le, map-set, set-get_or, set_split, take_all, take_at, take_more}
use Rattle.sp_plan.specs.declared.plan.Name.{Name}
use Rattle.sp_plan.specs.declared.plan.Plan.{Plan}
use Rattle.sp_plan.specs.Held.{HeldSidesStandAlone, held_columns, put}
use Rattle.sp_plan.specs.Masks.{has}
use Rattle.sp_plan.specs.Runs.{Pair, bound_events}
use Rattle.sp_plan.specs.Values.{BoundEvents}
use Rattle.sp_plan.proofs.PutColumns.{map-put}
use Rattle.sp_match.specs.declared.holdings.Holding.{Holding}
use Rattle.sp_match.specs.inside.Takers.{AreAlike, AreGrown, AreHeld, GoesOn, columns_of, columns_under, is_wanted, mask_of, masks_of, reads_of, run_in}
use Rattle.sp_match.specs.inside.Kept.{Kept, pairs}
use Rattle.sp_match.specs.inside.Effects.{run_at}
use Rattle.sp_match.specs.inside.Good.{Undoes}
use Rattle.sp_match.proofs.RunsGoOn.{alike_at, held_same}

-- a list with another element at a place, or with one more
pub length_put : {X : Type 0} (xs : List X) (at : ℕ) (x : X) → at ≤ length xs → length (put xs at x) ≡ max (length xs) (at + 1)
length_put xs at x within = omega (arith, within, length-append (take at xs) (x ∷ drop (at + 1) xs), length-take at xs, length-drop (at + 1) xs)

pub put_here : {X : Type 0} (xs : List X) (at : ℕ) (x d : X) → at ≤ length xs → get_or (put xs at x) at d ≡ x
put_here xs at x d within = get_or_at (take at xs) x (drop (at + 1) xs) d at (length-take-le at xs within)

pub set_is_put : {X : Type 0} (xs : List X) (at : ℕ) (x : X) → at < length xs → set xs at x ≡ put xs at x
set_is_put xs at x inside = let next : suc at ≡ at + 1 = omega arith in set_split xs at x inside ∙ ap (λ (n : ℕ). take at xs ++ x ∷ drop n xs) next

pub put_other : {X : Type 0} (xs : List X) (at i : ℕ) (x d : X) → at ≤ length xs → (i ≡ at → ⊥) → i < length (put xs at x) → get_or (put xs at x) i d ≡ get_or xs i d
put_other xs at i x d within apart there = elim (cases_lt at (length xs)) as (λ _. get_or (put xs at x) i d ≡ get_or xs i d) [
  | inl inside ↦ ap (λ l. get_or l i d) (sym (set_is_put xs at x inside)) ∙ get_or-set_other xs at i x d apart
  | inr behind ↦
      let below : i < length xs = omega (arith, apart, there, length_put xs at x within, within) in
      ap (λ l. get_or (l ++ x ∷ drop (at + 1) xs) i d) (take_all at xs behind) ∙ get_or_append_left xs (x ∷ drop (at + 1) xs) d i below
]

-- the elements of one list up to a place, and from there on those of another
pub more_follow : {X : Type 0} (ps rs : List X) (at : ℕ) (p d : X) → at < length ps → p ≡ get_or ps at d → put (take at ps ++ drop at rs) at p ≡ take (at + 1) ps ++ drop (at + 1) rs
more_follow ps rs at p d inside is =
    let both = take at ps ++ drop at rs in
    let front : length (take at ps) ≡ at = length-take-le at ps (omega (arith, inside)) in
    let start : take at both ≡ take at ps = take_at (take at ps) (drop at rs) at front in
    let rest : drop (at + 1) both ≡ drop (at + 1) rs = sym (drop-drop 1 at both) ∙ ap (drop 1) (drop_at (take at ps) (drop at rs) at front) ∙ drop-drop 1 at rs in
    (λ i. start i ++ is i ∷ rest i) ∙ sym (append_assoc (take at ps) (get_or ps at d ∷ []) (drop (at + 1) rs)) ∙ ap (λ l. l ++ drop (at + 1) rs) (sym (take_more ps at d inside))

pub still_ahead : {X : Type 0} (ps rs : List X) (at : ℕ) (d : X) → at ≤ length ps → get_or (take at ps ++ drop at rs) at d ≡ get_or rs at d
still_ahead ps rs at d within =
    let both = take at ps ++ drop at rs in
    let front : length (take at ps) ≡ at = length-take-le at ps within in
    let same : at + 0 ≡ at = omega arith in
    ap (λ (n : ℕ). get_or both n d) (sym same) ∙ sym (get_or-drop at both 0 d) ∙ ap (λ l. get_or l 0 d) (drop_at (take at ps) (drop at rs) at front) ∙ get_or-drop at rs 0 d ∙ ap (λ (n : ℕ). get_or rs n d) same

-- what is kept, when that of each name follows the run at a place
pub held_put : (q : Plan) (rs : List (List Pair)) (r : List Pair) (at : ℕ) (hs new : List Holding) → at < 64 → at ≤ length rs → AreHeld q rs hs
    → ((name : ℕ) → name < length q.names → has (mask_of (masks_of new) name) at ≡ is_wanted q r name)
    → ((name other : ℕ) → other < 64 → (other ≡ at → ⊥) → has (mask_of (masks_of new) name) other ≡ has (mask_of (masks_of hs) name) other)
    → columns_of new ≡ map (λ (x : Name). held_columns x.pred (put (map bound_events rs) at (bound_events r))) q.names → reads_of new ≡ reads_of hs → AreHeld q (put rs at r) new
held_put q rs r at hs new few within held here others columns reads =
    let long = length_put rs at r within in record {
      few = omega (arith, long, held.few, few);
      wanting = λ name i named there. elim (cases_eq i at) as (λ _. has (mask_of (masks_of new) name) i ≡ is_wanted q (run_in (put rs at r) i) name) [
        | inl same ↦ ap (λ (n : ℕ). has (mask_of (masks_of new) name) n) same ∙ here name named
            ∙ ap (λ (s : List Pair). is_wanted q s name) (sym (ap (λ (n : ℕ). get_or (put rs at r) n []) same ∙ put_here rs at r [] within))
        | inr apart ↦ others name i (omega (arith, there, long, held.few, few)) apart ∙ held.wanting name i named (omega (arith, there, long, apart, within))
            ∙ ap (λ (s : List Pair). is_wanted q s name) (sym (put_other rs at i r [] within apart there))
      ];
      columns = columns ∙ λ i. map (λ (x : Name). held_columns x.pred (sym (map-put bound_events rs at r) i)) q.names;
      reads = λ name named. ap (λ (bs : List Bool). get_or bs name true) reads ∙ held.reads name named;
    }

-- what is kept, where the run at a place goes on as it was
pub held_alike : HeldSidesStandAlone → (q : Plan) (rs : List (List Pair)) (r : List Pair) (at : ℕ) (hs : List Holding) → at < length rs → AreAlike q (run_in rs at) r → AreHeld q rs hs → AreHeld q (put rs at r) hs
held_alike alone q rs r at hs inside alike held =
    let within : at ≤ length rs = omega (arith, inside) in
    let long = length_put rs at r within in
    let size : length rs ≡ length (put rs at r) = omega (arith, long, inside) in
    held_same alone q rs (put rs at r) size (λ i there. elim (cases_eq i at) as (λ _. AreAlike q (run_in rs i) (run_in (put rs at r) i)) [
      | inl same ↦
          let new : r ≡ run_in (put rs at r) i = sym (ap (λ (n : ℕ). get_or (put rs at r) n []) same ∙ put_here rs at r [] within) in
          let old : run_in rs at ≡ run_in rs i = ap (run_in rs) (sym same) in
          subst (λ (s : List Pair). AreAlike q s (run_in (put rs at r) i)) old (subst (AreAlike q (run_in rs at)) new alike)
      | inr apart ↦
          let other : run_in rs i ≡ run_in (put rs at r) i = sym (put_other rs at i r [] within apart (omega (arith, there, size))) in
          subst (AreAlike q (run_in rs i)) other (record { wants = refl; reads = λ name read. refl })
    ]) hs held

-- what is kept of one name more follows the run
module _ (q : Plan) (r : List Pair) (at n : ℕ) (hs now new : List Holding) (h h' : Holding) (is : h ≡ get_or now n h) (set_is : new ≡ set now n h') (inside : n < length now) where
  masks : masks_of new ≡ set (masks_of now) n h'.wanting
  masks = ap masks_of set_is ∙ map-set (λ (k : Holding). k.wanting) now n h'

  long_masks : n < length (masks_of now)
  long_masks = omega (arith, inside, length-map now (λ (k : Holding). k.wanting))

  pub here_more : ((m : ℕ) → m < n → has (mask_of (masks_of now) m) at ≡ is_wanted q r m) → has h'.wanting at ≡ is_wanted q r n → (m : ℕ) → m < n + 1 → has (mask_of (masks_of new) m) at ≡ is_wanted q r m
  here_more seen own m below = ap (λ (ms : List ℕ). has (mask_of ms m) at) masks ∙ elim (cases_eq m n) as (λ _. has (mask_of (set (masks_of now) n h'.wanting) m) at ≡ is_wanted q r m) [
    | inl same ↦ ap (λ (k : ℕ). has (mask_of (set (masks_of now) n h'.wanting) k) at) same ∙ ap (λ (k : ℕ). has k at) (get_or-set_same (masks_of now) n h'.wanting 0 long_masks) ∙ own ∙ ap (is_wanted q r) (sym same)
    | inr apart ↦ ap (λ (k : ℕ). has k at) (get_or-set_other (masks_of now) n m h'.wanting 0 apart) ∙ seen m (omega (arith, below, apart))
  ]

  pub others_more : ((m other : ℕ) → other < 64 → (other ≡ at → ⊥) → has (mask_of (masks_of now) m) other ≡ has (mask_of (masks_of hs) m) other)
      → ((other : ℕ) → other < 64 → (other ≡ at → ⊥) → has h'.wanting other ≡ has h.wanting other)
      → (m other : ℕ) → other < 64 → (other ≡ at → ⊥) → has (mask_of (masks_of new) m) other ≡ has (mask_of (masks_of hs) m) other
  others_more seen own m other few else_where = ap (λ (ms : List ℕ). has (mask_of ms m) other) masks ∙ elim (cases_eq m n) as (λ _. has (mask_of (set (masks_of now) n h'.wanting) m) other ≡ has (mask_of (masks_of hs) m) other) [
    | inl same ↦
        let was : h.wanting ≡ mask_of (masks_of now) n = ap (λ (k : Holding). k.wanting) is ∙ sym (get_or-map (λ (k : Holding). k.wanting) now n h 0 inside) in
        ap (λ (k : ℕ). has (mask_of (set (masks_of now) n h'.wanting) k) other) same ∙ ap (λ (k : ℕ). has k other) (get_or-set_same (masks_of now) n h'.wanting 0 long_masks) ∙ own other few else_where ∙ ap (λ (k : ℕ). has k other) was
        ∙ seen n other few else_where ∙ ap (λ (k : ℕ). has (mask_of (masks_of hs) k) other) (sym same)
    | inr apart ↦ ap (λ (k : ℕ). has k other) (get_or-set_other (masks_of now) n m h'.wanting 0 apart) ∙ seen m other few else_where
  ]

  pub reads_same : reads_of now ≡ reads_of hs → h'.is_read ≡ h.is_read → reads_of new ≡ reads_of hs
  reads_same seen own =
      let was : h.is_read ≡ get_or (reads_of now) n true = ap (λ (k : Holding). k.is_read) is ∙ sym (get_or-map (λ (k : Holding). k.is_read) now n h true inside) in
      ap reads_of set_is ∙ map-set (λ (k : Holding). k.is_read) now n h' ∙ ap (set (reads_of now) n) (own ∙ was) ∙ set-get_or (reads_of now) n true ∙ seen

-- the columns of names, of which those up to a place follow
abbrev columns_by : Plan → List BoundEvents → List (List (List ℤ))
columns_by q bounds = map (λ (x : Name). held_columns x.pred bounds) q.names

module _ (q : Plan) (bounds after : List BoundEvents) (n : ℕ) (now new : List Holding) (h h' : Holding) (named : n < length q.names) (is : h ≡ get_or now n h) (inside : n < length now)
    (seen : columns_of now ≡ take n (columns_by q after) ++ drop n (columns_by q bounds)) where
  pub own_columns : h.columns.items ≡ columns_under q n bounds
  own_columns =
      let within : n ≤ length (columns_by q after) = omega (arith, named, length-map q.names (λ (x : Name). held_columns x.pred after)) in
      ap (λ (k : Holding). k.columns.items) is ∙ sym (get_or-map (λ (k : Holding). k.columns.items) now n h [] inside) ∙ ap (λ (l : List (List (List ℤ))). get_or l n []) seen ∙ still_ahead (columns_by q after) (columns_by q bounds) n [] within

  pub columns_follow : new ≡ set now n h' → h'.columns.items ≡ columns_under q n after → columns_of new ≡ take (n + 1) (columns_by q after) ++ drop (n + 1) (columns_by q bounds)
  columns_follow set_is own =
      let within : n < length (columns_by q after) = omega (arith, named, length-map q.names (λ (x : Name). held_columns x.pred after)) in
      let long : n < length (columns_of now) = omega (arith, inside, length-map now (λ (k : Holding). k.columns.items)) in
      ap columns_of set_is ∙ map-set (λ (k : Holding). k.columns.items) now n h' ∙ set_is_put (columns_of now) n h'.columns.items long ∙ ap (λ (l : List (List (List ℤ))). put l n h'.columns.items) seen
      ∙ more_follow (columns_by q after) (columns_by q bounds) n h'.columns.items [] within own

-- runs that were open when the event came, and go on as they were
pub was_alike : (q : Plan) (n count : ℕ) (is_quiet : Bool) (old new : List Kept) → AreGrown q n count is_quiet old new → count ≤ length new
    → (at : ℕ) → at < count → GoesOn q n (run_at new at) → AreAlike q (run_in (map pairs old) at) (pairs (run_at new at))
was_alike q n count is_quiet old new grown long at below on =
    alike_at q n old new grown.set.1.good grown.set.1.below (subst (λ (m : ℕ). Undoes q n old (take m new)) (sym grown.size) grown.undoes) (omega (arith, long, grown.size)) at (omega (arith, below, grown.size)) on
