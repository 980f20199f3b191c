-- What is kept beside the open runs, run by run and name by name.
use Rattle.std.proofs.Common.{◌≡◌, ℕ, ℤ, ◌+◌, ◌<◌, ◌≤◌, max, Bool, true, false, ◌&&◌, ◌||◌, eqb, List, [], ◌∷◌, ◌++◌, map, length, take, get_or, Option, refl, sym, ap, subst, ◌∙◌, inl, inr, arith, bit_or}
use Rattle.std.specs.List.{All}
use Rattle.std.specs.Int.{bit_at}
use Rattle.std.proofs.lemmas.Bool.{cases_eq, cases_lt}
use Rattle.std.proofs.lemmas.Option.{slice_get-get_or, slice_get_past}
use Rattle.std.proofs.lemmas.Bool.Decides.{nat_tests}
use Rattle.std.proofs.lemmas.List.{get_or_append_left, get_or-map, get_or_at, get_or_past, length-map, map_push, take_more}
use Rattle.std.proofs.lemmas.List.Elements.{All-head, All-tail, All-get_or}
use Rattle.std.proofs.lemmas.Nat.Bits.{bit_at_or, bit_at-zero, bit_at-lt}
use Rattle.sp_plan.specs.declared.event.Event.{Event}
use Rattle.sp_plan.specs.declared.plan.Name.{Name}
use Rattle.sp_plan.specs.declared.plan.Plan.{Plan}
use Rattle.sp_plan.specs.Held.{held_columns}
use Rattle.sp_plan.specs.Bounds.{AllSmall}
use Rattle.sp_plan.specs.Masks.{has, outcome}
use Rattle.sp_plan.specs.Runs.{Pair, Started, bound_events, fits_name, guards, name_holds, wanted}
use Rattle.sp_plan.specs.Values.{holds}
use Rattle.sp_match.specs.declared.holdings.Holding.{Holding}
use Rattle.sp_match.specs.declared.holdings.Holdings.{Holdings}
use Rattle.sp_match.specs.declared.moves.Move.{Move}
use Rattle.sp_match.specs.public.Seen.{seen}
use Rattle.sp_match.specs.declared.run.Run.{Run}
use Rattle.sp_match.specs.declared.takers.Takers.{Takers}
use Rattle.sp_match.specs.inside.Kept.{Kept, empty, kept, pairs, started}
use Rattle.sp_match.specs.inside.Effects.{open_runs}
use Rattle.sp_match.specs.inside.Going.{IsIdle}
use Rattle.sp_match.specs.inside.Good.{Good}
use Rattle.sp_match.specs.inside.Takers.{AreHeld, AreTold, IsHeld, asked, columns_of, columns_over, is_wanted, is_read, mask_of, masks_of, reads_of, run_in, takes_under}
use Rattle.sp_match.proofs.AllTurnsGoOn.{open_all}
use Rattle.sp_match.proofs.PairsOfRuns.{events_of}
use Rattle.sp_match.proofs.RunsUndo.{here}
use Rattle.sp_match.proofs.TakersTell.{any_nothing, find_nothing, guards_asked, wanted_asked}

pub has_none : (at : ℕ) → has 0 at ≡ false
has_none at = ap (λ n. eqb n 1) (bit_at-zero at)

-- a run that neither of two masks has
pub has_neither : (a b at : ℕ) → has (bit_or a b) at ≡ false → (has a at ≡ false) × (has b at ≡ false)
has_neither a b at none =
    let both : eqb (max (bit_at a at) (bit_at b at)) 1 ≡ false = ap (λ n. eqb n 1) (sym (bit_at_or a b at)) ∙ none in
    two (bit_at a at) (bit_at b at) (bit_at-lt a at) (bit_at-lt b at) both
  where
    two : (m n : ℕ) → m < 2 → n < 2 → eqb (max m n) 1 ≡ false → (eqb m 1 ≡ false) × (eqb n 1 ≡ false)
    two m n few least both = (grind (arith, nat_tests), grind (arith, nat_tests))

-- one run more has its bit
pub bit_more : (f : ℕ → Bool) (old new at : ℕ) (is : Bool) → ((k : ℕ) → k < at → has old k ≡ f k) → ((k : ℕ) → at ≤ k → has old k ≡ false) → has new at ≡ (has old at || is)
    → ((k : ℕ) → (k ≡ at → ⊥) → has new k ≡ has old k) → is ≡ f at → ((k : ℕ) → k < at + 1 → has new k ≡ f k) × ((k : ℕ) → at + 1 ≤ k → has new k ≡ false)
bit_more f old new at is seen none same others so = (
  (λ k below. elim (cases_eq k at) as (λ _. has new k ≡ f k) [
    | inl here ↦ rw here (same ∙ ap (λ (t : Bool). t || is) (none at (omega arith)) ∙ so)
    | inr apart ↦ others k apart ∙ seen k (omega arith)
  ]),
  (λ k above. others k (λ e. omega (arith, above, e)) ∙ none k (omega (arith, above))),
)

-- the pairs of the run at a place
pub pairs_at : (rs : List Run) (at : ℕ) (d : Run) → at < length rs → d ≡ get_or rs at d → run_in (map pairs (map kept rs)) at ≡ pairs (kept d)
pairs_at rs at d within is = get_or-map pairs (map kept rs) at (empty 0) [] (omega (arith, within, length-map rs kept)) ∙ ap pairs (here rs at d within ∙ ap kept (sym is))

-- what is bound in runs, by their pairs
pub bound_of : (q : Plan) (rs : List Run) → All (Good q) (map kept rs) → map (λ (run : Run). run.events) rs ≡ map bound_events (map pairs (map kept rs))
bound_of q [] good = refl
bound_of q (run ∷ rs) good =
    let first : bound_events (pairs (kept run)) ≡ run.events = let own = All-head (Good q) (kept run) (map kept rs) good in events_of run.bound.items run.events own.same_names in
    λ i. sym first i ∷ bound_of q rs (All-tail (Good q) (kept run) (map kept rs) good) i

pub bound_small : (q : Plan) (rs : List Run) → All (Good q) (map kept rs) → All (λ (run : Run). AllSmall run.events) rs
bound_small q rs good = λ at d within. (good_at q rs at d within good).small
  where
    good_at : (q : Plan) (rs : List Run) (at : ℕ) (d : Run) → at < length rs → All (Good q) (map kept rs) → Good q (kept (get_or rs at d))
    good_at q rs at d within good = subst (Good q) (here rs at d within) (All-get_or (Good q) (map kept rs) at (empty 0) (omega (arith, within, length-map rs kept)) good)

-- what is kept of one name more
pub masks_more : (hs new : List Holding) (h : Holding) (n i : ℕ) (f : ℕ → ℕ → Bool) → new ≡ hs ++ h ∷ [] → length hs ≡ n → ((name at : ℕ) → name < n → at < i → has (mask_of (masks_of hs) name) at ≡ f name at)
    → ((at : ℕ) → at < i → has h.wanting at ≡ f n at) → (name at : ℕ) → name < n + 1 → at < i → has (mask_of (masks_of new) name) at ≡ f name at
masks_more hs new h n i f is size seen own name at below within =
    let masks : masks_of new ≡ masks_of hs ++ h.wanting ∷ [] = ap masks_of is ∙ map_push (λ (k : Holding). k.wanting) hs h in
    let long : length (masks_of hs) ≡ n = length-map hs (λ (k : Holding). k.wanting) ∙ size in
    ap (λ (ms : List ℕ). has (mask_of ms name) at) masks ∙ elim (cases_eq name n) as (λ _. has (mask_of (masks_of hs ++ h.wanting ∷ []) name) at ≡ f name at) [
      | inl same ↦ ap (λ (m : ℕ). has m at) (get_or_at (masks_of hs) h.wanting [] 0 name (long ∙ sym same)) ∙ own at within ∙ ap (λ (m : ℕ). f m at) (sym same)
      | inr apart ↦ ap (λ (m : ℕ). has m at) (get_or_append_left (masks_of hs) (h.wanting ∷ []) 0 name (omega (arith, below, apart, long))) ∙ seen name at (omega (arith, below, apart)) within
    ]

pub reads_more : (hs new : List Holding) (h : Holding) (n : ℕ) (f : ℕ → Bool) → new ≡ hs ++ h ∷ [] → length hs ≡ n → ((name : ℕ) → name < n → get_or (reads_of hs) name true ≡ f name) → h.is_read ≡ f n
    → (name : ℕ) → name < n + 1 → get_or (reads_of new) name true ≡ f name
reads_more hs new h n f is size seen own name below =
    let reads : reads_of new ≡ reads_of hs ++ h.is_read ∷ [] = ap reads_of is ∙ map_push (λ (k : Holding). k.is_read) hs h in
    let long : length (reads_of hs) ≡ n = length-map hs (λ (k : Holding). k.is_read) ∙ size in
    ap (λ (bs : List Bool). get_or bs name true) reads ∙ elim (cases_eq name n) as (λ _. get_or (reads_of hs ++ h.is_read ∷ []) name true ≡ f name) [
      | inl same ↦ get_or_at (reads_of hs) h.is_read [] true name (long ∙ sym same) ∙ own ∙ ap f (sym same)
      | inr apart ↦ get_or_append_left (reads_of hs) (h.is_read ∷ []) true name (omega (arith, below, apart, long)) ∙ seen name (omega (arith, below, apart))
    ]

pub columns_more : (rs : List (List Pair)) (names : List Name) (hs new : List Holding) (h : Holding) (d : Name) (n : ℕ) → new ≡ hs ++ h ∷ [] → n < length names → columns_of hs ≡ columns_over rs (take n names)
    → h.columns.items ≡ held_columns (get_or names n d).pred (map bound_events rs) → columns_of new ≡ columns_over rs (take (n + 1) names)
columns_more rs names hs new h d n is within seen own =
    ap columns_of is ∙ map_push (λ (k : Holding). k.columns.items) hs h ∙ (λ i. seen i ++ own i ∷ [])
    ∙ sym (map_push (λ (name : Name). held_columns name.pred (map bound_events rs)) (take n names) (get_or names n d)) ∙ ap (columns_over rs) (sym (take_more names n d within))

-- what is kept of the name at a place
module _ (q : Plan) (rs : List (List Pair)) (hs : List Holding) (held : AreHeld q rs hs) (name : ℕ) (named : name < length q.names) where
  pub kept_there : name < length hs
  kept_there = let long : length hs ≡ length q.names = sym (length-map hs (λ (h : Holding). h.columns.items)) ∙ ap length held.columns ∙ length-map q.names (λ (x : Name). held_columns x.pred (map bound_events rs)) in omega (arith, named, long)

  pub mask_at : (h : Holding) → h ≡ get_or hs name h → mask_of (masks_of hs) name ≡ h.wanting
  mask_at h is = get_or-map (λ (k : Holding). k.wanting) hs name h 0 kept_there ∙ ap (λ (k : Holding). k.wanting) (sym is)

  pub columns_at : (h : Holding) (d : Name) → h ≡ get_or hs name h → h.columns.items ≡ held_columns (get_or q.names name d).pred (map bound_events rs)
  columns_at h d is =
      let own = h.columns.items in
      ap (λ (k : Holding). k.columns.items) is ∙ sym (get_or-map (λ (k : Holding). k.columns.items) hs name h own kept_there) ∙ ap (λ (l : List (List (List ℤ))). get_or l name own) held.columns
      ∙ get_or-map (λ (x : Name). held_columns x.pred (map bound_events rs)) q.names name d own named

  -- the runs that are asked of it, and those of them for which its predicate holds
  pub under_told : (e : Event) (h : Holding) (d : Name) (mask : ℕ) → h ≡ get_or hs name h
      → ((at : ℕ) → at < length rs → has mask at ≡ (has h.wanting at && outcome (get_or q.names name d).pred e (map bound_events rs) at)) → (at : ℕ) → at < length rs → has mask at ≡ takes_under q e (run_in rs at) name
  under_told e h d mask is told at within =
      let wants : has h.wanting at ≡ is_wanted q (run_in rs at) name = ap (λ (m : ℕ). has m at) (sym (mask_at h is)) ∙ held.wanting name at named within in
      let holds_so : outcome (get_or q.names name d).pred e (map bound_events rs) at ≡ name_holds q (run_in rs at) e name =
      ap (holds (get_or q.names name d).pred e) (get_or-map bound_events rs at [] [] within) ∙ ap (λ (o : Option Name). fits_name o (run_in rs at) e) (sym (slice_get-get_or q.names name d named)) in
      told at within ∙ λ i. wants i && holds_so i

-- a name that isn't marked is read by no held side
pub unread : (q : Plan) (rs : List (List Pair)) (hs : List Holding) → AreHeld q rs hs → (name : ℕ) → get_or (reads_of hs) name true ≡ false → is_read q name ≡ false
unread q rs hs held name out = elim (cases_lt name (length q.names)) as (λ _. is_read q name ≡ false) [
  | inl named ↦ sym (held.reads name named) ∙ out
  | inr above ↦
      let long : length hs ≡ length q.names = sym (length-map hs (λ (h : Holding). h.columns.items)) ∙ ap length held.columns ∙ length-map q.names (λ (x : Name). held_columns x.pred (map bound_events rs)) in
      let past : get_or (reads_of hs) name true ≡ true = get_or_past (reads_of hs) name true (omega (arith, above, long, length-map hs (λ (h : Holding). h.is_read))) in
      absurd (cc (past, out))
]

-- the masks of names one by one, and the runs of any of them
module _ (q : Plan) (e : Event) (rs : List (List Pair)) (masks new : List ℕ) (any n mask : ℕ) (is : new ≡ masks ++ mask ∷ []) (size : length masks ≡ n) (own : (at : ℕ) → at < length rs → has mask at ≡ takes_under q e (run_in rs at) n) where
  pub told_more : ((name at : ℕ) → name < n → at < length rs → has (mask_of masks name) at ≡ takes_under q e (run_in rs at) name)
      → (name at : ℕ) → name < n + 1 → at < length rs → has (mask_of new name) at ≡ takes_under q e (run_in rs at) name
  told_more seen name at below there = ap (λ (ms : List ℕ). has (mask_of ms name) at) is ∙ elim (cases_eq name n) as (λ _. has (mask_of (masks ++ mask ∷ []) name) at ≡ takes_under q e (run_in rs at) name) [
    | inl same ↦ ap (λ (m : ℕ). has m at) (get_or_at masks mask [] 0 name (size ∙ sym same)) ∙ own at there ∙ ap (takes_under q e (run_in rs at)) (sym same)
    | inr apart ↦ ap (λ (m : ℕ). has m at) (get_or_append_left masks (mask ∷ []) 0 name (omega (arith, below, apart, size))) ∙ seen name at (omega (arith, below, apart)) there
  ]

  pub any_more : ((name at : ℕ) → name < n → at < length rs → has any at ≡ false → takes_under q e (run_in rs at) name ≡ false)
      → (name at : ℕ) → name < n + 1 → at < length rs → has (bit_or any mask) at ≡ false → takes_under q e (run_in rs at) name ≡ false
  any_more seen name at below there none =
      let both = has_neither any mask at none in
      elim (cases_eq name n) as (λ _. takes_under q e (run_in rs at) name ≡ false) [
        | inl same ↦ ap (takes_under q e (run_in rs at)) same ∙ sym (own at there) ∙ both.1
        | inr apart ↦ seen name at (omega (arith, below, apart)) there both.0
      ]

-- when all names were gone through
module _ (q : Plan) (e : Event) (rs : List (List Pair)) (t : Takers) (few : length rs ≤ 64)
    (seen : (name at : ℕ) → name < length q.names → at < length rs → has (mask_of t.masks.items name) at ≡ takes_under q e (run_in rs at) name)
    (size : length t.masks.items ≡ length q.names)
    (any : (name at : ℕ) → name < length q.names → at < length rs → has t.any at ≡ false → takes_under q e (run_in rs at) name ≡ false) where
  past : (name : ℕ) (r : List Pair) → length q.names ≤ name → takes_under q e r name ≡ false
  past name r above = (λ i. is_wanted q r name && fits_name (slice_get_past q.names name above i) r e) ∙ no (is_wanted q r name)
    where
      no : (b : Bool) → (b && false) ≡ false
      no true = refl
      no false = refl

  pub all_told : AreTold q e t rs
  all_told at within = record {
    few = omega (arith, few, within);
    names = λ name. elim (cases_lt name (length q.names)) as (λ _. has (mask_of t.masks.items name) at ≡ takes_under q e (run_in rs at) name) [
      | inl named ↦ seen name at named within
      | inr above ↦ ap (λ (m : ℕ). has m at) (get_or_past t.masks.items name 0 (omega (arith, above, size))) ∙ has_none at ∙ sym (past name (run_in rs at) above)
    ];
    any = λ none. find_nothing (name_holds q (run_in rs at) e) (asked q (run_in rs at)) (wanted q (run_in rs at)) (nobody at within none) (wanted_asked q (run_in rs at));
    calm = λ none. any_nothing (name_holds q (run_in rs at) e) (asked q (run_in rs at)) (guards q (run_in rs at)) (nobody at within none) (guards_asked q (run_in rs at));
  }
    where
      nobody : (at : ℕ) → at < length rs → has t.any at ≡ false → (name : ℕ) → takes_under q e (run_in rs at) name ≡ false
      nobody at within none name = elim (cases_lt name (length q.names)) as (λ _. takes_under q e (run_in rs at) name ≡ false) [
        | inl named ↦ any name at named within none
        | inr above ↦ past name (run_in rs at) above
      ]

-- runs that stay as they are, all of them
pub same_pairs : (settled new old : List Kept) → map started settled ≡ open_runs new → new ≡ old → All IsIdle old → map pairs old ≡ map pairs settled
same_pairs settled new old is same idle = sym (sym (all_pairs settled) ∙ ap (map (λ (s : Started). s.1)) (is ∙ ap open_runs same ∙ open_all old idle) ∙ all_pairs old)
  where
    all_pairs : (ks : List Kept) → map (λ (s : Started). s.1) (map started ks) ≡ map pairs ks
    all_pairs [] = refl
    all_pairs (k ∷ ks) = ap (λ (l : List (List Pair)). pairs k ∷ l) (all_pairs ks)

pub nothing_told : (ms : List Move) (n : ℕ) (b : Bool) → b ≡ eqb n 0 → n ≡ length ms → b ≡ true → map seen ms ≡ []
nothing_told [] n b is long so = refl
nothing_told (m ∷ ms) n b is long so = let one : eqb n 0 ≡ true = sym is ∙ so in absurd (let none : n ≡ 0 = grind (arith, nat_tests) in omega (arith, none, long))

-- where plan and runs are lent
pub held_on : (lent q : Plan) (runs rs : List Run) (h : Holdings) → lent ≡ q → runs ≡ rs → IsHeld lent (map pairs (map kept runs)) h → IsHeld q (map pairs (map kept rs)) h
held_on lent q runs rs h plan same held = subst (λ (p : Plan). IsHeld p (map pairs (map kept rs)) h) plan (subst (λ (l : List Run). IsHeld lent (map pairs (map kept l)) h) same held)
