-- The runs of a version that have a group, by their places among the open runs, and the shares that are set for them.
use Rattle.std.proofs.Common.{◌≡◌, ◌≢◌, ℕ, zero, suc, ◌+◌, ◌<◌, ◌≤◌, Bool, true, false, ◌&&◌, ◌||◌, ◌==◌, cond, List, [], ◌∷◌, length, get_or, map, Some, refl, sym, ap, subst, ◌∙◌, ⊎_elim, arith}
use Rattle.std.specs.Prelude.{min}
use Rattle.std.specs.List.{All, flat_map, list_any}
use Rattle.std.proofs.lemmas.Bool.{and_parts, cases_eq}
use Rattle.std.proofs.lemmas.Bool.Decides.{nat_tests}
use Rattle.std.proofs.lemmas.List.{get_or-map, length-map}
use Rattle.std.proofs.lemmas.List.Elements.{All-get_or, All-head, All-tail, All-nil, All-cons}
use Rattle.sp_base.specs.Limits.{whole_share}
use Rattle.sp_plan.specs.declared.plan.Plan.{Plan}
use Rattle.sp_plan.specs.declared.plan.Element.{Element}
use Rattle.sp_plan.specs.Same.{SamePlan}
use Rattle.sp_plan.specs.Moves.{left}
use Rattle.sp_plan.specs.Runs as runs
use Rattle.sp_plan.specs.Runs.{Started, State, unbound, used}
use Rattle.sp_match.specs.declared.run.Run.{Run}
use Rattle.sp_match.specs.public.Laws.{Sound}
use Rattle.sp_match.specs.public.Matching.{Matching, Stands, left_at, shown}
use Rattle.sp_match.specs.public.Seen.{seen_run}
use Rattle.sp_group.specs.Machine.{is_group}
use Rattle.sp_group.specs.Rising.{has_number}
use Rattle.sp_rules.specs.ByGroups.{HasGroups}
use Rattle.sp_chance.specs.Shares.{is_that}
use Rattle.sp_core.proofs.Alike.{used_alike}
use Rattle.sp_spread.specs.Guessing.{left_of, run_of}
use Rattle.sp_splitter.specs.Asking.{AreAsked, AreNumbered, IsAsked, run_at}

-- ---- places

number_at : (rs : List Started) (k : ℕ) → k < length rs → get_or (map (λ (run : Started). run.0) rs) k 0 ≡ (run_at rs k).0
number_at rs k low = get_or-map (λ (run : Started). run.0) rs k (0, []) 0 low

rises_at : (rs : List Started) → AreNumbered rs → (k : ℕ) → k + 1 < length rs → (run_at rs k).0 < (run_at rs (k + 1)).0
rises_at rs n k low =
    let step = n.rising k (omega (arith, low, length-map rs (λ (run : Started). run.0))) in
    let here = number_at rs k (omega arith) in
    let next = number_at rs (k + 1) low in
    omega arith

-- a place is below the number of the run that stands there
pub place_below : (rs : List Started) → AreNumbered rs → (k : ℕ) → k < length rs → k < (run_at rs k).0
place_below rs n zero low = let given : 1 ≤ (run_at rs 0).0 = All-get_or (λ (run : Started). 1 ≤ run.0) rs 0 (0, []) low n.given in omega arith
place_below rs n (suc k) low =
    let before : k < (run_at rs k).0 = place_below rs n k (omega arith) in
    let one : k + 1 ≡ suc k = omega arith in
    let step : (run_at rs k).0 < (run_at rs (suc k)).0 = subst (λ (j : ℕ). (run_at rs k).0 < (run_at rs j).0) one (rises_at rs n k (omega arith)) in
    omega arith

-- earlier runs have lesser numbers
pub earlier_less : (rs : List Started) → AreNumbered rs → (j k : ℕ) → j < k → k < length rs → (run_at rs j).0 < (run_at rs k).0
earlier_less rs n j zero less low = absurd (omega arith)
earlier_less rs n j (suc k) less low = ⊎_elim same (other (earlier_less rs n j k)) (cases_eq j k)
  where
    one : k + 1 ≡ suc k
    one = omega arith

    step : (run_at rs k).0 < (run_at rs (suc k)).0
    step = subst (λ (i : ℕ). (run_at rs k).0 < (run_at rs i).0) one (rises_at rs n k (omega arith))

    same : j ≡ k → (run_at rs j).0 < (run_at rs (suc k)).0
    same is = subst (λ (i : ℕ). (run_at rs i).0 < (run_at rs (suc k)).0) (sym is) step

    other : (j < k → k < length rs → (run_at rs j).0 < (run_at rs k).0) → (j ≡ k → ⊥) → (run_at rs j).0 < (run_at rs (suc k)).0
    other rest apart = let before : (run_at rs j).0 < (run_at rs k).0 = rest (omega arith) (omega arith) in let next = step in omega arith

-- the run of a number is the first one that has it
first_of_number : (rs : List Started) (k : ℕ) → k < length rs → ((j : ℕ) → j < k → (run_at rs j).0 ≢ (run_at rs k).0) → run_of rs (run_at rs k).0 ≡ (run_at rs k).1
first_of_number [] k low apart = absurd (omega (arith, low))
first_of_number (x ∷ rs) zero low apart = let own : (x.0 == x.0) ≡ true = grind (arith, nat_tests) in rw own refl
first_of_number (x ∷ rs) (suc k) low apart =
    let ne : x.0 ≢ (run_at rs k).0 = apart 0 (omega arith) in
    let other : (x.0 == (run_at rs k).0) ≡ false = grind (arith, nat_tests) in
    rw other (first_of_number rs k (omega (arith, low)) (λ j less. apart (suc j) (omega arith)))

pub run_of_place : (rs : List Started) → AreNumbered rs → (k : ℕ) → k < length rs → run_of rs (run_at rs k).0 ≡ (run_at rs k).1
run_of_place rs n k low = first_of_number rs k low (λ j less same. let before = earlier_less rs n j k less low in omega arith)

-- where some run passes a test there is a place of one
place_passing : (p : Started → Bool) (rs : List Started) → list_any p rs ≡ true → (k : ℕ) × (k < length rs) × (p (run_at rs k) ≡ true)
place_passing p [] some = absurd (cc some)
place_passing p (x ∷ rs) some = one (place_passing p rs) (p x) refl some
  where
    Place : Type 0
    Place = (k : ℕ) × (k < length (x ∷ rs)) × (p (run_at (x ∷ rs) k) ≡ true)

    one : (list_any p rs ≡ true → (k : ℕ) × (k < length rs) × (p (run_at rs k) ≡ true)) → (b : Bool) → p x ≡ b → (b || list_any p rs) ≡ true → Place
    one behind true is some = (0, omega arith, is)
    one behind false is some = let rest = behind some in (suc rest.0, omega (arith, rest.1), rest.2)

-- ---- what a matcher shows

-- the runs of a matcher that stands for runs are numbered
pub numbered_of : (m : Matching) (s : State) → Stands m s → Sound s → AreNumbered m.open_runs
numbered_of m s stands sound =
    subst AreNumbered (sym stands.open_is) (record { rising = sound.ordered.rising; given = firsts s.open_runs sound.ordered.given })
  where
    firsts : (rs : List Started) → All (λ (run : Started). (1 ≤ run.0) × (run.0 ≤ s.started)) rs → All (λ (run : Started). 1 ≤ run.0) rs
    firsts [] all = All-nil (λ (run : Started). 1 ≤ run.0)
    firsts (x ∷ rs) all =
        All-cons (λ (run : Started). 1 ≤ run.0) x rs (All-head (λ (run : Started). (1 ≤ run.0) × (run.0 ≤ s.started)) x rs all).0
        (firsts rs (All-tail (λ (run : Started). (1 ≤ run.0) × (run.0 ≤ s.started)) x rs all))

-- the run that is shown at a place
pub shown_at : (q : Plan) (items : List Run) (rs : List Started) → map seen_run items ≡ map (shown q) rs → (k : ℕ) (x : Run) → k < length items → x ≡ get_or items k x
    → (k < length rs) × (x.number ≡ (run_at rs k).0) × (x.used.list ≡ used q (run_at rs k).1)
shown_at q [] rs same k x low is = absurd (omega (arith, low))
shown_at q (i ∷ items) [] same k x low is = absurd (cc same)
shown_at q (i ∷ items) (r ∷ rs) same zero x low is =
    let head : seen_run i ≡ shown q r = cc same in
    (omega arith, ap (λ (y : Run). y.number) is ∙ ap (λ s. s.0) head, ap (λ (y : Run). y.used.list) is ∙ ap (λ s. s.2) head)
shown_at q (i ∷ items) (r ∷ rs) same (suc k) x low is =
    let tail : map seen_run items ≡ map (shown q) rs = cc same in
    let rest = shown_at q items rs tail k x (omega (arith, low)) is in
    (omega (arith, rest.0), rest.1, rest.2)

-- a run wants as many under plans that are one but for addresses
left_alike : (p q : Plan) → SamePlan p q → (run : runs.Run) → left p run ≡ left q run
left_alike p q same run = ap (λ (es : List Element). length (flat_map (λ element. unbound run (Some element)) es)) same.elements

-- What is asked of each run is what is meant for each group.
pub group_asked : (q : Plan) (s : State) (m : Matching) → SamePlan m.plan q → Stands m s → Sound s → HasGroups q s → (means : ℕ → ℕ → ℕ) (events : ℕ) (share : ℕ → ℕ)
    → AreAsked m means events share → (r : ℕ) → is_group q s r ≡ true → share r ≡ min whole_share (means (left_of q s r) events)
group_asked q s m same stands sound groups means events share asked r group =
    let p : Started → Bool = λ one. one.0 == r && has_number (used q one.1) in
    let place = place_passing p s.open_runs (groups.any r ∙ group) in
    let k : ℕ = place.0 in
    let run : Started = run_at s.open_runs k in
    let open_is = stands.open_is in
    let at : run_at m.open_runs k ≡ run = ap (λ (rs : List Started). run_at rs k) open_is in
    let parts = and_parts (run.0 == r) (has_number (used q run.1)) place.2 in
    let test : (run.0 == r) ≡ true = parts.0 in
    let number : run.0 ≡ r = grind (arith, nat_tests) in
    let within : k < length m.open_runs = subst (λ (rs : List Started). k < length rs) (sym open_is) place.1 in
    let has : has_number (used m.plan (run_at m.open_runs k).1) ≡ true = ap (λ (x : Started). has_number (used m.plan x.1)) at ∙ ap has_number (used_alike m.plan q same run.1) ∙ parts.1 in
    let numbered : AreNumbered s.open_runs = subst AreNumbered open_is (numbered_of m s stands sound) in
    let pairs : run_of s.open_runs r ≡ run.1 = subst (λ (n : ℕ). run_of s.open_runs n ≡ run.1) number (run_of_place s.open_runs numbered k place.1) in
    let wants : left_at m k ≡ left_of q s r = ap (λ (x : Started). left m.plan x.1) at ∙ left_alike m.plan q same run.1 ∙ ap (left q) (sym pairs) in
    ap share (sym (ap (λ (x : Started). x.0) at ∙ number)) ∙ asked k within has ∙ ap (λ (n : ℕ). min whole_share (means n events)) wants

-- ---- the shares that are set

-- so many runs of the version have been asked, and what is set for other versions is as before
pub record Asked (m : Matching) (means : ℕ → ℕ → ℕ) (events id place : ℕ) (shares before : ℕ → ℕ → ℕ) : Type 0 where
  pub done : (k : ℕ) → k < place → IsAsked m means events (shares id) k
  pub others : (other r : ℕ) → other ≢ id → shares other r ≡ before other r

module _ (m : Matching) (means : ℕ → ℕ → ℕ) (events id place : ℕ) (shares before : ℕ → ℕ → ℕ) (so_far : Asked m means events id place shares before) where
  -- one that has no group is not asked
  pub asked_none : has_number (used m.plan (run_at m.open_runs place).1) ≡ false → Asked m means events id (place + 1) shares before
  asked_none none = record {
    done = λ k low has. ⊎_elim
        (λ (same : k ≡ place). let no : has_number (used m.plan (run_at m.open_runs k).1) ≡ false = ap (λ (n : ℕ). has_number (used m.plan (run_at m.open_runs n).1)) same ∙ none in absurd (cc))
        (λ (apart : k ≡ place → ⊥). so_far.done k (omega (arith, low)) has) (cases_eq k place);
    others = so_far.others;
  }

  -- and one that has one is
  pub asked_one : AreNumbered m.open_runs → place < length m.open_runs → (next : ℕ → ℕ → ℕ) (number share : ℕ) → number ≡ (run_at m.open_runs place).0
      → share ≡ min (means (left_at m place) events) whole_share
      → ((v r : ℕ) → next v r ≡ cond (is_that v r id number) share (shares v r)) → Asked m means events id (place + 1) next before
  asked_one numbered within next number share number_is share_is sets = record {
    done = λ k low has. ⊎_elim (here k) (λ (apart : k ≡ place → ⊥). earlier k (omega (arith, low)) has) (cases_eq k place);
    others = λ other r apart. other_version other r apart ∙ so_far.others other r apart;
  }
    where
      own : (n : ℕ) → (n == n) ≡ true
      own n = grind (arith, nat_tests)

      here : (k : ℕ) → k ≡ place → next id (run_at m.open_runs k).0 ≡ min whole_share (means (left_at m k) events)
      here k same =
          let at : next id number ≡ share = sets id number ∙ (rw (own id, own number) refl) in
          let whole : next id (run_at m.open_runs place).0 ≡ min whole_share (means (left_at m place) events) =
          ap (next id) (sym number_is) ∙ at ∙ share_is ∙ (omega arith) in
          subst (λ (n : ℕ). next id (run_at m.open_runs n).0 ≡ min whole_share (means (left_at m n) events)) (sym same) whole

      earlier : (k : ℕ) → k < place → has_number (used m.plan (run_at m.open_runs k).1) ≡ true → next id (run_at m.open_runs k).0 ≡ min whole_share (means (left_at m k) events)
      earlier k less has =
          let low : (run_at m.open_runs k).0 < (run_at m.open_runs place).0 = earlier_less m.open_runs numbered k place less within in
          let other : ((run_at m.open_runs k).0 == number) ≡ false = grind (arith, nat_tests) in
          sets id (run_at m.open_runs k).0 ∙ (rw (own id, other) (so_far.done k less has))

      other_version : (other r : ℕ) → other ≢ id → next other r ≡ shares other r
      other_version other r apart = let no : (other == id) ≡ false = grind (arith, nat_tests) in sets other r ∙ (rw no refl)
