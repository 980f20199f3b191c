-- What a parent keeps from a child, run by run.
use Rattle.std.proofs.Common.{◌≡◌, ℕ, ◌+◌, ◌<◌, ◌≤◌, Bool, true, false, ◌&&◌, ◌||◌, List, [], ◌∷◌, length, map, take, filter, get_or, ◌==◌, refl, sym, ap, ◌∙◌}
use Rattle.std.specs.List.{list_any}
use Rattle.std.proofs.lemmas.List.{take_all}
use Rattle.std.proofs.lemmas.Bool.{eqb-true}
use Rattle.std.proofs.lemmas.List.Folds.{list_any_more}
use Rattle.std.proofs.lemmas.Map.Views.{any-filter_same}
use Rattle.sp_base.specs.Numbers.{is_within, is_among}
use Rattle.sp_plan.specs.declared.plan.Plan.{Plan}
use Rattle.sp_plan.specs.Runs.{Started, used as used_by}
use Rattle.sp_match.specs.declared.run.Run.{Run}
use Rattle.sp_match.specs.public.Matching.{Shown, shown}
use Rattle.sp_match.specs.public.Seen.{seen_run}

-- whether a label names a run that holds an event
abbrev pub is_held_by : List ℕ → ℕ → Run → Bool
is_held_by label i run = is_among label run.number && is_among run.used.list i

-- the same of a run as it is shown
abbrev is_shown_to_hold : List ℕ → ℕ → Shown → Bool
is_shown_to_hold label i run = is_among label run.0 && is_among run.2 i

-- whether a label names one of the first runs that hold an event
abbrev pub is_held_within : List ℕ → List Run → ℕ → ℕ → Bool
is_held_within label runs n i = list_any (is_held_by label i) (take n runs)

any_map : {X Y : Type 0} (f : X → Y) (p : Y → Bool) (xs : List X) → list_any p (map f xs) ≡ list_any (λ x. p (f x)) xs
any_map f p [] = refl
any_map f p (x ∷ xs) = ap (λ (b : Bool). p (f x) || b) (any_map f p xs)

-- the runs that a matcher answers hold what the open runs use
pub held_by_all : (q : Plan) (runs : List Run) (open_runs : List Started) (label : List ℕ) (i n : ℕ) → map seen_run runs ≡ map (shown q) open_runs → length runs ≤ n
    → is_held_within label runs n i ≡ list_any (λ run. is_among label run.0 && is_among (used_by q run.1) i) open_runs
held_by_all q runs open_runs label i n same all =
    ap (list_any (is_held_by label i)) (take_all n runs all) ∙ sym (any_map seen_run (is_shown_to_hold label i) runs)
    ∙ ap (list_any (is_shown_to_hold label i)) same ∙ any_map (shown q) (is_shown_to_hold label i) open_runs

-- one run more
pub held_more : (label : List ℕ) (runs : List Run) (n i : ℕ) (d : Run) → n < length runs
    → is_held_within label runs (n + 1) i ≡ (is_held_within label runs n i || is_held_by label i (get_or runs n d))
held_more label runs n i d within = list_any_more (is_held_by label i) runs n d within

more_named : (b used before here : Bool) → b ≡ true → ((used || before) || here) ≡ (used || (before || (b && here)))
more_named true true before here is = refl
more_named true false before here is = refl
more_named false used before here is = absurd (cc is)

more_unnamed : (b used before here : Bool) → b ≡ false → (used || before) ≡ (used || (before || (b && here)))
more_unnamed false true before here is = refl
more_unnamed false false true here is = refl
more_unnamed false false false here is = refl
more_unnamed true used before here is = absurd (cc is)

-- whether its matches used an event, or a label names one of the first runs that hold it
abbrev pub is_kept_by : List ℕ → List ℕ → List Run → ℕ → ℕ → Bool
is_kept_by used label runs n i = is_among used i || is_held_within label runs n i

pub kept_by_none : (used label : List ℕ) (runs : List Run) (i : ℕ) → is_among used i ≡ is_kept_by used label runs 0 i
kept_by_none used label runs i = one (is_among used i)
  where
    one : (b : Bool) → b ≡ (b || false)
    one true = refl
    one false = refl

-- one run more, which the label names, or not
pub kept_by_named : (used label : List ℕ) (runs : List Run) (n i : ℕ) (d : Run) → n < length runs → d ≡ get_or runs n d → is_among label d.number ≡ true
    → (is_kept_by used label runs n i || is_among d.used.list i) ≡ is_kept_by used label runs (n + 1) i
kept_by_named used label runs n i d within is named =
    more_named (is_among label d.number) (is_among used i) (is_held_within label runs n i) (is_among d.used.list i) named
    ∙ ap (λ (run : Run). is_among used i || (is_held_within label runs n i || is_held_by label i run)) is
    ∙ ap (λ (b : Bool). is_among used i || b) (sym (held_more label runs n i d within))

pub kept_by_unnamed : (used label : List ℕ) (runs : List Run) (n i : ℕ) (d : Run) → n < length runs → d ≡ get_or runs n d → is_among label d.number ≡ false
    → is_kept_by used label runs n i ≡ is_kept_by used label runs (n + 1) i
kept_by_unnamed used label runs n i d within is unnamed =
    more_unnamed (is_among label d.number) (is_among used i) (is_held_within label runs n i) (is_among d.used.list i) unnamed
    ∙ ap (λ (run : Run). is_among used i || (is_held_within label runs n i || is_held_by label i run)) is
    ∙ ap (λ (b : Bool). is_among used i || b) (sym (held_more label runs n i d within))

-- all runs
pub kept_by_all : (used label : List ℕ) (q : Plan) (runs : List Run) (open_runs : List Started) (n i : ℕ) → map seen_run runs ≡ map (shown q) open_runs → length runs ≤ n
    → is_kept_by used label runs n i ≡ (is_among used i || list_any (λ run. is_among label run.0 && is_among (used_by q run.1) i) open_runs)
kept_by_all used label q runs open_runs n i same all = ap (λ (b : Bool). is_among used i || b) (held_by_all q runs open_runs label i n same all)

-- numbers that are cut to those that pass a test
pub has_filtered : (p : ℕ → Bool) (ns : List ℕ) (i : ℕ) → is_among (filter p ns) i ≡ (p i && is_among ns i)
has_filtered p ns i = any-filter_same (λ (m : ℕ). m == i) p (p i) (λ k same. ap p (eqb-true k i same)) ns

cut_more : (a w b c : Bool) → ((a || (w && b)) || (w && c)) ≡ (a || (w && (b || c)))
cut_more true w b c = refl
cut_more false true b c = refl
cut_more false false b c = refl

-- numbers that take in those of others that are within a range
pub takes_in : (old new now : List ℕ) (first count : ℕ) (kept kept_now : ℕ → Bool) (before : ℕ → Bool)
    → ((i : ℕ) → is_among old i ≡ (before i || (is_within first count i && kept i)))
    → ((i : ℕ) → is_among new i ≡ (is_among old i || is_among (filter (is_within first count) now) i))
    → ((i : ℕ) → (kept i || is_among now i) ≡ kept_now i)
    → (i : ℕ) → is_among new i ≡ (before i || (is_within first count i && kept_now i))
takes_in old new now first count kept kept_now before had has_now more i =
    has_now i ∙ ap (λ (b : Bool). b || is_among (filter (is_within first count) now) i) (had i)
    ∙ ap (λ (b : Bool). (before i || (is_within first count i && kept i)) || b) (has_filtered (is_within first count) now i)
    ∙ cut_more (before i) (is_within first count i) (kept i) (is_among now i)
    ∙ ap (λ (b : Bool). before i || (is_within first count i && b)) (more i)

-- what its matches used, within a range
pub takes_first : (old new used label : List ℕ) (runs : List Run) (first count : ℕ)
    → ((i : ℕ) → is_among new i ≡ (is_among old i || is_among (filter (is_within first count) used) i))
    → (i : ℕ) → is_among new i ≡ (is_among old i || (is_within first count i && is_kept_by used label runs 0 i))
takes_first old new used label runs first count has_now i =
    has_now i ∙ ap (λ (b : Bool). is_among old i || b) (has_filtered (is_within first count) used i)
    ∙ ap (λ (b : Bool). is_among old i || (is_within first count i && b)) (kept_by_none used label runs i)
