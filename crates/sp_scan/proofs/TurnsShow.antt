-- What runs and turns are to the definitions, step by step.
use Rattle.std.proofs.Common.{◌≡◌, ℕ, ◌+◌, ◌<◌, Bool, true, false, cond, not, ◌&&◌, ◌||◌, eqb, List, [], ◌∷◌, ◌++◌, map, length, Option, Some, None, refl, sym, ap, subst, ◌∙◌, arith}
use Rattle.std.specs.Prelude.{filter, if◌then◌else◌, is_none, nat_lt}
use Rattle.std.specs.List.{list_all}
use Rattle.std.proofs.lemmas.List.{map_push, length-map}
use Rattle.std.proofs.lemmas.List.Elements.{All-filter, All-push, All-weaker}
use Rattle.std.proofs.lemmas.List.Folds.{list_all-map, list_any-append}
use Rattle.sp_base.specs.Numbers.{is_among}
use Rattle.sp_plan.specs.declared.plan.Plan.{Plan}
use Rattle.sp_plan.specs.declared.plan.Select.{Select}
use Rattle.sp_plan.specs.declared.plan.Select.TheVariants.{First, Last, Each}
use Rattle.sp_plan.specs.Windows.{Numbered}
use Rattle.sp_plan.specs.Runs.{Handling, Run, Started, State, completed, grown, handle_run, holds_one, is_complete, kept_with, may_start, no_runs, offered, started_with, takes, used}
use Rattle.sp_scan.specs.declared.found.Found.{Found}
use Rattle.sp_scan.specs.declared.run.Run as own
use Rattle.sp_scan.specs.declared.turns.Turns.{Turns}
use Rattle.sp_scan.specs.Scanning.{found_of}
use Rattle.sp_scan.specs.inside.Ahead.{IsReady}
use Rattle.sp_scan.specs.inside.Shown.{ShowsAfter, ShowsTurns, after_start, pairs_of}
use Rattle.sp_scan.specs.inside.Starting.{are_free, has_room, is_idle}

map_filter : {X Y : Type 0} (f : X → Y) (t : Y → Bool) (xs : List X) → map f (filter (λ x. t (f x)) xs) ≡ filter t (map f xs)
map_filter f t [] = refl
map_filter {X} {Y} f t (x ∷ xs) = one (t (f x)) (map_filter f t xs)
  where
    one : (b : Bool) → map f (filter (λ x. t (f x)) xs) ≡ filter t (map f xs) → map f (cond b (x ∷ filter (λ x. t (f x)) xs) (filter (λ x. t (f x)) xs)) ≡ cond b (f x ∷ filter t (map f xs)) (filter t (map f xs))
    one true ih = ap (λ ys. f x ∷ ys) ih
    one false ih = ih

-- a run that is ready for an event is so for a later one
pub ready_later : (q : Plan) (n : ℕ) (run : own.Run) → IsReady q n run → IsReady q (n + 1) run
ready_later q n run ready = record {
  ahead_is = ready.ahead_is;
  below = All-weaker (λ pair. pair.number < n) (λ pair. pair.number < n + 1) (λ pair lower. omega (arith, lower)) run.pairs ready.below;
}

-- a run more is kept
pub shows_kept : (q : Plan) (n : ℕ) (h : Handling) (kept : List own.Run) (found : List Found) (taken : List ℕ) (run : own.Run) (m : ℕ) → ShowsTurns q n h kept found taken → IsReady q n run
    → ShowsTurns q n (kept_with h (m, run.pairs)) (kept ++ run ∷ []) found taken
shows_kept q n h kept found taken run m shown ready = record {
  kept_are = map_push (λ k. k.pairs) kept run ∙ ap (λ l. l ++ run.pairs ∷ []) shown.kept_are ∙ sym (map_push (λ s. s.1) h.kept (m, run.pairs));
  ready = All-push (IsReady q n) kept run shown.ready ready;
  found_are = shown.found_are;
  taken_are = shown.taken_are;
}

-- whether a run holds none of the numbers that this one uses
abbrev pub is_apart : Plan → Run → own.Run → Bool
is_apart q run k = not (holds_one (used q run) k.pairs)

-- a run has matched
pub shows_completed : (q : Plan) (n : ℕ) (h : Handling) (kept : List own.Run) (found : List Found) (taken taken' : List ℕ) (run : Run) (m : ℕ) → ShowsTurns q n h kept found taken
    → ((i : ℕ) → is_among taken' i ≡ (is_among taken i || is_among (used q run) i)) → ShowsTurns q n (completed q h (m, run)) (filter (is_apart q run) kept) (found ++ found_of q run ∷ []) taken'
shows_completed q n h kept found taken taken' run m shown more =
    let stays = λ (r : Run). not (holds_one (used q run) r) in
    record {
      kept_are = map_filter (λ k. k.pairs) stays kept ∙ ap (filter stays) shown.kept_are ∙ sym (map_filter (λ s. s.1) stays h.kept);
      ready = All-filter (is_apart q run) (IsReady q n) kept shown.ready;
      found_are = ap (λ l. l ++ found_of q run ∷ []) shown.found_are ∙ sym (map_push (λ s. found_of q s.1) h.matched (m, run));
      taken_are = λ i. more i ∙ ap (λ b. b || is_among (used q run) i) (shown.taken_are i) ∙ sym (list_any-append (λ k. eqb k i) h.taken (used q run));
    }

-- a run of which this is so holds one of these numbers or of those alike
pub held_alike : (ms ns : List ℕ) (r : Run) → ((i : ℕ) → is_among ms i ≡ is_among ns i) → holds_one ms r ≡ holds_one ns r
held_alike ms ns [] same = refl
held_alike ms ns (pair ∷ r) same = λ j. same pair.number j || held_alike ms ns r same j

pub held_none : (ns : List ℕ) (r : Run) → length ns ≡ 0 → holds_one ns r ≡ false
held_none [] [] none = refl
held_none [] (pair ∷ r) none = held_none [] r none
held_none (n ∷ ns) r none = absurd (omega (arith, none))

pub among_none : (ns : List ℕ) (i : ℕ) → length ns ≡ 0 → is_among ns i ≡ false
among_none [] i none = refl
among_none (n ∷ ns) i none = absurd (omega (arith, none))

-- the cases of the definitions
pub grown_whole : (q : Plan) (h : Handling) (run : Started) → is_complete q run.1 ≡ true → grown q h run ≡ completed q h run
grown_whole q h run whole = ap (λ (b : Bool). if b then completed q h run else kept_with h run) whole

pub grown_part : (q : Plan) (h : Handling) (run : Started) → is_complete q run.1 ≡ false → grown q h run ≡ kept_with h run
grown_part q h run part = ap (λ (b : Bool). if b then completed q h run else kept_with h run) part

pub turn_held : (q : Plan) (x : Numbered) (h : Handling) (run : Started) → holds_one h.taken run.1 ≡ true → handle_run q x h run ≡ h
turn_held q x h run held = ap (λ (b : Bool). if b then h else (if is_among h.taken x.0 then kept_with h run else offered q x h run (takes q run.1 x.1))) held

pub turn_used : (q : Plan) (x : Numbered) (h : Handling) (run : Started) → holds_one h.taken run.1 ≡ false → is_among h.taken x.0 ≡ true → handle_run q x h run ≡ kept_with h run
turn_used q x h run free used_up = λ i. if free i then h else (if used_up i then kept_with h run else offered q x h run (takes q run.1 x.1))

pub turn_offered : (q : Plan) (x : Numbered) (h : Handling) (run : Started) → holds_one h.taken run.1 ≡ false → is_among h.taken x.0 ≡ false → handle_run q x h run ≡ offered q x h run (takes q run.1 x.1)
turn_offered q x h run free unused = λ i. if free i then h else (if unused i then kept_with h run else offered q x h run (takes q run.1 x.1))

-- whether the event may start a run
pub may_is : (q : Plan) (s : State) (h : Handling) (x : Numbered) → may_start q.select q s h x ≡ (are_free q.select q (pairs_of s.open_runs) x.1 && has_room q.select h.taken (length h.kept) x.0)
may_is q s h x = one q.select
  where
    idle : (rs : List Started) → no_runs rs ≡ (is_idle (pairs_of rs) && true)
    idle [] = refl
    idle (r ∷ rs) = refl

    and_true : (b : Bool) → b ≡ (b && true)
    and_true true = refl
    and_true false = refl

    one : (select : Select) → may_start select q s h x ≡ (are_free select q (pairs_of s.open_runs) x.1 && has_room select h.taken (length h.kept) x.0)
    one First = idle s.open_runs
    one Last = sym (list_all-map (λ r. is_none (takes q r x.1)) (λ (run : Started). run.1) s.open_runs) ∙ and_true (list_all (λ r. is_none (takes q r x.1)) (pairs_of s.open_runs))
    one Each = refl

pub room_is : (select : Select) (taken taken' : List ℕ) (count count' number : ℕ) → ((i : ℕ) → is_among taken i ≡ is_among taken' i) → count ≡ count' → has_room select taken count number ≡ has_room select taken' count' number
room_is First taken taken' count count' number same sizes = refl
room_is Last taken taken' count count' number same sizes = refl
room_is Each taken taken' count count' number same sizes = λ j. not (same number j) && nat_lt (sizes j) 64

-- as many runs are kept
kept_count : (q : Plan) (n : ℕ) (h : Handling) (kept : List own.Run) (found : List Found) (taken : List ℕ) → ShowsTurns q n h kept found taken → length kept ≡ length h.kept
kept_count q n h kept found taken shown = sym (length-map kept (λ k. k.pairs)) ∙ ap length shown.kept_are ∙ length-map h.kept (λ s. s.1)

-- so of what the open runs and the handling say
pub may_told : (q : Plan) (n : ℕ) (x : Numbered) (s : State) (h : Handling) (kept : List own.Run) (found : List Found) (taken : List ℕ) (free room : Bool) → ShowsTurns q n h kept found taken → free ≡ are_free q.select q (pairs_of s.open_runs) x.1
    → room ≡ has_room q.select taken (length kept) x.0 → may_start q.select q s h x ≡ (free && room)
may_told q n x s h kept found taken free room shown free_is room_are =
    may_is q s h x ∙ λ i. sym free_is i && sym (room_are ∙ room_is q.select taken h.taken (length kept) (length h.kept) x.0 shown.taken_are (kept_count q n h kept found taken shown)) i

-- no run starts, or one does
pub shows_none : (q : Plan) (n : ℕ) (x : Numbered) (s : State) (h : Handling) (t : Turns) → ShowsTurns q n h t.runs.items t.found.items t.taken.list → may_start q.select q s h x ≡ false → ShowsAfter q n (after_start q x s h) t
shows_none q n x s h t shown may =
    subst (λ (b : Bool). ShowsAfter q n (started_with q x h s.started (if b then takes q [] x.1 else None)) t) (sym may) (record { open_are = shown.kept_are; ready = shown.ready; found_are = shown.found_are })

pub shows_started : (q : Plan) (n : ℕ) (x : Numbered) (s : State) (h : Handling) (t : Turns) (name : ℕ) → may_start q.select q s h x ≡ true → takes q [] x.1 ≡ Some name
    → ShowsTurns q n (grown q h (s.started + 1, (record { name = name; number = x.0; event = x.1 }) ∷ [])) t.runs.items t.found.items t.taken.list → ShowsAfter q n (after_start q x s h) t
shows_started q n x s h t name may begins shown =
    subst (λ (b : Bool). ShowsAfter q n (started_with q x h s.started (if b then takes q [] x.1 else None)) t) (sym may)
    (subst (λ (o : Option ℕ). ShowsAfter q n (started_with q x h s.started o) t) (sym begins) (record { open_are = shown.kept_are; ready = shown.ready; found_are = shown.found_are }))
