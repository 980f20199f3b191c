-- How many windows there are: as many before input has ended as behind it, and few.
use Rattle.std.proofs.Common.{◌≡◌, ℕ, pos, ◌+◌, ◌<◌, ◌≤◌, ◌+ℤ◌, ◌*ℤ◌, Bool, true, false, List, [], ◌∷◌, length, Option, Some, None, is_some, refl, sym, ap, ◌∙◌, arith, find, nat_lt}
use Rattle.std.specs.Prelude.{unsigned_abs}
use Rattle.std.specs.List.{filter_map, range_with_len, cons_option}
use Rattle.std.specs.Option.{option_map}
use Rattle.std.proofs.lemmas.Bool.Decides.{nat_tests}
use Rattle.std.proofs.lemmas.List.{length-map}
use Rattle.sp_plan.specs.declared.event.Event.{Event}
use Rattle.sp_plan.specs.declared.plan.Plan.{Plan}
use Rattle.sp_plan.specs.declared.plan.Length.{Length}
use Rattle.sp_plan.specs.declared.plan.Opening.{Opening}
use Rattle.sp_plan.specs.declared.plan.Opening.TheVariants.{EveryEvents, EveryTime, When}
use Rattle.sp_plan.specs.Windows.{IsWindowed, duration, spans, windows, windows_by, within, window_within}
use Rattle.sp_plan.specs.WindowNumbers.{count}
use Rattle.sp_version.specs.declared.version.Version.{Version}
use Rattle.sp_window.specs.Laws.{AreFew, ClosedFirst}
use Rattle.sp_group.specs.Family.{entry_at}
use Rattle.sp_tree.specs.Grown.{Entry, kin}
use Rattle.sp_rules.specs.Schedules.{Reached}
use Rattle.sp_core.specs.Holding.{Holding, IsCore, machine_of}
use Rattle.sp_core.proofs.Entries.{local}

-- functions that give something of the same items give as much of them all
as_many : {B : Type 0} (f g : ℕ → Option B) → ((k : ℕ) → is_some (f k) ≡ is_some (g k)) → (ks : List ℕ) → length (filter_map f ks) ≡ length (filter_map g ks)
as_many f g alike [] = refl
as_many {B} f g alike (k ∷ ks) = one (f k) (g k) (filter_map f ks) (filter_map g ks) (alike k) (as_many f g alike ks)
  where
    one : (x y : Option B) (xs ys : List B) → is_some x ≡ is_some y → length xs ≡ length ys → length (cons_option x xs) ≡ length (cons_option y ys)
    one None None xs ys here rest = rest
    one None (Some y) xs ys here rest = absurd (cc)
    one (Some x) None xs ys here rest = absurd (cc)
    one (Some x) (Some y) xs ys here rest = omega (arith, rest)

some_alike : {A B : Type 0} (f g : A → B) (o : Option A) → is_some (option_map f o) ≡ is_some (option_map g o)
some_alike f g None = refl
some_alike f g (Some x) = refl

same_count : (o : Opening) (l : Length) (events : List Event) (ended : Bool) → length (windows_by o l events ended) ≡ length (windows_by o l events false)
same_count (EveryEvents s) l events ended = length-map _ _ ∙ sym (length-map _ _)
same_count (When p) l events ended = length-map _ _ ∙ sym (length-map _ _)
same_count (EveryTime s) l events ended =
    as_many (λ k. window_within (pos k *ℤ s) (pos k *ℤ s +ℤ duration l) events ended) (λ k. window_within (pos k *ℤ s) (pos k *ℤ s +ℤ duration l) events false)
    (λ k. some_alike _ _ (find (λ _. true) (within (pos k *ℤ s) (pos k *ℤ s +ℤ duration l) events))) (range_with_len 0 (spans (unsigned_abs s) events))

-- as many windows are there before input has ended as behind it
pub count_is : (q : Plan) (events : List Event) (ended : Bool) → length (windows q events ended) ≡ count q events
count_is q events ended = same_count q.opening q.length events ended

-- there are at most 64 windows for each event
pub windows_few : (h : Holding) → IsCore h → Reached h.plan h.tree.bound (machine_of h) → ((q : Plan) → IsWindowed q → AreFew q) → count h.plan h.events ≤ 67108864
windows_few h core reached few =
    let most = few h.plan core.compiled.windowed h.events reached.kept.sane.good in
    let events = core.windows.few in
    omega arith

-- and so there are few finished ones
pub finished_within : (h : Holding) → IsCore h → Reached h.plan h.tree.bound (machine_of h) → ((q : Plan) → IsWindowed q → ClosedFirst q) → h.finished ≤ count h.plan h.events
finished_within h core reached shut =
    let closed = (shut h.plan core.compiled.windowed).within h.events h.ended reached.kept.sane.good in
    let finished = reached.kept.sane.closed in
    omega arith

-- the window of a live version is one of them
pub window_within_count : (h : Holding) → Reached h.plan h.tree.bound (machine_of h) → (id : ℕ) (e : Entry Version) → entry_at kin h.tree.entries id ≡ Some e
    → (1 ≤ e.value.window) × (e.value.window ≤ count h.plan h.events)
window_within_count h reached id e at = (local h reached id e at).there

-- what is counted of the windows
counted : (h : Holding) → IsCore h → (n : ℕ) → n ≡ length (windows h.windows.plan h.events h.ended) → n ≡ count h.plan h.events
counted h core n is = is ∙ ap (λ (q : Plan). length (windows q h.events h.ended)) core.windows_plan ∙ count_is h.plan h.events h.ended

-- the window behind so many is there where more are counted
pub has_window : (h : Holding) → IsCore h → (n number : ℕ) → n ≡ length (windows h.windows.plan h.events h.ended) → number < n → nat_lt (count h.plan h.events) (number + 1) ≡ false
has_window h core n number is more = let all = counted h core n is in grind (arith, nat_tests)

-- and else it is not
pub lacks_window : (h : Holding) → IsCore h → (n number : ℕ) → n ≡ length (windows h.windows.plan h.events h.ended) → n ≤ number → nat_lt (count h.plan h.events) (number + 1) ≡ true
lacks_window h core n number is most = let all = counted h core n is in grind (arith, nat_tests)
