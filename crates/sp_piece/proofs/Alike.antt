-- Plans that are one but for addresses read alike.
use Rattle.std.proofs.Common.{length, ◌≡◌, ℕ, zero, suc, ◌+◌, Bool, true, false, cond, not, ◌&&◌, ◌||◌, List, [], ◌∷◌, ◌++◌, filter, find, map, Option, Some, None, is_some, is_none, refl, ap, ◌∙◌}
use Rattle.std.specs.Prelude.{slice_get}
use Rattle.std.specs.List.{AllZip, fold, list_all, list_any, last_or, flat_map}
use Rattle.std.proofs.lemmas.List.Elements.{filter_agree}
use Rattle.sp_base.specs.Numbers.{is_among}
use Rattle.sp_plan.specs.declared.event.Event.{Event}
use Rattle.sp_plan.specs.declared.plan.Plan.{Plan}
use Rattle.sp_plan.specs.declared.plan.Name.{Name}
use Rattle.sp_plan.specs.declared.plan.Element.{Element}
use Rattle.sp_plan.specs.declared.plan.Select.{Select}
use Rattle.sp_plan.specs.declared.plan.Select.TheVariants.{First, Last, Each}
use Rattle.sp_plan.specs.Laws.{SamePredicatesHoldAlike}
use Rattle.sp_plan.specs.Same.{SameName, SamePlan}
use Rattle.sp_plan.specs.Windows.{Numbered}
use Rattle.sp_plan.specs.Runs.{Pair, Run, Started, State, Handling, again, bindings, binds, bound_events, completed, departs, fits_name, grown, guarded, guards, guards_behind, handle, handle_run, holds_one, is_complete, is_consumed, is_filled, kept_with, leaves, may_start, name_holds, numbers_under, offered, started_with, takes, unbound, used, wanted, after_closing}
use Rattle.sp_plan.specs.Reading.{after_event}
use Rattle.sp_plan.specs.Moves.{Move, Opened, Grown, Completed, Abandoned, Acting, Told, CompletedTold, abandoned, abandons, act, act_run, act_start, acted, acting_on, apply, closing, completing, growing, handling_of, moves, pair_given, pairs_of, still_wanted, tell, told, used_if_complete, without_run}
use Rattle.sp_piece.specs.Reading.{Loan, Account, account, accounts_at, accounts_on, accounts_to, closing_account, event_accounts, read_at, read_on, read_to, skips}
use Rattle.sp_piece.specs.Alike.{by_plan, ReadAlike}

fold_alike : {A B : Type 0} (f g : B → A → B) → ((b : B) (x : A) → f b x ≡ g b x) → (b : B) (xs : List A) → fold f b xs ≡ fold g b xs
fold_alike f g same b [] = refl
fold_alike f g same b (x ∷ xs) = ap (λ (c : _). fold f c xs) (same b x) ∙ fold_alike f g same (g b x) xs

find_alike : (f g : ℕ → Bool) → ((n : ℕ) → f n ≡ g n) → (ns : List ℕ) → find f ns ≡ find g ns
find_alike f g same [] = refl
find_alike f g same (n ∷ ns) = ap (λ (b : Bool). cond b (Some n) (find f ns)) (same n) ∙ ap (λ (o : Option ℕ). cond (g n) (Some n) o) (find_alike f g same ns)

all_alike : {A : Type 0} (f g : A → Bool) → ((x : A) → f x ≡ g x) → (xs : List A) → list_all f xs ≡ list_all g xs
all_alike f g same [] = refl
all_alike f g same (x ∷ xs) = ap (λ (b : Bool). b && list_all f xs) (same x) ∙ ap (λ (b : Bool). g x && b) (all_alike f g same xs)

any_alike : {A : Type 0} (f g : A → Bool) → ((x : A) → f x ≡ g x) → (xs : List A) → list_any f xs ≡ list_any g xs
any_alike f g same [] = refl
any_alike f g same (x ∷ xs) = ap (λ (b : Bool). b || list_any f xs) (same x) ∙ ap (λ (b : Bool). g x || b) (any_alike f g same xs)

fits_alike : SamePredicatesHoldAlike → (xs ys : List Name) → AllZip SameName xs ys → (i : ℕ) (r : Run) (e : Event) → fits_name (slice_get xs i) r e ≡ fits_name (slice_get ys i) r e
fits_alike hold [] [] same i r e = refl
fits_alike hold [] (y ∷ ys) same i r e = absurd same
fits_alike hold (x ∷ xs) [] same i r e = absurd same
fits_alike hold (x ∷ xs) (y ∷ ys) same zero r e = hold x.pred y.pred e (bound_events r) same.0.1
fits_alike hold (x ∷ xs) (y ∷ ys) same (suc i) r e = fits_alike hold xs ys same.1 i r e

consumed_alike : (xs ys : List Name) → AllZip SameName xs ys → (i : ℕ) → is_consumed (slice_get xs i) ≡ is_consumed (slice_get ys i)
consumed_alike [] [] same i = refl
consumed_alike [] (y ∷ ys) same i = absurd same
consumed_alike (x ∷ xs) [] same i = absurd same
consumed_alike (x ∷ xs) (y ∷ ys) same zero = same.0.2
consumed_alike (x ∷ xs) (y ∷ ys) same (suc i) = consumed_alike xs ys same.1 i

module _ (hold : SamePredicatesHoldAlike) (p q : Plan) (same : SamePlan p q) where
  takes_alike : (r : Run) (e : Event) → takes p r e ≡ takes q r e
  takes_alike r e =
      ap (λ (elements : List Element). find (name_holds p r e) (unbound r (find (λ element. not (is_filled r element)) elements) ++ again elements (last_or None r))) same.elements
      ∙ find_alike (name_holds p r e) (name_holds q r e) (λ i. fits_alike hold p.names q.names same.names i r e) (wanted q r)

  complete_alike : (r : Run) → is_complete p r ≡ is_complete q r
  complete_alike r = ap (list_all (is_filled r)) same.elements

  used_alike : (r : Run) → used p r ≡ used q r
  used_alike r = ap (map (λ (pair : Pair). pair.number)) (filter_agree (λ (pair : Pair). is_consumed (slice_get p.names pair.name)) (λ (pair : Pair). is_consumed (slice_get q.names pair.name)) (λ pair. consumed_alike p.names q.names same.names pair.name) r)

  bindings_alike : (r : Run) → bindings p r ≡ bindings q r
  bindings_alike r = ap (λ (elements : List Element). map (λ (name : ℕ). (name, numbers_under r name)) (flat_map binds elements)) same.elements

  leaves_with : (select : Select) (e : Event) → leaves select p e ≡ leaves select q e
  leaves_with First e = refl
  leaves_with Last e = ap is_some (takes_alike [] e)
  leaves_with Each e = refl

  leaves_alike : (e : Event) → leaves p.select p e ≡ leaves q.select q e
  leaves_alike e = ap (λ (select : Select). leaves select p e) same.select ∙ leaves_with q.select e

  guarded_alike : (r : Run) (e : Event) → guarded p r e ≡ guarded q r e
  guarded_alike r e =
      ap (λ (elements : List Element). list_any (name_holds p r e) (guards_behind elements r (last_or None r))) same.elements
      ∙ any_alike (name_holds p r e) (name_holds q r e) (λ i. fits_alike hold p.names q.names same.names i r e) (guards q r)

  departs_alike : (r : Run) (e : Event) → departs p r e ≡ departs q r e
  departs_alike r e = λ i. leaves_alike e i || guarded_alike r e i

  may_with : (select : Select) (s : State) (h : Handling) (x : Numbered) → may_start select p s h x ≡ may_start select q s h x
  may_with First s h x = refl
  may_with Last s h x = all_alike (λ (run : Started). is_none (takes p run.1 x.1)) (λ (run : Started). is_none (takes q run.1 x.1)) (λ run. ap is_none (takes_alike run.1 x.1)) s.open_runs
  may_with Each s h x = refl

  may_alike : (s : State) (h : Handling) (x : Numbered) → may_start p.select p s h x ≡ may_start q.select q s h x
  may_alike s h x = ap (λ (select : Select). may_start select p s h x) same.select ∙ may_with q.select s h x

  -- The handling of an event.
  completed_alike : (h : Handling) (run : Started) → completed p h run ≡ completed q h run
  completed_alike h run = ap {B = Handling} (λ (ns : List ℕ). record { kept = filter (λ other. not (holds_one ns other.1)) h.kept; matched = h.matched ++ run ∷ []; taken = h.taken ++ ns }) (used_alike run.1)

  grown_alike : (h : Handling) (run : Started) → grown p h run ≡ grown q h run
  grown_alike h run = ap (λ (b : Bool). cond b (completed p h run) (kept_with h run)) (complete_alike run.1) ∙ ap (λ (c : Handling). cond (is_complete q run.1) c (kept_with h run)) (completed_alike h run)

  offered_alike : (x : Numbered) (h : Handling) (run : Started) (o : Option ℕ) → offered p x h run o ≡ offered q x h run o
  offered_alike x h run (Some name) = grown_alike h (run.0, run.1 ++ (record { name = name; number = x.0; event = x.1 }) ∷ [])
  offered_alike x h run None = ap (λ (b : Bool). cond b h (kept_with h run)) (departs_alike run.1 x.1)

  handle_run_alike : (x : Numbered) (h : Handling) (run : Started) → handle_run p x h run ≡ handle_run q x h run
  handle_run_alike x h run =
      ap (λ (z : Handling). cond (holds_one h.taken run.1) h (cond (is_among h.taken x.0) (kept_with h run) z))
      (ap (offered p x h run) (takes_alike run.1 x.1) ∙ offered_alike x h run (takes q run.1 x.1))

  started_alike : (x : Numbered) (h : Handling) (count : ℕ) (o : Option ℕ) → started_with p x h count o ≡ started_with q x h count o
  started_alike x h count None = refl
  started_alike x h count (Some name) =
      ap {B = State} (λ (g : Handling). record { open_runs = g.kept; matched = g.matched; started = count + 1 }) (grown_alike h (count + 1, (record { name = name; number = x.0; event = x.1 }) ∷ []))

  handle_alike : (s : State) (x : Numbered) → handle p s x ≡ handle q s x
  handle_alike s x =
      ap (λ (h : Handling). started_with p x h s.started (cond (may_start p.select p s h x) (takes p [] x.1) None)) (fold_alike (handle_run p x) (handle_run q x) (handle_run_alike x) start s.open_runs)
      ∙ ap (λ (b : Bool). started_with p x h s.started (cond b (takes p [] x.1) None)) (may_alike s h x)
      ∙ ap (λ (o : Option ℕ). started_with p x h s.started (cond (may_start q.select q s h x) o None)) (takes_alike [] x.1)
      ∙ started_alike x h s.started (cond (may_start q.select q s h x) (takes q [] x.1) None)
    where
      start : Handling
      start = record { kept = []; matched = s.matched; taken = [] }

      h : Handling
      h = fold (handle_run q x) start s.open_runs

  -- The moves of an event.
  completing_alike : (runs : List Started) (run : Started) → completing p runs run ≡ completing q runs run
  completing_alike runs run = ap {B = List Move} (λ (ns : List ℕ). Completed run.0 ∷ map abandoned (filter (λ other. holds_one ns other.1) (without_run run.0 runs))) (used_alike run.1)

  growing_alike : (runs : List Started) (run : Started) (pair : Pair) → growing p runs run pair ≡ growing q runs run pair
  growing_alike runs run pair =
      let grown : Run = run.1 ++ pair ∷ [] in
      ap (λ (b : Bool). Grown run.0 pair ∷ cond b (completing p runs (run.0, grown)) []) (complete_alike grown)
      ∙ ap (λ (ms : List Move). Grown run.0 pair ∷ cond (is_complete q grown) ms []) (completing_alike runs (run.0, grown))

  used_if_alike : (r : Run) → used_if_complete p r ≡ used_if_complete q r
  used_if_alike r = ap (λ (b : Bool). cond b (used p r) []) (complete_alike r) ∙ ap (λ (ns : List ℕ). cond (is_complete q r) ns []) (used_alike r)

  grow_alike : (a : Acting) (run : Started) (pair : Pair) (r : Run) → acting_on a (growing p a.now.open_runs run pair) (used_if_complete p r) ≡ acting_on a (growing q a.now.open_runs run pair) (used_if_complete q r)
  grow_alike a run pair r =
      ap (λ (ms : List Move). acting_on a ms (used_if_complete p r)) (growing_alike a.now.open_runs run pair)
      ∙ ap (acting_on a (growing q a.now.open_runs run pair)) (used_if_alike r)

  acted_alike : (x : Numbered) (a : Acting) (run : Started) (o : Option ℕ) → acted p x a run o ≡ acted q x a run o
  acted_alike x a run (Some name) = grow_alike a run (record { name = name; number = x.0; event = x.1 }) (run.1 ++ (record { name = name; number = x.0; event = x.1 }) ∷ [])
  acted_alike x a run None = ap (λ (b : Bool). cond b (acting_on a (abandoned run ∷ []) []) a) (departs_alike run.1 x.1)

  act_run_alike : (x : Numbered) (a : Acting) (run : Started) → act_run p x a run ≡ act_run q x a run
  act_run_alike x a run =
      ap (λ (z : Acting). cond (holds_one a.taken run.1) a (cond (is_among a.taken x.0) a z))
      (ap (acted p x a run) (takes_alike run.1 x.1) ∙ acted_alike x a run (takes q run.1 x.1))

  act_start_alike : (x : Numbered) (a : Acting) (o : Option ℕ) → act_start p x a o ≡ act_start q x a o
  act_start_alike x a None = refl
  act_start_alike x a (Some name) = grow_alike (acting_on a (Opened ∷ []) []) (a.now.started + 1, []) (record { name = name; number = x.0; event = x.1 }) ((record { name = name; number = x.0; event = x.1 }) ∷ [])

  act_alike : (s : State) (x : Numbered) → act p s x ≡ act q s x
  act_alike s x =
      ap (λ (a : Acting). act_start p x a (cond (may_start p.select p s (handling_of a) x) (takes p [] x.1) None)) (fold_alike (act_run p x) (act_run q x) (act_run_alike x) start s.open_runs)
      ∙ ap (λ (b : Bool). act_start p x a (cond b (takes p [] x.1) None)) (may_alike s (handling_of a) x)
      ∙ ap (λ (o : Option ℕ). act_start p x a (cond (may_start q.select q s (handling_of a) x) o None)) (takes_alike [] x.1)
      ∙ act_start_alike x a (cond (may_start q.select q s (handling_of a) x) (takes q [] x.1) None)
    where
      start : Acting
      start = record { moves = []; now = s; taken = [] }

      a : Acting
      a = fold (act_run q x) start s.open_runs

  -- What is told.
  tell_alike : (s : State) (m : Move) → tell p s m ≡ tell q s m
  tell_alike s Opened = refl
  tell_alike s (Grown r pair) = refl
  tell_alike s (Completed r) = ap (λ (b : List (ℕ × List ℕ)). CompletedTold r b (used p (pairs_of s.open_runs r))) (bindings_alike (pairs_of s.open_runs r)) ∙ ap (CompletedTold r (bindings q (pairs_of s.open_runs r))) (used_alike (pairs_of s.open_runs r))
  tell_alike s (Abandoned r) = refl

  told_alike : (s : State) (ms : List Move) → told p s ms ≡ told q s ms
  told_alike s [] = refl
  told_alike s (m ∷ ms) = ap (λ (t : Told). t ∷ told p (apply s m) ms) (tell_alike s m) ∙ ap (λ (ts : List Told). tell q s m ∷ ts) (told_alike (apply s m) ms)

  wanted_alike : (s : State) (ms : List Move) → still_wanted p s ms ≡ still_wanted q s ms
  wanted_alike s ms = ap (λ (elements : List Element).
      map (λ (run : Started). (length (flat_map (λ element. unbound run.1 (Some element)) elements), length (flat_map (λ element. unbound (run.1 ++ flat_map (pair_given run.0) ms) (Some element)) elements)))
      (filter (λ run. not (list_any (abandons run.0) ms)) s.open_runs)) same.elements

  account_alike : (s : State) (x : Numbered) → account p s x ≡ account q s x
  account_alike s x =
      ap {B = Account} (λ (a : Acting). record { told = told p s a.moves; wanted = still_wanted p s a.moves }) (act_alike s x)
      ∙ ap {B = Account} (λ (ts : List Told). record { told = ts; wanted = still_wanted p s (moves q s x) }) (told_alike s (moves q s x))
      ∙ ap {B = Account} (λ (ws : List (ℕ × ℕ)). record { told = told q s (moves q s x); wanted = ws }) (wanted_alike s (moves q s x))

  closing_alike : (s : State) → closing_account p s ≡ closing_account q s
  closing_alike s = ap {B = Account} (λ (ts : List Told). record { told = ts; wanted = [] }) (told_alike s (closing s))

  module _ (l : Loan) where
    event_alike : (s : State) (n : ℕ) (o : Option Event) → after_event p s n o ≡ after_event q s n o
    event_alike s n None = refl
    event_alike s n (Some e) = handle_alike s (n, e)

    read_alike : (s : State) (n : ℕ) → read_on (by_plan p l) s n ≡ read_on (by_plan q l) s n
    read_alike s zero = refl
    read_alike s (suc n) =
        ap (λ (z : State). read_at (by_plan p l) z n) (read_alike s n)
        ∙ ap (λ (z : State). cond (skips l n) (read_on (by_plan q l) s n) z) (event_alike (read_on (by_plan q l) s n) (l.first + n) (slice_get l.events n))

    told_of_event : (s : State) (n : ℕ) (o : Option Event) → event_accounts p s n o ≡ event_accounts q s n o
    told_of_event s n None = refl
    told_of_event s n (Some e) = ap (λ (a : Account). a ∷ []) (account_alike s (n, e))

    accounts_alike : (s : State) (n : ℕ) → accounts_on (by_plan p l) s n ≡ accounts_on (by_plan q l) s n
    accounts_alike s zero = refl
    accounts_alike s (suc n) =
        ap (λ (z : List Account). z ++ accounts_at (by_plan p l) (read_on (by_plan p l) s n) n) (accounts_alike s n)
        ∙ ap (λ (z : State). accounts_on (by_plan q l) s n ++ accounts_at (by_plan p l) z n) (read_alike s n)
        ∙ ap (λ (z : List Account). accounts_on (by_plan q l) s n ++ cond (skips l n) [] z) (told_of_event (read_on (by_plan q l) s n) (l.first + n) (slice_get l.events n))

    read_to_alike : (s : State) (n : ℕ) (closed : Bool) → read_to (by_plan p l) s n closed ≡ read_to (by_plan q l) s n closed
    read_to_alike s n closed = ap (λ (z : State). cond closed (after_closing z) z) (read_alike s n)

    accounts_to_alike : (s : State) (n : ℕ) (closed : Bool) → accounts_to (by_plan p l) s n closed ≡ accounts_to (by_plan q l) s n closed
    accounts_to_alike s n false = accounts_alike s n
    accounts_to_alike s n true =
        ap (λ (z : List Account). z ++ closing_account p (read_on (by_plan p l) s n) ∷ []) (accounts_alike s n)
        ∙ ap (λ (z : State). accounts_on (by_plan q l) s n ++ closing_account p z ∷ []) (read_alike s n)
        ∙ ap (λ (z : Account). accounts_on (by_plan q l) s n ++ z ∷ []) (closing_alike (read_on (by_plan q l) s n))

pub same_plans_read_alike : SamePredicatesHoldAlike → (p q : Plan) → SamePlan p q → ReadAlike p q
same_plans_read_alike hold p q same = record {
  used = used_alike hold p q same;
  bound = bindings_alike hold p q same;
  taken = takes_alike hold p q same;
  guarded_by = guarded_alike hold p q same;
  handled = handle_alike hold p q same;
  read = read_to_alike hold p q same;
  told = accounts_to_alike hold p q same;
}
