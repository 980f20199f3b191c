-- What becomes of the runs when one has had its turn.
use Rattle.std.proofs.Common.{◌≡◌, ℕ, ◌+◌, false, List, [], ◌∷◌, ◌++◌, drop, length, Option, Some, None, Result, Ok, Err, IfOk, OnOk, get_or, set, refl, ap, sym, subst, ◌∙◌, append_assoc, length-append, arith}
use Rattle.std.specs.Prelude.{if◌then◌else◌}
use Rattle.std.specs.List.{All, remove}
use Rattle.std.proofs.lemmas.List.Elements.{All-head}
use Rattle.std.specs.declared.alloc.AllocError.{AllocError}
use Rattle.sp_plan.specs.declared.plan.Plan.{Plan}
use Rattle.sp_plan.specs.Runs.{Handling, Run, Started, departs, grown, handle_run, kept_with, offered, takes}
use Rattle.sp_scan.specs.declared.found.Found.{Found}
use Rattle.sp_scan.specs.declared.offer.Offer.{Offer}
use Rattle.sp_scan.specs.declared.run.Run as own
use Rattle.sp_scan.specs.declared.turns.Turns.{Turns}
use Rattle.sp_scan.specs.inside.Ahead.{IsReady}
use Rattle.sp_scan.specs.inside.Offer.{numbered}
use Rattle.sp_scan.specs.inside.Shown.{IsGrown, IsTurn, IsTurnOfReady, IsTurned, ShowsTurns}
use Rattle.sp_scan.proofs.SplitLists.{read_there, removed_there, rest_there, set_there}
use Rattle.sp_scan.proofs.TurnsShow.{among_none, held_alike, held_none, ready_later, shows_kept, turn_offered}

-- a list with an element more in front of the rest
pub push_front : {X : Type 0} (xs ys : List X) (x : X) → xs ++ x ∷ ys ≡ (xs ++ x ∷ []) ++ ys
push_front xs ys x = sym (append_assoc xs (x ∷ []) ys)

pub length_more : {X : Type 0} (xs : List X) (x : X) (n : ℕ) → length xs ≡ n → length (xs ++ x ∷ []) ≡ n + 1
length_more xs x n size = let all = length-append xs (x ∷ []) in omega (arith, all, size)

module _ (q : Plan) (n : ℕ) (old new : Turns) (at : ℕ) (kept rest : List own.Run) (run : own.Run) (change : Handling → Started → Handling) (split : old.runs.items ≡ kept ++ run ∷ rest) (size : length kept ≡ at) where
  -- it stays
  pub turned_stays : new.runs.items ≡ old.runs.items
      → ((h : Handling) (m : ℕ) → ShowsTurns q n h kept old.found.items old.taken.list → ShowsTurns q n (change h (m, run.pairs)) (kept ++ run ∷ []) new.found.items new.taken.list)
      → IsTurned q n old new (at + 1) kept rest run change
  turned_stays same shown = record { still = kept ++ run ∷ []; items_are = same ∙ split ∙ push_front kept rest run; left_is = length_more kept run at size; shown = shown }

  -- it leaves
  pub turned_leaves : new.runs.items ≡ remove old.runs.items at
      → ((h : Handling) (m : ℕ) → ShowsTurns q n h kept old.found.items old.taken.list → ShowsTurns q n (change h (m, run.pairs)) kept new.found.items new.taken.list)
      → IsTurned q n old new at kept rest run change
  turned_leaves gone shown = record { still = kept; items_are = gone ∙ removed_there old.runs.items kept rest run at split size; left_is = size; shown = shown }

-- the same of another change that comes to the same
pub turned_as : (q : Plan) (n : ℕ) (old new : Turns) (left : ℕ) (kept rest : List own.Run) (run : own.Run) (change change' : Handling → Started → Handling) → IsTurned q n old new left kept rest run change
    → ((h : Handling) (m : ℕ) → ShowsTurns q n h kept old.found.items old.taken.list → change h (m, run.pairs) ≡ change' h (m, run.pairs)) → IsTurned q n old new left kept rest run change'
turned_as q n old new left kept rest run change change' turned same = record {
  still = turned.still;
  items_are = turned.items_are;
  left_is = turned.left_is;
  shown = λ h m before. subst (λ (h' : Handling). ShowsTurns q n h' turned.still new.found.items new.taken.list) (same h m before) (turned.shown h m before);
}

-- what a run does that is offered the event
abbrev pub offers : Offer → Handling → Started → Handling
offers o h run = offered o.plan.now (numbered o) h run (takes o.plan.now run.1 o.event.now)

-- where no number is used, a run's turn is that
pub turned_free : (o : Offer) (old new : Turns) (left : ℕ) (kept rest : List own.Run) (run : own.Run) → length old.taken.list ≡ 0 → IsTurned o.plan.now (o.number + 1) old new left kept rest run (offers o)
    → IsTurned o.plan.now (o.number + 1) old new left kept rest run (handle_run o.plan.now (numbered o))
turned_free o old new left kept rest run none turned =
    let taken = old.taken.list in
    turned_as o.plan.now (o.number + 1) old new left kept rest run (offers o) (handle_run o.plan.now (numbered o)) turned
    (λ h m before.
    let free = sym (held_alike taken h.taken run.pairs before.taken_are) ∙ held_none taken run.pairs none in
    let unused = sym (before.taken_are o.number) ∙ among_none taken o.number none in
    sym (turn_offered o.plan.now (numbered o) h (m, run.pairs) free unused))

-- it passes the event over
pub turned_over : (o : Offer) (old : Turns) (at : ℕ) (kept rest : List own.Run) (run : own.Run) → old.runs.items ≡ kept ++ run ∷ rest → length kept ≡ at → All (IsReady o.plan.now o.number) (drop at old.runs.items)
    → takes o.plan.now run.pairs o.event.now ≡ None → departs o.plan.now run.pairs o.event.now ≡ false → IsTurned o.plan.now (o.number + 1) old old (at + 1) kept rest run (offers o)
turned_over o old at kept rest run split size left none stays =
    let q = o.plan.now in
    let next = o.number + 1 in
    let ready : IsReady q o.number run = All-head (IsReady q o.number) run rest (subst (All (IsReady q o.number)) (rest_there old.runs.items kept (run ∷ rest) at split size) left) in
    turned_stays q next old old at kept rest run (offers o) split size refl
    (λ h m before. subst (λ (p : Option ℕ). ShowsTurns q next (offered q (numbered o) h (m, run.pairs) p) (kept ++ run ∷ []) old.found.items old.taken.list) (sym none)
    (subst (λ b. ShowsTurns q next (if b then h else kept_with h (m, run.pairs)) (kept ++ run ∷ []) old.found.items old.taken.list) (sym stays) (shows_kept q next h kept old.found.items old.taken.list run m before (ready_later q o.number run ready))))

-- it takes the event, and is then as one that has a pair more
pub turned_takes : (o : Offer) (old mid new : Turns) (at left name : ℕ) → IsGrown o old.runs.items mid.runs.items at name → mid.found.items ≡ old.found.items → mid.taken.list ≡ old.taken.list
    → ((kept rest : List own.Run) (run : own.Run) → old.runs.items ≡ kept ++ run ∷ rest → length kept ≡ at → takes o.plan.now run.pairs o.event.now ≡ Some name) → IsTurnOfReady o.plan.now (o.number + 1) mid new at left (grown o.plan.now)
    → IsTurn o.plan.now (o.number + 1) old new at left (λ h run. offered o.plan.now (numbered o) h run (takes o.plan.now run.1 o.event.now))
turned_takes o old mid new at left name binds found taken takes_is turn = λ kept rest run split size.
    let q = o.plan.now in
    let next = o.number + 1 in
    let bound = binds kept rest run split size in
    let turned = turn kept rest bound.0 bound.1 size bound.3 in
    record {
      still = turned.still;
      items_are = turned.items_are;
      left_is = turned.left_is;
      shown = λ h m before.
          let now = subst (λ (f : List Found). ShowsTurns q next h kept f mid.taken.list) (sym found) (subst (λ (l : List ℕ). ShowsTurns q next h kept old.found.items l) (sym taken) before) in
          subst (λ (p : Option ℕ). ShowsTurns q next (offered q (numbered o) h (m, run.pairs) p) turned.still new.found.items new.taken.list) (sym (takes_is kept rest run split size))
          (subst (λ (r : Run). ShowsTurns q next (grown q h (m, r)) turned.still new.found.items new.taken.list) bound.2 (turned.shown h m now));
    }

pub any_takes : (r : Result ℕ AllocError) (o : Offer) (old mid new : Turns) (at name : ℕ) → IfOk r (λ left. IsTurnOfReady o.plan.now (o.number + 1) mid new at left (grown o.plan.now))
    → IsGrown o old.runs.items mid.runs.items at name → mid.found.items ≡ old.found.items → mid.taken.list ≡ old.taken.list
    → ((kept rest : List own.Run) (run : own.Run) → old.runs.items ≡ kept ++ run ∷ rest → length kept ≡ at → takes o.plan.now run.pairs o.event.now ≡ Some name)
    → IfOk r (λ left. IsTurn o.plan.now (o.number + 1) old new at left (λ h run. offered o.plan.now (numbered o) h run (takes o.plan.now run.1 o.event.now)))
any_takes (Ok left) o old mid new at name turn binds found taken takes_is = turned_takes o old mid new at left name binds found taken takes_is turn
any_takes (Err e) o old mid new at name turn binds found taken takes_is = tt

-- the run that is written at the place is grown
pub any_grown : (r : Result (Unit {0}) AllocError) (o : Offer) (runs : List own.Run) (at name : ℕ) (d grown_run : own.Run)
    → OnOk r (grown_run.pairs ≡ (get_or runs at d).pairs ++ (record { name = name; number = o.number; event = o.event.now }) ∷ []) → OnOk r (IsReady o.plan.now (o.number + 1) grown_run) → OnOk r (IsGrown o runs (set runs at grown_run) at name)
any_grown (Err e) o runs at name d grown_run pairs ready = tt
any_grown (Ok u) o runs at name d grown_run pairs ready = λ kept rest run split size.
    (grown_run, set_there runs kept rest run at split size grown_run, pairs ∙ ap (λ (r : own.Run). r.pairs ++ (record { name = name; number = o.number; event = o.event.now }) ∷ []) (read_there runs kept rest run at split size d), ready)
