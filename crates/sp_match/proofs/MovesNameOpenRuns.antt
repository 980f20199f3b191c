-- The moves of an event name runs that are open then.
use Rattle.std.proofs.Common.{◌≡◌, ℕ, ◌+◌, ◌<◌, Bool, true, false, cond, not, List, [], ◌∷◌, ◌++◌, Option, Some, None, map, refl, sym, ap, ◌∙◌, subst, append_assoc, arith}
use Rattle.std.specs.List.{filter, fold, list_any}
use Rattle.std.proofs.lemmas.List.{append-nil}
use Rattle.sp_base.specs.Numbers.{is_among}
use Rattle.sp_plan.specs.declared.plan.Plan.{Plan}
use Rattle.sp_plan.specs.Windows.{Numbered}
use Rattle.sp_plan.specs.Runs.{Pair, Run, Started, State, Handling, used, holds_one, is_complete, departs, takes, handle_run, may_start}
use Rattle.sp_plan.specs.Moves.{Move, Opened, Grown, Completed, Abandoned, Acting, apply, apply_all, abandoned, completing, growing, used_if_complete, acting_on, acted, act_run, act_start, handling_of, is_run, without_run, moves}
use Rattle.sp_match.specs.public.Laws.{is_open}
use Rattle.sp_match.proofs.RunNumbersRise.{Rising, Absent, rising_join, rising_raise, rising_lower, rising_filter, absent_below, absent_above, itself}
use Rattle.sp_match.proofs.RunInTheMiddle.{without_middle, with_pair_middle}
use Rattle.sp_match.proofs.GrowingMoves.{at, frees}
use Rattle.sp_match.proofs.GroupsGrow.{or_left, or_right}
use Rattle.sp_match.proofs.MovesFollowRuns.{Meets, step, kept_up, Led, led_on, along}

-- the run that a move names is open
abbrev pub NamesOpen : State → Move → Type 0
NamesOpen s Opened = Unit {0}
NamesOpen s (Grown r pair) = is_open s r ≡ true
NamesOpen s (Completed r) = is_open s r ≡ true
NamesOpen s (Abandoned r) = is_open s r ≡ true

-- so for each of these moves, made one after another from there
abbrev pub Proper : State → List Move → Type 0
Proper s [] = Unit {0}
Proper s (m ∷ ms) = NamesOpen s m × Proper (apply s m) ms

proper_both : (s : State) (ms ns : List Move) → Proper s ms → Proper (apply_all s ms) ns → Proper s (ms ++ ns)
proper_both s [] ns one other = other
proper_both s (m ∷ ms) ns one other = (one.0, proper_both (apply s m) ms ns one.1 other)

-- a run among others is there
there_middle : (xs : List Started) (x : Started) (ys : List Started) → list_any (is_run x.0) (xs ++ x ∷ ys) ≡ true
there_middle [] x ys = or_left (is_run x.0 x) (list_any (is_run x.0) ys) (itself x)
there_middle (z ∷ xs) x ys = or_right (is_run x.0 z) (list_any (is_run x.0) (xs ++ x ∷ ys)) (there_middle xs x ys)

-- the open runs that pass a test are abandoned
proper_abandoned : (p : Started → Bool) (xs done ms : List Started) (n low top : ℕ) → Rising 0 low done → Rising low top xs
    → Proper (at (done ++ xs) ms n) (map abandoned (filter p xs))
proper_abandoned p [] done ms n low top before up = tt
proper_abandoned p (x ∷ xs) done ms n low top before up =
    let above : low < x.0 = up.0 in
    let more : Rising 0 x.0 (done ++ x ∷ []) = rising_join 0 low x.0 done (x ∷ []) before (above, omega arith) in
    let less : Rising 0 x.0 done = rising_raise 0 low x.0 done before (omega arith) in
    let gone = without_middle done x xs (absent_above x.0 0 low done before above) (absent_below x.0 x.0 top xs up.1 (omega arith)) in
    one (p x) gone (proper_abandoned p xs done ms n x.0 top less up.1) (proper_abandoned p xs (done ++ x ∷ []) ms n x.0 top more up.1)
  where
    one : (b : Bool) → without_run x.0 (done ++ x ∷ xs) ≡ done ++ xs
        → Proper (at (done ++ xs) ms n) (map abandoned (filter p xs))
        → Proper (at ((done ++ x ∷ []) ++ xs) ms n) (map abandoned (filter p xs))
        → Proper (at (done ++ x ∷ xs) ms n) (map abandoned (cond b (x ∷ filter p xs) (filter p xs)))
    one true gone out stays = (there_middle done x xs, subst (λ (runs : List Started). Proper (at runs ms n) (map abandoned (filter p xs))) (sym gone) out)
    one false gone out stays = subst (λ (runs : List Started). Proper (at runs ms n) (map abandoned (filter p xs))) (append_assoc done (x ∷ []) xs) stays

module _ (q : Plan) (xs ys ms : List Started) (n low top : ℕ) (run : Started) (pair : Pair) (before : Rising 0 low xs) (above : low < run.0) (behind : Rising run.0 top ys) where
  abbrev more : Started
  more = (run.0, run.1 ++ pair ∷ [])

  front : Absent run.0 xs
  front = absent_above run.0 0 low xs before above

  back : Absent run.0 ys
  back = absent_below run.0 run.0 top ys behind (omega arith)

  all_rise : Rising 0 top (xs ++ ys)
  all_rise = rising_join 0 low top xs ys before (rising_lower low run.0 top ys (omega arith) behind)

  -- the run completes, and those that hold a number which it used are abandoned
  proper_completing : (others : List Started) → others ≡ xs ++ ys
      → Proper (at (xs ++ more ∷ ys) ms n) (Completed run.0 ∷ map abandoned (filter (λ other. holds_one (used q more.1) other.1) others))
  proper_completing others are =
      let matched : List Started = ms ++ filter (is_run run.0) (xs ++ more ∷ ys) in
      let rest : Proper (at (xs ++ ys) matched n) (map abandoned (filter (λ other. holds_one (used q more.1) other.1) (xs ++ ys))) =
      proper_abandoned (λ other. holds_one (used q more.1) other.1) (xs ++ ys) [] matched n 0 top (omega arith) all_rise in
      let left = without_middle xs more ys front back in (
        there_middle xs more ys,
        subst (λ (l : List Started). Proper (at (without_run run.0 (xs ++ more ∷ ys)) matched n) (map abandoned (filter (λ other. holds_one (used q more.1) other.1) l))) (sym are)
            (subst (λ (l : List Started). Proper (at l matched n) (map abandoned (filter (λ other. holds_one (used q more.1) other.1) (xs ++ ys)))) (sym left) rest),
      )

  -- the moves by which the run takes the pair
  proper_growing : Proper (at (xs ++ run ∷ ys) ms n) (growing q (xs ++ run ∷ ys) run pair)
  proper_growing =
      let grown = with_pair_middle pair xs run ys front back in
      (there_middle xs run ys, subst (λ (l : List Started). Proper (at l ms n) (cond (is_complete q more.1) (completing q (xs ++ run ∷ ys) more) [])) (sym grown) (one (is_complete q more.1)))
    where
      one : (b : Bool) → Proper (at (xs ++ more ∷ ys) ms n) (cond b (completing q (xs ++ run ∷ ys) more) [])
      one true = proper_completing (without_run run.0 (xs ++ run ∷ ys)) (without_middle xs run ys front back)
      one false = tt

-- the moves that an Acting has made are proper
abbrev Proper_so : State → Acting → Type 0
Proper_so s a = Led s a × Proper s a.moves

proper_on : (s : State) (a : Acting) (ms : List Move) (numbers : List ℕ) → Proper_so s a → Proper a.now ms → Proper_so s (acting_on a ms numbers)
proper_on s a ms numbers so proper = (led_on s a ms numbers so.0, proper_both s a.moves ms so.1 (subst (λ (t : State). Proper t ms) so.0 proper))

module _ (q : Plan) (x : Numbered) (s : State) (mv : List Move) (kept ms : List Started) (taken : List ℕ) (run : Started) (rest : List Started) (n low top : ℕ) (before : Rising 0 low kept) (above : low < run.0) (behind : Rising run.0 top rest) where
  abbrev ahead : List Started
  ahead = filter (frees taken) rest

  abbrev acting : List Started → Acting
  acting runs = record { moves = mv; now = at runs ms n; taken = taken }

  proper_offered : (o : Option ℕ) → Proper_so s (acting (kept ++ run ∷ ahead)) → Proper_so s (acted q x (acting (kept ++ run ∷ ahead)) run o)
  proper_offered (Some name) so =
      let pair : Pair = record { name = name; number = x.0; event = x.1 } in
      proper_on s (acting (kept ++ run ∷ ahead)) (growing q (kept ++ run ∷ ahead) run pair) (used_if_complete q (run.1 ++ pair ∷ [])) so
      (proper_growing q kept ahead ms n low top run pair before above (rising_filter (frees taken) run.0 top rest behind))
  proper_offered None so = one (departs q run.1 x.1)
    where
      one : (b : Bool) → Proper_so s (cond b (acting_on (acting (kept ++ run ∷ ahead)) (abandoned run ∷ []) []) (acting (kept ++ run ∷ ahead)))
      one true = proper_on s (acting (kept ++ run ∷ ahead)) (abandoned run ∷ []) [] so (there_middle kept run ahead, tt)
      one false = so

  proper_step : Proper_so s (acting (kept ++ filter (frees taken) (run ∷ rest))) → Proper_so s (act_run q x (acting (kept ++ filter (frees taken) (run ∷ rest))) run)
  proper_step = one (holds_one taken run.1) (is_among taken x.0)
    where
      one : (b c : Bool) → (let a = acting (kept ++ cond (not b) (run ∷ ahead) ahead) in Proper_so s a → Proper_so s (cond b a (cond c a (acted q x a run (takes q run.1 x.1)))))
      one true c so = so
      one false true so = so
      one false false so = proper_offered (takes q run.1 x.1) so

proper_along : (q : Plan) (x : Numbered) (s : State) (rest : List Started) (a : Acting) (h : Handling) (n low top : ℕ) → Meets n rest a h → Rising 0 low h.kept → Rising low top rest
    → Proper_so s a → Proper_so s (fold (act_run q x) a rest)
proper_along q x s [] a h n low top meets before up so = so
proper_along q x s (run ∷ rest) a h n low top meets before up so =
    let now = sym meets.now_is in
    let taken = sym meets.taken_is in
    let same : (record { moves = a.moves; now = at (h.kept ++ filter (frees h.taken) (run ∷ rest)) h.matched n; taken = h.taken }) ≡ a = λ i. record { moves = a.moves; now = now i; taken = taken i } in
    let here : Proper_so s (act_run q x a run) = subst (λ (b : Acting). Proper_so s b → Proper_so s (act_run q x b run)) same (proper_step q x s a.moves h.kept h.matched h.taken run rest n low top before up.0 up.1) so in
    let met : Meets n rest (act_run q x a run) (handle_run q x h run) = subst (λ (b : Acting). Meets n rest (act_run q x b run) (handle_run q x h run)) same
    (step q x a.moves h.kept h.matched h.taken run rest n low top before up.0 up.1) in
    proper_along q x s rest (act_run q x a run) (handle_run q x h run) n run.0 top met (kept_up q x a.moves h.kept h.matched h.taken run rest n low top before up.0 up.1) up.1 here

-- the new run
proper_start : (q : Plan) (x : Numbered) (s : State) (mv : List Move) (kept ms : List Started) (taken : List ℕ) (n : ℕ) → Rising 0 n kept → (o : Option ℕ)
    → (let a : Acting = record { moves = mv; now = at kept ms n; taken = taken } in Proper_so s a → Proper_so s (act_start q x a o))
proper_start q x s mv kept ms taken n up None so = so
proper_start q x s mv kept ms taken n up (Some name) so =
    let pair : Pair = record { name = name; number = x.0; event = x.1 } in
    let a : Acting = record { moves = mv; now = at kept ms n; taken = taken } in
    let opened : Acting = acting_on a (Opened ∷ []) [] in
    let begun : Proper_so s opened = proper_on s a (Opened ∷ []) [] so (tt, tt) in
    proper_on s opened (growing q opened.now.open_runs (n + 1, []) pair) (used_if_complete q (pair ∷ [])) begun
    (proper_growing q kept [] ms (n + 1) n (n + 1) (n + 1, []) pair up (omega arith) (omega arith))

-- each move of an event names a run that is open then
pub proper_moves : (q : Plan) (s : State) (x : Numbered) → Rising 0 s.started s.open_runs → Proper s (moves q s x)
proper_moves q s x up =
    let a : Acting = record { moves = []; now = s; taken = [] } in
    let h : Handling = record { kept = []; matched = s.matched; taken = [] } in
    let start : Meets s.started s.open_runs a h = record { now_is = ap (λ (z : List Started). at z s.matched s.started) (sym (all_free s.open_runs)); taken_is = refl } in
    let b : Acting = fold (act_run q x) a s.open_runs in
    let end = along q x s.open_runs a h s.started 0 s.started start (omega arith) up in
    let so : Proper_so s a = (refl, tt) in
    let done : Proper_so s b = proper_along q x s s.open_runs a h s.started 0 s.started start (omega arith) up so in
    let g : Handling = fold (handle_run q x) h s.open_runs in
    let o : Option ℕ = cond (may_start q.select q s (handling_of b) x) (takes q [] x.1) None in
    let now : at g.kept g.matched s.started ≡ b.now = sym (end.0.now_is ∙ ap (λ (z : List Started). at z g.matched s.started) (append-nil g.kept)) in
    let same : (record { moves = b.moves; now = at g.kept g.matched s.started; taken = b.taken }) ≡ b = λ i. record { moves = b.moves; now = now i; taken = b.taken } in
    (subst (λ (c : Acting). Proper_so s c → Proper_so s (act_start q x c o)) same (proper_start q x s b.moves g.kept g.matched b.taken s.started end.1 o) done).1
  where
    holds_none : (r : Run) → holds_one [] r ≡ false
    holds_none [] = refl
    holds_none (p ∷ r) = holds_none r

    all_free : (runs : List Started) → filter (frees []) runs ≡ runs
    all_free [] = refl
    all_free (run ∷ runs) = rw (holds_none run.1, all_free runs)
