-- The completions told of moves are the matches that they add.
use Rattle.std.proofs.Common.{◌≡◌, ℕ, ◌+◌, Bool, true, false, cond, not, List, [], ◌∷◌, ◌++◌, Option, Some, None, map, refl, sym, ap, ◌∙◌, subst, append_assoc, arith}
use Rattle.std.specs.List.{filter, flat_map, fold}
use Rattle.std.proofs.lemmas.List.{append-nil, map-append}
use Rattle.std.proofs.lemmas.List.Elements.{filter-append}
use Rattle.std.proofs.lemmas.List.Sums.{fold-append}
use Rattle.sp_base.specs.Numbers.{is_among}
use Rattle.sp_plan.specs.declared.plan.Plan.{Plan}
use Rattle.sp_plan.specs.Windows.{Numbered}
use Rattle.sp_plan.specs.Runs.{Pair, Run, Started, State, Handling, used, holds_one, is_complete, departs, takes, handle_run, may_start, handle}
use Rattle.sp_plan.specs.Moves.{Move, Opened, Grown, Completed, Acting, apply, apply_all, abandoned, completing, growing, used_if_complete, acting_on, acted, act_run, act_start, handling_of, is_run, pairs_of, without_run, moves, tell, told}
use Rattle.sp_match.specs.public.Laws.{completion, is_completion}
use Rattle.sp_match.proofs.RunNumbersRise.{Rising, Absent, rising_filter, absent_below, absent_above}
use Rattle.sp_match.proofs.RunInTheMiddle.{with_pair_middle, run_middle}
use Rattle.sp_match.proofs.GrowingMoves.{at, frees}
use Rattle.sp_match.proofs.MovesFollowRuns.{Meets, step, kept_up, Led, led_on, along, moves_lead}

-- these moves, made from there, add the matches that they tell of
abbrev pub Tells : Plan → State → List Move → Type 0
Tells q t ms = map (completion q) (apply_all t ms).matched ≡ map (completion q) t.matched ++ filter is_completion (told q t ms)

-- moves told one after another
pub told-append : (q : Plan) (t : State) (ms ns : List Move) → told q t (ms ++ ns) ≡ told q t ms ++ told q (apply_all t ms) ns
told-append q t [] ns = refl
told-append q t (m ∷ ms) ns = ap (λ l. tell q t m ∷ l) (told-append q (apply t m) ms ns)

tells_both : (q : Plan) (t : State) (ms ns : List Move) → Tells q t ms → Tells q (apply_all t ms) ns → Tells q t (ms ++ ns)
tells_both q t ms ns one other =
    ap (λ (s : State). map (completion q) s.matched) (fold-append apply t ms ns) ∙ other ∙ ap (λ l. l ++ filter is_completion (told q (apply_all t ms) ns)) one
    ∙ append_assoc (map (completion q) t.matched) (filter is_completion (told q t ms)) (filter is_completion (told q (apply_all t ms) ns))
    ∙ ap (λ l. map (completion q) t.matched ++ l) (sym (filter-append is_completion (told q t ms) (told q (apply_all t ms) ns)) ∙ ap (filter is_completion) (sym (told-append q t ms ns)))

-- runs that are abandoned add none
tells_abandoned : (q : Plan) (t : State) (runs : List Started) → Tells q t (map abandoned runs)
tells_abandoned q t [] = sym (append-nil (map (completion q) t.matched))
tells_abandoned q t (run ∷ runs) = tells_abandoned q (apply t (abandoned run)) runs

module _ (q : Plan) (xs ys ms : List Started) (n : ℕ) (run : Started) (pair : Pair) (front : Absent run.0 xs) (back : Absent run.0 ys) where
  abbrev more : Started
  more = (run.0, run.1 ++ pair ∷ [])

  -- the run binds the pair
  grown_is : apply (at (xs ++ run ∷ ys) ms n) (Grown run.0 pair) ≡ at (xs ++ more ∷ ys) ms n
  grown_is = ap (λ (l : List Started). at l ms n) (with_pair_middle pair xs run ys front back)

  -- and completes
  completed_tells : Tells q (at (xs ++ more ∷ ys) ms n) (Completed run.0 ∷ [])
  completed_tells =
      let own : filter (is_run run.0) (xs ++ more ∷ ys) ≡ more ∷ [] = run_middle xs more ys front back in
      let all_pairs : List Started → Run = λ l. flat_map (λ (r : Started). r.1) l in
      let pairs : pairs_of (xs ++ more ∷ ys) run.0 ≡ more.1 = ap all_pairs own ∙ append-nil more.1 in
      ap (λ (l : List Started). map (completion q) (ms ++ l)) own ∙ map-append (completion q) ms (more ∷ [])
      ∙ ap (λ (r : Run). map (completion q) ms ++ completion q (run.0, r) ∷ []) (sym pairs)

  -- the moves by which the run takes the pair tell of their matches
  growing_tells : (runs : List Started) → Tells q (at (xs ++ run ∷ ys) ms n) (growing q runs run pair)
  growing_tells runs = subst (λ (t : State). Tells q t (cond (is_complete q more.1) (completing q runs more) [])) (sym grown_is) (behind (is_complete q more.1))
    where
      behind : (b : Bool) → Tells q (at (xs ++ more ∷ ys) ms n) (cond b (completing q runs more) [])
      behind true = tells_both q (at (xs ++ more ∷ ys) ms n) (Completed run.0 ∷ []) (map abandoned (filter (λ other. holds_one (used q more.1) other.1) (without_run run.0 runs))) completed_tells
          (tells_abandoned q (apply (at (xs ++ more ∷ ys) ms n) (Completed run.0)) (filter (λ other. holds_one (used q more.1) other.1) (without_run run.0 runs)))
      behind false = sym (append-nil (map (completion q) ms))

-- what an Acting has done tells of its matches
abbrev Told_so : Plan → State → Acting → Type 0
Told_so q s a = Led s a × Tells q s a.moves

told_on : (q : Plan) (s : State) (a : Acting) (ms : List Move) (numbers : List ℕ) → Told_so q s a → Tells q a.now ms → Told_so q s (acting_on a ms numbers)
told_on q s a ms numbers so tells = (led_on s a ms numbers so.0, tells_both q s a.moves ms so.1 (subst (λ (t : State). Tells q t ms) so.0 tells))

module _ (q : Plan) (x : Numbered) (s : State) (mv : List Move) (kept ms : List Started) (taken : List ℕ) (run : Started) (rest : List Started) (n : ℕ) (front : Absent run.0 kept) (back : Absent run.0 (filter (frees taken) rest)) where
  abbrev ahead : List Started
  ahead = filter (frees taken) rest

  abbrev acting : List Started → Acting
  acting runs = record { moves = mv; now = at runs ms n; taken = taken }

  offered_tells : (o : Option ℕ) → Told_so q s (acting (kept ++ run ∷ ahead)) → Told_so q s (acted q x (acting (kept ++ run ∷ ahead)) run o)
  offered_tells (Some name) so =
      let pair : Pair = record { name = name; number = x.0; event = x.1 } in
      told_on q s (acting (kept ++ run ∷ ahead)) (growing q (kept ++ run ∷ ahead) run pair) (used_if_complete q (run.1 ++ pair ∷ [])) so (growing_tells q kept ahead ms n run pair front back (kept ++ run ∷ ahead))
  offered_tells None so = one (departs q run.1 x.1)
    where
      one : (b : Bool) → Told_so q s (cond b (acting_on (acting (kept ++ run ∷ ahead)) (abandoned run ∷ []) []) (acting (kept ++ run ∷ ahead)))
      one true = told_on q s (acting (kept ++ run ∷ ahead)) (abandoned run ∷ []) [] so (tells_abandoned q (at (kept ++ run ∷ ahead) ms n) (run ∷ []))
      one false = so

  step_tells : Told_so q s (acting (kept ++ filter (frees taken) (run ∷ rest))) → Told_so q s (act_run q x (acting (kept ++ filter (frees taken) (run ∷ rest))) run)
  step_tells = one (holds_one taken run.1) (is_among taken x.0)
    where
      one : (b c : Bool) → (let a = acting (kept ++ cond (not b) (run ∷ ahead) ahead) in Told_so q s a → Told_so q s (cond b a (cond c a (acted q x a run (takes q run.1 x.1)))))
      one true c so = so
      one false true so = so
      one false false so = offered_tells (takes q run.1 x.1) so

tells_along : (q : Plan) (x : Numbered) (s : State) (rest : List Started) (a : Acting) (h : Handling) (n low top : ℕ) → Meets n rest a h → Rising 0 low h.kept → Rising low top rest
    → Told_so q s a → Told_so q s (fold (act_run q x) a rest)
tells_along q x s [] a h n low top meets before up so = so
tells_along q x s (run ∷ rest) a h n low top meets before up so =
    let now = sym meets.now_is in
    let taken = sym meets.taken_is in
    let front : Absent run.0 h.kept = absent_above run.0 0 low h.kept before up.0 in
    let back : Absent run.0 (filter (frees h.taken) rest) = absent_below run.0 run.0 top (filter (frees h.taken) rest) (rising_filter (frees h.taken) run.0 top rest up.1) (omega arith) in
    let same : (record { moves = a.moves; now = at (h.kept ++ filter (frees h.taken) (run ∷ rest)) h.matched n; taken = h.taken }) ≡ a = λ i. record { moves = a.moves; now = now i; taken = taken i } in
    let here : Told_so q s (act_run q x a run) = subst (λ (b : Acting). Told_so q s b → Told_so q s (act_run q x b run)) same (step_tells q x s a.moves h.kept h.matched h.taken run rest n front back) so in
    let met : Meets n rest (act_run q x a run) (handle_run q x h run) = subst (λ (b : Acting). Meets n rest (act_run q x b run) (handle_run q x h run)) same
    (step q x a.moves h.kept h.matched h.taken run rest n low top before up.0 up.1) in
    tells_along q x s rest (act_run q x a run) (handle_run q x h run) n run.0 top met (kept_up q x a.moves h.kept h.matched h.taken run rest n low top before up.0 up.1) up.1 here

-- the new run
start_tells : (q : Plan) (x : Numbered) (s : State) (mv : List Move) (kept ms : List Started) (taken : List ℕ) (n : ℕ) → Rising 0 n kept → (o : Option ℕ)
    → (let a : Acting = record { moves = mv; now = at kept ms n; taken = taken } in Told_so q s a → Told_so q s (act_start q x a o))
start_tells q x s mv kept ms taken n up None so = so
start_tells q x s mv kept ms taken n up (Some name) so =
    let pair : Pair = record { name = name; number = x.0; event = x.1 } in
    let a : Acting = record { moves = mv; now = at kept ms n; taken = taken } in
    let opened : Acting = acting_on a (Opened ∷ []) [] in
    let begun : Told_so q s opened = told_on q s a (Opened ∷ []) [] so (sym (append-nil (map (completion q) ms))) in
    told_on q s opened (growing q opened.now.open_runs (n + 1, []) pair) (used_if_complete q (pair ∷ [])) begun
    (growing_tells q kept [] ms (n + 1) (n + 1, []) pair (absent_above (n + 1) 0 n kept up (omega arith)) tt opened.now.open_runs)

-- the completions told of an event are the matches that it adds
pub completions_are_matches : (q : Plan) (s : State) (x : Numbered) → Rising 0 s.started s.open_runs → map (completion q) (handle q s x).matched ≡ map (completion q) s.matched ++ filter is_completion (told q s (moves q s x))
completions_are_matches q s x up =
    let a : Acting = record { moves = []; now = s; taken = [] } in
    let h : Handling = record { kept = []; matched = s.matched; taken = [] } in
    let start : Meets s.started s.open_runs a h = record { now_is = ap (λ (z : List Started). at z s.matched s.started) (sym (all_free s.open_runs)); taken_is = refl } in
    let so : Told_so q s a = (refl, sym (append-nil (map (completion q) s.matched))) in
    let b : Acting = fold (act_run q x) a s.open_runs in
    let end = along q x s.open_runs a h s.started 0 s.started start (omega arith) up in
    let done : Told_so q s b = tells_along q x s s.open_runs a h s.started 0 s.started start (omega arith) up so in
    let g : Handling = fold (handle_run q x) h s.open_runs in
    let o : Option ℕ = cond (may_start q.select q s (handling_of b) x) (takes q [] x.1) None in
    let now : at g.kept g.matched s.started ≡ b.now = sym (end.0.now_is ∙ ap (λ (z : List Started). at z g.matched s.started) (append-nil g.kept)) in
    let same : (record { moves = b.moves; now = at g.kept g.matched s.started; taken = b.taken }) ≡ b = λ i. record { moves = b.moves; now = now i; taken = b.taken } in
    let all : Told_so q s (act_start q x b o) = subst (λ (c : Acting). Told_so q s c → Told_so q s (act_start q x c o)) same (start_tells q x s b.moves g.kept g.matched b.taken s.started end.1 o) done in
    ap (λ (t : State). map (completion q) t.matched) (sym (moves_lead q s x up)) ∙ all.1
  where
    holds_none : (r : Run) → holds_one [] r ≡ false
    holds_none [] = refl
    holds_none (p ∷ r) = holds_none r

    all_free : (runs : List Started) → filter (frees []) runs ≡ runs
    all_free [] = refl
    all_free (run ∷ runs) = rw (holds_none run.1, all_free runs)
