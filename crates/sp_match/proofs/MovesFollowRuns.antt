-- The handling by moves goes with the handling, run by run.
use Rattle.std.proofs.Common.{◌≡◌, ℕ, ◌+◌, ◌<◌, Bool, true, false, cond, not, ◌||◌, ◌==◌, List, [], ◌∷◌, ◌++◌, Option, Some, None, refl, sym, ap, ◌∙◌, subst, append_assoc, arith}
use Rattle.std.specs.List.{filter, fold}
use Rattle.std.proofs.lemmas.List.{append-nil}
use Rattle.std.proofs.lemmas.List.Folds.{list_any-append}
use Rattle.std.proofs.lemmas.List.Sums.{fold-append}
use Rattle.sp_base.specs.Numbers.{is_among}
use Rattle.sp_plan.specs.declared.plan.Plan.{Plan}
use Rattle.sp_plan.specs.Windows.{Numbered}
use Rattle.sp_plan.specs.Runs.{Pair, Run, Started, State, Handling, used, holds_one, is_complete, departs, takes, completed, kept_with, offered, handle_run, started_with, may_start, handle}
use Rattle.sp_plan.specs.Moves.{Move, Opened, Acting, apply, apply_all, abandoned, growing, used_if_complete, acting_on, acted, act_run, act_start, handling_of, act, moves}
use Rattle.sp_match.proofs.RunNumbersRise.{Rising, rising_join, rising_raise, rising_filter, absent_below, absent_above}
use Rattle.sp_match.proofs.RunInTheMiddle.{without_middle}
use Rattle.sp_match.proofs.GrowingMoves.{at, frees, grown_to}

-- numbers used before and numbers used now
pub holds_either : (ns ms : List ℕ) (r : Run) → holds_one (ns ++ ms) r ≡ (holds_one ns r || holds_one ms r)
holds_either ns ms [] = refl
holds_either ns ms (p ∷ r) = rw (list_any-append (λ (m : ℕ). m == p.number) ns ms, holds_either ns ms r) (four (is_among ns p.number) (is_among ms p.number) (holds_one ns r) (holds_one ms r))
  where
    four : (a b c d : Bool) → ((a || b) || (c || d)) ≡ ((a || c) || (b || d))
    four true b c d = refl
    four false true true d = refl
    four false true false d = refl
    four false false c d = refl

pub frees_both : (ns ms : List ℕ) (xs : List Started) → filter (frees (ns ++ ms)) xs ≡ filter (frees ms) (filter (frees ns) xs)
frees_both ns ms [] = refl
frees_both ns ms (x ∷ xs) = rw (holds_either ns ms x.1) (one (holds_one ns x.1) (frees_both ns ms xs))
  where
    two : (c : Bool) → filter (frees (ns ++ ms)) xs ≡ filter (frees ms) (filter (frees ns) xs)
        → cond (not c) (x ∷ filter (frees (ns ++ ms)) xs) (filter (frees (ns ++ ms)) xs) ≡ cond (not c) (x ∷ filter (frees ms) (filter (frees ns) xs)) (filter (frees ms) (filter (frees ns) xs))
    two true rest = rest
    two false rest = ap (λ (z : List Started). x ∷ z) rest

    one : (b : Bool) → filter (frees (ns ++ ms)) xs ≡ filter (frees ms) (filter (frees ns) xs)
        → cond (not (b || holds_one ms x.1)) (x ∷ filter (frees (ns ++ ms)) xs) (filter (frees (ns ++ ms)) xs) ≡ filter (frees ms) (cond (not b) (x ∷ filter (frees ns) xs) (filter (frees ns) xs))
    one true rest = rest
    one false rest = two (holds_one ms x.1) rest

-- the runs that the moves led to are those that were kept, and those of the rest that hold no number used
pub record Meets (n : ℕ) (rest : List Started) (a : Acting) (h : Handling) : Type 0 where
  pub now_is : a.now ≡ at (h.kept ++ filter (frees h.taken) rest) h.matched n
  pub taken_is : a.taken ≡ h.taken

module _ (q : Plan) (x : Numbered) (mv : List Move) (kept ms : List Started) (taken : List ℕ) (run : Started) (rest : List Started) (n low top : ℕ) (before : Rising 0 low kept) (above : low < run.0) (behind : Rising run.0 top rest) where
  abbrev ahead : List Started
  ahead = filter (frees taken) rest

  abbrev acting : List Started → Acting
  acting runs = record { moves = mv; now = at runs ms n; taken = taken }

  abbrev handling : Handling
  handling = record { kept = kept; matched = ms; taken = taken }

  -- the run stays as it is
  stays : Meets n rest (acting (kept ++ run ∷ ahead)) (kept_with handling run)
  stays = record {
    now_is = ap (λ (z : List Started). at z ms n) (sym (append_assoc kept (run ∷ []) ahead));
    taken_is = refl;
  }

  -- the run doesn't take the event
  passes : (b : Bool) → Meets n rest (cond b (acting_on (acting (kept ++ run ∷ ahead)) (abandoned run ∷ []) []) (acting (kept ++ run ∷ ahead))) (cond b handling (kept_with handling run))
  passes true = record {
    now_is = ap (λ (z : List Started). at z ms n) (without_middle kept run ahead (absent_above run.0 0 low kept before above) (absent_below run.0 run.0 top ahead (rising_filter (frees taken) run.0 top rest behind) (omega arith)));
    taken_is = append-nil taken;
  }
  passes false = stays

  -- the run takes the event
  takes_it : (more : Started) (b : Bool) (mv' : List Move) (t : State)
      → t ≡ cond b (at (filter (frees (used q more.1)) kept ++ filter (frees (used q more.1)) ahead) (ms ++ more ∷ []) n) (at (kept ++ more ∷ ahead) ms n)
      → Meets n rest (record { moves = mv'; now = t; taken = taken ++ cond b (used q more.1) [] }) (cond b (completed q handling more) (kept_with handling more))
  takes_it more true mv' t is = record {
    now_is = is ∙ ap (λ (z : List Started). at (filter (frees (used q more.1)) kept ++ z) (ms ++ more ∷ []) n) (sym (frees_both taken (used q more.1) rest));
    taken_is = refl;
  }
  takes_it more false mv' t is = record {
    now_is = is ∙ ap (λ (z : List Started). at z ms n) (sym (append_assoc kept (more ∷ []) ahead));
    taken_is = append-nil taken;
  }

  offers : (o : Option ℕ) → Meets n rest (acted q x (acting (kept ++ run ∷ ahead)) run o) (offered q x handling run o)
  offers None = passes (departs q run.1 x.1)
  offers (Some name) =
      let pair : Pair = record { name = name; number = x.0; event = x.1 } in
      takes_it (run.0, run.1 ++ pair ∷ []) (is_complete q (run.1 ++ pair ∷ [])) (mv ++ growing q (kept ++ run ∷ ahead) run pair)
      (apply_all (at (kept ++ run ∷ ahead) ms n) (growing q (kept ++ run ∷ ahead) run pair))
      (grown_to q kept ahead ms n low top run pair before above (rising_filter (frees taken) run.0 top rest behind))

  -- one run more
  pub step : Meets n rest (act_run q x (acting (kept ++ filter (frees taken) (run ∷ rest))) run) (handle_run q x handling run)
  step = one (holds_one taken run.1) (is_among taken x.0)
    where
      one : (b c : Bool) → Meets n rest
          (let a = acting (kept ++ cond (not b) (run ∷ ahead) ahead) in cond b a (cond c a (acted q x a run (takes q run.1 x.1))))
          (cond b handling (cond c (kept_with handling run) (offered q x handling run (takes q run.1 x.1))))
      one true c = record { now_is = refl; taken_is = refl }
      one false true = stays
      one false false = offers (takes q run.1 x.1)

  -- the numbers of the runs kept still rise
  pub kept_up : Rising 0 run.0 (handle_run q x handling run).kept
  kept_up = one (holds_one taken run.1) (is_among taken x.0)
    where
      same : Rising 0 run.0 kept
      same = rising_raise 0 low run.0 kept before (omega arith)

      push : (r : Run) → Rising 0 run.0 (kept ++ (run.0, r) ∷ [])
      push r = rising_join 0 low run.0 kept ((run.0, r) ∷ []) before (above, omega arith)

      leave : (b : Bool) → Rising 0 run.0 (cond b handling (kept_with handling run)).kept
      leave true = same
      leave false = push run.1

      grow : (r : Run) (b : Bool) → Rising 0 run.0 (cond b (completed q handling (run.0, r)) (kept_with handling (run.0, r))).kept
      grow r true = rising_filter (frees (used q r)) 0 run.0 kept same
      grow r false = push r

      offer : (o : Option ℕ) → Rising 0 run.0 (offered q x handling run o).kept
      offer None = leave (departs q run.1 x.1)
      offer (Some name) = let r : Run = run.1 ++ (record { name = name; number = x.0; event = x.1 }) ∷ [] in grow r (is_complete q r)

      one : (b c : Bool) → Rising 0 run.0 (cond b handling (cond c (kept_with handling run) (offered q x handling run (takes q run.1 x.1)))).kept
      one true c = same
      one false true = push run.1
      one false false = offer (takes q run.1 x.1)

-- all open runs
pub along : (q : Plan) (x : Numbered) (rest : List Started) (a : Acting) (h : Handling) (n low top : ℕ) → Meets n rest a h → Rising 0 low h.kept → Rising low top rest
    → Meets n [] (fold (act_run q x) a rest) (fold (handle_run q x) h rest) × Rising 0 top (fold (handle_run q x) h rest).kept
along q x [] a h n low top meets before up = (meets, rising_raise 0 low top h.kept before up)
along q x (run ∷ rest) a h n low top meets before up =
    let now = sym meets.now_is in
    let taken = sym meets.taken_is in
    let here : Meets n rest (act_run q x a run) (handle_run q x h run) = subst (λ (b : Acting). Meets n rest (act_run q x b run) (handle_run q x h run)) (λ i. record { moves = a.moves; now = now i; taken = taken i })
    (step q x a.moves h.kept h.matched h.taken run rest n low top before up.0 up.1) in
    along q x rest (act_run q x a run) (handle_run q x h run) n run.0 top here (kept_up q x a.moves h.kept h.matched h.taken run rest n low top before up.0 up.1) up.1

-- the new run
pub starts : (q : Plan) (x : Numbered) (mv : List Move) (kept ms : List Started) (taken : List ℕ) (n : ℕ) → Rising 0 n kept → (o : Option ℕ)
    → (act_start q x (record { moves = mv; now = at kept ms n; taken = taken }) o).now ≡ started_with q x (record { kept = kept; matched = ms; taken = taken }) n o
starts q x mv kept ms taken n up None = refl
starts q x mv kept ms taken n up (Some name) =
    let pair : Pair = record { name = name; number = x.0; event = x.1 } in
    grown_to q kept [] ms (n + 1) n (n + 1) (n + 1, []) pair up (omega arith) (omega arith) ∙ one (n + 1, pair ∷ []) (is_complete q (pair ∷ []))
  where
    one : (more : Started) (b : Bool) → cond b (at (filter (frees (used q more.1)) kept ++ []) (ms ++ more ∷ []) (n + 1)) (at (kept ++ more ∷ []) ms (n + 1))
        ≡ (let h : Handling = cond b (completed q (record { kept = kept; matched = ms; taken = taken }) more) (kept_with (record { kept = kept; matched = ms; taken = taken }) more) in at h.kept h.matched (n + 1))
    one more true = ap (λ (z : List Started). at z (ms ++ more ∷ []) (n + 1)) (append-nil (filter (frees (used q more.1)) kept))
    one more false = refl

-- the runs that the handling by moves has come to are those of its moves
abbrev pub Led : State → Acting → Type 0
Led s a = a.now ≡ apply_all s a.moves

pub led_on : (s : State) (a : Acting) (ms : List Move) (numbers : List ℕ) → Led s a → Led s (acting_on a ms numbers)
led_on s a ms numbers led = ap (λ (t : State). apply_all t ms) led ∙ sym (fold-append apply s a.moves ms)

pub led_acted : (q : Plan) (x : Numbered) (s : State) (a : Acting) (run : Started) (o : Option ℕ) → Led s a → Led s (acted q x a run o)
led_acted q x s a run (Some name) led =
    let pair : Pair = record { name = name; number = x.0; event = x.1 } in
    led_on s a (growing q a.now.open_runs run pair) (used_if_complete q (run.1 ++ pair ∷ [])) led
led_acted q x s a run None led = one (departs q run.1 x.1)
  where
    one : (b : Bool) → Led s (cond b (acting_on a (abandoned run ∷ []) []) a)
    one true = led_on s a (abandoned run ∷ []) [] led
    one false = led

pub led_run : (q : Plan) (x : Numbered) (s : State) (a : Acting) (run : Started) → Led s a → Led s (act_run q x a run)
led_run q x s a run led = one (holds_one a.taken run.1) (is_among a.taken x.0)
  where
    one : (b c : Bool) → Led s (cond b a (cond c a (acted q x a run (takes q run.1 x.1))))
    one true c = led
    one false true = led
    one false false = led_acted q x s a run (takes q run.1 x.1) led

pub led_along : (q : Plan) (x : Numbered) (s : State) (runs : List Started) (a : Acting) → Led s a → Led s (fold (act_run q x) a runs)
led_along q x s [] a led = led
led_along q x s (run ∷ runs) a led = led_along q x s runs (act_run q x a run) (led_run q x s a run led)

pub led_start : (q : Plan) (x : Numbered) (s : State) (a : Acting) (o : Option ℕ) → Led s a → Led s (act_start q x a o)
led_start q x s a None led = led
led_start q x s a (Some name) led =
    let pair : Pair = record { name = name; number = x.0; event = x.1 } in
    let opened : Acting = acting_on a (Opened ∷ []) [] in
    led_on s opened (growing q opened.now.open_runs (a.now.started + 1, []) pair) (used_if_complete q (pair ∷ [])) (led_on s a (Opened ∷ []) [] led)

-- once all open runs have been offered the event, the rules of starting see the same
at_end : (q : Plan) (x : Numbered) (s : State) (a : Acting) (h : Handling) → Meets s.started [] a h → Rising 0 s.started h.kept
    → (act_start q x a (cond (may_start q.select q s (handling_of a) x) (takes q [] x.1) None)).now
    ≡ started_with q x h s.started (cond (may_start q.select q s h x) (takes q [] x.1) None)
at_end q x s a h meets up =
    let now : a.now ≡ at h.kept h.matched s.started = meets.now_is ∙ ap (λ (z : List Started). at z h.matched s.started) (append-nil h.kept) in
    let taken = meets.taken_is in
    (λ i. let b : Acting = record { moves = a.moves; now = now i; taken = taken i } in (act_start q x b (cond (may_start q.select q s (handling_of b) x) (takes q [] x.1) None)).now)
    ∙ starts q x a.moves h.kept h.matched h.taken s.started up (cond (may_start q.select q s h x) (takes q [] x.1) None)

-- the handling by moves comes to what the handling comes to
pub act_is : (q : Plan) (s : State) (x : Numbered) → Rising 0 s.started s.open_runs → (act q s x).now ≡ handle q s x
act_is q s x up =
    let a : Acting = record { moves = []; now = s; taken = [] } in
    let h : Handling = record { kept = []; matched = s.matched; taken = [] } in
    let start : Meets s.started s.open_runs a h = record { now_is = ap (λ (z : List Started). at z s.matched s.started) (sym (all_free s.open_runs)); taken_is = refl } in
    let end = along q x s.open_runs a h s.started 0 s.started start (omega arith) up in
    at_end q x s (fold (act_run q x) a s.open_runs) (fold (handle_run q x) h s.open_runs) end.0 end.1
  where
    holds_none : (r : Run) → holds_one [] r ≡ false
    holds_none [] = refl
    holds_none (p ∷ r) = holds_none r

    all_free : (runs : List Started) → filter (frees []) runs ≡ runs
    all_free [] = refl
    all_free (run ∷ runs) = rw (holds_none run.1, all_free runs)

-- the moves of an event lead to what it does to the runs
pub moves_lead : (q : Plan) (s : State) (x : Numbered) → Rising 0 s.started s.open_runs → apply_all s (moves q s x) ≡ handle q s x
moves_lead q s x up =
    let a : Acting = record { moves = []; now = s; taken = [] } in
    let b : Acting = fold (act_run q x) a s.open_runs in
    sym (led_start q x s b (cond (may_start q.select q s (handling_of b) x) (takes q [] x.1) None) (led_along q x s s.open_runs a refl)) ∙ act_is q s x up
