-- One run's turn takes the handling one run further.
use Rattle.std.proofs.Common.{◌≡◌, ℕ, ◌+◌, Bool, true, false, cond, not, ◌&&◌, ◌||◌, ◌==◌, List, [], ◌∷◌, ◌++◌, map, length, set, Option, Some, None, refl, sym, ap, subst, ◌∙◌}
use Rattle.std.specs.Prelude.{is_none, if◌then◌else◌}
use Rattle.std.specs.List.{All}
use Rattle.std.proofs.lemmas.List.{append_assoc, append-nil, get_or_at, length_push, length-map, map-append, set_at}
use Rattle.std.proofs.lemmas.List.Folds.{list_all-append, list_any-append}
use Rattle.sp_base.specs.Numbers.{is_among}
use Rattle.sp_plan.specs.declared.plan.Plan.{Plan}
use Rattle.sp_plan.specs.Windows.{Numbered}
use Rattle.sp_plan.specs.Runs.{Pair, Started, State, holds_one, is_complete, departs, takes, used}
use Rattle.sp_plan.specs.Moves.{Acting, Told, abandoned, act_run, acted, acting_on, used_if_complete}
use Rattle.sp_match.specs.declared.turns.Reception.{Reception}
use Rattle.sp_match.specs.declared.turns.Reception.TheVariants.{Taken, Used}
use Rattle.sp_match.specs.declared.run.Fate.{Fate}
use Rattle.sp_match.specs.declared.run.Fate.TheVariants.{Stays, Completes, Leaves}
use Rattle.sp_match.specs.inside.Kept.{Kept, before, empty, pairs, started, stays}
use Rattle.sp_match.specs.inside.Effects.{run_with_event, runs_after_binding, runs_binding_told, runs_after_offer, offer_told, is_skipped, is_taken, is_used, leaving_told, runs_after_leaving, run_after_use, reception_after_offer, run_at, run_after_binding, used_by_binding}
use Rattle.sp_match.specs.inside.Shows.{Shows}
use Rattle.sp_match.specs.inside.Tally.{Tally}
use Rattle.sp_match.specs.inside.Going.{none_takes}
use Rattle.sp_match.proofs.RunNumbersRise.{Rising}
use Rattle.sp_match.proofs.MovesFollowRuns.{holds_either}
use Rattle.sp_match.proofs.OpenRuns.{stays_after_use, open_at}
use Rattle.sp_match.proofs.TurnTallies.{bind_tallies, leave_tallies}
use Rattle.sp_match.proofs.RunsAfterBinding.{runs_after_binding_is, runs_binding_told_is, holds_none}
use Rattle.sp_match.proofs.GrownRunIsGood.{used_grown}
use Rattle.sp_match.proofs.PairsOfRuns.{pairs_push}
use Rattle.sp_match.proofs.TurnShows.{bind_shows, leave_shows}

-- what is known after a turn: as far as one run more, of those ahead the ones that hold a used number are marked
pub record Gone (q : Plan) (x : Numbered) (s : State) (a : Acting) (done : List Started) (rest : List Kept) (n : ℕ) (ks : List Kept) (ts : List Told) (r : Reception) : Type 0 where
  pub shows : Shows q s a ks ts
  pub front : (fs : List Kept) × (length fs ≡ n) × (ks ≡ fs ++ map (run_after_use a.taken) rest)
  pub tally : All (Tally x.0 a.moves) ks
  pub used : is_used r ≡ is_among a.taken x.0
  pub taken : is_taken r ≡ not (none_takes q x done)
  pub unused : is_taken r ≡ false → a.taken ≡ []

-- marked by some numbers and then by others
after_use_twice : (ns ms : List ℕ) (k : Kept) → run_after_use ms (run_after_use ns k) ≡ run_after_use (ns ++ ms) k
after_use_twice ns ms k =
    (λ i. record k { fate = one k.fate (holds_one ns (pairs k)) (holds_one ms (pairs k)) i })
    ∙ λ i. record k { fate = if stays k.fate && sym (holds_either ns ms (pairs k)) i then Leaves else k.fate }
  where
    one : (f : Fate) (b c : Bool) → (if stays (if stays f && b then Leaves else f) && c then Leaves else (if stays f && b then Leaves else f)) ≡ (if stays f && (b || c) then Leaves else f)
    one Stays true c = refl
    one Stays false c = refl
    one Completes b c = refl
    one Leaves b c = refl

all_twice : (ns ms : List ℕ) (ks : List Kept) → map (run_after_use ms) (map (run_after_use ns) ks) ≡ map (run_after_use (ns ++ ms)) ks
all_twice ns ms [] = refl
all_twice ns ms (k ∷ ks) = λ i. after_use_twice ns ms k i ∷ all_twice ns ms ks i

among_either : (ns ms : List ℕ) (n : ℕ) → is_among (ns ++ ms) n ≡ (is_among ns n || is_among ms n)
among_either ns ms n = list_any-append (λ m. m == n) ns ms

and_false : (b : Bool) → (b && (false && true)) ≡ false
and_false true = refl
and_false false = refl

and_true : (b : Bool) → (b && (true && true)) ≡ b
and_true true = refl
and_true false = refl

module _ (q : Plan) (x : Numbered) (s : State) (fs rest : List Kept) (k0 : Kept) (top : ℕ) (a : Acting) (done : List Started) (ts : List Told) (r : Reception) where
  -- the run at hand, and those ahead
  abbrev k : Kept
  k = run_after_use a.taken k0

  abbrev bs : List Kept
  bs = map (run_after_use a.taken) rest

  abbrev ks : List Kept
  ks = fs ++ k ∷ bs

  abbrev here : ℕ
  here = length fs

  abbrev run : Started
  run = started k0

  abbrev goes : Acting → List Kept → List Told → Reception → Type 0
  goes b new told r' = Gone q x s b (done ++ run ∷ []) rest (here + 1) new told r'

  none_more : (b : Bool) → is_none (takes q run.1 x.1) ≡ b → none_takes q x (done ++ run ∷ []) ≡ (none_takes q x done && (b && true))
  none_more b e = list_all-append (λ other. is_none (takes q other.1 x.1)) done (run ∷ []) ∙ λ i. none_takes q x done && (e i && true)

  -- the run is offered no event
  skipped : Shows q s a ks ts → All (Tally x.0 a.moves) ks → is_used r ≡ is_among a.taken x.0 → is_taken r ≡ not (none_takes q x done) → is_taken r ≡ true → goes a ks (ts ++ []) r
  skipped shows tally used taken was = record {
    shows = subst (λ (l : List Told). Shows q s a ks l) (sym (append-nil ts)) shows;
    front = (fs ++ k ∷ [], length_push fs k, sym (append_assoc fs (k ∷ []) bs));
    tally = tally;
    used = used;
    taken =
        let none : none_takes q x done ≡ false = not_true (none_takes q x done) (sym taken ∙ was) in
        was ∙ ap not (sym (none_more (is_none (takes q run.1 x.1)) refl ∙ λ i. none i && (is_none (takes q run.1 x.1) && true)));
    unused = λ not_taken. absurd (let f : true ≡ false = sym was ∙ not_taken in cc);
  }
    where
      not_true : (b : Bool) → not b ≡ true → b ≡ false
      not_true true e = cc
      not_true false e = refl

  -- the run takes the event
  binds : (name : ℕ) → takes q run.1 x.1 ≡ Some name → stays k.fate ≡ true → map (λ p. p.0) k0.bound ≡ map (λ p. p.0) k0.events
      → (run_with_event q name x k).used ≡ used q (pairs (run_with_event q name x k)) → Rising 0 top (map started ks) → is_among a.taken x.0 ≡ false → before x.0 (run_with_event q name x k) ≡ before x.0 k → Shows q s a ks ts → All (Tally x.0 a.moves) ks
      → goes (acted q x a run (Some name)) (runs_after_binding q name x here ks) (ts ++ runs_binding_told q name x here ks) (reception_after_offer q x k r (Some name))
  binds name is open_yet same uses up fresh_yet back_is shows tally =
      let ns = used_by_binding q name x k in
      let pair : Pair = record { name = name; number = x.0; event = x.1 } in
      let used_is : used_if_complete q (run.1 ++ pair ∷ []) ≡ ns =
      sym ((λ i. if is_complete q (pairs (run_with_event q name x k)) then uses i else []) ∙ ap (used_if_complete q) (pairs_push k.bound k.events name x.0 x.1 same)) in
      let runs = runs_after_binding_is q name x fs bs k in
      let told = runs_binding_told_is q name x fs bs k in
      let taken_is : (acted q x a run (Some name)).taken ≡ a.taken ++ ns = ap (λ (l : List ℕ). a.taken ++ l) used_is in
      record {
        shows = subst (λ (l : List Kept). Shows q s (acted q x a run (Some name)) l (ts ++ runs_binding_told q name x here ks)) (sym runs)
            (subst (λ (l : List Told). Shows q s (acted q x a run (Some name)) (map (run_after_use ns) (fs ++ run_after_binding q name x k ∷ bs)) (ts ++ l)) (sym told)
            (bind_shows q x fs bs k name top open_yet same uses up s a ts (used_if_complete q (run.1 ++ pair ∷ [])) shows));
        front = (
          map (run_after_use ns) (fs ++ run_after_binding q name x k ∷ []),
          length-map (fs ++ run_after_binding q name x k ∷ []) (run_after_use ns) ∙ length_push fs (run_after_binding q name x k),
          runs ∙ ap (map (run_after_use ns)) (sym (append_assoc fs (run_after_binding q name x k ∷ []) bs)) ∙ map-append (run_after_use ns) (fs ++ run_after_binding q name x k ∷ []) bs
              ∙ ap (λ (l : List Kept). map (run_after_use ns) (fs ++ run_after_binding q name x k ∷ []) ++ l) (all_twice a.taken ns rest ∙ ap (λ (l : List ℕ). map (run_after_use l) rest) (sym taken_is)),
        );
        tally = subst (All (Tally x.0 (acted q x a run (Some name)).moves)) (sym runs)
            (bind_tallies q x fs bs k name top open_yet same uses up back_is a.moves a.now.open_runs (sym shows.now ∙ open_at fs bs k open_yet) tally);
        used = used_now (is_among ns x.0) ∙ sym (ap (λ (l : List ℕ). is_among l x.0) taken_is ∙ among_either a.taken ns x.0 ∙ λ i. fresh_yet i || is_among ns x.0);
        taken = taken_now (is_among ns x.0) ∙ ap not (sym (none_more false (ap is_none is) ∙ and_false (none_takes q x done)));
        unused = λ not_taken. absurd (let f : true ≡ false = sym (taken_now (is_among ns x.0)) ∙ not_taken in cc);
      }
    where
      used_now : (b : Bool) → is_used (if b then Used else Taken) ≡ b
      used_now true = refl
      used_now false = refl

      taken_now : (b : Bool) → is_taken (if b then Used else Taken) ≡ true
      taken_now true = refl
      taken_now false = refl

  -- the run doesn't take the event
  passes : takes q run.1 x.1 ≡ None → stays k.fate ≡ true → Rising 0 top (map started ks) → Shows q s a ks ts → All (Tally x.0 a.moves) ks → is_used r ≡ is_among a.taken x.0 → is_taken r ≡ not (none_takes q x done)
      → (is_taken r ≡ false → a.taken ≡ []) → (b : Bool)
      → goes (cond b (acting_on a (abandoned run ∷ []) []) a) (if b then runs_after_leaving here ks else ks) (ts ++ (if b then leaving_told (run_at ks here) ∷ [] else [])) r
  passes is open_yet up shows tally used taken unused false = record {
    shows = subst (λ (l : List Told). Shows q s a ks l) (sym (append-nil ts)) shows;
    front = (fs ++ k ∷ [], length_push fs k, sym (append_assoc fs (k ∷ []) bs));
    tally = tally;
    used = used;
    taken = taken ∙ ap not (sym (none_more true (ap is_none is) ∙ and_true (none_takes q x done)));
    unused = unused;
  }
  passes is open_yet up shows tally used taken unused true =
      let at : run_at ks here ≡ k = get_or_at fs k bs (empty 0) here refl in
      let gone : Kept = record k { fate = Leaves } in
      let runs : runs_after_leaving here ks ≡ fs ++ gone ∷ bs = ap (λ (m : Kept). set ks here (record m { fate = Leaves })) at ∙ set_at fs k bs gone here refl in
      record {
        shows = subst (λ (l : List Kept). Shows q s (acting_on a (abandoned run ∷ []) []) l (ts ++ leaving_told (run_at ks here) ∷ [])) (sym runs)
            (subst (λ (m : Kept). Shows q s (acting_on a (abandoned run ∷ []) []) (fs ++ gone ∷ bs) (ts ++ leaving_told m ∷ [])) (sym at) (leave_shows q fs bs k top open_yet up s a ts shows));
        front = (fs ++ gone ∷ [], length_push fs gone, runs ∙ sym (append_assoc fs (gone ∷ []) bs) ∙ ap (λ (l : List ℕ). (fs ++ gone ∷ []) ++ map (run_after_use l) rest) (sym (append-nil a.taken)));
        tally = subst (All (Tally x.0 (a.moves ++ abandoned run ∷ []))) (sym runs) (leave_tallies x.0 fs bs k top a.moves up tally);
        used = used ∙ ap (λ (l : List ℕ). is_among l x.0) (sym (append-nil a.taken));
        taken = taken ∙ ap not (sym (none_more true (ap is_none is) ∙ and_true (none_takes q x done)));
        unused = λ not_taken. append-nil a.taken ∙ unused not_taken;
      }

  was_taken : (b : Bool) → is_taken r ≡ b → (is_taken r ≡ false → a.taken ≡ []) → (a.taken ≡ [] → true ≡ false) → is_taken r ≡ true
  was_taken true e unused some = e
  was_taken false e unused some = let f : true ≡ false = some (unused e) in cc

  -- the run's turn
  pub turn_goes : k0.fate ≡ Stays → ((name : ℕ) → takes q run.1 x.1 ≡ Some name → before x.0 (run_with_event q name x k) ≡ before x.0 k) → map (λ p. p.0) k0.bound ≡ map (λ p. p.0) k0.events → k0.used ≡ used q (pairs k0) → Rising 0 top (map started ks) → Shows q s a ks ts → All (Tally x.0 a.moves) ks → is_used r ≡ is_among a.taken x.0
      → is_taken r ≡ not (none_takes q x done) → (is_taken r ≡ false → a.taken ≡ [])
      → goes (act_run q x a run) (if is_skipped r k then ks else runs_after_offer q (departs q run.1 x.1) here x ks (takes q run.1 x.1))
      (ts ++ (if is_skipped r k then [] else offer_told q (departs q run.1 x.1) here x ks (takes q run.1 x.1))) (if is_skipped r k then r else reception_after_offer q x k r (takes q run.1 x.1))
  turn_goes stands back_is same uses up shows tally used taken unused =
      subst (λ (b : Bool). goes (act_run q x a run) (if b then ks else runs_after_offer q (departs q run.1 x.1) here x ks (takes q run.1 x.1))
      (ts ++ (if b then [] else offer_told q (departs q run.1 x.1) here x ks (takes q run.1 x.1))) (if b then r else reception_after_offer q x k r (takes q run.1 x.1))) (sym skip_is)
      (one (holds_one a.taken run.1) (is_among a.taken x.0) refl refl)
    where
      stay_is : stays k.fate ≡ not (holds_one a.taken run.1)
      stay_is = stays_after_use a.taken k0 ∙ λ i. stays (stands i) && not (holds_one a.taken run.1)

      twice : (b : Bool) → not (not b) ≡ b
      twice true = refl
      twice false = refl

      skip_is : is_skipped r k ≡ (is_among a.taken x.0 || holds_one a.taken run.1)
      skip_is = (λ i. used i || not (stay_is i)) ∙ λ i. is_among a.taken x.0 || twice (holds_one a.taken run.1) i

      by_run : holds_one a.taken run.1 ≡ true → is_taken r ≡ true
      by_run hold = was_taken (is_taken r) refl unused (λ empty. sym hold ∙ ap (λ (l : List ℕ). holds_one l run.1) empty ∙ holds_none run.1)

      by_event : is_among a.taken x.0 ≡ true → is_taken r ≡ true
      by_event among = was_taken (is_taken r) refl unused (λ empty. sym among ∙ ap (λ (l : List ℕ). is_among l x.0) empty)

      offers : holds_one a.taken run.1 ≡ false → is_among a.taken x.0 ≡ false → (o : Option ℕ) → takes q run.1 x.1 ≡ o
          → goes (acted q x a run o) (runs_after_offer q (departs q run.1 x.1) here x ks o) (ts ++ offer_told q (departs q run.1 x.1) here x ks o) (reception_after_offer q x k r o)
      offers hold among (Some name) is = binds name is (stay_is ∙ ap not hold) same (used_grown q name x.0 x.1 k same uses) up among (back_is name is) shows tally
      offers hold among None is = passes is (stay_is ∙ ap not hold) up shows tally used taken unused (departs q run.1 x.1)

      one : (h u : Bool) → holds_one a.taken run.1 ≡ h → is_among a.taken x.0 ≡ u
          → goes (cond h a (cond u a (acted q x a run (takes q run.1 x.1)))) (if u || h then ks else runs_after_offer q (departs q run.1 x.1) here x ks (takes q run.1 x.1))
          (ts ++ (if u || h then [] else offer_told q (departs q run.1 x.1) here x ks (takes q run.1 x.1))) (if u || h then r else reception_after_offer q x k r (takes q run.1 x.1))
      one true true hold among = skipped shows tally used taken (by_run hold)
      one true false hold among = skipped shows tally used taken (by_run hold)
      one false true hold among = skipped shows tally used taken (by_event among)
      one false false hold among = offers hold among (takes q run.1 x.1) refl
