-- The handling of an event as a whole.
use Rattle.std.proofs.Common.{◌≡◌, ℕ, ◌+◌, Bool, true, false, List, [], ◌∷◌, ◌++◌, map, length, take, Option, Some, None, sym, ap, subst, ◌∙◌, arith}
use Rattle.std.specs.Prelude.{if◌then◌else◌}
use Rattle.std.specs.List.{All}
use Rattle.std.proofs.lemmas.List.{length-map, map-append, take_all, take_at}
use Rattle.std.proofs.lemmas.List.Elements.{All-take}
use Rattle.sp_plan.specs.declared.plan.Plan.{Plan}
use Rattle.sp_plan.specs.Windows.{Numbered}
use Rattle.sp_plan.specs.Runs.{Started, State, may_start, takes}
use Rattle.sp_plan.specs.Moves.{Acting, Told, Opened, OpenedTold, act, growing, act_start, handling_of}
use Rattle.sp_match.specs.declared.turns.Reception.{Reception}
use Rattle.sp_match.specs.inside.Kept.{Kept, empty, started}
use Rattle.sp_match.specs.inside.Good.{Good, Undoes}
use Rattle.sp_match.specs.inside.Effects.{runs_after_binding, runs_binding_told, run_after_use, run_after_binding, used_by_binding}
use Rattle.sp_match.specs.inside.Shows.{Shows}
use Rattle.sp_match.specs.inside.Tally.{Tally}
use Rattle.sp_match.specs.inside.Going.{Going, IsReady, acted_by, standing, starting}
use Rattle.sp_match.specs.inside.Handling.{IsHandled}
use Rattle.sp_match.proofs.RunNumbersRise.{Rising}
use Rattle.sp_match.proofs.MovesAreHandling.{ordered_rises, rising_ordered}
use Rattle.sp_match.proofs.RunsAfterBinding.{runs_after_binding_is}
use Rattle.sp_match.proofs.TurnTallies.{start_tallies}
use Rattle.sp_match.proofs.RunNumbersStay.{rising_same, same_numbers}
use Rattle.sp_match.proofs.StartShows.{acted_started, bound_numbers_stay, new_shows, new_started, rising_new}

module _ (q : Plan) (x : Numbered) (count : ℕ) (old new : List Kept) (ts : List Told) (r : Reception) (ready : IsReady q x.0 count old) (undoes : Undoes q x.0 old new)
    (going : (s : State) → s.open_runs ≡ map started old → Going q x s old (length old) new ts r) where
  shows : (s : State) → s.open_runs ≡ map started old → Shows q s (acted_by q x s s.open_runs) new ts
  shows s is =
      subst (λ (l : List Started). Shows q s (acted_by q x s l) new ts) (take_all (length old) (map started old) (let long = length-map old started in omega arith) ∙ sym is) (going s is).shows

  tally : (s : State) → s.open_runs ≡ map started old → All (Tally x.0 (acted_by q x s s.open_runs).moves) new
  tally s is =
      subst (λ (l : List Started). All (Tally x.0 (acted_by q x s l).moves) new) (take_all (length old) (map started old) (let long = length-map old started in omega arith) ∙ sym is) (going s is).tally

  size : length new ≡ length old
  size = sym (length-map new (λ (k : Kept). k.number)) ∙ ap length (same_numbers q x.0 old new undoes) ∙ length-map old (λ (k : Kept). k.number)

  up : Rising 0 count (map started new)
  up = rising_same 0 count old new (same_numbers q x.0 old new undoes) (ordered_rises (standing count old) ready.ordered)

  -- no run starts
  pub none_starts : ((s : State) → s.open_runs ≡ map started old → None ≡ starting q x s) → IsHandled q x count old false new ts
  none_starts none = record {
    shows = λ s is count_is. subst (λ (a : Acting). Shows q s a new ts) (ap (act_start q x (acted_by q x s s.open_runs)) (none s is)) (shows s is);
    started_is = λ s is count_is. ap (λ (o : Option ℕ). (act_start q x (acted_by q x s s.open_runs) o).now.started) (sym (none s is)) ∙ acted_started q x s s.open_runs ∙ count_is;
    tally = λ s is count_is. subst (λ (a : Acting). All (Tally x.0 a.moves) (take (length old) new)) (ap (act_start q x (acted_by q x s s.open_runs)) (none s is)) (All-take (Tally x.0 (acted_by q x s s.open_runs).moves) (length old) new (tally s is));
    good = undoes.good;
    ordered = rising_ordered (standing count new) up;
  }

  -- a run starts
  pub one_starts : (name : ℕ) → ((s : State) → s.open_runs ≡ map started old → Some name ≡ starting q x s) → (more : List Kept) (told : List Told)
      → more ≡ runs_after_binding q name x (length new) (new ++ empty (count + 1) ∷ []) → told ≡ ts ++ OpenedTold (count + 1) ∷ runs_binding_told q name x (length new) (new ++ empty (count + 1) ∷ [])
      → All (Good q) more → IsHandled q x count old true more told
  one_starts name some more told runs_are told_are good = record {
    shows = λ s is count_is.
        subst (λ (a : Acting). Shows q s a more told) (ap (act_start q x (acted_by q x s s.open_runs)) (some s is))
        (subst (λ (l : List Kept). Shows q s (act_start q x (acted_by q x s s.open_runs) (Some name)) l told) (sym runs_are)
        (subst (λ (l : List Told). Shows q s (act_start q x (acted_by q x s s.open_runs) (Some name)) (runs_after_binding q name x (length new) (new ++ empty (count + 1) ∷ [])) l) (sym told_are)
        (new_shows q x s (acted_by q x s s.open_runs) count new ts name (acted_started q x s s.open_runs ∙ count_is) up (shows s is))));
    started_is = λ s is count_is.
        ap (λ (o : Option ℕ). (act_start q x (acted_by q x s s.open_runs) o).now.started) (sym (some s is)) ∙ new_started q x (acted_by q x s s.open_runs) name
        ∙ ap (λ (n : ℕ). n + 1) (acted_started q x s s.open_runs ∙ count_is);
    tally = λ s is count_is.
        let a = acted_by q x s s.open_runs in
        let starts : a.now.started ≡ count = acted_started q x s s.open_runs ∙ count_is in
        let front : take (length old) more ≡ map (run_after_use (used_by_binding q name x (empty (count + 1)))) new =
        ap (take (length old)) (runs_are ∙ runs_after_binding_is q name x new [] (empty (count + 1)) ∙ map-append (run_after_use (used_by_binding q name x (empty (count + 1)))) new (run_after_binding q name x (empty (count + 1)) ∷ []))
        ∙ take_at (map (run_after_use (used_by_binding q name x (empty (count + 1)))) new) (run_after_use (used_by_binding q name x (empty (count + 1))) (run_after_binding q name x (empty (count + 1))) ∷ []) (length old)
        (length-map new (run_after_use (used_by_binding q name x (empty (count + 1)))) ∙ size) in
        subst (All (Tally x.0 (act q s x).moves)) (sym front)
        (subst (λ (b : Acting). All (Tally x.0 b.moves) (map (run_after_use (used_by_binding q name x (empty (count + 1)))) new)) (ap (act_start q x a) (some s is))
        (subst (λ (n : ℕ). All (Tally x.0 ((a.moves ++ Opened ∷ []) ++ growing q (a.now.open_runs ++ (n + 1, []) ∷ []) (n + 1, []) (record { name = name; number = x.0; event = x.1 })))
        (map (run_after_use (used_by_binding q name x (empty (count + 1)))) new)) (sym starts)
        (start_tallies q x new name count a.moves a.now.open_runs (shows s is).now up (tally s is))));
    good = good;
    ordered = rising_ordered (standing (count + 1) more)
        (rising_same 0 (count + 1) (new ++ empty (count + 1) ∷ []) more (ap (map (λ (k : Kept). k.number)) runs_are ∙ bound_numbers_stay q name x new [] (empty (count + 1))) (rising_new count new up));
  }

-- a run starts under a name by which the event begins one
pub started_name : (q : Plan) (x : Numbered) (s : State) (name : ℕ) → Some name ≡ starting q x s → takes q [] x.1 ≡ Some name
started_name q x s name is = one (may_start q.select q s (handling_of (acted_by q x s s.open_runs)) x) is
  where
    one : (b : Bool) → Some name ≡ (if b then takes q [] x.1 else None) → takes q [] x.1 ≡ Some name
    one true e = sym e
    one false e = cc
