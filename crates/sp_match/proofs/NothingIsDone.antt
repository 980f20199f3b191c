-- An event that no open run takes, that is held against none, and that begins none, changes nothing.
use Rattle.std.proofs.Common.{◌≡◌, ℕ, Bool, true, false, not, ◌||◌, List, [], ◌∷◌, ◌++◌, map, None, refl, sym, ap, subst, ◌∙◌}
use Rattle.std.specs.Prelude.{is_some, if◌then◌else◌}
use Rattle.std.specs.List.{All, filter, flat_map, fold, list_any}
use Rattle.std.proofs.lemmas.List.{append-nil}
use Rattle.std.proofs.lemmas.List.Elements.{All-head, All-tail}
use Rattle.sp_plan.specs.declared.plan.Plan.{Plan}
use Rattle.sp_plan.specs.declared.plan.Select.{Select}
use Rattle.sp_plan.specs.declared.plan.Select.TheVariants.{First, Last, Each}
use Rattle.sp_plan.specs.Windows.{Numbered}
use Rattle.sp_plan.specs.Runs.{Started, State, departs, guarded, leaves, may_start, takes}
use Rattle.sp_plan.specs.Moves.{Acting, Move, abandoned, abandons, act, act_run, act_start, acted, acting_on, apply_all, handling_of, left, pair_given, still_wanted, told}
use Rattle.sp_match.specs.public.Laws.{Ordered}
use Rattle.sp_match.specs.public.Matching.{IsAfter, Matching, Stands, TellsEvent, TellsWanted, wanted_as_before}
use Rattle.sp_match.specs.inside.Going.{acted_by}
use Rattle.sp_match.proofs.MovesAreHandling.{moves_are_handling}
use Rattle.sp_match.proofs.RunsAfterBinding.{holds_none}

-- what a run wants before these moves, and after them
abbrev both_left : Plan → List Move → Started → ℕ × ℕ
both_left q ms run = (left q run.1, left q (run.1 ++ flat_map (pair_given run.0) ms))

-- by no moves each run wants as many events as before
still_all : (q : Plan) (runs : List Started) → map {B = ℕ × ℕ} (λ run. (left q run.1, left q run.1)) runs ≡ map (both_left q []) (filter (λ run. not (list_any (abandons run.0) [])) runs)
still_all q [] = refl
still_all q (run ∷ runs) = λ i. (left q run.1, left q (sym (append-nil run.1) i)) ∷ still_all q runs i

module _ (q : Plan) (x : Numbered) (none : takes q [] x.1 ≡ None) where
  -- a run neither takes it nor is guarded by it
  abbrev pub Unmoved : Started → Type 0
  Unmoved run = (takes q run.1 x.1 ≡ None) × (guarded q run.1 x.1 ≡ false)

  -- so of all these runs
  abbrev pub AllUnmoved : List Started → Type 0
  AllUnmoved runs = All Unmoved runs

  abbrev at_first : State → Acting
  at_first s = record { moves = []; now = s; taken = [] }

  none_leaves : (select : Select) → leaves select q x.1 ≡ false
  none_leaves First = refl
  none_leaves Last = ap is_some none
  none_leaves Each = refl

  run_passed : (s : State) (run : Started) → Unmoved run → act_run q x (at_first s) run ≡ at_first s
  run_passed s run passes =
      let stays : departs q run.1 x.1 ≡ false = λ i. none_leaves q.select i || passes.1 i in
      (λ i. if holds_none run.1 i then at_first s else acted q x (at_first s) run (passes.0 i)) ∙ (λ i. if stays i then acting_on (at_first s) (abandoned run ∷ []) [] else at_first s)

  all_passed : (s : State) (runs : List Started) → AllUnmoved runs → acted_by q x s runs ≡ at_first s
  all_passed s [] pass = refl
  all_passed s (run ∷ runs) pass = ap (λ (a : Acting). fold (act_run q x) a runs) (run_passed s run (All-head Unmoved run runs pass)) ∙ all_passed s runs (All-tail Unmoved run runs pass)

  none_starts : (s : State) (a : Acting) (b : Bool) → act_start q x a (if b then takes q [] x.1 else None) ≡ a
  none_starts s a true = ap (act_start q x a) none
  none_starts s a false = refl

  pub nothing_done : (s : State) → AllUnmoved s.open_runs → act q s x ≡ at_first s
  nothing_done s pass =
      let a = acted_by q x s s.open_runs in
      none_starts s a (may_start q.select q s (handling_of a) x) ∙ all_passed s s.open_runs pass

  -- what a matcher stands for that has its runs in order stays, nothing is told, and its runs want as much as before
  pub untouched : (m : Matching) → ((s : State) → Stands m s → Ordered s) → AllUnmoved m.open_runs → m.plan ≡ q → IsAfter x m m × TellsEvent x m [] × TellsWanted x m (wanted_as_before m)
  untouched m ordered pass plan =
      let acts : (s : State) → Stands m s → act m.plan s x ≡ at_first s = λ s stands. ap (λ (p : Plan). act p s x) plan ∙ nothing_done s (subst AllUnmoved stands.open_is pass) in (
        λ s stands. subst (Stands m) (ap (λ (a : Acting). apply_all s a.moves) (sym (acts s stands)) ∙ moves_are_handling m.plan s x (ordered s stands)) stands,
        λ s stands. ap (λ (a : Acting). told m.plan s a.moves) (sym (acts s stands)),
        λ s stands.
            ap (map {B = ℕ × ℕ} (λ (run : Started). (left m.plan run.1, left m.plan run.1))) stands.open_is ∙ still_all m.plan s.open_runs
            ∙ ap (λ (a : Acting). still_wanted m.plan s a.moves) (sym (acts s stands)),
      )
