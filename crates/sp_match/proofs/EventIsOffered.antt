-- A matcher after an event that was handled, and what is told of it.
use Rattle.std.proofs.Common.{◌≡◌, ℕ, ◌+◌, Bool, List, map, take, refl, sym, ap, subst, ◌∙◌}
use Rattle.std.specs.List.{All}
use Rattle.sp_plan.specs.declared.plan.Plan.{Plan}
use Rattle.sp_plan.specs.Windows.{Numbered}
use Rattle.sp_plan.specs.Runs.{State, handle}
use Rattle.sp_plan.specs.Moves.{Told, moves, still_wanted, told}
use Rattle.sp_match.specs.public.Laws.{Below}
use Rattle.sp_match.specs.public.Matching.{Matching, Stands, runs_of}
use Rattle.sp_match.specs.inside.Kept.{Kept, before, started}
use Rattle.sp_match.specs.inside.Good.{Good, Undoes}
use Rattle.sp_match.specs.inside.Effects.{open_runs}
use Rattle.sp_match.specs.inside.Going.{IsIdle, standing}
use Rattle.sp_match.specs.inside.Keeping.{IsKept}
use Rattle.sp_match.specs.inside.Handling.{IsHandled, count_after}
use Rattle.sp_match.proofs.MatcherAfterEvent.{below_after, ordered_after, runs_after, runs_back, started_after}
use Rattle.sp_match.proofs.GrownRunIsGood.{looked_for}

-- what a matcher is after an event, and what is told
pub record Offered (before after : Matching) (x : Numbered) (ts : List Told) : Type 0 where
  pub stands : (s : State) → Stands before s → Stands after (handle before.plan s x)
  pub tells : (s : State) → Stands before s → ts ≡ told before.plan s (moves before.plan s x)
  pub stays_below : Below (x.0 + 1) (runs_of after)

-- the event as it was handled, with the matcher's own plan
module _ (q q' : Plan) (x : Numbered) (count : ℕ) (old : List Kept) (began : Bool) (new settled : List Kept) (ts : List Told) (m m' : Matching) (is : q' ≡ q) (view : (record { plan = q; open_runs = map started old; started = count }) ≡ m)
    (own : IsKept q count old) (handled : IsHandled q' x count old began new ts) (settled_is : map started settled ≡ open_runs new) (later : m' ≡ (record { plan = q; open_runs = map started settled; started = count_after count began })) where
  handled_own : IsHandled q x count old began new ts
  handled_own = subst (λ (p : Plan). IsHandled p x count old began new ts) is handled

  stands_after : (s : State) → Stands m s → Stands m' (handle m.plan s x)
  stands_after s stands =
      let runs : s.open_runs ≡ map started old = sym stands.open_is ∙ sym (ap (λ (n : Matching). n.open_runs) view) in
      let starts : s.started ≡ count = sym stands.started_is ∙ sym (ap (λ (n : Matching). n.started) view) in
      let plan : q ≡ m.plan = ap (λ (n : Matching). n.plan) view in
      subst (λ (p : Plan). Stands m' (handle p s x)) plan (record {
        open_is = ap (λ (n : Matching). n.open_runs) later ∙ runs_after q x count old began new settled ts own.ordered handled_own settled_is s runs starts;
        started_is = ap (λ (n : Matching). n.started) later ∙ started_after q x count old began new settled ts own.ordered handled_own settled_is s runs starts;
      })

  told_after : (s : State) → Stands m s → ts ≡ told m.plan s (moves m.plan s x)
  told_after s stands =
      let runs : s.open_runs ≡ map started old = sym stands.open_is ∙ sym (ap (λ (n : Matching). n.open_runs) view) in
      let starts : s.started ≡ count = sym stands.started_is ∙ sym (ap (λ (n : Matching). n.started) view) in
      (handled_own.shows s runs starts).told ∙ ap (λ (n : Matching). told n.plan s (moves n.plan s x)) view

  pub wanted_after : (ws : List (ℕ × ℕ)) → ((s : State) → s.open_runs ≡ map started old → s.started ≡ count → ws ≡ still_wanted q' s (moves q' s x)) → (s : State) → Stands m s → ws ≡ still_wanted m.plan s (moves m.plan s x)
  wanted_after ws wanted s stands =
      let runs : s.open_runs ≡ map started old = sym stands.open_is ∙ sym (ap (λ (n : Matching). n.open_runs) view) in
      let starts : s.started ≡ count = sym stands.started_is ∙ sym (ap (λ (n : Matching). n.started) view) in
      wanted s runs starts ∙ ap (λ (p : Plan). still_wanted p s (moves p s x)) is ∙ ap (λ (n : Matching). still_wanted n.plan s (moves n.plan s x)) view

  low_after : (n : ℕ) → n ≡ x.0 → Below n (runs_of m) → Below (n + 1) (runs_of m')
  low_after n same below =
      subst (λ (l : Matching). Below (n + 1) (runs_of l)) (sym later)
      (below_after q x count old began new settled ts own.ordered handled_own settled_is n same (subst (λ (l : Matching). Below n (runs_of l)) (sym view) below))

  pub kept_after : All (Good q') settled → All IsIdle settled → IsKept q (count_after count began) settled
  kept_after good idle = record {
    compiled = own.compiled;
    good = subst (λ (p : Plan). All (Good p) settled) is good;
    idle = idle;
    ordered = ordered_after q x count old began new settled ts own.ordered handled_own settled_is;
  }

  pub offered : Below x.0 (runs_of m) → Offered m m' x ts
  offered below = record { stands = stands_after; tells = told_after; stays_below = low_after x.0 refl below }

-- the runs as before, but for what they may take next
pub back : (q q' : Plan) (number count : ℕ) (old new after : List Kept) (size n : ℕ) → q' ≡ q → IsKept q count old → Below number (standing count old) → n ≡ size → Undoes q' number old (take size new) → after ≡ map (before number) (take n new)
    → after ≡ map looked_for old
back q q' number count old new after size n plan own below same undoes is =
    runs_back q number count old new after size own below (subst (λ (p : Plan). Undoes p number old (take size new)) plan undoes) (is ∙ ap (λ (m : ℕ). map (before number) (take m new)) same)
