use Rattle.std.proofs.Common.{◌≡◌, ℕ, ◌+◌, true, ◌==◌, List, [], ◌∷◌, length, refl, sym, ap, subst, ◌∙◌, arith}
use Rattle.std.specs.Prelude.{min}
use Rattle.std.proofs.lemmas.Bool.Decides.{nat_tests}
use Rattle.std.proofs.lemmas.List.{length-map}
use Rattle.sp_base.specs.Limits.{whole_share}
use Rattle.sp_chance.specs.declared.chances.Chances.{Chances}
use Rattle.sp_chance.specs.Shares.{share_of}
use Rattle.sp_plan.specs.Runs.{used}
use Rattle.sp_match.specs.public.Matching.{left_at, shown}
use Rattle.sp_match.specs.public.Seen.{seen_run}
use Rattle.sp_group.specs.Rising.{has_number}
use Rattle.sp_splitter.specs.Asking.{run_at}
use Rattle.sp_splitter.proofs.Asked.{Asked, asked_none, asked_one, place_below, shown_at}
use Rattle.sp_splitter.proofs.guessing.ask_runs.Goals as goal
use Rattle.sp_splitter.proofs.guessing.ask_runs.Goals.{then-not-is_empty+in_ok-set, else-not-is_empty}

empty_list : (ns : List ℕ) → (length ns == 0) ≡ true → ns ≡ []
empty_list [] is = refl
empty_list (n ∷ ns) is = let none : length (n ∷ ns) ≡ 0 = grind (arith, nat_tests) in absurd (omega (arith, none))

pub loop-place-init : goal.loop-place-init
loop-place-init g c = record { done = λ k low has. absurd (omega (arith, low)); others = λ other r apart. refl }

pub overflow_cast-place : goal.overflow_cast-place
overflow_cast-place g c =
    let here = shown_at c.args.matcher.now.plan c.open_runs-run-items.result.now c.args.matcher.now.open_runs c.open_runs-run-items.ensures c.loop-place.place c.run-item.result c.loop-place-test.true c.run-item.is in
    let low = place_below c.args.matcher.now.open_runs c.requires.numbered c.loop-place.place here.0 in
    let number = here.1 in
    omega arith

pub loop-place-preserved : goal.loop-place-preserved
loop-place-preserved g c =
    let means = (goal.Predictor-dyn g c.args.predictor.now).means c.args.predictor.now.1 in
    let m = c.args.matcher.now in
    let place : ℕ = c.loop-place.place in
    let here = shown_at m.plan c.open_runs-run-items.result.now m.open_runs c.open_runs-run-items.ensures place c.run-item.result c.loop-place-test.true c.run-item.is in
    elim c.if-not-is_empty.branch [
      | then-not-is_empty+in_ok-set w ↦
          let share : w.new-share.result ≡ min (means (left_at m place) c.args.events) whole_share =
          w.new-share.ensures ∙ ap (λ (n : ℕ). min n whole_share) (w.chance.ensures ∙ ap (λ (n : ℕ). means n c.args.events) w.left-left.ensures) in
          subst (λ (z : Chances). Asked m means c.args.events c.args.id (place + 1) (share_of z) (share_of c.args.chances.now)) (sym w.chances-is)
          (asked_one m means c.args.events c.args.id place (share_of c.loop-place.chances) (share_of c.args.chances.now) c.loop-place.invariant c.requires.numbered here.0
          (share_of w.set.new.self) c.run-item.result.number w.new-share.result here.1 share w.in_ok-set.ensures.ok)
      | else-not-is_empty w ↦
          let none : c.list.result.now ≡ [] = empty_list c.list.result.now (sym c.is_empty.ensures ∙ w.if-not-is_empty.false) in
          let used_are : used m.plan (run_at m.open_runs place).1 ≡ [] = sym here.2 ∙ sym c.list.ensures.list ∙ none in
          subst (λ (z : Chances). Asked m means c.args.events c.args.id (place + 1) (share_of z) (share_of c.args.chances.now)) (sym w.chances-is)
          (asked_none m means c.args.events c.args.id place (share_of c.loop-place.chances) (share_of c.args.chances.now) c.loop-place.invariant (ap has_number used_are))
    ]

pub returns-clause-asked : goal.returns-clause-asked
returns-clause-asked g c place low =
    let alike = ap length c.open_runs-run-items.ensures in
    let items = length-map c.open_runs-run-items.result.now seen_run in
    let runs = length-map c.args.matcher.now.open_runs (shown c.args.matcher.now.plan) in
    c.loop-place.invariant.done place (omega (arith, alike, items, runs, low))

pub returns-clause-others : goal.returns-clause-others
returns-clause-others g c = c.loop-place.invariant.others
