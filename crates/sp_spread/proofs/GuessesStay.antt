-- A spawn keeps what open groups are held to be: the new version has read nothing, and so it has none.
use Rattle.std.proofs.Common.{◌≡◌, ◌≢◌, ℕ, ◌+◌, true, List, [], Option, Some, None, ⊎_elim, sym, subst}
use Rattle.sp_plan.specs.declared.event.Event.{Event}
use Rattle.sp_plan.specs.declared.plan.Plan.{Plan}
use Rattle.sp_group.specs.declared.step.Step.TheVariants as s
use Rattle.sp_group.specs.Machine.{Version, Machine, version_at, inner, is_group}
use Rattle.sp_group.specs.Refusing.{refusal}
use Rattle.sp_group.specs.Effects.{fresh, spawned, child_spawned, effect}
use Rattle.sp_rules.proofs.Tree.{at_cases}
use Rattle.sp_spread.specs.Guessing.{AreGuessed}
use Rattle.sp_spread.specs.Laws.{GuessesStay}

-- a version that has read nothing has no open group
no_group : (q : Plan) (E : List Event) (id : ℕ) (p : Option ℕ) (w : ℕ) (l : List ℕ) (r : ℕ) → is_group q (inner q E (fresh id p w l)) r ≡ true → ⊥
no_group q E id p w l r h = cc

spawned_guessed : (q : Plan) (m : Machine) (p : Option ℕ) (w : ℕ) (l : List ℕ) (means share : ℕ → ℕ → ℕ) → AreGuessed q m means share → AreGuessed q (spawned m (fresh m.next_id p w l)) means share
spawned_guessed q m p w l means share guessed id v r at group = ⊎_elim
    (λ (y : (m.next_id ≡ id) × (fresh m.next_id p w l ≡ v)).
    absurd (no_group q m.events m.next_id p w l r (subst (λ (z : Version). is_group q (inner q m.events z) r ≡ true) (sym y.1) group)))
    (λ (y : (m.next_id ≢ id) × (version_at m.versions id ≡ Some v)). guessed id v r y.1 group)
    (at_cases (fresh m.next_id p w l) m.versions id v at)

spawn_guessed : (q : Plan) (bound : ℕ) (m : Machine) (parent : Option ℕ) (label : List ℕ) (means share : ℕ → ℕ → ℕ) → refusal q bound m (s.Spawn parent label) ≡ None
    → AreGuessed q m means share → AreGuessed q (effect q m (s.Spawn parent label)) means share
spawn_guessed q bound m None label means share accepted guessed = spawned_guessed q m None (m.finished + 1) [] means share guessed
spawn_guessed q bound m (Some p) label means share accepted guessed = one (version_at m.versions p)
  where
    one : (o : Option Version) → AreGuessed q (child_spawned m p label o) means share
    one None = guessed
    one (Some u) = spawned_guessed q m (Some p) (u.window + 1) label means share guessed

pub guesses_stay : (q : Plan) (bound : ℕ) (m : Machine) → GuessesStay q bound m
guesses_stay q bound m = record { by_spawn = spawn_guessed q bound m }
