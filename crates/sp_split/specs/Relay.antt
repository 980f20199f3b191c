-- How the predictors of a run take one another's place.
use Rattle.std.specs.Prelude.{◌≡◌, ◌⊎◌, ℕ, ◌/◌, List, ◌∷◌, drop, length, map, min, ◌==◌, if◌then◌else◌}
use Rattle.sp_ports.specs.declared.stop.Stop.{Stop}
use Rattle.sp_split.specs.declared.crew.Crew.{Crew}
use Rattle.sp_split.specs.declared.ended.Why.{Why}
use Rattle.sp_split.specs.declared.ended.Why.TheVariants as why

-- how many of so many that follow have taken a place once so many windows are finished, one for each `every` of these
abbrev pub due_of : ℕ → ℕ → ℕ → ℕ
due_of every count finished = if every == 0 then 0 else min (finished / every) count

module _ {V : Type 0} {T : V → Type 0} where
  -- how many of a crew have taken a place once so many windows are finished
  abbrev pub due : Crew V T → ℕ → ℕ
  due crew finished = due_of crew.every (length crew.rest.items) finished

  -- What is left of a crew behind a run. Some have gone, in their order. Of the others those that have not worked are as they were, and all of
  -- them, the one in work first, have the names that the last of the crew had. Where a run came to its end, or to a stop of its intake, as many
  -- have gone as are due.
  pub record Relayed (named : _ → List ℕ) (before after : Crew V T) (reason : Why) (finished : ℕ) : Type 0 where
    pub gone : ℕ
    pub rest : after.rest.items ≡ drop gone before.rest.items
    pub names : map named (after.first ∷ after.rest.items) ≡ drop gone (map named (before.first ∷ before.rest.items))
    pub every : after.every ≡ before.every
    pub count : (reason ≡ why.Whole) ⊎ ((cause : Stop) × (reason ≡ why.Stopped cause)) → gone ≡ due before finished
