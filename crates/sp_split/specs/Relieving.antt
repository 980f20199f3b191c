-- The predictors of a run while it goes on. No public clause cites this.
use Rattle.std.specs.Prelude.{◌≡◌, ℕ, ◌+◌, ◌/◌, ◌≤◌, List, ◌∷◌, drop, length, map, ◌==◌, if◌then◌else◌}
use Rattle.sp_split.specs.declared.crew.Crew.{Crew}
use Rattle.sp_split.specs.declared.relay.Relay.{Relay}
use Rattle.sp_split.specs.declared.relay.Team.{Team}
use Rattle.sp_split.specs.Relay.{due_of}

module _ {V : Type 0} {T : V → Type 0} where
  -- a crew before its run, and those that are left of it
  abbrev pub team_of : Crew V T → Team V T
  team_of crew = record { first = crew.first; relay = record { rest = crew.rest; every = crew.every; gone = 0 } }

  abbrev pub crew_of : Team V T → Crew V T
  crew_of team = record { first = team.first; rest = team.relay.rest; every = team.relay.every }

  -- as many have gone to work as are due once so many windows are finished
  abbrev pub AreDue : Relay V T → ℕ → Type 0
  AreDue relay finished = relay.gone ≡ due_of relay.every (relay.gone + length relay.rest.items) finished

  -- no more have gone than one for each `every` of so many windows
  abbrev pub AreWithin : Relay V T → ℕ → Type 0
  AreWithin relay finished = relay.gone ≤ (if relay.every == 0 then 0 else finished / relay.every)

  -- Some more have gone to work, in their order: the names stand in one line, that of the one in work first.
  pub record Relieved (named : _ → List ℕ) (old new : Team V T) : Type 0 where
    pub count : ℕ
    pub gone : new.relay.gone ≡ old.relay.gone + count
    pub rest : new.relay.rest.items ≡ drop count old.relay.rest.items
    pub names : map named (new.first ∷ new.relay.rest.items) ≡ drop count (map named (old.first ∷ old.relay.rest.items))
    pub every : new.relay.every ≡ old.relay.every
