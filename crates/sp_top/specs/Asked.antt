-- Which words ask for a run or for a graph, and which numbers these have.
use Rattle.std.specs.Prelude.{◌≡◌, ◌≤◌, ◌≤ℤ◌, pos, ℕ, List}
use Rattle.sp_base.specs.Limits.{live_limit, batch_limit, number_limit}
use Rattle.sp_load.specs.Places as found
use Rattle.sp_cli.specs.Commands.{QuerySource, run, graph, speed_seen}
use Rattle.sp_commands.specs.Commands.{place_of, IsCommand}
use Rattle.sp_cli.specs.declared.command.Speed.{Speed}
use Rattle.sp_top.specs.declared.asked.GraphRun.{GraphRun}
use Rattle.sp_top.specs.declared.asked.Manner.{Manner}
use Rattle.sp_top.specs.declared.asked.Run.{Run}

-- the numbers of a run keep their limits
pub record IsManner (manner : Manner) : Type 0 where
  pub live : (1 ≤ manner.speed.now.live) × (manner.speed.now.live ≤ live_limit)
  pub batch : (1 ≤ manner.speed.now.batch) × (manner.speed.now.batch ≤ batch_limit)
  pub instances : manner.speed.now.instances ≤ 16
  pub low : pos 0 ≤ℤ manner.late.slack
  pub high : manner.late.slack ≤ℤ pos number_limit

-- The words are this run: its query stands there, its speed, lateness and trees are these, and so is whether it lists proofs.
pub record IsRunOf (asked : Run) (words : List (List ℕ)) : Type 0 where
  pub query : QuerySource
  pub place : found.place_of asked.place ≡ place_of query
  pub is : IsCommand words (run query (speed_seen asked.manner.speed.now) asked.manner.late.slack asked.manner.late.rule asked.trees asked.proof)

-- the numbers of a speed keep their limits
pub record IsSpeed (speed : Speed) : Type 0 where
  pub live : (1 ≤ speed.live) × (speed.live ≤ live_limit)
  pub batch : (1 ≤ speed.batch) × (speed.batch ≤ batch_limit)
  pub instances : speed.instances ≤ 16

-- The words are this graph: its first query stands there, its other texts and its speed are these.
pub record IsGraphOf (asked : GraphRun) (words : List (List ℕ)) : Type 0 where
  pub query : QuerySource
  pub place : found.place_of asked.texts.place ≡ place_of query
  pub is : IsCommand words (graph query asked.texts.second.now asked.texts.returns.now (speed_seen asked.speed.now))
