-- Readings of events that come out of order: without slack, where what is late is refused; what is to be given of them; and with more bytes.
use Rattle.std.specs.Prelude.{◌≡◌, ◌≤◌, ℕ, pos, Bool, false, List, ◌++◌}
use Rattle.sp_plan.specs.Compiled.{IsCompiled}
use Rattle.sp_plan.specs.declared.event.Event.{Event}
use Rattle.sp_plan.specs.declared.plan.Plan.{Plan}
use Rattle.sp_slack.specs.HeldBack.{slacked}
use Rattle.sp_slack.specs.declared.late.LateRule.TheVariants.{Refuse}
use Rattle.sp_ports.specs.Giving.{AreGood}
use Rattle.sp_intake.specs.Loose.{Lateness, loose}
use Rattle.sp_intake.specs.Reading.{read, stop_of}

-- no slack, and a late event is refused
abbrev pub punctual : Lateness
punctual = record { slack = pos 0; rule = Refuse }

-- It gives the events of the reading in which times may not go back, passes none over, and stops for the same reason.
pub record IsReading (q : Plan) (bytes : List ℕ) (ended : Bool) : Type 0 where
  pub events : (loose q punctual bytes ended).reading.events ≡ (read q bytes ended).events
  pub late : (loose q punctual bytes ended).late ≡ 0
  pub stop : stop_of (loose q punctual bytes ended).reading ended ≡ stop_of (read q bytes ended) ended

abbrev pub LooseIsReading : Type 0
LooseIsReading = (q : Plan) (bytes : List ℕ) (ended : Bool) → IsCompiled q → IsReading q bytes ended

-- What is to be given of it is input for an engine: it fits the plan, never goes back in time, and is no more than an input may have.
abbrev pub LooseIsGood : Type 0
LooseIsGood = (q : Plan) (l : Lateness) (bytes : List ℕ) (ended all : Bool) → IsCompiled q → AreGood q (slacked l.slack (loose q l bytes ended).reading.events all)

-- With more bytes the events that were kept stay first, and so do those that were to be given; no fewer are passed over.
pub record LooseGrowsTo (q : Plan) (l : Lateness) (front more : List ℕ) (ended all : Bool) : Type 0 where
  pub events : (others : List Event) × ((loose q l (front ++ more) ended).reading.events ≡ (loose q l front false).reading.events ++ others)
  pub given : (others : List Event) × (slacked l.slack (loose q l (front ++ more) ended).reading.events all ≡ slacked l.slack (loose q l front false).reading.events false ++ others)
  pub late : (loose q l front false).late ≤ (loose q l (front ++ more) ended).late

abbrev pub LooseGrows : Type 0
LooseGrows = (q : Plan) (l : Lateness) (front more : List ℕ) (ended all : Bool) → IsCompiled q → LooseGrowsTo q l front more ended all
