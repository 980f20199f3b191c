-- What a reader has read, as what came of its input.
use Rattle.std.proofs.Common.{◌≡◌, ℕ, false, List, Option, Some, None, Ok, Err, sym, ap, subst}
use Rattle.std.specs.Prelude.{Result, IfOk, IfSome}
use Rattle.std.specs.declared.alloc.AllocError.{AllocError}
use Rattle.sp_intake.specs.declared.events.EventReader.{EventReader}
use Rattle.sp_io.specs.Outside.{SourceState}
use Rattle.sp_plan.specs.Compiled.{IsCompiled}
use Rattle.sp_plan.specs.declared.event.Event.{Event}
use Rattle.sp_plan.specs.declared.plan.Plan.{Plan}
use Rattle.sp_slack.specs.declared.late.LateRule.{LateRule}
use Rattle.sp_slack.specs.declared.late.LateRule.TheVariants.{Refuse}
use Rattle.sp_ports.specs.declared.stop.Stop.{Stop}
use Rattle.sp_intake.specs.InOrder.{ReadsInOrder, AsksInOrder}
use Rattle.sp_intake.specs.Intake.{StopsInPiece}
use Rattle.sp_intake.specs.Loose.{Lateness, in_order, loose}
use Rattle.sp_intake.specs.LooseLaws.{punctual, LooseIsReading}
use Rattle.sp_intake.specs.Pieces.{AsksFrom}
use Rattle.sp_intake.specs.Standing.{Standing, ReadsFrom, IsFront, stop_in}
use Rattle.sp_commands.specs.Ends.{CameFrom, came, came_within, late_status}
use Rattle.sp_commands.specs.Given.{StopsInTime}
use Rattle.sp_commands.proofs.Came.{came_open, within_open}
use Rattle.sp_commands.proofs.Punctual.{came_in_time}
use Rattle.sp_commands.proofs.Running.{strict_in_time}
use Rattle.sp_top.specs.Coming.{late_in, ComesFrom, AsksInTime}

-- what is so of a reader, where one was made
pub if_made : (P Q : EventReader → Type 0) (made : Result EventReader AllocError) → ((events : EventReader) → P events → Q events) → IfOk made P → IfOk made Q
if_made P Q (Ok events) weaker so = weaker events so
if_made P Q (Err e) weaker so = tt

-- ---- with a slack

-- the status of a stop, where there is one, by how many events were passed over
status_then : (rule : LateRule) (late passed : ℕ) (stop : Stop) (why : Option Stop) → IfSome why (λ s. s ≡ stop) → IfSome why (λ s. late ≡ passed) → IfSome why (λ s. late_status rule late s ≡ late_status rule passed stop)
status_then rule late passed stop None is count = tt
status_then rule late passed stop (Some s) is count = λ i. late_status rule (count i) (is i)

order_in_time : (q : Plan) (l : Lateness) (taken : List ℕ) → StopsInPiece (in_order q l) taken → StopsInTime (came_within q l) taken
order_in_time q l taken no_further = record {
  front = no_further.front;
  piece = no_further.piece;
  are = no_further.are;
  short = no_further.short;
  goes_on = within_open q l no_further.front no_further.goes_on;
}

pub comes_in_order : (q : Plan) (l : Lateness) (origin : SourceState) (first : Standing) → ReadsInOrder q l origin first → ComesFrom q l origin first
comes_in_order q l origin first reads events last gives =
    let so = reads events last gives in
    let has = so.1.has in
    let c = came_within q l so.0 last.source.ended in
    record {
      taken = so.0;
      gave = has.gave;
      in_time = order_in_time q l so.0 has.no_further;
      front = has.front;
      all = has.all;
      stop = has.stop;
      status = status_then l.rule (late_in last) (loose q l so.0 last.source.ended).late c.stop (stop_in last.state) has.stop so.1.late;
      fault = has.fault;
      told = has.told;
    }

pub asks_in_order : (q : Plan) (l : Lateness) (origin : SourceState) (first : Standing) → AsksInOrder q l origin first → AsksInTime q l origin first
asks_in_order q l origin first asks before events last asked =
    let so = asks before events last asked in
    let behind : StopsInTime (came_within q l) so.0 = record {
      front = so.1.last.front;
      piece = so.1.last.piece;
      are = so.1.last.are;
      short = so.1.last.short;
      goes_on = within_open q l so.1.last.front so.1.last.goes_on;
    } in
    record { taken = so.0; gave = so.1.read.has.gave; in_time = behind; are = so.1.are }

-- ---- without

module _ (law : LooseIsReading) (q : Plan) (compiled : IsCompiled q) (origin : SourceState) (first : Standing) where
  same : came q ≡ came_within q punctual
  same = λ i bytes ended. sym (came_in_time law q compiled bytes ended) i

  -- no event is passed over
  pub comes_strictly : ReadsFrom q origin first → ComesFrom q punctual origin first
  comes_strictly reads events last gives =
      let so = reads events last gives in
      let ended = last.source.ended in
      let why = stop_in last.state in
      record {
        taken = so.taken;
        gave = so.has.gave;
        in_time = subst (λ (way : CameFrom). StopsInTime way so.taken) same (strict_in_time q so.taken so.has.no_further);
        front = subst (λ (way : CameFrom). IsFront events (way so.taken ended).events) same so.has.front;
        all = subst (λ (way : CameFrom). IfSome why (λ stop. events ≡ (way so.taken ended).events)) same so.has.all;
        stop = subst (λ (way : CameFrom). IfSome why (λ stop. stop ≡ (way so.taken ended).stop)) same so.has.stop;
        status = subst (λ (way : CameFrom). IfSome why (λ stop. late_status Refuse (late_in last) stop ≡ (way so.taken ended).status)) same (strict_then (late_in last) (came q so.taken ended).stop why so.has.stop);
        fault = so.has.fault;
        told = so.has.told;
      }
    where
      strict_then : (late : ℕ) (stop : Stop) (why : Option Stop) → IfSome why (λ s. s ≡ stop) → IfSome why (λ s. late_status Refuse late s ≡ late_status Refuse 0 stop)
      strict_then late stop None is = tt
      strict_then late stop (Some s) is = ap (late_status Refuse 0) is

  -- what was given when more was asked for, by the way in which it came
  abbrev Before : CameFrom → List ℕ → List Event → Type 0
  Before way taken before = (in_time : StopsInTime way taken) × (before ≡ (way in_time.front false).events)

  pub asks_strictly : AsksFrom q origin first → AsksInTime q punctual origin first
  asks_strictly asks before events last asked =
      let so = asks before events last asked in
      let behind : StopsInTime (came q) so.taken = record {
        front = so.last.front;
        piece = so.last.piece;
        are = so.last.are;
        short = so.last.short;
        goes_on = came_open q so.last.front so.last.goes_on;
      } in
      let own = subst (λ (way : CameFrom). Before way so.taken before) same (behind, so.are) in
      record { taken = so.taken; gave = so.has.gave; in_time = own.0; are = own.1 }
