-- The law's words tried on a small table, by computation.
use Rattle.std.proofs.Common.{◌≡◌, pos, [], ◌∷◌, Some, refl, true}
use Rattle.std.specs.Fmt.{digits}
use Rattle.std.specs.Str.{is_utf8, chars}
use Rattle.csv.specs.Machine.{next_record}
use Rattle.csv.specs.Reading.{strip_bom}
use Rattle.sp_plan.specs.declared.event.Value.TheVariants.{Number, Symbol}
use Rattle.sp_plan.specs.declared.plan.Plan.{Plan}
use Rattle.sp_plan.specs.declared.plan.Length.TheVariants.{Events}
use Rattle.sp_plan.specs.declared.plan.Opening.TheVariants.{EveryEvents}
use Rattle.sp_plan.specs.declared.plan.Select.TheVariants.{First}
use Rattle.sp_ports.specs.declared.stop.Stop.TheVariants.{End}
use Rattle.sp_intake.specs.Reading.{Reading, read, stop_of}
use Rattle.sp_gen.specs.Generated.{generated}
use Rattle.sp_drill.specs.Drill.{drill_columns}

abbrev plan : Plan
plan = record {
  schema = record { columns = drill_columns; time = Some 0 };
  names = [];
  elements = [];
  select = First;
  length = Events 10;
  opening = EveryEvents 10;
  texts = [];
}

abbrev two : Reading
two = read plan (generated 2 7) true

two_stop : stop_of two true ≡ End
unfolding digits next_record strip_bom is_utf8 chars lib.Utf8.encode
two_stop = refl

two_events : two.events ≡ record { time = pos 1; values = Number (pos 1) ∷ Symbol 0 ∷ Number (pos 13360) ∷ [] } ∷ record { time = pos 2; values = Number (pos 2) ∷ Symbol 1 ∷ Number (pos 12522) ∷ [] } ∷ []
unfolding digits next_record strip_bom is_utf8 chars lib.Utf8.encode
two_events = refl
