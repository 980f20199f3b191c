use Rattle.std.proofs.Common.{refl}
use Rattle.sp_rules.proofs.Numbers.{numbers_are_lawful}
use Rattle.sp_rules.proofs.Readings.{readings_are_lawful}
use Rattle.sp_rules.proofs.law.compiled_plans_are_lawful.Goals as goal

pub returns : goal.returns
returns c = λ q compiled. record {
  runs = record {
    any_moves_sound = c.runs_are_sound.ensures;
    any_moves_lead = c.moves_lead_on.ensures;
    one_event = c.handling_is_lawful.ensures;
    several_events = c.several_are_lawful.ensures;
    events_by_number = c.reading_is_state.ensures;
    readings = readings_are_lawful q c.handling_is_lawful.ensures c.runs_are_sound.ensures c.moves_are_handling.ensures c.moves_lead_on.ensures c.closing_ends_runs.ensures c.several_are_lawful.ensures c.numbers_stay_below.ensures;
    closing_event = record { by_moves = c.closing_ends_runs.ensures; none_open = λ s. refl; same_matches = λ s. refl; same_count = λ s. refl };
    open_unmatched = c.open_has_no_match.ensures;
    numbers = numbers_are_lawful q;
    event_by_moves = c.moves_are_handling.ensures;
    completions_told = c.completions_are_matches.ensures;
    abandonments_told = c.abandonments_are_told.ensures;
  };
  windows = record {
    good_events = c.good_events.ensures q;
    hold_events = c.windows_hold.ensures q compiled.windowed;
    kept_by_feeding = c.windows_are_kept.ensures q compiled.windowed;
    closed_first = c.closed_come_first.ensures q compiled.windowed;
    finished_stay = c.finished_windows_stay.ensures q compiled.windowed;
    read_whole = c.windows_are_read.ensures q compiled.windowed;
  };
}
