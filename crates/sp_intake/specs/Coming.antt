-- What a reader comes to with bytes that may come.
use Rattle.std.specs.Prelude.{◌≡◌, ℕ, ◌+◌, Bool, false, List, [], ◌++◌, length}
use Rattle.std.specs.List.{fold}
use Rattle.sp_cut.specs.Left.{Left, rows_left}
use Rattle.sp_cut.specs.Answer.{with_more}
use Rattle.sp_plan.specs.declared.event.Event.{Event}
use Rattle.sp_plan.specs.declared.plan.Plan.{Plan}
use Rattle.sp_rows.specs.Progress.{plan_of}
use Rattle.sp_slack.specs.HeldBack.{with_time}
use Rattle.sp_intake.specs.Loose.{Lateness, Loose, take_row}
use Rattle.sp_intake.specs.Reader.{Reader, WereGiven, reading_of}

-- what the rows that are left give
abbrev pub with_left : Plan → Lateness → Loose → Left → Loose
with_left q l r left = fold (take_row q l) r (rows_left left)

-- what is read behind these events once these bytes have come behind those that are left
abbrev pub comes_to : List Event → Reader → List ℕ → Bool → Loose
comes_to events reader more ended =
    with_left (plan_of reader.rows) reader.lateness (reading_of events reader) (with_more reader.cutter more ended)

-- what is read behind these events where no more bytes come
abbrev pub ends_as : List Event → Reader → Loose
ends_as events reader = with_left (plan_of reader.rows) reader.lateness (reading_of events reader) reader.cutter

-- one reader gave these events more, and leads where the other does
pub record LeadsAs (given : List Event) (old new : Reader) : Type 0 where
  pub plan : plan_of new.rows ≡ plan_of old.rows
  pub lateness : new.lateness ≡ old.lateness
  pub count : new.given ≡ old.given + length given
  pub latest : new.greatest ≡ fold with_time old.greatest given
  pub ended : new.cutter.ended ≡ old.cutter.ended
  pub coming : old.cutter.ended ≡ false → (before : List Event) → WereGiven before old
      → (more : List ℕ) (ended : Bool) → comes_to (before ++ given) new more ended ≡ comes_to before old more ended
  pub ends : (before : List Event) → WereGiven before old → ends_as (before ++ given) new ≡ ends_as before old

-- all rows that are there were taken
abbrev pub IsSettled : Reader → Type 0
IsSettled reader = rows_left reader.cutter ≡ []
