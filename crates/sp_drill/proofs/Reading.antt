-- Tables read row by row.
use Rattle.std.proofs.Common.{◌≡◌, ◌<◌, ◌≤◌, ◌+◌, ◌==◌, ℕ, zero, suc, pos, true, false, Bool, List, [], ◌∷◌, ◌++◌, length, map, Option, Some, None, refl, sym, ◌∙◌, ap, subst, arith, fold}
use Rattle.std.specs.Prelude.{codes, if◌then◌else◌, is_some}
use Rattle.std.specs.List.{range_with_len}
use Rattle.std.proofs.lemmas.Bool.Decides.{nat_tests}
use Rattle.std.proofs.lemmas.List.{map_push, length_push}
use Rattle.std.proofs.lemmas.List.FromFn.{map-range_with_len_more}
use Rattle.sp_base.specs.Limits.{event_limit}
use Rattle.sp_plan.specs.declared.event.Event.{Event}
use Rattle.sp_plan.specs.declared.plan.Plan.{Plan}
use Rattle.sp_cut.specs.CutRows.{row, rows, rows_of_parts}
use Rattle.sp_rows.specs.Rows.{RowsRead}
use Rattle.sp_ports.specs.declared.stop.Failure.{Failure}
use Rattle.sp_ports.specs.declared.stop.Failure.TheVariants.{Limit}
use Rattle.sp_intake.specs.Reading.{Reading, start, stopped_by, with_event, with_result, with_row, take_row, read, stop_or, end_stop}
use Rattle.sp_gen.specs.Generated.{drawn, row_text, lines, generated}
use Rattle.sp_gen.specs.Plain.{LinesArePlain}
use Rattle.sp_drill.specs.Drill.{IsDrillSchema, IsReadThrough, GeneratedRowsAreRead}
use Rattle.sp_drill.proofs.Cutting.{lines_parts, lines_rows}
use Rattle.sp_drill.proofs.Rows.{row_gives, header_gives}

-- the header and so many rows were read
record Stands (n : ℕ) (r : Reading) : Type 0 where
  going : r.stopped ≡ None
  places : r.so_far.places ≡ Some (0 ∷ 1 ∷ 2 ∷ [])
  read : r.so_far.read ≡ n + 1
  last : r.so_far.last ≡ pos n
  count : length r.events ≡ n
  times : map (λ e. e.time) r.events ≡ map pos (range_with_len 1 n)

-- the header is read
header_stands : (q : Plan) → IsDrillSchema q → Stands 0 (take_row q (start q) (row (codes "at,sym,price,size")))
header_stands q has = subst (Stands 0) (sym (ap (with_result (start q)) (header_gives q has))) (record {
  going = refl;
  places = refl;
  read = refl;
  last = refl;
  count = refl;
  times = refl;
})

-- a reading with one event more
abbrev with_one : Reading → Event → RowsRead → Reading
with_one r e new = record r { so_far = new; events = r.events ++ e ∷ [] }

one_event : (r : Reading) (e : Event) (new : RowsRead) (n : ℕ) → Stands n r → n < event_limit → with_event r e new ≡ with_one r e new
one_event r e new n stands few =
    let more : (length r.events == event_limit) ≡ false = let count = stands.count in grind (arith, nat_tests, count, few) in
    ap (λ (full : Bool). if full then record r { so_far = new; stopped = Some (Limit event_limit) } else with_one r e new) more

-- a row of a table gives one event more
row_read : (q : Plan) (r : Reading) (n x : ℕ) → IsDrillSchema q → Stands n r → n < event_limit → Stands (n + 1) (take_row q r (row (row_text (n + 1) x)))
row_read q r n x has stands few =
    let gives = row_gives q r.so_far (n + 1) n x has stands.places stands.last (omega arith) (omega arith) in
    let within : (r.so_far.read == 2097152) ≡ false = let read = stands.read in grind (arith, nat_tests, read, few) in
    let is : take_row q r (row (row_text (n + 1) x)) ≡ with_one r gives.event_given gives.new =
    ap (λ (o : Option Failure). if is_some o then r else if r.so_far.read == 2097152 then stopped_by r (Limit 2097152) else with_row q r (row (row_text (n + 1) x))) stands.going
    ∙ ap (λ (full : Bool). if full then stopped_by r (Limit 2097152) else with_row q r (row (row_text (n + 1) x))) within
    ∙ ap (with_result r) gives.is
    ∙ one_event r gives.event_given gives.new n stands few in
    subst (Stands (n + 1)) (sym is) (record {
      going = stands.going;
      places = gives.places ∙ stands.places;
      read = gives.read ∙ ap (λ (m : ℕ). m + 1) stands.read;
      last = gives.last;
      count = length_push r.events gives.event_given ∙ ap (λ (m : ℕ). m + 1) stands.count;
      times =
          map_push (λ (e : Event). e.time) r.events gives.event_given
          ∙ (λ i. stands.times i ++ gives.time i ∷ [])
          ∙ sym (map-range_with_len_more pos 1 n (n + 1) (omega arith));
    })

-- the row of an event
abbrev row_of : ℕ → ℕ → List ℕ
row_of seed event = row_text event (drawn seed event)

-- rows are read one after another
rows_read : (q : Plan) (seed n count : ℕ) (r : Reading) → IsDrillSchema q → Stands n r → n + count ≤ event_limit
    → Stands (n + count) (fold (take_row q) r (map row (map (row_of seed) (range_with_len (n + 1) count))))
rows_read q seed n zero r has stands few = subst (λ (m : ℕ). Stands m r) (omega arith) stands
rows_read q seed n (suc count) r has stands few =
    let next = take_row q r (row (row_of seed (n + 1))) in
    let all = rows_read q seed (n + 1) count next has (row_read q r n (drawn seed (n + 1)) has stands (omega arith)) (omega arith) in
    subst (λ (m : ℕ). Stands m (fold (take_row q) next (map row (map (row_of seed) (range_with_len (n + 1 + 1) count))))) (omega arith) all

-- the rows of a table are its lines
table_rows : LinesArePlain → (events seed : ℕ) → events ≤ event_limit → rows (generated events seed) true ≡ map row (lines events seed)
table_rows plain events seed few =
    let each = plain events seed (omega arith) in
    ap (rows_of_parts true) (lines_parts (lines events seed) each [] refl) ∙ lines_rows (lines events seed) each

-- tables are read through
pub tables_are_read : LinesArePlain → GeneratedRowsAreRead
tables_are_read plain q events seed has few =
    let stands = rows_read q seed 0 events (take_row q (start q) (row (codes "at,sym,price,size"))) has (header_stands q has) (omega arith) in
    let same : read q (generated events seed) true ≡ fold (take_row q) (start q) (map row (lines events seed)) = ap (fold (take_row q) (start q)) (table_rows plain events seed few) in
    subst (IsReadThrough events) (sym same) (through stands)
  where
    through : {r : Reading} → Stands (0 + events) r → IsReadThrough events r
    through {r} stands = record {
      stop = ap (stop_or r true) stands.going ∙ ap end_stop stands.places;
      count = stands.count ∙ omega arith;
      times = stands.times ∙ ap (λ (m : ℕ). map pos (range_with_len 1 m)) (omega arith);
    }
