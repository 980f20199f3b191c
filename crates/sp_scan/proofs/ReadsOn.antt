-- The reading of one number more.
use Rattle.std.proofs.Common.{◌≡◌, ℕ, suc, ◌+◌, ◌-◌, ◌<◌, ◌≤◌, Bool, true, false, List, [], ◌∷◌, Some, map, length, get_or, refl, sym, ap, subst, ◌∙◌, arith}
use Rattle.std.specs.Prelude.{slice_get, if◌then◌else◌}
use Rattle.std.specs.List.{All}
use Rattle.std.proofs.lemmas.Option.{slice_get-get_or}
use Rattle.std.proofs.lemmas.List.Elements.{All-nil, All-weaker}
use Rattle.sp_base.specs.Numbers.{is_among}
use Rattle.sp_plan.specs.declared.event.Event.{Event}
use Rattle.sp_plan.specs.declared.plan.Plan.{Plan}
use Rattle.sp_plan.specs.Reading.{after_event, event_of, read_one, reading}
use Rattle.sp_plan.specs.Runs.{Started, State, fresh, handle, matched_runs}
use Rattle.sp_scan.specs.declared.runs.Runs.{Runs}
use Rattle.sp_scan.specs.Scanning.{found_of, scanned_of}
use Rattle.sp_scan.specs.inside.Ahead.{IsReady}
use Rattle.sp_scan.specs.inside.Shown.{ShowsRuns, all_found, all_pairs}
use Rattle.sp_scan.proofs.TurnsShow.{ready_later}

-- the runs when the numbers were read that belong to places below this one
abbrev pub read_to : Plan → List Event → List ℕ → ℕ → ℕ → State
read_to q events skipped first place = reading q events skipped first (place - (first - 1))

module _ (q : Plan) (events : List Event) (skipped : List ℕ) (first place : ℕ) (low : 1 ≤ first) (from : first - 1 ≤ place) where
  one_more : read_to q events skipped first (place + 1) ≡ read_one q events skipped (read_to q events skipped first place) (place + 1)
  one_more =
      let more : place + 1 - (first - 1) ≡ suc (place - (first - 1)) = omega arith in
      let number : first + (place - (first - 1)) ≡ place + 1 = omega arith in
      ap (reading q events skipped first) more ∙ ap (read_one q events skipped (read_to q events skipped first place)) number

  pub read_skipped : is_among skipped (place + 1) ≡ true → read_to q events skipped first (place + 1) ≡ read_to q events skipped first place
  read_skipped skips = one_more ∙ ap (λ (b : Bool). if b then read_to q events skipped first place else after_event q (read_to q events skipped first place) (place + 1) (event_of events (place + 1))) skips

  pub read_handled : (d : Event) → place < length events → is_among skipped (place + 1) ≡ false → read_to q events skipped first (place + 1) ≡ handle q (read_to q events skipped first place) (place + 1, get_or events place d)
  read_handled d within reads =
      let at : place + 1 - 1 ≡ place = omega arith in
      let there : event_of events (place + 1) ≡ Some (get_or events place d) = ap (slice_get events) at ∙ slice_get-get_or events place d within in
      one_more ∙ ap (λ (b : Bool). if b then read_to q events skipped first place else after_event q (read_to q events skipped first place) (place + 1) (event_of events (place + 1))) reads
      ∙ ap (after_event q (read_to q events skipped first place) (place + 1)) there

-- runs that are ready for an event are so for a later one
pub shows_later : (q : Plan) (n : ℕ) (s : State) (runs : Runs) → ShowsRuns q n s runs → ShowsRuns q (n + 1) s runs
shows_later q n s runs shown = record {
  open_are = shown.open_are;
  ready = All-weaker (IsReady q n) (IsReady q (n + 1)) (ready_later q n) runs.open_runs.items shown.ready;
  found_are = shown.found_are;
}

pub found_matched : (q : Plan) (runs : List Started) → all_found q runs ≡ map (found_of q) (map (λ run. run.1) runs)
found_matched q [] = refl
found_matched q (run ∷ runs) = λ i. found_of q run.1 ∷ found_matched q runs i

-- What the scan keeps, before the event at a place.
pub record Scanning (q : Plan) (events : List Event) (skipped : List ℕ) (first last place : ℕ) (runs : Runs) : Type 0 where
  pub shown : ShowsRuns q (place + 1) (read_to q events skipped first place) runs
  pub bounded : place - (first - 1) ≤ last + 1 - first

-- at first, and at last
pub scanning_from : (q : Plan) (events : List Event) (skipped : List ℕ) (first last : ℕ) (runs : Runs) → runs.open_runs.items ≡ [] → runs.found.items ≡ [] → Scanning q events skipped first last (first - 1) runs
scanning_from q events skipped first last runs none nothing =
    let at : first - 1 - (first - 1) ≡ 0 = omega arith in
    let start : read_to q events skipped first (first - 1) ≡ fresh = ap (reading q events skipped first) at in
    let next = first - 1 + 1 in
    record {
      shown = subst (λ (s : State). ShowsRuns q next s runs) (sym start) (record { open_are = ap all_pairs none; ready = subst (All (IsReady q next)) (sym none) (All-nil (IsReady q next)); found_are = nothing });
      bounded = omega arith;
    }

pub scanned_to : (q : Plan) (events : List Event) (skipped : List ℕ) (first last place : ℕ) (runs : Runs) → 1 ≤ first → Scanning q events skipped first last place runs → last ≤ place → runs.found.items ≡ scanned_of q events first last skipped
scanned_to q events skipped first last place runs low scanning done =
    let all : place - (first - 1) ≡ last + 1 - first = omega (arith, scanning.bounded, low) in
    scanning.shown.found_are ∙ found_matched q (read_to q events skipped first place).matched ∙ ap (λ (n : ℕ). map (found_of q) (matched_runs (reading q events skipped first n))) all
