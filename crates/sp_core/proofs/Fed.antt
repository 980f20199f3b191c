-- One event more: it is fed in order, and versions hold what they held.
use Rattle.std.proofs.Common.{◌≡◌, ℕ, suc, ◌≤◌, ℤ, pos, ◌≤ℤ◌, Bool, true, false, ◌&&◌, ◌==◌, cond, List, [], ◌∷◌, ◌++◌, map, length, Some, refl, sym, ap, subst, ◌∙◌, arith}
use Rattle.std.specs.Prelude.{int_le, unsigned_abs}
use Rattle.std.specs.List.{All, last_or, list_all, zip}
use Rattle.std.proofs.lemmas.Int.{ints}
use Rattle.std.proofs.lemmas.List.Elements.{All-head, All-tail}
use Rattle.sp_base.specs.Limits.{number_limit}
use Rattle.sp_base.specs.Numbers.{with_numbers}
use Rattle.sp_plan.specs.declared.event.Event.{Event}
use Rattle.sp_plan.specs.declared.plan.Plan.{Plan}
use Rattle.sp_plan.specs.Events.{fits, fits_column}
use Rattle.sp_plan.specs.Groups.{used_by_all}
use Rattle.sp_plan.specs.Runs.{State, after_closing}
use Rattle.sp_plan.specs.Reading.{reading}
use Rattle.sp_plan.specs.WindowNumbers.{Good, count, first, size}
use Rattle.sp_window.specs.Laws.{IsNumber}
use Rattle.sp_window.specs.Times.{stamp_or_zero, last_stamp}
use Rattle.sp_match.specs.public.Matching.{Stands}
use Rattle.sp_version.specs.declared.version.Version.{Version}
use Rattle.sp_group.specs.Machine as machine
use Rattle.sp_group.specs.Machine.{Ticket, inner, is_group}
use Rattle.sp_tree.specs.Grown.{Entry}
use Rattle.sp_rules.specs.Lawful.{Lawful}
use Rattle.sp_rules.specs.Kept.{Local}
use Rattle.sp_rules.specs.Schedules.{Reached}
use Rattle.sp_core.specs.Holding.{Holding, Holds, IsCore, machine_of, version_of, unnumbered}
use Rattle.sp_core.specs.Carrying.{ticket_of}
use Rattle.sp_core.proofs.Entries.{all_found, found_of_all, local}

-- what holds of all events holds of the last one
last_of : (P : Event → Type 0) (events : List Event) (e : Event) → All P (events ++ e ∷ []) → P e
last_of P [] e all = All-head P e [] all
last_of P (x ∷ events) e all = last_of P events e (All-tail P x (events ++ e ∷ []) all)

-- the last event of good ones fits the plan
pub fits_last : (q : Plan) (events : List Event) (e : Event) → Good q (events ++ e ∷ []) → fits q e ≡ true
fits_last q events e good = last_of (λ x. fits q x ≡ true) events e good.0

third : (a b c d : Bool) → (a && b && c && d) ≡ true → c ≡ true
third true true true d is = refl
third true true false d is = absurd (cc is)
third true false c d is = absurd (cc is)
third false b c d is = absurd (cc is)

-- the time of an event that fits is 0 or later
not_before : (q : Plan) (e : Event) → fits q e ≡ true → pos 0 ≤ℤ e.time
not_before q e fit =
    let low : int_le (pos 0) e.time ≡ true = third (length q.schema.columns == length e.values) (list_all fits_column (zip q.schema.columns e.values)) (int_le (pos 0) e.time) (int_le e.time (pos number_limit)) fit in
    grind (arith, ints)

at_stamp : (s t : ℤ) → pos 0 ≤ℤ s → s ≤ℤ t → pos (unsigned_abs s) ≤ℤ t
at_stamp s t low le = omega (arith, ints)

behind_first : (q : Plan) (x : Event) (events : List Event) (e : Event) → Good q ((x ∷ events) ++ e ∷ []) → pos (stamp_or_zero (last_or (Some x) events)) ≤ℤ e.time
behind_first q x [] e good = at_stamp x.time e.time (not_before q x (All-head (λ y. fits q y ≡ true) x (e ∷ []) good.0)) (good.1 0 1 x e (omega arith) refl refl)
behind_first q x (y ∷ events) e good =
    behind_first q y events e (All-tail (λ z. fits q z ≡ true) x (y ∷ events ++ e ∷ []) good.0, λ i j z w le at there. good.1 (suc i) (suc j) z w (omega arith) at there)

-- the last event of good ones is not before the others
pub in_order : (q : Plan) (events : List Event) (e : Event) → Good q (events ++ e ∷ []) → pos (last_stamp events) ≤ℤ e.time
in_order q [] e good = not_before q e (fits_last q [] e good)
in_order q (x ∷ events) e good = behind_first q x events e good

-- the runs of a version are those over what it has read
inner_fed : (q : Plan) → Lawful q → (events : List Event) (e : Event) (v : machine.Version) → Good q (events ++ e ∷ []) → 1 ≤ v.window → v.window ≤ count q events
    → v.position ≤ size q events v.window → inner q (events ++ e ∷ []) v ≡ inner q events v
inner_fed q law events e v good low high few =
    let number : IsNumber q events v.window = record { good = law.windows.good_events.less events e good; low = low; high = high } in
    let from = law.windows.hold_events.low events v.window number in
    let within = law.windows.hold_events.within events v.window number in
    let begins = law.windows.kept_by_feeding.first_fed events e v.window good low high in
    let reads = law.runs.events_by_number.more_behind q events (e ∷ []) v.skipped (first q events v.window) v.position from (omega arith) in
    ap (λ (n : ℕ). cond v.done (after_closing (reading q (events ++ e ∷ []) v.skipped n v.position)) (reading q (events ++ e ∷ []) v.skipped n v.position)) begins
    ∙ ap (λ (s : State). cond v.done (after_closing s) s) reads

-- a version holds what it held
holds_fed : (q : Plan) → Lawful q → (events : List Event) (e : Event) (ended : Bool) (tickets : List Ticket) (suppressed : ℕ → Bool) (entry : Entry Version) → Good q (events ++ e ∷ [])
    → Local q events ended tickets suppressed (version_of entry) → Holds q events tickets entry → Holds q (events ++ e ∷ []) tickets entry
holds_fed q law events e ended tickets suppressed entry good here holds =
    let same : inner q (events ++ e ∷ []) (version_of entry) ≡ inner q events (version_of entry) =
    inner_fed q law events e (version_of entry) good here.there.0 here.there.1 here.reads in
    record {
      first = holds.first ∙ sym (law.windows.kept_by_feeding.first_fed events e entry.value.window good here.there.0 here.there.1);
      plan = holds.plan;
      stands = subst (λ (s : State). Stands entry.value.matcher s) (sym same) holds.stands;
      matches = holds.matches ∙ ap (unnumbered q entry.value.window) (sym same);
      copies = holds.copies ∙ ap (unnumbered q entry.value.window) (sym same);
      used = holds.used ∙ ap (λ (s : State). with_numbers [] (used_by_all q s)) (sym same);
      out = holds.out;
      groups = λ r. holds.groups r ∙ ap (λ (s : State). is_group q s r) (sym same);
      rising = holds.rising;
    }

-- all versions hold what they held
pub all_hold_fed : (h : Holding) (e : Event) → Lawful h.plan → Good h.plan (h.events ++ e ∷ []) → IsCore h → Reached h.plan h.tree.bound (machine_of h)
    → All (Holds h.plan (h.events ++ e ∷ []) (map ticket_of h.tickets)) h.tree.entries
all_hold_fed h e law good core reached =
    let tickets = map ticket_of h.tickets in
    all_found (Holds h.plan (h.events ++ e ∷ []) tickets) h.tree.next h.tree.entries core.grown.fall
    (λ id entry at. holds_fed h.plan law h.events e h.ended tickets _ entry good (local h reached id entry at)
    (found_of_all (Holds h.plan h.events tickets) h.tree.entries id entry core.versions at))
