-- The matches of closed windows stay as events come.
use Rattle.std.proofs.Common.{◌≡◌, ℕ, zero, suc, ◌+◌, ◌-◌, ◌<◌, ◌≤◌, Bool, true, false, ◌&&◌, List, [], ◌∷◌, ◌++◌, length, map, Some, refl, sym, ap, ◌∙◌, subst, arith, append_assoc}
use Rattle.std.specs.Prelude.{filter, slice_get, nat_le}
use Rattle.std.specs.List.{enumerate_from}
use Rattle.std.proofs.lemmas.Bool.Decides.{nat_tests}
use Rattle.std.proofs.lemmas.List.{append-nil}
use Rattle.std.proofs.lemmas.List.Elements.{filter-append}
use Rattle.sp_plan.specs.declared.event.Event.{Event}
use Rattle.sp_plan.specs.declared.plan.Plan.{Plan}
use Rattle.sp_plan.specs.declared.found.Match.{Match}
use Rattle.sp_plan.specs.Runs.{matched_runs, state}
use Rattle.sp_plan.specs.Sequential.{Progress, match_of, after_window, visible, seq, Grows}
use Rattle.sp_plan.specs.Windows.{Numbered, numbered, Window, windows, closed, events_of, IsWindowed}
use Rattle.sp_plan.specs.WindowNumbers.{Good}
use Rattle.sp_window.specs.Openings.{opened}
use Rattle.sp_window.specs.Laws.{IsNumber, FinishedStay}
use Rattle.sp_window.proofs.Lists.{by_feeding}
use Rattle.sp_window.proofs.Feeding.{good_less}
use Rattle.sp_window.proofs.Lasts.{numbered_push, last_stays}
use Rattle.sp_window.proofs.Opened.{all_opened}
use Rattle.sp_window.proofs.Keeps.{closed_is}
use Rattle.sp_window.proofs.WindowsAre.{window_of}
use Rattle.sp_window.proofs.Numbers.{at_number, fed_at, number_test, last_high, shut_front, closed_come_first}

-- an event behind a window's last changes nothing of its events
same_events : (events : List Event) (e : Event) (x : Window) → x.last ≤ length events → events_of (events ++ e ∷ []) x ≡ events_of events x
same_events events e x low =
    let test : Numbered → Bool = λ y. nat_le x.first y.0 && nat_le y.0 x.last in
    let out : (nat_le x.first (length events + 1) && nat_le (length events + 1) x.last) ≡ false = past x.first x.last low in
    let none : filter test ((length events + 1, e) ∷ []) ≡ [] = rw out refl in
    ap (filter test) (numbered_push events e) ∙ filter-append test (numbered events) ((length events + 1, e) ∷ []) ∙ ap (λ (l : List Numbered). filter test (numbered events) ++ l) none ∙ append-nil (filter test (numbered events))
  where
    past : (a b : ℕ) → b ≤ length events → (nat_le a (length events + 1) && nat_le (length events + 1) b) ≡ false
    past a b low = grind (arith, nat_tests)

module _ (q : Plan) (limits : IsWindowed q) where
  -- what is visible of a closed window stays
  same_visible : (events : List Event) (e : Event) (n : ℕ) (consumed : List ℕ) → Good q (events ++ e ∷ []) → n < closed q events false
      → visible (events ++ e ∷ []) consumed (slice_get (windows q (events ++ e ∷ []) false) n) ≡ visible events consumed (slice_get (windows q events false) n)
  same_visible events e n consumed good low =
      let fed = good_less q events e good in
      let most = (closed_come_first q limits).within events false fed.before in
      let w = n + 1 in
      let number : IsNumber q events w = record { good = fed.before; low = omega arith; high = omega arith } in
      let at = at_number q limits events w number in
      let back : w - 1 ≡ n = omega arith in
      let was : slice_get (windows q events false) n ≡ Some (window_of events false at.r) =
      ap (slice_get (windows q events false)) (sym back) ∙ sym (number_test q events false w (omega arith)) ∙ at.is false in
      let now : slice_get (windows q (events ++ e ∷ []) false) n ≡ Some (window_of (events ++ e ∷ []) false at.r) =
      ap (slice_get (windows q (events ++ e ∷ []) false)) (sym back) ∙ sym (number_test q (events ++ e ∷ []) false w (omega arith)) ∙ fed_at q limits events e w good (omega arith) at false in
      let counted = closed_is q limits events false fed.before in
      let shut = (shut_front events false (opened q events) (w - 1) at.r (all_opened q limits events fed.before).in_order at.opened_as).1 (omega arith) in
      let last = last_stays events e at.r fed.rises shut in
      let high = last_high q events w at in
      let y = window_of (events ++ e ∷ []) false at.r in
      let events_same : events_of (events ++ e ∷ []) y ≡ events_of events (window_of events false at.r) =
      same_events events e y (omega arith) ∙ ap (λ (n : ℕ). filter (λ (x : Numbered). nat_le at.r.first x.0 && nat_le x.0 n) (numbered events)) last in
      ap (visible (events ++ e ∷ []) consumed) now ∙ ap (filter _) events_same ∙ sym (ap (visible events consumed) was)

  -- what the closed windows gave stays
  same_progress : (events : List Event) (e : Event) (n : ℕ) → Good q (events ++ e ∷ []) → n ≤ closed q events false → seq q (events ++ e ∷ []) n ≡ seq q events n
  same_progress events e zero good low = refl
  same_progress events e (suc n) good low =
      let before = same_progress events e n good (omega arith) in
      let seen = same_visible events e n (seq q events n).consumed good (omega arith) in
      ap (λ (p : Progress). after_window q (suc n) p (matched_runs (state q (visible (events ++ e ∷ []) p.consumed (slice_get (windows q (events ++ e ∷ []) false) n))))) before
      ∙ ap (λ (l : List Numbered). after_window q (suc n) (seq q events n) (matched_runs (state q l))) seen

  -- and so with any number of events more
  pub record Stays (events more : List Event) : Type 0 where
    pub progress : (n : ℕ) → n ≤ closed q events false → seq q (events ++ more) n ≡ seq q events n
    pub count : closed q events false ≤ closed q (events ++ more) false

  -- what the closed windows of events gave stays, whatever comes
  stays : (events more : List Event) → Good q (events ++ more) → Stays events more
  stays events = by_feeding (λ l. Good q (events ++ l) → Stays events l) (λ good. none good) (λ l e before good. one l e before good)
    where
      none : Good q (events ++ []) → Stays events []
      none good = record {
        progress = λ n low. ap (λ (l : List Event). seq q l n) (append-nil events);
        count = let same = ap (λ (l : List Event). closed q l false) (append-nil events) in omega arith;
      }

      one : (l : List Event) (e : Event) → (Good q (events ++ l) → Stays events l) → Good q (events ++ (l ++ e ∷ [])) → Stays events (l ++ e ∷ [])
      one l e before good =
          let at : (events ++ l) ++ e ∷ [] ≡ events ++ (l ++ e ∷ []) = append_assoc events l (e ∷ []) in
          let here : Good q ((events ++ l) ++ e ∷ []) = subst (Good q) (sym at) good in
          let fed = good_less q (events ++ l) e here in
          let kept = before fed.before in
          let more = (closed_come_first q limits).closed_fed (events ++ l) e here in
          let low' = kept.count in
          record {
            progress = λ n low. ap (λ (l : List Event). seq q l n) (sym at) ∙ same_progress (events ++ l) e n here (omega arith) ∙ kept.progress n low;
            count = let same = ap (λ (l : List Event). closed q l false) at in omega arith;
          }

  -- later windows add matches behind
  later : (events : List Event) (c k : ℕ) → (more : List Match) × ((seq q events (c + k)).matches ≡ (seq q events c).matches ++ more)
  later events c zero = let same : c + 0 ≡ c = omega arith in ([], ap (λ (n : ℕ). (seq q events n).matches) same ∙ sym (append-nil (seq q events c).matches))
  later events c (suc k) =
      let same : c + suc k ≡ suc (c + k) = omega arith in
      let rest = later events c k in
      let prev = seq q events (c + k) in
      let runs = matched_runs (state q (visible events prev.consumed (slice_get (windows q events false) (c + k)))) in
      let new : List Match = map (match_of q (suc (c + k))) (enumerate_from (length prev.matches + 1) runs) in
      (rest.0 ++ new, ap (λ (n : ℕ). (seq q events n).matches) same ∙ ap (λ (l : List Match). l ++ new) rest.1 ∙ append_assoc (seq q events c).matches rest.0 new)

-- the law of growth
pub grows : Grows
grows q events more ended limits fit order =
    let good : Good q (events ++ more) = (fit, order) in
    let kept = stays q limits events more good in
    let c = closed q events false in
    let d = closed q (events ++ more) ended in
    let high : c ≤ d = by ended good kept.count in
    let cut : d ≡ c + (d - c) = omega arith in
    let rest = later q limits (events ++ more) c (d - c) in
    (rest.0, ap (λ (n : ℕ). (seq q (events ++ more) n).matches) cut ∙ rest.1 ∙ ap (λ (p : Progress). p.matches ++ rest.0) (kept.progress c (omega arith)))
  where
    by : (b : Bool) → Good q (events ++ more) → closed q events false ≤ closed q (events ++ more) false → closed q events false ≤ closed q (events ++ more) b
    by false good low = low
    by true good low = let end = (closed_come_first q limits).closed_end (events ++ more) good in omega arith

-- the law of finished windows
pub finished_stay : (q : Plan) → IsWindowed q → FinishedStay q
finished_stay q limits = record {
  closed_more = λ events more good. (stays q limits events more good).count;
  progress = λ events more n good low. (stays q limits events more good).progress n low;
}
