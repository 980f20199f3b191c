-- The matches that come behind others, and which of their runs used an event.
use Rattle.std.proofs.Common.{◌≡◌, ℕ, zero, suc, ◌+◌, ◌≤◌, Bool, true, false, cond, not, ◌&&◌, ◌||◌, ◌==◌, List, [], ◌∷◌, ◌++◌, length, filter, map, refl, sym, ap, ◌∙◌, arith}
use Rattle.std.specs.List.{flat_map}
use Rattle.std.proofs.lemmas.List.{append-nil, length-append, map-append}
use Rattle.std.proofs.lemmas.List.Concat.{flat_map-append}
use Rattle.std.proofs.lemmas.List.Elements.{filter-append}
use Rattle.sp_base.specs.Numbers.{is_among}
use Rattle.sp_plan.specs.declared.plan.Plan.{Plan}
use Rattle.sp_plan.specs.Runs.{Run, Started, State, used}
use Rattle.sp_plan.specs.Moves.{is_run, pairs_of}
use Rattle.sp_match.specs.public.Laws.{Sound, Leads}
use Rattle.sp_group.specs.Rising.{has_number}
use Rattle.sp_group.specs.Machine.{Version, Ticket, Machine, inner, is_spent, is_suppressed}
use Rattle.sp_rules.specs.Lawful.{Lawful}
use Rattle.sp_rules.specs.Returning.{read_to}
use Rattle.sp_rules.specs.ComingHome.{IsComingHome, come_home}
use Rattle.sp_rules.specs.ByGroups.{using_runs, AddsMatches}
use Rattle.sp_rules.proofs.Facts.{facts}
use Rattle.sp_rules.proofs.Home.{home_goes}
use Rattle.sp_rules.proofs.ByGroups.{inner_sound, lent_so_far}

no_such_pairs : (runs : List Started) (r : ℕ) → length (filter (is_run r) runs) ≡ 0 → pairs_of runs r ≡ []
no_such_pairs runs r none = one (filter (is_run r) runs) none
  where
    one : (found : List Started) → length found ≡ 0 → flat_map (λ (run : Started). run.1) found ≡ []
    one [] none = refl
    one (x ∷ found) none = absurd (omega (arith, none))

module _ (q : Plan) where
  -- among runs that have each number once, a number is one of those that used an event where its run did
  users_are : (runs : List Started) (r : ℕ) → length (filter (is_run r) runs) ≤ 1 → is_among (using_runs q runs) r ≡ has_number (used q (pairs_of runs r))
  users_are [] r once = refl
  users_are (x ∷ runs) r once = one (x.0 == r) refl once (users_are runs r)
    where
      left : List Started
      left = filter (λ (run : Started). has_number (used q run.1)) runs

      skip : (b : Bool) → (x.0 == r) ≡ false → is_among (map (λ (run : Started). run.0) (cond b (x ∷ left) left)) r ≡ is_among (using_runs q runs) r
      skip true is = ap (λ (a : Bool). a || is_among (using_runs q runs) r) is
      skip false is = refl

      here : (b : Bool) → (x.0 == r) ≡ true → is_among (using_runs q runs) r ≡ false → is_among (map (λ (run : Started). run.0) (cond b (x ∷ left) left)) r ≡ b
      here true is none = ap (λ (a : Bool). a || is_among (using_runs q runs) r) is
      here false is none = none

      one : (b : Bool) → (x.0 == r) ≡ b → length (cond b (x ∷ filter (is_run r) runs) (filter (is_run r) runs)) ≤ 1
          → (length (filter (is_run r) runs) ≤ 1 → is_among (using_runs q runs) r ≡ has_number (used q (pairs_of runs r)))
          → is_among (using_runs q (x ∷ runs)) r ≡ has_number (used q (flat_map (λ (run : Started). run.1) (cond b (x ∷ filter (is_run r) runs) (filter (is_run r) runs))))
      one true is once rest =
          let none : length (filter (is_run r) runs) ≡ 0 = omega (arith, once) in
          let bare : pairs_of runs r ≡ [] = no_such_pairs runs r none in
          here (has_number (used q x.1)) is (rest (omega (arith, none)) ∙ ap (λ (z : Run). has_number (used q z)) bare)
          ∙ ap (λ (z : Run). has_number (used q z)) (sym (append-nil x.1) ∙ ap (λ (z : Run). x.1 ++ z) (sym bare))
      one false is once rest = skip (has_number (used q x.1)) is ∙ rest once

  -- the matches that came later
  newly_are : (before later : List Started) (r : ℕ) → length (filter (is_run r) (before ++ later)) ≤ 1
      → (has_number (used q (pairs_of (before ++ later) r)) && not (has_number (used q (pairs_of before r)))) ≡ is_among (using_runs q later) r
  newly_are before later r once = one (length (filter (is_run r) before)) refl
    where
      parts : length (filter (is_run r) (before ++ later)) ≡ length (filter (is_run r) before) + length (filter (is_run r) later)
      parts = ap (λ (z : List Started). length z) (filter-append (is_run r) before later) ∙ length-append (filter (is_run r) before) (filter (is_run r) later)

      pairs : pairs_of (before ++ later) r ≡ pairs_of before r ++ pairs_of later r
      pairs = ap (flat_map (λ (run : Started). run.1)) (filter-append (is_run r) before later) ∙ flat_map-append (λ (run : Started). run.1) (filter (is_run r) before) (filter (is_run r) later)

      both : (a : Bool) → (a && true) ≡ a
      both true = refl
      both false = refl

      never : (a : Bool) → (a && not a) ≡ false
      never true = refl
      never false = refl

      one : (n : ℕ) → length (filter (is_run r) before) ≡ n → (has_number (used q (pairs_of (before ++ later) r)) && not (has_number (used q (pairs_of before r)))) ≡ is_among (using_runs q later) r
      one zero none =
          let bare : pairs_of before r ≡ [] = no_such_pairs before r none in
          ap (λ (z : Run). has_number (used q z) && not (has_number (used q (pairs_of before r)))) (pairs ∙ ap (λ (z : Run). z ++ pairs_of later r) bare)
          ∙ ap (λ (z : Run). has_number (used q (pairs_of later r)) && not (has_number (used q z))) bare
          ∙ both (has_number (used q (pairs_of later r)))
          ∙ sym (users_are later r (let p = parts in omega (arith, once, p, none)))
      one (suc n) some =
          let none : length (filter (is_run r) later) ≡ 0 = let p = parts in omega (arith, once, p, some) in
          let bare : pairs_of later r ≡ [] = no_such_pairs later r none in
          ap (λ (z : Run). has_number (used q z) && not (has_number (used q (pairs_of before r)))) (pairs ∙ ap (λ (z : Run). pairs_of before r ++ z) bare ∙ append-nil (pairs_of before r))
          ∙ never (has_number (used q (pairs_of before r)))
          ∙ sym (users_are later r (omega (arith, none)) ∙ ap (λ (z : Run). has_number (used q z)) bare)

  adds : (s t : State) → Sound t → Leads q s t → AddsMatches q s t
  adds s t sound leads =
      let later : List Started = leads.matched_stays.0 in
      let is : t.matched ≡ s.matched ++ leads.matched_stays.0 = leads.matched_stays.1 in
      record {
        later = later;
        matched = is;
        spent = λ r. ap (λ (z : List Started). has_number (used q (pairs_of z r)) && not (is_spent q s r)) is ∙ newly_are s.matched leads.matched_stays.0 r (once r);
        used = ap (λ (z : List Started). flat_map (used q) (map (λ (run : Started). run.1) z)) is
            ∙ ap (flat_map (used q)) (map-append (λ (run : Started). run.1) s.matched later)
            ∙ flat_map-append (used q) (map (λ (run : Started). run.1) s.matched) (map (λ (run : Started). run.1) later);
      }
    where
      once : (r : ℕ) → length (filter (is_run r) (s.matched ++ leads.matched_stays.0)) ≤ 1
      once r =
          let whole = sound.once r in
          let parts = ap (λ (z : List Started). length z) (filter-append (is_run r) t.open_runs t.matched) ∙ length-append (filter (is_run r) t.open_runs) (filter (is_run r) t.matched) in
          let same = ap (λ (z : List Started). length (filter (is_run r) z)) leads.matched_stays.1 in
          omega (arith, whole, parts, same)

  pub coming_home_adds : Lawful q → (m : Machine) (n : ℕ) (t : Ticket) (v : Version) (k : ℕ) (closed : Bool) → IsComingHome q m n t v k closed
      → AddsMatches q (inner q m.events v) (inner q m.events (come_home v t k closed))
  coming_home_adds law m n t v k closed comes =
      adds (inner q m.events v) (inner q m.events (come_home v t k closed)) (inner_sound q law m.events (come_home v t k closed))
      (home_goes q (facts q law) (Leads q) law.runs.readings.leads law.runs.readings.leads_to_closing m.events m.ended (is_suppressed q m t.version) v (read_to t k closed) (lent_so_far q law m n t v k closed comes))
