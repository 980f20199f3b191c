-- The proofs of a run tell what it matched and consumed.
use Rattle.std.proofs.Common.{◌≡◌, inl, inr, ℕ, zero, suc, ◌+◌, ◌-◌, ◌≤◌, Bool, true, false, ◌&&◌, ◌||◌, not, List, [], ◌∷◌, ◌++◌, length, map, drop, Option, Some, None, refl, sym, ap, ◌∙◌, subst, arith}
use Rattle.std.specs.Prelude.{filter, slice_get, nat_le}
use Rattle.std.specs.List.{All, flat_map, enumerate_from}
use Rattle.std.proofs.Math.Seq.{drop-append_seam}
use Rattle.std.proofs.lemmas.Bool.{cases_Bool}
use Rattle.std.proofs.lemmas.Bool.Decides.{nat_tests}
use Rattle.std.proofs.lemmas.List.{append-nil}
use Rattle.std.proofs.lemmas.List.Concat.{flat_map-append}
use Rattle.std.proofs.lemmas.List.FromFn.{map-range_with_len_more}
use Rattle.std.proofs.lemmas.List.Elements.{All-nil, All-cons, All-filter, All-weaker}
use Rattle.sp_base.specs.Numbers.{is_among}
use Rattle.sp_base.proofs.Rising.{has_append}
use Rattle.sp_plan.specs.declared.event.Event.{Event}
use Rattle.sp_plan.specs.declared.plan.Plan.{Plan}
use Rattle.sp_plan.specs.Windows.{Numbered, Window, numbered, windows, events_of, closed}
use Rattle.sp_plan.specs.WindowNumbers.{numbered_window, first_of}
use Rattle.sp_plan.specs.Runs.{Run, used, state, matched_runs}
use Rattle.sp_plan.specs.Sequential.{seq, match_of, visible}
use Rattle.sp_window.proofs.Numbers.{number_test}
use Rattle.sp_parts.proofs.Bounded.{matched_use}
use Rattle.sp_listing.specs.Listing.{Entry}
use Rattle.sp_cert.specs.Proofs.{last_of, used_by, own_matches, proof_of, first_proofs, matches_of, used_of}
use Rattle.sp_cert.specs.Laws.{TellTheRun}
use Rattle.sp_cert.proofs.Within.{among_all_within}

-- what the matches of runs use
uses : (q : Plan) (window first : ℕ) (runs : List Run) → used_by (map (match_of q window) (enumerate_from first runs)) ≡ flat_map (used q) runs
uses q window first [] = refl
uses q window first (run ∷ runs) = ap (λ l. used q run ++ l) (uses q window (first + 1) runs)

-- each item that passes a test passes it
passing : {X : Type 0} (p : X → Bool) (xs : List X) → All (λ x. p x ≡ true) (filter p xs)
passing p [] = All-nil (λ x. p x ≡ true)
passing p (x ∷ xs) = elim (cases_Bool (p x)) [ inl keeps ↦ rw keeps (All-cons (λ x. p x ≡ true) x (filter p xs) keeps (passing p xs)) | inr drops ↦ rw drops (passing p xs) ]

-- entries with one more
pub matches_more : (entries : List Entry) (entry : Entry) → matches_of (entries ++ entry ∷ []) ≡ matches_of entries ++ entry.matches
matches_more entries entry = flat_map-append (λ (e : Entry). e.matches) entries (entry ∷ []) ∙ ap (λ l. matches_of entries ++ l) (append-nil entry.matches)

pub used_more : (entries : List Entry) (entry : Entry) → used_of (entries ++ entry ∷ []) ≡ used_of entries ++ entry.used
used_more entries entry = flat_map-append (λ (e : Entry). e.used) entries (entry ∷ []) ∙ ap (λ l. used_of entries ++ l) (append-nil entry.used)

module _ (q : Plan) (events : List Event) where
  -- the runs that match in the window behind the first n
  abbrev pub runs_behind : ℕ → List Run
  runs_behind n = matched_runs (state q (visible events (seq q events n).consumed (slice_get (windows q events false) n)))

  -- the proofs of one window more
  pub proofs_more : (n : ℕ) → first_proofs q events (suc n) ≡ first_proofs q events n ++ proof_of q events (suc n) ∷ []
  proofs_more n =
      let one : n + 1 ≡ suc n = omega arith in
      ap (first_proofs q events) (sym one) ∙ map-range_with_len_more (proof_of q events) 1 n (suc n) (omega arith)

  -- the matches that a window adds are those of its runs
  pub own_are : (n : ℕ) → own_matches q events (suc n) ≡ map (match_of q (suc n)) (enumerate_from (length (seq q events n).matches + 1) (runs_behind n))
  own_are n =
      let at : suc n - 1 ≡ n = omega arith in
      let before = (seq q events n).matches in
      ap (λ (k : ℕ). drop (length (seq q events k).matches) (seq q events (suc n)).matches) at
      ∙ drop-append_seam before (map (match_of q (suc n)) (enumerate_from (length before + 1) (runs_behind n)))

  -- so the matches of the first n windows are those of their proofs
  pub matches_are : (n : ℕ) → matches_of (first_proofs q events n) ≡ (seq q events n).matches
  matches_are zero = refl
  matches_are (suc n) =
      ap matches_of (proofs_more n) ∙ matches_more (first_proofs q events n) (proof_of q events (suc n))
      ∙ (λ i. matches_are n i ++ own_are n i)

  -- a window's events lie between its first and its last
  visible_within : (consumed : List ℕ) (o : Option Window) → All (λ x. (first_of o ≤ x.0) × (x.0 ≤ last_of o)) (visible events consumed o)
  visible_within consumed None = All-nil (λ (x : Numbered). (0 ≤ x.0) × (x.0 ≤ 0))
  visible_within consumed (Some w) =
      let inside : Numbered → Bool = λ x. nat_le w.first x.0 && nat_le x.0 w.last in
      All-filter (λ x. not (is_among consumed x.0)) (λ x. (w.first ≤ x.0) × (x.0 ≤ w.last)) (events_of events w)
      (All-weaker (λ (x : Numbered). inside x ≡ true) (λ x. (w.first ≤ x.0) × (x.0 ≤ w.last)) (λ x its. (grind (arith, nat_tests), grind (arith, nat_tests))) (events_of events w) (passing inside (numbered events)))

  -- and so do the numbers that it uses
  pub uses_within : (n : ℕ) → (let o = numbered_window q events false (suc n) in All (λ k. (first_of o ≤ k) × (k ≤ last_of o)) (used_by (own_matches q events (suc n))))
  uses_within n =
      let at : suc n - 1 ≡ n = omega arith in
      let o = numbered_window q events false (suc n) in
      let here : slice_get (windows q events false) n ≡ o = sym (number_test q events false (suc n) (omega arith) ∙ ap (slice_get (windows q events false)) at) in
      let P : ℕ → Type 0 = λ k. (first_of o ≤ k) × (k ≤ last_of o) in
      let seen = visible events (seq q events n).consumed (slice_get (windows q events false) n) in
      let all : All (λ x. P x.0) seen = subst (λ (w : Option Window). All (λ x. P x.0) (visible events (seq q events n).consumed w)) (sym here) (visible_within (seq q events n).consumed o) in
      subst (All P) (sym (ap used_by (own_are n) ∙ uses q (suc n) (length (seq q events n).matches + 1) (runs_behind n))) (matched_use P q seen all)

  -- what the first n windows consumed is what their proofs tell as used
  pub used_are : (n k : ℕ) → is_among (used_of (first_proofs q events n)) k ≡ is_among (seq q events n).consumed k
  used_are zero k = refl
  used_are (suc n) k =
      let o = numbered_window q events false (suc n) in
      let proof = proof_of q events (suc n) in
      let own = used_by (own_matches q events (suc n)) in
      let own_is : own ≡ flat_map (used q) (runs_behind n) = ap used_by (own_are n) ∙ uses q (suc n) (length (seq q events n).matches + 1) (runs_behind n) in
      ap (λ l. is_among (used_of l) k) (proofs_more n) ∙ ap (λ l. is_among l k) (used_more (first_proofs q events n) proof) ∙ has_append (used_of (first_proofs q events n)) proof.used k
      ∙ (λ i. used_are n k i || among_all_within (first_of o) (last_of o) k own (uses_within n) i)
      ∙ sym (has_append (seq q events n).consumed own k) ∙ ap (λ l. is_among ((seq q events n).consumed ++ l) k) own_is

-- the law of what the proofs of a run tell
pub tell_the_run : (q : Plan) → TellTheRun q
tell_the_run q = record { matches_are = λ events ended. matches_are q events (closed q events ended); used_are = used_are q }
