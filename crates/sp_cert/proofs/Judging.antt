-- Where a listing is first wrong, by what its two halves come to.
use Rattle.std.proofs.Common.{◌≡◌, inl, inr, ℕ, zero, suc, ◌+◌, ◌-◌, ◌*◌, ◌^◌, ◌<◌, ◌≤◌, Bool, List, [], ◌∷◌, length, map, take, Some, refl, sym, ap, ◌∙◌, subst, arith, length-take}
use Rattle.std.specs.Prelude.{slice_get}
use Rattle.std.specs.List.{All}
use Rattle.std.proofs.lemmas.Bool.{cases_lt}
use Rattle.std.proofs.lemmas.List.{take_all, take-map, take-take, length-map}
use Rattle.std.proofs.lemmas.List.Elements.{All-map, All-weaker}
use Rattle.std.proofs.lemmas.List.FromFn.{length-map-range_with_len}
use Rattle.std.proofs.lemmas.Option.{slice_get_within}
use Rattle.sp_base.specs.Limits.{event_limit}
use Rattle.sp_plan.specs.declared.event.Event.{Event}
use Rattle.sp_plan.specs.declared.plan.Plan.{Plan}
use Rattle.sp_plan.specs.Windows.{closed, IsWindowed}
use Rattle.sp_plan.specs.WindowNumbers.{Good}
use Rattle.sp_window.specs.Laws.{IsNumber}
use Rattle.sp_window.proofs.Lists.{all_at, get_there}
use Rattle.sp_window.proofs.Numbers.{windows_hold, windows_are_few}
use Rattle.sp_listing.specs.declared.proof.WindowProof.{WindowProof}
use Rattle.sp_listing.specs.Listing.{Entry, seen}
use Rattle.sp_cert.specs.Proofs.{proof_of, first_proofs, proofs}
use Rattle.sp_cert.specs.Checking.{StandsAlone, FollowsOn, FollowTo, AreRight, LiesWithin}
use Rattle.sp_cert.specs.Leading.{IsLeading}
use Rattle.sp_cert.specs.Verdicts.{AgreeTo, DiffersFirst}
use Rattle.sp_cert.proofs.Right.{closed_few, front_is, get_proof, one_right, right_are_proofs}

-- the first items keep their places
got_taken : {X : Type 0} (n : ℕ) (xs : List X) (k : ℕ) → k < n → slice_get (take n xs) k ≡ slice_get xs k
got_taken zero xs k low = absurd (omega arith)
got_taken (suc n) [] k low = refl
got_taken (suc n) (x ∷ xs) zero low = refl
got_taken (suc n) (x ∷ xs) (suc k) low = got_taken n xs k (omega arith)

-- what is seen at a place stands there
unseen : (ps : List WindowProof) (k : ℕ) (e : Entry) → slice_get (map seen ps) k ≡ Some e → (p : WindowProof) × (slice_get ps k ≡ Some p) × (seen p ≡ e)
unseen [] k e is = absurd (cc is)
unseen (p ∷ ps) zero e is = (p, refl, cc is)
unseen (p ∷ ps) (suc k) e is = unseen ps k e is

-- where the windows in a row end, by another name for how many are closed
pub stops_by : (shut count : ℕ) (ps : List WindowProof) (row : ℕ) → shut ≡ count → ((p : WindowProof) → slice_get ps row ≡ Some p → ¬ ((p.window ≤ shut) × (p.window ≡ row + 1)))
    → (p : WindowProof) → slice_get ps row ≡ Some p → ¬ ((p.window ≤ count) × (p.window ≡ row + 1))
stops_by shut count ps row same stops = subst (λ m. (p : WindowProof) → slice_get ps row ≡ Some p → ¬ ((p.window ≤ m) × (p.window ≡ row + 1))) same stops

module _ (q : Plan) (limits : IsWindowed q) (events : List Event) (good : Good q events) (ended : Bool) where
  -- an entry that is right by itself has some of the events
  pub lies : (entry : Entry) → StandsAlone q events ended entry → LiesWithin (length events) entry
  lies entry alone =
      let few = closed_few q limits events good ended in
      let high = alone.closed_is in
      let number : IsNumber q events entry.window = record { good = good; low = alone.low; high = omega arith } in
      let hold = windows_hold q limits in
      let low = hold.low events entry.window number in
      let some = hold.some events entry.window number in
      let inside = hold.within events entry.window number in
      let first_is = alone.first_is in
      let last_is = alone.last_is in
      record { low = omega arith; some = omega arith; within = omega arith }

  pub all_lie : (ps : List WindowProof) → All (λ p. StandsAlone q events ended (seen p)) ps → All (λ p. LiesWithin (length events) (seen p)) ps
  all_lie ps all = All-weaker (λ p. StandsAlone q events ended (seen p)) (λ p. LiesWithin (length events) (seen p)) (λ p alone. lies (seen p) alone) ps all

  -- the number of an entry fits 32 bits
  pub few_closed : length events ≤ event_limit → closed q events ended ≤ 64 * event_limit
  few_closed most = let few = closed_few q limits events good ended in let all = windows_are_few q limits events good in omega arith

  pub length_proofs : length (proofs q events ended) ≡ closed q events ended
  length_proofs = length-map-range_with_len (proof_of q events) 1 (closed q events ended)

  module _ (ps : List WindowProof) (row alone n : ℕ) (row_within : row ≤ length ps)
      (row_stops : (p : WindowProof) → slice_get ps row ≡ Some p → ¬ ((p.window ≤ closed q events ended) × (p.window ≡ row + 1)))
      (alone_is : IsLeading (λ p. StandsAlone q events ended (seen p)) (take row ps) alone) (right_is : FollowTo (map seen (take alone (take row ps))) n) where
    abbrev es : List Entry
    es = map seen ps

    alone_low : alone ≤ row
    alone_low = let low = alone_is.within in let size = length-take row ps in omega arith

    -- those that are right by themselves
    front_are : map seen (take alone (take row ps)) ≡ take alone es
    front_are = ap (map seen) (take-take alone row ps alone_low) ∙ sym (take-map seen alone ps)

    follow : FollowTo (take alone es) n
    follow = subst (λ l. FollowTo l n) front_are right_is

    n_low : n ≤ alone
    n_low = let low = follow.within in let size = length-take alone es in omega arith

    n_within : n ≤ length es
    n_within = let a = n_low in let b = alone_low in let c = row_within in let size = length-map ps seen in omega arith

    all_alone : All (StandsAlone q events ended) (take alone es)
    all_alone = subst (All (StandsAlone q events ended)) front_are (All-map (StandsAlone q events ended) seen (take alone (take row ps)) alone_is.all)

    right : AreRight q events ended (take n es)
    right k entry at =
        let size = length-take n es in
        let below = slice_get_within (take n es) k entry at in
        let high = n_low in
        let low : k < n = omega arith in
        let here : slice_get es k ≡ Some entry = sym (got_taken n es k low) ∙ at in
        let there : slice_get (take alone es) k ≡ Some entry = got_taken alone es k (omega arith) ∙ here in
        let front : take k (take alone es) ≡ take k (take n es) = take-take k alone es (omega arith) ∙ sym (take-take k n es (omega arith)) in
        (all_at (StandsAlone q events ended) (take alone es) k entry all_alone there, subst (λ l. FollowsOn l entry) front (follow.all k entry low there))

    front : take n es ≡ take n (proofs q events ended)
    front =
        let size : length (take n es) ≡ n = let all = length-take n es in let within = n_within in omega arith in
        (right_are_proofs q limits events good ended (take n es)).0 right ∙ ap (λ k. take k (proofs q events ended)) size

    low : n ≤ closed q events ended
    low =
        let a = length-take n es in
        let b = length-take n (proofs q events ended) in
        let c = length_proofs in
        let d = ap length front in
        let e = n_within in
        omega arith

    stops : (entry : Entry) → slice_get es n ≡ Some entry → slice_get (proofs q events ended) n ≡ Some entry → ⊥
    stops entry at given =
        let below : n < closed q events ended = (let inside = slice_get_within (proofs q events ended) n entry given in let size = length_proofs in omega arith) in
        let same : Some (proof_of q events (suc n)) ≡ Some entry = sym (get_proof q limits events good ended (closed q events ended) n below) ∙ given in
        let is : proof_of q events (suc n) ≡ entry = cc same in
        let its = one_right q limits events good ended n below in
        let own : StandsAlone q events ended entry = subst (StandsAlone q events ended) is its.0 in
        let before : first_proofs q events n ≡ take n es = sym (front ∙ front_is q limits events good ended n low) in
        let follows : FollowsOn (take n es) entry = subst (λ l. FollowsOn l entry) before (subst (FollowsOn (first_proofs q events n)) is its.1) in
        let p = unseen ps n entry at in
        elim (cases_lt n alone) [
          | inl passed ↦ follow.stops entry (got_taken alone es n passed ∙ at) (subst (λ l. FollowsOn l entry) (sym (take-take n alone es n_low)) follows)
          | inr at_alone ↦ elim (cases_lt n row) [
            | inl in_row ↦
                let here : n ≡ alone = (let high = n_low in omega arith) in
                alone_is.stops p.0 (ap (slice_get (take row ps)) (sym here) ∙ got_taken row ps n in_row ∙ p.1) (subst (StandsAlone q events ended) (sym p.2) own)
            | inr at_row ↦
                let here : n ≡ row = (let high = n_low in let more = alone_low in omega arith) in
                let number : p.0.window ≡ entry.window = ap (λ (e : Entry). e.window) p.2 in
                let high = own.closed_is in
                let next : entry.window ≡ suc n = ap (λ (e : Entry). e.window) (sym is) in
                row_stops p.0 (ap (slice_get ps) (sym here) ∙ p.1) (omega arith, omega arith)
          ]
        ]

    -- what both halves come to
    pub judged : AgreeTo es (proofs q events ended) n
    judged = let size = length_proofs in record { within = n_within; low = omega (arith, low); front = front; stops = stops }

-- all are right and none is missing
pub all_agree : (entries right : List Entry) (n : ℕ) → AgreeTo entries right n → n ≡ length entries → n ≡ length right → entries ≡ right
all_agree entries right n agree all whole = sym (take_all n entries (omega arith)) ∙ agree.front ∙ take_all n right (omega arith)

-- where one is wrong, missing or too many the next one is the first such
pub next_differs : (entries right : List Entry) (n : ℕ) → AgreeTo entries right n → ¬ ((n ≡ length entries) × (n ≡ length right)) → DiffersFirst entries right (n + 1)
next_differs entries right n agree more =
    let back : n + 1 - 1 ≡ n = omega arith in
    record {
      low = omega arith;
      before = ap (λ k. take k entries) back ∙ agree.front ∙ ap (λ k. take k right) (sym back);
      differs = λ same. apart (sym (ap (slice_get entries) back) ∙ same ∙ ap (slice_get right) back);
    }
  where
    apart : slice_get entries n ≡ slice_get right n → ⊥
    apart same = elim (cases_lt n (length entries)) [
      | inl inside ↦ let x = get_there entries n inside in agree.stops x.0 x.1 (sym same ∙ x.1)
      | inr end ↦ elim (cases_lt n (length right)) [
        | inl missing ↦
            let y = get_there right n missing in
            let within = slice_get_within entries n y.0 (same ∙ y.1) in
            absurd (omega arith)
        | inr whole ↦ more (let a = agree.within in let b = agree.low in (omega arith, omega arith))
      ]
    ]

-- so the entries aren't the right ones
pub not_right : (entries truth : List Entry) (n : ℕ) → DiffersFirst entries truth n → ¬ (entries ≡ truth)
not_right entries truth n first same = first.differs (ap (λ l. slice_get l (n - 1)) same)

-- what is said of a listing whose first n entries are right
module _ (q : Plan) (limits : IsWindowed q) (events : List Event) (good : Good q events) (ended : Bool) (ps : List WindowProof) (n : ℕ) (agree : AgreeTo (map seen ps) (proofs q events ended) n) where
  pub yes_is : n ≡ length ps → n ≡ closed q events ended → map seen ps ≡ proofs q events ended
  yes_is all whole = let size = length-map ps seen in let count = length_proofs q limits events good ended in all_agree (map seen ps) (proofs q events ended) n agree (omega arith) (omega arith)

  pub no_is : ¬ ((n ≡ length ps) × (n ≡ closed q events ended)) → DiffersFirst (map seen ps) (proofs q events ended) (n + 1)
  no_is more =
      let size = length-map ps seen in
      let count = length_proofs q limits events good ended in
      next_differs (map seen ps) (proofs q events ended) n agree (λ both. more (let a = both.0 in let b = both.1 in (omega arith, omega arith)))

  -- its number fits 32 bits
  pub number_fits : length events ≤ event_limit → n + 1 < 2 ^ 32
  number_fits most = let low = agree.low in let count = length_proofs q limits events good ended in let few = few_closed q limits events good ended most in omega arith
