-- Chances in order.
use Rattle.std.proofs.Common.{◌≡◌, ℕ, zero, suc, ◌+◌, ◌-◌, ◌^◌, ◌<◌, ◌≤◌, ◌≢◌, ⊎_elim, Bool, true, false, cond, ◌==◌, if◌then◌else◌, slice_set, List, [], ◌∷◌, length, get_or, refl, sym, ap, ◌∙◌, arith}
use Rattle.std.specs.List.{insert}
use Rattle.std.proofs.Math.Nat.{eq-or-lt_of_le}
use Rattle.std.proofs.lemmas.List.{get_or_default, get_or-set_other, length-set}
use Rattle.std.proofs.lemmas.List.Edits.{length-insert, get_or-insert_below, get_or-insert_at, get_or-insert_above}
use Rattle.std.proofs.lemmas.Grind.{get_or-set_at}
use Rattle.std.proofs.lemmas.Bool.{cases_lt}
use Rattle.std.proofs.lemmas.Bool.Decides.{eqb_tells, nat_tests}
use Rattle.sp_chance.specs.declared.chances.Chance.{Chance}
use Rattle.sp_chance.specs.Shares.{key, is_that, share_of, no_chance, chance_at, key_at, AreOrdered, IsPlace, IsAt}

-- what an index reads
pub read-at : (cs : List Chance) (i : ℕ) (c : Chance) → i < length cs → c ≡ get_or cs i c → c ≡ chance_at cs i
read-at cs i c within is = is ∙ get_or_default cs i c no_chance within

pub never-falls : (cs : List Chance) (i j : ℕ) → AreOrdered cs → i ≤ j → j < length cs → key_at cs i ≤ key_at cs j
never-falls cs i j ordered less within =
    ⊎_elim
    (λ (same : i ≡ j). omega (arith, ap (key_at cs) same))
    (λ (below : i < j). omega (arith, ordered.rising i j below within))
    (eq-or-lt_of_le less)

-- a search has come so far: those below `low` come before the run, those from `high` on don't
pub record IsBetween (cs : List Chance) (version run low high : ℕ) : Type 0 where
  pub order : low ≤ high
  pub within : high ≤ length cs
  pub below : (i : ℕ) → i < low → key_at cs i < key version run
  pub above : (i : ℕ) → high ≤ i → i < length cs → key version run ≤ key_at cs i

pub rises : (cs : List Chance) (version run low high middle : ℕ) → AreOrdered cs → IsBetween cs version run low high → middle < high
    → key_at cs middle < key version run → IsBetween cs version run (middle + 1) high
rises cs version run low high middle ordered so inside before = record {
  order = omega arith;
  within = so.within;
  below = λ i less. let in_list = so.within in omega (arith, never-falls cs i middle ordered (omega arith) (omega arith));
  above = so.above;
}

pub sinks : (cs : List Chance) (version run low high middle : ℕ) → AreOrdered cs → IsBetween cs version run low high → low ≤ middle → middle < high
    → key version run ≤ key_at cs middle → IsBetween cs version run low middle
sinks cs version run low high middle ordered so from inside behind = record {
  order = from;
  within = let in_list = so.within in omega arith;
  below = so.below;
  above = λ i least within. omega (arith, never-falls cs middle i ordered least within);
}

-- no chance in front of the place is the run's
pub record NoneBefore (cs : List Chance) (version run at : ℕ) : Type 0 where
  pub none : (i : ℕ) → i < at → (chance_at cs i).version ≡ version → (chance_at cs i).run ≡ run → ⊥

pub none-before : (cs : List Chance) (version run at : ℕ) → IsPlace cs version run at → NoneBefore cs version run at
none-before cs version run at place = record { none = λ i below v r. omega (arith, place.below i below) }

-- where the run's own doesn't stand at its place, it stands nowhere
pub none-at-all : (cs : List Chance) (version run at : ℕ) → AreOrdered cs → IsPlace cs version run at → (IsAt cs version run at → ⊥)
    → NoneBefore cs version run (length cs)
none-at-all cs version run at ordered place missing = record {
  none = λ i within v r.
      ⊎_elim
      (λ (before : i < at). omega (arith, place.below i before))
      (λ (behind : at ≤ i).
      ⊎_elim
      (λ (here : at ≡ i).
      missing (record {
        within = omega arith;
        version_is = ap (λ k. (chance_at cs k).version) here ∙ v;
        run_is = ap (λ k. (chance_at cs k).run) here ∙ r;
      }))
      (λ (past : at < i). omega (arith, place.above at (omega arith) (omega arith), ordered.rising at i past within))
      (eq-or-lt_of_le behind))
      (cases_lt i at);
}

fewer : (c : Chance) (cs : List Chance) (version run n : ℕ) → NoneBefore (c ∷ cs) version run (suc n) → NoneBefore cs version run n
fewer c cs version run n lacks = record { none = λ i below v r. lacks.none (suc i) (omega arith) v r }

not_first : (c : Chance) (cs : List Chance) (version run n : ℕ) → NoneBefore (c ∷ cs) version run (suc n) → is_that version run c.version c.run ≡ false
not_first c cs version run n lacks = grind (arith, nat_tests, lacks.none 0 (omega arith))

pub share-absent : (cs : List Chance) (version run : ℕ) → NoneBefore cs version run (length cs) → share_of cs version run ≡ 0
share-absent [] version run lacks = refl
share-absent (c ∷ cs) version run lacks =
    ap (λ b. cond b c.share (share_of cs version run)) (not_first c cs version run (length cs) lacks)
    ∙ share-absent cs version run (fewer c cs version run (length cs) lacks)

is_here : (v r version run : ℕ) → v ≡ version → r ≡ run → is_that version run v r ≡ true
is_here v r version run v_is r_is = grind (arith, nat_tests)

pub share-present : (cs : List Chance) (version run at : ℕ) → NoneBefore cs version run at → IsAt cs version run at
    → share_of cs version run ≡ (chance_at cs at).share
share-present [] version run at lacks is = absurd (omega (arith, is.within))
share-present (c ∷ cs) version run zero lacks is =
    ap (λ b. cond b c.share (share_of cs version run)) (is_here c.version c.run version run is.version_is is.run_is)
share-present (c ∷ cs) version run (suc at) lacks is =
    ap (λ b. cond b c.share (share_of cs version run)) (not_first c cs version run at lacks)
    ∙ share-present cs version run at (fewer c cs version run at lacks) (record { within = omega (arith, is.within); version_is = is.version_is; run_is = is.run_is })

same_first : (b : Bool) (s t o : ℕ) → cond b s o ≡ cond b s (cond b t o)
same_first true s t o = refl
same_first false s t o = refl

later_first : (v r version run a b : ℕ) (s t o : ℕ) → is_that version run a b ≡ false
    → cond (is_that v r a b) t (cond (is_that v r version run) s o) ≡ cond (is_that v r version run) s (cond (is_that v r a b) t o)
later_first v r version run a b s t o differs = grind (arith, nat_tests)

pub share-set : (cs : List Chance) (at : ℕ) (c : Chance) → NoneBefore cs c.version c.run at → IsAt cs c.version c.run at
    → (v r : ℕ) → share_of (slice_set cs at c) v r ≡ (if is_that v r c.version c.run then c.share else share_of cs v r)
share-set [] at c lacks is v r = absurd (omega (arith, is.within))
share-set (x ∷ cs) zero c lacks is v r =
    let version : x.version ≡ c.version = is.version_is in
    let run : x.run ≡ c.run = is.run_is in
    same_first (is_that v r c.version c.run) c.share x.share (share_of cs v r)
    ∙ ap (λ w. cond (is_that v r c.version c.run) c.share (cond (is_that v r w c.run) x.share (share_of cs v r))) (sym version)
    ∙ ap (λ w. cond (is_that v r c.version c.run) c.share (cond (is_that v r x.version w) x.share (share_of cs v r))) (sym run)
share-set (x ∷ cs) (suc at) c lacks is v r =
    ap (λ o. cond (is_that v r x.version x.run) x.share o)
    (share-set cs at c (fewer x cs c.version c.run at lacks) (record { within = omega (arith, is.within); version_is = is.version_is; run_is = is.run_is }) v r)
    ∙ later_first v r c.version c.run x.version x.run c.share x.share (share_of cs v r) (not_first x cs c.version c.run at lacks)

pub share-insert : (cs : List Chance) (at : ℕ) (c : Chance) → NoneBefore cs c.version c.run at
    → (v r : ℕ) → share_of (insert cs at c) v r ≡ (if is_that v r c.version c.run then c.share else share_of cs v r)
share-insert cs zero c lacks v r = refl
share-insert [] (suc at) c lacks v r = refl
share-insert (x ∷ cs) (suc at) c lacks v r =
    ap (λ o. cond (is_that v r x.version x.run) x.share o) (share-insert cs at c (fewer x cs c.version c.run at lacks) v r)
    ∙ later_first v r c.version c.run x.version x.run c.share x.share (share_of cs v r) (not_first x cs c.version c.run at lacks)

same_keys : (cs : List Chance) (at i : ℕ) (c : Chance) → IsAt cs c.version c.run at → i < length cs
    → ((chance_at (slice_set cs at c) i).version ≡ (chance_at cs i).version) × ((chance_at (slice_set cs at c) i).run ≡ (chance_at cs i).run)
same_keys cs at i c is within =
    ⊎_elim
    (λ (here : ((i == at) ≡ true) × (i ≡ at)).
    let it : chance_at (slice_set cs at c) i ≡ c = get_or-set_at cs at i c no_chance here.1 is.within in (
      ap (λ (x : Chance). x.version) it ∙ sym is.version_is ∙ ap (λ k. (chance_at cs k).version) (sym here.1),
      ap (λ (x : Chance). x.run) it ∙ sym is.run_is ∙ ap (λ k. (chance_at cs k).run) (sym here.1),
    ))
    (λ (there : ((i == at) ≡ false) × (i ≢ at)).
    let it : chance_at (slice_set cs at c) i ≡ chance_at cs i = get_or-set_other cs at i c no_chance there.1 in
    (ap (λ (x : Chance). x.version) it, ap (λ (x : Chance). x.run) it))
    (eqb_tells i at)

-- another share at the place keeps the order
pub set-ordered : (cs : List Chance) (at : ℕ) (c : Chance) → AreOrdered cs → IsAt cs c.version c.run at → AreOrdered (slice_set cs at c)
set-ordered cs at c ordered is =
    let keys : (i : ℕ) → i < length cs → ((chance_at (slice_set cs at c) i).version ≡ (chance_at cs i).version) × ((chance_at (slice_set cs at c) i).run ≡ (chance_at cs i).run)
    = λ i within. same_keys cs at i c is within in
    let size : length (slice_set cs at c) ≡ length cs = length-set cs at c in
    record {
      rising = λ i j less within.
          let a = keys i (omega arith) in
          let b = keys j (omega arith) in
          omega (arith, ordered.rising i j less (omega arith), a.0, a.1, b.0, b.1);
      narrow = λ i within. let a = keys i (omega arith) in omega (arith, ordered.narrow i (omega arith), a.1);
    }

-- a chance behind the place comes after the run, where the run's own is nowhere
strictly_above : (cs : List Chance) (at i : ℕ) (c : Chance) → AreOrdered cs → IsPlace cs c.version c.run at → NoneBefore cs c.version c.run (length cs)
    → c.run < 2 ^ 32 → at ≤ i → i < length cs → key c.version c.run < key_at cs i
strictly_above cs at i c ordered place missing narrow from within =
    ⊎_elim
    (λ (same : key c.version c.run ≡ key_at cs i).
    let other : (chance_at cs i).run < 2 ^ 32 = ordered.narrow i within in
    absurd (missing.none i within (omega arith) (omega arith)))
    (λ (less : key c.version c.run < key_at cs i). less)
    (eq-or-lt_of_le (place.above i from within))

-- a new one at its place keeps it too
pub insert-ordered : (cs : List Chance) (at : ℕ) (c : Chance) → AreOrdered cs → IsPlace cs c.version c.run at → NoneBefore cs c.version c.run (length cs)
    → c.run < 2 ^ 32 → AreOrdered (insert cs at c)
insert-ordered cs at c ordered place missing narrow =
    let new : List Chance = insert cs at c in
    let size : length new ≡ length cs + 1 = length-insert cs at c place.within in
    let below : (i : ℕ) → i < at → chance_at new i ≡ chance_at cs i = λ i before. get_or-insert_below cs at c no_chance i before place.within in
    let here : (i : ℕ) → i ≡ at → chance_at new i ≡ c
    = λ i is. ap (chance_at new) is ∙ get_or-insert_at cs at c no_chance place.within in
    let above : (i : ℕ) → at < i → chance_at new i ≡ chance_at cs (i - 1)
    = λ i past.
    let one : i ≡ i - 1 + 1 = omega arith in
    ap (chance_at new) one ∙ get_or-insert_above cs at c no_chance (i - 1) (omega arith) place.within
    in
    let run : Chance → ℕ = λ x. x.run in
    let number : Chance → ℕ = λ x. key x.version x.run in
    let key_below : (i : ℕ) → i < at → key_at new i ≡ key_at cs i = λ i before. ap number (below i before) in
    let key_here : (i : ℕ) → i ≡ at → key_at new i ≡ key c.version c.run = λ i is. ap number (here i is) in
    let key_above : (i : ℕ) → at < i → key_at new i ≡ key_at cs (i - 1) = λ i past. ap number (above i past) in
    let past : (i : ℕ) → at ≤ i → i < length cs → key c.version c.run < key_at cs i
    = λ i from within. strictly_above cs at i c ordered place missing narrow from within in
    record {
      rising = λ i j less within.
          grind (arith, key_below i, key_here i, key_above i, key_below j, key_here j, key_above j, ordered.rising i j, ordered.rising i (j - 1), ordered.rising (i - 1) (j - 1), place.below i, past (j - 1));
      narrow = λ i within.
          ⊎_elim
          (λ (before : i < at). omega (arith, ap run (below i before), ordered.narrow i (omega arith)))
          (λ (from : at ≤ i).
          ⊎_elim
          (λ (is : at ≡ i). omega (arith, ap run (here i (sym is)), narrow))
          (λ (behind : at < i). omega (arith, ap run (above i behind), ordered.narrow (i - 1) (omega arith)))
          (eq-or-lt_of_le from))
          (cases_lt i at);
    }
