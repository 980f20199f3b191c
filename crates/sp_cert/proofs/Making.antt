-- What holds while the proofs of a run are made.
use Rattle.std.proofs.Common.{◌≡◌, ℕ, suc, ◌+◌, ◌-◌, ◌<◌, Bool, false, List, [], ◌∷◌, ◌++◌, length, sym, ap, ◌∙◌, subst, arith}
use Rattle.sp_plan.specs.declared.event.Event.{Event}
use Rattle.sp_plan.specs.declared.plan.Plan.{Plan}
use Rattle.sp_plan.specs.declared.found.Match.{Match}
use Rattle.sp_plan.specs.Windows.{closed, IsWindowed}
use Rattle.sp_plan.specs.WindowNumbers.{Good, numbered_window, first_of}
use Rattle.sp_plan.specs.Sequential.{seq, whole}
use Rattle.sp_listing.specs.Listing.{Entry}
use Rattle.sp_cert.specs.Proofs.{last_of, those_within, used_by, entry_of, own_matches, proof_of, first_proofs, used_of}
use Rattle.sp_cert.specs.Flags.{AreFlags}
use Rattle.sp_cert.specs.Spans.{IsSpan}
use Rattle.sp_cert.specs.Taking.{IsFront}
use Rattle.sp_cert.proofs.Telling.{proofs_more, used_more}
use Rattle.sp_cert.proofs.Right.{entry_is, next, skips_are, closed_few}
use Rattle.sp_cert.proofs.Taken.{front_is}

-- the first n proofs, and the matches left behind them, where the matches are those of the run
pub record Proved (q : Plan) (events : List Event) (ended : Bool) (n : ℕ) (entries : List Entry) (rest : List Match) : Type 0 where
  pub are : entries ≡ first_proofs q events n
  pub left : (whole q events ended).matches ≡ (seq q events n).matches ++ rest

-- what is kept from window to window; the flags are of what the proofs used
pub record Proving (q : Plan) (events : List Event) (ended : Bool) (matches : List Match) (n : ℕ) (entries : List Entry) (rest : List Match) (flags : List Bool) : Type 0 where
  pub proved : matches ≡ (whole q events ended).matches → Proved q events ended n entries rest
  pub flags_are : AreFlags 1 (used_of entries) flags
  pub size : length flags ≡ length events

-- one window more
pub proving_more : (q : Plan) → IsWindowed q → (events : List Event) (ended : Bool) → Good q events → (matches : List Match) (n : ℕ) (entries : List Entry) (rest : List Match) (flags : List Bool) → n < closed q events ended
    → Proving q events ended matches n entries rest flags → (own rest' : List Match) (entry : Entry) (from until : ℕ) (flags' : List Bool) → IsFront (n + 1) rest own rest' → IsSpan q events (n + 1) from until
    → ((before : List ℕ) → AreFlags 1 before flags → entry ≡ entry_of (n + 1) from until before own) → ((before : List ℕ) → AreFlags 1 before flags → AreFlags 1 (before ++ entry.used) flags') → length flags' ≡ length flags
    → Proving q events ended matches (n + 1) (entries ++ entry ∷ []) rest' flags'
proving_more q limits events ended good matches n entries rest flags low now own rest' entry from until flags' front span is set same =
    let one : n + 1 ≡ suc n = omega arith in
    let few = closed_few q limits events good ended in
    let its = next q limits events good n (omega arith) in
    let o = numbered_window q events false (suc n) in
    let made : entry ≡ entry_of (n + 1) from until (used_of entries) own = is (used_of entries) now.flags_are in
    let front' : IsFront (suc n) rest own rest' = subst (λ k. IsFront k rest own rest') one front in
    let span' : IsSpan q events (suc n) from until = subst (λ k. IsSpan q events k from until) one span in
    let last = its.last_is in
    let until_is : until ≡ last_of o = let own_last = span'.last_is in omega arith in
    record {
      proved = λ given.
          (let before = now.proved given in
          let split = front_is q events n (closed q events ended) rest own rest' low before.left front' in
          let skipped : those_within from until (used_of entries) ≡ those_within (first_of o) (last_of o) (seq q events (suc n - 1)).consumed =
          (λ i. those_within (span'.first_is i) (until_is i) (used_of (before.are i))) ∙ skips_are q limits events good n (first_of o) (last_of o)
          ∙ ap (λ k. those_within (first_of o) (last_of o) (seq q events k).consumed) (let back : n ≡ suc n - 1 = omega arith in back) in
          let used : those_within from until (used_by own) ≡ those_within (first_of o) (last_of o) (used_by (own_matches q events (suc n))) = λ i. those_within (span'.first_is i) (until_is i) (used_by (split.0 i)) in
          let next_is : entry_of (n + 1) from until (used_of entries) own ≡ proof_of q events (suc n) =
          entry_is (entry_of (n + 1) from until (used_of entries) own) (suc n) (first_of o) (last_of o) (seq q events (suc n - 1)).consumed (own_matches q events (suc n)) one span'.first_is until_is skipped used split.0 in
          record {
            are = (λ i. before.are i ++ (made ∙ next_is) i ∷ []) ∙ sym (proofs_more q events n) ∙ ap (first_proofs q events) (sym one);
            left = split.1 ∙ ap (λ k. (seq q events k).matches ++ rest') (sym one);
          });
      flags_are = subst (λ l. AreFlags 1 l flags') (sym (used_more entries entry)) (set (used_of entries) now.flags_are);
      size = same ∙ now.size;
    }
