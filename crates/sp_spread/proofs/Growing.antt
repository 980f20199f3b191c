-- A journal stays spread while it grows.
use Rattle.std.proofs.Common.{◌≡◌, ◌⊎◌, inl, inr, ℕ, ◌+◌, ◌≤◌, true, false, List, [], ◌∷◌, ◌++◌, refl, sym, ap, subst, ◌∙◌, append_assoc}
use Rattle.std.specs.Prelude.{replicate}
use Rattle.sp_plan.specs.declared.plan.Plan.{Plan}
use Rattle.sp_group.specs.declared.step.Entry.{Entry}
use Rattle.sp_group.specs.Machine.{Machine}
use Rattle.sp_group.specs.Steps.{Spread, IsSpreadOut, IsLentOut, is_lease, out_count, replay, steps}
use Rattle.sp_spread.specs.Journaled.{EndsInLease}
use Rattle.sp_spread.specs.Laws.{JournalsStaySpread}
use Rattle.sp_spread.specs.Limiting.{NeverMore}

-- a journal with a last entry is parted at an entry before that one
record PartsBefore (journal before after : List Entry) (last entry : Entry) : Type 0 where
  pub rest : List Entry
  pub after_is : after ≡ rest ++ last ∷ []
  pub journal_is : journal ≡ before ++ entry ∷ rest

-- a journal with a last entry is parted at that one, or before it
abbrev Parts : List Entry → List Entry → List Entry → Entry → Entry → Type 0
Parts journal before after last entry = ((journal ≡ before) × (last ≡ entry)) ⊎ PartsBefore journal before after last entry

parts : (journal before after : List Entry) (last entry : Entry) → journal ++ last ∷ [] ≡ before ++ entry ∷ after → Parts journal before after last entry
parts [] [] after last entry same = inl (refl, cc)
parts [] (b ∷ []) after last entry same = absurd (cc)
parts [] (b ∷ c ∷ before) after last entry same = absurd (cc)
parts (j ∷ journal) [] after last entry same =
    let first : j ≡ entry = cc in
    inr (record { rest = journal; after_is = cc; journal_is = ap (λ (z : Entry). z ∷ journal) first })
parts (j ∷ journal) (b ∷ before) after last entry same =
    under (cc) (parts journal before after last entry (cc))
  where
    under : j ≡ b → Parts journal before after last entry → Parts (j ∷ journal) (b ∷ before) after last entry
    under first (inl (is, last_is)) = inl (ap (λ (z : Entry). z ∷ journal) first ∙ ap (λ (z : List Entry). b ∷ z) is, last_is)
    under first (inr p) = inr (record {
      rest = p.rest;
      after_is = p.after_is;
      journal_is = ap (λ (z : Entry). z ∷ journal) first ∙ ap (λ (z : List Entry). b ∷ z) p.journal_is;
    })

module _ (q : Plan) (bound n : ℕ) (m : Machine) (journal : List Entry) (replays : replay q bound journal ≡ m) where
  -- before each lease the machine is spread out, where it was so before the last entry
  leased_of : (last : Entry) → (is_lease last.step ≡ true → IsSpreadOut q bound n m) → Spread q bound n journal
      → (before after : List Entry) (entry : Entry) → journal ++ last ∷ [] ≡ before ++ entry ∷ after → is_lease entry.step ≡ true
      → IsSpreadOut q bound n (replay q bound before)
  leased_of last out spread before after entry same lease = by (parts journal before after last entry same)
    where
      by : Parts journal before after last entry → IsSpreadOut q bound n (replay q bound before)
      by (inl (is, last_is)) =
          subst (λ (z : Machine). IsSpreadOut q bound n z) (sym replays ∙ ap (replay q bound) is)
          (out (ap (λ (z : Entry). is_lease z.step) last_is ∙ lease))
      by (inr p) = spread.before_leases before p.rest entry p.journal_is lease

  -- behind each run of leases all that can be out is out, where it was so before a last entry that is no lease
  lent_of : (last : Entry) → (is_lease last.step ≡ false → EndsInLease journal → IsLentOut q bound n m) → Spread q bound n journal
      → (before after : List Entry) (lease entry : Entry) → journal ++ last ∷ [] ≡ before ++ lease ∷ entry ∷ after → is_lease lease.step ≡ true
      → is_lease entry.step ≡ false → IsLentOut q bound n (replay q bound (before ++ lease ∷ []))
  lent_of last lent spread before after lease entry same is_one is_none =
      by (parts journal (before ++ lease ∷ []) after last entry (same ∙ sym (append_assoc before (lease ∷ []) (entry ∷ after))))
    where
      by : Parts journal (before ++ lease ∷ []) after last entry → IsLentOut q bound n (replay q bound (before ++ lease ∷ []))
      by (inl (is, last_is)) =
          subst (λ (z : Machine). IsLentOut q bound n z) (sym replays ∙ ap (replay q bound) is)
          (lent (ap (λ (z : Entry). is_lease z.step) last_is ∙ is_none) (before, lease, is, is_one))
      by (inr p) = spread.behind_leases before p.rest lease entry (p.journal_is ∙ append_assoc before (lease ∷ []) (entry ∷ p.rest)) is_one is_none

  -- in none of its states more tickets are out than may be, where so it was before the last entry
  never_of : (last : Entry) → ((times : ℕ) → times ≤ last.times → out_count (steps q bound m (replicate times last.step)) ≤ n + 1) → NeverMore q bound n journal
      → NeverMore q bound n (journal ++ last ∷ [])
  never_of last here never before after entry times same low = by (parts journal before after last entry same)
    where
      by : Parts journal before after last entry → out_count (steps q bound (replay q bound before) (replicate times entry.step)) ≤ n + 1
      by (inl (is, last_is)) =
          subst (λ (z : Entry). out_count (steps q bound (replay q bound before) (replicate times z.step)) ≤ n + 1) last_is
          (subst (λ (z : Machine). out_count (steps q bound z (replicate times last.step)) ≤ n + 1) (sym replays ∙ ap (replay q bound) is)
          (here times (subst (λ (z : Entry). times ≤ z.times) (sym last_is) low)))
      by (inr p) = never before p.rest entry times p.journal_is low

  -- a journal that ends in an entry that is no lease does not end in a lease
  ends_not : (last : Entry) → is_lease last.step ≡ false → EndsInLease (journal ++ last ∷ []) → ⊥
  ends_not last is_none (before, lease, same, is_one) = by (parts journal before [] last lease same)
    where
      by : Parts journal before [] last lease → ⊥
      by (inl (is, last_is)) = let both : true ≡ false = sym is_one ∙ sym (ap (λ (z : Entry). is_lease z.step) last_is) ∙ is_none in absurd (cc)
      by (inr p) = none p.rest p.after_is
        where
          none : (rest : List Entry) → [] ≡ rest ++ last ∷ [] → ⊥
          none [] e = absurd (cc)
          none (r ∷ rest) e = absurd (cc)

pub journals_stay : JournalsStaySpread
journals_stay q bound n m journal replays = record {
  by_other = λ after entry is_none spreading. record {
    spread = record {
      before_leases = leased_of q bound n m journal replays entry (λ one. let both : true ≡ false = sym one ∙ is_none in absurd (cc)) spreading.spread;
      behind_leases = lent_of q bound n m journal replays entry (λ none. spreading.lent) spreading.spread;
    };
    lent = λ ends. absurd (ends_not q bound n m journal replays entry is_none ends);
  };
  by_lease = λ entry is_one out spread. record {
    before_leases = leased_of q bound n m journal replays entry (λ one. out) spread;
    behind_leases = lent_of q bound n m journal replays entry (λ none. let both : true ≡ false = sym is_one ∙ none in absurd (cc)) spread;
  };
  never_more = never_of q bound n m journal replays;
}
