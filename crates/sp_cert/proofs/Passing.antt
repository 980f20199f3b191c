-- What holds while proofs are taken in order.
use Rattle.std.proofs.Common.{◌≡◌, ℕ, ◌+◌, ◌<◌, inl, inr, Bool, List, [], ◌∷◌, ◌++◌, length, get_or, map, take, Some, sym, ap, ◌∙◌, subst, arith, length-append}
use Rattle.std.specs.Prelude.{slice_get}
use Rattle.std.specs.Option.{option_map}
use Rattle.std.proofs.lemmas.Bool.{cases_eq}
use Rattle.std.proofs.lemmas.List.{take_more, length-take-le}
use Rattle.std.proofs.lemmas.Option.{slice_get-map, slice_get-get_or, slice_get_within, get_or_from_slice_get}
use Rattle.sp_listing.specs.declared.proof.WindowProof.{WindowProof}
use Rattle.sp_listing.specs.Listing.{Entry, seen}
use Rattle.sp_cert.specs.Proofs.{matches_of, used_of}
use Rattle.sp_cert.specs.Checking.{FollowsOn, FollowTo}
use Rattle.sp_cert.specs.Flags.{AreFlags}
use Rattle.sp_cert.proofs.Telling.{matches_more, used_more}

-- the first i entries are right behind those before them, and this is what they used and how many matches they have
pub record Passed (entries : List Entry) (i : ℕ) (flags : List Bool) (events matches : ℕ) : Type 0 where
  pub all : (k : ℕ) (entry : Entry) → k < i → slice_get entries k ≡ Some entry → FollowsOn (take k entries) entry
  pub flags_are : AreFlags 1 (used_of (take i entries)) flags
  pub size : length flags ≡ events
  pub matches_are : matches ≡ length (matches_of (take i entries))

-- the entry at a place
pub seen_at : (proofs : List WindowProof) (i : ℕ) (one : WindowProof) → i < length proofs → one ≡ get_or proofs i one → slice_get (map seen proofs) i ≡ Some (seen one)
seen_at proofs i one within is = slice_get-map seen proofs i ∙ ap (option_map seen) (slice_get-get_or proofs i one within ∙ ap (λ x. Some x) (sym is))

-- so many of the first entries
pub first_are : (entries : List Entry) (i : ℕ) (entry : Entry) → slice_get entries i ≡ Some entry → length (take i entries) ≡ i
first_are entries i entry is = let within = slice_get_within entries i entry is in length-take-le i entries (omega arith)

-- one entry more of them
one_more : (entries : List Entry) (i : ℕ) (entry : Entry) → slice_get entries i ≡ Some entry → take (i + 1) entries ≡ take i entries ++ entry ∷ []
one_more entries i entry is = take_more entries i entry (slice_get_within entries i entry is) ∙ ap (λ x. take i entries ++ x ∷ []) (get_or_from_slice_get entries i entry entry is)

module _ (entries : List Entry) (i : ℕ) (flags : List Bool) (events matches : ℕ) (passed : Passed entries i flags events matches) where
  -- one entry more
  pub passed_more : (entry : Entry) (flags' : List Bool) (last : ℕ) → slice_get entries i ≡ Some entry → FollowsOn (take i entries) entry → last ≡ length (matches_of (take i entries)) + length entry.matches
      → AreFlags 1 (used_of (take i entries) ++ entry.used) flags' → length flags' ≡ length flags → Passed entries (i + 1) flags' events last
  passed_more entry flags' last is follows last_is are same =
      let more = one_more entries i entry is in
      record {
        all = λ k one low at. elim (cases_eq k i) [
          | inl here ↦
              let both : Some one ≡ Some entry = sym at ∙ ap (slice_get entries) here ∙ is in
              let e : one ≡ entry = cc both in
              subst (λ x. FollowsOn (take k entries) x) (sym e) (subst (λ n. FollowsOn (take n entries) entry) (sym here) follows)
          | inr other ↦ passed.all k one (omega (arith, low, other)) at
        ];
        flags_are = subst (λ l. AreFlags 1 l flags') (sym (ap used_of more ∙ used_more (take i entries) entry)) are;
        size = same ∙ passed.size;
        matches_are = last_is ∙ sym (ap (λ l. length (matches_of l)) more ∙ ap length (matches_more (take i entries) entry) ∙ length-append (matches_of (take i entries)) entry.matches);
      }

  -- all entries are right behind those before them
  pub passed_all : i ≡ length entries → FollowTo entries (length entries)
  passed_all end = record {
    within = omega arith;
    all = λ k one low at. passed.all k one (omega arith) at;
    stops = λ one at. (let within = slice_get_within entries (length entries) one at in absurd (omega arith));
  }

  -- the next one isn't
  pub passed_to : (entry : Entry) → slice_get entries i ≡ Some entry → ¬ FollowsOn (take i entries) entry → FollowTo entries i
  passed_to entry is wrong =
      let within = slice_get_within entries i entry is in
      record {
        within = omega arith;
        all = passed.all;
        stops = λ one at. λ follows. (let both : Some one ≡ Some entry = sym at ∙ is in let e : one ≡ entry = cc both in wrong (subst (λ x. FollowsOn (take i entries) x) e follows));
      }
