-- How far the matches of parts are listed, one part after another.
use Rattle.std.proofs.Common.{◌≡◌, ◌+◌, List, [], ◌∷◌, ◌++◌, length, map, refl, sym, ◌∙◌, ap, subst, arith, append_assoc, length-append}
use Rattle.std.specs.List.{All}
use Rattle.std.proofs.lemmas.List.{append-nil, length-map}
use Rattle.sp_plan.specs.declared.found.Match.{Match}
use Rattle.sp_parts.proofs.Places.{all_back}
use Rattle.sp_forest.specs.Numbering.{numbered_from, numbered_up}
use Rattle.sp_forest.proofs.PutOn.{all_first}

-- Of the matches of parts some are listed behind those that were; those of the parts that are left follow them.
pub record ListedSoFar (whole old new : List Match) (left : List (List Match)) : Type 0 where
  pub more : List Match
  pub are : whole ≡ more ++ numbered_from (length new) left
  pub listed : new ≡ old ++ more

pub listed_none : (old : List Match) (left : List (List Match)) → ListedSoFar (numbered_from (length old) left) old old left
listed_none old left = record { more = []; are = refl; listed = sym (append-nil old) }

module _ (whole old new own : List Match) (left : List (List Match)) (so : ListedSoFar whole old new (own ∷ left)) where
  abbrev next : List Match
  next = map (numbered_up (length new)) own

  pub listed_fit : (P : Match → Type 0) → All P whole → All P next
  listed_fit P held =
      all_first P next (numbered_from (length new + length own) left)
      (all_back P so.more (numbered_from (length new) (own ∷ left)) (subst (All P) so.are held))

  pub listed_next : (then : List Match) → then ≡ new ++ next → ListedSoFar whole old then left
  listed_next then is =
      let many : length new + length own ≡ length then = omega (arith, ap length is, length-append new next, length-map own (numbered_up (length new))) in
      record {
        more = so.more ++ next;
        are = so.are ∙ sym (append_assoc so.more next (numbered_from (length new + length own) left)) ∙ ap (λ n. (so.more ++ next) ++ numbered_from n left) many;
        listed = is ∙ ap (λ l. l ++ next) so.listed ∙ append_assoc old so.more next;
      }

pub listed_all : (whole old new : List Match) (left : List (List Match)) → length left ≡ 0 → ListedSoFar whole old new left → new ≡ old ++ whole
listed_all whole old new [] none so = so.listed ∙ ap (λ l. old ++ l) (sym (so.are ∙ append-nil so.more))
listed_all whole old new (own ∷ left) none so = absurd (omega arith)
