-- Where a ticket stands among those that are out.
use Rattle.std.proofs.Common.{◌≡◌, ℕ, ◌+◌, ◌<◌, ◌≤◌, true, false, ◌==◌, List, ◌∷◌, length, map, drop, get_or, Some, None, refl, sym, ap, ◌∙◌, arith}
use Rattle.std.specs.Option.{option_map}
use Rattle.std.proofs.lemmas.Bool.Decides.{nat_tests}
use Rattle.std.proofs.lemmas.List.{drop_more, drop_all}
use Rattle.std.proofs.lemmas.Option.{slice_get-map, slice_get-get_or}
use Rattle.sp_group.specs.Machine.{ticket_at}
use Rattle.sp_core.specs.declared.lent.Lent.{Lent}
use Rattle.sp_core.specs.Carrying.{ticket_of}
use Rattle.sp_core.specs.Returning.{IsPlaceOf}

-- the first of the tickets from a place on is the one of that number, or it is not
first_is : (l : Lent) (ls : List Lent) (n : ℕ) → l.ticket ≡ n → ticket_at (map ticket_of (l ∷ ls)) n ≡ Some (ticket_of l)
first_is l ls n same = let m : (l.ticket == n) ≡ true = grind (arith, nat_tests) in rw m refl

first_other : (l : Lent) (ls : List Lent) (n : ℕ) → ¬ (l.ticket ≡ n) → ticket_at (map ticket_of (l ∷ ls)) n ≡ ticket_at (map ticket_of ls) n
first_other l ls n other = let m : (l.ticket == n) ≡ false = grind (arith, nat_tests) in rw m refl

from : (ls : List Lent) (n i : ℕ) (d : Lent) → d ≡ get_or ls i d → i < length ls → ticket_at (map ticket_of (drop i ls)) n ≡ ticket_at (map ticket_of (d ∷ drop (i + 1) ls)) n
from ls n i d is few = ap (λ (xs : List Lent). ticket_at (map ticket_of xs) n) (drop_more ls i d few ∙ ap (λ (x : Lent). x ∷ drop (i + 1) ls) (sym is))

pub place_found : (ls : List Lent) (n i : ℕ) (d : Lent) → d ≡ get_or ls i d → i < length ls → d.ticket ≡ n
    → ticket_at (map ticket_of ls) n ≡ ticket_at (map ticket_of (drop i ls)) n → IsPlaceOf (map ticket_of ls) n i
place_found ls n i d is few same so_far = (
  ticket_of d,
  slice_get-map ticket_of ls i ∙ ap (option_map ticket_of) (slice_get-get_or ls i d few ∙ ap Some (sym is)),
  same,
  so_far ∙ from ls n i d is few ∙ first_is d (drop (i + 1) ls) n same,
)

pub place_further : (ls : List Lent) (n i : ℕ) (d : Lent) → d ≡ get_or ls i d → i < length ls → ¬ (d.ticket ≡ n)
    → ticket_at (map ticket_of ls) n ≡ ticket_at (map ticket_of (drop i ls)) n → ticket_at (map ticket_of ls) n ≡ ticket_at (map ticket_of (drop (i + 1) ls)) n
place_further ls n i d is few other so_far = so_far ∙ from ls n i d is few ∙ first_other d (drop (i + 1) ls) n other

pub no_place : (ls : List Lent) (n i : ℕ) → length ls ≤ i → ticket_at (map ticket_of ls) n ≡ ticket_at (map ticket_of (drop i ls)) n → ticket_at (map ticket_of ls) n ≡ None
no_place ls n i most so_far = so_far ∙ ap (λ (xs : List Lent). ticket_at (map ticket_of xs) n) (drop_all i ls most)
