-- The tickets that are out, as a core keeps them.
use Rattle.std.proofs.Common.{◌≡◌, ℕ, Bool, true, false, cond, ◌==◌, List, [], ◌∷◌, map, find, Some, refl}
use Rattle.std.specs.Option.{option_map}
use Rattle.std.proofs.lemmas.List.Elements.{All-nil, All-cons}
use Rattle.sp_group.specs.Machine.{ticket_at}
use Rattle.sp_core.specs.declared.lent.Lent.{Lent}
use Rattle.sp_core.specs.Carrying.{ticket_of}
use Rattle.sp_core.specs.Showing.{AreUnread, IsUnread}

-- the first one of a number
pub found_under : (ls : List Lent) (n : ℕ) → option_map ticket_of (find (λ lent. lent.ticket == n) ls) ≡ ticket_at (map ticket_of ls) n
found_under [] n = refl
found_under (l ∷ ls) n = one (l.ticket == n) (found_under ls n)
  where
    one : (b : Bool) → option_map ticket_of (find (λ lent. lent.ticket == n) ls) ≡ ticket_at (map ticket_of ls) n
        → option_map ticket_of (cond b (Some l) (find (λ lent. lent.ticket == n) ls)) ≡ cond b (Some (ticket_of l)) (ticket_at (map ticket_of ls) n)
    one true rest = refl
    one false rest = rest

-- nothing of them is read
pub all_unread : (ls : List Lent) → AreUnread (map ticket_of ls)
all_unread [] = All-nil IsUnread
all_unread (l ∷ ls) = All-cons IsUnread (ticket_of l) (map ticket_of ls) (refl, refl) (all_unread ls)
