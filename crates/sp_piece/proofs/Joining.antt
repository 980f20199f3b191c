-- What is told of an event comes behind the rest.
use Rattle.std.proofs.Common.{◌≡◌, ◌+◌, Bool, true, false, cond, refl, List, [], ◌∷◌, ◌++◌, map, length, slice_set, sym, ap, ◌∙◌, arith}
use Rattle.std.specs.Prelude.{IsTrue, IsFalse, filter}
use Rattle.sp_match.specs.declared.moves.Move.{Move}
use Rattle.sp_match.specs.declared.moves.Moves.{Moves}
use Rattle.sp_plan.specs.Moves.{Told}
use Rattle.sp_plan.specs.Windows.{Numbered}
use Rattle.sp_match.specs.public.Laws.{Below, is_completion}
use Rattle.sp_match.specs.public.Matching.{IsAfter, Matching, TellsEvent, TellsWanted, runs_of}
use Rattle.sp_match.specs.public.Seen.{all_seen, seen}
use Rattle.sp_piece.specs.Reading.{Account, account, completing, joined, seen_moves}
use Rattle.sp_piece.specs.Keeping.{HandledOn, IsSettled, TellsOn, TellsSame}
use Rattle.sp_piece.proofs.Kept.{joined_behind}

-- the completions among moves tell the completions among what these tell
pub completions_seen : (ms : List Move) → all_seen (filter (λ (m : Move). is_completion (seen m)) ms) ≡ filter is_completion (all_seen ms)
completions_seen [] = refl
completions_seen (m ∷ ms) = one (is_completion (seen m)) (completions_seen ms)
  where
    rest : List Move
    rest = filter (λ (n : Move). is_completion (seen n)) ms

    one : (b : Bool) → all_seen rest ≡ filter is_completion (all_seen ms) → all_seen (cond b (m ∷ rest) rest) ≡ cond b (seen m ∷ filter is_completion (all_seen ms)) (filter is_completion (all_seen ms))
    one true same = ap (λ ts. seen m ∷ ts) same
    one false same = same

-- two entries, of which the second tells nothing
pub settled : (front back : List Moves) → length front ≡ 1 → length back ≡ 1 → (x y : Moves) → y.list.items ≡ [] → y.wanted ≡ [] → IsSettled (slice_set front 0 x ++ slice_set back 0 y)
settled [] back one two x y list wanted = absurd (omega (arith, one))
settled (f ∷ fs) [] one two x y list wanted = absurd (omega (arith, two))
settled (f ∷ g ∷ fs) (b ∷ bs) one two x y list wanted = absurd (omega (arith, one))
settled (f ∷ []) (b ∷ c ∷ bs) one two x y list wanted = absurd (omega (arith, two))
settled (f ∷ []) (b ∷ []) one two x y list wanted = record { told = x; room = y; are = refl; list = list; wanted = wanted }

-- what a room tells that told nothing before comes behind the rest
pub told_from_room : (list ready more : List Moves) (m : Moves) (a : Account) → TellsSame list ready → IsSettled ready → TellsSame (slice_set ready 1 m) more → seen_moves m ≡ a → TellsOn a list more
told_from_room list ready more m a same blank after is =
    let t : Account = seen_moves blank.told in
    let empty : seen_moves blank.room ≡ (record { told = []; wanted = [] }) = λ i. record { told = all_seen (blank.list i); wanted = blank.wanted i } in
    sym after
    ∙ ap (λ (es : List Moves). joined (map seen_moves (slice_set es 1 m))) blank.are
    ∙ ap (λ (b : Account). joined (t ∷ b ∷ [])) is
    ∙ ap (λ (b : Account). joined (t ∷ b ∷ a ∷ [])) (sym empty)
    ∙ ap (λ (es : List Moves). joined (map seen_moves es ++ a ∷ [])) (sym blank.are)
    ∙ joined_behind (map seen_moves ready) (map seen_moves list) (a ∷ []) (sym same)

-- moves that tell the completions of an account, with what the runs wanted only where that is so
pub told_where : (so : Bool) (m : Moves) (a : Account) → (seen_moves m).told ≡ filter is_completion a.told → (IsTrue so → (seen_moves m).wanted ≡ a.wanted) → (IsFalse so → (seen_moves m).wanted ≡ [])
    → seen_moves m ≡ completing so a
told_where true m a told all none = λ i. record { told = told i; wanted = all refl i }
told_where false m a told all none = λ i. record { told = told i; wanted = none refl i }

-- an event was handled, and of what the room told of it the completions came behind the rest
pub handled_from_room : (so : Bool) (x : Numbered) (m n : Matching) (list ready more : List Moves) (room : Moves) (ms : List Told) → n.plan ≡ m.plan → IsAfter x m n → TellsEvent x m ms
    → all_seen room.list.items ≡ filter is_completion ms → (IsTrue so → TellsWanted x m room.wanted) → (IsFalse so → room.wanted ≡ []) → Below (x.0 + 1) (runs_of n)
    → TellsSame list ready → IsSettled ready → TellsSame (slice_set ready 1 room) more → HandledOn so x m n list more
handled_from_room so x m n list ready more room ms plan stands event kept wanted none below same blank after = record {
  plan = plan;
  stands = stands;
  told = λ s st.
      told_from_room list ready more room (completing so (account m.plan s x)) same blank after
      (told_where so room (account m.plan s x) (kept ∙ ap (filter is_completion) (event s st)) (λ yes. wanted yes s st) none);
  below = below;
}
