-- The walk from the root: what has been taken, what waits, and how many are left.
use Rattle.std.proofs.Common.{◌≡◌, ℕ, ◌+◌, ◌-◌, ◌≤◌, Bool, true, false, List, [], ◌∷◌, ◌++◌, length, map, filter, take, min, replicate, All}
use Rattle.std.proofs.Common.{IsPermutation, is_none, refl, sym, ap, subst, ◌∙◌, arith}
use Rattle.std.specs.BinaryHeap.{IsHeap, IsUpperBound}
use Rattle.std.specs.List.{AllByRecursion}
use Rattle.std.proofs.lemmas.List.Elements.{recursion_from_All}
use Rattle.std.proofs.lemmas.List.Sorted.{All-permutation, length_permutation, IsPermutation-trans}
use Rattle.sp_base.specs.Limits.{whole_share}
use Rattle.sp_group.specs.Family.{entry_at}
use Rattle.sp_tree.specs.Grown.{Entry, FallFrom, AreRooted, kin, parent_of}
use Rattle.sp_tree.specs.Paths.{ids_under}
use Rattle.sp_pick.specs.declared.picking.Rank.{Rank}
use Rattle.sp_pick.specs.Picking.{IsPicked}
use Rattle.sp_pick.specs.Ranks.{rank_cmp, rank_in, ids_by}
use Rattle.sp_pick.proofs.Found.{live_in, parent_in, not_out, one_less, none_left, all_wait}
use Rattle.sp_pick.proofs.Fronts.{AreHung, AreOut, IsFront, none_out, more_out, none_before, all_out}
use Rattle.sp_pick.proofs.Ordered.{AreInOrder, NoneBefore, in_order, in_order_moves, ordered, sorted}
use Rattle.sp_pick.proofs.Ranking.{is_before, in_line, same_id, parent_before}
use Rattle.sp_pick.proofs.Standing.{some_entry, under_parent}
use Rattle.sp_pick.proofs.Taken.{is_it, with_out, AreTaken, none_taken, more_taken, taken_whole, all_taken}
use Rattle.sp_pick.proofs.Waiting.{AreWaiting, same_count, root_waits, next_out, children_wait, front_behind, none_front}

-- no shares, where they do not matter
none : ℕ → ℕ → ℕ
none owner run = 0

-- what is behind parts that are in order is so too
behind : {X : Type 0} (lt : X → X → Bool) (xs ys : List X) → AreInOrder lt (xs ++ ys) → AreInOrder lt ys
behind lt [] ys h = h
behind lt (x ∷ xs) ys h = behind lt xs ys h.1

all_behind : {X : Type 0} (P : X → Type 0) (xs ys : List X) → AllByRecursion P (xs ++ ys) → AllByRecursion P ys
all_behind P [] ys h = h
all_behind P (x ∷ xs) ys h = all_behind P xs ys h.1

module _ {V : Type 0} (shares : ℕ → ℕ → ℕ) (es : List (Entry V)) where
  -- the ready ones in the order in which they are picked
  abbrev pub line : List ℕ → List ℕ
  line ready = in_order (is_before shares es) ready

  -- so far in the walk
  pub record IsWalked (ready : List ℕ) (k steps left : ℕ) (taken : List ℕ) (heap : List Rank) : Type 0 where
    pub out : ℕ → Bool
    pub are : AreOut (live_in es) (parent_in es) out
    pub waiting : AreWaiting shares es out heap
    pub heaped : IsHeap rank_cmp heap
    pub takes : AreTaken out (line ready) k left taken
    pub steps_left : length (not_out out es) + steps ≡ length es

  module _ (top : ℕ) (fall : FallFrom top es) (rooted : AreRooted es) (most : (version run : ℕ) → shares version run ≤ whole_share) where
    hung : AreHung (live_in es) (parent_in es)
    hung = record {
      there = λ id p live up.
          let e = some_entry (entry_at kin es id) live in (under_parent none top es id e.0 p fall rooted e.1 (sym (ap parent_of e.1) ∙ up)).live;
      less = λ id p live up.
          let e = some_entry (entry_at kin es id) live in (under_parent none top es id e.0 p fall rooted e.1 (sym (ap parent_of e.1) ∙ up)).less;
    }

    -- before the first step
    pub walk_begins : (ready : List ℕ) (k left : ℕ) (heap : List Rank) → left ≡ min (length ready) k
        → IsPermutation (map (rank_in shares es) (ids_by is_none es)) heap → IsHeap rank_cmp heap
        → IsWalked ready k 0 left [] heap
    walk_begins ready k left heap is moved heaped =
        let long = length_permutation ready (line ready) (in_order_moves (is_before shares es) ready) in
        let wait = all_wait es in
        record {
          out = λ _. false;
          are = none_out (live_in es) (parent_in es);
          waiting = root_waits shares es top fall heap moved;
          heaped = heaped;
          takes = none_taken (line ready) k left (is ∙ ap (λ n. min n k) (sym long));
          steps_left = omega arith;
        }

    -- a step takes the version that comes out of the heap, as often as it is ready
    pub record IsTaken (out : ℕ → Bool) (ready : List ℕ) (k left : ℕ) (taken : List ℕ) (rank : Rank) : Type 0 where
      pub ranked : rank ≡ rank_in shares es rank.id.0
      pub front : IsFront (live_in es) (parent_in es) out rank.id.0
      pub takes : AreTaken (with_out rank.id.0 out) (line ready) k left taken

    pub walk_takes : (ready : List ℕ) (k steps left left' times : ℕ) (taken taken' : List ℕ) (heap rest : List Rank) (rank : Rank)
        (h : IsWalked ready k steps left taken heap)
        → All (λ id. live_in es id ≡ true) ready → IsPermutation heap (rank ∷ rest) → IsUpperBound rank_cmp rank heap → times
        ≡ min (length (filter (is_it rank.id.0) ready)) left
        → left' ≡ left - times → taken' ≡ taken ++ replicate times rank.id.0 → IsTaken h.out ready k left' taken' rank
    walk_takes ready k steps left left' times taken taken' heap rest rank h live moved upper is less more =
        let lt = is_before shares es in
        let moves = in_order_moves lt ready in
        let next = next_out shares es h.out heap rest rank h.waiting moved in
        record {
          ranked = next.ranked;
          front = next.front;
          takes =
              subst (λ n. AreTaken (with_out rank.id.0 h.out) (line ready) k n taken') (sym less)
              (subst (λ (l : List ℕ). AreTaken (with_out rank.id.0 h.out) (line ready) k (left - times) l) (sym more)
              (more_taken lt (in_line shares es) (same_id shares es) h.out (line ready) k left taken rank.id.0 times h.takes
              (behind lt h.takes.done h.takes.rest (subst (AreInOrder lt) h.takes.parts (ordered lt (in_line shares es) ready)))
              (first h.takes.rest
              (all_behind (λ id. live_in es id ≡ true) h.takes.done h.takes.rest
              (subst (AllByRecursion (λ id. live_in es id ≡ true)) h.takes.parts
              (recursion_from_All (λ id. live_in es id ≡ true) (line ready)
              (All-permutation (λ id. live_in es id ≡ true) ready (line ready) moves live))))
              h.takes.wait)
              next.front.waits (is ∙ ap (λ n. min n left) (sym (same_count (is_it rank.id.0) ready (line ready) moves)))));
        }
      where
        before : (id : ℕ) → live_in es id ≡ true → h.out id ≡ false → is_before shares es id rank.id.0 ≡ false
        before =
            none_before (live_in es) (parent_in es) (is_before shares es) (in_line shares es) hung
            (λ id p there up. parent_before shares es top fall rooted most id p there up)
            h.out rank.id.0 (front_behind shares es h.out heap rank h.waiting (next_out shares es h.out heap rest rank h.waiting moved).ranked upper)

        first : (ids : List ℕ) → AllByRecursion (λ id. live_in es id ≡ true) ids → AllByRecursion (λ id. h.out id ≡ false) ids
            → NoneBefore (is_before shares es) rank.id.0 ids
        first [] there wait = tt
        first (id ∷ ids) there wait = (before id there.0 wait.0, first ids there.1 wait.1)

    -- and the walk goes on with its children
    pub walk_goes_on : (ready : List ℕ) (k steps left left' : ℕ) (taken taken' : List ℕ) (heap rest heap' : List Rank) (rank : Rank)
        (h : IsWalked ready k steps left taken heap)
        → IsTaken h.out ready k left' taken' rank → IsPermutation heap (rank ∷ rest)
        → IsPermutation (rest ++ map (rank_in shares es) (ids_under es rank.id.0)) heap' → IsHeap rank_cmp heap'
        → IsWalked ready k (steps + 1) left' taken' heap'
    walk_goes_on ready k steps left left' taken taken' heap rest heap' rank h t moved moved' heaped =
        let less = one_less rank.id.0 h.out es top fall t.front.there t.front.waits in
        let steps_left = h.steps_left in
        record {
          out = with_out rank.id.0 h.out;
          are = more_out (live_in es) (parent_in es) h.out rank.id.0 hung h.are t.front;
          waiting = children_wait shares es top fall h.out heap rest heap' rank hung h.are h.waiting moved moved';
          heaped = heaped;
          takes = t.takes;
          steps_left = omega arith;
        }

    -- where no live version waits, all that are ready have been taken
    all_are : (ready : List ℕ) (k steps left : ℕ) (taken : List ℕ) (heap : List Rank) (h : IsWalked ready k steps left taken heap)
        → All (λ id. live_in es id ≡ true) ready
        → ((id : ℕ) → live_in es id ≡ true → h.out id ≡ false → ⊥) → taken ≡ take k (line ready)
    all_are ready k steps left taken heap h live over =
        all_taken h.out (line ready) k left taken h.takes
        (empty h.takes.rest
        (all_behind (λ id. live_in es id ≡ true) h.takes.done h.takes.rest
        (subst (AllByRecursion (λ id. live_in es id ≡ true)) h.takes.parts
        (recursion_from_All (λ id. live_in es id ≡ true) (line ready)
        (All-permutation (λ id. live_in es id ≡ true) ready (line ready) (in_order_moves (is_before shares es) ready) live))))
        h.takes.wait)
      where
        empty : (ids : List ℕ) → AllByRecursion (λ id. live_in es id ≡ true) ids → AllByRecursion (λ id. h.out id ≡ false) ids → ids ≡ []
        empty [] there wait = refl
        empty (id ∷ ids) there wait = absurd (over id there.0 wait.0)

    -- the walk ends where as many were taken as may be, where none waits, and after as many steps as versions are live
    pub ends_taken : (out : ℕ → Bool) (ready : List ℕ) (k left : ℕ) (taken : List ℕ) (rank : Rank) → left ≡ 0 → IsTaken out ready k left taken rank
        → taken ≡ take k (line ready)
    ends_taken out ready k left taken rank none t = taken_whole (with_out rank.id.0 out) (line ready) k taken
        (subst (λ n. AreTaken (with_out rank.id.0 out) (line ready) k n taken) none t.takes)

    pub ends_empty : (ready : List ℕ) (k steps left : ℕ) (taken : List ℕ) (heap : List Rank) → IsWalked ready k steps left taken heap
        → All (λ id. live_in es id ≡ true) ready → heap ≡ []
        → taken ≡ take k (line ready)
    ends_empty ready k steps left taken heap h live empty =
        all_are ready k steps left taken heap h live
        (all_out (live_in es) (parent_in es) hung h.out (none_front shares es h.out (subst (AreWaiting shares es h.out) empty h.waiting)))

    pub ends_walked : (ready : List ℕ) (k steps left : ℕ) (taken : List ℕ) (heap : List Rank) → IsWalked ready k steps left taken heap
        → All (λ id. live_in es id ≡ true) ready → length es ≤ steps
        → taken ≡ take k (line ready)
    ends_walked ready k steps left taken heap h live walked =
        let steps_left = h.steps_left in
        all_are ready k steps left taken heap h live (λ id. none_left h.out es id (omega arith))

  -- what was taken are the first
  pub picked : (given ready : List ℕ) (k : ℕ) (taken : List ℕ) → IsPermutation given ready → taken ≡ take k (line ready)
      → IsPicked shares es given k taken
  picked given ready k taken moved first = record {
    order = line ready;
    permutation = IsPermutation-trans given ready (line ready) moved (in_order_moves (is_before shares es) ready);
    sorted = sorted (is_before shares es) (line ready) (ordered (is_before shares es) (in_line shares es) ready);
    first = first;
  }
