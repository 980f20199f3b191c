-- Groups of one owner that are decided one after another, those among them that its matcher has no more.
use Rattle.std.proofs.Common.{◌≡◌, ℕ, ◌+◌, ◌<◌, ◌≤◌, Bool, true, false, cond, not, ◌&&◌, ◌||◌, ◌==◌, List, [], ◌∷◌, ◌++◌, length, get_or, Option, Some, refl, sym, ap, ◌∙◌, subst, arith, append_assoc, length-append}
use Rattle.std.specs.Prelude.{filter, IfSome}
use Rattle.std.specs.List.Sorted.{IsStrictlyIncreasing}
use Rattle.std.proofs.Math.Seq.{get_or-append_seam}
use Rattle.std.proofs.lemmas.Bool.Decides.{nat_tests}
use Rattle.std.proofs.lemmas.List.{append-nil}
use Rattle.std.proofs.lemmas.List.Elements.{filter-append}
use Rattle.std.proofs.lemmas.List.Folds.{list_any-append}
use Rattle.std.proofs.lemmas.Map.Views.{any-filter_same}
use Rattle.sp_base.proofs.RisingLists.{Rises, rises}
use Rattle.sp_base.specs.Numbers.{is_among}
use Rattle.sp_group.specs.Deciding.{others_than}
use Rattle.sp_group.specs.Family.{entry_at}
use Rattle.sp_tree.specs.Changes.{decided}
use Rattle.sp_tree.specs.Decided.{DecisionsAddUp, rule_of, with_groups}
use Rattle.sp_tree.specs.Grown.{Entry, Grown, groups_of, kin, pruned}
use Rattle.sp_version.specs.declared.version.Version.{Version}
use Rattle.sp_core.specs.Homecoming.{CanDecide, ended_in, is_grouped, outcome_of}

or_left : (a b : Bool) → a ≡ true → (a || b) ≡ true
or_left true b h = refl
or_left false b h = absurd (cc)

or_right : (a b : Bool) → b ≡ true → (a || b) ≡ true
or_right true b h = refl
or_right false b h = h

not_twice : (b : Bool) → not (not b && true) ≡ b
not_twice true = refl
not_twice false = refl

not_never : (b : Bool) → not (b && false) ≡ true
not_never true = refl
not_never false = refl

never : (b : Bool) → (b && false) ≡ false
never true = refl
never false = refl

itself : (n : ℕ) → (n == n) ≡ true
itself n = grind (arith, nat_tests)

among_filter : (p : ℕ → Bool) (xs : List ℕ) (r : ℕ) → is_among (filter p xs) r ≡ (p r && is_among xs r)
among_filter p xs r = any-filter_same (λ m. m == r) p (p r) (λ k e. ap p (same k e)) xs
  where
    same : (k : ℕ) → (k == r) ≡ true → k ≡ r
    same k e = grind (arith, nat_tests)

among_both : (xs ys : List ℕ) (r : ℕ) → is_among ys r ≡ true → is_among (xs ++ ys) r ≡ true
among_both xs ys r m = list_any-append (λ n. n == r) xs ys ∙ or_right (is_among xs r) (is_among ys r) m

filter_alike : (p q : ℕ → Bool) (xs : List ℕ) → ((r : ℕ) → is_among xs r ≡ true → p r ≡ q r) → filter p xs ≡ filter q xs
filter_alike p q [] h = refl
filter_alike p q (x ∷ xs) h =
    let head = h x (or_left (x == x) (is_among xs x) (itself x)) in
    let tail = filter_alike p q xs (λ r m. h r (or_right (x == r) (is_among xs r) m)) in
    λ i. cond (head i) (x ∷ tail i) (tail i)

filter_whole : (p : ℕ → Bool) (xs : List ℕ) → ((r : ℕ) → is_among xs r ≡ true → p r ≡ true) → filter p xs ≡ xs
filter_whole p [] h = refl
filter_whole p (x ∷ xs) h =
    let head = h x (or_left (x == x) (is_among xs x) (itself x)) in
    let tail = filter_whole p xs (λ r m. h r (or_right (x == r) (is_among xs r) m)) in
    λ i. cond (head i) (x ∷ tail i) (tail i)

-- a number of the second part is not in the first
apart : (xs ys : List ℕ) → Rises (xs ++ ys) → (r : ℕ) → is_among ys r ≡ true → is_among xs r ≡ false
apart [] ys up r m = refl
apart (x ∷ xs) ys up r m =
    let low : x < r = up.0 r (among_both xs ys r m) in
    let other : (x == r) ≡ false = grind (arith, nat_tests) in
    let rest = apart xs ys up.1 r m in
    λ i. other i || rest i

-- what is left open of groups, of the first of which those are decided that do not pass the test
left_open : (stays : ℕ → Bool) (seen rest : List ℕ) → Rises (seen ++ rest) → others_than (filter (λ r. not (stays r)) seen) (seen ++ rest) ≡ filter stays seen ++ rest
left_open stays seen rest up =
    let ends = λ (r : ℕ). not (stays r) in
    let ended = filter ends seen in
    let kept = λ (r : ℕ). not (is_among ended r) in
    let front : filter kept seen ≡ filter stays seen =
    filter_alike kept stays seen (λ r m. ap not (among_filter ends seen r ∙ ap (λ (b : Bool). ends r && b) m) ∙ not_twice (stays r)) in
    let back : filter kept rest ≡ rest =
    filter_whole kept rest (λ r m. ap not (among_filter ends seen r ∙ ap (λ (b : Bool). ends r && b) (apart seen rest up r m)) ∙ not_never (ends r)) in
    filter-append kept seen rest ∙ (λ i. front i ++ back i)

-- where the place behind the first part is within a list, the second part begins there
head_at : (kept rest : List ℕ) (i r d : ℕ) → i ≡ length kept → i < length (kept ++ rest) → r ≡ get_or (kept ++ rest) i d → (more : List ℕ) × (rest ≡ r ∷ more)
head_at kept [] i r d place within is = absurd (let none = ap length (append-nil kept) in omega arith)
head_at kept (x ∷ rest) i r d place within is =
    let same : r ≡ x = is ∙ ap (λ (k : ℕ). get_or (kept ++ x ∷ rest) k d) place ∙ get_or-append_seam kept x rest d in
    (rest, ap (λ (y : ℕ). y ∷ rest) (sym same))

-- The first groups of an entry were looked at, and those among them are decided that its matcher has no more; so many of them are left open.
pub record AreDecided (old : Grown Version) (owner : ℕ) (completed : List ℕ) (e : Entry Version) (count : ℕ) (new : Grown Version) : Type 0 where
  pub seen : List ℕ
  pub rest : List ℕ
  pub parts : e.version.groups ≡ seen ++ rest
  pub place : count ≡ length (filter (is_grouped e.value.matcher) seen)
  pub tree : new ≡ pruned (rule_of owner (outcome_of completed) (ended_in e.value.matcher seen)) old

-- the groups that are open then
abbrev pub open_then : {old : Grown Version} {owner : ℕ} {completed : List ℕ} {e : Entry Version} {count : ℕ} {new : Grown Version} → AreDecided old owner completed e count new → List ℕ
open_then {e = e} d = filter (is_grouped e.value.matcher) d.seen ++ d.rest

module _ (law : DecisionsAddUp Version) (old : Grown Version) (owner : ℕ) (completed : List ℕ) (can : CanDecide old owner) (e : Entry Version) (live : entry_at kin old.entries owner ≡ Some e) where
  abbrev stays : ℕ → Bool
  stays = is_grouped e.value.matcher

  -- no group was looked at yet
  pub none_decided : AreDecided old owner completed e 0 old
  none_decided = record {
    seen = [];
    rest = e.version.groups;
    parts = refl;
    place = refl;
    tree = ap (λ es. record old { entries = es }) (sym (law.none owner (outcome_of completed) old.entries can.grown.rooted));
  }

  rising : IsStrictlyIncreasing e.version.groups
  rising = let same : Some can.entry ≡ Some e = sym can.live ∙ live in let own : can.entry ≡ e = cc in subst (λ (f : Entry Version). IsStrictlyIncreasing f.version.groups) own can.rising

  module _ (count : ℕ) (new : Grown Version) (d : AreDecided old owner completed e count new) where
    up : Rises (d.seen ++ d.rest)
    up = rises (d.seen ++ d.rest) (subst (λ (l : List ℕ). IsStrictlyIncreasing l) d.parts rising)

    -- the owner is live still, with the groups that are left open
    pub owner_then : entry_at kin new.entries owner ≡ Some (with_groups (open_then d) e)
    owner_then =
        let ended = ended_in e.value.matcher d.seen in
        ap (λ (t : Grown Version). entry_at kin t.entries owner) d.tree
        ∙ law.owner_stays owner (outcome_of completed) ended old.next old.entries e can.grown.fall can.grown.rooted live
        ∙ ap (λ (l : List ℕ). Some (with_groups l e)) (ap (others_than ended) d.parts ∙ left_open stays d.seen d.rest up)

    -- so many are open: those left open, and those that were not looked at
    pub open_size : length (groups_of (entry_at kin new.entries owner)) ≡ count + length d.rest
    open_size =
        let size = length-append (filter stays d.seen) d.rest in
        let place = d.place in
        let groups : length (groups_of (entry_at kin new.entries owner)) ≡ length (open_then d) = ap (λ (o : Option (Entry Version)). length (groups_of o)) owner_then in
        omega arith

    -- where none is left to be looked at, all are decided
    pub all_decided : (groups : List ℕ) → groups ≡ groups_of (entry_at kin new.entries owner) → length groups ≤ count
        → new ≡ pruned (rule_of owner (outcome_of completed) (ended_in e.value.matcher e.version.groups)) old
    all_decided groups are end =
        let size = open_size in
        let same = ap length are in
        let none : d.rest ≡ [] = nothing d.rest (omega arith) in
        d.tree ∙ ap (λ (l : List ℕ). pruned (rule_of owner (outcome_of completed) (ended_in e.value.matcher l)) old) (sym (d.parts ∙ ap (λ (l : List ℕ). d.seen ++ l) none ∙ append-nil d.seen))
      where
        nothing : (xs : List ℕ) → length xs < 1 → xs ≡ []
        nothing [] h = refl
        nothing (x ∷ xs) h = absurd (omega (arith, h))

    -- the next group is that behind those left open
    pub next_group : (groups : List ℕ) (r : ℕ) → groups ≡ groups_of (entry_at kin new.entries owner) → count < length groups → r ≡ get_or groups count 0 → (more : List ℕ) × (d.rest ≡ r ∷ more)
    next_group groups r are within is =
        let open_now : groups ≡ open_then d = are ∙ ap groups_of owner_then in
        let same = ap length open_now in
        head_at (filter stays d.seen) d.rest count r 0 d.place (omega arith) (is ∙ ap (λ (l : List ℕ). get_or l count 0) open_now)

    -- the matcher of the owner is the same
    pub has_still : (r : ℕ) (b : Bool) → IfSome (entry_at kin new.entries owner) (λ f. b ≡ is_grouped f.value.matcher r) → b ≡ stays r
    has_still r b has = subst (λ (o : Option (Entry Version)). IfSome o (λ f. b ≡ is_grouped f.value.matcher r)) owner_then has

    module _ (r : ℕ) (more : List ℕ) (next : d.rest ≡ r ∷ more) where
      parts_then : e.version.groups ≡ (d.seen ++ r ∷ []) ++ more
      parts_then = d.parts ∙ ap (λ (l : List ℕ). d.seen ++ l) next ∙ sym (append_assoc d.seen (r ∷ []) more)

      -- it is left open, where the matcher has it
      pub one_stays : stays r ≡ true → AreDecided old owner completed e (count + 1) new
      one_stays it =
          let ends = λ (n : ℕ). not (stays n) in
          let kept : filter stays (d.seen ++ r ∷ []) ≡ filter stays d.seen ++ r ∷ [] = filter-append stays d.seen (r ∷ []) ∙ ap (λ (b : Bool). filter stays d.seen ++ cond b (r ∷ []) []) it in
          let ended : filter ends (d.seen ++ r ∷ []) ≡ filter ends d.seen =
          filter-append ends d.seen (r ∷ []) ∙ ap (λ (b : Bool). filter ends d.seen ++ cond (not b) (r ∷ []) []) it ∙ append-nil (filter ends d.seen) in
          let size = length-append (filter stays d.seen) (r ∷ []) in
          let place = d.place in
          let longer = ap length kept in
          record {
            seen = d.seen ++ r ∷ [];
            rest = more;
            parts = parts_then;
            place = omega arith;
            tree = d.tree ∙ ap (λ (l : List ℕ). pruned (rule_of owner (outcome_of completed) l) old) (sym ended);
          }

      -- it is decided, where the matcher has it no more
      pub one_decided : stays r ≡ false → (then : Grown Version) → then ≡ pruned (decided owner r (outcome_of completed r)) new → AreDecided old owner completed e count then
      one_decided not_it then is =
          let outcome = outcome_of completed in
          let ends = λ (n : ℕ). not (stays n) in
          let kept : filter stays (d.seen ++ r ∷ []) ≡ filter stays d.seen =
          filter-append stays d.seen (r ∷ []) ∙ ap (λ (b : Bool). filter stays d.seen ++ cond b (r ∷ []) []) not_it ∙ append-nil (filter stays d.seen) in
          let ended : filter ends (d.seen ++ r ∷ []) ≡ filter ends d.seen ++ r ∷ [] =
          filter-append ends d.seen (r ∷ []) ∙ ap (λ (b : Bool). filter ends d.seen ++ cond (not b) (r ∷ []) []) not_it in
          let among : is_among d.rest r ≡ true = ap (λ (l : List ℕ). is_among l r) next ∙ or_left (r == r) (is_among more r) (itself r) in
          let new_one : is_among (filter ends d.seen) r ≡ false = among_filter ends d.seen r ∙ ap (λ (b : Bool). ends r && b) (apart d.seen d.rest up r among) ∙ never (ends r) in
          record {
            seen = d.seen ++ r ∷ [];
            rest = more;
            parts = parts_then;
            place = d.place ∙ ap length (sym kept);
            tree = is ∙ ap (pruned (decided owner r (outcome r))) d.tree ∙ ap (λ es. record old { entries = es }) (law.more owner outcome (filter ends d.seen) r old.entries new_one)
                ∙ ap (λ (l : List ℕ). pruned (rule_of owner outcome l) old) (sym ended);
          }

  -- one group less is open then
  pub one_less : (count : ℕ) (new : Grown Version) (d : AreDecided old owner completed e count new) (r : ℕ) (more : List ℕ) (next : d.rest ≡ r ∷ more) → stays r ≡ false
      → (then : Grown Version) → then ≡ pruned (decided owner r (outcome_of completed r)) new
      → length (groups_of (entry_at kin then.entries owner)) + 1 ≡ length (groups_of (entry_at kin new.entries owner))
  unfolding one_decided
  one_less count new d r more next not_it then is =
      let before = open_size count new d in
      let one = ap length next in
      let after : length (groups_of (entry_at kin then.entries owner)) ≡ count + length more = open_size count then (one_decided count new d r more next not_it then is) in
      omega arith
