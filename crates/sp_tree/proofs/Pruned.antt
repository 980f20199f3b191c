-- The loop that changes all versions, from the oldest on.
use Rattle.std.proofs.Common.{◌≡◌, ℕ, zero, suc, ◌+◌, ◌<◌, ◌≤◌, Bool, true, false, List, [], ◌∷◌, length, get_or, set, remove, take, drop, Option, Some, None, refl, sym, ap, subst, ◌∙◌, arith, ◌-◌, add-one}
use Rattle.std.proofs.lemmas.List.{take-set, length-set, get_or-take, drop_all, get_or_default, take_all, length-drop, drop-set-lt, get_or-set_same}
use Rattle.sp_tree.proofs.Zipped.{length_joined, drop_joined, there_joined, set_joined, remove_joined}
use Rattle.sp_store.specs.Stored.{Stored, FallFrom, left, without}
use Rattle.sp_group.specs.Family.{parent_there, prune, kept}
use Rattle.sp_tree.specs.declared.version.Version.{Version as Branch}
use Rattle.sp_tree.specs.Version.{Version}
use Rattle.sp_tree.specs.Branches.{branches, seen}
use Rattle.sp_tree.specs.Grown.{Entry, kin, lifted, with_version}
use Rattle.sp_tree.specs.Joined.{joined, HaveIds, AreJoined, IsGone, IsKept, IsStanding}

head_of : {X : Type 0} (j : ℕ) (xs : List X) (d : X) → j < length xs → drop j xs ≡ get_or xs j d ∷ drop (suc j) xs
head_of j [] d h = absurd (omega arith)
head_of zero (x ∷ xs) d h = refl
head_of (suc j) (x ∷ xs) d h = head_of j xs d (omega arith)

set_here : {X : Type 0} (j : ℕ) (xs : List X) (x : X) → j < length xs → drop j (set xs j x) ≡ x ∷ drop (suc j) xs
set_here j [] x h = absurd (omega arith)
set_here zero (y ∷ xs) x h = refl
set_here (suc j) (y ∷ xs) x h = set_here j xs x (omega arith)

take_less : {X : Type 0} (j : ℕ) (xs : List X) → take j (take (suc j) xs) ≡ take j xs
take_less zero xs = refl
take_less (suc j) [] = refl
take_less (suc j) (x ∷ xs) = ap (λ l. x ∷ l) (take_less j xs)

take_removed : {X : Type 0} (j : ℕ) (xs : List X) → j < length xs → take j (remove xs j) ≡ take j xs
take_removed j [] h = absurd (omega arith)
take_removed zero (x ∷ xs) h = refl
take_removed (suc j) (x ∷ xs) h = ap (λ l. x ∷ l) (take_removed j xs (omega arith))

drop_removed : {X : Type 0} (j : ℕ) (xs : List X) → j < length xs → drop j (remove xs j) ≡ drop (suc j) xs
drop_removed j [] h = absurd (omega arith)
drop_removed zero (x ∷ xs) h = refl
drop_removed (suc j) (x ∷ xs) h = drop_removed j xs (omega arith)

length_removed : {X : Type 0} (j : ℕ) (xs : List X) → j < length xs → suc (length (remove xs j)) ≡ length xs
length_removed j [] h = absurd (omega arith)
length_removed zero (x ∷ xs) h = refl
length_removed (suc j) (x ∷ xs) h = ap suc (length_removed j xs (omega arith))

remove_set : {X : Type 0} (j : ℕ) (xs : List X) (x : X) → j < length xs → remove (set xs j x) j ≡ remove xs j
remove_set j [] x h = absurd (omega arith)
remove_set zero (y ∷ xs) x h = refl
remove_set (suc j) (y ∷ xs) x h = ap (λ l. y ∷ l) (remove_set j xs x (omega arith))

module _ {V : Type 0} where
  -- the versions from i on are settled, those before are as they were
  pub record At (first : ℕ) (rule : Version → Option Version) (i : ℕ) (was : List (Entry V)) (versions : List Branch) (values : Stored V) : Type 0 where
    pub from : first ≤ i
    pub inside : i ≤ length was
    pub front : take i (joined versions values.entries) ≡ take i was
    pub back : drop i (joined versions values.entries) ≡ prune kin (lifted rule) (drop i was)
    pub both : AreJoined versions values
    pub within : i ≤ length versions

  kept_there : (o : Option (Entry V)) (x : Entry V) (es : List (Entry V)) → o ≡ Some x → parent_there kin es x.version.parent ≡ true → kept kin o es ≡ x ∷ es
  kept_there o x es e h = ap (λ (z : Option (Entry V)). kept kin z es) e ∙ rw h refl

  kept_gone : (older : List Branch) (o : Option Version) (v : V) (es : List (Entry V)) → ((p : Option ℕ) → parent_there kin es p ≡ parent_there branches older p) → IsGone older o → kept kin (with_version v o) es ≡ es
  kept_gone older None v es same h = refl
  kept_gone older (Some w) v es same h = let e : parent_there kin es w.parent ≡ false = same w.parent ∙ h in rw e refl

  pub at_start : (first : ℕ) (rule : Version → Option Version) (versions : List Branch) (values : Stored V) (i : ℕ) → AreJoined versions values → i ≡ length versions → first ≤ length versions → At first rule i (joined versions values.entries) versions values
  at_start first rule versions values i both e from =
      let n = length_joined versions values.entries both.ids in
      let none = drop_all i (joined versions values.entries) (omega arith) in record {
        from = omega arith;
        inside = omega arith;
        front = refl;
        back = none ∙ ap (prune kin (lifted rule)) (sym none);
        both = both;
        within = omega arith;
      }

  module _ (first : ℕ) (rule : Version → Option Version) (j : ℕ) (was : List (Entry V)) (versions : List Branch) (values : Stored V) (h : At first rule (suc j) was versions values) (from : first ≤ j) where
    all : List (Entry V)
    all = joined versions values.entries

    in_all : j < length all
    unfolding all
    in_all = let n = length_joined versions values.entries h.both.ids in let w = h.within in omega arith

    same_head : (d : Entry V) → get_or was j d ≡ get_or all j d
    unfolding all
    same_head d =
        sym (get_or-take (suc j) was j d (omega arith)) ∙ ap (λ (l : List (Entry V)). get_or l j d) (sym h.front) ∙ get_or-take (suc j) (joined versions values.entries) j d (omega arith)

    same_front : take j all ≡ take j was
    unfolding all
    same_front = sym (take_less j (joined versions values.entries)) ∙ ap (take j) h.front ∙ take_less j was

    rest_there : (p : Option ℕ) → parent_there kin (prune kin (lifted rule) (drop (suc j) was)) p ≡ parent_there branches (drop (suc j) versions) p
    rest_there p =
        let d = drop_joined (suc j) versions values.entries h.both.ids in
        ap (λ (l : List (Entry V)). parent_there kin l p) (sym h.back ∙ d.0) ∙ there_joined (drop (suc j) versions) (drop (suc j) values.entries) p d.1

    module _ (w : Branch) (same : (d : Branch) → w.id ≡ (get_or versions j d).id) where
      pub at_kept : rule (seen (get_or versions j w)) ≡ Some (seen w) → parent_there branches (drop (suc j) versions) w.parent ≡ true → At first rule j was (set versions j w) values
      unfolding all
      at_kept is there =
          let inside : j < length versions = let z = h.within in omega arith in
          let s = set_joined j versions values.entries w h.both.ids inside same in
          let x : Entry V = record { version = seen w; value = s.0 } in
          let e = same_head x ∙ s.2 w x in
          let k = kept_there (lifted rule (get_or was j x)) x (prune kin (lifted rule) (drop (suc j) was)) (ap (lifted rule) e ∙ ap (with_version s.0) is) (rest_there w.parent ∙ there) in record {
            from = from;
            inside = let z = h.inside in omega arith;
            front = ap (take j) s.1 ∙ take-set all j x ∙ same_front;
            back = ap (drop j) s.1 ∙ set_here j all x in_all ∙ ap (λ l. x ∷ l) h.back ∙ sym k
                ∙ sym (ap (prune kin (lifted rule)) (head_of j was x (let z = h.inside in omega arith)));
            both = record { ids = s.3; fall = h.both.fall };
            within = let z = length-set versions j w in omega arith;
          }

      pub at_gone : IsGone (drop (suc j) versions) (rule (seen (get_or versions j w))) → (id : ℕ) → id ≡ w.id → At first rule j was (remove (set versions j w) j) (without values id)
      unfolding all
      at_gone gone id e =
          let inside : j < length versions = let z = h.within in omega arith in
          let s = set_joined j versions values.entries w h.both.ids inside same in
          let x : Entry V = record { version = seen w; value = s.0 } in
          let head = same_head x ∙ s.2 w x in
          let k = ap (λ (z : Entry V). kept kin (lifted rule z) (prune kin (lifted rule) (drop (suc j) was))) head
          ∙ kept_gone (drop (suc j) versions) (rule (seen (get_or versions j w))) s.0 (prune kin (lifted rule) (drop (suc j) was)) rest_there gone in
          let r = remove_joined j values.next versions values.entries w h.both.ids h.both.fall inside in
          let id_is : id ≡ (get_or versions j w).id = e ∙ same w in
          let l = remove_set j versions w inside in
          let both : joined (remove (set versions j w) j) (left values.entries id) ≡ remove all j = ap (λ z. joined z (left values.entries id)) l ∙ ap (λ n. joined (remove versions j) (left values.entries n)) id_is ∙ r.0 in record {
            from = from;
            inside = let z = h.inside in omega arith;
            front = ap (take j) both ∙ take_removed j all in_all ∙ same_front;
            back = ap (drop j) both ∙ drop_removed j all in_all ∙ h.back ∙ sym k ∙ sym (ap (prune kin (lifted rule)) (head_of j was x (let z = h.inside in omega arith)));
            both = record {
              ids = subst (λ z. HaveIds z (left values.entries id)) (sym l) (subst (λ n. HaveIds (remove versions j) (left values.entries n)) (sym id_is) r.1);
              fall = subst (λ n. FallFrom values.next (left values.entries n)) (sym id_is) r.2;
            };
            within = let z = length_removed j versions inside in let y = ap (length {A = Branch}) l in omega arith;
          }

standing_by : (rule : Version → Option Version) (vs : List Branch) (i : ℕ) (w d : Branch) → rule (seen (get_or vs i d)) ≡ Some (seen w) → (r : Bool) → r ≡ parent_there branches (drop (i + 1) vs) w.parent → IsStanding rule i vs w d r
standing_by rule vs i w d is true e = (is, sym e)
standing_by rule vs i w d is false e = subst (IsGone (drop (i + 1) vs)) (sym is) (sym e)

pub kept_by : (rule : Version → Option Version) (vs : List Branch) (i : ℕ) (w e : Branch) → i < length vs → e ≡ get_or vs i e → rule (seen e) ≡ Some (seen w) → w.id ≡ e.id → w.below ≡ e.below → (r : Bool) → r ≡ parent_there branches (drop (i + 1) vs) w.parent → IsKept rule i vs (set vs i w) r
kept_by rule vs i w e within read is same below r there =
    let at : (d : Branch) → e ≡ get_or vs i d = λ d. read ∙ get_or_default vs i e d within in
    (w, refl, (λ d. same ∙ ap (λ (z : Branch). z.id) (at d)), (λ d. standing_by rule vs i w d (ap (λ (z : Branch). rule (seen z)) (sym (at d)) ∙ is) r there), (λ d. below ∙ ap (λ (z : Branch). z.below) (at d)))

pub gone_by : (rule : Version → Option Version) (vs : List Branch) (i : ℕ) (w e : Branch) → i < length vs → e ≡ get_or vs i e → rule (seen e) ≡ None → w.id ≡ e.id → w.below ≡ e.below → IsKept rule i vs (set vs i w) false
gone_by rule vs i w e within read is same below =
    let at : (d : Branch) → e ≡ get_or vs i d = λ d. read ∙ get_or_default vs i e d within in
    (w, refl, (λ d. same ∙ ap (λ (z : Branch). z.id) (at d)), (λ d. subst (IsGone (drop (i + 1) vs)) (sym (ap (λ (z : Branch). rule (seen z)) (sym (at d)) ∙ is)) tt), (λ d. below ∙ ap (λ (z : Branch). z.below) (at d)))

pub behind : (vs : List Branch) (i : ℕ) (w : Branch) (slice : List Branch) → slice ≡ set vs i w → take (length slice - (i + 1)) (drop (i + 1) slice) ≡ drop (i + 1) vs
behind vs i w slice e =
    take_all (length slice - (i + 1)) (drop (i + 1) slice) (let n = length-drop (i + 1) slice in omega arith)
    ∙ ap (drop (i + 1)) e ∙ drop-set-lt (i + 1) vs i w (omega arith)

module _ {V : Type 0} (first : ℕ) (rule : Version → Option Version) (i : ℕ) (was : List (Entry V)) (versions : List Branch) (values : Stored V) (more : first < i) (h : At first rule i was versions values) where
  next_is : suc (i - 1) ≡ i
  next_is = omega arith

  at_next : At first rule (suc (i - 1)) was versions values
  at_next = subst (λ n. At first rule n was versions values) (sym next_is) h

  pub step_kept : (now : List Branch) → IsKept rule (i - 1) versions now true → At first rule (i - 1) was now values
  step_kept now k =
      subst (λ (z : List Branch). At first rule (i - 1) was z values) (sym k.1)
      (at_kept first rule (i - 1) was versions values at_next (omega arith) k.0 k.2 (k.3 k.0).0 (subst (λ n. parent_there branches (drop n versions) k.0.parent ≡ true) (add-one (i - 1)) (k.3 k.0).1))

  pub step_gone : (now left : List Branch) (gone : Branch) → IsKept rule (i - 1) versions now false → gone ≡ get_or now (i - 1) gone → left ≡ remove now (i - 1) → At first rule (i - 1) was left (without values gone.id)
  step_gone now left gone k read removed =
      let w = h.within in
      let here : gone ≡ k.0 = read ∙ ap (λ (z : List Branch). get_or z (i - 1) gone) k.1 ∙ get_or-set_same versions (i - 1) k.0 gone (omega arith) in
      subst (λ (z : List Branch). At first rule (i - 1) was z (without values gone.id)) (sym (removed ∙ ap (λ (z : List Branch). remove z (i - 1)) k.1))
      (at_gone first rule (i - 1) was versions values at_next (omega arith) k.0 k.2 (subst (λ n. IsGone (drop n versions) (rule (seen (get_or versions (i - 1) k.0)))) (add-one (i - 1)) (k.3 k.0)) gone.id (ap (λ (z : Branch). z.id) here))
