-- Groups that are decided one after another are decided at once, and groups that open change nothing else.
use Rattle.std.proofs.Common.{◌≡◌, ℕ, suc, ◌+◌, ◌<◌, ◌≤◌, ◌⊎◌, Bool, true, false, cond, not, ◌&&◌, ◌||◌, ◌==◌, List, [], ◌∷◌, ◌++◌, filter, map, slice_index, Option, Some, None, is_some, inl, inr, ⊎_elim, refl, sym, ap, ◌∙◌, subst, arith}
use Rattle.std.specs.List.Sorted.{IsStrictlyIncreasing}
use Rattle.std.proofs.lemmas.Bool.Decides.{nat_tests}
use Rattle.std.proofs.lemmas.List.{append_assoc, append-nil}
use Rattle.std.proofs.lemmas.List.Elements.{filter_agree}
use Rattle.std.proofs.lemmas.List.Folds.{list_all-append, list_any-append}
use Rattle.sp_base.specs.Numbers.{is_among, with_number}
use Rattle.sp_group.specs.declared.outcome.Outcome.{Outcome}
use Rattle.sp_group.specs.declared.outcome.Outcome.TheVariants.{Completed, Abandoned}
use Rattle.sp_group.specs.Deciding.{others, others_than, foresaw, foresaw_all}
use Rattle.sp_group.specs.Family.{Kin, entry_at, parent_there, kept, prune, is_parent}
use Rattle.sp_tree.specs.Version.{Version}
use Rattle.sp_tree.specs.Children.{IsRising as Rises}
use Rattle.sp_tree.specs.Changes.{decided, child_decided, with_run}
use Rattle.sp_tree.specs.Grown.{Entry, AreRooted, FallFrom, kin, with_version, lifted, opened_for}
use Rattle.sp_tree.specs.Decided.{child_of_decided, rule_of, bare, with_groups, decided_each, DecisionsAddUp, OpeningsChangeGroups}

-- a rule, and then another
abbrev pub and_then : {A : Type 0} → (A → Option A) → Option A → Option A
and_then rule None = None
and_then rule (Some x) = rule x

module _ {A : Type 0} (kin : Kin A) where
  there_if : (b : Bool) (x : A) (o : Option A) → (b ≡ true → ⊥) → is_some (cond b (Some x) o) ≡ true → is_some o ≡ true
  there_if true x o h e = absurd (h refl)
  there_if false x o h e = e

  -- who is there after a rule that keeps ids was there before
  was_there : (rule : A → Option A) → ((x y : A) → rule x ≡ Some y → kin.id y ≡ kin.id x) → (xs : List A) (p : ℕ) → is_some (entry_at kin (prune kin rule xs) p) ≡ true → is_some (entry_at kin xs p) ≡ true
  was_there rule same [] p h = h
  was_there rule same (x ∷ xs) p h = one (rule x) refl h (was_there rule same xs p)
    where
      behind : (b : Bool) → is_some (entry_at kin xs p) ≡ true → is_some (cond b (Some x) (entry_at kin xs p)) ≡ true
      behind true e = refl
      behind false e = e

      front : (b c : Bool) (y : A) → c ≡ b → is_some (cond c (Some y) (entry_at kin (prune kin rule xs) p)) ≡ true
          → (is_some (entry_at kin (prune kin rule xs) p) ≡ true → is_some (entry_at kin xs p) ≡ true) → is_some (cond b (Some x) (entry_at kin xs p)) ≡ true
      front true c y e h rest = refl
      front false false y e h rest = rest h
      front false true y e h rest = absurd (cc)

      two : (y : A) (b : Bool) → rule x ≡ Some y → is_some (entry_at kin (cond b (y ∷ prune kin rule xs) (prune kin rule xs)) p) ≡ true
          → (is_some (entry_at kin (prune kin rule xs) p) ≡ true → is_some (entry_at kin xs p) ≡ true) → is_some (cond (kin.id x == p) (Some x) (entry_at kin xs p)) ≡ true
      two y true e h rest = front (kin.id x == p) (kin.id y == p) y (ap (λ (n : ℕ). n == p) (same x y e)) h rest
      two y false e h rest = behind (kin.id x == p) (rest h)

      one : (o : Option A) → rule x ≡ o → is_some (entry_at kin (kept kin o (prune kin rule xs)) p) ≡ true
          → (is_some (entry_at kin (prune kin rule xs) p) ≡ true → is_some (entry_at kin xs p) ≡ true) → is_some (cond (kin.id x == p) (Some x) (entry_at kin xs p)) ≡ true
      one None e h rest = behind (kin.id x == p) (rest h)
      one (Some y) e h rest = two y (parent_there kin (prune kin rule xs) (kin.parent y)) e h rest

  -- two rules, one after the other, are one
  pub prune_then : (first second : A → Option A) → ((x y : A) → second x ≡ Some y → (kin.id y ≡ kin.id x) × (kin.parent y ≡ kin.parent x)) → (xs : List A)
      → prune kin second (prune kin first xs) ≡ prune kin (λ x. and_then second (first x)) xs
  prune_then first second same [] = refl
  prune_then first second same (x ∷ xs) = one (first x) (prune_then first second same xs)
    where
      there : (o : Option ℕ) → parent_there kin (prune kin second (prune kin first xs)) o ≡ true → parent_there kin (prune kin first xs) o ≡ true
      there None h = refl
      there (Some p) h = was_there second (λ x y e. (same x y e).0) (prune kin first xs) p h

      four : (y z : A) (b : Bool) → second y ≡ Some z → parent_there kin (prune kin first xs) (kin.parent y) ≡ false → parent_there kin (prune kin second (prune kin first xs)) (kin.parent z) ≡ b
          → prune kin second (prune kin first xs) ≡ cond b (z ∷ prune kin second (prune kin first xs)) (prune kin second (prune kin first xs))
      four y z true e gone is =
          let back = there (kin.parent y) (subst (λ (o : Option ℕ). parent_there kin (prune kin second (prune kin first xs)) o ≡ true) (same y z e).1 is) in
          absurd (cc)
      four y z false e gone is = refl

      three : (y : A) (o : Option A) → second y ≡ o → parent_there kin (prune kin first xs) (kin.parent y) ≡ false
          → prune kin second (prune kin first xs) ≡ kept kin o (prune kin second (prune kin first xs))
      three y None e gone = refl
      three y (Some z) e gone = four y z (parent_there kin (prune kin second (prune kin first xs)) (kin.parent z)) e gone refl

      two : (y : A) (b : Bool) → parent_there kin (prune kin first xs) (kin.parent y) ≡ b
          → prune kin second (cond b (y ∷ prune kin first xs) (prune kin first xs)) ≡ kept kin (second y) (prune kin second (prune kin first xs))
      two y true is = refl
      two y false is = three y (second y) refl is

      one : (o : Option A) → prune kin second (prune kin first xs) ≡ prune kin (λ x. and_then second (first x)) xs
          → prune kin second (kept kin o (prune kin first xs)) ≡ kept kin (and_then second o) (prune kin (λ x. and_then second (first x)) xs)
      one None rest = rest
      one (Some y) rest = two y (parent_there kin (prune kin first xs) (kin.parent y)) refl ∙ ap (kept kin (second y)) rest

  -- rules that say the same of each entry
  pub prune_alike : (rule other : A → Option A) → ((x : A) → rule x ≡ other x) → (xs : List A) → prune kin rule xs ≡ prune kin other xs
  prune_alike rule other same [] = refl
  prune_alike rule other same (x ∷ xs) = ap (λ (o : Option A). kept kin o (prune kin rule xs)) (same x) ∙ ap (kept kin (other x)) (prune_alike rule other same xs)

-- Labels and groups: one decision after several is several.
among_append : (ms ns : List ℕ) (i : ℕ) → is_among (ms ++ ns) i ≡ (is_among ms i || is_among ns i)
among_append ms ns i = list_any-append (λ (m : ℕ). m == i) ms ns

pub filter_both : (p q : ℕ → Bool) (ns : List ℕ) → filter p (filter q ns) ≡ filter (λ n. q n && p n) ns
filter_both p q [] = refl
filter_both p q (n ∷ ns) = one (q n) (filter_both p q ns)
  where
    one : (b : Bool) → filter p (filter q ns) ≡ filter (λ n. q n && p n) ns
        → filter p (cond b (n ∷ filter q ns) (filter q ns)) ≡ cond (b && p n) (n ∷ filter (λ n. q n && p n) ns) (filter (λ n. q n && p n) ns)
    one true rest = ap (λ (z : List ℕ). cond (p n) (n ∷ z) z) rest
    one false rest = rest

others_more : (runs : List ℕ) (run : ℕ) (ns : List ℕ) → others run (others_than runs ns) ≡ others_than (runs ++ run ∷ []) ns
others_more runs run ns =
    filter_both (λ n. not (n == run)) (λ n. not (is_among runs n)) ns
    ∙ filter_agree (λ n. not (is_among runs n) && not (n == run)) (λ n. not (is_among (runs ++ run ∷ []) n)) passes ns
  where
    neither : (a b c : Bool) → b ≡ c → (not a && not c) ≡ not (a || (b || false))
    neither true b c e = refl
    neither false true true e = refl
    neither false false false e = refl
    neither false true false e = absurd (cc)
    neither false false true e = absurd (cc)

    passes : (n : ℕ) → (not (is_among runs n) && not (n == run)) ≡ not (is_among (runs ++ run ∷ []) n)
    passes n = neither (is_among runs n) (run == n) (n == run) (grind (arith, nat_tests)) ∙ sym (ap not (among_append runs (run ∷ []) n))

-- a run that is not among those decided is in a label before and after
among_others : (runs : List ℕ) (run : ℕ) (ns : List ℕ) → is_among runs run ≡ false → is_among (others_than runs ns) run ≡ is_among ns run
among_others runs run [] new = refl
among_others runs run (n ∷ ns) new = one (is_among runs n) refl (among_others runs run ns new)
  where
    differ : (c : Bool) → (n == run) ≡ c → is_among runs n ≡ true → c ≡ false
    differ true is e = let same : n ≡ run = grind (arith, nat_tests) in let both = ap (is_among runs) same in absurd (cc)
    differ false is e = refl

    one : (b : Bool) → is_among runs n ≡ b → is_among (others_than runs ns) run ≡ is_among ns run
        → is_among (cond (not b) (n ∷ others_than runs ns) (others_than runs ns)) run ≡ (n == run || is_among ns run)
    one true e rest = rest ∙ sym (ap (λ (b : Bool). b || is_among ns run) (differ (n == run) refl e))
    one false e rest = ap (λ (b : Bool). n == run || b) rest

foresaw_others : (outcome : Outcome) (runs : List ℕ) (run : ℕ) (label : List ℕ) → is_among runs run ≡ false → foresaw run outcome (others_than runs label) ≡ foresaw run outcome label
foresaw_others Completed runs run label new = among_others runs run label new
foresaw_others Abandoned runs run label new = ap not (among_others runs run label new)

foresaw_more : (outcome : ℕ → Outcome) (runs : List ℕ) (run : ℕ) (label : List ℕ) → foresaw_all outcome (runs ++ run ∷ []) label ≡ (foresaw_all outcome runs label && foresaw run (outcome run) label)
foresaw_more outcome runs run label =
    list_all-append (λ r. foresaw r (outcome r) label) runs (run ∷ []) ∙ ap (λ (b : Bool). foresaw_all outcome runs label && b) (last (foresaw run (outcome run) label))
  where
    last : (a : Bool) → (a && true) ≡ a
    last true = refl
    last false = refl

-- where no run is decided all are left
others_none : (ns : List ℕ) → others_than [] ns ≡ ns
others_none [] = refl
others_none (n ∷ ns) = ap (λ (z : List ℕ). n ∷ z) (others_none ns)

rule_more : (owner : ℕ) (outcome : ℕ → Outcome) (runs : List ℕ) (run : ℕ) → is_among runs run ≡ false → (v : Version)
    → and_then (decided owner run (outcome run)) (rule_of owner outcome runs v) ≡ rule_of owner outcome (runs ++ run ∷ []) v
rule_more owner outcome runs run new v = one (v.id == owner) refl (is_parent owner v.parent) refl
  where
    o : Outcome
    o = outcome run

    -- the child of the owner
    relabelled : (a : Bool) → (v.id == owner) ≡ false → is_parent owner v.parent ≡ true
        → and_then (decided owner run o) (cond a (Some (record v { label = others_than runs v.label })) None)
        ≡ cond (a && foresaw run o v.label) (Some (record v { label = others_than (runs ++ run ∷ []) v.label })) None
    relabelled false apart is = refl
    relabelled true apart is =
        let w : Version = record v { label = others_than runs v.label } in
        ap (λ (b : Bool). cond b (Some (record w { groups = others run w.groups })) (cond (is_parent owner v.parent) (child_decided run o w) (Some w))) apart
        ∙ ap (λ (b : Bool). cond b (child_decided run o w) (Some w)) is
        ∙ ap {B = Option Version} (λ (l : List ℕ). cond (foresaw run o (others_than runs v.label)) (Some (record v { label = l })) None) (others_more runs run v.label)
        ∙ ap {B = Option Version} (λ (b : Bool). cond b (Some (record v { label = others_than (runs ++ run ∷ []) v.label })) None) (foresaw_others o runs run v.label new)

    one : (a : Bool) → (v.id == owner) ≡ a → (b : Bool) → is_parent owner v.parent ≡ b
        → and_then (decided owner run o) (cond a (Some (record v { groups = others_than runs v.groups })) (cond b (child_of_decided outcome runs v) (Some v)))
        ≡ cond a (Some (record v { groups = others_than (runs ++ run ∷ []) v.groups })) (cond b (child_of_decided outcome (runs ++ run ∷ []) v) (Some v))
    one true is b at =
        let w : Version = record v { groups = others_than runs v.groups } in
        ap (λ (c : Bool). cond c (Some (record w { groups = others run w.groups })) (cond (is_parent owner v.parent) (child_decided run o w) (Some w))) is
        ∙ ap {B = Option Version} (λ (l : List ℕ). Some (record v { groups = l })) (others_more runs run v.groups)
    one false is true at =
        relabelled (foresaw_all outcome runs v.label) is at
        ∙ ap {B = Option Version} (λ (b : Bool). cond b (Some (record v { label = others_than (runs ++ run ∷ []) v.label })) None) (sym (foresaw_more outcome runs run v.label))
    one false is false at =
        ap (λ (c : Bool). cond c (Some (record v { groups = others run v.groups })) (cond (is_parent owner v.parent) (child_decided run o v) (Some v))) is
        ∙ ap (λ (c : Bool). cond c (child_decided run o v) (Some v)) at

rule_none : (owner : ℕ) (outcome : ℕ → Outcome) (v : Version) → rule_of owner outcome [] v ≡ Some v
rule_none owner outcome v = one (v.id == owner) (is_parent owner v.parent)
  where
    one : (a b : Bool) → cond a (Some (record v { groups = others_than [] v.groups })) (cond b (child_of_decided outcome [] v) (Some v)) ≡ Some v
    one true b = ap {B = Option Version} (λ (l : List ℕ). Some (record v { groups = l })) (others_none v.groups)
    one false true = ap {B = Option Version} (λ (l : List ℕ). Some (record v { label = l })) (others_none v.label)
    one false false = refl

-- the rule keeps ids
pub rule_id : (owner : ℕ) (outcome : ℕ → Outcome) (runs : List ℕ) (v w : Version) → rule_of owner outcome runs v ≡ Some w → w.id ≡ v.id
rule_id owner outcome runs v w h = one (v.id == owner) (is_parent owner v.parent) (foresaw_all outcome runs v.label) h
  where
    one : (a b c : Bool) → cond a (Some (record v { groups = others_than runs v.groups })) (cond b (cond c (Some (record v { label = others_than runs v.label })) None) (Some v)) ≡ Some w → w.id ≡ v.id
    one true b c h = let is : record v { groups = others_than runs v.groups } ≡ w = cc in ap (λ (z : Version). z.id) (sym is)
    one false true true h = let is : record v { label = others_than runs v.label } ≡ w = cc in ap (λ (z : Version). z.id) (sym is)
    one false true false h = absurd (cc)
    one false false c h = let is : v ≡ w = cc in ap (λ (z : Version). z.id) (sym is)

-- who is neither the owner nor a child of it stays
pub rule_aside : (owner : ℕ) (outcome : ℕ → Outcome) (runs : List ℕ) (v : Version) → (v.id == owner) ≡ false → is_parent owner v.parent ≡ false → rule_of owner outcome runs v ≡ Some v
rule_aside owner outcome runs v apart no_child =
    ap (λ (a : Bool). cond a (Some (record v { groups = others_than runs v.groups })) (cond (is_parent owner v.parent) (child_of_decided outcome runs v) (Some v))) apart
    ∙ ap (λ (b : Bool). cond b (child_of_decided outcome runs v) (Some v)) no_child

or_cases : (a b : Bool) → (a || b) ≡ true → (a ≡ true) ⊎ (b ≡ true)
or_cases true b h = inl refl
or_cases false b h = inr h

or_right : (a b : Bool) → b ≡ true → (a || b) ≡ true
or_right true b h = refl
or_right false b h = h

-- each number of a list is below all those behind it
tail_increases : (x : ℕ) (xs : List ℕ) → IsStrictlyIncreasing (x ∷ xs) → IsStrictlyIncreasing xs
tail_increases x xs h k l =
    let at : suc k + 1 ≡ suc (k + 1) = omega arith in
    subst (λ (j : ℕ). slice_index xs k < slice_index (x ∷ xs) j) at (h (suc k) (omega (arith, l)))

pub rises : (xs : List ℕ) → IsStrictlyIncreasing xs → Rises xs
rises [] h = tt
rises (x ∷ xs) h = (first_below xs h (rises xs (tail_increases x xs h)), rises xs (tail_increases x xs h))
  where
    first_below : (xs : List ℕ) → IsStrictlyIncreasing (x ∷ xs) → Rises xs → (r : ℕ) → is_among xs r ≡ true → x < r
    first_below [] h up r m = absurd (cc)
    first_below (y ∷ ys) h up r m =
        let low : x < y = h 0 (omega arith) in
        ⊎_elim (λ (e : (y == r) ≡ true). grind (arith, nat_tests)) (λ (e : is_among ys r ≡ true). let next = up.0 r e in omega arith) (or_cases (y == r) (is_among ys r) m)

module _ {V : Type 0} where
  pub lifted_then : (first second : Version → Option Version) (e : Entry V) → and_then (lifted second) (lifted first e) ≡ with_version e.value (and_then second (first e.version))
  lifted_then first second e = one (first e.version)
    where
      one : (o : Option Version) → and_then (lifted second) (with_version e.value o) ≡ with_version e.value (and_then second o)
      one None = refl
      one (Some v) = refl

  -- a decision keeps ids and parents
  pub decided_keeps : (owner run : ℕ) (outcome : Outcome) (x y : Entry V) → lifted (decided owner run outcome) x ≡ Some y → (y.version.id ≡ x.version.id) × (y.version.parent ≡ x.version.parent)
  decided_keeps owner run outcome x y h = one (x.version.id == owner) (is_parent owner x.version.parent) (foresaw run outcome x.version.label) h
    where
      v : Version
      v = x.version

      same : (w : Version) → w.id ≡ v.id → w.parent ≡ v.parent → with_version x.value (Some w) ≡ Some y → (y.version.id ≡ v.id) × (y.version.parent ≡ v.parent)
      same w id parent h =
          let e : Entry V = record { version = w; value = x.value } in
          let is : e ≡ y = cc in
          (ap (λ (e : Entry V). e.version.id) (sym is) ∙ id, ap (λ (e : Entry V). e.version.parent) (sym is) ∙ parent)

      one : (a b c : Bool) → with_version x.value (cond a (Some (record v { groups = others run v.groups })) (cond b (cond c (Some (record v { label = others run v.label })) None) (Some v))) ≡ Some y
          → (y.version.id ≡ v.id) × (y.version.parent ≡ v.parent)
      one true b c h = same (record v { groups = others run v.groups }) refl refl h
      one false true true h = same (record v { label = others run v.label }) refl refl h
      one false true false h = absurd (cc)
      one false false c h = same v refl refl h

  -- where a rule changes nothing, all stay
  all_stay : (rule : Version → Option Version) (es : List (Entry V)) → ((v : Version) → rule v ≡ Some v) → AreRooted es → prune kin (lifted rule) es ≡ es
  all_stay rule [] same rooted = refl
  all_stay rule (e ∷ es) same rooted =
      ap (λ (o : Option Version). kept kin (with_version e.value o) (prune kin (lifted rule) es)) (same e.version)
      ∙ ap (λ (z : List (Entry V)). cond (parent_there kin z e.version.parent) (e ∷ z) z) (all_stay rule es same rooted.1)
      ∙ ap (λ (b : Bool). cond b (e ∷ es) es) rooted.0

  none_decided : (owner : ℕ) (outcome : ℕ → Outcome) (es : List (Entry V)) → AreRooted es → prune kin (lifted (rule_of owner outcome [])) es ≡ es
  none_decided owner outcome es rooted = all_stay (rule_of owner outcome []) es (rule_none owner outcome) rooted

  more_decided : (owner : ℕ) (outcome : ℕ → Outcome) (runs : List ℕ) (run : ℕ) (es : List (Entry V)) → is_among runs run ≡ false
      → prune kin (lifted (decided owner run (outcome run))) (prune kin (lifted (rule_of owner outcome runs)) es) ≡ prune kin (lifted (rule_of owner outcome (runs ++ run ∷ []))) es
  more_decided owner outcome runs run es new =
      let first : Version → Option Version = rule_of owner outcome runs in
      let second : Version → Option Version = decided owner run (outcome run) in
      prune_then kin (lifted first) (lifted second) (decided_keeps owner run (outcome run)) es
      ∙ prune_alike kin (λ e. and_then (lifted second) (lifted first e)) (lifted (rule_of owner outcome (runs ++ run ∷ [])))
      (λ e. lifted_then first second e ∙ ap (with_version e.value) (rule_more owner outcome runs run new e.version)) es

  -- who has gone through some of the groups, and goes on
  each_on : (owner : ℕ) (stays : ℕ → Bool) (outcome : ℕ → Outcome) (runs groups : List ℕ) (es : List (Entry V)) → Rises groups → ((r : ℕ) → is_among groups r ≡ true → is_among runs r ≡ false)
      → decided_each owner stays outcome groups (prune kin (lifted (rule_of owner outcome runs)) es) ≡ prune kin (lifted (rule_of owner outcome (runs ++ filter (λ r. not (stays r)) groups))) es
  each_on owner stays outcome runs [] es up new = ap (λ (z : List ℕ). prune kin (lifted (rule_of owner outcome z)) es) (sym (append-nil runs))
  each_on owner stays outcome runs (g ∷ groups) es up new =
      one (stays g) (each_on owner stays outcome runs groups es up.1 (λ r m. new r (or_right (g == r) (is_among groups r) m)))
      (each_on owner stays outcome (runs ++ g ∷ []) groups es up.1 apart)
    where
      here : is_among runs g ≡ false
      here = new g (grind (arith, nat_tests))

      now : List (Entry V)
      now = prune kin (lifted (rule_of owner outcome runs)) es

      left : List ℕ
      left = filter (λ r. not (stays r)) groups

      apart : (r : ℕ) → is_among groups r ≡ true → is_among (runs ++ g ∷ []) r ≡ false
      apart r m =
          let low : g < r = up.0 r m in
          let old : is_among runs r ≡ false = new r (or_right (g == r) (is_among groups r) m) in
          among_append runs (g ∷ []) r ∙ ap (λ (b : Bool). b || (g == r || false)) old ∙ grind (arith, nat_tests)

      one : (b : Bool) → decided_each owner stays outcome groups now ≡ prune kin (lifted (rule_of owner outcome (runs ++ left))) es
          → decided_each owner stays outcome groups (prune kin (lifted (rule_of owner outcome (runs ++ g ∷ []))) es) ≡ prune kin (lifted (rule_of owner outcome ((runs ++ g ∷ []) ++ left))) es
          → decided_each owner stays outcome groups (cond b now (prune kin (lifted (decided owner g (outcome g))) now)) ≡ prune kin (lifted (rule_of owner outcome (runs ++ cond (not b) (g ∷ left) left))) es
      one true passed taken = passed
      one false passed taken =
          ap (decided_each owner stays outcome groups) (more_decided owner outcome runs g es here)
          ∙ taken
          ∙ ap (λ (z : List ℕ). prune kin (lifted (rule_of owner outcome z)) es) (append_assoc runs (g ∷ []) left)

  each_decided : (owner : ℕ) (stays : ℕ → Bool) (outcome : ℕ → Outcome) (groups : List ℕ) (es : List (Entry V)) → IsStrictlyIncreasing groups → AreRooted es
      → decided_each owner stays outcome groups es ≡ prune kin (lifted (rule_of owner outcome (filter (λ r. not (stays r)) groups))) es
  each_decided owner stays outcome groups es increasing rooted =
      ap (decided_each owner stays outcome groups) (sym (none_decided owner outcome es rooted)) ∙ each_on owner stays outcome [] groups es (rises groups increasing) (λ r m. refl)

  -- an entry that is there has an id below the top
  pub id_below : (top : ℕ) (es : List (Entry V)) (id : ℕ) → FallFrom top es → is_some (entry_at kin es id) ≡ true → id < top
  id_below top [] id fall there = absurd (cc)
  id_below top (e ∷ es) id fall there = one (e.version.id == id) refl there (id_below e.version.id es id fall.1)
    where
      one : (b : Bool) → (e.version.id == id) ≡ b → is_some (cond b (Some e) (entry_at kin es id)) ≡ true → (is_some (entry_at kin es id) ≡ true → id < e.version.id) → id < top
      one true is there rest = let low = fall.0 in let same : e.version.id ≡ id = grind (arith, nat_tests) in omega arith
      one false is there rest = let low = fall.0 in let next = rest there in omega arith

  -- versions older than the owner stay as they are
  older_stay : (owner : ℕ) (outcome : ℕ → Outcome) (runs : List ℕ) (top : ℕ) (es : List (Entry V)) → FallFrom top es → top ≤ owner → AreRooted es → prune kin (lifted (rule_of owner outcome runs)) es ≡ es
  older_stay owner outcome runs top [] fall most rooted = refl
  older_stay owner outcome runs top (e ∷ es) fall most rooted =
      let low = fall.0 in
      ap (λ (o : Option Version). kept kin (with_version e.value o) (prune kin (lifted (rule_of owner outcome runs)) es)) (rule_aside owner outcome runs e.version (grind (arith, nat_tests)) (no_child e.version.parent rooted.0))
      ∙ ap (λ (z : List (Entry V)). cond (parent_there kin z e.version.parent) (e ∷ z) z) (older_stay owner outcome runs e.version.id es fall.1 (omega arith) rooted.1)
      ∙ ap (λ (b : Bool). cond b (e ∷ es) es) rooted.0
    where
      no_child : (o : Option ℕ) → parent_there kin es o ≡ true → is_parent owner o ≡ false
      no_child None there = refl
      no_child (Some p) there = let low = fall.0 in let below = id_below e.version.id es p fall.1 there in grind (arith, nat_tests)

  owner_is_kept : (owner : ℕ) (outcome : ℕ → Outcome) (runs : List ℕ) (top : ℕ) (es : List (Entry V)) (e : Entry V) → FallFrom top es → AreRooted es → entry_at kin es owner ≡ Some e
      → entry_at kin (prune kin (lifted (rule_of owner outcome runs)) es) owner ≡ Some (with_groups (others_than runs e.version.groups) e)
  owner_is_kept owner outcome runs top [] e fall rooted at = absurd (cc)
  owner_is_kept owner outcome runs top (x ∷ es) e fall rooted at = one (x.version.id == owner) refl at (owner_is_kept owner outcome runs x.version.id es e fall.1 rooted.1)
    where
      rule : Version → Option Version
      rule = rule_of owner outcome runs

      rest : List (Entry V)
      rest = prune kin (lifted (rule_of owner outcome runs)) es

      mine : Entry V
      mine = with_groups (others_than runs x.version.groups) x

      newer : (o : Option Version) → rule_of owner outcome runs x.version ≡ o → (x.version.id == owner) ≡ false → entry_at kin rest owner ≡ Some (with_groups (others_than runs e.version.groups) e)
          → entry_at kin (kept kin (with_version x.value o) rest) owner ≡ Some (with_groups (others_than runs e.version.groups) e)
      newer None is apart found = found
      newer (Some w) is apart found = two (parent_there kin rest w.parent)
        where
          two : (b : Bool) → entry_at kin (cond b (record { version = w; value = x.value } ∷ rest) rest) owner ≡ Some (with_groups (others_than runs e.version.groups) e)
          two true = ap (λ (n : ℕ). cond (n == owner) (Some (record { version = w; value = x.value })) (entry_at kin rest owner)) (rule_id owner outcome runs x.version w is) ∙ ap (λ (b : Bool). cond b (Some (record { version = w; value = x.value })) (entry_at kin rest owner)) apart ∙ found
          two false = found

      one : (b : Bool) → (x.version.id == owner) ≡ b → cond b (Some x) (entry_at kin es owner) ≡ Some e
          → (entry_at kin es owner ≡ Some e → entry_at kin rest owner ≡ Some (with_groups (others_than runs e.version.groups) e))
          → entry_at kin (kept kin (lifted (rule_of owner outcome runs) x) rest) owner ≡ Some (with_groups (others_than runs e.version.groups) e)
      one true is at found =
          let same : x ≡ e = cc in
          let here : x.version.id ≡ owner = grind (arith, nat_tests) in
          ap (λ (b : Bool). entry_at kin (kept kin (with_version x.value (cond b (Some mine.version) (cond (is_parent owner x.version.parent) (child_of_decided outcome runs x.version) (Some x.version)))) rest) owner) is
          ∙ ap (λ (z : List (Entry V)). entry_at kin (cond (parent_there kin z x.version.parent) (mine ∷ z) z) owner) (older_stay owner outcome runs x.version.id es fall.1 (omega arith) rooted.1)
          ∙ ap (λ (b : Bool). entry_at kin (cond b (mine ∷ es) es) owner) rooted.0
          ∙ ap (λ (b : Bool). cond b (Some mine) (entry_at kin es owner)) is
          ∙ ap (λ (z : Entry V). Some (with_groups (others_than runs z.version.groups) z)) same
      one false is at found = newer (rule_of owner outcome runs x.version) refl is (found at)

  -- whether a parent is there does not hang on groups
  bare_there : (es : List (Entry V)) (p : Option ℕ) → parent_there kin (map bare es) p ≡ parent_there kin es p
  bare_there es None = refl
  bare_there es (Some p) = at es
    where
      at : (es : List (Entry V)) → is_some (entry_at kin (map bare es) p) ≡ is_some (entry_at kin es p)
      at [] = refl
      at (e ∷ es) = one (e.version.id == p) (at es)
        where
          one : (b : Bool) → is_some (entry_at kin (map bare es) p) ≡ is_some (entry_at kin es p) → is_some (cond b (Some (bare e)) (entry_at kin (map bare es) p)) ≡ is_some (cond b (Some e) (entry_at kin es p))
          one true same = refl
          one false same = same

  -- an entry, or none, without its groups
  abbrev bare_one : Option (Entry V) → Option (Entry V)
  bare_one None = None
  bare_one (Some e) = Some (bare e)

  bare_kept : (o : Option (Entry V)) (es : List (Entry V)) → map bare (kept kin o es) ≡ kept kin (bare_one o) (map bare es)
  bare_kept None es = refl
  bare_kept (Some e) es = one (parent_there kin es e.version.parent) (parent_there kin (map bare es) e.version.parent) (bare_there es e.version.parent)
    where
      one : (a b : Bool) → b ≡ a → map bare (cond a (e ∷ es) es) ≡ cond b (bare e ∷ map bare es) (map bare es)
      one true true same = refl
      one false false same = refl
      one true false same = absurd (cc)
      one false true same = absurd (cc)

  bare_rule : (owner : ℕ) (outcome : ℕ → Outcome) (runs : List ℕ) (e : Entry V) → bare_one (lifted (rule_of owner outcome runs) e) ≡ lifted (rule_of owner outcome runs) (bare e)
  bare_rule owner outcome runs e = one (e.version.id == owner) (is_parent owner e.version.parent) (foresaw_all outcome runs e.version.label)
    where
      v : Version
      v = e.version

      w : Version
      w = record v { groups = [] }

      one : (a b c : Bool) → bare_one (with_version e.value (cond a (Some (record v { groups = others_than runs v.groups })) (cond b (cond c (Some (record v { label = others_than runs v.label })) None) (Some v))))
          ≡ with_version e.value (cond a (Some (record w { groups = others_than runs w.groups })) (cond b (cond c (Some (record w { label = others_than runs w.label })) None) (Some w)))
      one true b c = refl
      one false true true = refl
      one false true false = refl
      one false false c = refl

  bare_decided : (owner : ℕ) (outcome : ℕ → Outcome) (runs : List ℕ) (es : List (Entry V)) → map bare (prune kin (lifted (rule_of owner outcome runs)) es) ≡ prune kin (lifted (rule_of owner outcome runs)) (map bare es)
  bare_decided owner outcome runs [] = refl
  bare_decided owner outcome runs (e ∷ es) =
      bare_kept (lifted (rule_of owner outcome runs) e) (prune kin (lifted (rule_of owner outcome runs)) es)
      ∙ ap (λ (o : Option (Entry V)). kept kin o (map bare (prune kin (lifted (rule_of owner outcome runs)) es))) (bare_rule owner outcome runs e)
      ∙ ap (kept kin (lifted (rule_of owner outcome runs) (bare e))) (bare_decided owner outcome runs es)

  -- a group that opens
  bare_opened : (owner run : ℕ) (es : List (Entry V)) → map bare (opened_for owner run es) ≡ map bare es
  bare_opened owner run [] = refl
  bare_opened owner run (e ∷ es) = one (e.version.id == owner) (bare_opened owner run es)
    where
      one : (b : Bool) → map bare (opened_for owner run es) ≡ map bare es → map bare (cond b (record { version = with_run run e.version; value = e.value } ∷ es) (e ∷ opened_for owner run es)) ≡ bare e ∷ map bare es
      one true same = refl
      one false same = ap (λ (z : List (Entry V)). bare e ∷ z) same

  owner_opened : (owner run : ℕ) (es : List (Entry V)) (e : Entry V) → entry_at kin es owner ≡ Some e → entry_at kin (opened_for owner run es) owner ≡ Some (with_groups (with_number e.version.groups run) e)
  owner_opened owner run [] e at = absurd (cc)
  owner_opened owner run (x ∷ es) e at = one (x.version.id == owner) refl at (owner_opened owner run es e)
    where
      mine : Entry V
      mine = record { version = with_run run x.version; value = x.value }

      one : (b : Bool) → (x.version.id == owner) ≡ b → cond b (Some x) (entry_at kin es owner) ≡ Some e
          → (entry_at kin es owner ≡ Some e → entry_at kin (opened_for owner run es) owner ≡ Some (with_groups (with_number e.version.groups run) e))
          → entry_at kin (cond b (mine ∷ es) (x ∷ opened_for owner run es)) owner ≡ Some (with_groups (with_number e.version.groups run) e)
      one true is at rest = let same : x ≡ e = cc in ap (λ (b : Bool). cond b (Some mine) (entry_at kin es owner)) is ∙ ap (λ (z : Entry V). Some (with_groups (with_number z.version.groups run) z)) same
      one false is at rest = ap (λ (b : Bool). cond b (Some x) (entry_at kin (opened_for owner run es) owner)) is ∙ rest at

  there_opened : (owner run : ℕ) (es : List (Entry V)) (p : Option ℕ) → parent_there kin (opened_for owner run es) p ≡ parent_there kin es p
  there_opened owner run es p = sym (bare_there (opened_for owner run es) p) ∙ ap (λ (z : List (Entry V)). parent_there kin z p) (bare_opened owner run es) ∙ bare_there es p

  rooted_opened : (owner run : ℕ) (es : List (Entry V)) → AreRooted es → AreRooted (opened_for owner run es)
  rooted_opened owner run [] rooted = tt
  rooted_opened owner run (e ∷ es) rooted = one (e.version.id == owner) (rooted_opened owner run es rooted.1)
    where
      one : (b : Bool) → AreRooted (opened_for owner run es) → AreRooted (cond b (record { version = with_run run e.version; value = e.value } ∷ es) (e ∷ opened_for owner run es))
      one true rest = (rooted.0, rooted.1)
      one false rest = (there_opened owner run es e.version.parent ∙ rooted.0, rest)

  fall_opened : (owner run top : ℕ) (es : List (Entry V)) → FallFrom top es → FallFrom top (opened_for owner run es)
  fall_opened owner run top [] fall = tt
  fall_opened owner run top (e ∷ es) fall = one (e.version.id == owner) (fall_opened owner run e.version.id es fall.1)
    where
      one : (b : Bool) → FallFrom e.version.id (opened_for owner run es) → FallFrom top (cond b (record { version = with_run run e.version; value = e.value } ∷ es) (e ∷ opened_for owner run es))
      one true rest = (fall.0, fall.1)
      one false rest = (fall.0, rest)

pub decisions_add : (V : Type 0) → DecisionsAddUp V
decisions_add V = record { none = none_decided; more = more_decided; owner_stays = owner_is_kept; each = each_decided; bares = bare_decided }

pub openings_change : (V : Type 0) → OpeningsChangeGroups V
openings_change V = record { bares = bare_opened; owner = owner_opened; rooted = rooted_opened; fall = fall_opened }
