-- What a reading does to the labels below the version that read.
use Rattle.std.proofs.Common.{◌≡◌, ◌≢◌, ℕ, ◌⊎◌, Bool, true, false, cond, not, ◌&&◌, ◌||◌, ◌==◌, List, [], ◌∷◌, filter, Option, Some, None, ⊎_elim, refl, sym, ap, ◌∙◌, subst, arith}
use Rattle.std.specs.List.{flat_map, list_all}
use Rattle.std.proofs.lemmas.Bool.Decides.{nat_tests}
use Rattle.std.proofs.lemmas.List.Elements.{All-filter}
use Rattle.std.proofs.lemmas.List.Kept.{IsStrictlyIncreasing-filter}
use Rattle.sp_base.proofs.RisingLists.{rising_same}
use Rattle.sp_base.specs.Numbers.{is_among}
use Rattle.sp_plan.specs.declared.event.Event.{Event}
use Rattle.sp_plan.specs.declared.plan.Plan.{Plan}
use Rattle.sp_plan.specs.Runs.{Started, State, used}
use Rattle.sp_plan.specs.Moves.{is_run, pairs_of}
use Rattle.sp_plan.specs.Groups.{group, used_by_all}
use Rattle.sp_group.specs.Rising.{IsLabel, has_number}
use Rattle.sp_group.specs.Family.{is_parent}
use Rattle.sp_group.specs.Machine.{Version, version_at, inner, is_group, is_spent, is_named, is_withheld}
use Rattle.sp_group.specs.Effects.{is_newly_spent, names_completed, names_no_abandoned, child_after, after_reading, but}
use Rattle.sp_rules.specs.Kept.{Shape}
use Rattle.sp_rules.proofs.Facts.{ReadsOn}
use Rattle.sp_rules.proofs.Lists.{or_cases, or_left, or_right, and_left, and_right, and_both, filter_mem, mem_filter, all_mem, split}
use Rattle.sp_rules.proofs.Tree.{Names, Prunes, parent_is}

-- a part of a label is a label
label_filter : (p : ℕ → Bool) (xs : List ℕ) → IsLabel xs → IsLabel (filter p xs)
label_filter p xs label = record { rising = IsStrictlyIncreasing-filter p xs label.rising; given = All-filter p (λ r. r ≢ 0) xs label.given }

-- a label foresees what is decided on the way from the runs s to the runs t
abbrev pub foresees : Plan → State → State → List ℕ → Bool
foresees q s t label = names_completed q s t label && names_no_abandoned q t label

-- what becomes of a version in a reading of another, or its own
pub data Outcome (q : Plan) (id : ℕ) (new : Version) (s t : State) (v v' : Version) : Type 0 where
  itself : v.id ≡ id → v' ≡ new → Outcome q id new s t v v'
  child : v.id ≢ id → v.parent ≡ Some id → foresees q s t v.label ≡ true → v' ≡ record v { label = filter (is_group q t) v.label } → Outcome q id new s t v v'
  other : v.id ≢ id → (v.parent ≡ Some id → ⊥) → v' ≡ v → Outcome q id new s t v v'

pub child_is : (id : ℕ) (o : Option ℕ) → is_parent id o ≡ true → o ≡ Some id
child_is id None h = absurd (cc)
child_is id (Some p) h = grind (arith, nat_tests)

pub no_child : (id : ℕ) (o : Option ℕ) → is_parent id o ≡ false → o ≡ Some id → ⊥
no_child id None h e = absurd (cc)
no_child id (Some p) h e = grind (arith, nat_tests)

module _ (q : Plan) where
  pub named_is : (s : State) (l : List ℕ) (i : ℕ) → is_named q s l i ≡ true → (r : ℕ) × (is_among l r ≡ true) × (is_among (group q s r) i ≡ true)
  named_is s [] i h = absurd (cc)
  named_is s (x ∷ xs) i h = ⊎_elim
      (λ (y : is_among (group q s x) i ≡ true). (x, grind (arith, nat_tests), y))
      (λ (y : is_named q s xs i ≡ true). let z = named_is s xs i y in (z.0, or_right (x == z.0) (is_among xs z.0) z.1, z.2))
      (or_cases (is_among (group q s x) i) (is_named q s xs i) h)

  pub is_named_by : (s : State) (l : List ℕ) (i r : ℕ) → is_among l r ≡ true → is_among (group q s r) i ≡ true → is_named q s l i ≡ true
  is_named_by s [] i r m h = absurd (cc)
  is_named_by s (x ∷ xs) i r m h = ⊎_elim
      (λ (y : (x == r) ≡ true). let same : x ≡ r = grind (arith, nat_tests) in or_left (is_among (group q s x) i) (is_named q s xs i) (subst (λ (z : ℕ). is_among (group q s z) i ≡ true) (sym same) h))
      (λ (y : is_among xs r ≡ true). or_right (is_among (group q s x) i) (is_named q s xs i) (is_named_by s xs i r y h))
      (or_cases (x == r) (is_among xs r) m)

  -- every member of a label that foresees what is decided is a group, or was spent
  pub member_fate : (s t : State) (l : List ℕ) (r : ℕ) → foresees q s t l ≡ true → is_among l r ≡ true → (is_group q t r ≡ true) ⊎ (is_spent q t r ≡ true)
  member_fate s t l r h m = or_cases (is_group q t r) (is_spent q t r) (all_mem r (λ r. is_group q t r || is_spent q t r) l (and_right (names_completed q s t l) (names_no_abandoned q t l) h) m)

  pub label_grows : (s t : State) (l : List ℕ) (i : ℕ) → ReadsOn q s t → foresees q s t l ≡ true → is_withheld q s l i ≡ true → is_withheld q t (filter (is_group q t) l) i ≡ true
  label_grows s t l i k h e = ⊎_elim
      (λ (y : is_among (used_by_all q s) i ≡ true). or_left (is_among (used_by_all q t) i) (is_named q t (filter (is_group q t) l) i) (k.more i y))
      (λ (y : is_named q s l i ≡ true).
      let z = named_is s l i y in
      ⊎_elim
      (λ (g : is_group q t z.0 ≡ true).
      or_right (is_among (used_by_all q t) i) (is_named q t (filter (is_group q t) l) i) (is_named_by t (filter (is_group q t) l) i z.0 (filter_mem z.0 (is_group q t) l z.1 g) (k.grows z.0 i g z.2)))
      (λ (g : is_spent q t z.0 ≡ true). or_left (is_among (used_by_all q t) i) (is_named q t (filter (is_group q t) l) i) (k.spends z.0 i g z.2))
      (member_fate s t l z.0 h z.1))
      (or_cases (is_among (used_by_all q s) i) (is_named q s l i) e)

  -- a label that names the runs that completed names this one
  pub names_it : (s t : State) (l : List ℕ) (runs : List Started) (r : ℕ) → list_all (λ run. not (is_newly_spent q s t run.0) || is_among l run.0) runs ≡ true → has_number (used q (pairs_of runs r)) ≡ true → is_newly_spent q s t r ≡ true → is_among l r ≡ true
  names_it s t l [] r h f n = absurd (cc)
  names_it s t l (x ∷ runs) r h f n = one (is_run r x) refl f (names_it s t l runs r (and_right (not (is_newly_spent q s t x.0) || is_among l x.0) (list_all (λ run. not (is_newly_spent q s t run.0) || is_among l run.0) runs) h))
    where
      here : x.0 ≡ r → is_among l r ≡ true
      here same =
          let a : (not (is_newly_spent q s t r) || is_among l r) ≡ true = subst (λ (z : ℕ). (not (is_newly_spent q s t z) || is_among l z) ≡ true) same (and_left (not (is_newly_spent q s t x.0) || is_among l x.0) (list_all (λ run. not (is_newly_spent q s t run.0) || is_among l run.0) runs) h) in
          subst (λ (b : Bool). (not b || is_among l r) ≡ true) n a

      one : (b : Bool) → (x.0 == r) ≡ b → has_number (used q (flat_map (λ (run : Started). run.1) (cond b (x ∷ filter (is_run r) runs) (filter (is_run r) runs)))) ≡ true
          → (has_number (used q (pairs_of runs r)) ≡ true → is_newly_spent q s t r ≡ true → is_among l r ≡ true) → is_among l r ≡ true
      one true e g ih = here (grind (arith, nat_tests))
      one false e g ih = ih g n

  half : (s t : State) (l m : List ℕ) → ReadsOn q s t → ((r : ℕ) → is_among l r ≡ true → is_group q s r ≡ true) → foresees q s t l ≡ true → foresees q s t m ≡ true → filter (is_group q t) l ≡ filter (is_group q t) m → (r : ℕ) → is_among l r ≡ true → is_among m r ≡ true
  half s t l m k nl hl hm e r ml = ⊎_elim
      (λ (g : is_group q t r ≡ true). (mem_filter r (is_group q t) m (subst (λ (z : List ℕ). is_among z r ≡ true) e (filter_mem r (is_group q t) l ml g))).0)
      (λ (g : is_spent q t r ≡ true). names_it s t m t.matched r (and_left (names_completed q s t m) (names_no_abandoned q t m) hm) g (new (is_spent q s r) refl g))
      (member_fate s t l r hl ml)
    where
      new : (b : Bool) → is_spent q s r ≡ b → is_spent q t r ≡ true → is_newly_spent q s t r ≡ true
      new true is g = absurd (k.apart r (nl r ml) is)
      new false is g = and_both (is_spent q t r) (not (is_spent q s r)) g (ap not is)

  -- two labels that both foresee what is decided, and become one, were one
  pub labels_apart : (s t : State) (l m : List ℕ) → ReadsOn q s t → ((r : ℕ) → is_among l r ≡ true → is_group q s r ≡ true) → ((r : ℕ) → is_among m r ≡ true → is_group q s r ≡ true) → foresees q s t l ≡ true → foresees q s t m ≡ true → IsLabel l → IsLabel m → filter (is_group q t) l ≡ filter (is_group q t) m → l ≡ m
  labels_apart s t l m k nl nm hl hm rl rm e = rising_same l m rl.rising rm.rising (half s t l m k nl hl hm e) (half s t m l k nm hm hl (sym e))

  pub outcome : (id : ℕ) (new : Version) (s t : State) (v v' : Version) → after_reading q id new s t v ≡ Some v' → Outcome q id new s t v v'
  outcome id new s t v v' e = one (v.id == id) refl e
    where
      three : (b : Bool) → foresees q s t v.label ≡ b → v.id ≢ id → v.parent ≡ Some id → cond b (Some (record v { label = filter (is_group q t) v.label })) None ≡ Some v' → Outcome q id new s t v v'
      three true st n is h = child n is st (cc)
      three false st n is h = absurd (cc)

      two : (b : Bool) → is_parent id v.parent ≡ b → v.id ≢ id → cond b (child_after q s t v) (Some v) ≡ Some v' → Outcome q id new s t v v'
      two true is n h = three (foresees q s t v.label) refl n (child_is id v.parent is) h
      two false is n h = other n (no_child id v.parent is) (cc)

      one : (b : Bool) → (v.id == id) ≡ b → cond b (Some new) (cond (is_parent id v.parent) (child_after q s t v) (Some v)) ≡ Some v' → Outcome q id new s t v v'
      one true is h = itself (grind (arith, nat_tests)) (cc)
      one false is h = two (is_parent id v.parent) refl (grind (arith, nat_tests)) h

  -- the reading of a version below which others stand
  pub reading_prunes : (E : List Event) (fin : ℕ) (vs : List Version) (old new : Version)
      → Shape q (inner q E) fin vs → version_at vs old.id ≡ Some old
      → new.id ≡ old.id → new.parent ≡ old.parent → new.window ≡ old.window → new.label ≡ old.label
      → ReadsOn q (inner q E old) (inner q E new)
      → Prunes q (inner q E) (after_reading q old.id new (inner q E old) (inner q E new)) (λ v. version_at vs v.id ≡ Some v)
  reading_prunes E fin vs old new sh at nid npar nwin nlab lds =
      record {
        same_id = λ v v' is e. id_ v v' is (outcome old.id new s t v v' e);
        same_parent = λ v v' is e. parent_ v v' is (outcome old.id new s t v v' e);
        same_window = λ v v' is e. window_ v v' is (outcome old.id new s t v v' e);
        labels = λ v v' is e h. labels_ v v' is (outcome old.id new s t v v' e) h;
        unlabelled = λ v v' is e h. unlabelled_ v v' is (outcome old.id new s t v v' e) h;
        edges = λ u u' v v' iu iv eu ev p n i h. edges_ u u' v v' iu iv (outcome old.id new s t u u' eu) (outcome old.id new s t v v' ev) p n i h;
        names = λ u u' v v' iu iv eu ev p n. names_ u u' v v' iu iv (outcome old.id new s t u u' eu) (outcome old.id new s t v v' ev) p n;
        apart = λ u u' v v' w w' iu iv iw eu ev ew pv pw nv nw rv rw e. apart_ u u' v v' w w' iu iv iw (outcome old.id new s t u u' eu) (outcome old.id new s t v v' ev) (outcome old.id new s t w w' ew) pv pw nv nw rv rw e;
      }
    where
      f : Version → State
      f = inner q E

      s : State
      s = inner q E old

      t : State
      t = inner q E new

      Is : Version → Type 0
      Is v = version_at vs v.id ≡ Some v

      Out : Version → Version → Type 0
      Out v v' = Outcome q old.id new (inner q E old) (inner q E new) v v'

      same_old : (v : Version) → Is v → v.id ≡ old.id → v ≡ old
      same_old v is e = let h : version_at vs old.id ≡ Some v = subst (λ (n : ℕ). version_at vs n ≡ Some v) e is in cc

      not_own : (v : Version) → Is v → v.parent ≡ Some v.id → ⊥
      not_own v is p = let x = parent_is q f fin vs sh v.id v.id v is p in let same : x.0 ≡ v = cc in let w : x.0.window ≡ v.window = ap (λ (z : Version). z.window) same in let n = x.2 in omega arith

      id_ : (v v' : Version) → Is v → Out v v' → v'.id ≡ v.id
      id_ v v' is (itself e x) = ap (λ (z : Version). z.id) x ∙ nid ∙ sym e
      id_ v v' is (child n p st x) = ap (λ (z : Version). z.id) x
      id_ v v' is (other n p x) = ap (λ (z : Version). z.id) x

      parent_ : (v v' : Version) → Is v → Out v v' → v'.parent ≡ v.parent
      parent_ v v' is (itself e x) = ap (λ (z : Version). z.parent) x ∙ npar ∙ ap (λ (z : Version). z.parent) (sym (same_old v is e))
      parent_ v v' is (child n p st x) = ap (λ (z : Version). z.parent) x
      parent_ v v' is (other n p x) = ap (λ (z : Version). z.parent) x

      window_ : (v v' : Version) → Is v → Out v v' → v'.window ≡ v.window
      window_ v v' is (itself e x) = ap (λ (z : Version). z.window) x ∙ nwin ∙ ap (λ (z : Version). z.window) (sym (same_old v is e))
      window_ v v' is (child n p st x) = ap (λ (z : Version). z.window) x
      window_ v v' is (other n p x) = ap (λ (z : Version). z.window) x

      own_label : (v v' : Version) → Is v → v.id ≡ old.id → v' ≡ new → v'.label ≡ v.label
      own_label v v' is e x = ap (λ (z : Version). z.label) x ∙ nlab ∙ ap (λ (z : Version). z.label) (sym (same_old v is e))

      labels_ : (v v' : Version) → Is v → Out v v' → IsLabel v.label → IsLabel v'.label
      labels_ v v' is (itself e x) h = subst IsLabel (sym (own_label v v' is e x)) h
      labels_ v v' is (child n p st x) h = subst (λ (z : Version). IsLabel z.label) (sym x) (label_filter (is_group q t) v.label h)
      labels_ v v' is (other n p x) h = subst (λ (z : Version). IsLabel z.label) (sym x) h

      unlabelled_ : (v v' : Version) → Is v → Out v v' → v.label ≡ [] → v'.label ≡ []
      unlabelled_ v v' is (itself e x) h = own_label v v' is e x ∙ h
      unlabelled_ v v' is (child n p st x) h = ap (λ (z : Version). z.label) x ∙ ap (filter (is_group q t)) h
      unlabelled_ v v' is (other n p x) h = ap (λ (z : Version). z.label) x ∙ h

      lab_same : (u v v' : Version) → u.id ≢ old.id → Is v → v.parent ≡ Some u.id → Out v v' → v'.label ≡ v.label
      lab_same u v v' nu is p (itself e x) = own_label v v' is e x
      lab_same u v v' nu is p (child n q st x) = absurd (nu (cc))
      lab_same u v v' nu is p (other n q x) = ap (λ (z : Version). z.label) x

      lab_child : (u v v' : Version) → u.id ≡ old.id → Is v → v.parent ≡ Some u.id → Out v v' → (foresees q s t v.label ≡ true) × (v'.label ≡ filter (is_group q t) v.label)
      lab_child u v v' eu is p (itself e x) = absurd (not_own v is (p ∙ ap Some (eu ∙ sym e)))
      lab_child u v v' eu is p (child n q st x) = (st, ap (λ (z : Version). z.label) x)
      lab_child u v v' eu is p (other n q x) = absurd (q (p ∙ ap Some eu))

      inner_same : (u u' : Version) → u.id ≢ old.id → Out u u' → f u' ≡ f u
      inner_same u u' nu (itself e x) = absurd (nu e)
      inner_same u u' nu (child n q st x) = ap f x
      inner_same u u' nu (other n q x) = ap f x

      inner_old : (u : Version) → u.id ≡ old.id → Is u → f u ≡ s
      inner_old u e is = ap f (same_old u is e)

      inner_new : (u u' : Version) → u.id ≡ old.id → Out u u' → f u' ≡ t
      inner_new u u' eu (itself e x) = ap f x
      inner_new u u' eu (child n q st x) = absurd (n eu)
      inner_new u u' eu (other n q x) = absurd (n eu)

      edges_ : (u u' v v' : Version) → Is u → Is v → Out u u' → Out v v' → v.parent ≡ Some u.id → Names q f u v.label → (i : ℕ) → is_withheld q (f u) v.label i ≡ true → is_withheld q (f u') v'.label i ≡ true
      edges_ u u' v v' iu iv ou ov p n i h = ⊎_elim
          (λ (e : u.id ≡ old.id).
          let c = lab_child u v v' e iv p ov in
          let a : is_withheld q s v.label i ≡ true = subst (λ (z : State). is_withheld q z v.label i ≡ true) (inner_old u e iu) h in
          let b = label_grows s t v.label i lds c.0 a in
          subst (λ (z : List ℕ). is_withheld q (f u') z i ≡ true) (sym c.1) (subst (λ (z : State). is_withheld q z (filter (is_group q t) v.label) i ≡ true) (sym (inner_new u u' e ou)) b))
          (λ (e : u.id ≢ old.id).
          subst (λ (z : List ℕ). is_withheld q (f u') z i ≡ true) (sym (lab_same u v v' e iv p ov)) (subst (λ (z : State). is_withheld q z v.label i ≡ true) (sym (inner_same u u' e ou)) h))
          (split u.id old.id)

      names_ : (u u' v v' : Version) → Is u → Is v → Out u u' → Out v v' → v.parent ≡ Some u.id → Names q f u v.label → Names q f u' v'.label
      names_ u u' v v' iu iv ou ov p n r m = ⊎_elim
          (λ (e : u.id ≡ old.id).
          let c = lab_child u v v' e iv p ov in
          let m' : is_among (filter (is_group q t) v.label) r ≡ true = subst (λ (z : List ℕ). is_among z r ≡ true) c.1 m in
          subst (λ (z : State). is_group q z r ≡ true) (sym (inner_new u u' e ou)) (mem_filter r (is_group q t) v.label m').1)
          (λ (e : u.id ≢ old.id).
          subst (λ (z : State). is_group q z r ≡ true) (sym (inner_same u u' e ou)) (n r (subst (λ (z : List ℕ). is_among z r ≡ true) (lab_same u v v' e iv p ov) m)))
          (split u.id old.id)

      apart_ : (u u' v v' w w' : Version) → Is u → Is v → Is w → Out u u' → Out v v' → Out w w' → v.parent ≡ Some u.id → w.parent ≡ Some u.id → Names q f u v.label → Names q f u w.label → IsLabel v.label → IsLabel w.label → w'.label ≡ v'.label → w.label ≡ v.label
      apart_ u u' v v' w w' iu iv iw ou ov ow pv pw nv nw rv rw' e = ⊎_elim
          (λ (eu : u.id ≡ old.id).
          let c = lab_child u v v' eu iv pv ov in
          let d = lab_child u w w' eu iw pw ow in
          let to : f u ≡ s = inner_old u eu iu in
          labels_apart s t w.label v.label lds
          (λ r m. subst (λ (z : State). is_group q z r ≡ true) to (nw r m)) (λ r m. subst (λ (z : State). is_group q z r ≡ true) to (nv r m))
          d.0 c.0 rw' rv (sym d.1 ∙ e ∙ c.1))
          (λ (eu : u.id ≢ old.id). sym (lab_same u w w' eu iw pw ow) ∙ e ∙ lab_same u v v' eu iv pv ov)
          (split u.id old.id)

  -- taking away one version and all below it
  pub but_prunes : (f : Version → State) (id : ℕ) (Is : Version → Type 0) → Prunes q f (but id) Is
  but_prunes f id Is = record {
    same_id = λ v v' is e. ap (λ (z : Version). z.id) (same v v' e);
    same_parent = λ v v' is e. ap (λ (z : Version). z.parent) (same v v' e);
    same_window = λ v v' is e. ap (λ (z : Version). z.window) (same v v' e);
    labels = λ v v' is e h. subst (λ (z : Version). IsLabel z.label) (sym (same v v' e)) h;
    unlabelled = λ v v' is e h. ap (λ (z : Version). z.label) (same v v' e) ∙ h;
    edges = λ u u' v v' iu iv eu ev p n i h. ap (λ (z : Version). is_withheld q (f z) v'.label i) (same u u' eu) ∙ ap (λ (z : Version). is_withheld q (f u) z.label i) (same v v' ev) ∙ h;
    names = λ u u' v v' iu iv eu ev p n r m. ap (λ (z : Version). is_group q (f z) r) (same u u' eu) ∙ n r (ap (λ (z : Version). is_among z.label r) (sym (same v v' ev)) ∙ m);
    apart = λ u u' v v' w w' iu iv iw eu ev ew pv pw nv nw rv rw' e. ap (λ (z : Version). z.label) (sym (same w w' ew)) ∙ e ∙ ap (λ (z : Version). z.label) (same v v' ev);
  }
    where
      one : (v v' : Version) (b : Bool) → cond b None (Some v) ≡ Some v' → v' ≡ v
      one v v' true e = absurd (cc)
      one v v' false e = cc

      same : (v v' : Version) → but id v ≡ Some v' → v' ≡ v
      same v v' e = one v v' (v.id == id) e
