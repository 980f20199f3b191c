-- What hangs below a version, by its open groups and its children.
use Rattle.std.proofs.Common.{◌≡◌, ◌≢◌, ◌⊎◌, inl, inr, ℕ, Bool, true, false, cond, not, ◌&&◌, ◌||◌, ◌==◌, List, [], ◌∷◌, filter, map, refl, sym, ap, ◌∙◌, arith, eq-eqb}
use Rattle.std.proofs.lemmas.Bool.{false≢true}
use Rattle.std.proofs.lemmas.Bool.Decides.{nat_tests}
use Rattle.sp_base.specs.Numbers.{is_among}
use Rattle.sp_group.specs.Deciding.{others, foresaw}
use Rattle.sp_group.specs.declared.outcome.Outcome.{Outcome}
use Rattle.sp_group.specs.declared.outcome.Outcome.TheVariants.{Completed, Abandoned}
use Rattle.sp_tree.specs.Children.{AreOver}
use Rattle.sp_tree.specs.Paths.{edge}
use Rattle.sp_tree.specs.Shape.{Shape, Nothing, Child, Group, is_nothing, vertex, having, lacking, built, filled, planted, under, cut, renumbered, children_decided, children_but, way}

same : (m n : ℕ) → (m == n) ≡ true → m ≡ n
same m n h = grind (arith, nat_tests)

differs : (m n : ℕ) → m ≢ n → (m == n) ≡ false
differs m n h = grind (arith, nat_tests)

and_false : (b : Bool) → (b && false) ≡ false
and_false true = refl
and_false false = refl

vertex_first : (g : ℕ) (a b : Shape) → is_nothing a ≡ false → vertex g a b ≡ Group g a b
vertex_first g a b h = ap (λ (z : Bool). cond (z && is_nothing b) Nothing (Group g a b)) h

vertex_second : (g : ℕ) (a b : Shape) → is_nothing b ≡ false → vertex g a b ≡ Group g a b
vertex_second g a b h = ap (λ (z : Bool). cond (is_nothing a && z) Nothing (Group g a b)) h ∙ ap (λ (z : Bool). cond z Nothing (Group g a b)) (and_false (is_nothing a))

-- where there is no child nothing hangs
pub built_none : (gs : List ℕ) → built gs [] ≡ Nothing
built_none [] = refl
built_none (g ∷ gs) = ap (λ (s : Shape). vertex g s s) (built_none gs)

-- a child is planted
either_some : (b : Bool) (r q : ℕ) (s t u v : Shape) → is_nothing (cond b (Group r s t) (Group q u v)) ≡ false
either_some true r q s t u v = refl
either_some false r q s t u v = refl

planted_some : (gs label : List ℕ) (id : ℕ) (s : Shape) → is_nothing (planted gs label id s) ≡ false
planted_some [] label id s = refl
planted_some (g ∷ gs) label id Nothing = either_some (is_among label g) g g (planted gs label id Nothing) Nothing Nothing (planted gs label id Nothing)
planted_some (g ∷ gs) label id (Child other) = either_some (is_among label g) g g (planted gs label id Nothing) Nothing Nothing (planted gs label id Nothing)
planted_some (g ∷ gs) label id (Group r s t) = either_some (is_among label g) r r (planted gs label id s) t s (planted gs label id t)

planted_vertex : (g : ℕ) (gs label : List ℕ) (id : ℕ) (a b : Shape)
    → planted (g ∷ gs) label id (vertex g a b) ≡ cond (is_among label g) (Group g (planted gs label id a) b) (Group g a (planted gs label id b))
planted_vertex g gs label id Nothing Nothing = refl
planted_vertex g gs label id Nothing (Child other) = refl
planted_vertex g gs label id Nothing (Group r s t) = refl
planted_vertex g gs label id (Child other) b = refl
planted_vertex g gs label id (Group r s t) b = refl

pub planted_built : (gs label : List ℕ) (id : ℕ) (cs : List (List ℕ × ℕ)) → planted gs label id (built gs cs) ≡ built gs ((label, id) ∷ cs)
planted_built [] label id cs = refl
planted_built (g ∷ gs) label id cs =
    planted_vertex g gs label id (built gs (having g cs)) (built gs (lacking g cs))
    ∙ go (is_among label g) (planted_built gs label id (having g cs)) (planted_built gs label id (lacking g cs))
  where
    go : (b : Bool) → planted gs label id (built gs (having g cs)) ≡ built gs ((label, id) ∷ having g cs) → planted gs label id (built gs (lacking g cs)) ≡ built gs ((label, id) ∷ lacking g cs)
        → cond b (Group g (planted gs label id (built gs (having g cs))) (built gs (lacking g cs))) (Group g (built gs (having g cs)) (planted gs label id (built gs (lacking g cs))))
        ≡ vertex g (built gs (cond b ((label, id) ∷ having g cs) (having g cs))) (built gs (cond (not b) ((label, id) ∷ lacking g cs) (lacking g cs)))
    go true left right =
        sym (vertex_first g (planted gs label id (built gs (having g cs))) (built gs (lacking g cs)) (planted_some gs label id (built gs (having g cs))))
        ∙ ap (λ (s : Shape). vertex g s (built gs (lacking g cs))) left
    go false left right =
        sym (vertex_second g (built gs (having g cs)) (planted gs label id (built gs (lacking g cs))) (planted_some gs label id (built gs (lacking g cs))))
        ∙ ap (λ (s : Shape). vertex g (built gs (having g cs)) s) right

-- groups more
filled_nothing : (gs : List ℕ) → filled gs Nothing ≡ Nothing
filled_nothing [] = refl
filled_nothing (g ∷ gs) = refl

filled_is : (gs : List ℕ) (s : Shape) → is_nothing (filled gs s) ≡ is_nothing s
filled_is [] s = refl
filled_is (g ∷ gs) Nothing = refl
filled_is (g ∷ gs) (Child id) = refl
filled_is (g ∷ gs) (Group r s t) = either_some (r == g) r g (filled gs s) (filled gs t) Nothing (filled gs (Group r s t))

filled_group : (g : ℕ) (gs : List ℕ) (a b : Shape) → (is_nothing a && is_nothing b) ≡ false → filled (g ∷ gs) (Group g a b) ≡ vertex g (filled gs a) (filled gs b)
filled_group g gs a b some =
    ap (λ (z : Bool). cond z (Group g (filled gs a) (filled gs b)) (Group g Nothing (filled gs (Group g a b)))) (eq-eqb g g refl)
    ∙ sym (ap (λ (z : Bool). cond z Nothing (Group g (filled gs a) (filled gs b))) (ap (λ (z : Bool). z && is_nothing (filled gs b)) (filled_is gs a) ∙ ap (λ (z : Bool). is_nothing a && z) (filled_is gs b) ∙ some))

filled_vertex : (g : ℕ) (gs : List ℕ) (a b : Shape) → filled (g ∷ gs) (vertex g a b) ≡ vertex g (filled gs a) (filled gs b)
filled_vertex g gs Nothing Nothing = sym (ap (λ (s : Shape). vertex g s s) (filled_nothing gs))
filled_vertex g gs Nothing (Child id) = filled_group g gs Nothing (Child id) refl
filled_vertex g gs Nothing (Group r s t) = filled_group g gs Nothing (Group r s t) refl
filled_vertex g gs (Child id) b = filled_group g gs (Child id) b refl
filled_vertex g gs (Group r s t) b = filled_group g gs (Group r s t) b refl

-- the shape is no vertex of this group
abbrev IsOther : ℕ → Shape → Type 0
IsOther g Nothing = Unit {0}
IsOther g (Child id) = Unit {0}
IsOther g (Group r s t) = (r == g) ≡ false

other_vertex : (g h : ℕ) (a b : Shape) → (h == g) ≡ false → IsOther g (vertex h a b)
other_vertex g h Nothing Nothing e = tt
other_vertex g h Nothing (Child id) e = e
other_vertex g h Nothing (Group r s t) e = e
other_vertex g h (Child id) b e = e
other_vertex g h (Group r s t) b e = e

other_none : (g : ℕ) (cs : List (List ℕ × ℕ)) → IsOther g (built [] cs)
other_none g [] = tt
other_none g (c ∷ cs) = tt

filled_other : (g : ℕ) (gs : List ℕ) (s : Shape) → IsOther g s → filled (g ∷ gs) s ≡ vertex g Nothing (filled gs s)
filled_other g gs Nothing h = sym (ap (vertex g Nothing) (filled_nothing gs))
filled_other g gs (Child id) h = sym (vertex_second g Nothing (filled gs (Child id)) (filled_is gs (Child id)))
filled_other g gs (Group r s t) h =
    ap (λ (z : Bool). cond z (Group r (filled gs s) (filled gs t)) (Group g Nothing (filled gs (Group r s t)))) h
    ∙ sym (vertex_second g Nothing (filled gs (Group r s t)) (filled_is gs (Group r s t)))

-- the old groups are among the new ones in their order, and the others are not among all
abbrev pub Grows : List ℕ → List ℕ → List ℕ → Type 0
Grows all [] [] = Unit {0}
Grows all (h ∷ hs) [] = ⊥
Grows all [] (g ∷ gs) = (is_among all g ≡ false) × Grows all [] gs
Grows all (h ∷ hs) (g ∷ gs) = ((h ≡ g) × Grows all hs gs) ⊎ ((h ≢ g) × (is_among all g ≡ false) × Grows all (h ∷ hs) gs)

not_both : (b : Bool) → b ≡ true → b ≡ false → ⊥
not_both true h k = false≢true (sym k)
not_both false h k = false≢true h

over_having : (all : List ℕ) (g : ℕ) (cs : List (List ℕ × ℕ)) → AreOver all cs → AreOver all (having g cs)
over_having all g [] h = tt
over_having all g (c ∷ cs) h = go (is_among c.0 g) (over_having all g cs h.1)
  where
    go : (b : Bool) → AreOver all (having g cs) → AreOver all (cond b (c ∷ having g cs) (having g cs))
    go true rest = (h.0, rest)
    go false rest = rest

over_lacking : (all : List ℕ) (g : ℕ) (cs : List (List ℕ × ℕ)) → AreOver all cs → AreOver all (lacking g cs)
over_lacking all g [] h = tt
over_lacking all g (c ∷ cs) h = go (not (is_among c.0 g)) (over_lacking all g cs h.1)
  where
    go : (b : Bool) → AreOver all (lacking g cs) → AreOver all (cond b (c ∷ lacking g cs) (lacking g cs))
    go true rest = (h.0, rest)
    go false rest = rest

none_having : (all : List ℕ) (g : ℕ) (cs : List (List ℕ × ℕ)) → AreOver all cs → is_among all g ≡ false → (having g cs ≡ []) × (lacking g cs ≡ cs)
none_having all g [] h new = (refl, refl)
none_having all g (c ∷ cs) h new = go (is_among c.0 g) refl (none_having all g cs h.1 new)
  where
    go : (b : Bool) → is_among c.0 g ≡ b → (having g cs ≡ []) × (lacking g cs ≡ cs) → (cond b (c ∷ having g cs) (having g cs) ≡ []) × (cond (not b) (c ∷ lacking g cs) (lacking g cs) ≡ c ∷ cs)
    go true is rest = absurd (not_both (is_among all g) (h.0 g is) new)
    go false is rest = (rest.0, ap (λ (l : List (List ℕ × ℕ)). c ∷ l) rest.1)

built_new : (all : List ℕ) (g : ℕ) (gs : List ℕ) (cs : List (List ℕ × ℕ)) → AreOver all cs → is_among all g ≡ false → built (g ∷ gs) cs ≡ vertex g Nothing (built gs cs)
built_new all g gs cs h new =
    let n = none_having all g cs h new in
    ap (λ (l : List (List ℕ × ℕ)). vertex g (built gs l) (built gs (lacking g cs))) n.0
    ∙ ap (λ (s : Shape). vertex g s (built gs (lacking g cs))) (built_none gs)
    ∙ ap (λ (l : List (List ℕ × ℕ)). vertex g Nothing (built gs l)) n.1

pub filled_built : (all new old : List ℕ) (cs : List (List ℕ × ℕ)) → Grows all old new → AreOver all cs → filled new (built old cs) ≡ built new cs
filled_built all [] [] cs grows over = refl
filled_built all [] (h ∷ hs) cs grows over = absurd grows
filled_built all (g ∷ gs) [] cs grows over =
    filled_other g gs (built [] cs) (other_none g cs) ∙ ap (vertex g Nothing) (filled_built all gs [] cs grows.1 over) ∙ sym (built_new all g gs cs over grows.0)
filled_built all (g ∷ gs) (h ∷ hs) cs grows over =
    go grows (λ k. filled_built all gs hs (having g cs) k (over_having all g cs over)) (λ k. filled_built all gs hs (lacking g cs) k (over_lacking all g cs over)) (λ k. filled_built all gs (h ∷ hs) cs k over)
  where
    go : ((h ≡ g) × Grows all hs gs) ⊎ ((h ≢ g) × (is_among all g ≡ false) × Grows all (h ∷ hs) gs)
        → (Grows all hs gs → filled gs (built hs (having g cs)) ≡ built gs (having g cs)) → (Grows all hs gs → filled gs (built hs (lacking g cs)) ≡ built gs (lacking g cs))
        → (Grows all (h ∷ hs) gs → filled gs (built (h ∷ hs) cs) ≡ built gs cs) → filled (g ∷ gs) (built (h ∷ hs) cs) ≡ built (g ∷ gs) cs
    go (inl old) left right whole =
        ap (λ (n : ℕ). filled (g ∷ gs) (vertex n (built hs (having n cs)) (built hs (lacking n cs)))) old.0
        ∙ filled_vertex g gs (built hs (having g cs)) (built hs (lacking g cs))
        ∙ ap (λ (s : Shape). vertex g s (filled gs (built hs (lacking g cs)))) (left old.1)
        ∙ ap (vertex g (built gs (having g cs))) (right old.1)
    go (inr new) left right whole =
        filled_other g gs (built (h ∷ hs) cs) (other_vertex g h (built hs (having h cs)) (built hs (lacking h cs)) (differs h g new.0))
        ∙ ap (vertex g Nothing) (whole new.2) ∙ sym (built_new all g gs cs over new.1)

-- a group is decided
cut_here : (run : ℕ) (outcome : Outcome) (a b : Shape) → cut run outcome (vertex run a b) ≡ under outcome a b
cut_here run Completed Nothing Nothing = refl
cut_here run Abandoned Nothing Nothing = refl
cut_here run outcome Nothing (Child id) = ap (λ (z : Bool). cond z (under outcome Nothing (Child id)) (vertex run Nothing (Child id))) (eq-eqb run run refl)
cut_here run outcome Nothing (Group r s t) = ap (λ (z : Bool). cond z (under outcome Nothing (Group r s t)) (vertex run Nothing (cut run outcome (Group r s t)))) (eq-eqb run run refl)
cut_here run outcome (Child id) b = ap (λ (z : Bool). cond z (under outcome (Child id) b) (vertex run (Child id) (cut run outcome b))) (eq-eqb run run refl)
cut_here run outcome (Group r s t) b = ap (λ (z : Bool). cond z (under outcome (Group r s t) b) (vertex run (cut run outcome (Group r s t)) (cut run outcome b))) (eq-eqb run run refl)

cut_group : (run g : ℕ) (outcome : Outcome) (a b : Shape) → (g == run) ≡ false → cut run outcome (Group g a b) ≡ vertex g (cut run outcome a) (cut run outcome b)
cut_group run g outcome a b apart = ap (λ (z : Bool). cond z (under outcome a b) (vertex g (cut run outcome a) (cut run outcome b))) apart

cut_other : (run g : ℕ) (outcome : Outcome) (a b : Shape) → (g == run) ≡ false → cut run outcome (vertex g a b) ≡ vertex g (cut run outcome a) (cut run outcome b)
cut_other run g outcome Nothing Nothing apart = refl
cut_other run g outcome Nothing (Child id) apart = cut_group run g outcome Nothing (Child id) apart
cut_other run g outcome Nothing (Group r s t) apart = cut_group run g outcome Nothing (Group r s t) apart
cut_other run g outcome (Child id) b apart = cut_group run g outcome (Child id) b apart
cut_other run g outcome (Group r s t) b apart = cut_group run g outcome (Group r s t) b apart

-- labels without a run
abbrev stripped : ℕ → List (List ℕ × ℕ) → List (List ℕ × ℕ)
stripped run cs = map (λ (c : List ℕ × ℕ). let d : List ℕ × ℕ = (others run c.0, c.1) in d) cs

pub among_but : (run g : ℕ) (ns : List ℕ) → g ≢ run → is_among (others run ns) g ≡ is_among ns g
among_but run g [] apart = refl
among_but run g (n ∷ ns) apart = one (n == run) refl (among_but run g ns apart)
  where
    one : (b : Bool) → (n == run) ≡ b → is_among (others run ns) g ≡ is_among ns g → is_among (cond (not b) (n ∷ others run ns) (others run ns)) g ≡ (n == g || is_among ns g)
    one true is rest =
        let here = same n run is in
        let no : (n == g) ≡ false = differs n g (λ e. apart (sym e ∙ here)) in
        rest ∙ sym (ap (λ (b : Bool). b || is_among ns g) no)
    one false is rest = ap (λ (b : Bool). n == g || b) rest

-- a run that is not among the numbers
pub others_same : (run : ℕ) (ns : List ℕ) → is_among ns run ≡ false → others run ns ≡ ns
others_same run [] h = refl
others_same run (n ∷ ns) h = one (n == run) refl h (others_same run ns)
  where
    one : (b : Bool) → (n == run) ≡ b → (b || is_among ns run) ≡ false → (is_among ns run ≡ false → others run ns ≡ ns) → cond (not b) (n ∷ others run ns) (others run ns) ≡ n ∷ ns
    one true is e rest = absurd (false≢true (sym e))
    one false is e rest = ap (λ (l : List ℕ). n ∷ l) (rest e)

-- a test of labels that doesn't look at the run
module _ (run : ℕ) (test : List ℕ → Bool) (blind : (l : List ℕ) → test (others run l) ≡ test l) where
  stripped_tested : (cs : List (List ℕ × ℕ)) → filter (λ c. test c.0) (stripped run cs) ≡ stripped run (filter (λ c. test c.0) cs)
  stripped_tested [] = refl
  stripped_tested (c ∷ cs) =
      ap (λ (z : Bool). cond z (d ∷ filter (λ c. test c.0) (stripped run cs)) (filter (λ c. test c.0) (stripped run cs))) (blind c.0) ∙ go (test c.0) (stripped_tested cs)
    where
      d : List ℕ × ℕ
      d = (others run c.0, c.1)

      go : (b : Bool) → filter (λ c. test c.0) (stripped run cs) ≡ stripped run (filter (λ c. test c.0) cs)
          → cond b (d ∷ filter (λ c. test c.0) (stripped run cs)) (filter (λ c. test c.0) (stripped run cs)) ≡ stripped run (cond b (c ∷ filter (λ c. test c.0) cs) (filter (λ c. test c.0) cs))
      go true rest = ap (λ (l : List (List ℕ × ℕ)). d ∷ l) rest
      go false rest = rest

  decided_tested : (outcome : Outcome) (cs : List (List ℕ × ℕ)) → filter (λ c. test c.0) (children_decided run outcome cs) ≡ children_decided run outcome (filter (λ c. test c.0) cs)
  decided_tested outcome [] = refl
  decided_tested outcome (c ∷ cs) = go (foresaw run outcome c.0) refl (test c.0) refl (decided_tested outcome cs)
    where
      d : List ℕ × ℕ
      d = (others run c.0, c.1)

      was : List (List ℕ × ℕ)
      was = filter (λ c. test c.0) cs

      now : List (List ℕ × ℕ)
      now = children_decided run outcome cs

      go : (b : Bool) → foresaw run outcome c.0 ≡ b → (t : Bool) → test c.0 ≡ t → filter (λ c. test c.0) now ≡ children_decided run outcome was
          → filter (λ c. test c.0) (cond b (d ∷ now) now) ≡ children_decided run outcome (cond t (c ∷ was) was)
      go true at true is rest =
          ap (λ (z : Bool). cond z (d ∷ filter (λ c. test c.0) now) (filter (λ c. test c.0) now)) (blind c.0 ∙ is) ∙ ap (λ (l : List (List ℕ × ℕ)). d ∷ l) rest
          ∙ sym (ap (λ (z : Bool). cond z (d ∷ children_decided run outcome was) (children_decided run outcome was)) at)
      go true at false is rest = ap (λ (z : Bool). cond z (d ∷ filter (λ c. test c.0) now) (filter (λ c. test c.0) now)) (blind c.0 ∙ is) ∙ rest
      go false at true is rest = rest ∙ sym (ap (λ (z : Bool). cond z (d ∷ children_decided run outcome was) (children_decided run outcome was)) at)
      go false at false is rest = rest

stripped_built : (run : ℕ) (gs : List ℕ) (cs : List (List ℕ × ℕ)) → is_among gs run ≡ false → built gs (stripped run cs) ≡ built gs cs
stripped_built run [] [] h = refl
stripped_built run [] (c ∷ cs) h = refl
stripped_built run (g ∷ gs) cs h = go (g == run) refl h (stripped_built run gs (having g cs)) (stripped_built run gs (lacking g cs))
  where
    go : (b : Bool) → (g == run) ≡ b → (b || is_among gs run) ≡ false → (is_among gs run ≡ false → built gs (stripped run (having g cs)) ≡ built gs (having g cs))
        → (is_among gs run ≡ false → built gs (stripped run (lacking g cs)) ≡ built gs (lacking g cs)) → built (g ∷ gs) (stripped run cs) ≡ built (g ∷ gs) cs
    go true is e left right = absurd (false≢true (sym e))
    go false is e left right =
        let apart : g ≢ run = λ z. false≢true (sym is ∙ eq-eqb g run z) in
        ap (λ (l : List (List ℕ × ℕ)). vertex g (built gs l) (built gs (lacking g (stripped run cs)))) (stripped_tested run (λ l. is_among l g) (λ l. among_but run g l apart) cs)
        ∙ ap (λ (l : List (List ℕ × ℕ)). vertex g (built gs (stripped run (having g cs))) (built gs l)) (stripped_tested run (λ l. not (is_among l g)) (λ l. ap not (among_but run g l apart)) cs)
        ∙ ap (λ (s : Shape). vertex g s (built gs (stripped run (lacking g cs)))) (left e)
        ∙ ap (vertex g (built gs (having g cs))) (right e)

decided_having : (run : ℕ) (cs : List (List ℕ × ℕ)) → children_decided run Completed cs ≡ stripped run (having run cs)
decided_having run [] = refl
decided_having run (c ∷ cs) = go (is_among c.0 run) (decided_having run cs)
  where
    go : (b : Bool) → children_decided run Completed cs ≡ stripped run (having run cs)
        → cond b ((others run c.0, c.1) ∷ children_decided run Completed cs) (children_decided run Completed cs) ≡ stripped run (cond b (c ∷ having run cs) (having run cs))
    go true rest = ap (λ (l : List (List ℕ × ℕ)). (others run c.0, c.1) ∷ l) rest
    go false rest = rest

decided_lacking : (run : ℕ) (cs : List (List ℕ × ℕ)) → children_decided run Abandoned cs ≡ stripped run (lacking run cs)
decided_lacking run [] = refl
decided_lacking run (c ∷ cs) = go (not (is_among c.0 run)) (decided_lacking run cs)
  where
    go : (b : Bool) → children_decided run Abandoned cs ≡ stripped run (lacking run cs)
        → cond b ((others run c.0, c.1) ∷ children_decided run Abandoned cs) (children_decided run Abandoned cs) ≡ stripped run (cond b (c ∷ lacking run cs) (lacking run cs))
    go true rest = ap (λ (l : List (List ℕ × ℕ)). (others run c.0, c.1) ∷ l) rest
    go false rest = rest

decided_under : (run : ℕ) (outcome : Outcome) (gs : List ℕ) (cs : List (List ℕ × ℕ)) → is_among gs run ≡ false
    → under outcome (built gs (having run cs)) (built gs (lacking run cs)) ≡ built gs (children_decided run outcome cs)
decided_under run Completed gs cs h = sym (ap (built gs) (decided_having run cs) ∙ stripped_built run gs (having run cs) h)
decided_under run Abandoned gs cs h = sym (ap (built gs) (decided_lacking run cs) ∙ stripped_built run gs (lacking run cs) h)

-- the run is among the groups, and once
abbrev pub IsOnce : ℕ → List ℕ → Type 0
IsOnce run [] = ⊥
IsOnce run (g ∷ gs) = ((g ≡ run) × (is_among gs run ≡ false)) ⊎ ((g ≢ run) × IsOnce run gs)

pub cut_built : (run : ℕ) (outcome : Outcome) (gs : List ℕ) (cs : List (List ℕ × ℕ)) → IsOnce run gs → cut run outcome (built gs cs) ≡ built (others run gs) (children_decided run outcome cs)
cut_built run outcome [] cs once = absurd once
cut_built run outcome (g ∷ gs) cs once = go once (cut_built run outcome gs (having g cs)) (cut_built run outcome gs (lacking g cs))
  where
    go : ((g ≡ run) × (is_among gs run ≡ false)) ⊎ ((g ≢ run) × IsOnce run gs)
        → (IsOnce run gs → cut run outcome (built gs (having g cs)) ≡ built (others run gs) (children_decided run outcome (having g cs)))
        → (IsOnce run gs → cut run outcome (built gs (lacking g cs)) ≡ built (others run gs) (children_decided run outcome (lacking g cs)))
        → cut run outcome (built (g ∷ gs) cs) ≡ built (others run (g ∷ gs)) (children_decided run outcome cs)
    go (inl here) left right =
        ap (λ (n : ℕ). cut run outcome (vertex n (built gs (having n cs)) (built gs (lacking n cs)))) here.0
        ∙ cut_here run outcome (built gs (having run cs)) (built gs (lacking run cs))
        ∙ decided_under run outcome gs cs here.1
        ∙ ap (λ (l : List ℕ). built l (children_decided run outcome cs)) (sym (others_same run gs here.1))
        ∙ ap (λ (z : Bool). built (cond (not z) (g ∷ others run gs) (others run gs)) (children_decided run outcome cs)) (sym (eq-eqb g run here.0))
    go (inr later) left right =
        let apart = differs g run later.0 in
        cut_other run g outcome (built gs (having g cs)) (built gs (lacking g cs)) apart
        ∙ ap (λ (s : Shape). vertex g s (cut run outcome (built gs (lacking g cs)))) (left later.1)
        ∙ ap (vertex g (built (others run gs) (children_decided run outcome (having g cs)))) (right later.1)
        ∙ ap (λ (l : List (List ℕ × ℕ)). vertex g (built (others run gs) l) (built (others run gs) (children_decided run outcome (lacking g cs)))) (sym (decided_tested run (λ l. is_among l g) (λ l. among_but run g l later.0) outcome cs))
        ∙ ap (λ (l : List (List ℕ × ℕ)). vertex g (built (others run gs) (having g (children_decided run outcome cs))) (built (others run gs) l)) (sym (decided_tested run (λ l. not (is_among l g)) (λ l. ap not (among_but run g l later.0)) outcome cs))
        ∙ ap (λ (z : Bool). built (cond (not z) (g ∷ others run gs) (others run gs)) (children_decided run outcome cs)) (sym apart)

-- a child has another id
-- the child of this label and this id is among these
abbrev pub Holds : List ℕ → ℕ → List (List ℕ × ℕ) → Type 0
Holds label id [] = ⊥
Holds label id (c ∷ cs) = ((c.0 ≡ label) × (c.1 ≡ id)) ⊎ Holds label id cs

-- no other child has this id
abbrev pub IsOnly : List ℕ → ℕ → List (List ℕ × ℕ) → Type 0
IsOnly label id [] = Unit {0}
IsOnly label id (c ∷ cs) = (c.1 ≡ id → c.0 ≡ label) × IsOnly label id cs

renumbered_is : (label : List ℕ) (id : ℕ) (s : Shape) → is_nothing (renumbered label id s) ≡ is_nothing s
renumbered_is label id Nothing = refl
renumbered_is label id (Child old) = refl
renumbered_is label id (Group r s t) = either_some (is_among label r) r r (renumbered label id s) t s (renumbered label id t)

renumbered_group : (g : ℕ) (label : List ℕ) (id : ℕ) (a b : Shape) → (is_nothing a && is_nothing b) ≡ false
    → renumbered label id (Group g a b) ≡ cond (is_among label g) (vertex g (renumbered label id a) b) (vertex g a (renumbered label id b))
renumbered_group g label id a b some = go (is_among label g)
  where
    go : (z : Bool) → cond z (Group g (renumbered label id a) b) (Group g a (renumbered label id b)) ≡ cond z (vertex g (renumbered label id a) b) (vertex g a (renumbered label id b))
    go true = sym (ap (λ (z : Bool). cond z Nothing (Group g (renumbered label id a) b)) (ap (λ (z : Bool). z && is_nothing b) (renumbered_is label id a) ∙ some))
    go false = sym (ap (λ (z : Bool). cond z Nothing (Group g a (renumbered label id b))) (ap (λ (z : Bool). is_nothing a && z) (renumbered_is label id b) ∙ some))

renumbered_vertex : (g : ℕ) (label : List ℕ) (id : ℕ) (a b : Shape)
    → renumbered label id (vertex g a b) ≡ cond (is_among label g) (vertex g (renumbered label id a) b) (vertex g a (renumbered label id b))
renumbered_vertex g label id Nothing Nothing = go (is_among label g)
  where
    go : (z : Bool) → Nothing ≡ cond z Nothing Nothing
    go true = refl
    go false = refl
renumbered_vertex g label id Nothing (Child other) = renumbered_group g label id Nothing (Child other) refl
renumbered_vertex g label id Nothing (Group r s t) = renumbered_group g label id Nothing (Group r s t) refl
renumbered_vertex g label id (Child other) b = renumbered_group g label id (Child other) b refl
renumbered_vertex g label id (Group r s t) b = renumbered_group g label id (Group r s t) b refl

-- the side of a group on which a label is
holds_tested : (test : List ℕ → Bool) (label : List ℕ) (id : ℕ) (cs : List (List ℕ × ℕ)) → test label ≡ true → Holds label id cs → Holds label id (filter (λ c. test c.0) cs)
holds_tested test label id [] h held = held
holds_tested test label id (c ∷ cs) h held = go (test c.0) refl held (holds_tested test label id cs h)
  where
    go : (b : Bool) → test c.0 ≡ b → ((c.0 ≡ label) × (c.1 ≡ id)) ⊎ Holds label id cs → (Holds label id cs → Holds label id (filter (λ c. test c.0) cs))
        → Holds label id (cond b (c ∷ filter (λ c. test c.0) cs) (filter (λ c. test c.0) cs))
    go true is (inl here) rest = inl here
    go true is (inr later) rest = inr (rest later)
    go false is (inl here) rest = absurd (false≢true (sym is ∙ ap test here.0 ∙ h))
    go false is (inr later) rest = rest later

only_tested : (test : List ℕ → Bool) (label : List ℕ) (id : ℕ) (cs : List (List ℕ × ℕ)) → IsOnly label id cs → IsOnly label id (filter (λ c. test c.0) cs)
only_tested test label id [] h = tt
only_tested test label id (c ∷ cs) h = go (test c.0) (only_tested test label id cs h.1)
  where
    go : (b : Bool) → IsOnly label id (filter (λ c. test c.0) cs) → IsOnly label id (cond b (c ∷ filter (λ c. test c.0) cs) (filter (λ c. test c.0) cs))
    go true rest = (h.0, rest)
    go false rest = rest

-- tests of labels and of ids one after the other
but_tested : (test : List ℕ → Bool) (id : ℕ) (cs : List (List ℕ × ℕ)) → filter (λ c. test c.0) (children_but id cs) ≡ children_but id (filter (λ c. test c.0) cs)
but_tested test id [] = refl
but_tested test id (c ∷ cs) = go (not (c.1 == id)) refl (test c.0) refl (but_tested test id cs)
  where
    was : List (List ℕ × ℕ)
    was = filter (λ c. test c.0) cs

    go : (b : Bool) → not (c.1 == id) ≡ b → (t : Bool) → test c.0 ≡ t → filter (λ c. test c.0) (children_but id cs) ≡ children_but id was
        → filter (λ c. test c.0) (cond b (c ∷ children_but id cs) (children_but id cs)) ≡ children_but id (cond t (c ∷ was) was)
    go true at true is rest =
        ap (λ (z : Bool). cond z (c ∷ filter (λ c. test c.0) (children_but id cs)) (filter (λ c. test c.0) (children_but id cs))) is ∙ ap (λ (l : List (List ℕ × ℕ)). c ∷ l) rest
        ∙ sym (ap (λ (z : Bool). cond z (c ∷ children_but id was) (children_but id was)) at)
    go true at false is rest = ap (λ (z : Bool). cond z (c ∷ filter (λ c. test c.0) (children_but id cs)) (filter (λ c. test c.0) (children_but id cs))) is ∙ rest
    go false at true is rest = rest ∙ sym (ap (λ (z : Bool). cond z (c ∷ children_but id was) (children_but id was)) at)
    go false at false is rest = rest

-- where the child is on the other side
but_aside : (test : List ℕ → Bool) (label : List ℕ) (id : ℕ) (cs : List (List ℕ × ℕ)) → test label ≡ false → IsOnly label id cs → children_but id (filter (λ c. test c.0) cs) ≡ filter (λ c. test c.0) cs
but_aside test label id [] h only = refl
but_aside test label id (c ∷ cs) h only = go (test c.0) refl (but_aside test label id cs h only.1)
  where
    was : List (List ℕ × ℕ)
    was = filter (λ c. test c.0) cs

    go : (b : Bool) → test c.0 ≡ b → children_but id was ≡ was → children_but id (cond b (c ∷ was) was) ≡ cond b (c ∷ was) was
    go true is rest =
        let apart : (c.1 == id) ≡ false = differs c.1 id (λ e. false≢true (sym h ∙ ap test (sym (only.0 e)) ∙ is)) in
        ap (λ (z : Bool). cond (not z) (c ∷ children_but id was) (children_but id was)) apart ∙ ap (λ (l : List (List ℕ × ℕ)). c ∷ l) rest
    go false is rest = rest

pub renumbered_built : (label : List ℕ) (old id : ℕ) (gs : List ℕ) (cs : List (List ℕ × ℕ)) → Holds label old cs → IsOnly label old cs
    → renumbered label id (built gs cs) ≡ built gs ((label, id) ∷ children_but old cs)
renumbered_built label old id [] [] held only = absurd held
renumbered_built label old id [] (c ∷ cs) held only = refl
renumbered_built label old id (g ∷ gs) cs held only =
    renumbered_vertex g label id (built gs (having g cs)) (built gs (lacking g cs))
    ∙ go (is_among label g) refl
    (λ (t : is_among label g ≡ true). renumbered_built label old id gs (having g cs) (holds_tested (λ l. is_among l g) label old cs t held) (only_tested (λ l. is_among l g) label old cs only))
    (λ (t : not (is_among label g) ≡ true). renumbered_built label old id gs (lacking g cs) (holds_tested (λ l. not (is_among l g)) label old cs t held) (only_tested (λ l. not (is_among l g)) label old cs only))
  where
    left : List (List ℕ × ℕ)
    left = having g cs

    right : List (List ℕ × ℕ)
    right = lacking g cs

    new : List (List ℕ × ℕ)
    new = children_but old cs

    go : (b : Bool) → is_among label g ≡ b → (is_among label g ≡ true → renumbered label id (built gs left) ≡ built gs ((label, id) ∷ children_but old left))
        → (not (is_among label g) ≡ true → renumbered label id (built gs right) ≡ built gs ((label, id) ∷ children_but old right))
        → cond b (vertex g (renumbered label id (built gs left)) (built gs right)) (vertex g (built gs left) (renumbered label id (built gs right)))
        ≡ vertex g (built gs (cond b ((label, id) ∷ having g new) (having g new))) (built gs (cond (not b) ((label, id) ∷ lacking g new) (lacking g new)))
    go true is first second =
        ap (λ (s : Shape). vertex g s (built gs right)) (first is)
        ∙ ap (λ (l : List (List ℕ × ℕ)). vertex g (built gs ((label, id) ∷ l)) (built gs right)) (sym (but_tested (λ l. is_among l g) old cs))
        ∙ ap (λ (l : List (List ℕ × ℕ)). vertex g (built gs ((label, id) ∷ having g new)) (built gs l)) (sym (but_tested (λ l. not (is_among l g)) old cs ∙ but_aside (λ l. not (is_among l g)) label old cs (ap not is) only))
    go false is first second =
        ap (vertex g (built gs left)) (second (ap not is))
        ∙ ap (λ (l : List (List ℕ × ℕ)). vertex g (built gs left) (built gs ((label, id) ∷ l))) (sym (but_tested (λ l. not (is_among l g)) old cs))
        ∙ ap (λ (l : List (List ℕ × ℕ)). vertex g (built gs l) (built gs ((label, id) ∷ lacking g new))) (sym (but_tested (λ l. is_among l g) old cs ∙ but_aside (λ l. is_among l g) label old cs is only))

-- the way of a child
vertex_some : (g : ℕ) (a b : Shape) → is_nothing a ≡ false ⊎ is_nothing b ≡ false → is_nothing (vertex g a b) ≡ false
vertex_some g a b (inl h) = ap is_nothing (vertex_first g a b h)
vertex_some g a b (inr h) = ap is_nothing (vertex_second g a b h)

built_some : (label : List ℕ) (id : ℕ) (gs : List ℕ) (cs : List (List ℕ × ℕ)) → Holds label id cs → is_nothing (built gs cs) ≡ false
built_some label id [] [] held = absurd held
built_some label id [] (c ∷ cs) held = refl
built_some label id (g ∷ gs) cs held = go (is_among label g) refl
    (λ (t : is_among label g ≡ true). built_some label id gs (having g cs) (holds_tested (λ l. is_among l g) label id cs t held))
    (λ (t : not (is_among label g) ≡ true). built_some label id gs (lacking g cs) (holds_tested (λ l. not (is_among l g)) label id cs t held))
  where
    go : (b : Bool) → is_among label g ≡ b → (is_among label g ≡ true → is_nothing (built gs (having g cs)) ≡ false) → (not (is_among label g) ≡ true → is_nothing (built gs (lacking g cs)) ≡ false)
        → is_nothing (built (g ∷ gs) cs) ≡ false
    go true is first second = vertex_some g (built gs (having g cs)) (built gs (lacking g cs)) (inl (first is))
    go false is first second = vertex_some g (built gs (having g cs)) (built gs (lacking g cs)) (inr (second (ap not is)))

pub way_built : (label : List ℕ) (id : ℕ) (gs : List ℕ) (cs : List (List ℕ × ℕ)) → Holds label id cs → way label (built gs cs) ≡ map (edge label) gs
way_built label id [] [] held = absurd held
way_built label id [] (c ∷ cs) held = refl
way_built label id (g ∷ gs) cs held = go (is_among label g) refl
    (λ (t : is_among label g ≡ true). (let h = holds_tested (λ l. is_among l g) label id cs t held in (built_some label id gs (having g cs) h, way_built label id gs (having g cs) h)))
    (λ (t : not (is_among label g) ≡ true). (let h = holds_tested (λ l. not (is_among l g)) label id cs t held in (built_some label id gs (lacking g cs) h, way_built label id gs (lacking g cs) h)))
  where
    left : Shape
    left = built gs (having g cs)

    right : Shape
    right = built gs (lacking g cs)

    go : (b : Bool) → is_among label g ≡ b → (is_among label g ≡ true → (is_nothing left ≡ false) × (way label left ≡ map (edge label) gs))
        → (not (is_among label g) ≡ true → (is_nothing right ≡ false) × (way label right ≡ map (edge label) gs)) → way label (vertex g left right) ≡ edge label g ∷ map (edge label) gs
    go true is first second =
        ap (way label) (vertex_first g left right (first is).0)
        ∙ ap (λ (z : Bool). cond z ((g, Completed) ∷ way label left) ((g, Abandoned) ∷ way label right)) is
        ∙ ap (λ (l : List (ℕ × Outcome)). (g, Completed) ∷ l) (first is).1
        ∙ ap (λ (z : Bool). cond z (g, Completed) (g, Abandoned) ∷ map (edge label) gs) (sym is)
    go false is first second =
        ap (way label) (vertex_second g left right (second (ap not is)).0)
        ∙ ap (λ (z : Bool). cond z ((g, Completed) ∷ way label left) ((g, Abandoned) ∷ way label right)) is
        ∙ ap (λ (l : List (ℕ × Outcome)). (g, Abandoned) ∷ l) (second (ap not is)).1
        ∙ ap (λ (z : Bool). cond z (g, Completed) (g, Abandoned) ∷ map (edge label) gs) (sym is)
