-- What all versions of a tree keep, under each call.
use Rattle.std.proofs.Common.{◌≡◌, ◌≢◌, ◌⊎◌, inl, inr, ℕ, suc, ◌<◌, ◌≤◌, Bool, true, false, cond, not, ◌||◌, ◌==◌, List, [], ◌∷◌, filter, length, Option, Some, None, is_some, refl, sym, ap, subst, ◌∙◌, arith, eq-eqb}
use Rattle.std.specs.Prelude.{is_none}
use Rattle.std.proofs.lemmas.Bool.{false≢true}
use Rattle.std.proofs.lemmas.Bool.Decides.{nat_tests}
use Rattle.std.proofs.lemmas.Option.{same_Some}
use Rattle.sp_base.specs.Numbers.{is_among}
use Rattle.sp_group.specs.declared.outcome.Outcome.{Outcome}
use Rattle.sp_group.specs.declared.outcome.Outcome.TheVariants.{Completed, Abandoned}
use Rattle.sp_group.specs.Deciding.{others, foresaw}
use Rattle.sp_group.specs.Family.{entry_at, parent_there, kept, prune, is_parent}
use Rattle.sp_tree.specs.Version.{Version}
use Rattle.sp_tree.specs.Changes.{decided}
use Rattle.sp_tree.specs.Children.{plain, children_of, AreOver, HaveOther, AreApart, AreHeld, AreFamily, AreRising, IsRising}
use Rattle.sp_tree.specs.Shape.{children_decided, children_but}
use Rattle.sp_tree.proofs.Built.{among_but, Holds, IsOnly}
use Rattle.sp_tree.proofs.Families.{Falls, AreYounger, pruned_entry, children_pruned, decided_keeps, decided_parents, decided_groups, decided_up, children_ruled, ruled_owner, ruled_other}

same : (m n : ℕ) → (m == n) ≡ true → m ≡ n
same m n h = grind (arith, nat_tests)

differs : (m n : ℕ) → m ≢ n → (m == n) ≡ false
differs m n h = grind (arith, nat_tests)

apart : (m n : ℕ) → (m == n) ≡ false → m ≢ n
apart m n h = λ e. false≢true (sym h ∙ eq-eqb m n e)

or_left : (a b : Bool) → a ≡ true → (a || b) ≡ true
or_left a b h = ap (λ (z : Bool). z || b) h

or_right : (a b : Bool) → b ≡ true → (a || b) ≡ true
or_right true b h = refl
or_right false b h = h

or_cases : (a b : Bool) → (a || b) ≡ true → (a ≡ true) ⊎ (b ≡ true)
or_cases true b h = inl refl
or_cases false b h = inr h

or_second : (a b : Bool) → a ≡ false → (a || b) ≡ true → b ≡ true
or_second true b n h = absurd (false≢true (sym n))
or_second false b n h = h

-- rising numbers, by which numbers are among them
first_among : (m : ℕ) (ms : List ℕ) → is_among (m ∷ ms) m ≡ true
first_among m ms = or_left (m == m) (is_among ms m) (eq-eqb m m refl)

heads_same : (l m : ℕ) (ls ms : List ℕ) → IsRising (l ∷ ls) → IsRising (m ∷ ms) → ((r : ℕ) → is_among (l ∷ ls) r ≡ is_among (m ∷ ms) r) → l ≡ m
heads_same l m ls ms up high h = one (m == l) refl (l == m) refl
  where
    one : (a : Bool) → (m == l) ≡ a → (b : Bool) → (l == m) ≡ b → l ≡ m
    one true is b at = sym (same m l is)
    one false is true at = same l m at
    one false is false at =
        let there = or_second (m == l) (is_among ms l) is (sym (h l) ∙ first_among l ls) in
        let back = or_second (l == m) (is_among ls m) at (h m ∙ first_among m ms) in
        let low : m < l = high.0 l there in let high_ : l < m = up.0 m back in
        absurd (omega arith)

not_itself : (l : ℕ) (ls : List ℕ) → IsRising (l ∷ ls) → (r : ℕ) → (l == r) ≡ true → is_among ls r ≡ false
not_itself l ls up r is = one (is_among ls r) refl
  where
    one : (b : Bool) → is_among ls r ≡ b → b ≡ false
    one true there = let low : l < r = up.0 r there in let e = same l r is in absurd (omega arith)
    one false there = refl

tails_same : (l : ℕ) (ls ms : List ℕ) → IsRising (l ∷ ls) → IsRising (l ∷ ms) → ((r : ℕ) → is_among (l ∷ ls) r ≡ is_among (l ∷ ms) r) → (r : ℕ) → is_among ls r ≡ is_among ms r
tails_same l ls ms up high h r = one (l == r) refl (h r)
  where
    one : (b : Bool) → (l == r) ≡ b → (b || is_among ls r) ≡ (b || is_among ms r) → is_among ls r ≡ is_among ms r
    one true is e = not_itself l ls up r is ∙ sym (not_itself l ms high r is)
    one false is e = e

pub rising_same : (ls ms : List ℕ) → IsRising ls → IsRising ms → ((r : ℕ) → is_among ls r ≡ is_among ms r) → ls ≡ ms
rising_same [] [] up high h = refl
rising_same [] (m ∷ ms) up high h = absurd (false≢true (h m ∙ first_among m ms))
rising_same (l ∷ ls) [] up high h = absurd (false≢true (sym (h l) ∙ first_among l ls))
rising_same (l ∷ ls) (m ∷ ms) up high h =
    let e = heads_same l m ls ms up high h in
    let again : IsRising (l ∷ ms) = subst (λ (n : ℕ). IsRising (n ∷ ms)) (sym e) high in
    let with : (r : ℕ) → is_among (l ∷ ls) r ≡ is_among (l ∷ ms) r = λ r. h r ∙ ap (λ (n : ℕ). is_among (n ∷ ms) r) (sym e) in
    ap (λ (n : ℕ). n ∷ ls) e ∙ ap (λ (ns : List ℕ). m ∷ ns) (rising_same ls ms up.1 high.1 (tails_same l ls ms up again with))

-- labels and groups without a run
none_left : (run : ℕ) (ns : List ℕ) → is_among (others run ns) run ≡ false
none_left run [] = refl
none_left run (n ∷ ns) = one (n == run) refl (none_left run ns)
  where
    one : (b : Bool) → (n == run) ≡ b → is_among (others run ns) run ≡ false → is_among (cond (not b) (n ∷ others run ns) (others run ns)) run ≡ false
    one true is rest = rest
    one false is rest = ap (λ (b : Bool). b || is_among (others run ns) run) is ∙ rest

fewer : (run r : ℕ) (ns : List ℕ) → is_among (others run ns) r ≡ true → (r ≢ run) × (is_among ns r ≡ true)
fewer run r ns h = (differ, sym (among_but run r ns differ) ∙ h)
  where
    differ : r ≢ run
    differ = λ e. false≢true (sym (none_left run ns) ∙ ap (is_among (others run ns)) (sym e) ∙ h)

pub rising_others : (run : ℕ) (ns : List ℕ) → IsRising ns → IsRising (others run ns)
rising_others run [] up = tt
rising_others run (n ∷ ns) up = one (not (n == run)) (rising_others run ns up.1)
  where
    one : (b : Bool) → IsRising (others run ns) → IsRising (cond b (n ∷ others run ns) (others run ns))
    one true rest = ((λ r m. up.0 r (fewer run r ns m).1), rest)
    one false rest = rest

others_apart : (run : ℕ) (l m : List ℕ) → IsRising l → IsRising m → is_among l run ≡ is_among m run → others run l ≡ others run m → l ≡ m
others_apart run l m up high both e = rising_same l m up high (λ r. one r (r == run) refl)
  where
    one : (r : ℕ) (b : Bool) → (r == run) ≡ b → is_among l r ≡ is_among m r
    one r true is = let here = same r run is in ap (is_among l) here ∙ both ∙ sym (ap (is_among m) here)
    one r false is = let differ = apart r run is in sym (among_but run r l differ) ∙ ap (λ (ns : List ℕ). is_among ns r) e ∙ among_but run r m differ

both_not : (a b : Bool) → not a ≡ true → not b ≡ true → a ≡ b
both_not true b h k = absurd (false≢true h)
both_not false true h k = absurd (false≢true k)
both_not false false h k = refl

foresaw_both : (run : ℕ) (outcome : Outcome) (l m : List ℕ) → foresaw run outcome l ≡ true → foresaw run outcome m ≡ true → is_among l run ≡ is_among m run
foresaw_both run Completed l m h k = h ∙ sym k
foresaw_both run Abandoned l m h k = both_not (is_among l run) (is_among m run) h k

-- children whose labels rise
abbrev pub HaveRising : List (List ℕ × ℕ) → Type 0
HaveRising [] = Unit {0}
HaveRising (c ∷ cs) = IsRising c.0 × HaveRising cs

pub labels_rise : (p : ℕ) (vs : List Version) → AreRising vs → HaveRising (children_of p vs)
labels_rise p [] up = tt
labels_rise p (v ∷ vs) up = one (is_parent p v.parent) (labels_rise p vs up.2)
  where
    one : (b : Bool) → HaveRising (children_of p vs) → HaveRising (cond b ((v.label, v.id) ∷ children_of p vs) (children_of p vs))
    one true rest = (up.0, rest)
    one false rest = rest

other_decided : (run : ℕ) (outcome : Outcome) (label : List ℕ) (cs : List (List ℕ × ℕ)) → IsRising label → HaveRising cs → foresaw run outcome label ≡ true → HaveOther label cs
    → HaveOther (others run label) (children_decided run outcome cs)
other_decided run outcome label [] up rise saw h = tt
other_decided run outcome label (c ∷ cs) up rise saw h = one (foresaw run outcome c.0) refl (other_decided run outcome label cs up rise.1 saw h.1)
  where
    one : (b : Bool) → foresaw run outcome c.0 ≡ b → HaveOther (others run label) (children_decided run outcome cs)
        → HaveOther (others run label) (cond b ((others run c.0, c.1) ∷ children_decided run outcome cs) (children_decided run outcome cs))
    one true is rest = ((λ e. h.0 (others_apart run c.0 label rise.0 up (foresaw_both run outcome c.0 label is saw) e)), rest)
    one false is rest = rest

apart_decided : (run : ℕ) (outcome : Outcome) (cs : List (List ℕ × ℕ)) → HaveRising cs → AreApart cs → AreApart (children_decided run outcome cs)
apart_decided run outcome [] rise h = tt
apart_decided run outcome (c ∷ cs) rise h = one (foresaw run outcome c.0) refl (apart_decided run outcome cs rise.1 h.1)
  where
    one : (b : Bool) → foresaw run outcome c.0 ≡ b → AreApart (children_decided run outcome cs)
        → AreApart (cond b ((others run c.0, c.1) ∷ children_decided run outcome cs) (children_decided run outcome cs))
    one true is rest = (other_decided run outcome c.0 cs rise.0 rise.1 is h.0, rest)
    one false is rest = rest

over_decided : (run : ℕ) (outcome : Outcome) (gs : List ℕ) (cs : List (List ℕ × ℕ)) → AreOver gs cs → AreOver (others run gs) (children_decided run outcome cs)
over_decided run outcome gs [] h = tt
over_decided run outcome gs (c ∷ cs) h = one (foresaw run outcome c.0) (over_decided run outcome gs cs h.1)
  where
    one : (b : Bool) → AreOver (others run gs) (children_decided run outcome cs)
        → AreOver (others run gs) (cond b ((others run c.0, c.1) ∷ children_decided run outcome cs) (children_decided run outcome cs))
    one true rest = ((λ r m. let f = fewer run r c.0 m in among_but run r gs f.0 ∙ h.0 r f.1), rest)
    one false rest = rest

held_decided : (run : ℕ) (outcome : Outcome) (gs : List ℕ) (cs : List (List ℕ × ℕ)) → HaveRising cs → AreHeld gs cs → AreHeld (others run gs) (children_decided run outcome cs)
held_decided run outcome gs cs rise h = record { over = over_decided run outcome gs cs h.over; apart = apart_decided run outcome cs rise h.apart }

-- more open groups
over_more : (gs more : List ℕ) (cs : List (List ℕ × ℕ)) → ((r : ℕ) → is_among gs r ≡ true → is_among more r ≡ true) → AreOver gs cs → AreOver more cs
over_more gs more [] sub h = tt
over_more gs more (c ∷ cs) sub h = ((λ r m. sub r (h.0 r m)), over_more gs more cs sub h.1)

pub held_more : (gs more : List ℕ) (cs : List (List ℕ × ℕ)) → ((r : ℕ) → is_among gs r ≡ true → is_among more r ≡ true) → AreHeld gs cs → AreHeld more cs
held_more gs more cs sub h = record { over = over_more gs more cs sub h.over; apart = h.apart }

-- a child that has another id
pub over_holds : (gs label : List ℕ) (id : ℕ) (cs : List (List ℕ × ℕ)) → AreOver gs cs → Holds label id cs → (r : ℕ) → is_among label r ≡ true → is_among gs r ≡ true
over_holds gs label id [] h held = absurd held
over_holds gs label id (c ∷ cs) h held = one held (over_holds gs label id cs h.1)
  where
    one : ((c.0 ≡ label) × (c.1 ≡ id)) ⊎ Holds label id cs → (Holds label id cs → (r : ℕ) → is_among label r ≡ true → is_among gs r ≡ true)
        → (r : ℕ) → is_among label r ≡ true → is_among gs r ≡ true
    one (inl here) rest = λ r m. h.0 r (ap (λ (l : List ℕ). is_among l r) here.0 ∙ m)
    one (inr later) rest = rest later

other_holds : (x label : List ℕ) (id : ℕ) (cs : List (List ℕ × ℕ)) → HaveOther x cs → Holds label id cs → label ≢ x
other_holds x label id [] h held = absurd held
other_holds x label id (c ∷ cs) h held = one held (other_holds x label id cs h.1)
  where
    one : ((c.0 ≡ label) × (c.1 ≡ id)) ⊎ Holds label id cs → (Holds label id cs → label ≢ x) → label ≢ x
    one (inl here) rest = λ e. h.0 (here.0 ∙ e)
    one (inr later) rest = rest later

over_but : (gs : List ℕ) (id : ℕ) (cs : List (List ℕ × ℕ)) → AreOver gs cs → AreOver gs (children_but id cs)
over_but gs id [] h = tt
over_but gs id (c ∷ cs) h = one (not (c.1 == id)) (over_but gs id cs h.1)
  where
    one : (b : Bool) → AreOver gs (children_but id cs) → AreOver gs (cond b (c ∷ children_but id cs) (children_but id cs))
    one true rest = (h.0, rest)
    one false rest = rest

other_but : (label : List ℕ) (id : ℕ) (cs : List (List ℕ × ℕ)) → HaveOther label cs → HaveOther label (children_but id cs)
other_but label id [] h = tt
other_but label id (c ∷ cs) h = one (not (c.1 == id)) (other_but label id cs h.1)
  where
    one : (b : Bool) → HaveOther label (children_but id cs) → HaveOther label (cond b (c ∷ children_but id cs) (children_but id cs))
    one true rest = (h.0, rest)
    one false rest = rest

apart_but : (id : ℕ) (cs : List (List ℕ × ℕ)) → AreApart cs → AreApart (children_but id cs)
apart_but id [] h = tt
apart_but id (c ∷ cs) h = one (not (c.1 == id)) (apart_but id cs h.1)
  where
    one : (b : Bool) → AreApart (children_but id cs) → AreApart (cond b (c ∷ children_but id cs) (children_but id cs))
    one true rest = (other_but c.0 id cs h.0, rest)
    one false rest = rest

other_rest : (label : List ℕ) (id : ℕ) (cs : List (List ℕ × ℕ)) → Holds label id cs → AreApart cs → HaveOther label (children_but id cs)
other_rest label id [] held h = absurd held
other_rest label id (c ∷ cs) held h = one held (not (c.1 == id)) refl (other_rest label id cs)
  where
    one : ((c.0 ≡ label) × (c.1 ≡ id)) ⊎ Holds label id cs → (b : Bool) → not (c.1 == id) ≡ b → (Holds label id cs → AreApart cs → HaveOther label (children_but id cs))
        → HaveOther label (cond b (c ∷ children_but id cs) (children_but id cs))
    one (inl here) true is rest = absurd (false≢true (ap not (sym (eq-eqb c.1 id here.1)) ∙ is))
    one (inl here) false is rest = subst (λ (l : List ℕ). HaveOther l (children_but id cs)) here.0 (other_but c.0 id cs h.0)
    one (inr later) true is rest = ((λ e. other_holds c.0 label id cs h.0 later (sym e)), rest later h.1)
    one (inr later) false is rest = rest later h.1

pub held_renumbered : (gs label : List ℕ) (old id : ℕ) (cs : List (List ℕ × ℕ)) → Holds label old cs → AreHeld gs cs → AreHeld gs ((label, id) ∷ children_but old cs)
held_renumbered gs label old id cs held h = record {
  over = (over_holds gs label old cs h.over held, over_but gs old cs h.over);
  apart = (other_rest label old cs held h.apart, apart_but old cs h.apart);
}

-- a version among the children of its parent
pub child_held : (vs : List Version) (id p : ℕ) (v : Version) → entry_at plain vs id ≡ Some v → v.parent ≡ Some p → Holds v.label id (children_of p vs)
child_held [] id p v at up = absurd (cc)
child_held (x ∷ vs) id p v at up = one (x.id == id) refl at (is_parent p x.parent) refl (λ (h : entry_at plain vs id ≡ Some v). child_held vs id p v h up)
  where
    one : (a : Bool) → (x.id == id) ≡ a → cond a (Some x) (entry_at plain vs id) ≡ Some v → (b : Bool) → is_parent p x.parent ≡ b
        → (entry_at plain vs id ≡ Some v → Holds v.label id (children_of p vs)) → Holds v.label id (cond b ((x.label, x.id) ∷ children_of p vs) (children_of p vs))
    one true is h true to rest = inl (ap (λ (z : Version). z.label) (same_Some x v h), same x.id id is)
    one true is h false to rest =
        let e = ap (λ (z : Version). z.parent) (same_Some x v h) ∙ up in
        absurd (false≢true (sym to ∙ ap (is_parent p) e ∙ eq-eqb p p refl))
    one false is h true to rest = inr (rest h)
    one false is h false to rest = rest h

only_below : (label : List ℕ) (id p top : ℕ) (vs : List Version) → Falls top vs → top ≤ id → IsOnly label id (children_of p vs)
only_below label id p top [] f le = tt
only_below label id p top (x ∷ vs) f le = let low = f.0 in one (is_parent p x.parent) (only_below label id p x.id vs f.1 (omega arith))
  where
    one : (b : Bool) → IsOnly label id (children_of p vs) → IsOnly label id (cond b ((x.label, x.id) ∷ children_of p vs) (children_of p vs))
    one true rest = ((λ e. let low = f.0 in absurd (omega arith)), rest)
    one false rest = rest

pub child_only : (top : ℕ) (vs : List Version) (id p : ℕ) (v : Version) → Falls top vs → entry_at plain vs id ≡ Some v → IsOnly v.label id (children_of p vs)
child_only top [] id p v f at = absurd (cc)
child_only top (x ∷ vs) id p v f at = one (x.id == id) refl at (is_parent p x.parent) (child_only x.id vs id p v f.1)
  where
    one : (a : Bool) → (x.id == id) ≡ a → cond a (Some x) (entry_at plain vs id) ≡ Some v → (b : Bool)
        → (entry_at plain vs id ≡ Some v → IsOnly v.label id (children_of p vs)) → IsOnly v.label id (cond b ((x.label, x.id) ∷ children_of p vs) (children_of p vs))
    one true is h true rest = let e = same x.id id is in ((λ z. ap (λ (y : Version). y.label) (same_Some x v h)), only_below v.label id p x.id vs f.1 (omega arith))
    one true is h false rest = let e = same x.id id is in only_below v.label id p x.id vs f.1 (omega arith)
    one false is h true rest = ((λ z. absurd (apart x.id id is z)), rest h)
    one false is h false rest = rest h

-- who has no parent
abbrev pub roots : List Version → List Version
roots vs = filter (λ v. is_none v.parent) vs

pub roots_pruned : (rule : Version → Option Version) → ((v w : Version) → rule v ≡ Some w → is_none w.parent ≡ is_none v.parent) → (vs : List Version) → length (roots (prune plain rule vs)) ≤ length (roots vs)
roots_pruned rule same_root [] = omega arith
roots_pruned rule same_root (v ∷ vs) = one (rule v) refl (is_none v.parent) refl (roots_pruned rule same_root vs)
  where
    rest : List Version
    rest = prune plain rule vs

    two : (u : Version) → (c : Bool) → is_none u.parent ≡ c → (b : Bool) → b ≡ c → (d : Bool) → length (roots rest) ≤ length (roots vs)
        → length (roots (cond d (u ∷ rest) rest)) ≤ length (cond b (v ∷ roots vs) (roots vs))
    two u true is true e true le = subst (λ (z : Bool). length (cond z (u ∷ roots rest) (roots rest)) ≤ suc (length (roots vs))) (sym is) (omega arith)
    two u true is true e false le = omega arith
    two u true is false e d le = absurd (false≢true e)
    two u false is true e d le = absurd (false≢true (sym e))
    two u false is false e true le = subst (λ (z : Bool). length (cond z (u ∷ roots rest) (roots rest)) ≤ length (roots vs)) (sym is) le
    two u false is false e false le = le

    one : (o : Option Version) → rule v ≡ o → (b : Bool) → is_none v.parent ≡ b → length (roots rest) ≤ length (roots vs)
        → length (roots (kept plain o rest)) ≤ length (cond b (v ∷ roots vs) (roots vs))
    one None e true is le = omega arith
    one None e false is le = le
    one (Some u) e b is le = two u (is_none u.parent) refl b (sym is ∙ sym (same_root v u e)) (parent_there plain rest u.parent) le

pub rising_pruned : (rule : Version → Option Version) → ((v w : Version) → rule v ≡ Some w → IsRising v.label → IsRising v.groups → IsRising w.label × IsRising w.groups) → (vs : List Version)
    → AreRising vs → AreRising (prune plain rule vs)
rising_pruned rule stays [] h = tt
rising_pruned rule stays (v ∷ vs) h = one (rule v) refl (rising_pruned rule stays vs h.2)
  where
    two : (u : Version) → rule v ≡ Some u → (b : Bool) → AreRising (prune plain rule vs) → AreRising (cond b (u ∷ prune plain rule vs) (prune plain rule vs))
    two u e true rest = let r = stays v u e h.0 h.1 in (r.0, r.1, rest)
    two u e false rest = rest

    one : (o : Option Version) → rule v ≡ o → AreRising (prune plain rule vs) → AreRising (kept plain o (prune plain rule vs))
    one None e rest = rest
    one (Some u) e rest = two u e (parent_there plain (prune plain rule vs) u.parent) rest

-- a group is decided
decided_rises : (owner run : ℕ) (outcome : Outcome) (v w : Version) → decided owner run outcome v ≡ Some w → IsRising v.label → IsRising v.groups → IsRising w.label × IsRising w.groups
decided_rises owner run outcome v w h label groups = one (v.id == owner) (is_parent owner v.parent) (foresaw run outcome v.label) h
  where
    one : (a b c : Bool) → cond a (Some (record v { groups = others run v.groups })) (cond b (cond c (Some (record v { label = others run v.label })) None) (Some v)) ≡ Some w → IsRising w.label × IsRising w.groups
    one true b c h = subst (λ (z : Version). IsRising z.label × IsRising z.groups) (same_Some (record v { groups = others run v.groups }) w h) (label, rising_others run v.groups groups)
    one false true true h = subst (λ (z : Version). IsRising z.label × IsRising z.groups) (same_Some (record v { label = others run v.label }) w h) (rising_others run v.label label, groups)
    one false true false h = absurd (cc)
    one false false c h = subst (λ (z : Version). IsRising z.label × IsRising z.groups) (same_Some v w h) (label, groups)

-- what a decision leaves of a version that is there afterwards
pub record WasDecided (owner run : ℕ) (outcome : Outcome) (vs : List Version) (id : ℕ) (w : Version) : Type 0 where
  pub was : Version
  pub there : entry_at plain vs id ≡ Some was
  pub mine : (owner == id) ≡ true → (w.groups ≡ others run was.groups) × (children_of id (prune plain (decided owner run outcome) vs) ≡ children_decided run outcome (children_of id vs))
  pub other : (owner == id) ≡ false → (w.groups ≡ was.groups) × (children_of id (prune plain (decided owner run outcome) vs) ≡ children_of id vs)

pub entry_id : (vs : List Version) (id : ℕ) (v : Version) → entry_at plain vs id ≡ Some v → v.id ≡ id
entry_id [] id v h = absurd (cc)
entry_id (x ∷ vs) id v h = one (x.id == id) refl h (entry_id vs id v)
  where
    one : (b : Bool) → (x.id == id) ≡ b → cond b (Some x) (entry_at plain vs id) ≡ Some v → (entry_at plain vs id ≡ Some v → v.id ≡ id) → v.id ≡ id
    one true is h rest = ap (λ (z : Version). z.id) (sym (same_Some x v h)) ∙ same x.id id is
    one false is h rest = rest h

pub was_decided : (owner run : ℕ) (outcome : Outcome) (top : ℕ) (vs : List Version) → Falls top vs → AreYounger vs → (id : ℕ) (w : Version)
    → entry_at plain (prune plain (decided owner run outcome) vs) id ≡ Some w → WasDecided owner run outcome vs id w
was_decided owner run outcome top vs f y id w h =
    let e = pruned_entry (decided owner run outcome) (decided_keeps owner run outcome) top vs f id w h in
    let groups = decided_groups owner run outcome e.0 w e.2 in
    let here = entry_id vs id e.0 e.1 in
    let children = children_pruned (decided owner run outcome) id (decided_keeps owner run outcome) (decided_parents owner run outcome id) top vs f y (ap is_some h) in
    record {
      was = e.0;
      there = e.1;
      mine = λ is. (
          let at = same owner id is in (
            groups ∙ ap (λ (b : Bool). cond b (others run e.0.groups) e.0.groups) (eq-eqb e.0.id owner (here ∙ sym at)),
            children ∙ subst (λ (n : ℕ). children_ruled (decided n run outcome) id vs ≡ children_decided run outcome (children_of id vs)) (sym at) (ruled_owner id run outcome vs y),
          ));
      other = λ is. (
          let differ = apart owner id is in (
            groups ∙ ap (λ (b : Bool). cond b (others run e.0.groups) e.0.groups) (differs e.0.id owner (λ z. differ (sym z ∙ here))),
            children ∙ ruled_other owner run outcome id vs (λ z. differ (sym z)),
          ));
    }

pub decided_family : (owner run : ℕ) (outcome : Outcome) (top : ℕ) (vs : List Version) → Falls top vs → AreYounger vs → AreFamily vs → AreFamily (prune plain (decided owner run outcome) vs)
decided_family owner run outcome top vs f y h =
    let few = roots_pruned (decided owner run outcome) (λ v w e. ap is_none (decided_up owner run outcome v w e)) vs in
    let most = h.one_root in
    record {
      one_root = omega arith;
      held = λ id w at. held_there id w (was_decided owner run outcome top vs f y id w at) (owner == id) refl;
      rising = rising_pruned (decided owner run outcome) (decided_rises owner run outcome) vs h.rising;
    }
  where
    held_there : (id : ℕ) (w : Version) → WasDecided owner run outcome vs id w → (b : Bool) → (owner == id) ≡ b → AreHeld w.groups (children_of id (prune plain (decided owner run outcome) vs))
    held_there id w was true is =
        let m = was.mine is in
        subst (λ (l : List ℕ). AreHeld l (children_of id (prune plain (decided owner run outcome) vs))) (sym m.0)
        (subst (AreHeld (others run was.was.groups)) (sym m.1) (held_decided run outcome was.was.groups (children_of id vs) (labels_rise id vs h.rising) (h.held id was.was was.there)))
    held_there id w was false is =
        let m = was.other is in
        subst (λ (l : List ℕ). AreHeld l (children_of id (prune plain (decided owner run outcome) vs))) (sym m.0)
        (subst (AreHeld was.was.groups) (sym m.1) (h.held id was.was was.there))
