-- Versions with their children, and what a prune makes of them.
use Rattle.std.proofs.Common.{◌≡◌, ◌≢◌, ℕ, ◌<◌, ◌≤◌, Bool, true, false, cond, not, ◌==◌, List, [], ◌∷◌, Option, Some, None, is_some, refl, sym, ap, ◌∙◌, arith, eq-eqb}
use Rattle.std.proofs.lemmas.Bool.{false≢true}
use Rattle.std.proofs.lemmas.Bool.Decides.{nat_tests}
use Rattle.std.proofs.lemmas.Option.{same_Some}
use Rattle.sp_group.specs.declared.outcome.Outcome.{Outcome}
use Rattle.sp_group.specs.Deciding.{others, foresaw}
use Rattle.sp_group.specs.Family.{entry_at, parent_there, kept, prune, is_parent}
use Rattle.sp_tree.specs.Version.{Version}
use Rattle.sp_tree.specs.Changes.{decided, child_decided, but, promoted}
use Rattle.sp_tree.specs.Children.{plain, children_of}
use Rattle.sp_tree.specs.Shape.{children_decided, children_but}

pub same : (m n : ℕ) → (m == n) ≡ true → m ≡ n
same m n h = grind (arith, nat_tests)

differs : (m n : ℕ) → m ≢ n → (m == n) ≡ false
differs m n h = grind (arith, nat_tests)

pub apart : (m n : ℕ) → (m == n) ≡ false → m ≢ n
apart m n h = λ e. false≢true (sym h ∙ eq-eqb m n e)

-- the ids fall, and are below this one
abbrev pub Falls : ℕ → List Version → Type 0
Falls top [] = Unit {0}
Falls top (v ∷ vs) = (v.id < top) × Falls v.id vs

-- each parent stands behind its children
abbrev pub AreRooted : List Version → Type 0
AreRooted [] = Unit {0}
AreRooted (v ∷ vs) = (parent_there plain vs v.parent ≡ true) × AreRooted vs

-- each parent is older than its children
abbrev pub AreYounger : List Version → Type 0
AreYounger [] = Unit {0}
AreYounger (v ∷ vs) = ((p : ℕ) → v.parent ≡ Some p → p < v.id) × AreYounger vs

pub there_below : (top : ℕ) (vs : List Version) (id : ℕ) → Falls top vs → is_some (entry_at plain vs id) ≡ true → id < top
there_below top [] id f h = absurd (false≢true h)
there_below top (v ∷ vs) id f h = one (v.id == id) refl h (there_below v.id vs id f.1)
  where
    one : (b : Bool) → (v.id == id) ≡ b → is_some (cond b (Some v) (entry_at plain vs id)) ≡ true → (is_some (entry_at plain vs id) ≡ true → id < v.id) → id < top
    one true is h rest = let low = f.0 in let e = same v.id id is in omega arith
    one false is h rest = let low = f.0 in let n = rest h in omega arith

pub younger : (top : ℕ) (vs : List Version) → Falls top vs → AreRooted vs → AreYounger vs
younger top [] f r = tt
younger top (v ∷ vs) f r =
    ((λ p e. there_below v.id vs p f.1 (ap (λ (o : Option ℕ). parent_there plain vs o) (sym e) ∙ r.0)), younger v.id vs f.1 r.1)

pub is_parent_is : (p : ℕ) (o : Option ℕ) → is_parent p o ≡ true → o ≡ Some p
is_parent_is p None h = absurd (false≢true h)
is_parent_is p (Some q) h = ap (λ (n : ℕ). Some n) (same q p h)

pub not_parent : (p n : ℕ) (o : Option ℕ) → ((q : ℕ) → o ≡ Some q → q < n) → n ≤ p → is_parent p o ≡ false
not_parent p n None low le = refl
not_parent p n (Some q) low le = let less = low q refl in differs q p (λ e. omega arith)

-- nobody's parent is this
abbrev pub AreNone : ℕ → List Version → Type 0
AreNone p [] = Unit {0}
AreNone p (v ∷ vs) = (is_parent p v.parent ≡ false) × AreNone p vs

pub none_above : (p top : ℕ) (vs : List Version) → Falls top vs → AreYounger vs → top ≤ p → AreNone p vs
none_above p top [] f y le = tt
none_above p top (v ∷ vs) f y le =
    let low = f.0 in
    (not_parent p v.id v.parent y.0 (omega arith), none_above p v.id vs f.1 y.1 (omega arith))

pub no_children : (p : ℕ) (vs : List Version) → AreNone p vs → children_of p vs ≡ []
no_children p [] h = refl
no_children p (v ∷ vs) h = ap (λ (b : Bool). cond b ((v.label, v.id) ∷ children_of p vs) (children_of p vs)) h.0 ∙ no_children p vs h.1

abbrev pub ruled_on : Option Version → List (List ℕ × ℕ) → List (List ℕ × ℕ)
ruled_on None cs = cs
ruled_on (Some w) cs = (w.label, w.id) ∷ cs

-- the children of a version as a rule has them
abbrev pub children_ruled : (Version → Option Version) → ℕ → List Version → List (List ℕ × ℕ)
children_ruled rule p [] = []
children_ruled rule p (v ∷ vs) = cond (is_parent p v.parent) (ruled_on (rule v) (children_ruled rule p vs)) (children_ruled rule p vs)

no_ruled : (rule : Version → Option Version) (p : ℕ) (vs : List Version) → AreNone p vs → children_ruled rule p vs ≡ []
no_ruled rule p [] h = refl
no_ruled rule p (v ∷ vs) h = ap (λ (b : Bool). cond b (ruled_on (rule v) (children_ruled rule p vs)) (children_ruled rule p vs)) h.0 ∙ no_ruled rule p vs h.1

-- a rule keeps ids, and changes nobody's parent to this or from it
abbrev pub Keeps : (Version → Option Version) → Type 0
Keeps rule = (v w : Version) → rule v ≡ Some w → w.id ≡ v.id

abbrev pub KeepsParent : (Version → Option Version) → ℕ → Type 0
KeepsParent rule p = (v w : Version) → rule v ≡ Some w → is_parent p w.parent ≡ is_parent p v.parent

-- who is there after a prune was there before it
pub pruned_entry : (rule : Version → Option Version) → Keeps rule → (top : ℕ) (vs : List Version) → Falls top vs → (id : ℕ) (w : Version) → entry_at plain (prune plain rule vs) id ≡ Some w
    → (v : Version) × (entry_at plain vs id ≡ Some v) × (rule v ≡ Some w)
pruned_entry rule keeps top [] f id w h = absurd (cc)
pruned_entry rule keeps top (v ∷ vs) f id w h = one (rule v) refl h (pruned_entry rule keeps v.id vs f.1 id w)
  where
    rest : List Version
    rest = prune plain rule vs

    behind : (x : Version) × (entry_at plain vs id ≡ Some x) × (rule x ≡ Some w) → (x : Version) × (entry_at plain (v ∷ vs) id ≡ Some x) × (rule x ≡ Some w)
    behind g =
        let low = there_below v.id vs id f.1 (ap is_some g.1) in
        let n = differs v.id id (λ e. omega arith) in
        (g.0, ap (λ (b : Bool). cond b (Some v) (entry_at plain vs id)) n ∙ g.1, g.2)

    three : (u : Version) → rule v ≡ Some u → (b : Bool) → (u.id == id) ≡ b → cond b (Some u) (entry_at plain rest id) ≡ Some w
        → (entry_at plain rest id ≡ Some w → (x : Version) × (entry_at plain vs id ≡ Some x) × (rule x ≡ Some w))
        → (x : Version) × (entry_at plain (v ∷ vs) id ≡ Some x) × (rule x ≡ Some w)
    three u e true is h ih =
        let n : (v.id == id) ≡ true = ap (λ (k : ℕ). k == id) (sym (keeps v u e)) ∙ is in
        (v, ap (λ (b : Bool). cond b (Some v) (entry_at plain vs id)) n, e ∙ h)
    three u e false is h ih = behind (ih h)

    two : (u : Version) → rule v ≡ Some u → (b : Bool) → entry_at plain (cond b (u ∷ rest) rest) id ≡ Some w
        → (entry_at plain rest id ≡ Some w → (x : Version) × (entry_at plain vs id ≡ Some x) × (rule x ≡ Some w))
        → (x : Version) × (entry_at plain (v ∷ vs) id ≡ Some x) × (rule x ≡ Some w)
    two u e true h ih = three u e (u.id == id) refl h ih
    two u e false h ih = behind (ih h)

    one : (o : Option Version) → rule v ≡ o → entry_at plain (kept plain o rest) id ≡ Some w
        → (entry_at plain rest id ≡ Some w → (x : Version) × (entry_at plain vs id ≡ Some x) × (rule x ≡ Some w))
        → (x : Version) × (entry_at plain (v ∷ vs) id ≡ Some x) × (rule x ≡ Some w)
    one None e h ih = behind (ih h)
    one (Some u) e h ih = two u e (parent_there plain rest u.parent) h ih

pub none_pruned : (rule : Version → Option Version) (p : ℕ) → KeepsParent rule p → (vs : List Version) → AreNone p vs → AreNone p (prune plain rule vs)
none_pruned rule p mine [] h = tt
none_pruned rule p mine (v ∷ vs) h = one (rule v) refl (none_pruned rule p mine vs h.1)
  where
    two : (u : Version) → rule v ≡ Some u → (b : Bool) → AreNone p (prune plain rule vs) → AreNone p (cond b (u ∷ prune plain rule vs) (prune plain rule vs))
    two u e true rest = (mine v u e ∙ h.0, rest)
    two u e false rest = rest

    one : (o : Option Version) → rule v ≡ o → AreNone p (prune plain rule vs) → AreNone p (kept plain o (prune plain rule vs))
    one None e rest = rest
    one (Some u) e rest = two u e (parent_there plain (prune plain rule vs) u.parent) rest

-- the children of a version that is there after a prune
pub children_pruned : (rule : Version → Option Version) (p : ℕ) → Keeps rule → KeepsParent rule p → (top : ℕ) (vs : List Version) → Falls top vs → AreYounger vs
    → is_some (entry_at plain (prune plain rule vs) p) ≡ true → children_of p (prune plain rule vs) ≡ children_ruled rule p vs
children_pruned rule p keeps mine top [] f y there = refl
children_pruned rule p keeps mine top (v ∷ vs) f y there = one (rule v) refl there (children_pruned rule p keeps mine v.id vs f.1 y.1)
  where
    rest : List Version
    rest = prune plain rule vs

    ruled : List (List ℕ × ℕ)
    ruled = children_ruled rule p vs

    either : (b : Bool) → cond b ruled ruled ≡ ruled
    either true = refl
    either false = refl

    -- the version is the parent itself
    here : (u : Version) → rule v ≡ Some u → u.id ≡ p → children_of p rest ≡ ruled
    here u e is =
        let id = keeps v u e in
        let none = none_above p v.id vs f.1 y.1 (omega arith) in
        no_children p rest (none_pruned rule p mine vs none) ∙ sym (no_ruled rule p vs none)

    four : (u : Version) → rule v ≡ Some u → (b : Bool) → (u.id == p) ≡ b → is_some (cond b (Some u) (entry_at plain rest p)) ≡ true
        → (is_some (entry_at plain rest p) ≡ true → children_of p rest ≡ ruled) → children_of p rest ≡ ruled
    four u e true is there ih = here u e (same u.id p is)
    four u e false is there ih = ih there

    -- the parent is not there, so the version is no child of it
    lost : (u : Version) → rule v ≡ Some u → (c : Bool) → is_parent p v.parent ≡ c → parent_there plain rest u.parent ≡ false → is_some (entry_at plain rest p) ≡ true
        → children_of p rest ≡ ruled → children_of p rest ≡ cond c (ruled_on (Some u) ruled) ruled
    lost u e true is gone there ih =
        let up = is_parent_is p u.parent (mine v u e ∙ is) in
        absurd (false≢true (sym gone ∙ ap (λ (o : Option ℕ). parent_there plain rest o) up ∙ there))
    lost u e false is gone there ih = ih

    two : (u : Version) → rule v ≡ Some u → (b : Bool) → parent_there plain rest u.parent ≡ b → is_some (entry_at plain (cond b (u ∷ rest) rest) p) ≡ true
        → (is_some (entry_at plain rest p) ≡ true → children_of p rest ≡ ruled) → children_of p (cond b (u ∷ rest) rest) ≡ cond (is_parent p v.parent) (ruled_on (Some u) ruled) ruled
    two u e true is there ih =
        ap (λ (b : Bool). cond b ((u.label, u.id) ∷ children_of p rest) (children_of p rest)) (mine v u e)
        ∙ ap (λ (l : List (List ℕ × ℕ)). cond (is_parent p v.parent) ((u.label, u.id) ∷ l) l) (four u e (u.id == p) refl there ih)
    two u e false is there ih = lost u e (is_parent p v.parent) refl is there (ih there)

    one : (o : Option Version) → rule v ≡ o → is_some (entry_at plain (kept plain o rest) p) ≡ true
        → (is_some (entry_at plain rest p) ≡ true → children_of p rest ≡ ruled) → children_of p (kept plain o rest) ≡ cond (is_parent p v.parent) (ruled_on o ruled) ruled
    one None e there ih = ih there ∙ sym (either (is_parent p v.parent))
    one (Some u) e there ih = two u e (parent_there plain rest u.parent) refl there ih

-- a decided group
decided_cases : (owner run : ℕ) (outcome : Outcome) (v w : Version) → decided owner run outcome v ≡ Some w
    → (w.id ≡ v.id) × (w.parent ≡ v.parent) × (w.groups ≡ cond (v.id == owner) (others run v.groups) v.groups)
decided_cases owner run outcome v w h = one (v.id == owner) (is_parent owner v.parent) (foresaw run outcome v.label) h
  where
    one : (a b c : Bool) → cond a (Some (record v { groups = others run v.groups })) (cond b (cond c (Some (record v { label = others run v.label })) None) (Some v)) ≡ Some w
        → (w.id ≡ v.id) × (w.parent ≡ v.parent) × (w.groups ≡ cond a (others run v.groups) v.groups)
    one true b c h = let e = same_Some (record v { groups = others run v.groups }) w h in (ap (λ (z : Version). z.id) (sym e), ap (λ (z : Version). z.parent) (sym e), ap (λ (z : Version). z.groups) (sym e))
    one false true true h = let e = same_Some (record v { label = others run v.label }) w h in (ap (λ (z : Version). z.id) (sym e), ap (λ (z : Version). z.parent) (sym e), ap (λ (z : Version). z.groups) (sym e))
    one false true false h = absurd (cc)
    one false false c h = let e = same_Some v w h in (ap (λ (z : Version). z.id) (sym e), ap (λ (z : Version). z.parent) (sym e), ap (λ (z : Version). z.groups) (sym e))

pub decided_keeps : (owner run : ℕ) (outcome : Outcome) → Keeps (decided owner run outcome)
decided_keeps owner run outcome = λ v w h. (decided_cases owner run outcome v w h).0

pub decided_parents : (owner run : ℕ) (outcome : Outcome) (p : ℕ) → KeepsParent (decided owner run outcome) p
decided_parents owner run outcome p = λ v w h. ap (is_parent p) (decided_cases owner run outcome v w h).1

pub decided_up : (owner run : ℕ) (outcome : Outcome) (v w : Version) → decided owner run outcome v ≡ Some w → w.parent ≡ v.parent
decided_up owner run outcome v w h = (decided_cases owner run outcome v w h).1

pub decided_groups : (owner run : ℕ) (outcome : Outcome) (v w : Version) → decided owner run outcome v ≡ Some w → w.groups ≡ cond (v.id == owner) (others run v.groups) v.groups
decided_groups owner run outcome v w h = (decided_cases owner run outcome v w h).2

-- the children of the owner
pub ruled_owner : (owner run : ℕ) (outcome : Outcome) (vs : List Version) → AreYounger vs → children_ruled (decided owner run outcome) owner vs ≡ children_decided run outcome (children_of owner vs)
ruled_owner owner run outcome [] y = refl
ruled_owner owner run outcome (v ∷ vs) y = one (is_parent owner v.parent) refl (ruled_owner owner run outcome vs y.1)
  where
    ruled : List (List ℕ × ℕ)
    ruled = children_ruled (decided owner run outcome) owner vs

    now : List (List ℕ × ℕ)
    now = children_decided run outcome (children_of owner vs)

    two : (c : Bool) → ruled ≡ now → ruled_on (cond c (Some (record v { label = others run v.label })) None) ruled ≡ cond c ((others run v.label, v.id) ∷ now) now
    two true rest = ap (λ (l : List (List ℕ × ℕ)). (others run v.label, v.id) ∷ l) rest
    two false rest = rest

    one : (b : Bool) → is_parent owner v.parent ≡ b → ruled ≡ now → cond b (ruled_on (decided owner run outcome v) ruled) ruled ≡ children_decided run outcome (cond b ((v.label, v.id) ∷ children_of owner vs) (children_of owner vs))
    one true is rest =
        let low = y.0 owner (is_parent_is owner v.parent is) in
        let n = differs v.id owner (λ e. omega arith) in
        ap (λ (a : Bool). ruled_on (cond a (Some (record v { groups = others run v.groups })) (cond (is_parent owner v.parent) (child_decided run outcome v) (Some v))) ruled) n
        ∙ ap (λ (a : Bool). ruled_on (cond a (child_decided run outcome v) (Some v)) ruled) is
        ∙ two (foresaw run outcome v.label) rest
    one false is rest = rest

-- the children of another version
pub ruled_other : (owner run : ℕ) (outcome : Outcome) (p : ℕ) (vs : List Version) → p ≢ owner → children_ruled (decided owner run outcome) p vs ≡ children_of p vs
ruled_other owner run outcome p [] other = refl
ruled_other owner run outcome p (v ∷ vs) other = one (is_parent p v.parent) refl (ruled_other owner run outcome p vs other)
  where
    ruled : List (List ℕ × ℕ)
    ruled = children_ruled (decided owner run outcome) p vs

    two : (a b : Bool) → b ≡ false → ruled_on (cond a (Some (record v { groups = others run v.groups })) (cond b (child_decided run outcome v) (Some v))) ruled ≡ (v.label, v.id) ∷ ruled
    two true b n = refl
    two false true n = absurd (false≢true (sym n))
    two false false n = refl

    one : (b : Bool) → is_parent p v.parent ≡ b → ruled ≡ children_of p vs → cond b (ruled_on (decided owner run outcome v) ruled) ruled ≡ cond b ((v.label, v.id) ∷ children_of p vs) (children_of p vs)
    one true is rest =
        two (v.id == owner) (is_parent owner v.parent) (ap (is_parent owner) (is_parent_is p v.parent is) ∙ differs p owner other)
        ∙ ap (λ (l : List (List ℕ × ℕ)). (v.label, v.id) ∷ l) rest
    one false is rest = rest

-- all but one version
pub but_keeps : (id : ℕ) → Keeps (but id)
but_keeps id = λ v w h. one v w (v.id == id) h
  where
    one : (v w : Version) (b : Bool) → cond b None (Some v) ≡ Some w → w.id ≡ v.id
    one v w true h = absurd (cc)
    one v w false h = ap (λ (z : Version). z.id) (sym (same_Some v w h))

pub but_same : (id : ℕ) (v w : Version) → but id v ≡ Some w → w ≡ v
but_same id v w h = one (v.id == id) h
  where
    one : (b : Bool) → cond b None (Some v) ≡ Some w → w ≡ v
    one true h = absurd (cc)
    one false h = sym (same_Some v w h)

pub but_parents : (id p : ℕ) → KeepsParent (but id) p
but_parents id p = λ v w h. ap (λ (z : Version). is_parent p z.parent) (but_same id v w h)

pub ruled_but : (id p : ℕ) (vs : List Version) → children_ruled (but id) p vs ≡ children_but id (children_of p vs)
ruled_but id p [] = refl
ruled_but id p (v ∷ vs) = one (is_parent p v.parent) (ruled_but id p vs)
  where
    ruled : List (List ℕ × ℕ)
    ruled = children_ruled (but id) p vs

    two : (b : Bool) → ruled ≡ children_but id (children_of p vs) → ruled_on (cond b None (Some v)) ruled ≡ cond (not b) ((v.label, v.id) ∷ children_but id (children_of p vs)) (children_but id (children_of p vs))
    two true rest = rest
    two false rest = ap (λ (l : List (List ℕ × ℕ)). (v.label, v.id) ∷ l) rest

    one : (b : Bool) → ruled ≡ children_but id (children_of p vs) → cond b (ruled_on (but id v) ruled) ruled ≡ children_but id (cond b ((v.label, v.id) ∷ children_of p vs) (children_of p vs))
    one true rest = two (v.id == id) rest
    one false rest = rest

-- the root goes
pub promoted_keeps : (root : ℕ) → Keeps (promoted root)
promoted_keeps root = λ v w h. one v w (v.id == root) (is_parent root v.parent) h
  where
    one : (v w : Version) (a b : Bool) → cond a None (cond b (Some (record v { parent = None })) (Some v)) ≡ Some w → w.id ≡ v.id
    one v w true b h = absurd (cc)
    one v w false true h = ap (λ (z : Version). z.id) (sym (same_Some (record v { parent = None }) w h))
    one v w false false h = ap (λ (z : Version). z.id) (sym (same_Some v w h))

pub promoted_groups : (root : ℕ) (v w : Version) → promoted root v ≡ Some w → (w.groups ≡ v.groups) × (w.label ≡ v.label) × (v.id ≢ root)
promoted_groups root v w h = one (v.id == root) refl (is_parent root v.parent) h
  where
    one : (a : Bool) → (v.id == root) ≡ a → (b : Bool) → cond a None (cond b (Some (record v { parent = None })) (Some v)) ≡ Some w → (w.groups ≡ v.groups) × (w.label ≡ v.label) × (v.id ≢ root)
    one true is b h = absurd (cc)
    one false is true h = let e = same_Some (record v { parent = None }) w h in (ap (λ (z : Version). z.groups) (sym e), ap (λ (z : Version). z.label) (sym e), apart v.id root is)
    one false is false h = let e = same_Some v w h in (ap (λ (z : Version). z.groups) (sym e), ap (λ (z : Version). z.label) (sym e), apart v.id root is)

pub promoted_parents : (root p : ℕ) → p ≢ root → KeepsParent (promoted root) p
promoted_parents root p other = λ v w h. one v w (v.id == root) (is_parent root v.parent) refl h
  where
    one : (v w : Version) (a b : Bool) → is_parent root v.parent ≡ b → cond a None (cond b (Some (record v { parent = None })) (Some v)) ≡ Some w → is_parent p w.parent ≡ is_parent p v.parent
    one v w true b is h = absurd (cc)
    one v w false true is h =
        ap (λ (z : Version). is_parent p z.parent) (sym (same_Some (record v { parent = None }) w h))
        ∙ sym (ap (is_parent p) (is_parent_is root v.parent is) ∙ differs root p (λ e. other (sym e)))
    one v w false false is h = ap (λ (z : Version). is_parent p z.parent) (sym (same_Some v w h))

-- the root has no parent
abbrev pub HasNone : ℕ → List Version → Type 0
HasNone root [] = Unit {0}
HasNone root (v ∷ vs) = (v.id ≡ root → v.parent ≡ None) × HasNone root vs

pub ruled_promoted : (root p : ℕ) (vs : List Version) → p ≢ root → HasNone root vs → children_ruled (promoted root) p vs ≡ children_of p vs
ruled_promoted root p [] other has = refl
ruled_promoted root p (v ∷ vs) other has = one (is_parent p v.parent) refl (ruled_promoted root p vs other has.1)
  where
    ruled : List (List ℕ × ℕ)
    ruled = children_ruled (promoted root) p vs

    two : (a : Bool) → a ≡ false → (b : Bool) → ruled_on (cond a None (cond b (Some (record v { parent = None })) (Some v))) ruled ≡ (v.label, v.id) ∷ ruled
    two true n b = absurd (false≢true (sym n))
    two false n true = refl
    two false n false = refl

    no_root : is_parent p v.parent ≡ true → v.id ≢ root
    no_root is = λ e. false≢true (ap (is_parent p) (sym (has.0 e)) ∙ is)

    one : (b : Bool) → is_parent p v.parent ≡ b → ruled ≡ children_of p vs → cond b (ruled_on (promoted root v) ruled) ruled ≡ cond b ((v.label, v.id) ∷ children_of p vs) (children_of p vs)
    one true is rest =
        two (v.id == root) (differs v.id root (no_root is)) (is_parent root v.parent)
        ∙ ap (λ (l : List (List ℕ × ℕ)). (v.label, v.id) ∷ l) rest
    one false is rest = rest
