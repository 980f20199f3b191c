-- The root of a tree, and the children of a parent, as the machine finds them.
use Rattle.std.proofs.Common.{◌≡◌, ℕ, Bool, true, false, not, ◌&&◌, ◌==◌, cond, List, [], ◌∷◌, map, Option, Some, None, is_some, refl, sym, ap, subst, ◌∙◌, arith, find}
use Rattle.std.specs.List.{All}
use Rattle.std.proofs.lemmas.Bool.{and_parts}
use Rattle.std.proofs.lemmas.Bool.Decides.{nat_tests}
use Rattle.std.proofs.lemmas.List.Elements.{All-nil, All-cons}
use Rattle.sp_plan.specs.declared.plan.Plan.{Plan}
use Rattle.sp_plan.specs.Runs.{State}
use Rattle.sp_version.specs.declared.version.Version.{Version}
use Rattle.sp_group.specs.Family.{entry_at, is_parent, parent_there}
use Rattle.sp_group.specs.Machine as machine
use Rattle.sp_group.specs.Refusing.{child_with, id_of, same_list}
use Rattle.sp_tree.specs.Grown.{Entry, AreRooted, IsChild, LacksChild, kin, root_in}
use Rattle.sp_rules.specs.Kept.{Child, Shape, Stands}
use Rattle.sp_rules.proofs.Spawning.{same_is}
use Rattle.sp_core.specs.Holding.{version_of}
use Rattle.sp_core.proofs.Entries.{version_is}

-- the machine has the same root
pub root_found : (es : List (Entry Version)) → id_of (machine.root_in (map version_of es)) ≡ root_in es
root_found [] = refl
root_found (e ∷ es) = one (is_some e.version.parent) (root_found es)
  where
    one : (b : Bool) → id_of (machine.root_in (map version_of es)) ≡ root_in es
        → id_of (cond b (machine.root_in (map version_of es)) (Some (version_of e))) ≡ cond b (root_in es) (Some e.version.id)
    one true rest = rest
    one false rest = refl

-- where no version has no parent there is none
pub no_root : (es : List (Entry Version)) → AreRooted es → root_in es ≡ None → es ≡ []
no_root [] rooted none = refl
no_root (e ∷ es) rooted none = absurd (one e.version.parent rooted.0 none (no_root es rooted.1))
  where
    one : (parent : Option ℕ) → parent_there kin es parent ≡ true → cond (is_some parent) (root_in es) (Some e.version.id) ≡ None → (root_in es ≡ None → es ≡ []) → ⊥
    one None there none rest = absurd (cc)
    one (Some p) there none rest =
        let gone : false ≡ true = subst (λ (xs : List (Entry Version)). is_some (entry_at kin xs p) ≡ true) (rest none) there in
        absurd (cc)

same_itself : (ns : List ℕ) → same_list ns ns ≡ true
same_itself [] = refl
same_itself (n ∷ ns) = let own : (n == n) ≡ true = grind (arith, nat_tests) in rw own (same_itself ns)

-- whether an entry is the child of a parent with a label, as the machine tests it
abbrev is_child : Entry Version → ℕ → List ℕ → Bool
is_child e p label = is_parent p e.version.parent && same_list e.version.label label

parent_is : (o : Option ℕ) (p : ℕ) → is_parent p o ≡ true → o ≡ Some p
parent_is None p is = absurd (cc)
parent_is (Some n) p is = let same : n ≡ p = grind (arith, nat_tests) in ap (λ (m : ℕ). Some m) same

child_parts : (e : Entry Version) (p : ℕ) (label : List ℕ) → is_child e p label ≡ true → (e.version.parent ≡ Some p) × (e.version.label ≡ label)
child_parts e p label is =
    let both = and_parts (is_parent p e.version.parent) (same_list e.version.label label) is in
    (parent_is e.version.parent p both.0, same_is e.version.label label both.1)

child_test : (e : Entry Version) (p : ℕ) (label : List ℕ) → e.version.parent ≡ Some p → e.version.label ≡ label → is_child e p label ≡ true
child_test e p label parent same =
    let own : (p == p) ≡ true = grind (arith, nat_tests) in
    rw (parent, same, own) (same_itself label)

-- where the machine finds no child the tree lacks it
pub lacks_child : (es : List (Entry Version)) (p : ℕ) (label : List ℕ) → child_with (map version_of es) p label ≡ None → LacksChild es p label
lacks_child [] p label none = tt
lacks_child (e ∷ es) p label none = one (lacks_child es p label) (is_child e p label) refl none
  where
    one : (child_with (map version_of es) p label ≡ None → LacksChild es p label) → (b : Bool) → is_child e p label ≡ b
        → cond b (Some e.version.id) (child_with (map version_of es) p label) ≡ None → LacksChild (e ∷ es) p label
    one rest true is none = absurd (cc)
    one rest false is none = (λ both. let test = child_test e p label both.0 both.1 in absurd (cc), rest none)

-- and the other way round
pub no_child : (es : List (Entry Version)) (p : ℕ) (label : List ℕ) → LacksChild es p label → child_with (map version_of es) p label ≡ None
no_child [] p label lacks = refl
no_child (e ∷ es) p label lacks = one (no_child es p label lacks.1) (is_child e p label) refl
  where
    one : child_with (map version_of es) p label ≡ None → (b : Bool) → is_child e p label ≡ b → cond b (Some e.version.id) (child_with (map version_of es) p label) ≡ None
    one rest true is = absurd (lacks.0 (child_parts e p label is))
    one rest false is = rest

-- a child that the tree has is the one that the machine finds, since no two have the same label
pub child_found : (q : Plan) (f : machine.Version → State) (finished : ℕ) (es : List (Entry Version)) (p : ℕ) (label : List ℕ) (id : ℕ) → Shape q f finished (map version_of es)
    → IsChild es p label id → child_with (map version_of es) p label ≡ Some id
child_found q f finished [] p label id shape child = absurd (let at = child.1 in cc)
child_found q f finished (e ∷ es) p label id shape child = one (child_found q f finished es p label id shape.1) (is_child e p label) refl
  where
    x : Entry Version
    x = child.0

    older : (b : Bool) → (e.version.id == id) ≡ b → cond b (Some e) (entry_at kin es id) ≡ Some x → is_child e p label ≡ true → e.version.id ≡ id
    older true is at test = grind (arith, nat_tests)
    older false is at test =
        let parts = child_parts e p label test in
        let below : Child q f (map version_of es) (version_of e) p =
        subst (λ (o : Option ℕ). Stands q f finished (map version_of es) (version_of e) o) parts.0 shape.0.stands in
        absurd (below.apart id (version_of x) (version_is es id x at) child.2 (child.3 ∙ sym parts.1))

    behind : (b : Bool) → cond b (Some e) (entry_at kin es id) ≡ Some x → is_child e p label ≡ false → entry_at kin es id ≡ Some x
    behind true at test =
        let same : e ≡ x = cc in
        let own = child_test e p label (ap (λ (y : Entry Version). y.version.parent) same ∙ child.2) (ap (λ (y : Entry Version). y.version.label) same ∙ child.3) in
        absurd (cc)
    behind false at test = at

    one : (IsChild es p label id → child_with (map version_of es) p label ≡ Some id) → (b : Bool) → is_child e p label ≡ b
        → cond b (Some e.version.id) (child_with (map version_of es) p label) ≡ Some id
    one rest true is = ap (λ (n : ℕ). Some n) (older (e.version.id == id) refl child.1 is)
    one rest false is = rest (x, behind (e.version.id == id) child.1 is, child.2, child.3)

-- where no item fails a test all pass it
pub all_pass : (f : ℕ → Bool) (ns : List ℕ) → find (λ n. not (f n)) ns ≡ None → All (λ n. f n ≡ true) ns
all_pass f [] none = All-nil (λ n. f n ≡ true)
all_pass f (n ∷ ns) none = one (all_pass f ns) (f n) refl none
  where
    one : (find (λ m. not (f m)) ns ≡ None → All (λ m. f m ≡ true) ns) → (b : Bool) → f n ≡ b → cond (not b) (Some n) (find (λ m. not (f m)) ns) ≡ None
        → All (λ m. f m ≡ true) (n ∷ ns)
    one rest true is none = All-cons (λ m. f m ≡ true) n ns is (rest none)
    one rest false is none = absurd (cc)
