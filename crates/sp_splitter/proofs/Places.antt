-- Which versions are picked of the ready ones, and that all that can be out is out once these are leased.
use Rattle.std.proofs.Common.{◌≡◌, ℕ, zero, suc, ◌+◌, ◌-◌, ◌<◌, ◌≤◌, ◌⊎◌, inl, inr, Bool, true, false, cond, not, ◌&&◌, ◌||◌, ◌==◌, is_some, List, [], ◌∷◌, length, take, drop, map, filter, get_or, Some, refl, sym, ap, subst, ◌∙◌, arith}
use Rattle.std.specs.Prelude.{reverse, IsSome, OnOk, Result, Ok, Err}
use Rattle.std.specs.List.{All, count_by}
use Rattle.std.proofs.lemmas.Bool.Decides.{nat_tests}
use Rattle.std.proofs.lemmas.List.{length-take, take_all}
use Rattle.std.proofs.lemmas.List.Elements.{All-take}
use Rattle.std.proofs.lemmas.List.Sorted.{All-permutation, IsPermutation-reverse, list_any-IsPermutation, sum_by-IsPermutation}
use Rattle.std.proofs.lemmas.List.Sums.{sum_by-cons, sum_by-take-drop}
use Rattle.sp_base.specs.Numbers.{is_among}
use Rattle.sp_rules.proofs.Lists.{below_or}
use Rattle.sp_group.specs.Family.{entry_at}
use Rattle.sp_group.specs.Machine as machine
use Rattle.sp_group.specs.Steps.{IsLentOut, IsSpreadOut, is_ready, out_count}
use Rattle.sp_version.specs.declared.version.Version.{Version}
use Rattle.sp_tree.specs.Grown.{Grown, Entry, FallFrom, kin}
use Rattle.sp_pick.specs.Picking.{IsPicked}
use Rattle.sp_core.specs.Holding.{version_of}
use Rattle.sp_core.specs.Running.{Running}
use Rattle.sp_core.specs.Showing.{IsTreeOf}
use Rattle.sp_core.specs.Suppressing.{ready_ids}
use Rattle.sp_spread.specs.Laws.{ready_numbers}
use Rattle.sp_splitter.specs.Keeping.{AreApart, AreReady, KeepsVersions, Lends}
use Rattle.sp_splitter.specs.Lending.{ArePicked, Leases}
use Rattle.sp_splitter.specs.Stages.{Goes, Went}
use Rattle.sp_splitter.proofs.Untouched.{went_kept}

-- the ids of those that pass a test
abbrev passing : (machine.Version → Bool) → List machine.Version → List ℕ
passing test vs = map (λ v. v.id) (filter test vs)

-- one that passes is live
passing_live : (test : machine.Version → Bool) (es : List (Entry Version)) (id : ℕ) → is_among (passing test (map version_of es)) id ≡ true → IsSome (entry_at kin es id)
passing_live test [] id among = absurd (cc)
passing_live test (e ∷ es) id among = one (passing_live test es id) (test (version_of e)) (e.version.id == id) refl among
  where
    one : (is_among (passing test (map version_of es)) id ≡ true → IsSome (entry_at kin es id)) → (b c : Bool) → (e.version.id == id) ≡ c
        → is_among (map (λ (v : machine.Version). v.id) (cond b (version_of e ∷ filter test (map version_of es)) (filter test (map version_of es)))) id ≡ true
        → is_some (cond c (Some e) (entry_at kin es id)) ≡ true
    one rest b true same among = refl
    one rest true false same among = rest (sym (ap (λ (c : Bool). c || is_among (passing test (map version_of es)) id) same) ∙ among)
    one rest false false same among = rest among

-- none that passes has an id above all
passing_above : (test : machine.Version → Bool) (top n : ℕ) (es : List (Entry Version)) → FallFrom top es → top ≤ n → count_by (λ m. m == n) (passing test (map version_of es)) ≡ 0
passing_above test top n [] fall above = refl
passing_above test top n (e ∷ es) fall above =
    let low : e.version.id < top = fall.0 in
    let other : (e.version.id == n) ≡ false = grind (arith, nat_tests) in
    let rest = passing_above test e.version.id n es fall.1 (omega arith) in
    one (test (version_of e)) other rest
  where
    others : List machine.Version
    others = filter test (map version_of es)

    one : (b : Bool) → (e.version.id == n) ≡ false → count_by (λ m. m == n) (map (λ (v : machine.Version). v.id) others) ≡ 0
        → count_by (λ m. m == n) (map (λ (v : machine.Version). v.id) (cond b (version_of e ∷ others) others)) ≡ 0
    one true other rest =
        sum_by-cons (λ (m : ℕ). cond (m == n) 1 0) e.version.id (map (λ (v : machine.Version). v.id) others) ∙ (λ i. cond (other i) 1 0 + rest i)
    one false other rest = rest

-- no id stands twice among those that pass
passing_once : (test : machine.Version → Bool) (top n : ℕ) (es : List (Entry Version)) → FallFrom top es → count_by (λ m. m == n) (passing test (map version_of es)) ≤ 1
passing_once test top n [] fall = omega arith
passing_once test top n (e ∷ es) fall = one (test (version_of e)) (e.version.id == n) refl (passing_once test e.version.id n es fall.1) (passing_above test e.version.id n es fall.1)
  where
    others : List machine.Version
    others = filter test (map version_of es)

    two : (c : Bool) → (e.version.id == n) ≡ c → count_by (λ m. m == n) (map (λ (v : machine.Version). v.id) others) ≤ 1
        → (e.version.id ≤ n → count_by (λ m. m == n) (map (λ (v : machine.Version). v.id) others) ≡ 0)
        → cond c 1 0 + count_by (λ m. m == n) (map (λ (v : machine.Version). v.id) others) ≤ 1
    two true same rest none =
        let is : e.version.id ≡ n = grind (arith, nat_tests) in
        let zero_more = none (omega arith) in
        omega arith
    two false same rest none = omega arith

    one : (b c : Bool) → (e.version.id == n) ≡ c → count_by (λ m. m == n) (map (λ (v : machine.Version). v.id) others) ≤ 1
        → (e.version.id ≤ n → count_by (λ m. m == n) (map (λ (v : machine.Version). v.id) others) ≡ 0)
        → count_by (λ m. m == n) (map (λ (v : machine.Version). v.id) (cond b (version_of e ∷ others) others)) ≤ 1
    one true c same rest none =
        subst (λ (z : ℕ). z ≤ 1)
        (ap (λ (b : Bool). cond b 1 0 + count_by (λ m. m == n) (map (λ (v : machine.Version). v.id) others)) (sym same)
        ∙ sym (sum_by-cons (λ (m : ℕ). cond (m == n) 1 0) e.version.id (map (λ (v : machine.Version). v.id) others)))
        (two c same rest none)
    one false c same rest none = rest

-- each element is among the others
among_itself : (ns : List ℕ) → All (λ n. is_among ns n ≡ true) ns
among_itself [] k d low = absurd (omega arith)
among_itself (n ∷ ns) zero d low = one (n == n) (grind (arith, nat_tests))
  where
    one : (b : Bool) → b ≡ true → (b || is_among ns n) ≡ true
    one true is = refl
    one false is = absurd (cc)
among_itself (n ∷ ns) (suc k) d low = one (n == get_or ns k d) (among_itself ns k d (omega arith))
  where
    one : (b : Bool) → is_among ns (get_or ns k d) ≡ true → (b || is_among ns (get_or ns k d)) ≡ true
    one true is = refl
    one false is = is

-- the ready ids, rising, are ready
rising_ready : (c : Running) → AreReady c (ready_ids c.plan c.bound c.machine)
rising_ready c =
    let ns = ready_numbers c.plan c.bound c.machine in
    All-permutation (λ id. is_among ns id ≡ true) ns (reverse ns) (IsPermutation-reverse ns) (among_itself ns)

-- each of them is live
pub ready_live : (c : Running) (t : Grown Version) (ids : List ℕ) → IsTreeOf c t → ids ≡ ready_ids c.plan c.bound c.machine → All (λ id. IsSome (entry_at kin t.entries id)) ids
ready_live c t ids tree are =
    subst (λ (ns : List ℕ). All (λ id. IsSome (entry_at kin t.entries id)) ns) (sym are)
    (λ k d low. passing_live (is_ready c.plan c.bound c.machine) t.entries _
    (subst (λ (vs : List machine.Version). is_among (passing (is_ready c.plan c.bound c.machine) vs) (get_or (ready_ids c.plan c.bound c.machine) k d) ≡ true) (sym tree.versions)
    (rising_ready c k d low)))

-- what is picked is ready
pub picked_ready : (shares : ℕ → ℕ → ℕ) (n : ℕ) (c : Running) (ids : List ℕ) → ArePicked shares n c ids → AreReady c ids
picked_ready shares n c ids (tree, is, picked) =
    let test = λ (id : ℕ). is_among (ready_numbers c.plan c.bound c.machine) id ≡ true in
    let k = n + 1 - out_count c.machine in
    subst (λ (ns : List ℕ). AreReady c ns) (sym picked.first)
    (All-take test k picked.order (All-permutation test (ready_ids c.plan c.bound c.machine) picked.order picked.permutation (rising_ready c)))

-- no id is picked twice
pub picked_apart : (shares : ℕ → ℕ → ℕ) (n : ℕ) (c : Running) (ids : List ℕ) → ArePicked shares n c ids → AreApart ids
picked_apart shares n c ids (tree, is, picked) m =
    let k = n + 1 - out_count c.machine in
    let numbers = ready_numbers c.plan c.bound c.machine in
    let once : count_by (λ i. i == m) numbers ≤ 1 =
    subst (λ (vs : List machine.Version). count_by (λ i. i == m) (passing (is_ready c.plan c.bound c.machine) vs) ≤ 1) is.versions
    (passing_once (is_ready c.plan c.bound c.machine) tree.next m tree.entries is.grown.fall) in
    let turned : count_by (λ i. i == m) (reverse numbers) ≡ count_by (λ i. i == m) numbers =
    sum_by-IsPermutation (λ i. cond (i == m) 1 0) numbers (reverse numbers) (IsPermutation-reverse numbers) in
    let ordered : count_by (λ i. i == m) picked.order ≡ count_by (λ i. i == m) (reverse numbers) =
    sum_by-IsPermutation (λ i. cond (i == m) 1 0) (ready_ids c.plan c.bound c.machine) picked.order picked.permutation in
    let parts : count_by (λ i. i == m) (take k picked.order) + count_by (λ i. i == m) (drop k picked.order) ≡ count_by (λ i. i == m) picked.order =
    sum_by-take-drop (λ i. cond (i == m) 1 0) picked.order k in
    let these : count_by (λ i. i == m) ids ≡ count_by (λ i. i == m) (take k picked.order) = ap (count_by (λ i. i == m)) picked.first in
    omega arith

-- no more are picked than there are places
pub picked_few : (shares : ℕ → ℕ → ℕ) (n : ℕ) (c : Running) (ids : List ℕ) → ArePicked shares n c ids → length ids ≤ n + 1 - out_count c.machine
picked_few shares n c ids (tree, is, picked) =
    let k = n + 1 - out_count c.machine in
    let these : length ids ≡ length (take k picked.order) = ap length picked.first in
    omega (arith, length-take k picked.order)

-- leases for which there are places went well
pub went_lends : {shy : Bool} (n batch : ℕ) (ids : List ℕ) (old new : Running) → IsSpreadOut old.plan old.bound n old.machine → length ids ≤ n + 1 - out_count old.machine
    → Lends shy batch ids old new → Went n batch old new
went_lends n batch ids old new out places lends =
    let grown : out_count new.machine ≡ out_count old.machine + length ids = lends.out in
    went_kept n batch old new lends.keeps (λ spreading. lends.spread n out spreading.spread) (λ few. omega arith)
    (record { never = λ few never. lends.never n (omega arith) never; asked = lends.asked })

none_among : (ns : List ℕ) → ((n : ℕ) → is_among ns n ≡ false) → ns ≡ []
none_among [] none = refl
none_among (n ∷ ns) none = one (n == n) (grind (arith, nat_tests)) (none n)
  where
    one : (b : Bool) → b ≡ true → (b || is_among ns n) ≡ false → n ∷ ns ≡ []
    one true is lacks = absurd (cc)
    one false is lacks = absurd (cc)

none_mapped : {A : Type 0} (f : A → ℕ) (xs : List A) → map f xs ≡ [] → xs ≡ []
none_mapped f [] none = refl
none_mapped f (x ∷ xs) none = absurd (cc)

and_not : (b : Bool) → (b && not b) ≡ false
and_not true = refl
and_not false = refl

-- once they are leased, all that can be out is out
pub lent_picked : {shy : Bool} (shares : ℕ → ℕ → ℕ) (n batch : ℕ) (ids : List ℕ) (old new : Running) → ArePicked shares n old ids → Lends shy batch ids old new
    → IsLentOut new.plan new.bound n new.machine
lent_picked shares n batch ids old new (tree, is, picked) lends = by (below_or k (length picked.order))
  where
    k : ℕ
    k = n + 1 - out_count old.machine

    all : length picked.order ≤ k → (id : ℕ) → is_among (ready_numbers new.plan new.bound new.machine) id ≡ false
    all few id =
        let numbers = ready_numbers old.plan old.bound old.machine in
        let ids_are : ids ≡ picked.order = picked.first ∙ take_all k picked.order few in
        let same : is_among ids id ≡ is_among numbers id =
        ap (λ (ns : List ℕ). is_among ns id) ids_are
        ∙ sym (list_any-IsPermutation (λ m. m == id) (ready_ids old.plan old.bound old.machine) picked.order picked.permutation)
        ∙ sym (list_any-IsPermutation (λ m. m == id) numbers (reverse numbers) (IsPermutation-reverse numbers)) in
        lends.left id ∙ ap (λ (b : Bool). is_among numbers id && not b) same ∙ and_not (is_among numbers id)

    by : (k < length picked.order) ⊎ (length picked.order ≤ k) → IsLentOut new.plan new.bound n new.machine
    by (inl more) =
        let grown : out_count new.machine ≡ out_count old.machine + length ids = lends.out in
        let these : length ids ≡ length (take k picked.order) = ap length picked.first in
        inl (omega (arith, length-take k picked.order))
    by (inr few) =
        inr (none_mapped (λ (v : machine.Version). v.id) (filter (is_ready new.plan new.bound new.machine) new.machine.versions)
        (none_among (ready_numbers new.plan new.bound new.machine) (all few)))

-- and the journal is spread
pub goes_lends : {shy : Bool} (shares : ℕ → ℕ → ℕ) (n batch : ℕ) (ids : List ℕ) (old new : Running) → IsSpreadOut old.plan old.bound n old.machine → ArePicked shares n old ids
    → Lends shy batch ids old new → Goes n old new
goes_lends shares n batch ids old new out picked lends spreading = record {
  spread = lends.spread n out spreading.spread;
  lent = λ _. lent_picked shares n batch ids old new picked lends;
}

pub leases_picked : {shy : Bool} (shares : ℕ → ℕ → ℕ) (n batch : ℕ) (ids : List ℕ) (old new : Running) → ArePicked shares n old ids → Lends shy batch ids old new
    → Leases shares n batch old new
leases_picked {shy} shares n batch ids old new picked lends = record {
  shy = shy;
  ids = ids;
  picked = picked;
  are = lends.are;
}

-- what is picked of what is ready, for the places that are left
pub picked_here : (shares : ℕ → ℕ → ℕ) (n : ℕ) (c : Running) (t : Grown Version) (ready : List ℕ) (k out : ℕ) (ids : List ℕ) → IsTreeOf c t
    → ready ≡ ready_ids c.plan c.bound c.machine → k ≡ n + 1 - out → out ≡ out_count c.machine → IsPicked shares t.entries ready k ids → ArePicked shares n c ids
picked_here shares n c t ready k out ids tree ready_is k_is out_is picked = (
  t,
  tree,
  subst (λ (z : ℕ). IsPicked shares t.entries (ready_ids c.plan c.bound c.machine) z ids) (k_is ∙ ap (λ (o : ℕ). n + 1 - o) out_is)
      (subst (λ (z : List ℕ). IsPicked shares t.entries z k ids) ready_is picked),
)

-- what is picked of a core is picked of that very core under another name
pub picked_told : (shares : ℕ → ℕ → ℕ) (n : ℕ) (told c : Running) (ids all : List ℕ) → told ≡ c → all ≡ ids → ArePicked shares n told ids → ArePicked shares n c all
picked_told shares n told c ids all same is picked = subst (λ (z : Running). ArePicked shares n z all) same (subst (ArePicked shares n told) (sym is) picked)

-- what was leased so far
abbrev LendsSoFar : Bool → ℕ → List ℕ → Running → Running → Type 0
LendsSoFar shy batch ids old new = (count : ℕ) × Lends shy batch (take count ids) old new

pub kept_part : {shy : Bool} (batch : ℕ) (ids : List ℕ) (old new : Running) → LendsSoFar shy batch ids old new → KeepsVersions old new
kept_part batch ids old new (count, lends) = lends.keeps

pub went_part : {shy : Bool} (n batch : ℕ) (ids : List ℕ) (old new : Running) → IsSpreadOut old.plan old.bound n old.machine → length ids ≤ n + 1 - out_count old.machine
    → LendsSoFar shy batch ids old new → Went n batch old new
went_part n batch ids old new out places (count, lends) =
    went_lends n batch (take count ids) old new out (omega (arith, length-take count ids)) lends

-- what follows of two things that hold where a result is no error
pub both_ok : {T E : Type 0} (r : Result T E) (P Q R : Type 0) → (P → Q → R) → OnOk r P → OnOk r Q → OnOk r R
both_ok (Ok x) P Q R f p q = f p q
both_ok (Err e) P Q R f p q = tt

-- as many jobs more are kept as tickets more are out
pub kept_lends : {shy : Bool} (batch kept now : ℕ) (ids : List ℕ) (old new : Running) → Lends shy batch ids old new → now ≡ kept + length ids
    → now + out_count old.machine ≡ kept + out_count new.machine
kept_lends batch kept now ids old new lends more =
    let grown : out_count new.machine ≡ out_count old.machine + length ids = lends.out in
    omega arith
