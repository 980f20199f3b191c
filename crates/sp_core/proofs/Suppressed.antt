-- What is suppressed for the versions of a core, from one of them up to the root.
use Rattle.std.proofs.Common.{◌≡◌, ℕ, ◌<◌, Bool, true, false, ◌&&◌, ◌||◌, List, filter, map, Option, Some, None, is_some, refl, sym, ap, ◌∙◌}
use Rattle.std.specs.Prelude.{IsSome}
use Rattle.std.specs.Option.{option_map}
use Rattle.std.proofs.lemmas.Option.{same_Some}
use Rattle.sp_base.specs.Numbers.{is_within, is_among}
use Rattle.sp_group.specs.Family.{entry_at}
use Rattle.sp_group.specs.Machine.{inner, is_suppressed, version_at}
use Rattle.sp_version.specs.declared.version.Version.{Version}
use Rattle.sp_tree.specs.Grown.{Entry, kin, label_of, parent_of, value_of}
use Rattle.sp_core.specs.Carrying.{ticket_of}
use Rattle.sp_core.specs.Holding.{Holding, Holds, IsCore, machine_of, running, version_of}
use Rattle.sp_core.specs.Running.{Running}
use Rattle.sp_core.specs.Suppressing.{least_suppressed}
use Rattle.sp_core.specs.Withheld.{is_kept_back, is_kept_within, least_kept_back, lesser}
use Rattle.sp_core.proofs.Ancestors as up
use Rattle.sp_core.proofs.Entries.{found_of_all, version_found}
use Rattle.sp_core.proofs.KeptBack.{has_filtered}
use Rattle.sp_core.proofs.Least.{lesser_joins, lesser_swaps, least_unskipped, unskipped_alike, unskipped_either}
use Rattle.sp_core.proofs.Withholding.{kept_back_alike}

-- whether an event is suppressed for a version of a core
abbrev pub suppressed : Holding → ℕ → ℕ → Bool
suppressed h id i = is_suppressed h.plan (machine_of h) id i

-- the parent of a version, as a core holds both, and what it makes of what is suppressed
pub record Below (h : Holding) (id p : ℕ) : Type 0 where
  pub label : List ℕ
  pub labelled : label_of (entry_at kin h.tree.entries id) ≡ Some label
  pub held : Version
  pub holds : value_of (entry_at kin h.tree.entries p) ≡ Some held
  pub live : is_some (entry_at kin h.tree.entries p) ≡ true
  pub less : p < id
  pub more : (i : ℕ) → suppressed h id i ≡ (suppressed h p i || is_kept_back held label i)

-- an entry with a parent
with_parent : (o : Option (Entry Version)) (p : ℕ) → parent_of o ≡ Some p → (e : Entry Version) × (o ≡ Some e) × (e.version.parent ≡ Some p)
with_parent None p is = absurd (cc is)
with_parent (Some e) p is = (e, refl, is)

without_parent : (o : Option (Entry Version)) → is_some o ≡ true → parent_of o ≡ None → (e : Entry Version) × (o ≡ Some e) × (e.version.parent ≡ None)
without_parent None is none = absurd (cc is)
without_parent (Some e) is none = (e, refl, none)

pub below_parent : (h : Holding) → IsCore h → (id p : ℕ) → parent_of (entry_at kin h.tree.entries id) ≡ Some p → Below h id p
below_parent h core id p is =
    let es = h.tree.entries in
    let found = with_parent (entry_at kin es id) p is in
    let e : Entry Version = found.0 in
    let up = up.suppressed_child h.plan (inner h.plan h.events) h.consumed.list h.tree.next es id p e core.grown.fall core.grown.rooted found.1 found.2 in
    let u : Entry Version = up.entry in
    let holds : Holds h.plan h.events (map ticket_of h.tickets) u = found_of_all (Holds h.plan h.events (map ticket_of h.tickets)) es p u core.versions up.is in
    record {
      label = e.version.label;
      labelled = ap label_of found.1;
      held = u.value;
      holds = ap value_of up.is;
      live = ap is_some up.is;
      less = up.less;
      more = λ i. up.suppressed i
          ∙ ap (λ (b : Bool). suppressed h p i || b) (sym (kept_back_alike h.plan h.events (map ticket_of h.tickets) u e.version.label i holds));
    }

-- the same, of the label and the value that are found
pub below_more : (h : Holding) (id p : ℕ) (label : List ℕ) (held : Version) → Below h id p → label_of (entry_at kin h.tree.entries id) ≡ Some label
    → value_of (entry_at kin h.tree.entries p) ≡ Some held → (i : ℕ) → suppressed h id i ≡ (suppressed h p i || is_kept_back held label i)
below_more h id p label held b labelled holds i =
    let one : b.label ≡ label = same_Some b.label label (sym b.labelled ∙ labelled) in
    let two : b.held ≡ held = same_Some b.held held (sym b.holds ∙ holds) in
    b.more i ∙ ap (λ (ns : List ℕ). suppressed h p i || is_kept_back b.held ns i) one ∙ ap (λ (v : Version). suppressed h p i || is_kept_back v label i) two

-- for the root it is what is consumed
pub below_none : (h : Holding) (id : ℕ) → is_some (entry_at kin h.tree.entries id) ≡ true → parent_of (entry_at kin h.tree.entries id) ≡ None
    → (i : ℕ) → suppressed h id i ≡ is_among h.consumed.list i
below_none h id live none i =
    let found = without_parent (entry_at kin h.tree.entries id) live none in
    up.suppressed_root h.plan (inner h.plan h.events) h.consumed.list h.tree.entries id found.0 found.1 found.2 i

-- the least number of a range that is suppressed, and not skipped
abbrev pub least_of : Holding → ℕ → ℕ → ℕ → List ℕ → Option ℕ
least_of h id first count skipped = least_suppressed h.plan (machine_of h) id first count skipped

-- what is found so far, and what the versions above say, come to what the parent keeps too, and what those above it say
pub found_more : (h : Holding) (id p first count : ℕ) (skipped label : List ℕ) (held : Version) (found : Option ℕ) → Below h id p
    → label_of (entry_at kin h.tree.entries id) ≡ Some label → value_of (entry_at kin h.tree.entries p) ≡ Some held
    → lesser (lesser found (least_kept_back held label first count skipped)) (least_of h p first count skipped) ≡ lesser found (least_of h id first count skipped)
found_more h id p first count skipped label held found b labelled holds =
    let kept = least_kept_back held label first count skipped in
    let rest = least_of h p first count skipped in
    lesser_joins found kept rest
    ∙ ap (lesser found) (lesser_swaps kept rest ∙ unskipped_either (suppressed h p) (is_kept_back held label) first count skipped
    ∙ sym (unskipped_alike (suppressed h id) (λ i. suppressed h p i || is_kept_back held label i) first count skipped (below_more h id p label held b labelled holds)))

pub found_all : (h : Holding) (id first count : ℕ) (skipped : List ℕ) → is_some (entry_at kin h.tree.entries id) ≡ true
    → parent_of (entry_at kin h.tree.entries id) ≡ None → least_unskipped (is_among h.consumed.list) first count skipped ≡ least_of h id first count skipped
found_all h id first count skipped live none =
    sym (unskipped_alike (suppressed h id) (is_among h.consumed.list) first count skipped (below_none h id live none))

-- a version of the machine is an entry of the tree
pub live_entry : (h : Holding) (id : ℕ) → IsSome (version_at (machine_of h).versions id) → is_some (entry_at kin h.tree.entries id) ≡ true
live_entry h id live = one (entry_at kin h.tree.entries id) (ap is_some (sym (version_found h.tree.entries id)) ∙ live)
  where
    one : (o : Option (Entry Version)) → is_some (option_map version_of o) ≡ true → is_some o ≡ true
    one None is = is
    one (Some e) is = refl

or_same : (b : Bool) → (b || b) ≡ b
or_same true = refl
or_same false = refl

or_false : (b : Bool) → (b || false) ≡ b
or_false true = refl
or_false false = refl

spent_more : (a k s : Bool) → (a || s) ≡ a → ((a || k) || s) ≡ (a || k)
spent_more true k s is = refl
spent_more false k s is = ap (λ (b : Bool). k || b) is ∙ or_false k

less_more : (v p k : Bool) → (v || (p || k)) ≡ v → (v || p) ≡ v
less_more true p k is = refl
less_more false true k is = absurd (cc is)
less_more false false k is = refl

spent_all : (w c v : Bool) → (v || c) ≡ v → ((w && c) || (w && v)) ≡ (w && v)
spent_all false c v is = refl
spent_all true true true is = refl
spent_all true true false is = absurd (cc is)
spent_all true false v is = refl

-- Numbers within a range that were taken in, those that are consumed first, on the way from a version up to another, which is
-- live: with what is suppressed for that one they are what is suppressed for the version.
pub record Taken (r : Running) (version below first count : ℕ) (numbers : List ℕ) : Type 0 where
  pub live : IsSome (version_at r.machine.versions below)
  pub spent : (i : ℕ) → (is_among numbers i || (is_within first count i && is_among r.machine.consumed i)) ≡ is_among numbers i
  pub less : (i : ℕ) → (is_suppressed r.plan r.machine version i || is_suppressed r.plan r.machine below i) ≡ is_suppressed r.plan r.machine version i
  pub members : (i : ℕ) → (is_among numbers i || (is_within first count i && is_suppressed r.plan r.machine below i)) ≡ ((is_within first count i && is_among r.machine.consumed i) || (is_within first count i && is_suppressed r.plan r.machine version i))

-- an entry of the tree is a version of the machine
pub entry_live : (h : Holding) (id : ℕ) → is_some (entry_at kin h.tree.entries id) ≡ true → IsSome (version_at (machine_of h).versions id)
entry_live h id live = ap is_some (version_found h.tree.entries id) ∙ one (entry_at kin h.tree.entries id) live
  where
    one : (o : Option (Entry Version)) → is_some o ≡ true → is_some (option_map version_of o) ≡ true
    one None is = is
    one (Some e) is = refl

-- what is consumed
pub taken_first : (r : Running) (version first count : ℕ) (numbers : List ℕ) → numbers ≡ filter (is_within first count) r.machine.consumed
    → IsSome (version_at r.machine.versions version) → Taken r version version first count numbers
taken_first r version first count numbers is live = record {
  live = live;
  spent = λ i. ap (λ (b : Bool). b || (is_within first count i && is_among r.machine.consumed i)) (has i)
      ∙ or_same (is_within first count i && is_among r.machine.consumed i) ∙ sym (has i);
  less = λ i. or_same (is_suppressed r.plan r.machine version i);
  members = λ i. ap (λ (b : Bool). b || (is_within first count i && is_suppressed r.plan r.machine version i)) (has i);
}
  where
    has : (i : ℕ) → is_among numbers i ≡ (is_within first count i && is_among r.machine.consumed i)
    has i = ap (λ (ns : List ℕ). is_among ns i) is ∙ has_filtered (is_within first count) r.machine.consumed i

-- what a parent keeps is taken in
pub taken_more : (h : Holding) (version id p first count : ℕ) (label old new : List ℕ) (held : Version) → Below h id p
    → label_of (entry_at kin h.tree.entries id) ≡ Some label → value_of (entry_at kin h.tree.entries p) ≡ Some held
    → ((i : ℕ) → is_among new i ≡ (is_among old i || is_kept_within held label first count i)) → Taken (running h) version id first count old
    → Taken (running h) version p first count new
taken_more h version id p first count label old new held b labelled holds takes before = record {
  live = entry_live h p b.live;
  spent = λ i.
      let k = is_kept_within held label first count i in
      let s = is_within first count i && is_among h.consumed.list i in
      ap (λ (c : Bool). c || s) (takes i) ∙ spent_more (is_among old i) k s (before.spent i) ∙ sym (takes i);
  less = λ i.
      less_more (suppressed h version i) (suppressed h p i) (is_kept_back held label i)
      (ap (λ (c : Bool). suppressed h version i || c) (sym (below_more h id p label held b labelled holds i)) ∙ before.less i);
  members = λ i.
      let w = is_within first count i in
      ap (λ (c : Bool). c || (w && suppressed h p i)) (takes i) ∙ one (is_among old i) w (is_kept_back held label i) (suppressed h p i)
      ∙ ap (λ (c : Bool). is_among old i || (w && c)) (sym (below_more h id p label held b labelled holds i)) ∙ before.members i;
}
  where
    one : (a w k s : Bool) → ((a || (w && k)) || (w && s)) ≡ (a || (w && (s || k)))
    one true w k s = refl
    one false true true true = refl
    one false true true false = refl
    one false true false true = refl
    one false true false false = refl
    one false false k s = refl

-- and at last what is consumed
pub taken_all : (h : Holding) (version id first count : ℕ) (numbers : List ℕ) → parent_of (entry_at kin h.tree.entries id) ≡ None
    → Taken (running h) version id first count numbers → (i : ℕ) → is_among numbers i ≡ (is_within first count i && suppressed h version i)
taken_all h version id first count numbers none before i =
    let w = is_within first count i in
    sym (before.spent i) ∙ ap (λ (b : Bool). is_among numbers i || (w && b)) (sym (root i)) ∙ before.members i
    ∙ spent_all w (is_among h.consumed.list i) (suppressed h version i) (ap (λ (b : Bool). suppressed h version i || b) (sym (root i)) ∙ before.less i)
  where
    root : (j : ℕ) → suppressed h id j ≡ is_among h.consumed.list j
    root j = below_none h id (live_entry h id before.live) none j
