-- Why spawns are refused, by what a core keeps.
use Rattle.std.proofs.Common.{◌≡◌, ◌≢◌, ℕ, ◌+◌, Bool, true, false, not, List, [], ◌∷◌, map, length, Option, Some, None, refl, sym, ap, ◌∙◌, arith, find, nat_lt, nat_le}
use Rattle.std.specs.Prelude.{slice_get}
use Rattle.std.specs.Option.{option_map}
use Rattle.std.proofs.lemmas.Bool.Decides.{nat_tests}
use Rattle.std.proofs.lemmas.List.{length-map}
use Rattle.sp_base.specs.Numbers.{is_among}
use Rattle.sp_plan.specs.WindowNumbers.{count}
use Rattle.sp_version.specs.declared.version.Version.{Version}
use Rattle.sp_group.specs.declared.refusal.Refusal.{Refusal}
use Rattle.sp_group.specs.declared.refusal.Refusal.TheVariants as r
use Rattle.sp_group.specs.declared.step.Step.TheVariants as s
use Rattle.sp_group.specs.Family.{entry_at}
use Rattle.sp_group.specs.Refusing.{refuse_if, refuse_for, child_refusal, child_with, not_open}
use Rattle.sp_tree.specs.Grown.{Entry, groups_of, kin, root_in}
use Rattle.sp_core.specs.Holding.{Holding, Holds, IsCore, machine_of, running, version_of}
use Rattle.sp_core.specs.Carrying.{ticket_of}
use Rattle.sp_core.specs.Running.{refused}
use Rattle.sp_core.proofs.Entries.{Found, found_of_all, version_found, version_is}
use Rattle.sp_core.proofs.Children.{root_found}

-- why a root is refused where this is the root, if there is one
pub root_refused : (h : Holding) (label : List ℕ) (root : Option ℕ) → root_in h.tree.entries ≡ root
    → refused (running h) (s.Spawn None label)
    ≡ refuse_for root r.LabelTaken
    (refuse_if (nat_lt (count h.plan h.events) (h.finished + 1)) (r.NoWindow (h.finished + 1)) (refuse_for (find (λ _. true) label) r.NotOpen None))
root_refused h label root is =
    ap (λ (o : Option ℕ). refuse_for o r.LabelTaken
    (refuse_if (nat_lt (count h.plan h.events) (h.finished + 1)) (r.NoWindow (h.finished + 1)) (refuse_for (find (λ _. true) label) r.NotOpen None)))
    (root_found h.tree.entries ∙ is)

-- the same where there is none, and its window is there or not
pub root_passed : (h : Holding) (label : List ℕ) (none : Bool) → root_in h.tree.entries ≡ None → nat_lt (count h.plan h.events) (h.finished + 1) ≡ none
    → refused (running h) (s.Spawn None label) ≡ refuse_if none (r.NoWindow (h.finished + 1)) (refuse_for (find (λ _. true) label) r.NotOpen None)
root_passed h label none root test =
    root_refused h label None root ∙ ap (λ (b : Bool). refuse_if b (r.NoWindow (h.finished + 1)) (refuse_for (find (λ _. true) label) r.NotOpen None)) test

-- the first run of a label
pub first_run : (label : List ℕ) → find (λ _. true) label ≡ slice_get label 0
first_run [] = refl
first_run (run ∷ label) = refl

-- why a child of a live parent, of the window behind this one, is refused: where its window lacks, a group is not open, a child has the
-- label, or no more may be live
abbrev pub child_refused_by : Holding → ℕ → Bool → Option ℕ → Option ℕ → Bool → Option Refusal
child_refused_by h window lacks group child full =
    refuse_if lacks (r.NoWindow (window + 1))
    (refuse_for group r.NotOpen (refuse_for child r.LabelTaken (refuse_if full (r.Full (length h.tree.entries) h.tree.bound) None)))

pub child_refused : (h : Holding) (p : ℕ) (label : List ℕ) (e : Entry Version) → entry_at kin h.tree.entries p ≡ Some e
    → refused (running h) (s.Spawn (Some p) label)
    ≡ child_refused_by h e.value.window (nat_lt (count h.plan h.events) (e.value.window + 1)) (not_open h.plan (machine_of h) (version_of e) label)
    (child_with (map version_of h.tree.entries) p label) (nat_le h.tree.bound (length h.tree.entries))
child_refused h p label e at =
    ap (child_refusal h.plan h.tree.bound (machine_of h) p label) (version_is h.tree.entries p e at)
    ∙ ap (λ (n : ℕ). refuse_if (nat_lt (count h.plan h.events) (e.value.window + 1)) (r.NoWindow (e.value.window + 1))
    (refuse_for (not_open h.plan (machine_of h) (version_of e) label) r.NotOpen
    (refuse_for (child_with (map version_of h.tree.entries) p label) r.LabelTaken (refuse_if (nat_le h.tree.bound n) (r.Full n h.tree.bound) None))))
    (length-map h.tree.entries version_of)

-- the same by what the tests come to, where this value is found for the parent
pub child_refused_as : (h : Holding) (p : ℕ) (label : List ℕ) (v : Version) (f : Found (entry_at kin h.tree.entries p) v) (lacks : Bool) (group child : Option ℕ) (full : Bool)
    → nat_lt (count h.plan h.events) (v.window + 1) ≡ lacks → not_open h.plan (machine_of h) (version_of f.entry) label ≡ group
    → child_with (map version_of h.tree.entries) p label ≡ child → nat_le h.tree.bound (length h.tree.entries) ≡ full
    → refused (running h) (s.Spawn (Some p) label) ≡ child_refused_by h v.window lacks group child full
child_refused_as h p label v f lacks group child full a b c d =
    let same : f.entry.value.window ≡ v.window = ap (λ (w : Version). w.window) f.value in
    let test = ap (λ (w : ℕ). nat_lt (count h.plan h.events) (w + 1)) same ∙ a in
    child_refused h p label f.entry f.is ∙ (λ i. child_refused_by h (same i) (test i) (b i) (c i) (d i))

-- a parent that is not live
pub parent_gone : (h : Holding) (p : ℕ) (label : List ℕ) → entry_at kin h.tree.entries p ≡ None → refused (running h) (s.Spawn (Some p) label) ≡ Some (r.NotLive p)
parent_gone h p label none =
    ap (child_refusal h.plan h.tree.bound (machine_of h) p label) (version_found h.tree.entries p ∙ ap (option_map version_of) none)

-- the first run of a label with no open group is the one that the machine finds, by the groups that the tree has
pub group_is : (h : Holding) → IsCore h → (p : ℕ) (label : List ℕ) (e : Entry Version) → entry_at kin h.tree.entries p ≡ Some e
    → (groups runs : List ℕ) (group : Option ℕ) → groups ≡ groups_of (entry_at kin h.tree.entries p) → runs ≡ label
    → group ≡ find (λ run. not (is_among groups run)) runs → not_open h.plan (machine_of h) (version_of e) label ≡ group
group_is h core p label e at groups runs group a b c =
    let holds = found_of_all (Holds h.plan h.events (map ticket_of h.tickets)) h.tree.entries p e core.versions at in
    let own : groups ≡ e.version.groups = a ∙ ap groups_of at in
    sym (c ∙ (λ i. find (λ run. not (is_among (own i) run)) (b i)) ∙ ap (λ (test : ℕ → Bool). find (λ run. not (test run)) label) (λ i run. holds.groups run i))

-- as many are live as the bound allows
pub is_full : (h : Holding) (live bound : ℕ) → live ≡ length h.tree.entries → bound ≡ h.tree.bound → live ≡ bound → nat_le h.tree.bound (length h.tree.entries) ≡ true
is_full h live bound a b same = grind (arith, nat_tests)

-- and else fewer are
pub is_not_full : (h : Holding) → IsCore h → (live bound : ℕ) → live ≡ length h.tree.entries → bound ≡ h.tree.bound → live ≢ bound → nat_le h.tree.bound (length h.tree.entries) ≡ false
is_not_full h core live bound a b apart = let most = core.grown.most in grind (arith, nat_tests)
