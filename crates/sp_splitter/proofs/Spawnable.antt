-- A child that could be made is not refused.
use Rattle.std.proofs.Common.{◌≡◌, ◌≢◌, ℕ, ◌+◌, ◌<◌, ◌≤◌, Bool, true, false, not, cond, List, [], ◌∷◌, length, find, nat_lt, nat_le, Option, Some, None, refl, sym, ap, ◌∙◌, arith}
use Rattle.std.specs.List.{All}
use Rattle.std.proofs.lemmas.Bool.Decides.{nat_tests}
use Rattle.std.proofs.lemmas.List.{length-map}
use Rattle.std.proofs.lemmas.List.Elements.{All-head, All-tail}
use Rattle.sp_base.specs.Numbers.{is_among}
use Rattle.sp_plan.specs.WindowNumbers.{count}
use Rattle.sp_group.specs.declared.refusal.Refusal.TheVariants as r
use Rattle.sp_group.specs.declared.step.Step.TheVariants as s
use Rattle.sp_group.specs.Machine as machine
use Rattle.sp_group.specs.Machine.{inner, is_group}
use Rattle.sp_group.specs.Refusing.{child_refusal, child_with, not_open, refuse_for, refuse_if}
use Rattle.sp_version.specs.declared.version.Version.{Version}
use Rattle.sp_tree.specs.Grown.{Entry, Grown, groups_of, is_open}
use Rattle.sp_core.specs.Holding.{Holds, version_of}
use Rattle.sp_core.specs.Running.{Running, refused}
use Rattle.sp_core.specs.Showing.{IsTreeOf}
use Rattle.sp_core.proofs.Children.{no_child}
use Rattle.sp_core.proofs.Entries.{found_of_all}
use Rattle.sp_splitter.specs.Breeding.{CanBear}
use Rattle.sp_splitter.proofs.Listed.{Shows, shows}

none_fails : (f g : ℕ → Bool) → ((n : ℕ) → f n ≡ g n) → (ns : List ℕ) → All (λ n. f n ≡ true) ns → find (λ n. not (g n)) ns ≡ None
none_fails f g alike [] all = refl
none_fails f g alike (n ∷ ns) all = one (g n) (sym (alike n) ∙ All-head (λ n. f n ≡ true) n ns all) (none_fails f g alike ns (All-tail (λ n. f n ≡ true) n ns all))
  where
    one : (b : Bool) → b ≡ true → find (λ n. not (g n)) ns ≡ None → cond (not b) (Some n) (find (λ n. not (g n)) ns) ≡ None
    one true is rest = rest
    one false is rest = absurd (cc)

-- fewer are live than may be
pub has_room : (c : Running) (t : Grown Version) → IsTreeOf c t → (live bound : ℕ) → live ≡ length t.entries → bound ≡ t.bound → live ≢ bound → length t.entries ≤ t.bound
    → length c.machine.versions < c.bound
has_room c t tree live bound a b apart most =
    let all : length c.machine.versions ≡ length t.entries = ap length (sym tree.versions) ∙ length-map t.entries version_of in
    let same = tree.bound in
    omega arith

pub is_full : (c : Running) (t : Grown Version) → IsTreeOf c t → (live bound : ℕ) → live ≡ length t.entries → bound ≡ t.bound → live ≡ bound → length c.machine.versions ≡ c.bound
is_full c t tree live bound a b same =
    let all : length c.machine.versions ≡ length t.entries = ap length (sym tree.versions) ∙ length-map t.entries version_of in
    all ∙ sym a ∙ same ∙ b ∙ tree.bound

pub child_passes : (c : Running) (t : Grown Version) → IsTreeOf c t → (shares : ℕ → ℕ → ℕ) (p : ℕ) (label : List ℕ) → CanBear c t shares p label
    → All (λ run. is_open t p run ≡ true) label → length c.machine.versions < c.bound → refused c (s.Spawn (Some p) label) ≡ None
child_passes c t tree shares p label can open_runs room =
    let q = c.plan in
    let m = c.machine in
    let u : machine.Version = can.parent in
    let h : Shows c t p u = shows c t tree p u can.live in
    let e : Entry Version = h.entry in
    let holds : Holds q m.events m.tickets e = found_of_all (Holds q m.events m.tickets) t.entries p e tree.holds h.is in
    let begun = can.begun in
    let lacks : nat_lt (count q m.events) (u.window + 1) ≡ false = grind (arith, nat_tests) in
    let groups : (run : ℕ) → is_open t p run ≡ is_group q (inner q m.events u) run =
    λ run. ap (λ (o : Option (Entry Version)). is_among (groups_of o) run) h.is ∙ holds.groups run ∙ ap (λ (v : machine.Version). is_group q (inner q m.events v) run) h.version in
    let none_open : not_open q m u label ≡ None = none_fails (is_open t p) (is_group q (inner q m.events u)) groups label open_runs in
    let child : child_with m.versions p label ≡ None = ap (λ (vs : List machine.Version). child_with vs p label) (sym tree.versions) ∙ no_child t.entries p label can.next.free in
    let full : nat_le c.bound (length m.versions) ≡ false = grind (arith, nat_tests) in
    ap (child_refusal q c.bound m p label) can.live
    ∙ (λ i. refuse_if (lacks i) (r.NoWindow (u.window + 1))
    (refuse_for (none_open i) r.NotOpen (refuse_for (child i) r.LabelTaken (refuse_if (full i) (r.Full (length m.versions) c.bound) None))))
