-- The shares of the groups of one version after another, as they are meant.
use Rattle.std.proofs.Common.{◌≡◌, ◌≢◌, ℕ, ◌+◌, ◌<◌, true, List, Some, None, sym, ap, subst, ◌∙◌, ⊎_elim, arith}
use Rattle.std.specs.Prelude.{min}
use Rattle.std.proofs.lemmas.Bool.{cases_eq}
use Rattle.sp_base.specs.Limits.{whole_share}
use Rattle.sp_plan.specs.declared.plan.Plan.{Plan}
use Rattle.sp_plan.specs.Compiled.{IsCompiled}
use Rattle.sp_plan.specs.WindowNumbers.{size}
use Rattle.sp_group.specs.Family.{entry_at}
use Rattle.sp_group.specs.Machine as machine
use Rattle.sp_group.specs.Machine.{Machine, version_at, inner, is_group}
use Rattle.sp_version.specs.declared.version.Version.{Version}
use Rattle.sp_tree.specs.Grown.{Entry, Grown, kin, value_of}
use Rattle.sp_rules.specs.ByGroups.{VersionsHaveGroups}
use Rattle.sp_rules.specs.Schedules.{Reached}
use Rattle.sp_core.specs.Holding.{Holds, version_of}
use Rattle.sp_core.specs.Leasing.{HasBegun}
use Rattle.sp_core.specs.Running.{Running}
use Rattle.sp_core.specs.Showing.{IsTreeOf}
use Rattle.sp_core.proofs.Entries.{Found, found, found_of_all, not_found, version_is}
use Rattle.sp_spread.specs.Guessing.{coming, coming_in, left_of}
use Rattle.sp_splitter.specs.Asking.{AreAsked, AreNumbered, IsGuessed}
use Rattle.sp_splitter.proofs.Asked.{group_asked, numbered_of}
use Rattle.sp_splitter.proofs.Listed.{Shows, shows}

-- one version more, and what is set for others is as before
pub guessed_more : (q : Plan) (m : Machine) (means old new : ℕ → ℕ → ℕ) (id : ℕ → ℕ) (n : ℕ) → ((k : ℕ) → k < n → IsGuessed q m means old (id k))
    → IsGuessed q m means new (id n) → ((other r : ℕ) → other ≢ id n → new other r ≡ old other r) → (k : ℕ) → k < n + 1 → IsGuessed q m means new (id k)
guessed_more q m means old new id n before here others k low = ⊎_elim same apart (cases_eq (id k) (id n))
  where
    same : id k ≡ id n → IsGuessed q m means new (id k)
    same is = subst (IsGuessed q m means new) (sym is) here

    at_n : k ≡ n → id k ≡ id n
    at_n is = ap id is

    apart : (id k ≡ id n → ⊥) → IsGuessed q m means new (id k)
    apart other v r at group = ⊎_elim
        (λ (is : k ≡ n). absurd (other (at_n is)))
        (λ (ne : k ≡ n → ⊥). others (id k) r other ∙ before k (omega arith) v r at group) (cases_eq k n)

-- what a tree holds under an id
pub record HeldAt (c : Running) (t : Grown Version) (id : ℕ) (held : Version) : Type 0 where
  pub entry : Entry Version
  pub value : entry.value ≡ held
  pub at : version_at c.machine.versions id ≡ Some (version_of entry)
  pub holds : Holds c.plan c.machine.events c.machine.tickets entry

pub held_at : (c : Running) (t : Grown Version) → IsTreeOf c t → (id : ℕ) (held : Version) → Some held ≡ value_of (entry_at kin t.entries id) → HeldAt c t id held
held_at c t tree id held is =
    let f : Found (entry_at kin t.entries id) held = found (entry_at kin t.entries id) held is in
    record {
      entry = f.entry;
      value = f.value;
      at = ap (λ (vs : List machine.Version). version_at vs id) (sym tree.versions) ∙ version_is t.entries id f.entry f.is;
      holds = found_of_all (Holds c.plan c.machine.events c.machine.tickets) t.entries id f.entry tree.holds f.is;
    }

-- a version that the tree does not hold is not live
pub gone_guessed : (c : Running) (t : Grown Version) → IsTreeOf c t → (id : ℕ) → None ≡ value_of (entry_at kin t.entries id) → (v : machine.Version)
    → version_at c.machine.versions id ≡ Some v → ⊥
gone_guessed c t tree id none v at =
    let s : Shows c t id v = shows c t tree id v at in
    let gone = not_found (entry_at kin t.entries id) none in
    let is = s.is in
    cc

pub held_begun : (c : Running) → Reached c.plan c.bound c.machine → (t : Grown Version) → IsTreeOf c t → (id : ℕ) (held : Version)
    → Some held ≡ value_of (entry_at kin t.entries id) → HasBegun c held.window
held_begun c reached t tree id held is =
    let h : HeldAt c t id held = held_at c t tree id held is in
    subst (λ (v : Version). HasBegun c v.window) h.value (reached.kept.sane.each id (version_of h.entry) h.at).there

pub held_numbered : (c : Running) → IsCompiled c.plan → VersionsHaveGroups → (t : Grown Version) → IsTreeOf c t → (id : ℕ) (held : Version)
    → Some held ≡ value_of (entry_at kin t.entries id) → AreNumbered held.matcher.open_runs
held_numbered c compiled groups t tree id held is =
    let h : HeldAt c t id held = held_at c t tree id held is in
    subst (λ (v : Version). AreNumbered v.matcher.open_runs) h.value
    (numbered_of h.entry.value.matcher (inner c.plan c.machine.events (version_of h.entry)) h.holds.stands (groups c.plan c.machine.events (version_of h.entry) compiled).sound)

-- What is asked of the runs of a version is what is meant for its groups.
pub held_guessed : (c : Running) → IsCompiled c.plan → VersionsHaveGroups → (t : Grown Version) → IsTreeOf c t → (id : ℕ) (held : Version)
    → Some held ≡ value_of (entry_at kin t.entries id) → (means : ℕ → ℕ → ℕ) (events : ℕ) (shares : ℕ → ℕ → ℕ)
    → events ≡ coming_in c.plan.length (size c.plan c.machine.events held.window) held.position
    → AreAsked held.matcher means events (shares id) → IsGuessed c.plan c.machine means shares id
held_guessed c compiled groups t tree id held is means events shares events_are asked v r at group =
    let h : HeldAt c t id held = held_at c t tree id held is in
    let e : Entry Version = h.entry in
    let own : Some (version_of e) ≡ Some v = sym h.at ∙ at in
    let same : version_of e ≡ v = cc in
    let w : machine.Version = version_of e in
    let has = groups c.plan c.machine.events w compiled in
    let count : events ≡ coming c.plan c.machine w = events_are ∙ ap (λ (u : Version). coming_in c.plan.length (size c.plan c.machine.events u.window) u.position) (sym h.value) in
    let asked_here : AreAsked e.value.matcher means events (shares id) = subst (λ (u : Version). AreAsked u.matcher means events (shares id)) (sym h.value) asked in
    let back : is_group c.plan (inner c.plan c.machine.events w) r ≡ true = subst (λ (u : machine.Version). is_group c.plan (inner c.plan c.machine.events u) r ≡ true) (sym same) group in
    let here : shares id r ≡ min whole_share (means (left_of c.plan (inner c.plan c.machine.events w) r) events) =
    group_asked c.plan (inner c.plan c.machine.events w) e.value.matcher h.holds.plan h.holds.stands has.sound has.groups means events (shares id) asked_here r back in
    subst (λ (u : machine.Version). shares id r ≡ min whole_share (means (left_of c.plan (inner c.plan c.machine.events u) r) (coming c.plan c.machine u))) same
    (here ∙ ap (λ (n : ℕ). min whole_share (means (left_of c.plan (inner c.plan c.machine.events w) r) n)) count)
