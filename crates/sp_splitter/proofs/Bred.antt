-- Children that are made, one after another: what stands while they are, and what they come to.
use Rattle.std.proofs.Common.{◌≡◌, ℕ, ◌+◌, ◌<◌, ◌≤◌, Bool, true, false, ◌||◌, ◌==◌, cond, List, [], ◌∷◌, length, map, Option, Some, None, refl, sym, ap, subst, ◌∙◌, inl, inr, arith}
use Rattle.std.specs.List.{All, list_any}
use Rattle.std.proofs.lemmas.Bool.Decides.{nat_tests}
use Rattle.std.proofs.lemmas.List.{length-map}
use Rattle.std.proofs.lemmas.List.Elements.{All-head, All-map}
use Rattle.sp_plan.specs.declared.plan.Plan.{Plan}
use Rattle.sp_plan.specs.WindowNumbers.{count}
use Rattle.sp_group.specs.declared.step.Step.TheVariants as s
use Rattle.sp_group.specs.Family.{entry_at, is_parent}
use Rattle.sp_group.specs.Machine as machine
use Rattle.sp_group.specs.Machine.{Machine, root_in, version_at}
use Rattle.sp_group.specs.Effects.{child_spawned, effect}
use Rattle.sp_group.specs.Steps.{IsSpreadOut, has_child}
use Rattle.sp_version.specs.declared.version.Version.{Version}
use Rattle.sp_tree.specs.Grown.{Entry, Grown, kin}
use Rattle.sp_pick.specs.Picking.{IsTaken, best, turned}
use Rattle.sp_tree.specs.Grown.{groups_of}
use Rattle.sp_core.specs.Holding.{version_of}
use Rattle.sp_core.specs.Running.{IsDone, Running}
use Rattle.sp_core.specs.Showing.{IsTreeOf}
use Rattle.sp_core.proofs.Entries.{all_found, version_is}
use Rattle.sp_core.proofs.Renewing.{at_entry}
use Rattle.sp_spread.specs.Calm.{IsRooted, Settled}
use Rattle.sp_spread.specs.Counting.{busy_count, out_versions, ready_versions}
use Rattle.sp_spread.specs.Guessing.{AreGuessed}
use Rattle.sp_splitter.specs.Bearing.{HasBorn, IsBarren}
use Rattle.sp_splitter.specs.Breeding.{Breeds, IsWide, NoneToBear, bred, enough}
use Rattle.sp_splitter.specs.Knowing.{Known}
use Rattle.sp_splitter.specs.Stages.{Goes, NoneEmitted, NoneRead, Went}
use Rattle.sp_splitter.proofs.Stepping.{goes_none, goes_spawn, goes_then, none_emitted_spawn, none_read_spawn, went_none, went_spawn, went_then}

-- ---- one child more

root_stays : (m : Machine) (p : ℕ) (label : List ℕ) (o : Option machine.Version) → root_in (child_spawned m p label o).versions ≡ root_in m.versions
root_stays m p label None = refl
root_stays m p label (Some u) = refl

same_rest : (m : Machine) (p : ℕ) (label : List ℕ) (o : Option machine.Version) → ((child_spawned m p label o).events ≡ m.events) × ((child_spawned m p label o).finished ≡ m.finished)
same_rest m p label None = (refl, refl)
same_rest m p label (Some u) = (refl, refl)

rooted_still : (q : Plan) (m n : Machine) → root_in n.versions ≡ root_in m.versions → n.events ≡ m.events → n.finished ≡ m.finished → IsRooted q m → IsRooted q n
rooted_still q m n root events finished (inl there) = inl (there.0, root ∙ there.1)
rooted_still q m n root events finished (inr behind) =
    inr (subst (λ (k : ℕ). count q n.events < k + 1) (sym finished) (subst (λ es. count q es < m.finished + 1) (sym events) behind))

settled_still : (c d : Running) (p : ℕ) (label : List ℕ) → Known c → IsDone (s.Spawn (Some p) label) c d → Settled c.plan c.machine → Settled d.plan d.machine
settled_still c d p label known done settled =
    let m = c.machine in
    let parent = version_at m.versions p in
    let rest = same_rest m p label parent in
    let root = root_stays m p label parent in
    subst (λ (z : Running). Settled z.plan z.machine) (sym done.1) (record {
      calm = known.lawful.calm.by_spawn (Some p) label done.0 settled.calm;
      undone = λ v is. settled.undone v (sym root ∙ is);
      rooted = rooted_still c.plan m (child_spawned m p label parent) root rest.0 rest.1 settled.rooted;
    })

-- one more is busy
busy_more : (c d : Running) (p : ℕ) (label : List ℕ) → Known c → Known d → IsDone (s.Spawn (Some p) label) c d
    → busy_count d.plan d.bound d.machine ≡ busy_count c.plan c.bound c.machine + 1
busy_more c d p label known then done =
    let q = c.plan in
    let x = s.Spawn (Some p) label in
    let parts = subst (λ (z : Running). busy_count z.plan z.bound z.machine ≡ length (out_versions z.machine) + length (ready_versions z.plan z.bound z.machine)) done.1 then.lawful.busy.parts in
    let before = known.lawful.busy.parts in
    let by = known.lawful.busy.by_spawn (Some p) label done.0 in
    let ids_then = length-map (ready_versions q c.bound (effect q c.machine x)) (λ (v : machine.Version). v.id) in
    let ids_now = length-map (ready_versions q c.bound c.machine) (λ (v : machine.Version). v.id) in
    let ids = ap length by.0 in
    let ready : length (ready_versions q c.bound (effect q c.machine x)) ≡ length (ready_versions q c.bound c.machine) + 1 = omega (arith, ids_then, ids_now, ids) in
    let out = by.1 in
    let now : busy_count d.plan d.bound d.machine ≡ busy_count q c.bound (effect q c.machine x) = ap (λ (z : Running). busy_count z.plan z.bound z.machine) done.1 in
    omega (arith, parts, before, ready, out, now)

-- ---- while children are made

pub record Bred (shares : ℕ → ℕ → ℕ) (instances : ℕ) (first here : Running) (busy : ℕ) : Type 0 where
  pub known : Known here
  pub went : (n batch : ℕ) → Went n batch first here
  pub goes : (n : ℕ) → Goes n first here
  pub emitted : NoneEmitted first here
  pub read : NoneRead first here
  pub settled : Settled here.plan here.machine
  pub guessed : (m : ℕ → ℕ → ℕ) → AreGuessed first.plan first.machine m shares → AreGuessed here.plan here.machine m shares
  pub breeds : (d : Running) → Breeds shares instances here d → Breeds shares instances first d
  pub busy_is : busy ≡ busy_count here.plan here.bound here.machine

pub bred_first : (shares : ℕ → ℕ → ℕ) (instances : ℕ) (c : Running) (busy : ℕ) → Known c → Settled c.plan c.machine → busy ≡ busy_count c.plan c.bound c.machine
    → Bred shares instances c c busy
bred_first shares instances c busy known settled is = record {
  known = known;
  went = λ n batch. went_none n batch c c refl;
  goes = λ n. goes_none n c c refl;
  emitted = refl;
  read = refl;
  settled = settled;
  guessed = λ m guessed. guessed;
  breeds = λ d breeds. breeds;
  busy_is = is;
}

pub bred_more : (shares : ℕ → ℕ → ℕ) (instances : ℕ) (a c d : Running) (busy : ℕ) → Bred shares instances a c busy → Known d → busy ≤ instances → HasBorn shares c d
    → Bred shares instances a d (busy + 1)
bred_more shares instances a c d busy here known low born =
    let p = born.parent in
    let label = born.label in
    let done = born.done in
    let few : busy_count c.plan c.bound c.machine < instances + 1 = let is = here.busy_is in omega arith in
    record {
      known = known;
      went = λ n batch. went_then n batch a c d (here.goes n) (here.went n batch) (went_spawn n batch (Some p) label c d here.known born.labelled done);
      goes = λ n. goes_then n a c d (here.goes n) (goes_spawn n (Some p) label c d here.known done);
      emitted = none_emitted_spawn (Some p) label c d done ∙ here.emitted;
      read = none_read_spawn (Some p) label c d done ∙ here.read;
      settled = settled_still c d p label here.known done here.settled;
      guessed = λ m guessed.
          subst (λ (z : Running). AreGuessed z.plan z.machine m shares) (sym done.1) (here.known.lawful.guesses.by_spawn (Some p) label m shares done.0 (here.guessed m guessed));
      breeds = λ z breeds. here.breeds z (bred c z born.tree p label born.is_tree few born.room born.best (subst (λ (y : Running). Breeds shares instances y z) done.1 breeds));
      busy_is = ap (λ (k : ℕ). k + 1) here.busy_is ∙ sym (busy_more c d p label here.known known done);
    }

-- ---- at the end

-- where a parent's labels are all its children's it has a child
child_there : (es : List (Entry Version)) (id p : ℕ) (e : Entry Version) → entry_at kin es id ≡ Some e → e.version.parent ≡ Some p
    → list_any (λ (w : machine.Version). is_parent p w.parent) (map version_of es) ≡ true
child_there [] id p e at parent = absurd (cc at)
child_there (x ∷ es) id p e at parent = one (child_there es id p e) (x.version.id == id) at
  where
    own : (p == p) ≡ true
    own = grind (arith, nat_tests)

    skip : (b : Bool) → list_any (λ (w : machine.Version). is_parent p w.parent) (map version_of es) ≡ true → (b || list_any (λ (w : machine.Version). is_parent p w.parent) (map version_of es)) ≡ true
    skip true rest = refl
    skip false rest = rest

    one : (entry_at kin es id ≡ Some e → e.version.parent ≡ Some p → list_any (λ (w : machine.Version). is_parent p w.parent) (map version_of es) ≡ true) → (b : Bool)
        → cond b (Some x) (entry_at kin es id) ≡ Some e → (is_parent p x.version.parent || list_any (λ (w : machine.Version). is_parent p w.parent) (map version_of es)) ≡ true
    one rest true at =
        let same : x ≡ e = cc at in
        let mine : x.version.parent ≡ Some p = ap (λ (y : Entry Version). y.version.parent) same ∙ parent in
        ap (λ (o : Option ℕ). is_parent p o || list_any (λ (w : machine.Version). is_parent p w.parent) (map version_of es)) mine
        ∙ ap (λ (b : Bool). b || list_any (λ (w : machine.Version). is_parent p w.parent) (map version_of es)) own
    one rest false at = skip (is_parent p x.version.parent) (rest at parent)

all_have_children : (shares : ℕ → ℕ → ℕ) (c : Running) (t : Grown Version) → IsTreeOf c t → NoneToBear c t shares
    → All (λ (v : machine.Version). v.window + 1 ≤ count c.plan c.machine.events → has_child c.machine.versions v ≡ true) c.machine.versions
all_have_children shares c t tree none =
    subst (λ (vs : List machine.Version). All (λ (v : machine.Version). v.window + 1 ≤ count c.plan c.machine.events → has_child vs v ≡ true) vs) tree.versions
    (All-map (λ (v : machine.Version). v.window + 1 ≤ count c.plan c.machine.events → has_child (map version_of t.entries) v ≡ true) version_of t.entries
    (all_found (λ (e : Entry Version). e.value.window + 1 ≤ count c.plan c.machine.events → has_child (map version_of t.entries) (version_of e) ≡ true) t.next t.entries tree.grown.fall each))
  where
    each : (id : ℕ) (e : Entry Version) → entry_at kin t.entries id ≡ Some e → e.value.window + 1 ≤ count c.plan c.machine.events → has_child (map version_of t.entries) (version_of e) ≡ true
    each id e at begun =
        let live : version_at c.machine.versions id ≡ Some (version_of e) = ap (λ (vs : List machine.Version). version_at vs id) (sym tree.versions) ∙ version_is t.entries id e at in
        let groups = groups_of (entry_at kin t.entries id) in
        let taken : IsTaken t.entries id (best (shares id) groups) = All-head (IsTaken t.entries id) (best (shares id) groups) (map (turned (shares id) groups) groups) (none id (version_of e) live begun) in
        let own : e.version.id ≡ id = at_entry t.entries id e at in
        subst (λ (k : ℕ). list_any (λ (w : machine.Version). is_parent k w.parent) (map version_of t.entries) ≡ true) (sym own)
        (child_there t.entries taken.0 id taken.1.0 taken.1.1 taken.1.2)

pub wide_spread : (shares : ℕ → ℕ → ℕ) (instances : ℕ) (c : Running) → IsWide shares instances c → IsSpreadOut c.plan c.bound instances c.machine
wide_spread shares instances c (inl busy) = inl busy
wide_spread shares instances c (inr (inl full)) = inr (inl full)
wide_spread shares instances c (inr (inr bare)) = inr (inr (all_have_children shares c bare.0 bare.1 bare.2))

-- enough children were made, or no more could be
pub record Ended (shares : ℕ → ℕ → ℕ) (instances : ℕ) (a c : Running) : Type 0 where
  pub went : (n batch : ℕ) → Went n batch a c
  pub goes : (n : ℕ) → Goes n a c
  pub emitted : NoneEmitted a c
  pub read : NoneRead a c
  pub settled : Settled c.plan c.machine
  pub guessed : (m : ℕ → ℕ → ℕ) → AreGuessed a.plan a.machine m shares → AreGuessed c.plan c.machine m shares
  pub breeds : Breeds shares instances a c
  pub wide : IsWide shares instances c
  pub spread_out : IsSpreadOut c.plan c.bound instances c.machine

ended_wide : (shares : ℕ → ℕ → ℕ) (instances : ℕ) (a c : Running) (busy : ℕ) → Bred shares instances a c busy → IsWide shares instances c → Ended shares instances a c
ended_wide shares instances a c busy here wide = record {
  went = here.went;
  goes = here.goes;
  emitted = here.emitted;
  read = here.read;
  settled = here.settled;
  guessed = here.guessed;
  breeds = here.breeds c (enough c wide);
  wide = wide;
  spread_out = wide_spread shares instances c wide;
}

pub ended_busy : (shares : ℕ → ℕ → ℕ) (instances : ℕ) (a c : Running) (busy : ℕ) → Bred shares instances a c busy → instances < busy → Ended shares instances a c
ended_busy shares instances a c busy here most =
    let all : instances + 1 ≤ busy_count c.plan c.bound c.machine = let is = here.busy_is in omega arith in
    ended_wide shares instances a c busy here (inl all)

pub ended_barren : (shares : ℕ → ℕ → ℕ) (instances : ℕ) (a c d : Running) (busy : ℕ) → Bred shares instances a c busy → IsBarren shares c d → Ended shares instances a d
ended_barren shares instances a c d busy here barren =
    subst (λ (z : Running). Ended shares instances a z) (sym barren.0) (ended_wide shares instances a c busy here (inr barren.1))
