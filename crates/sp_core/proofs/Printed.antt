-- What a core keeps, and its state as it is printed.
use Rattle.std.proofs.Common.{◌≡◌, ℕ, ◌<◌, ◌+◌, Bool, true, false, cond, List, [], ◌∷◌, ◌++◌, length, get_or, take, map, filter, Option, Some, None, refl, sym, ap, subst, ◌∙◌}
use Rattle.std.specs.Prelude.{reverse}
use Rattle.std.specs.List.{All, filter_map}
use Rattle.std.specs.Option.{option_map, option_to_list}
use Rattle.std.proofs.lemmas.List.{map-append, reverse-append, take_more}
use Rattle.std.proofs.lemmas.List.Elements.{All-head, All-tail, filter_map-append}
use Rattle.sp_plan.specs.declared.plan.Plan.{Plan}
use Rattle.sp_plan.specs.Runs as runs
use Rattle.sp_plan.specs.Runs.{Started, State, used}
use Rattle.sp_plan.specs.Same.{SamePlan}
use Rattle.sp_plan.specs.Windows.{windows}
use Rattle.sp_plan.specs.WindowNumbers.{count}
use Rattle.sp_match.specs.declared.run.Run.{Run}
use Rattle.sp_match.specs.public.Matching.{Matching, Shown, runs_of, shown}
use Rattle.sp_match.specs.public.Seen.{seen_run}
use Rattle.sp_version.specs.declared.version.Version.{Version}
use Rattle.sp_group.specs.Family.{entry_at}
use Rattle.sp_group.specs.Machine.{Machine, inner}
use Rattle.sp_group.specs.Rising.{has_number}
use Rattle.sp_group.specs.declared.state.VersionLine.{VersionLine}
use Rattle.sp_group.specs.Seen.{StateSeen, VersionSeen, open_groups, seen_version, state_seen, version_seen}
use Rattle.sp_tree.specs.Grown.{Grown, Entry, FallFrom, kin, label_of, parent_of, value_of}
use Rattle.sp_core.specs.Holding.{Holding, Holds, IsCore, machine_of, version_of}
use Rattle.sp_core.specs.Printing.{entry_seen, groups_held, groups_in, lent_seen, line_at, tree_seen}
use Rattle.sp_core.proofs.Alike.{used_alike}
use Rattle.sp_core.proofs.Counts.{count_is}
use Rattle.sp_core.proofs.Entries.{all_found}
use Rattle.sp_core.proofs.Owner.{has_id}

-- ---- groups

-- a run that is shown, by its number, with the numbers that it holds for consumption
abbrev holds_numbers : Shown → Bool
holds_numbers one = has_number one.2

abbrev group_of : Shown → ℕ × List ℕ
group_of one = (one.0, one.2)

-- the groups of runs that are shown
abbrev shown_groups : List Shown → List (ℕ × List ℕ)
shown_groups ones = map group_of (filter holds_numbers ones)

by_shown : {X : Type 0} (f : X → Shown) (xs : List X) → map (λ x. group_of (f x)) (filter (λ x. holds_numbers (f x)) xs) ≡ shown_groups (map f xs)
by_shown f [] = refl
by_shown {X} f (x ∷ xs) = one (holds_numbers (f x)) (by_shown f xs)
  where
    one : (b : Bool) → map (λ x. group_of (f x)) (filter (λ x. holds_numbers (f x)) xs) ≡ shown_groups (map f xs)
        → map (λ (x : X). group_of (f x)) (cond b (x ∷ filter (λ x. holds_numbers (f x)) xs) (filter (λ x. holds_numbers (f x)) xs))
        ≡ map group_of (cond b (f x ∷ filter holds_numbers (map f xs)) (filter holds_numbers (map f xs)))
    one true rest = ap (λ (l : List (ℕ × List ℕ)). group_of (f x) ∷ l) rest
    one false rest = rest

-- the runs that a matcher shows have its groups
pub groups_shown : (m : Matching) (rs : List Run) → map seen_run rs ≡ map (shown m.plan) m.open_runs → groups_in rs ≡ groups_held m
groups_shown m rs same = by_shown seen_run rs ∙ ap shown_groups same ∙ sym (by_shown (shown m.plan) m.open_runs)

-- groups under plans that are one but for addresses
groups_alike : (p q : Plan) → SamePlan p q → (s : State) → open_groups p s ≡ open_groups q s
groups_alike p q same s =
    let uses : used p ≡ used q = λ i run. used_alike p q same run i in
    ap (λ (u : runs.Run → List ℕ). map (λ (run : Started). (run.0, u run.1)) (filter (λ (run : Started). has_number (u run.1)) s.open_runs)) uses

-- ---- lists

pub map_reversed : {X Y : Type 0} (f : X → Y) (xs : List X) → map f (reverse xs) ≡ reverse (map f xs)
map_reversed f [] = refl
map_reversed {Y = Y} f (x ∷ xs) =
    ap (map f) (reverse-append (x ∷ []) xs) ∙ map-append f (reverse xs) (x ∷ []) ∙ ap (λ (ys : List Y). ys ++ f x ∷ []) (map_reversed f xs)
    ∙ sym (reverse-append (f x ∷ []) (map f xs))

-- what is given for each is what another function gives of what stands for it
each_alike : {X Y Z : Type 0} (f : X → Z) (g : Y → Z) (h : X → Y) (xs : List X) → All (λ x. f x ≡ g (h x)) xs → map f xs ≡ map g (map h xs)
each_alike f g h [] all = refl
each_alike f g h (x ∷ xs) all = (λ i. All-head (λ x. f x ≡ g (h x)) x xs all i ∷ each_alike f g h xs (All-tail (λ x. f x ≡ g (h x)) x xs all) i)

-- ---- versions

-- each entry is that of its id
own_entries : (top : ℕ) (es : List (Entry Version)) → FallFrom top es → All (λ x. entry_at kin es x.version.id ≡ Some x) es
own_entries top es fall =
    all_found (λ x. entry_at kin es x.version.id ≡ Some x) top es fall
    (λ id e at. subst (λ (n : ℕ). entry_at kin es n ≡ Some e) (sym (has_id id es e at)) at)

-- what is found under ids, from the last to the first
found_back : (at : ℕ → Option (Entry Version)) (es : List (Entry Version)) → All (λ x. at x.version.id ≡ Some x) es
    → filter_map (λ id. option_map entry_seen (at id)) (reverse (map (λ e. e.version.id) es)) ≡ reverse (map entry_seen es)
found_back at [] all = refl
found_back at (e ∷ es) all =
    let ids = map (λ (e : Entry Version). e.version.id) es in
    let rest = found_back at es (All-tail (λ x. at x.version.id ≡ Some x) e es all) in
    let here = All-head (λ x. at x.version.id ≡ Some x) e es all in
    ap (filter_map (λ id. option_map entry_seen (at id))) (reverse-append (e.version.id ∷ []) ids)
    ∙ filter_map-append (λ id. option_map entry_seen (at id)) (reverse ids) (e.version.id ∷ [])
    ∙ (λ i. rest i ++ filter_map (λ (o : Option (Entry Version)). option_map entry_seen o) (here i ∷ []))
    ∙ sym (reverse-append (entry_seen e ∷ []) (map entry_seen es))

-- what is found under all ids of a tree
pub by_ids : (t : Grown Version) → FallFrom t.next t.entries → filter_map (line_at t) (reverse (map (λ e. e.version.id) t.entries)) ≡ tree_seen t
by_ids t fall = found_back (entry_at kin t.entries) t.entries (own_entries t.next t.entries fall)

-- an entry of a core is printed as the version for which it stands
entry_is : (q : Plan) (m : Machine) (e : Entry Version) → Holds q m.events m.tickets e → entry_seen e ≡ version_seen q m (version_of e)
entry_is q m e holds =
    let held = e.value.matcher in
    let s = inner q m.events (version_of e) in
    let groups : groups_held held ≡ open_groups q s =
    groups_alike held.plan q holds.plan (runs_of held)
    ∙ ap (λ (rs : List Started). map (λ (run : Started). (run.0, used q run.1)) (filter (λ (run : Started). has_number (used q run.1)) rs)) holds.stands.open_is in
    (λ i. record {
      id = e.version.id;
      parent = e.version.parent;
      window = e.value.window;
      label = e.version.label;
      position = e.value.position;
      skipped = e.value.skipped.list;
      done = e.value.done;
      out = holds.out i;
      groups = groups i;
    })

-- and so are all, the oldest first
pub entries_are : (h : Holding) → IsCore h → tree_seen h.tree ≡ reverse (map (version_seen h.plan (machine_of h)) (machine_of h).versions)
entries_are h core =
    let m = machine_of h in
    ap reverse (each_alike entry_seen (version_seen h.plan m) version_of h.tree.entries
    (λ k d inside. entry_is h.plan m (get_or h.tree.entries k d) (core.versions k d inside)))

-- the line of a version, of these copies
abbrev line_of : ℕ → Option ℕ → Version → List ℕ → List ℕ → List (ℕ × List ℕ) → VersionSeen
line_of id parent held copied skipped groups = record {
  id = id;
  parent = parent;
  window = held.window;
  label = copied;
  position = held.position;
  skipped = skipped;
  done = held.done;
  out = held.out;
  groups = groups;
}

-- the line of a version that is found
pub line_is : (es : List (Entry Version)) (id : ℕ) (held : Version) (label copied skipped : List ℕ) (parent : Option ℕ) (groups : List (ℕ × List ℕ))
    → Some label ≡ label_of (entry_at kin es id) → Some held ≡ value_of (entry_at kin es id) → parent ≡ parent_of (entry_at kin es id)
    → copied ≡ label → skipped ≡ held.skipped.list → groups ≡ groups_held held.matcher
    → Some (line_of id parent held copied skipped groups) ≡ option_map entry_seen (entry_at kin es id)
line_is es id held label copied skipped parent groups labelled holds below same passed grouped = one (entry_at kin es id) refl labelled holds below
  where
    one : (o : Option (Entry Version)) → entry_at kin es id ≡ o → Some label ≡ label_of o → Some held ≡ value_of o → parent ≡ parent_of o
        → Some (line_of id parent held copied skipped groups) ≡ option_map entry_seen o
    one None is l v p = absurd (cc)
    one (Some e) is l v p =
        let own : e.version.id ≡ id = has_id id es e is in
        let value : held ≡ e.value = cc in
        let label' : copied ≡ e.version.label = cc in
        let skipped' : skipped ≡ e.value.skipped.list = passed ∙ ap (λ (v : Version). v.skipped.list) value in
        let groups' : groups ≡ groups_held e.value.matcher = grouped ∙ ap (λ (v : Version). groups_held v.matcher) value in
        (λ i. Some (record {
          id = sym own i;
          parent = p i;
          window = (value i).window;
          label = label' i;
          position = (value i).position;
          skipped = skipped' i;
          done = (value i).done;
          out = (value i).out;
          groups = groups' i;
        }))

-- lines, and that of one id more
pub found_more : (t : Grown Version) (ids : List ℕ) (i : ℕ) (lines after : List VersionLine) (line : Option VersionLine) → i < length ids
    → map seen_version lines ≡ filter_map (line_at t) (take i ids) → option_map seen_version line ≡ line_at t (get_or ids i 0) → after ≡ lines ++ option_to_list line
    → map seen_version after ≡ filter_map (line_at t) (take (i + 1) ids)
found_more t ids i lines after line inside so_far there now =
    ap (map seen_version) now ∙ map-append seen_version lines (option_to_list line) ∙ (λ k. so_far k ++ given line k)
    ∙ ap (λ (o : Option VersionSeen). filter_map (line_at t) (take i ids) ++ filter_map (λ (o : Option VersionSeen). o) (o ∷ [])) there
    ∙ sym (filter_map-append (line_at t) (take i ids) (get_or ids i 0 ∷ [])) ∙ ap (filter_map (line_at t)) (sym (take_more ids i 0 inside))
  where
    given : (o : Option VersionLine) → map seen_version (option_to_list o) ≡ filter_map (λ (o : Option VersionSeen). o) (option_map seen_version o ∷ [])
    given None = refl
    given (Some v) = refl

-- the whole state
pub state_is : (h : Holding) → IsCore h → (s : StateSeen) → s.events ≡ length h.events → s.ended ≡ h.ended → s.windows ≡ length (windows h.windows.plan h.events h.ended)
    → s.finished ≡ h.finished → s.emitted ≡ length h.emitted → s.consumed ≡ h.consumed.list → s.versions ≡ tree_seen h.tree
    → s.tickets ≡ lent_seen h.tickets → s ≡ state_seen h.plan (machine_of h)
state_is h core s events ended opened finished emitted consumed versions tickets =
    let count : s.windows ≡ count h.plan h.events =
    opened ∙ ap (λ (q : Plan). length (windows q h.events h.ended)) core.windows_plan ∙ count_is h.plan h.events h.ended in
    let all : s.versions ≡ reverse (map (version_seen h.plan (machine_of h)) (machine_of h).versions) = versions ∙ entries_are h core in
    (λ i. record {
      events = events i;
      ended = ended i;
      windows = count i;
      finished = finished i;
      emitted = emitted i;
      consumed = consumed i;
      versions = all i;
      tickets = tickets i;
    })
