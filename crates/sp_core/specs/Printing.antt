-- What a core keeps, as it is printed.
use Rattle.std.specs.Prelude.{ℕ, List, Option, map, filter, reverse}
use Rattle.std.specs.Option.{option_map}
use Rattle.sp_group.specs.Family.{entry_at}
use Rattle.sp_group.specs.Rising.{has_number}
use Rattle.sp_group.specs.Seen.{VersionSeen, TicketSeen, open_groups, ticket_seen}
use Rattle.sp_match.specs.declared.run.Run.{Run}
use Rattle.sp_match.specs.public.Matching.{Matching, runs_of}
use Rattle.sp_tree.specs.Grown.{Grown, Entry, kin}
use Rattle.sp_version.specs.declared.version.Version.{Version}
use Rattle.sp_core.specs.declared.lent.Lent.{Lent}
use Rattle.sp_core.specs.Carrying.{ticket_of}

-- the open groups of a matcher, by run
abbrev pub groups_held : Matching → List (ℕ × List ℕ)
groups_held m = open_groups m.plan (runs_of m)

-- those of these runs
abbrev pub groups_in : List Run → List (ℕ × List ℕ)
groups_in runs = map (λ run. (run.number, run.used.list)) (filter (λ run. has_number run.used.list) runs)

-- a version of the tree
abbrev pub entry_seen : Entry Version → VersionSeen
entry_seen e = record {
  id = e.version.id;
  parent = e.version.parent;
  window = e.value.window;
  label = e.version.label;
  position = e.value.position;
  skipped = e.value.skipped.list;
  done = e.value.done;
  out = e.value.out;
  groups = groups_held e.value.matcher;
}

-- that of an id, where it is live
abbrev pub line_at : Grown Version → ℕ → Option VersionSeen
line_at t id = option_map entry_seen (entry_at kin t.entries id)

-- all of them, the oldest first
abbrev pub tree_seen : Grown Version → List VersionSeen
tree_seen t = reverse (map entry_seen t.entries)

-- what went out, the oldest first
abbrev pub lent_seen : List Lent → List TicketSeen
lent_seen tickets = reverse (map ticket_seen (map ticket_of tickets))
