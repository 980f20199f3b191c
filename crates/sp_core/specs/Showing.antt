-- What a core shows: its tree, and its tickets.
use Rattle.std.specs.Prelude.{◌≡◌, ℕ, false, List, [], map}
use Rattle.std.specs.List.{All}
use Rattle.std.specs.List.Sorted.{IsStrictlyIncreasing}
use Rattle.sp_base.specs.Numbers.{is_among, with_numbers}
use Rattle.sp_plan.specs.declared.event.Event.{Event}
use Rattle.sp_plan.specs.declared.found.Match.{Match}
use Rattle.sp_plan.specs.declared.plan.Plan.{Plan}
use Rattle.sp_plan.specs.Same.{SamePlan}
use Rattle.sp_plan.specs.Runs.{State, matched_runs}
use Rattle.sp_plan.specs.Groups.{used_by_all}
use Rattle.sp_plan.specs.Sequential.{match_of}
use Rattle.sp_plan.specs.WindowNumbers.{first}
use Rattle.sp_match.specs.public.Matching.{Stands}
use Rattle.sp_version.specs.declared.version.Version.{Version}
use Rattle.sp_group.specs.Machine as machine
use Rattle.sp_group.specs.Machine.{Ticket, inner, is_group, out_for}
use Rattle.sp_tree.specs.Grown.{Grown, Entry, AreGrown}
use Rattle.sp_core.specs.Running.{Running}

-- the version of the machine for which an entry of the tree stands
abbrev pub version_of : Entry Version → machine.Version
version_of e = record {
  id = e.version.id;
  parent = e.version.parent;
  window = e.value.window;
  label = e.version.label;
  position = e.value.position;
  skipped = e.value.skipped.list;
  done = e.value.done;
}

-- the matches of a window's runs, which are not numbered yet
abbrev pub unnumbered : Plan → ℕ → State → List Match
unnumbered q window s = map (λ run. match_of q window (0, run)) (matched_runs s)

-- A version holds what its runs come to: a matcher that stands for them, their matches twice, and what these used; its open groups are
-- those of the runs, and its ticket is the one that is out for it.
pub record Holds (q : Plan) (events : List Event) (tickets : List Ticket) (e : Entry Version) : Type 0 where
  pub first : e.value.first ≡ first q events e.value.window
  pub plan : SamePlan e.value.matcher.plan q
  pub stands : Stands e.value.matcher (inner q events (version_of e))
  pub matches : e.value.matches.items ≡ unnumbered q e.value.window (inner q events (version_of e))
  pub copies : e.value.copies.items ≡ unnumbered q e.value.window (inner q events (version_of e))
  pub used : e.value.used.list ≡ with_numbers [] (used_by_all q (inner q events (version_of e)))
  pub out : e.value.out ≡ out_for tickets e.version.id
  pub groups : (r : ℕ) → is_among e.version.groups r ≡ is_group q (inner q events (version_of e)) r
  pub rising : IsStrictlyIncreasing e.version.groups

-- The tree has the versions of the machine, the newest first, and each holds what its runs come to.
pub record IsTreeOf (c : Running) (t : Grown Version) : Type 0 where
  pub bound : t.bound ≡ c.bound
  pub next : t.next ≡ c.machine.next_id
  pub versions : map version_of t.entries ≡ c.machine.versions
  pub grown : AreGrown t
  pub holds : All (Holds c.plan c.machine.events c.machine.tickets) t.entries

-- Nothing is read of a ticket, nor its closing.
abbrev pub IsUnread : Ticket → Type 0
IsUnread t = (t.read ≡ 0) × (t.closing_read ≡ false)

-- Nothing is read of any of these tickets.
abbrev pub AreUnread : List Ticket → Type 0
AreUnread tickets = All IsUnread tickets
