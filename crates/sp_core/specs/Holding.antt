-- What a core keeps, and for which state of the machine it stands.
use Rattle.std.specs.Prelude.{◌≡◌, ℕ, ◌+◌, ◌≤◌, Bool, List, map, length}
use Rattle.std.specs.List.{All, AllZip}
use Rattle.std.specs.Arc.{arc_value}
use Rattle.sp_base.specs.Limits.{live_limit}
use Rattle.sp_base.specs.Numbers.{NumberList}
use Rattle.sp_plan.specs.declared.event.Event.{Event}
use Rattle.sp_plan.specs.declared.found.Match.{Match}
use Rattle.sp_plan.specs.declared.plan.Plan.{Plan}
use Rattle.sp_plan.specs.Compiled.{IsCompiled}
use Rattle.sp_window.specs.Standing as window
use Rattle.sp_match.specs.declared.known.Known.{Known}
use Rattle.sp_match.specs.public.Known.{IsKnown}
use Rattle.sp_version.specs.declared.version.Version.{Version}
use Rattle.sp_group.specs.declared.step.Entry as step
use Rattle.sp_group.specs.Machine.{Machine, opening}
use Rattle.sp_group.specs.Steps.{steps}
use Rattle.sp_tree.specs.Grown.{Grown, AreGrown}
use Rattle.sp_rules.specs.Schedules.{Fits}
use Rattle.sp_core.specs.declared.machine.Core.TheInside.{Inside}
use Rattle.sp_core.specs.declared.lent.Lent.{Lent}
use Rattle.sp_core.specs.declared.news.News.{News}
use Rattle.sp_core.specs.Running.{Running, flat}
use Rattle.sp_core.specs.Carrying.{ticket_of}
use Rattle.sp_core.specs.News.{AreNew}
use Rattle.sp_core.specs.Rooms.{room, entries_owed, matches_held, numbers_held}
pub use Rattle.sp_core.specs.Showing.{Holds, unnumbered, version_of}

-- the values of what a core keeps; the tickets with the newest first; the rooms are how many entries and matches more can be taken in
-- without memory
pub record Holding : Type 0 where
  pub plan : Plan
  pub events : List Event
  pub known : List Known
  pub windows : window.Kept
  pub ended : Bool
  pub finished : ℕ
  pub emitted : List Match
  pub consumed : NumberList
  pub tree : Grown Version
  pub tickets : List Lent
  pub next_ticket : ℕ
  pub journal : List step.Entry
  pub news : List News
  pub journal_room : ℕ
  pub emitted_room : ℕ

abbrev pub holding : Inside → Holding
holding c = record {
  plan = arc_value c.plan;
  events = c.events.items;
  known = c.known.items;
  windows = c.windows;
  ended = c.ended;
  finished = c.finished;
  emitted = c.emitted.items;
  consumed = c.consumed;
  tree = c.tree;
  tickets = c.tickets.items;
  next_ticket = c.next_ticket;
  journal = c.journal.items;
  news = c.news.items;
  journal_room = room c.journal;
  emitted_room = room c.emitted;
}

-- the state of the machine for which a core stands
abbrev pub machine_of : Holding → Machine
machine_of h = record {
  events = h.events;
  ended = h.ended;
  finished = h.finished;
  emitted = h.emitted;
  consumed = h.consumed.list;
  versions = map version_of h.tree.entries;
  tickets = map ticket_of h.tickets;
  next_id = h.tree.next;
  next_ticket = h.next_ticket;
}

abbrev pub running : Holding → Running
running h = record { plan = h.plan; bound = h.tree.bound; machine = machine_of h; journal = h.journal }

-- The journal's steps could be taken one after another, and lead to the state of the machine.
pub record IsReplayed (h : Holding) : Type 0 where
  pub fits : Fits h.plan h.tree.bound opening (flat h.journal)
  pub leads : steps h.plan h.tree.bound opening (flat h.journal) ≡ machine_of h
  pub ids : h.tree.next ≤ length h.journal + 1
  pub tickets : h.next_ticket ≤ length h.journal + 1

-- The end of input, rolls and finishes have their rooms.
pub record HasRooms (h : Holding) : Type 0 where
  pub entries : entries_owed h.ended h.tree.entries ≤ h.journal_room
  pub matches : matches_held h.tree.entries ≤ h.emitted_room
  pub numbers : numbers_held h.tree.entries ≤ h.consumed.spare

-- what every core keeps
pub record IsCore (h : Holding) : Type 0 where
  pub compiled : IsCompiled h.plan
  pub known_are : AllZip (IsKnown h.plan) h.events h.known
  pub some : 1 ≤ h.tree.bound
  pub most : h.tree.bound ≤ live_limit
  pub windows_plan : h.windows.plan ≡ h.plan
  pub windows : window.Stands h.windows h.events h.ended
  pub grown : AreGrown h.tree
  pub versions : All (Holds h.plan h.events (map ticket_of h.tickets)) h.tree.entries
  pub replayed : IsReplayed h
  pub news_are : AreNew h.plan (machine_of h) h.news
  pub rooms : HasRooms h
