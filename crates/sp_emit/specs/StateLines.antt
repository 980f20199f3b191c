-- The lines of a state of the machine.
use Rattle.std.specs.Prelude.{ℕ, Bool, true, false, List, [], ◌∷◌, ◌++◌, length, Option, Some, None, map, codes}
use Rattle.std.specs.List.{join_by}
use Rattle.std.specs.Fmt.{decimal}
use Rattle.sp_base.specs.Commas.{list_text}
use Rattle.sp_group.specs.Seen.{StateSeen, VersionSeen, TicketSeen}

-- a number, or a dash where there is none
abbrev pub id_text : Option ℕ → List ℕ
id_text None = codes "-"
id_text (Some n) = decimal n

-- 1 where it is so, and else 0
abbrev pub truth_text : Bool → List ℕ
truth_text true = codes "1"
truth_text false = codes "0"

-- an open group: its run, and its numbers
abbrev pub group_text : ℕ × List ℕ → List ℕ
group_text group = decimal group.0 ++ codes ":" ++ list_text group.1

-- groups joined by semicolons, or a dash where there are none
abbrev pub groups_text : List (ℕ × List ℕ) → List ℕ
groups_text [] = codes "-"
groups_text (group ∷ groups) = join_by group_text (codes ";") (group ∷ groups)

-- the line of the state itself
abbrev pub head_line : StateSeen → List ℕ
head_line s =
    codes "state events=" ++ decimal s.events ++ codes " ended=" ++ truth_text s.ended ++ codes " windows=" ++ decimal s.windows
    ++ codes " finished=" ++ decimal s.finished ++ codes " live=" ++ decimal (length s.versions) ++ codes " consumed=" ++ list_text s.consumed
    ++ codes "\n"

-- the line of a live version
abbrev pub version_line : VersionSeen → List ℕ
version_line v =
    codes "v=" ++ decimal v.id ++ codes " parent=" ++ id_text v.parent ++ codes " window=" ++ decimal v.window ++ codes " label=" ++ list_text v.label
    ++ codes " position=" ++ decimal v.position ++ codes " skipped=" ++ list_text v.skipped ++ codes " done=" ++ truth_text v.done
    ++ codes " out=" ++ id_text v.out ++ codes " groups=" ++ groups_text v.groups ++ codes "\n"

-- the line of a ticket that is out
abbrev pub ticket_line : TicketSeen → List ℕ
ticket_line t =
    codes "t=" ++ decimal t.ticket ++ codes " v=" ++ decimal t.version ++ codes " first=" ++ decimal t.first ++ codes " count=" ++ decimal t.count
    ++ codes " read=" ++ decimal t.read ++ codes " snapshot=" ++ list_text t.snapshot ++ codes " closes=" ++ truth_text t.closes ++ codes "\n"

-- the lines of a state: of itself, of its versions, and of its tickets, each with its line feed
abbrev pub lines_of_state : StateSeen → List (List ℕ)
lines_of_state s = head_line s ∷ map version_line s.versions ++ map ticket_line s.tickets
