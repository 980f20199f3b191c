-- Which steps the machine refuses, and why: the first cause in the order written here.
use Rattle.std.specs.Prelude.{ℕ, ◌+◌, Bool, true, false, not, ◌&&◌, ◌||◌, List, [], ◌∷◌, length, Option, Some, None, is_some, ◌==◌, nat_lt, nat_le, find, if◌then◌else◌}
use Rattle.sp_base.specs.Limits.{event_limit}
use Rattle.sp_plan.specs.declared.plan.Plan.{Plan}
use Rattle.sp_plan.specs.Windows.{closed}
use Rattle.sp_plan.specs.WindowNumbers.{count, size}
use Rattle.sp_group.specs.declared.refusal.Refusal.{Refusal}
use Rattle.sp_group.specs.declared.refusal.Refusal.TheVariants as r
use Rattle.sp_group.specs.declared.step.Step.{Step}
use Rattle.sp_group.specs.declared.step.Step.TheVariants as s
use Rattle.sp_group.specs.Family.{is_parent}
use Rattle.sp_group.specs.Machine.{Version, Ticket, Machine, version_at, ticket_at, out_for, root_in, inner, is_group, conflict}

-- refused where this holds, and else as the rest says
abbrev pub refuse_if : Bool → Refusal → Option Refusal → Option Refusal
refuse_if true refusal rest = Some refusal
refuse_if false refusal rest = rest

-- refused where there is a number, which the refusal carries, and else as the rest says
abbrev pub refuse_for : Option ℕ → (ℕ → Refusal) → Option Refusal → Option Refusal
refuse_for (Some n) refusal rest = Some (refusal n)
refuse_for None refusal rest = rest

-- whether two lists are the same numbers
abbrev pub same_list : List ℕ → List ℕ → Bool
same_list [] [] = true
same_list [] (n ∷ ns) = false
same_list (m ∷ ms) [] = false
same_list (m ∷ ms) (n ∷ ns) = m == n && same_list ms ns

-- the child of a parent that has the label
abbrev pub child_with : List Version → ℕ → List ℕ → Option ℕ
child_with [] p label = None
child_with (v ∷ vs) p label = if is_parent p v.parent && same_list v.label label then Some v.id else child_with vs p label

-- the first run of a label that is no open group of the parent
abbrev pub not_open : Plan → Machine → Version → List ℕ → Option ℕ
not_open q m u label = find (λ r. not (is_group q (inner q m.events u) r)) label

-- the id of a version, where there is one
abbrev pub id_of : Option Version → Option ℕ
id_of None = None
id_of (Some v) = Some v.id

-- whether there is neither an unread event that was fed nor an unread closing
abbrev pub has_nothing_to_read : Plan → Machine → Version → Bool
has_nothing_to_read q m v = nat_le (size q m.events v.window) v.position && (v.done || nat_lt (closed q m.events m.ended) v.window)

-- a root is refused where one is live, where its window is not there, and where the label is not empty
abbrev pub root_refusal : Plan → Machine → List ℕ → Option Refusal
root_refusal q m label =
    refuse_for (id_of (root_in m.versions)) r.LabelTaken
    (refuse_if (nat_lt (count q m.events) (m.finished + 1)) (r.NoWindow (m.finished + 1))
    (refuse_for (find (λ _. true) label) r.NotOpen None))

-- a child is refused where the parent is not live, the next window is not there, a run of the label is no open group of the parent, the
-- parent has a child of that label, and where as many versions are live as the bound allows
abbrev pub child_refusal : Plan → ℕ → Machine → ℕ → List ℕ → Option Version → Option Refusal
child_refusal q bound m p label None = Some (r.NotLive p)
child_refusal q bound m p label (Some u) =
    refuse_if (nat_lt (count q m.events) (u.window + 1)) (r.NoWindow (u.window + 1))
    (refuse_for (not_open q m u label) r.NotOpen
    (refuse_for (child_with m.versions p label) r.LabelTaken
    (refuse_if (nat_le bound (length m.versions)) (r.Full (length m.versions) bound) None)))

abbrev pub spawn_refusal : Plan → ℕ → Machine → Option ℕ → List ℕ → Option Refusal
spawn_refusal q bound m None label = root_refusal q m label
spawn_refusal q bound m (Some p) label = child_refusal q bound m p label (version_at m.versions p)

-- a lease is refused where the version is not live, a ticket is out for it, it is in conflict, and where there is nothing to read
abbrev pub lease_refusal : Plan → Machine → ℕ → Option Version → Option Refusal
lease_refusal q m id None = Some (r.NotLive id)
lease_refusal q m id (Some v) =
    refuse_for (out_for m.tickets v.id) r.Out
    (refuse_for (conflict q m v) r.Conflict
    (refuse_if (has_nothing_to_read q m v) (r.NothingToRead v.position) None))

-- whether all that was lent has been read
abbrev pub is_read_whole : Ticket → Bool
is_read_whole t = nat_le t.count t.read && (t.closing_read || not t.closes)

-- a reading is refused where the ticket is not out, and where all that was lent has been read
abbrev pub event_refusal : ℕ → Option Ticket → Option Refusal
event_refusal n None = Some (r.NoTicket n)
event_refusal n (Some t) = refuse_if (is_read_whole t) (r.NothingToRead t.read) None

abbrev pub return_refusal : ℕ → Option Ticket → Option Refusal
return_refusal n None = Some (r.NoTicket n)
return_refusal n (Some t) = None

-- a roll is refused where the version is not live, and where it is in no conflict
abbrev pub roll_refusal : Plan → Machine → ℕ → Option Version → Option Refusal
roll_refusal q m id None = Some (r.NotLive id)
roll_refusal q m id (Some v) = refuse_if (not (is_some (conflict q m v))) (r.NoConflict id) None

-- a finish is refused where there is no root, and where it is not done
abbrev pub finish_refusal : Machine → Option Version → Option Refusal
finish_refusal m None = Some (r.NotDone m.finished)
finish_refusal m (Some v) = refuse_if (not v.done) (r.NotDone m.finished) None

-- why a step is refused, if it is
abbrev pub refusal : Plan → ℕ → Machine → Step → Option Refusal
refusal q bound m (s.Feed e) =
    refuse_if m.ended r.AfterEnd (refuse_if (nat_le event_limit (length m.events)) (r.TooManyEvents event_limit) None)
refusal q bound m s.End = refuse_if m.ended r.AfterEnd None
refusal q bound m (s.Spawn parent label) = spawn_refusal q bound m parent label
refusal q bound m (s.Lease id n) = lease_refusal q m id (version_at m.versions id)
refusal q bound m (s.Event n) = event_refusal n (ticket_at m.tickets n)
refusal q bound m (s.Return n) = return_refusal n (ticket_at m.tickets n)
refusal q bound m (s.Roll id) = roll_refusal q m id (version_at m.versions id)
refusal q bound m s.Finish = finish_refusal m (root_in m.versions)
